-- Scopes, body by body.
use Rattle.std.proofs.Common.{◌≡◌, ◌∙◌, ℕ, zero, suc, ◌+◌, ◌<◌, ◌≤◌, List, [], ◌∷◌, length, get_or, drop, take, slice_get, None, Some, option_map, refl, sym, ap, subst, arith}
use Rattle.std.specs.Option.{option_or}
use Rattle.rdl_tree.specs.declared.item.Def.{Def}
use Rattle.rdl_tree.specs.declared.item.Item.{Item}
use Rattle.rdl_values.specs.Bodies.{Closure, Layer, Scope, around, closure_in, component, found, standing}
use Rattle.rdl_values.specs.Chained.{chained}
use Rattle.rdl_values.specs.Values.{Names, nearest}
use Rattle.rdl_values.specs.Views as view
use Rattle.rdl_values.specs.Views.{item_is}
use Rattle.rdl_failures.specs.Shown.{IsAlike}
use Rattle.rdl_scopes.specs.declared.components.Components.{Components}
use Rattle.rdl_scopes.specs.Scopes.{IsClosureAt, Shows, Stands, items_at}
use Rattle.rdl_scopes.specs.declared.scopes.Found.{Found}
use Rattle.plain_lemmas.proofs.Lists.{get-at}

module _ (ts : List Names) (cs : List Components) where
  -- the scope from a body on
  pub record ShowsFrom (i : ℕ) (ks ps : List ℕ) (scope : Scope) (k : ℕ) : Type 0 where
    pub upto : ℕ
    pub layer : Layer
    pub upto_is : slice_get ps i ≡ Some upto
    pub scope_is : drop i scope ≡ layer ∷ drop (suc i) scope
    pub before : layer.before ≡ take upto (items_at cs k)
    pub numbers_are : drop i ks ≡ k ∷ drop (suc i) ks
    pub alike : IsAlike (chained ts (drop i ks)) (around (drop i scope))
    pub outer : Shows ts cs (drop (suc i) ks) (drop (suc i) ps) (drop (suc i) scope)

  pub shows_from : (i : ℕ) (ks ps : List ℕ) (scope : Scope) (d : ℕ) → i < length ks → Shows ts cs ks ps scope → ShowsFrom i ks ps scope (get_or ks i d)
  shows_from i [] ps scope d l h = absurd (omega (arith, l))
  shows_from zero (k ∷ ks) (p ∷ ps) (x ∷ xs) d l h = record { upto = p; layer = x; upto_is = refl; scope_is = refl; before = h.0; numbers_are = refl; alike = h.1; outer = h.2 }
  shows_from (suc i) (k ∷ ks) (p ∷ ps) (x ∷ xs) d l h =
      let r = shows_from i ks ps xs d (omega (arith, l)) h.2 in
      record { upto = r.upto; layer = r.layer; upto_is = r.upto_is; scope_is = r.scope_is; before = r.before; numbers_are = r.numbers_are; alike = r.alike; outer = r.outer }
  shows_from i (k ∷ ks) [] scope d l h = absurd h
  shows_from i (k ∷ ks) (p ∷ ps) [] d l h = absurd h

  pub shows_none : (ks ps : List ℕ) (scope : Scope) (i : ℕ) → length ks ≤ i → Shows ts cs ks ps scope → drop i scope ≡ []
  shows_none [] [] [] zero l h = refl
  shows_none [] [] [] (suc i) l h = refl
  shows_none [] [] (x ∷ xs) i l h = absurd h
  shows_none [] (p ∷ ps) scope i l h = absurd h
  shows_none (k ∷ ks) ps scope zero l h = absurd (omega (arith, l))
  shows_none (k ∷ ks) [] scope (suc i) l h = absurd h
  shows_none (k ∷ ks) (p ∷ ps) [] (suc i) l h = absurd h
  shows_none (k ∷ ks) (p ∷ ps) (x ∷ xs) (suc i) l h = shows_none ks ps xs i (omega (arith, l)) h.2

-- the component that a name means, from a body on
pub component_here : (n : List ℕ) (l : Layer) (outer : Scope) (f : List Item × Def) → nearest (found n) (standing l.before) ≡ Some f → component n (l ∷ outer) ≡ Some (closure_in l outer f)
component_here n l outer f e = ap (λ o. option_or (option_map (closure_in l outer) o) (component n outer)) e

pub component_behind : (n : List ℕ) (l : Layer) (outer : Scope) → nearest (found n) (standing l.before) ≡ None → component n (l ∷ outer) ≡ component n outer
component_behind n l outer e = ap (λ o. option_or (option_map (closure_in l outer) o) (component n outer)) e

module _ (ts : List Names) (cs : List Components) (ks ps : List ℕ) (scope : Scope) (shown : Shows ts cs ks ps scope) (n : List ℕ) (i d : ℕ) (l : i < length ks) (so_far : component n scope ≡ component n (drop i scope)) where
  -- no body has one where none is left
  pub cut_off : slice_get ps i ≡ None → ⊥
  cut_off e = let h = shows_from ts cs i ks ps scope d l shown in let no : Some h.upto ≡ None = sym h.upto_is ∙ e in cc

  pub found_there : (u : ℕ) (f : Found) → slice_get ps i ≡ Some u → f.level ≡ i
      → nearest (found n) (standing (take u (items_at cs (get_or ks i d)))) ≡ Some (take f.position (items_at cs (get_or ks i d)), f.def.now) → (c : Closure) × (component n scope ≡ Some c) × IsClosureAt ts cs ks ps f c
  found_there u f e at hit =
      let h = shows_from ts cs i ks ps scope d l shown in
      let k = get_or ks i d in
      let same : Some h.upto ≡ Some u = sym h.upto_is ∙ e in
      let u-is : h.upto ≡ u = cc in
      let before : h.layer.before ≡ take u (items_at cs k) = h.before ∙ ap (λ u. take u (items_at cs k)) u-is in
      let outer = drop (suc i) scope in
      let here = component_here n h.layer outer _ (ap (λ b. nearest (found n) (standing b)) before ∙ hit) in
      let c = closure_in h.layer outer (take f.position (items_at cs k), f.def.now) in
      let alike : IsAlike (chained ts (k ∷ drop (suc i) ks)) (around (h.layer ∷ outer)) = subst (λ xs. IsAlike (chained ts xs) (around (h.layer ∷ outer))) h.numbers_are (subst (λ xs. IsAlike (chained ts (drop i ks)) (around xs)) h.scope_is h.alike) in
      let plain : Shows ts cs (k ∷ drop (suc i) ks) (f.position ∷ drop (suc i) ps) c.scope = (refl, alike, h.outer) in
      let numbers = subst (λ xs. Shows ts cs xs (f.position ∷ drop (suc i) ps) c.scope) (sym h.numbers_are) plain in
      let next : suc i ≡ f.level + 1 = omega (arith, at) in
      let level : drop (suc i) ps ≡ drop (f.level + 1) ps = ap (λ j. drop j ps) next in (
        c,
        so_far ∙ ap (component n) h.scope_is ∙ here,
        record {
          def = refl;
          shown = subst (λ j. Shows ts cs (drop j ks) (f.position ∷ drop (f.level + 1) ps) c.scope) (sym at) (subst (λ xs. Shows ts cs (drop i ks) (f.position ∷ xs) c.scope) level numbers);
        },
      )

  pub not_there : (u : ℕ) → slice_get ps i ≡ Some u → nearest (found n) (standing (take u (items_at cs (get_or ks i d)))) ≡ None → component n scope ≡ component n (drop (i + 1) scope)
  not_there u e miss =
      let h = shows_from ts cs i ks ps scope d l shown in
      let same : Some h.upto ≡ Some u = sym h.upto_is ∙ e in
      let u-is : h.upto ≡ u = cc in
      let before : h.layer.before ≡ take u (items_at cs (get_or ks i d)) = h.before ∙ ap (λ u. take u (items_at cs (get_or ks i d))) u-is in
      let next : suc i ≡ i + 1 = omega arith in
      so_far ∙ ap (component n) h.scope_is ∙ component_behind n h.layer (drop (suc i) scope) (ap (λ b. nearest (found n) (standing b)) before ∙ miss) ∙ ap (λ j. component n (drop j scope)) next

-- what was found at a level stands there
pub stands_at : (cs : List Components) (ks : List ℕ) (f : Found) (d : ℕ) → f.level < length ks → (i : Item) × (slice_get (items_at cs (get_or ks f.level d)) f.position ≡ Some i) × (item_is i ≡ view.definition f.def.now) → Stands cs ks f
stands_at cs ks f d l h = record {
  number = get_or ks f.level d;
  item = h.0;
  body = get-at ks f.level d l;
  there = h.1;
  is = h.2;
}
