-- Texts that are found, and new ones.
use Rattle.std.proofs.Common.{◌≡◌, ◌∙◌, ℕ, List, [], ◌∷◌, ◌++◌, length, slice_get, Option, None, Some, IfSome, option_map, true, arith, Result, Ok, Err, IfOk, OnOk, refl, sym, ap, subst, ◌⊎◌, inl, inr}
use Rattle.plain_lemmas.proofs.Lists.{get-last as get_next, get-not_none as within-some}
use Rattle.rdl_base.specs.declared.fault.Fault.{Fault}
use Rattle.rdl_tree.specs.declared.item.Def.{Def}
use Rattle.rdl_tree.specs.declared.item.Item.{Item}
use Rattle.rdl_tree.specs.declared.item.Param.{Param}
use Rattle.rdl_values.specs.Bodies as values
use Rattle.rdl_values.specs.Phase3.{of_enums, twice_defined}
use Rattle.rdl_failures.specs.Noted.{Holds, with_all}
use Rattle.rdl_failures.proofs.Sets.{held, holds-both, holds-left, holds-right, put_before, with_all-append}
use Rattle.rdl_scopes.specs.Closed.{AreClosedOf, AreJudged}
use Rattle.rdl_scopes.specs.Named.{AreComponents}
use Rattle.rdl_bodies.specs.Kept.{AreBelow, AreKept, Begins, IsPlacedIn, IsSite, IsTextIn, StandsIn, of_names, parts_of}
use Rattle.rdl_bodies.specs.Opened.{IsOpened}
use Rattle.rdl_bodies.specs.Sited.{component_at, def_at}
use Rattle.rdl_bodies.specs.Steady.{AreFixed}
use Rattle.rdl_bodies.specs.Texts.{AreSame, HasText, IsPlaced, place_in}
use Rattle.rdl_bodies.specs.declared.bodies.Bodies.{Bodies}
use Rattle.rdl_bodies.specs.declared.bodies.Body.{Body}
use Rattle.rdl_bodies.specs.declared.bodies.Site.{Site}
use Rattle.rdl_bodies.specs.declared.bodies.Text.{Text}
use Rattle.rdl_bodies.specs.declared.bodies.TextPlace.{TextPlace}
use Rattle.rdl_bodies.proofs.Adding.{grown_same, kept_same, placed_stays, text_stays}
use Rattle.rdl_bodies.proofs.Growing.{get_either, grows_on}

-- The place of a site's text.

abbrev place-at : ℕ → Body → TextPlace
place-at p x = record { outer = x.text; upto = p }

placed-by : (t : Bodies) (held : List Fault) (ks ps : List ℕ) (d : Def) → AreKept t held → def_at t.components.items ks ps ≡ Some d → IsPlaced t (place_in t ks ps) d.items.now d.params.now
placed-by t held [] ps d inv e = tt
placed-by t held (k ∷ ks) [] d inv e = tt
placed-by t held (k ∷ ks) (p ∷ ps) d inv e = go (slice_get t.list.items k) refl
  where
    go : (o : Option Body) → slice_get t.list.items k ≡ o → IsPlaced t (option_map (place-at p) o) d.items.now d.params.now
    go None q = tt
    go (Some x) q =
        let body = inv.bodies k x q in
        let text = body.text_is in
        let defined : component_at text.text.items.now p ≡ Some d = ap (λ is. component_at is p) (text.items_are ∙ sym body.items_are) ∙ e in
        (text.text, text.here, ap (option_map parts_of) defined)

pub placed_at : (t : Bodies) (held : List Fault) (s : Site) (o : Option TextPlace) → AreKept t held → IsSite t s → o ≡ place_in t s.outer.now s.uptos.now → IsPlaced t o s.def.now.items.now s.def.now.params.now
placed_at t held s o inv site e = subst (λ p. IsPlaced t p s.def.now.items.now s.def.now.params.now) (sym e) (placed-by t held s.outer.now s.uptos.now s.def.now inv site.defined)

stands-by : (t : Bodies) (held : List Fault) (ks ps : List ℕ) (d : Def) → AreKept t held → AreBelow (length t.tables.items) ks → def_at t.components.items ks ps ≡ Some d → StandsIn t.list.items ks (place_in t ks ps)
stands-by t held [] ps d inv low e = tt
stands-by t held (k ∷ ks) [] d inv low e = cc
stands-by t held (k ∷ ks) (p ∷ ps) d inv low e = go (slice_get t.list.items k) refl
  where
    go : (o : Option Body) → slice_get t.list.items k ≡ o → StandsIn t.list.items (k ∷ ks) (option_map (place-at p) o)
    go None q = let l = low.0 in let n = inv.list in absurd (within-some t.list.items k (omega (arith, l, n)) q)
    go (Some x) q = (x, q, refl)

pub stands_at : (t : Bodies) (held : List Fault) (s : Site) (o : Option TextPlace) → AreKept t held → IsSite t s → o ≡ place_in t s.outer.now s.uptos.now → StandsIn t.list.items s.outer.now o
stands_at t held s o inv site e = subst (StandsIn t.list.items s.outer.now) (sym e) (stands-by t held s.outer.now s.uptos.now s.def.now inv site.below site.defined)

-- A text that is found at a place has the items and the parameters of that.

abbrev Parts : Type 0
Parts = List Item × List Param

same-placed : (texts : List Text) (o : Option TextPlace) (p : TextPlace) (these those : Parts) → o ≡ Some p → IsPlacedIn texts o these.0 these.1 → IsPlacedIn texts (Some p) those.0 those.1 → these ≡ those
same-placed texts None p these those e h k = cc
same-placed texts (Some q) p these those e h k =
    let place : q ≡ p = cc in
    let there = subst (λ r. IsPlacedIn texts (Some r) these.0 these.1) place h in
    let both : Some there.0 ≡ Some k.0 = sym there.1 ∙ k.1 in
    let one : there.0 ≡ k.0 = cc in
    let all : Some these ≡ Some those = sym there.2 ∙ ap (λ x. option_map parts_of (component_at x.items.now p.upto)) one ∙ k.2 in
    cc

pub text_found : (t : Bodies) (list : List Fault) (place : Option TextPlace) (items : List Item) (params : List Param) (k : ℕ) (x : Text) (p : TextPlace) → AreKept t list → IsPlaced t place items params → slice_get t.texts.items k ≡ Some x → place ≡ Some p → x.place ≡ Some p → HasText t t list list place items params k
text_found t list place items params k x p inv placed here at own =
    let same : ◌≡◌ {A = Parts} (x.items.now, x.params.now) (items, params) = same-placed t.texts.items x.place p (x.items.now, x.params.now) (items, params) own (inv.texts k x here).placed (subst (λ o. IsPlaced t o items params) at placed) in
    record {
      kept = inv;
      same = record { tables = refl; components = refl; list = refl; sites = refl };
      fails = [];
      noted = refl;
      part = λ b e l h. tt;
      text = x;
      here = here;
      place_is = own ∙ sym at;
      items_are = ap (λ z. z.0) same;
      params_are = ap (λ z. z.1) same;
    }

-- A new one.

pub if_both : {T E : Type 0} (r : Result T E) (P : T → Type 0) (Q : Type 0) (R : T → Type 0) → ((x : T) → P x → Q → R x) → IfOk r P → OnOk r Q → IfOk r R
if_both (Ok x) P Q R f p q = f x p q
if_both (Err e) P Q R f p q = p

pub some_map : {T : Type 0} (o : Option T) (P R : T → Type 0) → ((x : T) → P x → R x) → IfSome o P → IfSome o R
some_map (Some x) P R f p = f x p
some_map None P R f p = p

-- a body of these items alone
abbrev pub blank : List Item → values.Body
blank items = record { node = None; kind = None; items = items; names = record { bound = []; enums = [] }; outer = [] }

same-twice : (b : values.Body) (items : List Item) → b.items ≡ items → twice_defined b ≡ twice_defined (blank items)
same-twice b items e = ap (λ is. twice_defined (blank is)) e

pub text_new : (t u : Bodies) (before between after : List Fault) (k : ℕ) (x : Text) → AreKept t before → IsPlaced t x.place x.items.now x.params.now → AreSame t u → u.texts.items ≡ t.texts.items ++ (x ∷ []) → k ≡ length t.texts.items
    → between ≡ with_all (twice_defined (blank x.items.now)) before → AreJudged x.closed x.items.now between after → AreComponents x.components x.items.now → (x.steady ≡ true → AreFixed x.items.now) → HasText t u before after x.place x.items.now x.params.now k
text_new t u before between after k x inv placed same texts at twice judged components steady = record {
  kept = subst (AreKept u) (sym noted) (kept_same t u same.tables same.components same.list same.sites before fails more all inv);
  same = same;
  fails = fails;
  noted = noted;
  part = λ b e list h. holds-both own-twice judged.fails list (subst (Holds list) (same-twice b x.items.now e) (holds-left (twice_defined b) (of_enums b) list h)) (judged.part b e list (holds-right (twice_defined b) (of_enums b) list h));
  text = x;
  here = ap (λ j. slice_get u.texts.items j) at ∙ ap (λ xs. slice_get xs (length t.texts.items)) texts ∙ get_next t.texts.items x;
  place_is = refl;
  items_are = refl;
  params_are = refl;
}
  where
    own-twice : List Fault
    own-twice = twice_defined (blank x.items.now)

    fails : List Fault
    fails = own-twice ++ judged.fails

    noted : after ≡ with_all fails before
    noted = judged.noted ∙ ap (with_all judged.fails) twice ∙ sym (with_all-append own-twice judged.fails before)

    more : Begins t.texts.items u.texts.items
    more = (x ∷ [], texts)

    own : IsTextIn u.texts.items (with_all fails before) x
    own = record {
      closed = subst (AreClosedOf x.closed x.items.now) noted judged.closed;
      components = components;
      twice = λ b e. subst (Holds (with_all fails before)) (sym (same-twice b x.items.now e)) (holds-left own-twice judged.fails (with_all fails before) (held fails before));
      placed = placed_stays t.texts.items u.texts.items more x.place x.items.now x.params.now placed;
      steady = steady;
    }

    all : (j : ℕ) (y : Text) → slice_get u.texts.items j ≡ Some y → IsTextIn u.texts.items (with_all fails before) y
    all j y e = go (get_either t.texts.items x y j (sym (ap (λ xs. slice_get xs j) texts) ∙ e))
      where
        go : (slice_get t.texts.items j ≡ Some y) ⊎ ((j ≡ length t.texts.items) × (x ≡ y)) → IsTextIn u.texts.items (with_all fails before) y
        go (inl h) = text_stays t.texts.items u.texts.items more before fails y (inv.texts j y h)
        go (inr h) = subst (IsTextIn u.texts.items (with_all fails before)) h.1 own

-- A body that is opened behind its text.

pub opened_with : (t u v : Bodies) (before between after : List Fault) (place : Option TextPlace) (params : List Param) (of k : ℕ) (b : values.Body) → HasText t u before between place b.items params of → IsOpened u v between after k b → IsOpened t v before after k b
opened_with t u v before between after place params of k b text h = record {
  kept = h.kept;
  grown = grows_on t u v (grown_same t u text.same.tables text.same.components text.same.list text.same.sites) h.grown;
  noted = h.noted ∙ ap (with_all (of_names b)) text.noted ∙ put_before text.fails (of_names b) before (λ list all. text.part b refl list all);
  body = h.body;
  here = h.here;
  open_ = h.open_;
}
