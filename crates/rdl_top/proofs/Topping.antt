-- Tops, item by item.
use Rattle.std.proofs.Common.{◌≡◌, ◌∙◌, ℕ, ◌+◌, ◌<◌, Bool, true, false, ◌&&◌, cond, List, [], ◌∷◌, ◌++◌, length, get_or, take, drop, reverse, Option, None, Some, is_some, option_and_then, refl, sym, ap, subst}
use mathlib.Core.List.{reverse_aux}
use Rattle.std.specs.Option.{option_or}
use Rattle.std.proofs.lemmas.List.{at_drop_more, take_more}
use Rattle.rdl_tree.specs.declared.expr.Name.{Name}
use Rattle.rdl_tree.specs.declared.item.Def.{Def}
use Rattle.rdl_tree.specs.declared.item.Item.{Item}
use Rattle.rdl_tree.specs.declared.item.Source.{Source}
use Rattle.rdl_values.specs.Bodies.{Scope, component_of, scope_at, standing, standing_from}
use Rattle.rdl_values.specs.Top.{is_addrmap, is_wanted, root, top_at, top_named, top_use}
use Rattle.rdl_values.specs.Uses.{Use}
use Rattle.rdl_values.specs.Values.{nearest}
use Rattle.rdl_values.specs.Views.{item_is}
use Rattle.rdl_failures.proofs.Noting.{standing-push}
use Rattle.rdl_top.specs.Topped.{Means, addrmap_in, named_def, with_name}
use Rattle.rdl_top.specs.declared.top.Top.{Top}

-- the top that a named address map gives
abbrev pub chosen : Option (List ℕ) → Scope → Option (Def × Name) → Option Use
chosen w scope None = None
chosen w scope (Some a) = cond (is_wanted w a.1) (Some (top_use scope a.0 a.1)) None

pub top-by : (w : Option (List ℕ)) (s : Source) (before : List Item) (x : Item) → top_at w s (before, x) ≡ chosen w (scope_at (root s) before) (addrmap_in x)
top-by w s before x = of_def (component_of (item_is x))
  where
    scope : Scope
    scope = scope_at (root s) before

    of_kind : (d : Def) (n : Name) (b : Bool) → cond (b && is_wanted w n) (Some (top_use scope d n)) None ≡ chosen w scope (cond b (Some (d, n)) None)
    of_kind d n true = refl
    of_kind d n false = refl

    of_name : (d : Def) (o : Option Name) → top_named w scope d o ≡ chosen w scope (with_name d o)
    of_name d None = refl
    of_name d (Some n) = of_kind d n (is_addrmap d.kind)

    of_def : (o : Option Def) → option_and_then (λ d. top_named w scope d d.name) o ≡ chosen w scope (named_def o)
    of_def None = refl
    of_def (Some d) = of_name d d.name

pub means-or : (s : Source) (items : List Item) (r r' : Option Top) (o o' : Option Use) → Means s items r o → Means s items r' o' → Means s items (option_or r r') (option_or o o')
means-or s items None r' o o' h k = subst (λ x. Means s items r' (option_or x o')) (sym h) k
means-or s items (Some t) r' o o' h k = ap (λ x. option_or x o') h

pub means-some : (s : Source) (items : List Item) (r : Option Top) (o rest : Option Use) → is_some r ≡ true → Means s items r o → Means s items r (option_or o rest)
means-some s items None o rest e h = cc
means-some s items (Some t) o rest e h = ap (λ x. option_or x rest) h

pub means-none : (s : Source) (items : List Item) (r : Option Top) (o : Option Use) → is_some r ≡ false → Means s items r o → o ≡ None
means-none s items None o e h = h
means-none s items (Some t) o e h = cc

reverse-push : {X : Type 0} (xs : List X) (x : X) → reverse (xs ++ (x ∷ [])) ≡ x ∷ reverse xs
reverse-push {X = X} xs x = onto xs []
  where
    onto : (xs ys : List X) → reverse_aux (xs ++ (x ∷ [])) ys ≡ x ∷ reverse_aux xs ys
    onto [] ys = refl
    onto (y ∷ xs) ys = onto xs (y ∷ ys)

module _ (s : Source) (items : List Item) (k : ℕ) (x : Item) (l : k < length items) (at : x ≡ get_or items k x) where
  next : take (k + 1) items ≡ take k items ++ (x ∷ [])
  next = take_more items k x l ∙ ap (λ y. take k items ++ (y ∷ [])) (sym at)

  pub last_more : (r r' : Option Top) → Means s items r (nearest (top_at None s) (reverse (standing (take k items)))) → Means s items r' (top_at None s (take k items, x))
      → Means s items (option_or r' r) (nearest (top_at None s) (reverse (standing (take (k + 1) items))))
  last_more r r' old new =
      let turned = ap (nearest (top_at None s)) (ap (λ is. reverse (standing is)) next ∙ ap reverse (standing-push (take k items) x) ∙ reverse-push (standing (take k items)) (take k items, x)) in
      subst (Means s items (option_or r' r)) (sym turned) (means-or s items r' r (top_at None s (take k items, x)) (nearest (top_at None s) (reverse (standing (take k items)))) new old)

  pub first_more : (w : Option (List ℕ)) → nearest (top_at w s) (standing_from (take k items) (drop k items)) ≡ option_or (top_at w s (take k items, x)) (nearest (top_at w s) (standing_from (take (k + 1) items) (drop (k + 1) items)))
  first_more w =
      let f = top_at w s in
      at_drop_more (λ is. nearest f (standing_from (take k items) is)) items k x l ∙ ap (λ y. nearest f (standing_from (take k items) (y ∷ drop (k + 1) items))) (sym at) ∙ ap (λ is. option_or (f (take k items, x)) (nearest f (standing_from is (drop (k + 1) items)))) (sym next)
