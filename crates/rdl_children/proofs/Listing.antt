-- The uses of a body, item by item.
use Rattle.std.proofs.Common.{◌≡◌, ◌∙◌, ℕ, ◌+◌, ◌<◌, List, [], ◌∷◌, ◌++◌, length, get_or, take, map, flat_map, Option, None, Some, option_to_list, sym, ap, subst, append_assoc, append-nil}
use Rattle.std.proofs.lemmas.Grind.{flat_map-append}
use Rattle.std.proofs.lemmas.List.{map-append, take_more}
use Rattle.rdl_base.specs.declared.fault.Fault.{Fault}
use Rattle.rdl_tree.specs.declared.item.Item.{Item}
use Rattle.rdl_values.specs.Bodies.{Body, scope_at, standing, standing_from}
use Rattle.rdl_values.specs.Paths.{Parent}
use Rattle.rdl_values.specs.Phase3.{of_use}
use Rattle.rdl_values.specs.Uses.{Seen, Use, parent_of, uses_of_item}
use Rattle.rdl_values.specs.Views.{item_is}
use Rattle.rdl_failures.specs.Noted.{with_all}
use Rattle.rdl_failures.proofs.Noting.{standing-push}
use Rattle.rdl_failures.proofs.Sets.{with_all-append}
use Rattle.rdl_uses.specs.Before.{AreEarlier}
use Rattle.rdl_uses.specs.declared.earlier.Earlier.{Earlier}
use Rattle.rdl_children.specs.ItemUses.{GivesAll, GivesItem, IsBodyScene, item_seens, seen_in, without, with_}
use Rattle.rdl_children.specs.declared.item.ItemUses.{ItemUses}
use Rattle.rdl_children.specs.declared.item.Surroundings.{Surroundings}

standing_from-append : {X : Type 0} (before xs ys : List X) → standing_from before (xs ++ ys) ≡ standing_from before xs ++ standing_from (before ++ xs) ys
standing_from-append before [] ys = ap (λ b. standing_from b ys) (sym (append-nil before))
standing_from-append before (x ∷ xs) ys = ap (λ zs. (before, x) ∷ zs) (standing_from-append (before ++ (x ∷ [])) xs ys ∙ ap (λ b. standing_from (before ++ (x ∷ [])) xs ++ standing_from b ys) (append_assoc before (x ∷ []) xs))

-- the uses of the first items of a body
abbrev pub uses_in : Body → List Item → List Use
uses_in b items = flat_map (λ i. uses_of_item (scope_at b i.0) (item_is i.1)) (standing items)

abbrev pub seens_in : Parent → List Body → List Use → List Seen
seens_in p above us = map (seen_in p above) (standing us)

-- What was done for some items of the body.
pub record DoneItems (s : Surroundings) (above : List Body) (b : Body) (items : List Item) (e : Earlier) (l0 l1 : List Fault) (list : List ItemUses) : Type 0 where
  pub earlier : AreEarlier e (uses_in b items)
  pub noted : l1 ≡ with_all (flat_map of_use (seens_in (parent_of b) above (uses_in b items))) l0
  pub given : GivesAll s list (seens_in (parent_of b) above (uses_in b items))

gives_more : (s : Surroundings) (position : ℕ) (us : List Use) (rs : List ItemUses) (r : Option ItemUses) (ss all : List Seen) → GivesAll s rs ss → GivesItem s position r us all → GivesAll s (rs ++ option_to_list r) (ss ++ all)
gives_more s position us rs None ss all h g = subst (λ xs. GivesAll s xs (ss ++ all)) (sym (append-nil rs)) (without all h g)
gives_more s position us rs (Some r) ss all h g = with_ r position us all h g

module _ (s : Surroundings) (above : List Body) (b : Body) (items : List Item) (scene : IsBodyScene s items b) (k : ℕ) (l : k < length items) where
  abbrev p : Parent
  p = parent_of b

  abbrev front : List Item
  front = take k items

  abbrev us : List Use
  us = uses_in b front

  uses-more : (x : Item) → x ≡ get_or items k x → uses_in b (take (k + 1) items) ≡ us ++ uses_of_item (scope_at b front) (item_is x)
  uses-more x at =
      let next : take (k + 1) items ≡ front ++ (x ∷ []) = take_more items k x l ∙ ap (λ y. front ++ (y ∷ [])) (sym at) in
      let f : List Item × Item → List Use = λ i. uses_of_item (scope_at b i.0) (item_is i.1) in
      ap (uses_in b) next ∙ ap (flat_map f) (standing-push front x) ∙ flat_map-append f (standing front) ((front, x) ∷ []) ∙ ap (λ ys. us ++ ys) (append-nil (f (front, x)))

  seens-more : (x : Item) → x ≡ get_or items k x → seens_in p above (uses_in b (take (k + 1) items)) ≡ seens_in p above us ++ item_seens p above us (scope_at b front) x
  seens-more x at =
      let new = uses_of_item (scope_at b front) (item_is x) in
      ap (seens_in p above) (uses-more x at) ∙ ap (map (seen_in p above)) (standing_from-append [] us new) ∙ map-append (seen_in p above) (standing us) (standing_from us new)

  pub items_more : (x : Item) → x ≡ get_or items k x → (e e' : Earlier) (l0 l1 l2 : List Fault) (list list' : List ItemUses) (r : Option ItemUses) → DoneItems s above b front e l0 l1 list
      → AreEarlier e' (us ++ uses_of_item (scope_at b front) (item_is x)) → l2 ≡ with_all (flat_map of_use (item_seens p above us (scope_at b front) x)) l1 → GivesItem s k r us (item_seens p above us (scope_at b front) x) → list' ≡ list ++ option_to_list r
      → DoneItems s above b (take (k + 1) items) e' l0 l2 list'
  items_more x at e e' l0 l1 l2 list list' r inv earlier put gives added =
      let more = seens-more x at in
      let old = seens_in p above us in
      let new = item_seens p above us (scope_at b front) x in
      record {
        earlier = subst (AreEarlier e') (sym (uses-more x at)) earlier;
        noted = put ∙ ap (with_all (flat_map of_use new)) inv.noted ∙ sym (with_all-append (flat_map of_use old) (flat_map of_use new) l0) ∙ ap (λ fs. with_all fs l0) (sym (flat_map-append of_use old new) ∙ ap (flat_map of_use) (sym more));
        given = subst (λ xs. GivesAll s xs (seens_in p above (uses_in b (take (k + 1) items)))) (sym added) (subst (GivesAll s (list ++ option_to_list r)) (sym more) (gives_more s k us list r old new inv.given gives));
      }
