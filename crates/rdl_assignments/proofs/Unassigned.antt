-- Enumerations of which no entry has assignments.
use Rattle.std.proofs.Common.{◌≡◌, ◌∙◌, ℕ, ◌+◌, ◌<◌, ◌≤◌, ◌==◌, suc, Bool, true, false, not, List, [], ◌∷◌, ◌++◌, length, get_or, take, flat_map, map, append-nil, arith, refl, sym, ap, subst}
use Rattle.std.specs.List.{AllByRecursion}
use Rattle.std.proofs.lemmas.Bool.Decides.{nat_tests}
use Rattle.std.proofs.lemmas.Grind.{flat_map-append}
use Rattle.std.proofs.lemmas.List.{take_all, take_more}
use Rattle.rdl_base.specs.declared.fault.Fault.{Fault}
use Rattle.rdl_tree.specs.declared.item.Entry.{Entry}
use Rattle.rdl_tree.specs.declared.item.Item.{Item}
use Rattle.rdl_tree.specs.declared.item.Set.{Set}
use Rattle.rdl_values.specs.Bodies.{Body, Scope, standing_from}
use Rattle.rdl_values.specs.Views.{item_is}
use Rattle.rdl_layers.specs.Judged.{all_failures, failures_of, legal_on_entry}
use Rattle.rdl_layers.specs.Phase4.{of_entry, of_enums, scope_of_enum}
use Rattle.rdl_assignments.specs.Enums.{fails_in}

abbrev pub FailsNowhere : Item → Type 0
FailsNowhere i = (scope : Scope) → fails_in scope (item_is i) ≡ []

pub no_sets : (e : Entry) → not (length e.sets.now == 0) ≡ false → (scope : Scope) → of_entry scope e ≡ []
no_sets e q scope = go e.sets.now q
  where
    never : (k : ℕ) → (suc k == 0) ≡ true → ⊥
    never k r = grind (arith, nat_tests)

    some : {X : Type 0} (k : ℕ) → not (suc k == 0) ≡ false → X
    some {X = X} k r = look (suc k == 0) refl r
      where
        look : (b : Bool) → (suc k == 0) ≡ b → not b ≡ false → X
        look true e r = absurd (never k e)
        look false e r = cc

    go : (ss : List Set) → not (length ss == 0) ≡ false → all_failures (failures_of legal_on_entry) (map (λ s. record { set_ = s; scope = scope }) ss) ≡ []
    go [] r = refl
    go (s ∷ ss) r = some (length ss) r

pub entries_more : (f : Entry → List Fault) (es : List Entry) (i : ℕ) (d : Entry) → i < length es → flat_map f (take i es) ≡ [] → f (get_or es i d) ≡ [] → flat_map f (take (i + 1) es) ≡ []
entries_more f es i d l h k =
    ap (flat_map f) (take_more es i d l) ∙ flat_map-append f (take i es) (get_or es i d ∷ []) ∙ ap (λ fs. fs ++ flat_map f (get_or es i d ∷ [])) h ∙ append-nil (f (get_or es i d)) ∙ k

pub items_more : (items : List Item) (i : ℕ) (d : Item) → i < length items → AllByRecursion FailsNowhere (take i items) → FailsNowhere (get_or items i d) → AllByRecursion FailsNowhere (take (i + 1) items)
items_more items i d l h k = subst (AllByRecursion FailsNowhere) (sym (take_more items i d l)) (push (take i items) h)
  where
    push : (xs : List Item) → AllByRecursion FailsNowhere xs → AllByRecursion FailsNowhere (xs ++ (get_or items i d ∷ []))
    push [] all = (k, tt)
    push (x ∷ xs) all = (all.0, push xs all.1)

from-none : (b : Body) (before is : List Item) → AllByRecursion FailsNowhere is → flat_map (λ i. fails_in (scope_of_enum b i.0) (item_is i.1)) (standing_from before is) ≡ []
from-none b before [] h = refl
from-none b before (i ∷ is) h = ap (λ fs. fs ++ flat_map (λ i. fails_in (scope_of_enum b i.0) (item_is i.1)) (standing_from (before ++ (i ∷ [])) is)) (h.0 (scope_of_enum b before)) ∙ from-none b (before ++ (i ∷ [])) is h.1

pub none_fail : (b : Body) (items : List Item) (i : ℕ) → length items ≤ i → AllByRecursion FailsNowhere (take i items) → b.items ≡ items → of_enums b ≡ []
none_fail b items i l h e = from-none b [] b.items (subst (AllByRecursion FailsNowhere) (take_all i items l ∙ sym e) h)
