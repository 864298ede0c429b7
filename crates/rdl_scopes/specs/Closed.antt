-- Enumerations of which no entry's value names anything.
use Rattle.std.specs.Prelude.{◌≡◌, ℕ, List, [], Option, None, Some, ◌⊎◌, cond, nat_eq, slice_get}
use Rattle.std.specs.BTreeMap.{get}
use Rattle.std.specs.Ordering.{nat_cmp}
use Rattle.rdl_base.specs.declared.fault.Fault.{Fault}
use Rattle.rdl_tree.specs.declared.expr.Name.{Name}
use Rattle.rdl_tree.specs.declared.item.Entry.{Entry}
use Rattle.rdl_tree.specs.declared.item.Item.{Item}
use Rattle.rdl_values.specs.Bodies.{Body}
use Rattle.rdl_values.specs.Enums.{judged}
use Rattle.rdl_values.specs.Phase3.{of_entries, of_enums}
use Rattle.rdl_values.specs.Views as view
use Rattle.rdl_values.specs.Views.{ItemIs, item_is}
use Rattle.rdl_failures.specs.Noted.{Holds, with_all}
use Rattle.rdl_closed.specs.Closed.{AreClosed}
use Rattle.rdl_scopes.specs.Entries.{IsValued}
use Rattle.rdl_scopes.specs.declared.closed.ClosedEnums.{ClosedEnums}
use Rattle.rdl_scopes.specs.declared.entries.ValuedEnum.{ValuedEnum}

-- that of the item of a number
abbrev pub known_at : ClosedEnums → ℕ → Option ValuedEnum
known_at c k = get nat_cmp c.by_item k

-- an enumeration with these entries, the values of which name nothing, and whose failures are held
abbrev pub IsClosedAs : List Fault → ValuedEnum → ItemIs → Type 0
IsClosedAs held v (view.enumeration n es) = AreClosed es × IsValued n (judged [] es).entries v × Holds held (of_entries (judged [] es))
IsClosedAs held v _ = ⊥

abbrev pub IsClosedItem : List Fault → ValuedEnum → Option Item → Type 0
IsClosedItem held v None = ⊥
IsClosedItem held v (Some i) = IsClosedAs held v (item_is i)

-- Each is that of its item.
pub record AreClosedOf (c : ClosedEnums) (items : List Item) (held : List Fault) : Type 0 where
  pub each : (k : ℕ) (v : ValuedEnum) → known_at c k ≡ Some v → IsClosedItem held v (slice_get items k)

-- An item's enumeration was judged, and put in under the number of the item.
pub record IsRead (at : ℕ) (i : Item) (old new : ClosedEnums) (before after : List Fault) : Type 0 where
  pub name : Name
  pub entries : List Entry
  pub of : ValuedEnum
  pub is : item_is i ≡ view.enumeration name entries
  pub closed : AreClosed entries
  pub valued : IsValued name (judged [] entries).entries of
  pub put : (k : ℕ) → known_at new k ≡ cond (nat_eq at k) (Some of) (known_at old k)
  pub noted : after ≡ with_all (of_entries (judged [] entries)) before

-- Or else nothing was done.
abbrev pub Reads : ℕ → Item → ClosedEnums → ClosedEnums → List Fault → List Fault → Type 0
Reads at i old new before after = ((new ≡ old) × (after ≡ before)) ⊎ IsRead at i old new before after

-- Those of these items were judged: what they fail by is part of what each body with the items fails by.
pub record AreJudged (c : ClosedEnums) (items : List Item) (before after : List Fault) : Type 0 where
  pub closed : AreClosedOf c items after
  pub fails : List Fault
  pub noted : after ≡ with_all fails before
  pub part : (b : Body) → b.items ≡ items → (list : List Fault) → Holds list (of_enums b) → Holds list fails
