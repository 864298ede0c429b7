-- The names of a body as the code opens them, item by item.
use Rattle.std.specs.Prelude.{◌≡◌, ℕ, cond, List, [], ◌∷◌, ◌++◌, map}
use Rattle.rdl_base.specs.declared.fault.Fault.{Fault}
use Rattle.rdl_tree.specs.declared.expr.Name.{Name}
use Rattle.rdl_tree.specs.declared.item.Item.{Item}
use Rattle.rdl_values.specs.Chained.{chained}
use Rattle.rdl_values.specs.Enums.{judged, names_of}
use Rattle.rdl_values.specs.Phase3.{of_entries}
use Rattle.rdl_values.specs.Seen.{listed_enum}
use Rattle.rdl_values.specs.Table.{is_enum_named}
use Rattle.rdl_values.specs.Values.{Around, EnumOf, Names, Val}
use Rattle.rdl_values.specs.Views as view
use Rattle.rdl_values.specs.Views.{ItemIs, item_is}
use Rattle.rdl_failures.specs.Noted.{with_all}
use Rattle.rdl_failures.specs.Shown.{IsAlike}
use Rattle.rdl_scopes.specs.Entries.{IsTableOf, listed_as}
use Rattle.rdl_scopes.specs.declared.enums.Opened.{Opened}
use Rattle.rdl_scopes.specs.declared.enums.Opening.{Opening}
use Rattle.rdl_scopes.specs.declared.enums.Outer.{Outer}

-- A table of names, and the enumerations that are listed.
pub record State : Type 0 where
  pub table : Names
  pub enums : List EnumOf

abbrev pub state_of : Opening → State
state_of o = record { table = o.table; enums = map listed_enum o.enums.items }

-- the bodies round a body
abbrev pub bodies : Outer → Around
bodies o = chained o.tables.now o.numbers.now

-- An enumeration with these entries is put behind the others: into the table, where none there has its name.
pub record Adds (name : Name) (entries : List (Name × ℕ)) (old new : State) : Type 0 where
  pub table : EnumOf
  pub is : IsTableOf name entries table
  pub kept : new.table.bound ≡ old.table.bound
  pub added : new.table.enums ≡ cond (is_enum_named table.name old.table.enums) old.table.enums (old.table.enums ++ (table ∷ []))
  pub listed : new.enums ≡ old.enums ++ (listed_as name entries ∷ [])

-- What an item adds: an enumeration its entries with their values, where these names and the bodies round them are visible, and its
-- failures; any other item nothing.
abbrev pub AddsAs : Outer → ItemIs → State → State → List Fault → List Fault → Type 0
AddsAs o (view.enumeration n es) old new before after =
    (around : Around) → IsAlike (old.table ∷ bodies o) around → Adds n (judged around es).entries old new × (after ≡ with_all (of_entries (judged around es)) before)
AddsAs o _ old new before after = (new ≡ old) × (after ≡ before)

abbrev pub AddsItem : Outer → Item → State → State → List Fault → List Fault → Type 0
AddsItem o i old new before after = AddsAs o (item_is i) old new before after

-- The names of a body with these parameters and items, in whichever bodies are shown round it.
pub record IsOpened (bound : List (List ℕ × Val)) (items : List Item) (o : Outer) (r : Opened) : Type 0 where
  pub same : r.table.bound ≡ bound
  pub alike : (outer : Around) → IsAlike (bodies o) outer → IsAlike (r.table ∷ bodies o) (names_of outer bound items ∷ outer)
  pub listed : (outer : Around) → IsAlike (bodies o) outer → map listed_enum r.enums.now ≡ (names_of outer bound items).enums
