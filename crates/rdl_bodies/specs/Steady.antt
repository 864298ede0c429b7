-- Enumerations that are the same in all bodies of a text.
use Rattle.std.specs.Prelude.{List}
use Rattle.std.specs.List.{AllByRecursion}
use Rattle.rdl_tree.specs.declared.item.Item.{Item}
use Rattle.rdl_values.specs.Views as view
use Rattle.rdl_values.specs.Views.{ItemIs, item_is}
use Rattle.rdl_closed.specs.Closed.{AreClosed}

-- the entries of the enumeration that an item is mean the same in all bodies
abbrev pub IsFixedAs : ItemIs → Type 0
IsFixedAs (view.enumeration n es) = AreClosed es
IsFixedAs _ = Unit {0}

abbrev pub IsFixed : Item → Type 0
IsFixed i = IsFixedAs (item_is i)

-- so do those of each
abbrev pub AreFixed : List Item → Type 0
AreFixed is = AllByRecursion IsFixed is
