-- Dynamic assignments as they are written.
use Rattle.std.specs.Prelude.{◌≡◌, List, [], ◌∷◌, flat_map, map}
use Rattle.rdl_tree.specs.declared.expr.Path.{Path}
use Rattle.rdl_tree.specs.declared.item.Item.{Item}
use Rattle.rdl_tree.specs.declared.item.Set.{Set}
use Rattle.rdl_values.specs.Views as view
use Rattle.rdl_values.specs.Views.{ItemIs, item_is}
use Rattle.rdl_dynamic.specs.declared.written.Written.{Written}

-- the target, and what is assigned there
abbrev pub parts_of : Written → Path × Set
parts_of w = (w.target.now, w.assigned.now)

-- what an item assigns to nodes below
abbrev pub written_in : ItemIs → List (Path × Set)
written_in (view.dynamic p s) = (p, s) ∷ []
written_in _ = []

-- these are the dynamic assignments among some items, in order
abbrev pub AreWritten : List Written → List Item → Type 0
AreWritten ws items = map parts_of ws ≡ flat_map (λ i. written_in (item_is i)) items
