-- The address map that is the top.
use Rattle.std.specs.Prelude.{◌≡◌, cond, List, take, Option, None, Some, MatchOption}
use Rattle.rdl_tree.specs.declared.expr.Name.{Name}
use Rattle.rdl_tree.specs.declared.item.Def.{Def}
use Rattle.rdl_tree.specs.declared.item.Item.{Item}
use Rattle.rdl_tree.specs.declared.item.Source.{Source}
use Rattle.rdl_values.specs.Bodies.{component_of, scope_at}
use Rattle.rdl_values.specs.Top.{is_addrmap, root, top_use}
use Rattle.rdl_values.specs.Uses.{Use}
use Rattle.rdl_values.specs.Views.{item_is}
use Rattle.rdl_top.specs.declared.top.Top.{Top}

abbrev pub with_name : Def → Option Name → Option (Def × Name)
with_name d None = None
with_name d (Some n) = cond (is_addrmap d.kind) (Some (d, n)) None

abbrev pub named_def : Option Def → Option (Def × Name)
named_def None = None
named_def (Some d) = with_name d d.name

-- the named address map that an item defines
abbrev pub addrmap_in : Item → Option (Def × Name)
addrmap_in i = named_def (component_of (item_is i))

-- The use as the top is that of this definition, behind so many of these items of the root; or there is none.
abbrev pub Means : Source → List Item → Option Top → Option Use → Type 0
Means s items r o = MatchOption r (o ≡ None) (λ t. o ≡ Some (top_use (scope_at (root s) (take t.position items)) t.def.now t.name))
