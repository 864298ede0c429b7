-- The tables that the dependencies of a tree's items are kept in.
use Rattle.std.specs.Prelude.{◌≡◌, ◌<◌, ◌^◌, map, length}
use Rattle.rdl_values.specs.Lineages.{lineages_of}
use Rattle.topological_order.specs.Levels.{AreWithin}
use Rattle.rdl_refs.specs.declared.dependencies.Dependencies.TheInside.{Inside}
use Rattle.rdl_refs.specs.Follows.{edges_of}
use Rattle.rdl_refs.specs.Items.{items}

-- What each item refers to, and the place of each one's node.
pub record AreDependencies (a : Inside) : Type 0 where
  pub refer : a.edges ≡ edges_of (lineages_of a.elab)
  pub within : AreWithin a.edges
  pub few : length a.edges < 2 ^ 32
  pub placed : a.places.items ≡ map (λ i. i.node.use_.name.place) (items (lineages_of a.elab))
