-- What earlier dynamic assignments of a body assign at a node.
use Rattle.std.specs.Prelude.{List, map, filter}
use Rattle.rdl_props.specs.declared.prop.Prop.{Prop}
use Rattle.rdl_values.specs.Instances.{Instance}
use Rattle.rdl_layers.specs.Assignments.{Dynamic, Nested, is_among, targets}
use Rattle.rdl_layers.specs.Judged.{props_of}

-- the properties of those of which the node is a target
abbrev pub assigned_at : Nested → List Dynamic → Instance → List Prop
assigned_at b earlier n = props_of (map (λ d. d.assigns) (filter (λ d. is_among (targets b d) n) earlier))
