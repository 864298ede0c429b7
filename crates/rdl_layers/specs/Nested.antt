-- The body of a node, behind those that it stands in.
use Rattle.rdl_values.specs.Instances.{Instance, body}
use Rattle.rdl_layers.specs.Assignments.{Nested}

-- the node's body, behind those of the nodes above it
abbrev pub nested : Instance → Nested
nested n = (n.above, body n)
