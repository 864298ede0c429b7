-- The node that a reference leads to (SystemRDL 2.0, 5.1.4; where the first name is looked up is this project's rule).
use Rattle.std.specs.Prelude.{Bool, true, false, cond, List, [], ◌∷◌, filter, flat_map, Option, None, Some}
use Rattle.std.specs.List.{list_any}
use Rattle.rdl_tree.specs.declared.expr.Path.{Path}
use Rattle.rdl_tree.specs.declared.expr.Step.{Step}
use Rattle.rdl_values.specs.Views.{steps_of}
use Rattle.rdl_values.specs.Bodies.{Scope, Layer, around}
use Rattle.rdl_values.specs.Bodies as bodies
use Rattle.rdl_values.specs.Uses.{same_name}
use Rattle.rdl_values.specs.Lineages.{Lineage, children_in}
use Rattle.rdl_layers.specs.Assignments.{same_path, is_step_exactly, led_down}

-- the node stands at the root
abbrev pub is_at_root : bodies.Path → Bool
is_at_root (bodies.of_signal s) = true
is_at_root (bodies.below_top ss) = false

-- the nodes in the body of a node, or of the root
abbrev pub members_of : List Lineage → Option bodies.Path → List Lineage
members_of all None = filter (λ n. is_at_root n.node.path) all
members_of all (Some p) = flat_map children_in (filter (λ n. same_path n.node.path p) all)

abbrev pub has_name_of : List Step → Lineage → Bool
has_name_of [] n = false
has_name_of (t ∷ ts) n = same_name t.name n.node.use_.name

-- a body that has an instance of the path's first name
abbrev pub has_first : List Lineage → List Step → Layer → Bool
has_first all ts l = list_any (has_name_of ts) (members_of all l.node)

-- of the bodies round the text the nearest that has one, and no other
abbrev pub nearest_with : List Lineage → List Step → Scope → Option Layer
nearest_with all ts [] = None
nearest_with all ts (l ∷ outer) = cond (has_first all ts l) (Some l) (nearest_with all ts outer)

abbrev pub led_in : List Lineage → List Step → Scope → Option Layer → List Lineage
led_in all ts scope None = []
led_in all ts scope (Some l) = led_down children_in (λ t n. is_step_exactly (around scope) t n.node) (members_of all l.node) ts

-- the node that a reference leads to, in a list of one, or none
unfoldable pub led_to : List Lineage → Path → Scope → List Lineage
led_to all p scope = led_in all (steps_of p) scope (nearest_with all (steps_of p) scope)
