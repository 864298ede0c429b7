-- The failures of the rule on access widths, of a tree of instances.
use Rattle.std.proofs.Common.{◌≡◌, flat_map, Some, refl}
use Rattle.rdl_tree.specs.declared.node.Elab.{Elab}
use Rattle.rdl_values.specs.Elaborated.{nodes_of, top_name}
use Rattle.rdl_rules.specs.Phase7.{failures7, narrow_register}

pub all-narrow : (e : Elab) → failures7 (Some (top_name e)) e.source.now ≡ flat_map narrow_register (nodes_of e)
unfolding failures7
all-narrow e = refl
