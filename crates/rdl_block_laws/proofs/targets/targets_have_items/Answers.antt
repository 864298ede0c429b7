use Rattle.rdl_nodes.proofs.Members.{in-from}
use Rattle.rdl_values.specs.Lineages.{lineages}
use Rattle.rdl_layers.specs.Forms.{reference}
use Rattle.rdl_refs.specs.Items.{target}
use Rattle.rdl_block_laws.proofs.Having.{has-item}
use Rattle.rdl_block_laws.proofs.targets.targets_have_items.Goals as goal

pub returns : goal.returns
returns c = λ wanted s p item scope place i halting named missing alias. has-item wanted s halting p item scope place i (in-from (target (lineages wanted s) (reference p item scope place)) i named) missing alias
