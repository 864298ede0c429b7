use Rattle.std.proofs.Common.{is_some, refl, ap}
use Rattle.rdl_values.specs.Instances.{kind_of}
use Rattle.rdl_nodes.proofs.Members.{in-to}
use Rattle.rdl_refs.specs.declared.item.What.TheVariants as what
use Rattle.rdl_refs.specs.Items.{whats}
use Rattle.rdl_bind.proofs.Items.{unit-value, value-item}
use Rattle.rdl_bind.proofs.known.add_value.Goals as goal

pub unwrap-number-requires : goal.unwrap-number-requires
unwrap-number-requires c =
    let n = c.requires.node.0 in
    ap is_some (c.number.ensures c.args.known.props.now (value-item n) c.requires.known.clean c.requires.known.numbers_ (c.requires.node.1, refl) (in-to (whats (kind_of n)) what.Value (unit-value (kind_of n) c.requires.node.2)))
