use Rattle.std.proofs.Common.{◌∙◌, sym, ap}
use Rattle.rdl_tree.specs.declared.item.Kind.TheVariants as kinds
use Rattle.rdl_tree.specs.declared.node.Node.{out-Node}
use Rattle.rdl_tree.specs.Kinds.{same_kind}
use Rattle.rdl_bits.proofs.Registers.{passed-by}
use Rattle.rdl_bits.proofs.table.add_row.Goals as goal

pub returns-then-not-is_register : goal.returns-then-not-is_register
returns-then-not-is_register c =
    let r = c.requires.row in
    passed-by c.args.props.now (out-Node c.args.row.now.node.now).id r.0 r.1 c.args.table.now c.requires.before (ap (same_kind kinds.Reg) (sym r.2.says.kind) ∙ (sym c.is_register.ensures ∙ c.if-not-is_register.true))
