use Rattle.std.proofs.Common.{◌≡◌, ◌∙◌, length, sym, ap, subst, arith}
use Rattle.rdl_tree.specs.declared.item.Kind.TheVariants as kinds
use Rattle.rdl_tree.specs.declared.node.Node.{out-Node}
use Rattle.rdl_tree.specs.Kinds.{same_kind}
use Rattle.rdl_block_words.specs.Entries.{IsEntryAt}
use Rattle.rdl_block_words.proofs.Entered.{passed-by, taken-up}
use Rattle.rdl_block_words.proofs.registers.add_register.Goals as goal

pub returns-then-not-is_register : goal.returns-then-not-is_register
returns-then-not-is_register c =
    let r = c.requires.row in
    passed-by c.args.props.now (out-Node c.args.row.now.node.now).id r.0 r.1 c.args.first_view c.args.entries.now.items c.requires.before (ap (same_kind kinds.Reg) (sym r.2.says.kind) ∙ (sym c.is_register.ensures ∙ c.if-not-is_register.true))

pub entry-requires-clause-row : goal.entry-requires-clause-row
entry-requires-clause-row c =
    let r = c.requires.row in
    (r.0, record { here = r.1; row = r.2; register = ap (same_kind kinds.Reg) (sym r.2.says.kind) ∙ (sym c.is_register.ensures ∙ c.if-not-is_register.false) })

pub returns : goal.returns
returns c =
    let e = c.args.props.now in
    let k = (out-Node c.args.row.now.node.now).id in
    let r = c.requires.row in
    let reg = ap (same_kind kinds.Reg) (sym r.2.says.kind) ∙ (sym c.is_register.ensures ∙ c.if-not-is_register.false) in
    let number : c.in_ok-at.at ≡ length c.args.entries.now.items = (let is = c.in_ok-at.ensures.is in let long = c.len.ensures in let items = c.args.entries.now.ok.0 in omega (arith, is, long, items)) in
    taken-up e k r.0 r.1 c.args.first_view c.args.entries.now.items c.requires.before reg c.in_ok-entry.entry (subst (λ n. IsEntryAt e k n c.args.first_view c.in_ok-entry.entry) number c.in_ok-entry.ensures) c.push.new.self.items c.in_ok-push.ensures.items
