use Rattle.std.proofs.Common.{◌≡◌, ◌∙◌, ◌&&◌, Some, not, true, filter, map, sym, ap, arith}
use Rattle.std.proofs.lemmas.List.{take_all}
use Rattle.rdl_tree.specs.declared.item.Kind.TheVariants as kinds
use Rattle.rdl_tree.specs.declared.node.Node.{out-Node}
use Rattle.rdl_tree.specs.Kinds.{same_kind}
use Rattle.rdl_values.specs.Elaborated.{nodes_of}
use Rattle.rdl_values.specs.Uses.{path_text}
use Rattle.rdl_layers.specs.Fields.{is_a, is_alias}
use Rattle.rdl_sizes.proofs.Facts.{count-is, node-at, nodes-many, row-at, rows-many}
use Rattle.rdl_sizes.proofs.Turns.{read-at}
use Rattle.rdl_ref_items.specs.InterruptOutputs.{mark_at}
use Rattle.rdl_rules.specs.Block.{reg_of}
use Rattle.rdl_block_lists.proofs.Marking.{halting, one-register, only-own, tells-alias}
use Rattle.rdl_block_lists.proofs.register_list.regs.Goals as goal

pub text-text-requires : goal.text-text-requires
text-text-requires c = let many = rows-many c.args.elab.now c.args.rows.now c.requires.rows in let count = count-is c.args.elab.now c.requires.clean in omega (arith, many, count, c.requires.texts.many, c.loop-at-test.true)

pub bounds-marks-at : goal.bounds-marks-at
bounds-marks-at c = let many = rows-many c.args.elab.now c.args.rows.now c.requires.rows in let all = nodes-many c.args.elab.now in omega (arith, many, all, c.requires.marks.many, c.loop-at-test.true)

pub loop-at-preserved : goal.loop-at-preserved
loop-at-preserved c =
    let e = c.args.elab.now in
    let at = c.loop-at.at in
    let x = c.index-rows-at.result in
    let r = row-at e c.args.rows.now c.requires.rows at x (read-at c.args.rows.now at x c.loop-at-test.true c.index-rows-at.is) in
    let n = r.0.node in
    let here = node-at e at r.0 r.1 in
    let many = rows-many e c.args.rows.now c.requires.rows in
    let count = count-is e c.requires.clean in
    let all = nodes-many e in
    let is = ap (same_kind kinds.Reg) r.2.says.kind in
    let read : Some c.text-text.result.now ≡ Some (path_text n.path) = sym c.text-text.ensures ∙ c.requires.texts.each at n (omega (arith, many, count, c.loop-at-test.true)) here in
    let text : c.text-text.result.now ≡ path_text n.path = cc read in
    let alias : c.is_some-is_alias.result ≡ is_alias n = c.is_some-is_alias.ensures ∙ tells-alias e n c.primary.result (c.primary.ensures e at r.0 c.requires.clean r.1 r.2) in
    let mark = c.requires.marks.each at n (omega (arith, many, all, c.loop-at-test.true)) here in
    one-register (nodes_of e) at n here (same_kind kinds.Reg (out-Node x.node.now).kind) is
    (record { path = c.text-text.result.now; alias = c.is_some-is_alias.result; intr = not c.is_some-is_alias.result && (mark_at c.args.marks.now at).interrupts; halt = not c.is_some-is_alias.result && (mark_at c.args.marks.now at).halts })
    (λ t. let reg : is_a kinds.Reg n ≡ true = sym is ∙ t in
    let halt = only-own (is_alias n) _ _ (λ q. mark.halts_ ∙ sym (halting e c.requires.halts at n here reg q)) in
    (λ i. record { path = text i; alias = alias i; intr = not (alias i) && mark.interrupts_ i; halt = not (alias i) && (mark_at c.args.marks.now at).halts }) ∙ (λ i. record { path = path_text n.path; alias = is_alias n; intr = (reg_of n).intr; halt = halt i }))
    c.loop-at.items.items c.add_register.new.list.items c.loop-at.invariant c.in_ok-add_register.ensures

pub returns : goal.returns
returns c =
    let e = c.args.elab.now in
    let many = rows-many e c.args.rows.now c.requires.rows in
    let all = nodes-many e in
    c.loop-at.invariant ∙ ap (λ ns. map reg_of (filter (is_a kinds.Reg) ns)) (take_all c.loop-at.at (nodes_of e) (omega (arith, many, all, c.loop-at-test.false)))
