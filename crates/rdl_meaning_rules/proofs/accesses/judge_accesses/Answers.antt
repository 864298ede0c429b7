use Rattle.std.proofs.Common.{◌∙◌, ◌==◌, ◌&&◌, not, ap, arith}
use Rattle.rdl_base.specs.declared.rule.Rule.TheVariants as rules
use Rattle.rdl_tree.specs.declared.item.Kind.TheVariants as kinds
use Rattle.rdl_tree.specs.Kinds.{same_kind}
use Rattle.rdl_values.specs.Elaborated.{nodes_of}
use Rattle.rdl_values.specs.Faults.{at_, when}
use Rattle.rdl_failures.specs.Noted.{with_all}
use Rattle.rdl_rules.specs.Phase7.{narrow_register}
use Rattle.rdl_sizes.proofs.Facts.{count-is, node-at, rows-many}
use Rattle.rdl_meaning_rules.proofs.Walk.{all-nodes, known, one-more, said-by}
use Rattle.rdl_meaning_rules.proofs.accesses.judge_accesses.Goals as goal

pub number-is_whole-requires : goal.number-is_whole-requires
number-is_whole-requires c =
    let e = c.args.props.now in
    let k = known e c.args.rows.now c.requires.rows c.loop-at.at c.index-rows-at.result c.loop-at-test.true c.index-rows-at.is in
    let here = k.row.number in
    let many = rows-many e c.args.rows.now c.requires.rows in
    let count = count-is e c.requires.clean in
    omega (arith, here, many, count, c.loop-at-test.true)

pub loop-at-preserved : goal.loop-at-preserved
loop-at-preserved c =
    let e = c.args.props.now in
    let k = known e c.args.rows.now c.requires.rows c.loop-at.at c.index-rows-at.result c.loop-at-test.true c.index-rows-at.is in
    let width = c.number-is_whole.ensures k.of.node (said-by e c.loop-at.at c.index-rows-at.result k).here in
    let kind = c.is_register.ensures ∙ ap (same_kind kinds.Reg) k.row.says.kind in
    one-more narrow_register (nodes_of e) c.loop-at.at k.of.node c.args.failures.now c.loop-at.failures c.note.new.self (node-at e c.loop-at.at k.of k.here) c.loop-at.invariant
    (c.in_ok-note.ensures.put ∙ (λ j. with_all (when (kind j && not (width j == 32)) (at_ rules.X1 (k.row.says.place j))) c.loop-at.failures))

pub returns : goal.returns
returns c =
    let e = c.args.props.now in
    all-nodes e c.args.rows.now c.requires.rows narrow_register c.loop-at.at c.loop-at-test.false c.args.failures.now c.loop-at.failures c.loop-at.invariant
