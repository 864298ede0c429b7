use Rattle.std.proofs.Common.{◌≡◌, ◌∙◌, subst, arith}
use Rattle.rdl_sizes.proofs.Facts.{count-is, node-at, row-at, rows-many}
use Rattle.rdl_sizes.proofs.Turns.{read-at}
use Rattle.rdl_block_numbers.specs.Texts.{AreTextsTo}
use Rattle.rdl_block_numbers.proofs.Placing.{no-texts, one-text}
use Rattle.rdl_block_numbers.proofs.table.path_texts.Goals as goal

pub loop-at-init : goal.loop-at-init
loop-at-init c = no-texts c.args.elab.now c.new-texts.result c.new-texts.ensures

pub loop-at-preserved : goal.loop-at-preserved
loop-at-preserved c =
    let e = c.args.elab.now in
    let at = c.loop-at.at in
    let r = row-at e c.args.rows.now c.requires.rows at c.index-rows-at.result (read-at c.args.rows.now at c.index-rows-at.result c.loop-at-test.true c.index-rows-at.is) in
    one-text e at r.0.node (node-at e at r.0 r.1) c.loop-at.texts c.add.new.self c.deref.result.now c.loop-at.invariant c.in_ok-add.ensures.ok
    (c.deref.ensures.value ∙ (c.text.view_is ∙ c.in_ok-text.ensures e at r.0 c.requires.rows r.1 r.2 c.loop-at.invariant))

pub returns : goal.returns
returns c =
    let e = c.args.elab.now in
    let many = rows-many e c.args.rows.now c.requires.rows in
    let count = count-is e c.requires.clean in
    let whole : c.loop-at.at ≡ e.count = omega (arith, many, count, c.loop-at.auto.at-end, c.loop-at-test.false) in
    subst (λ k. AreTextsTo e k c.loop-at.texts) whole c.loop-at.invariant
