use Rattle.std.proofs.Common.{◌≡◌, ◌∙◌, subst, arith}
use Rattle.rdl_values.specs.Elaborated.{nodes_of}
use Rattle.rdl_values.specs.Instances.{kind_of}
use Rattle.rdl_nodes.proofs.Members.{get-read}
use Rattle.rdl_sizes.proofs.Facts.{count-is, node-at, row-at, rows-many}
use Rattle.rdl_sizes.proofs.Turns.{read-at}
use Rattle.rdl_block_numbers.specs.Numbers.{AreViewedTo, own_number}
use Rattle.rdl_block_numbers.proofs.Naming.{own-field}
use Rattle.rdl_block_numbers.proofs.Viewing.{no-views, one-view}
use Rattle.rdl_block_numbers.proofs.numbers.viewed_numbers.Goals as goal

pub loop-at-init : goal.loop-at-init
loop-at-init c = no-views c.args.elab.now c.new-viewed.result.items c.new-viewed.ensures.items

pub bounds-own-at : goal.bounds-own-at
bounds-own-at c = let many = rows-many c.args.elab.now c.args.rows.now c.requires.rows in let count = count-is c.args.elab.now c.requires.clean in omega (arith, many, count, c.requires.own.many, c.loop-at-test.true)

pub loop-at-preserved : goal.loop-at-preserved
loop-at-preserved c =
    let e = c.args.elab.now in
    let at = c.loop-at.at in
    let many = rows-many e c.args.rows.now c.requires.rows in
    let count = count-is e c.requires.clean in
    let r = row-at e c.args.rows.now c.requires.rows at c.index-rows-at.result (read-at c.args.rows.now at c.index-rows-at.result c.loop-at-test.true c.index-rows-at.is) in
    let here = node-at e at r.0 r.1 in
    let own = get-read c.args.own.now at 0 (own_number (nodes_of e) r.0.node) (c.requires.own.each at r.0.node (omega (arith, many, count, c.loop-at-test.true)) here) in
    one-view e at r.0 r.1 c.loop-at.viewed.items c.push.new.self.items c.viewed_at.result c.loop-at.invariant c.in_ok-push.ensures.items
    (λ p up field line. c.viewed_at.ensures e at r.0 p up c.requires.clean c.requires.rows c.requires.fields r.2 line (own ∙ own-field (nodes_of e) r.0.node (kind_of r.0.node) (λ i. kind_of r.0.node) field))

pub returns : goal.returns
returns c =
    let e = c.args.elab.now in
    let many = rows-many e c.args.rows.now c.requires.rows in
    let count = count-is e c.requires.clean in
    let whole : c.loop-at.at ≡ e.count = omega (arith, many, count, c.loop-at.auto.at-end, c.loop-at-test.false) in
    subst (λ k. AreViewedTo e k c.loop-at.viewed.items) whole c.loop-at.invariant
