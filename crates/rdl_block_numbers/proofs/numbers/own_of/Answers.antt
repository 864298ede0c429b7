use Rattle.std.proofs.Common.{◌≡◌, subst, arith}
use Rattle.rdl_values.specs.Elaborated.{nodes_of}
use Rattle.rdl_nodes.proofs.Members.{get-read}
use Rattle.rdl_sizes.proofs.Facts.{count-is, node-at, row-at, rows-many}
use Rattle.rdl_sizes.proofs.Turns.{read-at}
use Rattle.rdl_block_numbers.specs.Numbers.{AreOwnTo}
use Rattle.rdl_block_numbers.proofs.Owning.{none-own, one-own}
use Rattle.rdl_block_numbers.proofs.numbers.own_of.Goals as goal

pub loop-at-init : goal.loop-at-init
loop-at-init c = none-own c.args.elab.now c.new-own.result.items c.new-own.ensures.items

pub bounds-signals-at : goal.bounds-signals-at
bounds-signals-at c = let many = rows-many c.args.elab.now c.args.rows.now c.requires.rows in let count = count-is c.args.elab.now c.requires.clean in omega (arith, many, count, c.requires.signals.many, c.loop-at-test.true)

pub bounds-fields-at : goal.bounds-fields-at
bounds-fields-at c = let many = rows-many c.args.elab.now c.args.rows.now c.requires.rows in let count = count-is c.args.elab.now c.requires.clean in omega (arith, many, count, c.requires.fields.many, c.loop-at-test.true)

pub bounds-registers-at : goal.bounds-registers-at
bounds-registers-at c = let many = rows-many c.args.elab.now c.args.rows.now c.requires.rows in let count = count-is c.args.elab.now c.requires.clean in omega (arith, many, count, c.requires.registers.many, c.loop-at-test.true)

pub loop-at-preserved : goal.loop-at-preserved
loop-at-preserved c =
    let e = c.args.elab.now in
    let at = c.loop-at.at in
    let r = row-at e c.args.rows.now c.requires.rows at c.index-rows-at.result (read-at c.args.rows.now at c.index-rows-at.result c.loop-at-test.true c.index-rows-at.is) in
    let n = r.0.node in
    let here = node-at e at r.0 r.1 in
    one-own e at n here c.loop-at.own.items c.push.new.self.items c.own_at.result c.loop-at.invariant c.in_ok-push.ensures.items
    (c.own_at.ensures (nodes_of e) n r.2.says.kind
    (get-read c.args.signals.now at 0 _ (c.requires.signals.each at n here))
    (get-read c.args.fields.now at 0 _ (c.requires.fields.each at n here))
    (get-read c.args.registers.now at 0 _ (c.requires.registers.each at n here)))

pub returns : goal.returns
returns c =
    let e = c.args.elab.now in
    let many = rows-many e c.args.rows.now c.requires.rows in
    let count = count-is e c.requires.clean in
    let whole : c.loop-at.at ≡ e.count = omega (arith, many, count, c.loop-at.auto.at-end, c.loop-at-test.false) in
    subst (λ k. AreOwnTo e k c.loop-at.own.items) whole c.loop-at.invariant
