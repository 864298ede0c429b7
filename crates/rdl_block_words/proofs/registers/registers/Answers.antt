use Rattle.std.proofs.Common.{◌≡◌, ◌+◌, Some, slice_get, sym, subst, arith}
use Rattle.rdl_values.specs.Lineages.{lineages_of}
use Rattle.rdl_nodes.specs.Rows.{IsRow}
use Rattle.rdl_nodes.proofs.Members.{get-made}
use Rattle.rdl_sizes.proofs.Begun.{number-is}
use Rattle.rdl_sizes.proofs.Facts.{row-at, rows-many}
use Rattle.rdl_block_words.specs.Entries.{AreEntriesTo}
use Rattle.rdl_block_words.proofs.Entered.{all-entered, none-yet}
use Rattle.rdl_block_words.proofs.registers.registers.Goals as goal

pub add_register-requires-clause-row : goal.add_register-requires-clause-row
add_register-requires-clause-row c =
    let e = c.args.props.now in
    let i = c.loop-at.at in
    let x = c.index-rows-at.result in
    let r = row-at e c.args.rows.now c.requires.rows i x (get-made c.args.rows.now i x x c.loop-at-test.true (sym c.index-rows-at.is)) in
    let id = sym r.2.number in
    (r.0, subst (λ k. slice_get (lineages_of e) k ≡ Some r.0) id r.1, subst (λ k. IsRow e (lineages_of e) k x r.0) id r.2)

pub add_register-requires-clause-before : goal.add_register-requires-clause-before
add_register-requires-clause-before c =
    let id = number-is c.args.props.now c.args.rows.now c.requires.rows c.loop-at.at c.index-rows-at.result c.loop-at-test.true c.index-rows-at.is in
    subst (λ k. AreEntriesTo c.args.props.now k c.loop-at.next c.loop-at.entries.items) (sym id) c.loop-at.invariant

pub loop-at-init : goal.loop-at-init
loop-at-init c = none-yet c.args.props.now c.new-entries.result.items c.new-entries.ensures.items

pub loop-at-preserved : goal.loop-at-preserved
loop-at-preserved c =
    let id = number-is c.args.props.now c.args.rows.now c.requires.rows c.loop-at.at c.index-rows-at.result c.loop-at-test.true c.index-rows-at.is in
    subst (λ k. AreEntriesTo c.args.props.now (k + 1) c.in_ok-next.next c.add_register.new.entries.items) id c.in_ok-next.ensures

pub returns : goal.returns
returns c =
    let many = rows-many c.args.props.now c.args.rows.now c.requires.rows in
    all-entered c.args.props.now c.loop-at.at c.loop-at.next c.loop-at.entries.items (omega (arith, many, c.loop-at-test.false)) c.loop-at.invariant
