use Rattle.std.proofs.Common.{◌≡◌, arith, rules}
use Rattle.std.proofs.lemmas.List.Elements.{same_from_all_zip}
use Rattle.rdl_sizes.proofs.Turns.{read-at}
use Rattle.rdl_members.proofs.Firsts.{first-listed, first-more, first-whole, none-yet}
use Rattle.rdl_members.proofs.Founding.{are-members}
use Rattle.rdl_members.proofs.table.members_of.Goals as goal

pub loop-row-init : goal.loop-row-init
loop-row-init c = none-yet c.args.elab.now.count c.in_ok-nodes.nodes.items 0 c.in_ok-nodes.ensures.items

pub loop-row-preserved : goal.loop-row-preserved
loop-row-preserved c =
    first-more c.args.elab.now.count c.args.rows.now c.loop-row.row-index c.row-item.result c.loop-row.nodes.items c.add.new.nodes.items c.loop-row.most c.at_least-most.result
    (read-at c.args.rows.now c.loop-row.row-index c.row-item.result c.loop-row-test.true c.row-item.is) c.loop-row.invariant c.in_ok-add.ensures c.at_least-most.ensures.more c.at_least-most.ensures.few

pub returns : goal.returns
returns c =
    let copied : c.in_ok-clone.field-0.items ≡ c.loop-row.nodes.items = search (rules, same_from_all_zip) in
    are-members c.args.elab.now c.requires.clean c.args.rows.now c.requires.rows (record { elements = c.in_ok-elements.elements; names = c.in_ok-names.names; most = c.loop-row.most })
    (first-listed c.args.elab.now.count c.args.rows.now c.loop-row.nodes.items c.in_ok-clone.field-0.items (record { elements = c.in_ok-elements.elements; names = c.in_ok-names.names; most = c.loop-row.most }) copied c.in_ok-elements.ensures c.in_ok-names.ensures
    (first-whole c.args.elab.now.count c.args.rows.now c.loop-row.row-index c.loop-row.nodes.items c.loop-row.most (omega (arith, c.loop-row-test.false, c.loop-row.auto.row-index-end)) c.loop-row.invariant))
