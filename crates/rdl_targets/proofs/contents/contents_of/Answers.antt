use Rattle.std.proofs.Common.{◌≡◌, rules}
use Rattle.std.proofs.lemmas.List.Elements.{same_from_all_zip}
use Rattle.rdl_targets.specs.declared.contents.Contents.{Contents}
use Rattle.rdl_targets.proofs.Contained.{all_bodies, all_listed, are_contents, more_bodies, no_bodies}
use Rattle.rdl_targets.proofs.contents.contents_of.Goals as goal

pub loop-row-init : goal.loop-row-init
loop-row-init c = no_bodies c.in_ok-nodes.nodes.items c.in_ok-nodes.ensures.items

pub loop-row-preserved : goal.loop-row-preserved
loop-row-preserved c = more_bodies c.args.rows.now c.loop-row.row-index c.row-item.result c.loop-row.nodes.items c.add_body.new.nodes.items c.loop-row-test.true c.row-item.is c.loop-row.invariant c.in_ok-add_body.ensures

pub returns : goal.returns
returns c =
    let copied : c.in_ok-clone.field-0.items ≡ c.loop-row.nodes.items = search (rules, same_from_all_zip) in
    let lists : Contents = record { names = c.in_ok-names.names; elements = c.in_ok-elements.elements } in
    let held = all_bodies c.args.rows.now c.loop-row.row-index c.loop-row.nodes.items c.loop-row-test.false c.loop-row.invariant in
    (λ e are. are_contents e c.args.rows.now lists are (all_listed c.args.rows.now c.loop-row.nodes.items c.in_ok-clone.field-0.items lists copied c.in_ok-names.ensures c.in_ok-elements.ensures held))
