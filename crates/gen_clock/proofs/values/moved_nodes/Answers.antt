use Rattle.std.proofs.Common.{◌≡◌, length, sym, subst, arith}
use Rattle.rb_model.specs.declared.kinds.RefItem.TheVariants as item
use Rattle.gen_access.specs.Tables.{AreNodes, AreWorth}
use Rattle.gen_access.proofs.Turns.{lent}
use Rattle.gen_clock.specs.Edges.{AreMoved}
use Rattle.gen_clock.proofs.Edging.{all_moved, has_places, values_stand, values_worth}
use Rattle.gen_clock.proofs.values.moved_nodes.Goals as goal

pub value_nodes-requires : goal.value_nodes-requires
value_nodes-requires c = has_places c.args.net.now c.args.scene.now c.requires.scene

pub put_edge-requires-clause-table : goal.put_edge-requires-clause-table
put_edge-requires-clause-table c =
    subst (λ t. AreNodes c.args.scene.now.base.now.block.now c.args.net.now t (λ f. f.width)) (sym c.deref_mut.ensures.value) (values_stand c.args.net.now c.args.scene.now c.in_ok-table.table.items c.requires.scene c.in_ok-table.ensures)

pub returns-clause-moved : goal.returns-clause-moved
returns-clause-moved c =
    let b = c.args.scene.now.base.now.block.now in
    let a = c.args.scene.now.base.now.inlet in
    let before : AreWorth b a c.args.net.now c.deref_mut.result.now (λ f. f.width) (λ k f n v. v (item.Field k))
    = subst (λ t. AreWorth b a c.args.net.now t (λ f. f.width) (λ k f n v. v (item.Field k))) (sym c.deref_mut.ensures.value) (values_worth c.args.net.now c.args.scene.now c.in_ok-table.table.items c.requires.scene c.in_ok-table.ensures) in
    let moved = all_moved b a c.args.net.now c.put_edge.new.net c.deref_mut.result.now c.put_edge.new.table c.in_ok-put_edge.ensures.table.long c.in_ok-put_edge.ensures.changes before in
    let long : length c.put_edge.new.table ≡ c.in_ok-table.table.len = (let l = c.in_ok-table.table.ok.0 in let p = c.in_ok-put_edge.ensures.table.long in let q = c.in_ok-table.ensures.long in omega arith) in
    subst (AreMoved b a c.put_edge.new.net) (sym (lent c.in_ok-table.table.len c.put_edge.new.table c.in_ok-table.table.items long)) moved
