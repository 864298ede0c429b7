use Rattle.std.proofs.Common.{◌≡◌, if◌then◌else◌, length, sym, subst, arith}
use Rattle.rb_model.specs.Kept.{Done}
use Rattle.gen_access.specs.Tables.{AreWorth}
use Rattle.gen_access.specs.Words.{written_word, writes_through}
use Rattle.gen_access.specs.Touches.{one_bit}
use Rattle.gen_access.proofs.Turns.{AreHitsOf-grows, HasViews-grows, lent}
use Rattle.gen_clock.specs.Edges.{AreUsed}
use Rattle.gen_clock.proofs.Edging.{all_used}
use Rattle.gen_clock.proofs.values.used_nodes.Goals as goal

pub software_nodes-requires-clause-views : goal.software_nodes-requires-clause-views
software_nodes-requires-clause-views c = HasViews-grows c.args.net.now c.done_nodes.new.net c.args.scene.now c.in_ok-table.ensures.older c.requires.scene.views

pub software_nodes-requires-clause-hits : goal.software_nodes-requires-clause-hits
software_nodes-requires-clause-hits c =
    let b = c.args.scene.now.base.now.block.now in
    let a = c.args.scene.now.base.now.inlet in
    AreHitsOf-grows b a c.args.net.now c.done_nodes.new.net b.writes written_word writes_through c.args.writes.now c.in_ok-table.ensures.older c.requires.writes

pub returns-clause-used : goal.returns-clause-used
returns-clause-used c =
    let b = c.args.scene.now.base.now.block.now in
    let a = c.args.scene.now.base.now.inlet in
    let before : AreWorth b a c.done_nodes.new.net c.deref_mut.result.now one_bit (λ k f n v. if f.once then n.kept (Done k) else 0)
    = subst (λ t. AreWorth b a c.done_nodes.new.net t one_bit (λ k f n v. if f.once then n.kept (Done k) else 0)) (sym c.deref_mut.ensures.value) c.in_ok-table.ensures.worth in
    let used = all_used b a c.done_nodes.new.net c.software_nodes.new.net c.deref_mut.result.now c.software_nodes.new.table c.in_ok-software_nodes.ensures.table.long c.in_ok-software_nodes.ensures.changes before in
    let long : length c.software_nodes.new.table ≡ c.in_ok-table.table.len = (let l = c.in_ok-table.table.ok.0 in let p = c.in_ok-software_nodes.ensures.table.long in let q = c.in_ok-table.ensures.table.long in omega arith) in
    subst (AreUsed b a c.software_nodes.new.net) (sym (lent c.in_ok-table.table.len c.software_nodes.new.table c.in_ok-table.table.items long)) used
