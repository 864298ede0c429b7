use Rattle.std.proofs.Common.{◌≡◌, length, take, drop, ap, ◌∙◌, arith}
use Rattle.std.specs.Vec.{with_items}
use Rattle.std.proofs.lemmas.List.{with_items_is}
use Rattle.cyc_sim.proofs.Places.{moved_places}
use Rattle.cyc_sim.proofs.sim.WideSim.new.Goals as goal

pub put-requires : goal.put-requires
put-requires c = let p = c.args.program in omega (arith, c.requires, p.sized, ap length c.deref_mut.ensures.value, c.in_ok-values.values.ok.0, c.in_ok-values.ensures.len)

-- the contents are those that the simulation starts at
contents : (c : goal.After-result-1) → take (length c.args.program.registers.items) (drop c.args.program.inputs c.put.new.values) ≡ c.args.start.now
contents c =
    let p = c.args.program in
    moved_places _ c.args.start.now _ _ p.inputs (length p.registers.items) c.requires (omega (arith, p.sized, ap length c.deref_mut.ensures.value, c.in_ok-values.values.ok.0, c.in_ok-values.ensures.len)) c.put.ensures

written : (c : goal.After-result-1) → (with_items c.in_ok-values.values c.put.new.values).items ≡ c.put.new.values
written c = with_items_is c.in_ok-values.values c.put.new.values (omega (arith, ap length c.deref_mut.ensures.value, c.in_ok-values.values.ok.0, c.put.auto.values))

pub returns-clause-start : goal.returns-clause-start
returns-clause-start c = let p = c.args.program in ap (λ vs. take (length p.registers.items) (drop p.inputs vs)) (written c) ∙ contents c
