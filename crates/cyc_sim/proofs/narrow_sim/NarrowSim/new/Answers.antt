use Rattle.std.proofs.Common.{◌≡◌, ◌+◌, ◌≤◌, length, take, drop, ap, subst, ◌∙◌, arith}
use Rattle.std.specs.Vec.{with_items}
use Rattle.std.proofs.lemmas.List.{length-map, with_items_is}
use Rattle.sim_lanes.specs.Schedules.{IsSchedule}
use Rattle.cyc_sim.specs.Narrow.{low_all}
use Rattle.cyc_sim.proofs.NarrowStepping.{behind_moved}
use Rattle.cyc_sim.proofs.Places.{moved_places}
use Rattle.cyc_sim.proofs.narrow_sim.NarrowSim.new.Goals as goal
use Rattle.cyc_sim.proofs.narrow_sim.NarrowSim.new.Goals.{After-deref_mut-2}

pub put_narrow-requires : goal.put_narrow-requires
put_narrow-requires c =
    let p = c.args.program in
    omega (arith, p.sized, p.front, p.registers.ok.0, c.len-2.ensures, ap length c.deref-2.ensures.value, ap length c.deref_mut.ensures.value, c.in_ok-values.values.ok.0, c.in_ok-values.ensures.len)

-- the values, once the constants are written
long : (c : After-deref_mut-2) → length c.put_narrow.new.values ≡ c.in_ok-values.values.len
long c = omega (arith, ap length c.deref_mut.ensures.value, c.in_ok-values.values.ok.0, c.put_narrow.auto.values)

written : (c : After-deref_mut-2) → c.deref_mut-2.result.now ≡ c.put_narrow.new.values
written c = c.deref_mut-2.ensures.value ∙ with_items_is c.in_ok-values.values c.put_narrow.new.values (long c)

room : (c : After-deref_mut-2) → c.args.program.inputs + length c.args.program.registers.items ≤ length c.deref_mut-2.result.now
room c = let p = c.args.program in omega (arith, p.sized, p.front, ap length (written c), long c, c.in_ok-values.ensures.len)

pub put_low-requires : goal.put_low-requires
put_low-requires c = omega (arith, c.requires, room c)

-- all values
all : (c : goal.After-result-1) → (with_items (with_items c.in_ok-values.values c.put_narrow.new.values) c.put_low.new.values).items ≡ c.put_low.new.values
all c =
    let d = (goal.at.returns-clause-start c).After-deref_mut-2 in
    with_items_is (with_items c.in_ok-values.values c.put_narrow.new.values) c.put_low.new.values (omega (arith, ap length (written d), long d, c.put_low.auto.values))

pub returns-clause-start : goal.returns-clause-start
returns-clause-start c =
    let p = c.args.program in
    let d = (goal.at.returns-clause-start c).After-deref_mut-2 in
    ap (λ vs. take (length p.registers.items) (drop p.inputs vs)) (all c)
    ∙ moved_places _ (low_all c.args.start.now) _ _ p.inputs (length p.registers.items) (length-map c.args.start.now _ ∙ c.requires) (omega (arith, room d)) c.put_low.ensures

pub returns-clause-constants : goal.returns-clause-constants
returns-clause-constants c =
    let p = c.args.program in
    let count = length p.registers.items in
    let more = length p.constants.items in
    let d = (goal.at.returns-clause-constants c).After-deref_mut-2 in
    let first : p.inputs + c.len-2.result ≡ p.inputs + count = omega (arith, c.len-2.ensures, p.registers.ok.0) in
    let kept : take more (drop (p.inputs + c.len-2.result) c.put_narrow.new.values) ≡ c.deref-2.result.now
    = moved_places _ c.deref-2.result.now _ _ (p.inputs + c.len-2.result) more (ap length c.deref-2.ensures.value) (omega (arith, first, room d, ap length (written d), long d, ap length c.deref_mut.ensures.value, c.in_ok-values.values.ok.0)) c.put_narrow.ensures in
    ap (λ vs. take more (drop (p.inputs + count) vs)) (all c)
    ∙ (ap (take more) (behind_moved _ (low_all c.args.start.now) _ p.inputs count (length-map c.args.start.now _ ∙ c.requires) (omega (arith, room d)) c.put_low.ensures)
    ∙ (ap (λ vs. take more (drop (p.inputs + count) vs)) (written d) ∙ (ap (λ n. take more (drop n c.put_narrow.new.values)) (omega (arith, first)) ∙ (kept ∙ c.deref-2.ensures.value))))

pub returns-clause-schedule : goal.returns-clause-schedule
returns-clause-schedule c =
    let vs = (with_items (with_items c.in_ok-values.values c.put_narrow.new.values) c.put_low.new.values).items in
    subst (λ os. IsSchedule c.in_ok-schedule.schedule c.args.program.limit os vs) c.deref.ensures.value (c.in_ok-schedule.ensures c.args.program.limit vs)
