use Rattle.std.proofs.Common.{◌≡◌, length, ap, sym, subst, arith}
use Rattle.std.proofs.lemmas.List.{with_items_is}
use Rattle.sim_lanes.specs.Due.{IsCalm}
use Rattle.sim_lanes.proofs.schedule.Schedule.write.Goals as goal

pub returns-then-stays-clause-schedule : goal.returns-then-stays-clause-schedule
returns-then-stays-clause-schedule c = λ first os front h.
    let s = c.args.self.now in
    let long : length c.change_all.new.due ≡ s.due.len = omega (arith, ap length c.deref_mut.ensures.value, s.due.ok.0, c.change_all.auto.due) in
    let is = with_items_is s.due c.change_all.new.due long in
    record {
      room = omega (arith, h.room, ap length is, long, s.due.ok.0);
      fed = h.fed;
      calm = λ yes. let k = h.calm yes in (
        k.0,
        subst (λ due. IsCalm due first os c.change_all.new.values) (sym is) (c.change_all.ensures.calm first os front k.0 (subst (λ due. IsCalm due first os c.args.values.now) (sym c.deref_mut.ensures.value) k.1)),
      );
    }
