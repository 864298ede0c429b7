use Rattle.std.proofs.Common.{◌≡◌, length, take, ap, arith}
use Rattle.std.proofs.lemmas.Bool.{OnTrue_at}
use Rattle.std.proofs.lemmas.List.{length-take, with_items_is}
use Rattle.sim_lanes.proofs.Moving.{calm_all}
use Rattle.sim_lanes.proofs.schedule.Schedule.settle_all.Goals as goal

pub returns-clause-schedule : goal.returns-clause-schedule
returns-clause-schedule c = λ runs h.
    let s = c.args.self.now in
    let os = c.args.operations.now in
    let vs = take c.args.first c.args.values.now in
    let long : length c.clear.new.due ≡ s.due.len = omega (arith, ap length c.deref_mut.ensures.value, s.due.ok.0, c.clear.auto.due) in
    let is = with_items_is s.due c.clear.new.due long in
    record {
      room = omega (arith, h.room, ap length is, long, s.due.ok.0);
      fed = h.fed;
      calm = λ yes. (
        h.fed (OnTrue_at yes c.becomes_calm-calm.ensures),
        calm_all os _ c.settle_narrow.new.values vs c.args.first (omega (arith, length-take c.args.first c.args.values.now, c.requires.sized)) c.requires.below (c.settle_narrow.ensures runs)
            (omega (arith, h.room, ap length is, long, s.due.ok.0)),
      );
    }
