use Rattle.sim_lanes.proofs.schedule.Schedule.take.Goals as goal

pub returns-clause-schedule : goal.returns-clause-schedule
returns-clause-schedule c = λ first os front h. c.write.ensures.schedule first os front (record { room = h.room; fed = h.fed; calm = h.calm })
