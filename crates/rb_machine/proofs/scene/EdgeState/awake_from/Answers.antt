use Rattle.std.proofs.Common.{false, true, length, refl}
use Rattle.std.proofs.lemmas.Option.{slice_get_read}
use Rattle.rb_machine.specs.Quiet.{IsNextBusy}
use Rattle.rb_machine.proofs.Busy.{found_at, rests_light}
use Rattle.rb_machine.proofs.scene.EdgeState.awake_from.Goals as goal

found : (c : goal.After-row_known-1) → IsNextBusy c.args.self.now.block.now.fields c.args.number c.in-Some.next.now
found c =
    let s = c.args.self.now in
    let l = c.in-Some.ensures.lookup in
    found_at s.block.now.fields s.next.now c.args.number c.in-Some.next.now c.requires.next
    (slice_get_read s.next.now (length s.next.now) c.args.number c.in-Some.next.now refl l.3.0 l.1)

pub returns-in-Some-clause-rest : goal.returns-in-Some-clause-rest
returns-in-Some-clause-rest c k f from to here = rests_light c.args.self.now.is_reset f true c.if-self.false ((found c).light k f from to here)

pub returns-in-Some-clause-awake : goal.returns-in-Some-clause-awake
returns-in-Some-clause-awake c f here = rests_light c.args.self.now.is_reset f false c.if-self.false ((found c).busy f here)
