use Rattle.std.proofs.Common.{length, refl}
use Rattle.std.proofs.lemmas.Option.{slice_get_read}
use Rattle.rb_machine.proofs.sources.source_at.Goals as goal

pub returns-in-Some : goal.returns-in-Some
returns-in-Some c b order i are here =
    let l = c.in-Some.ensures.lookup in
    are c.args.place i c.in-Some.source.now here (slice_get_read c.args.sources.now (length c.args.sources.now) c.args.place c.in-Some.source.now refl l.3.0 l.1)
