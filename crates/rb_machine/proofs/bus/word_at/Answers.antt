use Rattle.std.proofs.Common.{Ok, Err}
use Rattle.std.proofs.lemmas.List.Sorted.{searched}
use Rattle.rb_machine.proofs.Buses.{found_at, found_nowhere, never_falls}
use Rattle.rb_machine.proofs.bus.word_at.Goals as goal

pub returns-in-Ok : goal.returns-in-Ok
returns-in-Ok c =
    let s = searched c.args.addresses.now c.args.address (Ok c.in-Ok.number) c.in-Ok.ensures.position (never_falls c.args.addresses.now c.requires) in
    found_at c.args.addresses.now c.args.address c.in-Ok.number c.requires s.0 s.1

pub returns-in-Err : goal.returns-in-Err
returns-in-Err c =
    let s = searched c.args.addresses.now c.args.address (Err c.in-Err.field-0) c.in-Err.ensures.position (never_falls c.args.addresses.now c.requires) in
    found_nowhere c.args.addresses.now c.args.address c.in-Err.field-0 s.1 s.2
