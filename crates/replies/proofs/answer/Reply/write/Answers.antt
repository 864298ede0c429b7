use Rattle.rb_edge.proofs.Taken.{Takes-nil}
use Rattle.replies.specs.Ends.{passage}
use Rattle.replies.proofs.Writing.{dump-cut, module-whole, module-cut}
use Rattle.replies.proofs.answer.Reply.write.Goals as goal

pub returns-in-Ok : goal.returns-in-Ok
returns-in-Ok g c =
    module-whole (passage g.E.Sink.told g.E.Sink.faults c.args.err.now c.args.err.now) (passage g.O.Sink.told g.O.Sink.faults c.args.out.now c.print.new.out) c.args.self c.in-Module.net c.in-Module.is c.in-Ok.ensures.module (Takes-nil (g.E.Sink.told c.args.err.now)) c.in-Ok.ensures.whole

pub returns-in-Module : goal.returns-in-Module
returns-in-Module g c =
    module-cut (passage g.E.Sink.told g.E.Sink.faults c.args.err.now c.args.err.now) (passage g.O.Sink.told g.O.Sink.faults c.args.out.now c.print.new.out) c.args.self c.in-Module.net c.in-Module.is c.in-Err.ensures.module (Takes-nil (g.E.Sink.told c.args.err.now)) c.in-Err.ensures.part c.in-Err.ensures.failed

pub returns-in-Dump : goal.returns-in-Dump
returns-in-Dump g c =
    let written = c.in-Err-write.ensures.written in
    dump-cut (passage g.E.Sink.told g.E.Sink.faults c.args.err.now c.args.err.now) (passage g.O.Sink.told g.O.Sink.faults c.args.out.now c.write-in-Dump.new.out) c.args.self c.in-Dump.run' written.0 c.in-Dump.is written.1 (Takes-nil (g.E.Sink.told c.args.err.now)) written.2 c.in-Err-write.ensures.failed
