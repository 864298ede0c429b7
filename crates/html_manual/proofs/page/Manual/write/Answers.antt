use Rattle.std.proofs.Common.{ap}
use Rattle.html_text.proofs.Wrote.{ended}
use Rattle.html_manual.proofs.page.Manual.write.Goals as goal

pub returns : goal.returns
returns g c =
    ended c.new_pen-pen.ensures.page c.new_pen-pen.ensures.failed c.put_page.ensures c.finish.ensures.told c.finish.ensures.empty
    (λ e. let s = c.finish.ensures.stopped e in (s.0, ap g.K.Sink.told s.1, ap g.K.Sink.faults s.1))
