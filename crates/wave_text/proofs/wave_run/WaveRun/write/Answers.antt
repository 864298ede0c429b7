use Rattle.rb_edge.proofs.Flowing.{sent, cut_short, whole_of, part_of, rose_of}
use Rattle.wave_text.proofs.Waves.{told_of}
use Rattle.wave_text.proofs.wave_run.WaveRun.write.Goals as goal

pub returns-in_err-put_run-clause-written : goal.returns-in_err-put_run-clause-written
returns-in_err-put_run-clause-written g c = let r = c.in_err-put_run.ensures in
    (r.0, r.1, told_of c.from_residual.result (cut_short c.from_residual.result c.from_residual.ensures.0 c.new-page.ensures r.2))

pub returns-in_err-put_run-clause-later : goal.returns-in_err-put_run-clause-later
returns-in_err-put_run-clause-later g c = c.in_err-put_run.ensures.2.later

pub returns-in_err-put_run-clause-failed : goal.returns-in_err-put_run-clause-failed
returns-in_err-put_run-clause-failed g c = rose_of c.from_residual.result (cut_short c.from_residual.result c.from_residual.ensures.0 c.new-page.ensures c.in_err-put_run.ensures.2)

pub returns-clause-written : goal.returns-clause-written
returns-clause-written g c = let r = c.in_ok-put_run.ensures in
    (r.0, r.1, told_of c.flush.result (sent c.new-page.ensures r.2 c.flush.ensures.flows c.flush.ensures.empty))

pub returns-clause-later : goal.returns-clause-later
returns-clause-later g c = (sent c.new-page.ensures c.in_ok-put_run.ensures.2 c.flush.ensures.flows c.flush.ensures.empty).later

pub returns-clause-failed : goal.returns-clause-failed
returns-clause-failed g c = rose_of c.flush.result (sent c.new-page.ensures c.in_ok-put_run.ensures.2 c.flush.ensures.flows c.flush.ensures.empty)
