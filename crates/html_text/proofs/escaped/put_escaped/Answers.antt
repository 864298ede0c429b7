use Rattle.html_text.specs.Escaped.{escaped}
use Rattle.html_text.specs.Writing.{at}
use Rattle.html_text.proofs.Escaping.{byte_step}
use Rattle.html_text.proofs.Looping.{begins, step}
use Rattle.html_text.proofs.escaped.put_escaped.Goals as goal

pub loop-rest-init : goal.loop-rest-init
loop-rest-init g c = rw c.is_utf8-good.ensures (begins (at (g.K.Sink.told c.args.out.now) (g.K.Sink.faults c.args.out.now) c.args.pen.now) (escaped c.args.bytes.now))

pub loop-rest-preserved : goal.loop-rest-preserved
loop-rest-preserved g c = step _ (byte_step c.is_utf8-good.result c.loop-rest.taken c.loop-rest.rest.now c.put_byte-taken.result c.in-len1-up.len_at_least c.put_byte-taken.ensures.taken) c.loop-rest.invariant c.put_byte-taken.ensures.text
