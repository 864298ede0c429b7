use Rattle.std.proofs.Common.{ap, flat_map}
use Rattle.html_text.specs.Writing.{at}
use Rattle.html_text.proofs.Cuts.{first}
use Rattle.html_text.proofs.Looping.{begins, step}
use Rattle.manual_words.specs.Sentences.{point}
use Rattle.manual_words.proofs.sentences.put_each.Goals as goal

pub loop-rest-init : goal.loop-rest-init
loop-rest-init g c = begins (at (g.K.Sink.told c.args.out.now) (g.K.Sink.faults c.args.out.now) c.args.pen.now) (flat_map (point c.args.sight.now c.args.f.now c.args.v.now) c.args.effects.now)

pub loop-rest-preserved : goal.loop-rest-preserved
loop-rest-preserved g c = step _ (ap (flat_map (point c.args.sight.now c.args.f.now c.args.v.now)) (first c.loop-rest.rest.now _ c.in-len1-up.len_at_least)) c.loop-rest.invariant c.put_point.ensures
