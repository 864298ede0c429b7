use Rattle.std.proofs.Common.{◌≡◌, ap, arith, flat_map}
use Rattle.html_text.specs.Writing.{at}
use Rattle.html_text.proofs.Looping.{begins_as, done, step}
use Rattle.manual_sections.specs.Sections.{bit_head, down}
use Rattle.manual_sections.proofs.Down.{down_step}
use Rattle.manual_sections.proofs.sections.put_heads.Goals as goal

pub loop-left-init : goal.loop-left-init
loop-left-init g c = record {
  goes = begins_as (at (g.K.Sink.told c.args.out.now) (g.K.Sink.faults c.args.out.now) c.args.pen.now) (ap (λ n. flat_map (bit_head) (down c.args.base n)) c.count_of-left.ensures);
  within = omega (arith, c.count_of-left.ensures);
}

pub loop-left-preserved : goal.loop-left-preserved
loop-left-preserved g c = record {
  goes = step _ (down_step (bit_head) c.args.base c.loop-left.left c.loop-left-test.true) c.loop-left.invariant.goes c.put_bit_head.ensures;
  within = omega (arith, c.loop-left.invariant.within);
}

pub returns : goal.returns
returns g c = let e : c.loop-left.left ≡ 0 = omega (arith, c.loop-left-test.false) in done (ap (λ n. flat_map (bit_head) (down c.args.base n)) e) c.loop-left.invariant.goes
