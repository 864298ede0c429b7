use Rattle.c_header.specs.Header.{addend}
use Rattle.c_header.proofs.Numbered.{added-number}
use Rattle.c_header.proofs.lines.push_addends.Goals as goal

pub loop-place-preserved : goal.loop-place-preserved
loop-place-preserved c =
    added-number addend c.args.strides.now c.loop-place.place c.args.text.now.items c.loop-place.text.items c.push_addend.new.text.items c.loop-place-test.true c.loop-place.invariant c.in_ok-push_addend.ensures
