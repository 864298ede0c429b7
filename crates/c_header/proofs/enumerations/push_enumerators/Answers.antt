use Rattle.c_header.specs.Enumerators.{enumerator_macro}
use Rattle.c_header.specs.Header.{line}
use Rattle.c_header.proofs.Taken.{flat-map-step}
use Rattle.c_header.proofs.enumerations.push_enumerators.Goals as goal

pub loop-at-preserved : goal.loop-at-preserved
loop-at-preserved c =
    flat-map-step line (enumerator_macro c.args.begin.now c.args.path.now c.args.repeats.now c.args.encoding.now) c.args.encoding.now.entries c.loop-at.at (c.enumerator_at-value.result.0.now, c.enumerator_at-value.result.1) c.args.text.now.items c.loop-at.text.items c.push_enumerator.new.text.items
    c.enumerator_at-value.ensures c.loop-at.invariant c.in_ok-push_enumerator.ensures
