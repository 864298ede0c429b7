use Rattle.std.proofs.Common.{arith}
use Rattle.rb_grammar.specs.Separators.{stay}
use Rattle.rb_grammar.proofs.Scanning.{skip_more}
use Rattle.rb_grammar.proofs.separators.separators_len.Goals as goal

pub loop-more-init : goal.loop-more-init
loop-more-init c = record { within = omega arith; skips = stay }

pub loop-more-preserved : goal.loop-more-preserved
loop-more-preserved c =
    let p = skip_more c.args.comments c.args.text.now c.loop-more.len c.in-Some.more c.loop-more.invariant.within c.loop-more.invariant.skips c.in-Some.ensures (omega (arith, c.in-Some.more-test.1)) in
    record { within = p.0; skips = p.1 }
