use Rattle.std.proofs.Common.{◌-◌, arith}
use Rattle.rb_grammar.proofs.Scanning.{lacks_so_far, lacks_all, split_at}
use Rattle.rb_grammar.proofs.separators.body_len.Goals as goal

pub returns-then-text-i-eq47 : goal.returns-then-text-i-eq47
returns-then-text-i-eq47 c = (
  lacks_so_far 42 47 (c.loop-i.i - 1) c.args.text.now (λ k lt. c.loop-i.invariant k (omega arith)),
  split_at c.loop-i.i c.args.text.now (omega arith) c.loop-i-test.true c.if-text-i-eq42.true c.if-text-i-eq47.true,
)

pub returns : goal.returns
returns c = lacks_all 42 47 c.loop-i.i c.args.text.now c.loop-i-test.false c.loop-i.invariant
