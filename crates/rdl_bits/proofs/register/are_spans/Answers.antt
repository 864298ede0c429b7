use Rattle.std.proofs.Common.{◌∙◌, refl, sym, arith}
use Rattle.rdl_layout.specs.Fields as fields
use Rattle.rdl_bits.proofs.Lists.{one-more}
use Rattle.rdl_bits.proofs.register.are_spans.Goals as goal

pub loop-one-preserved : goal.loop-one-preserved
loop-one-preserved c = one-more fields.IsSpan c.args.bits.now c.loop-one.one-index _ c.loop-one-test.true (c.is_span.ensures.0 c.if-not-is_span.false) c.loop-one.invariant

pub returns-then-not-is_span : goal.returns-then-not-is_span
returns-then-not-is_span c = (λ t. cc t, λ all. sym c.if-not-is_span.true ∙ c.is_span.ensures.1 (all c.loop-one.one-index _ c.loop-one-test.true))

pub returns : goal.returns
returns c = (λ t k d l. c.loop-one.invariant k d (let e = c.loop-one-test.false in omega (arith, e, l)), λ all. refl)
