use Rattle.std.proofs.Common.{◌∙◌, sym}
use Rattle.rdl_rules.specs.RegisterRules.{is_same_bits}
use Rattle.rdl_field_rules.proofs.Turns.{any-read, none-any, none-read}
use Rattle.rdl_field_rules.proofs.likes.has_like.Goals as goal

pub returns-then-are_alike : goal.returns-then-are_alike
returns-then-are_alike c = λ e b cs h g. any-read c.other-item.result e c.args.others.now cs g (is_same_bits b) c.loop-other.other-index c.loop-other-test.true c.other-item.is (λ d i. sym (c.are_alike.ensures e b d h i) ∙ c.if-are_alike.true)

pub loop-other-preserved : goal.loop-other-preserved
loop-other-preserved c = λ e b cs h g. none-read c.other-item.result e c.args.others.now cs g (is_same_bits b) c.loop-other.other-index c.loop-other-test.true c.other-item.is (c.loop-other.invariant e b cs h g) (λ d i. sym (c.are_alike.ensures e b d h i) ∙ c.if-are_alike.false)

pub returns : goal.returns
returns c = λ e b cs h g. none-any e c.args.others.now cs g (is_same_bits b) c.loop-other.other-index c.loop-other-test.false (c.loop-other.invariant e b cs h g)
