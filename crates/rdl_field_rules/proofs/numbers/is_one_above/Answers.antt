use Rattle.std.proofs.Common.{◌≡◌, ◌∙◌, ◌^◌, ◌||◌, ap, sym}
use Rattle.std.specs.List.{list_any}
use Rattle.std.proofs.lemmas.List.{take_all}
use Rattle.std.proofs.lemmas.List.Folds.{list_any_at, list_any_more}
use Rattle.rdl_layers.specs.Settings.{setting}
use Rattle.rdl_rules.specs.FieldRules as rules
use Rattle.rdl_field_rules.proofs.numbers.is_one_above.Goals as goal

pub returns-then-is_above : goal.returns-then-is_above
returns-then-is_above c = λ n at. sym (list_any_at (λ p. rules.is_above (2 ^ c.args.width) (setting n p)) c.args.list.now c.loop-prop.prop-index _ c.loop-prop-test.true (sym (c.is_above.ensures n at) ∙ c.if-is_above.true))

pub loop-prop-preserved : goal.loop-prop-preserved
loop-prop-preserved c = λ n at.
    list_any_more (λ p. rules.is_above (2 ^ c.args.width) (setting n p)) c.args.list.now c.loop-prop.prop-index _ c.loop-prop-test.true
    ∙ (λ i. c.loop-prop.invariant n at i || (sym (c.is_above.ensures n at) ∙ c.if-is_above.false) i)

pub returns : goal.returns
returns c = λ n at. sym (c.loop-prop.invariant n at) ∙ ap (list_any (λ p. rules.is_above (2 ^ c.args.width) (setting n p))) (take_all c.loop-prop.prop-index c.args.list.now c.loop-prop-test.false)
