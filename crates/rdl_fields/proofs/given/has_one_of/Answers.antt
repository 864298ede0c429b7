use Rattle.std.proofs.Common.{◌∙◌, sym}
use Rattle.std.proofs.lemmas.List.Folds.{list_any_at}
use Rattle.rdl_layers.specs.Fields as fields
use Rattle.rdl_fields.proofs.given.has_one_of.Goals as goal

pub returns-then-has : goal.returns-then-has
returns-then-has c = λ n at. sym (list_any_at (λ p. fields.has p n) c.args.list.now c.loop-prop.prop-index _ c.loop-prop-test.true (sym (c.has.ensures n at) ∙ c.if-has.true))
