use Rattle.std.proofs.Common.{◌∙◌, ◌-◌, ◌^◌, ap, min}
use Rattle.std.proofs.lemmas.List.{take_all}
use Rattle.rdl_values.specs.Rows.{product}
use Rattle.rdl_walk.proofs.Sizes.{size_step}
use Rattle.rdl_walk.proofs.row.size_of.Goals as goal

pub loop-dim-preserved : goal.loop-dim-preserved
loop-dim-preserved c = c.saturating_mul-size.ensures ∙ size_step c.args.dims.now c.loop-dim.dim-index (2 ^ 64 - 1) c.loop-dim.size c.loop-dim-test.true c.loop-dim.invariant

pub returns : goal.returns
returns c = c.loop-dim.invariant ∙ ap (λ ds. min (product ds) (2 ^ 64 - 1)) (take_all c.loop-dim.dim-index c.args.dims.now c.loop-dim-test.false)
