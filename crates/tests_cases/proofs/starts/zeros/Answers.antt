use Rattle.std.proofs.Common.{◌∙◌, ap, sym, subst, length, replicate}
use Rattle.v_design.specs.Design.{inputs}
use Rattle.v_design.specs.Seen.{module_seen}
use Rattle.v_design.specs.Fits.{FitsPins}
use Rattle.tests_cases.proofs.Starting.{zeros_fit}
use Rattle.tests_cases.proofs.starts.zeros.Goals as goal

pub returns : goal.returns
returns c =
    let m = module_seen c.args.design.now in
    let are = c.in_ok-numbers.ensures.items_if_clones_equal (λ y e. e) ∙ ap (λ ps. replicate (length ps) 0) c.inputs.ensures in
    subst (FitsPins (inputs m)) (sym are) (zeros_fit (inputs m))
