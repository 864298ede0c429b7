use Rattle.std.proofs.Common.{ap, refl, subst, sym}
use Rattle.rdl_dynamic.specs.Written.{AreWritten}
use Rattle.rdl_open_settings.proofs.Further.{first_judged}
use Rattle.rdl_open_settings.proofs.texts.JudgedTexts.judge_first.Goals as goal

pub returns-clause-texts : goal.returns-clause-texts
returns-clause-texts c =
    let can = c.requires.some in
    let x = c.args.body.now in
    let written = subst (AreWritten c.in_ok-layers.layers.dynamics.value.items) can.open_.items_are (c.in_ok-layers.ensures.given can.shown can.open_).dynamics_are in
    let shared = subst (λ ws. AreWritten ws x.items.now) (ap (λ v. v.items) (sym c.in_ok-dynamics.ensures.cases)) written in
    first_judged c.args.bodies.now c.args.failures.now c.layers_of.new.failures c.args.self.now (record c.args.self.now { known = c.insert.new.self }) x can.shown _ can refl c.in_ok-insert.ensures.updates refl shared can.open_ (c.in_ok-layers.ensures.noted can.shown can.open_) c.requires.kept
