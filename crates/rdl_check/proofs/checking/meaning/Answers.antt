use Rattle.std.proofs.Common.{◌∙◌, subst, sym}
use Rattle.rdl_values.specs.Verdict.{IsListOf}
use Rattle.rdl_rules.specs.Answers.{meaning_fails}
use Rattle.rdl_check.proofs.Made.{nothing}
use Rattle.rdl_check.proofs.checking.meaning.Goals as goal

pub returns-then-is_empty : goal.returns-then-is_empty
returns-then-is_empty c =
    subst (IsListOf (meaning_fails c.args.elab.now)) (nothing c.in-Ok.failures.items c.in-Ok.failures.len c.in-Ok.failures.ok.0 (sym c.is_empty.ensures ∙ c.if-is_empty.true)) c.in-Ok.ensures
