use Rattle.std.proofs.Common.{◌∙◌, subst, sym}
use Rattle.rdl_facts.specs.Body.{AreEnumsOf}
use Rattle.rdl_facts.proofs.Meant.{none_kept}
use Rattle.rdl_facts.proofs.body.BodyEnums.kept.Goals as goal

pub returns-then-is_empty : goal.returns-then-is_empty
returns-then-is_empty c = none_kept c.args.enums.now (sym c.is_empty.ensures ∙ c.if-is_empty.true)

pub returns : goal.returns
returns c = λ names are. subst (λ b. AreEnumsOf b names) (sym c.in_ok-new.ensures.ok) (c.in_ok-enums.ensures names are)
