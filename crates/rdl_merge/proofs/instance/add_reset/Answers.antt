use Rattle.std.proofs.Common.{◌∙◌, ◌++◌, ap, option_copied, sym, subst}
use Rattle.plain_lemmas.proofs.Results.{on_ok-map as on_ok}
use Rattle.rdl_values.specs.Bodies.{around}
use Rattle.rdl_merge.specs.Merged.{AreEntries}
use Rattle.rdl_merge.proofs.Each.{given_none}
use Rattle.rdl_merge.proofs.Reset.{reset-given, reset-none}
use Rattle.rdl_merge.proofs.instance.add_reset.Goals as goal

pub returns-in-Some : goal.returns-in-Some
returns-in-Some c = on_ok c.add_value.result _ _ (λ h all xs u same shown old.
    subst (λ ys. AreEntries all c.add_value.new.entries.items (xs ++ ys)) (sym (reset-given u c.in-Some.value.now (same ∙ ap option_copied c.in-Some.is))) (h all xs (around u.scope) shown old)) c.add_value.ensures

pub returns-in-None : goal.returns-in-None
returns-in-None c = λ all xs u same shown old.
    subst (λ ys. AreEntries all c.args.entries.now.items (xs ++ ys)) (sym (reset-none u (same ∙ ap option_copied c.in-None.is))) (given_none all c.args.entries.now.items xs old)
