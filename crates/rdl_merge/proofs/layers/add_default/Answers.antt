use Rattle.std.proofs.Common.{◌∙◌, ◌++◌, true, false, sym, subst}
use Rattle.plain_lemmas.proofs.Results.{on_ok-map as on_ok}
use Rattle.rdl_merge.specs.Merged.{AreEntries}
use Rattle.rdl_merge.proofs.Each.{given_none, legal-one}
use Rattle.rdl_merge.proofs.layers.add_default.Goals as goal

pub returns-then-legal : goal.returns-then-legal
returns-then-legal c = on_ok c.add_one.result _ _ (λ h all xs judged a rank g k old.
    subst (λ ys. AreEntries all c.add_one.new.entries.items (xs ++ ys)) (sym (legal-one judged c.args.one.now a rank c.args.kind true g (sym c.legal.ensures ∙ c.if-legal.true))) (h all xs judged a rank g k old)) c.add_one.ensures

pub returns-else-legal : goal.returns-else-legal
returns-else-legal c = λ all xs judged a rank g k old.
    subst (λ ys. AreEntries all c.args.entries.now.items (xs ++ ys)) (sym (legal-one judged c.args.one.now a rank c.args.kind false g (sym c.legal.ensures ∙ c.if-legal.false))) (given_none all c.args.entries.now.items xs old)
