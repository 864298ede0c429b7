use Rattle.std.proofs.Common.{◌∙◌, sym, ap, subst}
use Rattle.std.proofs.lemmas.List.{take_all}
use Rattle.rdl_failures.specs.Noted.{with_all}
use Rattle.rdl_layers.specs.Judged.{all_failures, failures_of, legal_on_entry}
use Rattle.rdl_assignments.specs.Layers.{IsLayer}
use Rattle.rdl_assignments.proofs.Reading.{in_scope, sets-more}
use Rattle.rdl_assignments.proofs.entries.judge_entry.Goals as goal

pub loop-set-init : goal.loop-set-init
loop-set-init c = λ scope shown. c.new-layer.ensures legal_on_entry 0 c.args.failures.now

pub loop-set-preserved : goal.loop-set-preserved
loop-set-preserved c = λ scope shown.
    subst (IsLayer legal_on_entry 0 c.read.new.self c.args.failures.now c.read.new.failures) (sets-more scope c.args.sets.now c.loop-set.set-index _ c.loop-set-test.true) (c.in_ok-read.ensures c.args.failures.now _ scope shown (c.loop-set.invariant scope shown))

pub returns : goal.returns
returns c = λ scope e same shown.
    (c.loop-set.invariant scope shown).noted ∙ ap (λ ss. with_all (all_failures (failures_of legal_on_entry) (in_scope scope ss)) c.args.failures.now) (take_all c.loop-set.set-index c.args.sets.now c.loop-set-test.false ∙ sym same)
