use Rattle.std.proofs.Common.{◌∙◌, map, filter, flat_map, is_some, ap, sym}
use Rattle.rdl_layers.specs.Assignments.{meet, targets}
use Rattle.rdl_layers.specs.Judged.{bad_value, illegal, legal_on, taken}
use Rattle.rdl_layers.specs.Meanings.{meaning}
use Rattle.rdl_dynamic.proofs.Taking.{three-parts, value-part}
use Rattle.rdl_dynamic.proofs.dynamic.judge_known.Goals as goal

pub returns-clause-noted : goal.returns-clause-noted
returns-clause-noted c = λ e rows b d earlier rows-are marks are sets named shown legal again ruled.
    three-parts (flat_map (λ n. illegal (legal_on n) d.assigns) (targets b d)) (bad_value d.assigns) (taken (map (λ x. x.assigns) (filter (meet b d) earlier)) d.assigns)
    c.in_ok-fits.fits (is_some c.in_ok-setting.setting) c.in_ok-free.free (is_some c.kept.result) c.args.failures.now c.judge_kinds.new.failures c.value_of.new.self c.note_taken.new.failures
    c.kept.ensures.some
    (c.in_ok-fits.ensures e rows d.assigns c.args.prop c.args.nodes.now (targets b d) rows-are named (ap (λ x. x.place) sets) are legal)
    (value-part c.args.prop d.assigns c.meaning_of.result c.in_ok-setting.setting c.judge_kinds.new.failures c.value_of.new.self (c.meaning_of.ensures.outcome d.assigns.scope shown ∙ ap (λ x. meaning c.args.prop (record { set_ = x; scope = d.assigns.scope })) (sym sets)) named c.in_ok-setting.ensures.value c.in_ok-setting.ensures.noted)
    (c.in_ok-free.ensures e b d earlier marks are (ap (λ x. x.place) sets) named again ruled)
