use Rattle.std.proofs.Common.{◌≡◌, ◌∙◌, ◌++◌, [], Some, Contains, sym, ap, subst}
use Rattle.rdl_tree.specs.declared.node.Elab.{Elab}
use Rattle.rdl_values.specs.Elaborated.{top_name}
use Rattle.rdl_values.specs.Elaboration.{IsClean}
use Rattle.rdl_values.specs.Faults.{at_}
use Rattle.rdl_values.specs.Verdict.{IsListOf}
use Rattle.rdl_failures.specs.Noted.{with_all}
use Rattle.rdl_layers.specs.Answers.{IsSettled}
use Rattle.rdl_nodes.specs.Rows.{AreRows}
use Rattle.rdl_refs.specs.Answers.{AreCircling, IsBound}
use Rattle.rdl_rules.specs.Facts.{AreFacts}
use Rattle.rdl_ref_items.specs.InterruptOutputs.{AreInterruptOutputs}
use Rattle.rdl_meaning_rules.specs.Collected.{collected, of_containers, of_count, of_fields, of_registers, of_resets, of_roots}
use Rattle.rdl_meaning_rules.proofs.Put.{three}
use Rattle.rdl_meaning_rules.proofs.Whole.{whole}
use Rattle.rdl_meaning_rules.proofs.list.meaning_failures.Goals as goal

pub marks-requires-clause-clean : goal.marks-requires-clause-clean
marks-requires-clause-clean c = subst IsClean (sym c.requires.props) c.requires.clean

pub marks-requires-clause-rows : goal.marks-requires-clause-rows
marks-requires-clause-rows c = subst (λ rs. AreRows c.args.props.now rs) (sym c.deref.ensures.value) (subst (λ (e : Elab). AreRows e c.in_ok-rows.rows.items) (sym c.requires.props) c.in_ok-rows.ensures)

pub judge_nodes-requires-clause-clean : goal.judge_nodes-requires-clause-clean
judge_nodes-requires-clause-clean c = subst IsClean (sym c.requires.props) c.requires.clean

pub judge_nodes-requires-clause-settled : goal.judge_nodes-requires-clause-settled
judge_nodes-requires-clause-settled c = subst IsSettled (sym c.requires.props) c.requires.settled

pub judge_nodes-requires-clause-map : goal.judge_nodes-requires-clause-map
judge_nodes-requires-clause-map c = c.requires.map ∙ sym c.requires.props

pub judge_nodes-requires-clause-rows : goal.judge_nodes-requires-clause-rows
judge_nodes-requires-clause-rows c = subst (λ rs. AreRows c.args.props.now rs) (sym c.deref-2.ensures.value) (subst (λ (e : Elab). AreRows e c.in_ok-rows.rows.items) (sym c.requires.props) c.in_ok-rows.ensures)

pub judge_nodes-requires-clause-facts : goal.judge_nodes-requires-clause-facts
judge_nodes-requires-clause-facts c = subst (λ (e : Elab). AreFacts e c.args.facts.now) (sym c.requires.props) c.requires.facts

pub judge_settings-requires-clause-clean : goal.judge_settings-requires-clause-clean
judge_settings-requires-clause-clean c = subst IsClean (sym c.requires.props) c.requires.clean

pub judge_settings-requires-clause-bound : goal.judge_settings-requires-clause-bound
judge_settings-requires-clause-bound c = subst IsBound (sym c.requires.props) c.requires.bound

pub judge_settings-requires-clause-refs : goal.judge_settings-requires-clause-refs
judge_settings-requires-clause-refs c = c.requires.refs ∙ sym c.requires.props

pub judge_settings-requires-clause-rows : goal.judge_settings-requires-clause-rows
judge_settings-requires-clause-rows c = subst (λ rs. AreRows c.args.props.now rs) (sym c.deref-3.ensures.value) (subst (λ (e : Elab). AreRows e c.in_ok-rows.rows.items) (sym c.requires.props) c.in_ok-rows.ensures)

pub judge_settings-requires-clause-facts : goal.judge_settings-requires-clause-facts
judge_settings-requires-clause-facts c = subst (λ (e : Elab). AreFacts e c.args.facts.now) (sym c.requires.props) c.requires.facts

pub judge_settings-requires-clause-marks : goal.judge_settings-requires-clause-marks
judge_settings-requires-clause-marks c = subst (λ ms. AreInterruptOutputs c.args.props.now ms) (sym c.deref-4.ensures.value) c.in_ok-marks.ensures

pub returns : goal.returns
returns c =
    let e = c.args.elab.now in
    let circles = c.in_ok-circles.circles.items in
    let list = c.in_ok-list.list.items in
    let t1 = c.judge_nodes.new.failures in
    let t2 = c.judge_settings.new.failures in
    let t3 = c.judge_rest.new.failures in
    let circling : AreCircling e circles = subst (λ (m : Elab). AreCircling m circles) c.requires.dependencies c.in_ok-circles.ensures in
    let nodes : t1 ≡ with_all (of_registers e ++ of_containers e ++ of_count e) [] =
    subst (λ (m : Elab). t1 ≡ with_all (of_registers m ++ of_containers m ++ of_count m) []) c.requires.props (c.in_ok-judge_nodes.ensures ∙ ap (with_all (of_registers c.args.props.now ++ of_containers c.args.props.now ++ of_count c.args.props.now)) c.new-failures.ensures) in
    let settings : t2 ≡ with_all (of_fields e ++ of_resets e) t1 = subst (λ (m : Elab). t2 ≡ with_all (of_fields m ++ of_resets m) t1) c.requires.props c.in_ok-judge_settings.ensures in
    let rest : t3 ≡ with_all (of_roots e ++ circles) t2 = c.in_ok-judge_rest.ensures ∙ ap (λ fs. with_all (of_roots e ++ fs) t2) c.deref-5.ensures.value in
    let put : list ≡ with_all (collected e ++ circles) [] =
    c.in_ok-list.ensures ∙ three (of_registers e ++ of_containers e ++ of_count e) (of_fields e) (of_resets e) (of_roots e) circles [] t1 t2 t3 nodes settings rest in
    whole e (c.registers_agree.ensures e c.in_ok-rows.rows.items c.requires.clean c.in_ok-rows.ensures) (c.references_stand_on_fields.ensures (Some (top_name e)) e.source.now) circles list circling
    (subst (λ fs. IsListOf (λ r p. Contains (collected e ++ circles) (at_ r p)) fs) (sym put) (c.collected_once.ensures (collected e ++ circles)))
