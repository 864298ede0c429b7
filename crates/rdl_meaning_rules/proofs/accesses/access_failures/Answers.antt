use Rattle.std.proofs.Common.{◌≡◌, ◌∙◌, [], flat_map, Contains, sym, ap, subst}
use Rattle.rdl_tree.specs.declared.node.Elab.{Elab}
use Rattle.rdl_values.specs.Elaborated.{nodes_of}
use Rattle.rdl_values.specs.Elaboration.{IsClean}
use Rattle.rdl_values.specs.Faults.{at_}
use Rattle.rdl_values.specs.Verdict.{IsListOf}
use Rattle.rdl_failures.specs.Noted.{with_all}
use Rattle.rdl_nodes.specs.Rows.{AreRows}
use Rattle.rdl_rules.specs.Phase7.{narrow_register}
use Rattle.rdl_meaning_rules.proofs.Narrow.{all-narrow}
use Rattle.rdl_meaning_rules.proofs.accesses.access_failures.Goals as goal

pub judge_accesses-requires-clause-clean : goal.judge_accesses-requires-clause-clean
judge_accesses-requires-clause-clean c = subst IsClean (sym c.requires.props) c.requires.clean

pub judge_accesses-requires-clause-rows : goal.judge_accesses-requires-clause-rows
judge_accesses-requires-clause-rows c = subst (λ rs. AreRows c.args.props.now rs) (sym c.deref.ensures.value) (subst (λ (e : Elab). AreRows e c.in_ok-rows.rows.items) (sym c.requires.props) c.in_ok-rows.ensures)

pub returns : goal.returns
returns c =
    let e = c.args.elab.now in
    let list = c.in_ok-list.list.items in
    let all = flat_map narrow_register (nodes_of e) in
    let noted : c.judge_accesses.new.failures ≡ with_all all c.new-failures.result = subst (λ (m : Elab). c.judge_accesses.new.failures ≡ with_all (flat_map narrow_register (nodes_of m)) c.new-failures.result) c.requires.props c.in_ok-judge_accesses.ensures in
    let put : list ≡ with_all all [] = c.in_ok-list.ensures ∙ (noted ∙ ap (with_all all) c.new-failures.ensures) in
    subst (λ fs. IsListOf (λ r p. Contains fs (at_ r p)) list) (sym (all-narrow e)) (subst (λ l. IsListOf (λ r p. Contains all (at_ r p)) l) (sym put) (c.collected_once.ensures all))
