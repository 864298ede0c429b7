use Rattle.std.proofs.Common.{◌≡◌, ◌++◌, sym, subst}
use Rattle.rdl_tree.specs.declared.node.Elab.{Elab}
use Rattle.rdl_values.specs.Elaboration.{IsClean}
use Rattle.rdl_failures.specs.Noted.{with_all}
use Rattle.rdl_nodes.specs.Rows.{AreRows}
use Rattle.rdl_meaning_rules.specs.Collected.{of_containers, of_count, of_registers}
use Rattle.rdl_meaning_rules.proofs.Put.{more}
use Rattle.rdl_meaning_rules.proofs.list.judge_nodes.Goals as goal

pub judge_containers-requires : goal.judge_containers-requires
judge_containers-requires c = (c.args.props.now, c.requires.rows)

pub judge_count-requires-clause-clean : goal.judge_count-requires-clause-clean
judge_count-requires-clause-clean c = subst IsClean c.requires.elab c.requires.clean

pub judge_count-requires-clause-rows : goal.judge_count-requires-clause-rows
judge_count-requires-clause-rows c = subst (λ (e : Elab). AreRows e c.args.rows.now) c.requires.elab c.requires.rows

pub returns : goal.returns
returns c =
    let e = c.args.props.now in
    let s = c.args.failures.now in
    let t1 = c.judge_registers.new.failures in
    let t2 = c.judge_containers.new.failures in
    let t3 = c.judge_count.new.failures in
    let p2 = more (of_registers e) (of_containers e) s t1 t2 c.in_ok-judge_registers.ensures (c.in_ok-judge_containers.ensures e c.requires.rows) in
    more (of_registers e ++ of_containers e) (of_count e) s t2 t3 p2 (subst (λ (m : Elab). t3 ≡ with_all (of_count m) t2) (sym c.requires.elab) c.in_ok-judge_count.ensures)
