use Rattle.std.proofs.Common.{◌∙◌, refl, subst, sym}
use Rattle.rdl_nodes.specs.Rows.{AreRows}
use Rattle.rdl_open_settings.specs.Completed.{IsScene}
use Rattle.rdl_settle.proofs.Assigning.{rows_count}
use Rattle.rdl_settle.proofs.Finishing.{gathered}
use Rattle.rdl_settle.proofs.settling.gather.Goals as goal

pub open_tree-requires-clause-rows : goal.open_tree-requires-clause-rows
open_tree-requires-clause-rows c = (subst (AreRows c.args.elab.now) (sym c.deref.ensures.value) c.in_ok-rows.ensures)

pub judge_layers-requires : goal.judge_layers-requires
judge_layers-requires c = (c.args.elab.now, c.in_ok-tree.ensures)

pub complete_all-requires : goal.complete_all-requires
complete_all-requires c =
    let e = c.args.elab.now in
    let a = rows_count e c.deref-3.result.now c.requires (subst (AreRows c.args.elab.now) (sym c.deref-3.ensures.value) c.in_ok-rows.ensures) in
    let b = (c.in_ok-entries.ensures e c.args.failures.now c.judge_layers.new.failures c.requires (subst (AreRows c.args.elab.now) (sym c.deref-2.ensures.value) c.in_ok-rows.ensures) c.in_ok-tree.ensures (c.in_ok-layers.ensures e c.in_ok-tree.ensures)).all_nodes in
    a ∙ sym b

pub returns : goal.returns
returns c =
    let e = c.args.elab.now in
    let layered = c.in_ok-layers.ensures e c.in_ok-tree.ensures in
    let assigned = c.in_ok-entries.ensures e c.args.failures.now c.judge_layers.new.failures c.requires (subst (AreRows c.args.elab.now) (sym c.deref-2.ensures.value) c.in_ok-rows.ensures) c.in_ok-tree.ensures layered in
    let scene : IsScene e c.in_ok-tree.tree c.in_ok-layers.layers e.count = record { clean = c.requires; open_ = c.in_ok-tree.ensures; before = _; after = _; layered = layered; count_is = refl } in
    record {
      rows_ = c.in_ok-rows.ensures;
      open_ = c.in_ok-tree.ensures;
      all = gathered e c.in_ok-entries.entries.items c.complete_all.new.entries.items c.args.failures.now c.judge_layers.new.failures c.assign_all.new.failures c.complete_all.new.failures layered.noted assigned (c.in_ok-complete_all.ensures e c.judge_layers.new.failures c.assign_all.new.failures (subst (AreRows c.args.elab.now) (sym c.deref-3.ensures.value) c.in_ok-rows.ensures) scene assigned);
    }
