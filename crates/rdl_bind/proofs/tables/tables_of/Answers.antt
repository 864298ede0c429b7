use Rattle.std.proofs.Common.{sym, subst}
use Rattle.rdl_values.specs.Elaboration.{IsClean}
use Rattle.rdl_nodes.specs.Rows.{AreRows}
use Rattle.rdl_bind.specs.Numbered.{AreNumbers}
use Rattle.rdl_ref_items.specs.InterruptOutputs.{AreInterruptOutputs}
use Rattle.rdl_members.specs.Covered.{AreOverViews}
use Rattle.rdl_fields.specs.Touched.{touches}
use Rattle.rdl_bind.proofs.Reading.{as-named}
use Rattle.rdl_bind.proofs.tables.tables_of.Goals as goal

pub marks-requires-clause-clean : goal.marks-requires-clause-clean
marks-requires-clause-clean c = subst IsClean (sym c.requires.tree) c.requires.clean

pub marks-requires-clause-rows : goal.marks-requires-clause-rows
marks-requires-clause-rows c = subst (λ m. AreRows m c.args.rows.now) (sym c.requires.tree) c.requires.rows

pub edges-requires : goal.edges-requires
edges-requires c =
    let e = c.args.elab.now in
    let m = c.args.props.now in
    let names = as-named e m c.requires.tree c.in_ok-targets.targets.items c.deref-3.result.now c.deref-3.ensures.value c.in_ok-targets.ensures in
    record {
      clean = subst IsClean (sym c.requires.tree) c.requires.clean;
      rows_ = subst (λ x. AreRows x c.args.rows.now) (sym c.requires.tree) c.requires.rows;
      marks_ = subst (AreInterruptOutputs m) (sym c.deref.ensures.value) c.in_ok-marks.ensures;
      touched_ = subst (λ x. AreOverViews x touches c.deref-2.result.now) (sym c.requires.tree) (subst (AreOverViews e touches) (sym c.deref-2.ensures.value) c.in_ok-touched.ensures);
      numbers_ = subst (λ x. AreNumbers x c.in_ok-numbers.numbers) (sym c.requires.tree) c.in_ok-numbers.ensures;
      sized = names.0;
      named = names.1;
    }
