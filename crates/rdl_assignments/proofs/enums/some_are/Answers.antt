use Rattle.std.proofs.Common.{◌∙◌, ap, flat_map, sym}
use Rattle.std.proofs.lemmas.List.{take_all}
use Rattle.rdl_layers.specs.Phase4.{of_entry}
use Rattle.rdl_assignments.proofs.Unassigned.{entries_more}
use Rattle.rdl_assignments.proofs.enums.some_are.Goals as goal

pub loop-entry-preserved : goal.loop-entry-preserved
loop-entry-preserved c = λ scope. entries_more (of_entry scope) c.args.entries.now c.loop-entry.entry-index _ c.loop-entry-test.true (c.loop-entry.invariant scope) (c.is_assigned_to.ensures c.if-is_assigned_to.false scope)

pub returns : goal.returns
returns c = λ q scope. ap (flat_map (of_entry scope)) (sym (take_all c.loop-entry.entry-index c.args.entries.now c.loop-entry-test.false)) ∙ c.loop-entry.invariant scope
