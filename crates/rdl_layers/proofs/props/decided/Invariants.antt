use Rattle.std.proofs.Common.{◌≡◌, drop}
use Rattle.rdl_layers.specs.Tables.{decided_in}
use Rattle.rdl_layers.proofs.props.decided.Given as goal

abbrev pub invariant-loop-entry : goal.invariant-loop-entry
invariant-loop-entry l = decided_in l.prop l.default l.entries ≡ decided_in l.prop l.default (drop l.entry-index l.entries)
