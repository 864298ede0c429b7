use Rattle.std.proofs.Common.{◌≡◌, take}
use Rattle.rdl_values.specs.Elaborated.{nodes_of}
use Rattle.rdl_notes.specs.Notes.{groups_of}
use Rattle.rdl_notes.specs.Seen.{IsSeenOf}
use Rattle.rdl_notes.proofs.groups.groups_with.Given as goal

abbrev pub invariant-loop-row : goal.invariant-loop-row
invariant-loop-row l = record {
  groups : l.list.items ≡ groups_of (take l.row-index (nodes_of l.props));
  seen : IsSeenOf l.list.items l.seen;
}
