use Rattle.std.proofs.Common.{◌≡◌, true, [], take}
use Rattle.std.specs.List.{list_all}
use Rattle.manual_units.specs.Likeness.{is_like}
use Rattle.manual_units.proofs.likeness.are_like.Given as goal

abbrev pub invariant-loop-entry : goal.invariant-loop-entry
invariant-loop-entry l = record {
  like : list_all (is_like l.block l.notes l.encodings l.first) (take l.entry-index l.rest) ≡ true;
  page : l.pen.page ≡ [];
}
