use Rattle.std.proofs.Common.{◌≡◌, [], drop}
use Rattle.rdl_values.specs.Visible.{enum_before}
use Rattle.rdl_values.specs.Seen.{names_in}
use Rattle.rdl_values.proofs.lookup.enum_before.Given as goal

abbrev pub invariant-loop-of : goal.invariant-loop-of
invariant-loop-of l = enum_before l.name (names_in [] l.enums) ≡ enum_before l.name (names_in [] (drop l.of-index l.enums))
