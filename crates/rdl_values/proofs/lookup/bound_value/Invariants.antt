use Rattle.std.proofs.Common.{◌≡◌, map, drop}
use Rattle.rdl_values.specs.Values.{entry_named}
use Rattle.rdl_values.specs.Seen.{bound_of}
use Rattle.rdl_values.proofs.lookup.bound_value.Given as goal

abbrev pub invariant-loop-parameter : goal.invariant-loop-parameter
invariant-loop-parameter l = entry_named l.name (map bound_of l.bound) ≡ entry_named l.name (map bound_of (drop l.parameter-index l.bound))
