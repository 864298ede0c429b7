use Rattle.std.proofs.Common.{◌≡◌, map, take, None}
use Rattle.rdl_values.specs.Seen.{bound_of}
use Rattle.rdl_values.specs.Values.{entry_named}
use Rattle.rdl_bodies.proofs.values.put_value.Given as goal

abbrev pub invariant-loop-bound : goal.invariant-loop-bound
invariant-loop-bound l = entry_named l.name (map bound_of (take l.bound-index l.touched)) ≡ None
