use Rattle.std.proofs.Common.{◌≡◌, ◌++◌, drop}
use Rattle.rdl_layout.specs.Fields.{bits_from}
use Rattle.rdl_layout.proofs.bits.bits_of.Given as goal

abbrev pub invariant-loop-field : goal.invariant-loop-field
invariant-loop-field l = l.bits.items ++ bits_from l.next (drop l.field-index l.fields) ≡ bits_from 0 l.fields
