use Rattle.std.proofs.Common.{ℕ, ◌<◌, get_or}
use Rattle.rdl_layout.specs.Fields as fields
use Rattle.rdl_layout.specs.declared.bits.FieldBits.{FieldBits}
use Rattle.rdl_bits.proofs.register.are_spans.Given as goal

abbrev pub invariant-loop-one : goal.invariant-loop-one
invariant-loop-one l = (k : ℕ) (d : FieldBits) → k < l.one-index → fields.IsSpan (get_or l.bits k d)
