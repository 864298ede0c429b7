use Rattle.std.proofs.Common.{◌≡◌, ◌+◌, length, drop}
use Rattle.rdl_uses.proofs.Bytes.{index_bytes}
use Rattle.rdl_uses.proofs.lengths.text_len.Given as goal

abbrev pub invariant-loop-number : goal.invariant-loop-number
invariant-loop-number l = l.len + index_bytes (drop l.number-index l.index) ≡ l.prefix + length l.name + index_bytes l.index
