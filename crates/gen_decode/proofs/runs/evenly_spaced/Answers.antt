-- A count that is a power of two.
use Rattle.std.proofs.Common.{length, arith}
use Rattle.std.proofs.lemmas.Nat.{trailing_le}
use Rattle.gen_decode.proofs.runs.evenly_spaced.Goals as goal

pub overflow_cast-index : goal.overflow_cast-index
overflow_cast-index c = omega (arith, trailing_le 64 (length c.args.words.now))
