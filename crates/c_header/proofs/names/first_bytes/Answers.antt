use Rattle.std.proofs.Common.{◌≡◌, ℕ, ◌<◌, List, length, length-take, take, sym, arith}
use Rattle.std.proofs.lemmas.List.{take_all}
use Rattle.c_header.specs.Names.{first_bytes}
use Rattle.c_header.proofs.names.first_bytes.Goals as goal

short : (n : ℕ) (xs : List ℕ) → n < length xs → n ≡ length (take n xs)
short n xs low = omega (arith, length-take n xs, low)

pub slice_bounds-result-end : goal.slice_bounds-result-end
slice_bounds-result-end c = short 900 c.args.name.now c.if-name-gt900.true

pub returns-else-name-gt900 : goal.returns-else-name-gt900
unfolding first_bytes
returns-else-name-gt900 c = sym (take_all 900 c.args.name.now c.if-name-gt900.false)
