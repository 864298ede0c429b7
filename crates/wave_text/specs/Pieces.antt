-- What stands between cells.
use Rattle.std.specs.Prelude.{ℕ, zero, suc, List, [], codes}

-- before the cell of a number, counted from 0
abbrev pub comma : ℕ → List ℕ
comma zero = []
comma (suc n) = codes ","
