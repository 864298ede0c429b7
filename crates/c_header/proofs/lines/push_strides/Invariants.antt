use Rattle.std.proofs.Common.{◌≡◌, ◌++◌, codes, length, map, nat_lt, take}
use Rattle.std.specs.List.{enumerate_from}
use Rattle.c_header.specs.Header.{lines}
use Rattle.c_header.specs.Macros.{Number, index_mark, macro}
use Rattle.c_header.proofs.lines.push_strides.Given as goal

abbrev pub invariant-loop-place : goal.invariant-loop-place
invariant-loop-place l = l.text.items ≡ l.initial.text.items ++ lines (map (λ k. macro l.base (codes "_STRIDE" ++ index_mark (nat_lt 1 (length l.strides)) k.0) (Number k.1)) (enumerate_from 0 (take l.place l.strides)))
