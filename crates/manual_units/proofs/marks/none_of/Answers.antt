use Rattle.std.proofs.Common.{◌≡◌, ◌+◌, ◌∷◌, ◌++◌, ℕ, [], arith}
use Rattle.std.proofs.lemmas.List.FromFn.{map-range_with_len_more}
use Rattle.manual_units.specs.Marks.{none_of}
use Rattle.manual_units.proofs.marks.none_of.Goals as goal

one_more : (n : ℕ) → none_of (n + 1) ≡ none_of n ++ [] ∷ []
one_more n = map-range_with_len_more (λ (i : ℕ). []) 0 n n (omega arith)

pub loop-preserved : goal.loop-preserved
loop-preserved c = cc (one_more c.loop.counter, c.in_ok-push.ensures.items, c.new.ensures.items)
