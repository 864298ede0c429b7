use Rattle.std.proofs.Common.{◌≡◌, ℕ, ◌+◌, ◌-◌, List, ◌++◌, take, drop, ap, ◌∙◌, arith}
use Rattle.stim_csv.proofs.NumberCells.{again}
use Rattle.stim_csv.proofs.numbers.Numbers.repeat.Goals as goal

ranged : (xs ys : List ℕ) (from count : ℕ) → ys ≡ xs ++ take (from + count - from) (drop from xs) → ys ≡ xs ++ take count (drop from xs)
ranged xs ys from count is = let n : from + count - from ≡ count = omega arith in is ∙ ap (λ k. xs ++ take k (drop from xs)) n

pub invariant_of-self-2 : goal.invariant_of-self-2
invariant_of-self-2 c = (again c.self.inside.wide.items c.self.inside.cells.items c.extend_from_within.new.self.items c.args.self.now c.args.from c.args.count c.self.invariant c.self.view_is
    (ranged c.self.inside.cells.items c.extend_from_within.new.self.items c.args.from c.args.count c.in_ok-extend_from_within.ensures.items)).0

pub returns : goal.returns
returns c = (again c.self.inside.wide.items c.self.inside.cells.items c.extend_from_within.new.self.items c.args.self.now c.args.from c.args.count c.self.invariant c.self.view_is
    (ranged c.self.inside.cells.items c.extend_from_within.new.self.items c.args.from c.args.count c.in_ok-extend_from_within.ensures.items)).1
