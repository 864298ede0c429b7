use Rattle.std.proofs.Common.{◌≡◌, ℕ, ◌+◌, ◌*◌, ◌<◌, ◌≤◌, List, ◌++◌, ◌∷◌, [], length, take, drop, get_or, ap, sym, ◌∙◌, arith}
use Rattle.std.proofs.Math.ListN.{set}
use Rattle.std.proofs.lemmas.List.{take_more, take_more_set, get_or-drop, get_or-map, length-map, length-drop}
use Rattle.stim_csv.specs.Numbers.{number_in, numbers_in}
use Rattle.stim_csv.proofs.numbers.Numbers.row_into.Goals as goal

-- one number more
one_more : (wide cells numbers into : List ℕ) (start at x : ℕ) → numbers_in wide cells ≡ numbers → at < length into → start + length into ≤ length numbers → x ≡ number_in wide (get_or cells (start + at) 0)
    → take at into ≡ take at (drop start numbers) → take (at + 1) (set into at x) ≡ take (at + 1) (drop start numbers)
one_more wide cells numbers into start at x is low room found was =
    let there : start + at < length cells = omega (arith, low, room, ap length is, length-map cells (number_in wide)) in
    let more : at < length (drop start numbers) = omega (arith, low, room, length-drop start numbers) in
    let value : x ≡ get_or (drop start numbers) at 0 = found ∙ (sym (get_or-map (number_in wide) cells (start + at) 0 0 there) ∙ (ap (λ ns. get_or ns (start + at) 0) is ∙ sym (get_or-drop start numbers at 0))) in
    take_more_set into at x low ∙ (ap (λ ns. ns ++ x ∷ []) was ∙ (ap (λ y. take at (drop start numbers) ++ y ∷ []) value ∙ sym (take_more (drop start numbers) at 0 more)))

pub loop-at-preserved : goal.loop-at-preserved
loop-at-preserved c =
    one_more c.self.inside.wide.items c.self.inside.cells.items c.args.self.now c.loop-at.into (c.args.row * c.args.width) c.loop-at.at c.number_of.result c.self.view_is (omega (arith, c.loop-at-test.true, c.loop-at.auto.into)) (omega (arith, c.requires, c.loop-at.auto.into))
    (c.number_of.ensures ∙ (ap (λ w. number_in w (get_or c.as_slice-cells.result.now (c.args.row * c.args.width + c.loop-at.at) 0)) c.deref.ensures.value ∙ ap (λ cs. number_in c.self.inside.wide.items (get_or cs (c.args.row * c.args.width + c.loop-at.at) 0)) c.as_slice-cells.ensures.value))
    c.loop-at.invariant
