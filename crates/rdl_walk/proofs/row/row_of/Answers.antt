use Rattle.std.proofs.Common.{◌≡◌, ◌∙◌, ◌+◌, ◌-◌, ◌/◌, ◌%◌, ◌<◌, ◌≤◌, ◌^◌, ◌++◌, ◌∷◌, [], ap, sym, subst, arith, min, take, drop, map, length, get_or, append-nil}
use Rattle.std.proofs.lemmas.List.{at_drop_all, length-drop, take_all, take_more, map-append}
use Rattle.rdl_values.specs.Rows.{product, row}
use Rattle.rdl_walk.proofs.Lengths.{bytes_more, index_bytes, step_short}
use Rattle.rdl_walk.proofs.Sizes.{index_below, rest_below, row_step, some_size}
use Rattle.rdl_walk.proofs.row.row_of.Goals as goal

pub loop-at-preserved : goal.loop-at-preserved
loop-at-preserved c =
    let dims = c.args.dims.now in
    let at = c.loop-at.at in
    let left = c.loop-at.left in
    let inv = c.loop-at.invariant in
    let size : c.size_of-below.result ≡ min (product (drop (at + 1) dims)) (2 ^ 64 - 1) = c.size_of-below.ensures ∙ ap (λ ds. min (product ds) (2 ^ 64 - 1)) (take_all (length dims - (at + 1)) (drop (at + 1) dims) (let d = length-drop (at + 1) dims in omega (arith, d))) in
    let small : left < 2 ^ 64 - 1 = let s = c.requires.small in omega (arith, inv.2, s) in
    let fits = c.type_inv.dims at in
    let dim : get_or dims at 0 < 2 ^ 64 = omega (arith, fits) in
    let pushed : c.push.new.self.items ≡ c.loop-at.index.items ++ (left / min (product (drop (at + 1) dims)) (2 ^ 64 - 1) ∷ []) = c.in_ok-push.ensures.items ∙ ap (λ n. c.loop-at.index.items ++ (left / n ∷ [])) size in
    let rested : left % c.size_of-below.result ≡ left % min (product (drop (at + 1) dims)) (2 ^ 64 - 1) = ap (λ n. left % n) size in
    let below = index_below dims at c.loop-at-test.true left (2 ^ 64 - 1) small inv.1 in
    let more = bytes_more c.loop-at.index.items (map (λ d. d - 1) (take at dims)) (left / min (product (drop (at + 1) dims)) (2 ^ 64 - 1)) (get_or dims at 0) below dim inv.3 in
    let lasts : map (λ d. d - 1) (take (at + 1) dims) ≡ map (λ d. d - 1) (take at dims) ++ ((get_or dims at 0 - 1) ∷ []) = ap (map (λ d. d - 1)) (take_more dims at 0 c.loop-at-test.true) ∙ map-append (λ d. d - 1) (take at dims) (get_or dims at 0 ∷ []) in
    let least : left % c.size_of-below.result ≤ left = omega arith in (
      ap (λ xs. xs ++ row (drop (at + 1) dims) (left % c.size_of-below.result)) pushed ∙ ap (λ r. (c.loop-at.index.items ++ (left / min (product (drop (at + 1) dims)) (2 ^ 64 - 1) ∷ [])) ++ row (drop (at + 1) dims) r) rested ∙ row_step dims at c.loop-at-test.true left (2 ^ 64 - 1) small inv.1 c.loop-at.index.items c.args.number inv.0,
      subst (λ r. r < product (drop (at + 1) dims)) (sym rested) (rest_below dims at c.loop-at-test.true left (2 ^ 64 - 1) small inv.1),
      omega (arith, least, inv.2),
      subst (λ xs. index_bytes xs ≤ index_bytes (map (λ d. d - 1) (take (at + 1) dims))) (sym pushed) (subst (λ ys. index_bytes (c.loop-at.index.items ++ (left / min (product (drop (at + 1) dims)) (2 ^ 64 - 1) ∷ [])) ≤ index_bytes ys) (sym lasts) more),
    )

pub returns-clause-row : goal.returns-clause-row
returns-clause-row c =
    let dims = c.args.dims.now in
    c.into_bump_slice.ensures ∙ sym (append-nil c.loop-at.index.items) ∙ sym (at_drop_all (λ ds. c.loop-at.index.items ++ row ds c.loop-at.left) dims c.loop-at.at c.loop-at-test.false) ∙ c.loop-at.invariant.0

pub returns-clause-short : goal.returns-clause-short
returns-clause-short c = λ name.
    let dims = c.args.dims.now in
    let all = ap (λ ds. index_bytes (map (λ d. d - 1) ds)) (take_all c.loop-at.at dims c.loop-at-test.false) in
    let here = ap index_bytes c.into_bump_slice.ensures in
    step_short name c.into_bump_slice.result.now (map (λ d. d - 1) dims) (let i = c.loop-at.invariant.3 in omega (arith, i, all, here))

pub nonzero_div-left : goal.nonzero_div-left
nonzero_div-left c =
    let dims = c.args.dims.now in
    let at = c.loop-at.at in
    let inv = c.loop-at.invariant in
    let small : c.loop-at.left < 2 ^ 64 - 1 = let s = c.requires.small in omega (arith, inv.2, s) in
    some_size dims at c.loop-at-test.true c.loop-at.left (2 ^ 64 - 1) small inv.1 c.size_of-below.result (c.size_of-below.ensures ∙ ap (λ ds. min (product ds) (2 ^ 64 - 1)) (take_all (length dims - (at + 1)) (drop (at + 1) dims) (let d = length-drop (at + 1) dims in omega (arith, d))))

pub nonzero_rem-left : goal.nonzero_rem-left
nonzero_rem-left c =
    let dims = c.args.dims.now in
    let at = c.loop-at.at in
    let inv = c.loop-at.invariant in
    let small : c.loop-at.left < 2 ^ 64 - 1 = let s = c.requires.small in omega (arith, inv.2, s) in
    some_size dims at c.loop-at-test.true c.loop-at.left (2 ^ 64 - 1) small inv.1 c.size_of-below.result (c.size_of-below.ensures ∙ ap (λ ds. min (product ds) (2 ^ 64 - 1)) (take_all (length dims - (at + 1)) (drop (at + 1) dims) (let d = length-drop (at + 1) dims in omega (arith, d))))
