-- What stays known of operations where a value is written.
use Rattle.std.proofs.Common.{◌≡◌, ◌≢◌, ℕ, suc, ◌+◌, ◌*◌, ◌<◌, ◌≤◌, List, [], ◌∷◌, ◌++◌, length, take, get_or, ap, sym, subst, ◌∙◌, inl, inr, arith}
use Rattle.std.proofs.Math.ListN.{set}
use Rattle.std.proofs.lemmas.Bool.{cases_eq}
use Rattle.std.proofs.lemmas.List.{get_or-set_other, get_or-set_same, get_or-take, take_all, take_more}
use Rattle.sim_lanes.specs.Due.{Changes, IsCalm, IsFed, IsReader, due_at}
use Rattle.sim_lanes.specs.Narrow.{AreBelow, narrow_after, value_at}
use Rattle.sim_lanes.specs.declared.fan.Fan.{Fan}
use Rattle.sim_lanes.specs.declared.narrow.NarrowOperation.{NarrowOperation}
use Rattle.sim_lanes.proofs.Settling.{narrow_after-next, narrow_after-none, narrow_calm, narrow_same, rest_below, head_below, same_by_kind}

-- a place that an operation reads which is not due then
read_same : (fan : Fan) (old new values : List ℕ) (place value k p : ℕ) → Changes fan place value values old new → k < 64 * length old → due_at new k ≡ 0 → place < length values → IsReader fan p k
    → get_or (set values place value) p 0 ≡ get_or values p 0
read_same fan old new values place value k p changes room none low reads = elim (cases_eq p place) [
  | inl here ↦ ap (λ n. get_or (set values place value) n 0) here
      ∙ (get_or-set_same values place value 0 low ∙ (sym (changes.moved k room (subst (λ n. IsReader fan n k) here reads) none) ∙ ap (λ n. get_or values n 0) (sym here)))
  | inr apart ↦ get_or-set_other values place p value 0 apart
]

-- an operation which is not due then stays calm, if it is not the one of the place
pub calm_elsewhere : (fan : Fan) (os : List NarrowOperation) (first : ℕ) (old new values : List ℕ) (place value : ℕ) → IsFed fan os → Changes fan place value values old new → place < length values
    → (k : ℕ) (d : NarrowOperation) → k < length os → k < 64 * length old → first + k ≢ place → due_at new k ≡ 0 → get_or values (first + k) 0 ≡ value_at values (get_or os k d)
    → get_or (set values place value) (first + k) 0 ≡ value_at (set values place value) (get_or os k d)
calm_elsewhere fan os first old new values place value fed changes low k d l room apart none calm =
    let o = get_or os k d in
    let feeds = fed.each k d l in
    let same = read_same fan old new values place value k in
    get_or-set_other values place (first + k) value 0 apart
    ∙ (calm ∙ sym (same_by_kind o.kind o.low.bits o.width.bits (get_or (set values place value) o.first 0) (get_or values o.first 0) (get_or (set values place value) o.second 0) (get_or values o.second 0)
    (get_or (set values place value) o.third 0) (get_or values o.third 0) (same o.first changes room none low feeds.first) (same o.second changes room none low feeds.second) (same o.third changes room none low feeds.third)))

-- a value is written before those of the operations
pub calm_before : (fan : Fan) (os : List NarrowOperation) (first : ℕ) (old new values : List ℕ) (place value : ℕ) → IsFed fan os → Changes fan place value values old new → place < length values → place < first → length new ≡ length old
    → IsCalm old first os values → IsCalm new first os (set values place value)
calm_before fan os first old new values place value fed changes low front long calm = record {
  room = omega (arith, long, calm.room);
  each = λ k d l none. calm_elsewhere fan os first old new values place value fed changes low k d l (omega (arith, l, calm.room)) (λ e. omega (arith, e, front)) none (calm.each k d l (changes.kept k none));
}

-- an operation that is not there is no longer due
pub calm_beyond : (os : List NarrowOperation) (first : ℕ) (old new values : List ℕ) (index : ℕ) → ((k : ℕ) → k ≢ index → due_at new k ≡ due_at old k) → length os ≤ index → length new ≡ length old → IsCalm old first os values → IsCalm new first os values
calm_beyond os first old new values index same beyond long calm = record {
  room = omega (arith, long, calm.room);
  each = λ k d l none. calm.each k d l (sym (same k (λ e. omega (arith, e, l, beyond))) ∙ none);
}

-- an operation is computed, which is no longer due
pub calm_settled : (fan : Fan) (os : List NarrowOperation) (first : ℕ) (old now new values : List ℕ) (index x : ℕ) → IsFed fan os → AreBelow first os → index < length os → first + index < length values
    → ((k : ℕ) → k ≢ index → due_at now k ≡ due_at old k) → length now ≡ length old → Changes fan (first + index) x values now new → length new ≡ length now
    → ((d : NarrowOperation) → x ≡ value_at (take (first + index) values) (get_or os index d)) → IsCalm old first os values → IsCalm new first os (set values (first + index) x)
calm_settled fan os first old now new values index x fed below l low same long changes long' is calm = record {
  room = omega (arith, long, long', calm.room);
  each = λ k d m none. elim (cases_eq k index) [
    | inl here ↦ let P : ℕ → Type 0 = λ n. get_or (set values (first + index) x) (first + n) 0 ≡ value_at (set values (first + index) x) (get_or os n d) in subst P (sym here) (settled d)
    | inr apart ↦ calm_elsewhere fan os first now new values (first + index) x fed changes low k d m (omega (arith, m, long, calm.room)) (λ e. apart (omega (arith, e))) none
        (calm.each k d m (sym (same k apart) ∙ changes.kept k none))
  ];
}
  where
    alike : (p : ℕ) → p < first + index → get_or (take (first + index) values) p 0 ≡ get_or (set values (first + index) x) p 0
    alike p h = get_or-take (first + index) values p 0 h ∙ sym (get_or-set_other values (first + index) p x 0 (λ e. omega (arith, e, h)))

    settled : (d : NarrowOperation) → get_or (set values (first + index) x) (first + index) 0 ≡ value_at (set values (first + index) x) (get_or os index d)
    settled d = get_or-set_same values (first + index) x 0 low ∙ (is d ∙ narrow_same (get_or os index d) (first + index) (take (first + index) values) (set values (first + index) x) (below.each index d l) alike)

-- where each operation's value is the one that it gives, the values are those of the operations in turn
pub all_settled : (os : List NarrowOperation) (ws : List ℕ) (first : ℕ) → length ws ≡ first + length os → AreBelow first os
    → ((k : ℕ) (d : NarrowOperation) → k < length os → get_or ws (first + k) 0 ≡ value_at ws (get_or os k d)) → ws ≡ narrow_after os (take first ws)
all_settled [] ws first long below calm = sym (narrow_after-none (take first ws) ∙ take_all first ws (omega (arith, long)))
all_settled (o ∷ os) ws first long below calm =
    let at : get_or ws (first + 0) 0 ≡ value_at ws o = calm 0 o (omega arith) in
    let front : value_at ws o ≡ value_at (take first ws) o = narrow_same o first ws (take first ws) (head_below first o os below) (λ p h. sym (get_or-take first ws p 0 h)) in
    let zero_more : first ≡ first + 0 = omega arith in
    let here : get_or ws first 0 ≡ value_at (take first ws) o = ap (λ n. get_or ws n 0) zero_more ∙ (at ∙ front) in
    let grown : take (first + 1) ws ≡ take first ws ++ (value_at (take first ws) o ∷ []) = take_more ws first 0 (omega (arith, long)) ∙ ap (λ x. take first ws ++ (x ∷ [])) here in
    all_settled os ws (first + 1) (omega (arith, long)) (rest_below first o os below)
    (λ k d l. let e : first + 1 + k ≡ first + suc k = omega arith in ap (λ n. get_or ws n 0) e ∙ calm (suc k) d (omega (arith, l)))
    ∙ (ap (narrow_after os) grown ∙ sym (narrow_after-next o os (take first ws)))

-- none is due
pub calm_clear : (os : List NarrowOperation) (due ws : List ℕ) (first : ℕ) → length ws ≡ first + length os → AreBelow first os → IsCalm due first os ws → ((k : ℕ) → due_at due k ≡ 0) → ws ≡ narrow_after os (take first ws)
calm_clear os due ws first long below calm clear = all_settled os ws first long below (λ k d l. calm.each k d l (clear k))

-- all were computed
pub calm_all : (os : List NarrowOperation) (due ws vs : List ℕ) (first : ℕ) → length vs ≡ first → AreBelow first os → ws ≡ narrow_after os vs → length os ≤ 64 * length due → IsCalm due first os ws
calm_all os due ws vs first long below is room = record {
  room = room;
  each = λ k d l none. let P : List ℕ → Type 0 = λ xs. get_or xs (first + k) 0 ≡ value_at xs (get_or os k d) in subst P (sym is) (narrow_calm os vs first long below k d l);
}
