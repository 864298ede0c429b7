-- Runs of operations of one kind.
use Rattle.std.proofs.Common.{◌≡◌, ℕ, ◌+◌, ◌<◌, ◌≤◌, List, [], ◌∷◌, ◌++◌, length, take, drop, get_or, refl, ap, sym, subst, ◌∙◌, min, add-one, arith}
use Rattle.std.proofs.Math.Seq.{drop-cons}
use Rattle.std.proofs.lemmas.List.{drop_all, get_or-drop, get_or-take, length-drop, length-take, take-append-drop}
use Rattle.sim_lanes.specs.declared.narrow.Kind.{Kind}
use Rattle.sim_lanes.specs.declared.narrow.NarrowOperation.{NarrowOperation}
use Rattle.sim_lanes.specs.declared.runs.Run.{Run}
use Rattle.sim_lanes.specs.Narrow.{AreBelow, IsBelow, narrow_after, value_at, value_by_kind}
use Rattle.sim_lanes.specs.Runs.{AreOf, AreRuns}

-- what an operation of a kind gives
pub value_of_kind : (vs : List ℕ) (o : NarrowOperation) (kind : Kind) → o.kind ≡ kind → value_at vs o ≡ value_by_kind kind o.low.bits o.width.bits (get_or vs o.first 0) (get_or vs o.second 0) (get_or vs o.third 0)
value_of_kind vs o kind is = ap (λ k. value_by_kind k o.low.bits o.width.bits (get_or vs o.first 0) (get_or vs o.second 0) (get_or vs o.third 0)) is

-- the first run, and those behind it
pub record IsNext (os : List NarrowOperation) (rs : List Run) (r : Run) : Type 0 where
  pub room : r.count ≤ length os
  pub kind : AreOf r.kind (take r.count os)
  pub rest : AreRuns (drop r.count os) rs

parts : (rs : List Run) (i : ℕ) (d : Run) → i < length rs → drop i rs ≡ get_or rs i d ∷ drop (i + 1) rs
parts rs i d l = drop-cons rs i d l ∙ ap (λ n. get_or rs i d ∷ drop n rs) (sym (add-one i))

pub runs_next : (os : List NarrowOperation) (rs : List Run) (i : ℕ) (d : Run) → i < length rs → AreRuns os (drop i rs) → IsNext os (drop (i + 1) rs) (get_or rs i d)
unfolding AreRuns
runs_next os rs i d l h =
    let h' : AreRuns os (get_or rs i d ∷ drop (i + 1) rs) = subst (AreRuns os) (parts rs i d l) h in
    record { room = h'.0; kind = h'.1; rest = h'.2 }

pub runs_before : (os : List NarrowOperation) (rs : List Run) (i : ℕ) (d : Run) → i < length rs → IsNext os (drop (i + 1) rs) (get_or rs i d) → AreRuns os (drop i rs)
unfolding AreRuns
runs_before os rs i d l h =
    let h' : AreRuns os (get_or rs i d ∷ drop (i + 1) rs) = (h.room, h.kind, h.rest) in
    subst (AreRuns os) (sym (parts rs i d l)) h'

pub are_runs_as : (os os' : List NarrowOperation) (rs rs' : List Run) → os' ≡ os → rs' ≡ rs → AreRuns os rs → AreRuns os' rs'
are_runs_as os os' rs rs' p q h = subst (λ xs. AreRuns xs rs') (sym p) (subst (AreRuns os) (sym q) h)

pub runs_end : (os : List NarrowOperation) (rs : List Run) (i : ℕ) → length rs ≤ i → AreRuns os (drop i rs) → os ≡ []
unfolding AreRuns
runs_end os rs i l h = subst (AreRuns os) (drop_all i rs l) h

pub runs_none : (os : List NarrowOperation) (rs : List Run) (i : ℕ) → length rs ≤ i → os ≡ [] → AreRuns os (drop i rs)
unfolding AreRuns
runs_none os rs i l h = subst (AreRuns os) (sym (drop_all i rs l)) h

-- each operation of a run, and of the others, reads places before its own
pub below_front : (first n : ℕ) (os : List NarrowOperation) → AreBelow first os → AreBelow first (take n os)
below_front first n os h = record {
  each = λ k d l.
      let long = length-take n os in
      subst (IsBelow (first + k)) (sym (get_or-take n os k d (omega (arith, l, long)))) (h.each k d (omega (arith, l, long)));
}

pub below_rest : (first n : ℕ) (os : List NarrowOperation) → AreBelow first os → AreBelow (first + n) (drop n os)
below_rest first n os h = record {
  each = λ k d l.
      let long = length-drop n os in
      let e : first + (n + k) ≡ first + n + k = omega arith in
      subst (λ m. IsBelow m (get_or (drop n os) k d)) e (subst (IsBelow (first + (n + k))) (sym (get_or-drop n os k d)) (h.each (n + k) d (omega (arith, l, long))));
}

narrow_after-append : (os ps : List NarrowOperation) (vs : List ℕ) → narrow_after (os ++ ps) vs ≡ narrow_after ps (narrow_after os vs)
unfolding narrow_after
narrow_after-append [] ps vs = refl
narrow_after-append (o ∷ os) ps vs = narrow_after-append os ps (vs ++ (value_at vs o ∷ []))

-- a run is settled
pub run_settled : (os : List NarrowOperation) (n place : ℕ) (vs ws : List ℕ) → take (place + n) ws ≡ narrow_after (take n os) (take place vs) → narrow_after os (take place vs) ≡ narrow_after (drop n os) (take (place + n) ws)
run_settled os n place vs ws is =
    ap (λ xs. narrow_after xs (take place vs)) (sym (take-append-drop n os)) ∙ (narrow_after-append (take n os) (drop n os) (take place vs) ∙ ap (narrow_after (drop n os)) (sym is))

-- the first runs are settled
pub record SoFar (operations : List NarrowOperation) (rs : List Run) (i first place : ℕ) (start vs : List ℕ) (rest : List NarrowOperation) : Type 0 where
  pub runs : AreRuns rest (drop i rs)
  pub values : narrow_after operations (take first start) ≡ narrow_after rest (take place vs)

pub next_so_far : (operations : List NarrowOperation) (rs : List Run) (i first place : ℕ) (start vs ws : List ℕ) (rest now later : List NarrowOperation) (count : ℕ) (d : Run) → i < length rs → count ≡ min (get_or rs i d).count (length rest)
    → now ≡ take count rest → later ≡ drop count rest → (AreOf (get_or rs i d).kind now → take (place + length now) ws ≡ narrow_after now (take place vs)) → SoFar operations rs i first place start vs rest
    → SoFar operations rs (i + 1) first (place + count) start ws later
next_so_far operations rs i first place start vs ws rest now later count d l is front back settled h =
    let next = runs_next rest rs i d l h.runs in
    let same : (get_or rs i d).count ≡ count = omega (arith, is, next.room) in
    let long : length now ≡ count = omega (arith, ap length front, length-take count rest, is) in
    let of : AreOf (get_or rs i d).kind now = subst (AreOf (get_or rs i d).kind) (sym front) (subst (λ n. AreOf (get_or rs i d).kind (take n rest)) same next.kind) in
    record {
      runs = subst (λ os. AreRuns os (drop (i + 1) rs)) (sym back) (subst (λ n. AreRuns (drop n rest) (drop (i + 1) rs)) same next.rest);
      values = h.values
          ∙ (run_settled rest count place vs ws (ap (λ n. take (place + n) ws) (sym long) ∙ (settled of ∙ ap (λ os. narrow_after os (take place vs)) front)) ∙ ap (λ os. narrow_after os (take (place + count) ws)) (sym back));
    }
