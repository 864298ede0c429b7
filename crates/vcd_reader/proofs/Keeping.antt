-- The rows that are kept stay what they are with one more word.
use Rattle.std.specs.List.{last_or}
use Rattle.std.specs.Option.{option_map}
use Rattle.std.specs.Prelude.{IsSomeAnd, slice_get}
use Rattle.std.proofs.Common.{◌≡◌, ℕ, zero, suc, ◌+◌, ◌-◌, ◌*◌, ◌<◌, ◌≤◌, Bool, true, false, ltb, Option, Some, None, List, [], ◌∷◌, ◌++◌, length, map, refl, ap, sym, ◌∙◌, subst, arith, append-nil, length-append}
use Rattle.std.proofs.lemmas.List.{length-map}
use Rattle.std.proofs.lemmas.Option.{slice_get-map}
use borrow.Author.Tests.{ltb-true, ltb-false}
use Rattle.stim_csv.specs.Vectors.{cut}
use Rattle.vcd_syntax.specs.Meaning.{Event, Comes, Gives, times, last_given, before_time}
use Rattle.vcd_syntax.specs.Known.{Known}
use Rattle.vcd_syntax.proofs.Saying.{AreClosed, times-append, before_time-settled, before_time-next, closed_on, closed_more, given_stays}
use Rattle.vcd_reader.specs.declared.rows.Rows.{Rows}
use Rattle.vcd_reader.specs.Rows.{IsAdded, ClosesAt}
use Rattle.vcd_reader.specs.Steps.{known_row, ended_rows, AreEnded, IsFirstNone, AreKept}
use Rattle.stim_csv.proofs.Cutting.{length-cut, cut-push}

abbrev pub seen : List (List ℕ) → List Event → Known
seen cs es = record { codes = cs; names = []; widths = []; events = es; word = [] }

to_closed : (cs : List (List ℕ)) (es : List Event) (values : List ℕ) → AreEnded cs es values → AreClosed (seen cs es) (ended_rows cs es values)
to_closed cs es values h = record { count = length-cut (length cs) (length (times es) - 1) values; each = h.each }

from_closed : (cs : List (List ℕ)) (es : List Event) (values : List ℕ) (rows : List (List ℕ)) → rows ≡ ended_rows cs es values → length values ≡ (length (times es) - 1) * length cs → AreClosed (seen cs es) rows → AreEnded cs es values
from_closed cs es values rows e w h = record {
  whole = w;
  each = subst (λ r. (i : ℕ) → i < length r → IsSomeAnd (slice_get r i) (λ row. map Some row ≡ known_row cs es i)) e h.each;
}

one_time : (es : List Event) (t : ℕ) → length (times (es ++ (Comes t ∷ []))) ≡ length (times es) + 1
one_time es t = ap length (times-append es (Comes t ∷ [])) ∙ length-append (times es) (t ∷ [])

no_time : (es : List Event) (c : List ℕ) (v : ℕ) → times (es ++ (Gives c v ∷ [])) ≡ times es
no_time es c v = times-append es (Gives c v ∷ []) ∙ append-nil (times es)

row_settled : (cs : List (List ℕ)) (es fs : List Event) → 1 < length (times es) → known_row cs (es ++ fs) 0 ≡ known_row cs es 0
row_settled cs es fs l = ap (λ z. map (last_given z) cs) (before_time-settled 1 es fs l)

-- a change
pub kept_given : (cs : List (List ℕ)) (es : List Event) (m : Option ℕ) (values : List ℕ) (c : List ℕ) (v : ℕ) → AreKept cs es m values → AreKept cs (es ++ (Gives c v ∷ [])) m values
kept_given cs es None values c v h =
    let t : length (times (es ++ (Gives c v ∷ []))) ≡ length (times es) = ap length (no_time es c v) in
    from_closed cs (es ++ (Gives c v ∷ [])) values (ended_rows cs es values) (ap (λ n. cut (length cs) (n - 1) values) (sym t)) (h.whole ∙ ap (λ n. (n - 1) * length cs) (sym t))
    (closed_on (seen cs es) (ended_rows cs es values) (Gives c v ∷ []) [] [] [] refl (to_closed cs es values h))
kept_given cs es (Some i) values c v h =
    (subst (λ n. 1 < n) (sym (ap length (no_time es c v))) h.0, subst (λ r. IsFirstNone r i) (sym (row_settled cs es (Gives c v ∷ []) h.0)) h.1)

none_ended : (cs : List (List ℕ)) (es : List Event) (values : List ℕ) → length (times es) ≤ 1 → length values ≡ 0 → AreEnded cs es values
none_ended cs es values l e =
    let n : length (times es) - 1 ≡ 0 = omega (arith, l) in
    record {
      whole = let w : (length (times es) - 1) * length cs ≡ 0 * length cs = ap (λ k. k * length cs) n in omega (arith, e, w);
      each = λ i below. absurd (omega (arith, below, length-cut (length cs) (length (times es) - 1) values, n));
    }

empty_values : (cs : List (List ℕ)) (es : List Event) (values : List ℕ) → length (times es) ≤ 1 → AreEnded cs es values → length values ≡ 0
empty_values cs es values l h =
    let n : length (times es) - 1 ≡ 0 = omega (arith, l) in
    let w : (length (times es) - 1) * length cs ≡ 0 * length cs = ap (λ k. k * length cs) n in
    omega (arith, h.whole, w)

-- nothing is kept of no words
pub kept_nothing : (m : Option ℕ) (values : List ℕ) → m ≡ None → values ≡ [] → AreKept [] [] m values
kept_nothing m values e f = subst (λ z. AreKept [] [] z values) (sym e) (none_ended [] [] values (omega arith) (ap length f))

-- a new variable, before all events
pub kept_code : (cs : List (List ℕ)) (m : Option ℕ) (values : List ℕ) (c : List ℕ) → AreKept cs [] m values → AreKept (cs ++ (c ∷ [])) [] m values
kept_code cs None values c h = none_ended (cs ++ (c ∷ [])) [] values (omega arith) (empty_values cs [] values (omega arith) h)
kept_code cs (Some i) values c h = absurd (omega (arith, h.0))

last_some : (t : ℕ) (ts : List ℕ) → last_or (Some t) ts ≡ None → ⊥
last_some t [] e = cc
last_some t (s ∷ ts) e = last_some s ts e

pub none_last : (ts : List ℕ) → last_or None ts ≡ None → ts ≡ []
none_last [] e = refl
none_last (t ∷ ts) e = absurd (last_some t ts e)

pub some_last : (ts : List ℕ) (s : ℕ) → last_or None ts ≡ Some s → 0 < length ts
some_last [] s e = cc
some_last (t ∷ ts) s e = omega arith

-- a row that is whole lacks no value
never_none : (row : List ℕ) (o : List (Option ℕ)) (i : ℕ) → map Some row ≡ o → slice_get o i ≡ Some None → ⊥
never_none row o i e f = at (slice_get row i) (sym (slice_get-map Some row i) ∙ (ap (λ z. slice_get z i) e ∙ f))
  where
    at : (x : Option ℕ) → option_map Some x ≡ Some None → ⊥
    at (Some x) g = cc
    at None g = cc

-- what has no value now had none before
none_before : (n : ℕ) (es : List Event) (cs : List (List ℕ)) (i : ℕ) → slice_get (map (last_given es) cs) i ≡ Some None → slice_get (map (last_given (before_time n es)) cs) i ≡ Some None
none_before n es [] i e = cc
none_before n es (c ∷ cs) zero e = let none : last_given es c ≡ None = cc in ap Some (given_stays n es c none)
none_before n es (c ∷ cs) (suc i) e = none_before n es cs i e

-- where a variable lacks a value though all rows before are whole, the first row has not ended
pub not_ended : (cs : List (List ℕ)) (es : List Event) (values : List ℕ) (i : ℕ) → AreEnded cs es values → slice_get (map (last_given es) cs) i ≡ Some None → length (times es) ≤ 1
not_ended cs es values i h e = at (ltb 1 (length (times es))) refl
  where
    row : (o : Option (List ℕ)) → IsSomeAnd o (λ row. map Some row ≡ known_row cs es 0) → ⊥
    row (Some r) g = never_none r (known_row cs es 0) i g (none_before 1 es cs i e)
    row None g = g

    at : (b : Bool) → ltb 1 (length (times es)) ≡ b → length (times es) ≤ 1
    at false f = ltb-false 1 (length (times es)) f
    at true f =
        let l = ltb-true 1 (length (times es)) f in
        absurd (row (slice_get (ended_rows cs es values) 0) (h.each 0 (omega (arith, l, length-cut (length cs) (length (times es) - 1) values))))

-- one row more
pub more_rows : (cs : List (List ℕ)) (es : List Event) (values row : List ℕ) (n : ℕ) → 0 < length (times es) → length row ≡ length cs → length values ≡ (length (times es) - 1) * length cs → n ≡ length (times es)
    → (cut (length cs) n (values ++ row) ≡ ended_rows cs es values ++ (row ∷ [])) × (length (values ++ row) ≡ n * length cs)
more_rows cs es values row n some l w e =
    let k = length (times es) - 1 in
    let next : n ≡ suc k = omega (arith, e, some) in
    let times_more : suc k * length cs ≡ length cs + k * length cs = grind arith in (
      ap (λ z. cut (length cs) z (values ++ row)) next ∙ cut-push (length cs) k values row w l,
      let m : n * length cs ≡ suc k * length cs = ap (λ z. z * length cs) next in omega (arith, length-append values row, w, l, m, times_more),
    )

pub row_length : (row : List ℕ) (es : List Event) (cs : List (List ℕ)) → map Some row ≡ map (last_given es) cs → length row ≡ length cs
row_length row es cs e = sym (length-map row Some) ∙ (ap length e ∙ length-map cs (last_given es))

-- a time
kept_next : (cs : List (List ℕ)) (es : List Event) (t : ℕ) (m : Option ℕ) (values after : List ℕ) → 0 < length (times es) → AreEnded cs es values → IsAdded values after (map (last_given es) cs) m → AreKept cs (es ++ (Comes t ∷ [])) m after
kept_next cs es t None values after some h a =
    let row = a.0 in
    let n : length (times (es ++ (Comes t ∷ []))) - 1 ≡ length (times es) = omega (arith, one_time es t) in
    let r = more_rows cs es values row (length (times (es ++ (Comes t ∷ []))) - 1) some (row_length row es cs a.2) h.whole n in
    from_closed cs (es ++ (Comes t ∷ [])) after (ended_rows cs es values ++ (row ∷ [])) (sym r.0 ∙ ap (cut (length cs) (length (times (es ++ (Comes t ∷ []))) - 1)) (sym a.1)) (ap length a.1 ∙ r.1)
    (closed_more (seen cs es) (ended_rows cs es values) row t [] [] [] some a.2 (to_closed cs es values h))
kept_next cs es t (Some i) values after some h a =
    let one = not_ended cs es values i h a.0 in
    let first : length (times es) ≡ 1 = omega (arith, one, some) in
    let row : known_row cs (es ++ (Comes t ∷ [])) 0 ≡ map (last_given es) cs = ap (λ z. map (last_given z) cs) (ap (λ k. before_time k (es ++ (Comes t ∷ []))) (sym first) ∙ before_time-next es [] t) in
    (omega (arith, one_time es t, first), record { none = ap (λ z. slice_get z i) row ∙ a.0; before = λ j l e. a.1 j l (ap (λ z. slice_get z j) (sym row) ∙ e) })

kept_first : (cs : List (List ℕ)) (es : List Event) (t : ℕ) (m : Option ℕ) (values : List ℕ) → times es ≡ [] → AreKept cs es m values → AreKept cs (es ++ (Comes t ∷ [])) m values
kept_first cs es t None values e h =
    let n = ap length e in
    none_ended cs (es ++ (Comes t ∷ [])) values (omega (arith, one_time es t, n)) (empty_values cs es values (omega (arith, n)) h)
kept_first cs es t (Some i) values e h = absurd (omega (arith, h.0, ap length e))

kept_missing : (cs : List (List ℕ)) (es : List Event) (t i : ℕ) (values : List ℕ) → AreKept cs es (Some i) values → AreKept cs (es ++ (Comes t ∷ [])) (Some i) values
kept_missing cs es t i values h = (omega (arith, one_time es t, h.0), subst (λ r. IsFirstNone r i) (sym (row_settled cs es (Comes t ∷ []) h.0)) h.1)

pub kept_time : (cs : List (List ℕ)) (es : List Event) (t : ℕ) (last missing : Option ℕ) (old closed : Rows) → last ≡ last_or None (times es) → missing ≡ old.missing → AreKept cs es missing old.values
    → ClosesAt last missing old closed (map (last_given es) cs) → AreKept cs (es ++ (Comes t ∷ [])) closed.missing closed.values
kept_time cs es t None missing old closed l m h c =
    subst (λ r. AreKept cs (es ++ (Comes t ∷ [])) r.missing r.values) (sym c) (subst (λ z. AreKept cs (es ++ (Comes t ∷ [])) z old.values) m (kept_first cs es t missing old.values (none_last (times es) (sym l)) h))
kept_time cs es t (Some s) (Some i) old closed l m h c =
    subst (λ r. AreKept cs (es ++ (Comes t ∷ [])) r.missing r.values) (sym c) (subst (λ z. AreKept cs (es ++ (Comes t ∷ [])) z old.values) m (kept_missing cs es t i old.values h))
kept_time cs es t (Some s) None old closed l m h c = kept_next cs es t closed.missing old.values closed.values (some_last (times es) s (sym l)) h c.2
