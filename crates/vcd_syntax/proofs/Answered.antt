-- A text has one answer: its table, or its first problem.
use Rattle.std.specs.List.{AllByRecursion, list_all}
use Rattle.std.specs.Prelude.{IsSomeAnd, slice_get}
use Rattle.std.proofs.Common.{◌≡◌, ◌⊎◌, inl, inr, ℕ, zero, suc, ◌+◌, ◌<◌, ◌≤◌, Bool, true, false, Option, Some, None, List, [], ◌∷◌, ◌++◌, length, map, refl, ap, sym, ◌∙◌, subst, arith, length-append}
use Rattle.rb_base.specs.declared.ports.Pin.{Pin}
use Rattle.rb_grammar.specs.Separators.{is_blank}
use Rattle.rb_grammar.specs.Spelling.{Spells}
use Rattle.vcd_syntax.specs.declared.kind.Kind.{Kind}
use Rattle.vcd_syntax.specs.declared.error.VcdError.{VcdError}
use Rattle.vcd_syntax.specs.declared.error.VcdError.TheVariants as error
use Rattle.vcd_syntax.specs.Words.{vcd}
use Rattle.vcd_syntax.specs.Tokens.{Word, Token}
use Rattle.vcd_syntax.specs.Meaning.{Event, Comes, Gives, pins, codes, events, times, before_time, last_given, values_at, AreRows}
use Rattle.vcd_syntax.specs.Faulty.{Problem, Misformed, Repeated, Unknown, Unfit, Untimely, Excessive}
use Rattle.vcd_syntax.specs.Reading.{IsFirst, IsSound, IsTable, Lacks, Fails}
use Rattle.vcd_syntax.specs.declared.state.State.{State}
use Rattle.vcd_syntax.specs.declared.state.State.TheVariants as state
use Rattle.vcd_syntax.specs.Exits.{exit_by}
use Rattle.vcd_syntax.specs.Known.{Known, Verdict, Fine, Here, Before, more, judge}
use Rattle.vcd_syntax.specs.Reads.{Reads}
use Rattle.vcd_syntax.proofs.Saying.{given_stays}
use Rattle.vcd_syntax.proofs.Steps.{goes_on, wrong_here, wrong_before, no_exit, no_end, at_end, nothing_read}
use Rattle.vcd_syntax.proofs.OneAnswer.{one_sound, one_problem, no_both}
use Rattle.vcd_syntax.proofs.Lines.{Breaks, Spelled, in_word, nothing, pass_blank, one_word}

-- The error of a problem, and the problem of an error.

abbrev error_of : Problem → ℕ → VcdError
error_of Misformed k = error.Form (record { 0 = k })
error_of Repeated k = error.Twice (record { 0 = k })
error_of Unknown k = error.Code (record { 0 = k })
error_of Unfit k = error.Value (record { 0 = k })
error_of Untimely k = error.Time (record { 0 = k })
error_of Excessive k = error.Many (record { 0 = k })

fails : (text : List ℕ) (p : Problem) (k : ℕ) → IsFirst text p k → Fails text (error_of p k)
fails text Misformed k h = h
fails text Repeated k h = h
fails text Unknown k h = h
fails text Unfit k h = h
fails text Untimely k h = h
fails text Excessive k h = h

-- an error is that of a first problem, or of a variable without a value
abbrev Cause : List ℕ → VcdError → Type 0
Cause text e = ((p : Problem) × (k : ℕ) × IsFirst text p k × (error_of p k ≡ e)) ⊎ ((i : ℕ) × Lacks text i × (error.NoValue i ≡ e))

cause : (text : List ℕ) (e : VcdError) → Fails text e → Cause text e
cause text (error.Form p) f = inl (Misformed, p.0, f, refl)
cause text (error.Twice p) f = inl (Repeated, p.0, f, refl)
cause text (error.Code p) f = inl (Unknown, p.0, f, refl)
cause text (error.Value p) f = inl (Unfit, p.0, f, refl)
cause text (error.Time p) f = inl (Untimely, p.0, f, refl)
cause text (error.Many p) f = inl (Excessive, p.0, f, refl)
cause text (error.NoValue i) f = inr (i, f, refl)
cause text error.NoMemory f = absurd f

-- Two variables that are the first without a value are one.
one_lacking : (text : List ℕ) (i j : ℕ) → Lacks text i → Lacks text j → i ≡ j
one_lacking text i j a b =
    let one : a.ms ≡ b.ms = one_sound text a.ms b.ms a.sound b.sound in
    let low : i < j → ⊥ = λ l. b.before i l (subst (λ z. slice_get (values_at z 0) i ≡ Some None) one a.none) in
    let high : j < i → ⊥ = λ l. a.before j l (subst (λ z. slice_get (values_at z 0) j ≡ Some None) (sym one) b.none) in
    apart low high
  where
    apart : (i < j → ⊥) → (j < i → ⊥) → i ≡ j
    apart low high = omega (arith, low, high)

pub one_error : (text : List ℕ) (d e : VcdError) → Fails text d → Fails text e → d ≡ e
one_error text d e f g = go (cause text d f) (cause text e g)
  where
    go : Cause text d → Cause text e → d ≡ e
    go (inl a) (inl b) =
        let one = one_problem text a.0 b.0 a.1 b.1 a.2 b.2 in
        sym a.3 ∙ (ap (λ z. error_of z a.1) one.0 ∙ (ap (error_of b.0) one.1 ∙ b.3))
    go (inl a) (inr b) = absurd (no_both text b.1.ms a.0 a.1 b.1.sound a.2)
    go (inr a) (inl b) = absurd (no_both text a.1.ms b.0 b.1 a.1.sound b.2)
    go (inr a) (inr b) = sym a.2 ∙ (ap error.NoValue (one_lacking text a.0 b.0 a.1 b.1) ∙ b.2)

-- A table has a value in each place.

each_some : (row : List ℕ) (i : ℕ) → slice_get (map Some row) i ≡ Some None → ⊥
each_some [] i e = cc
each_some (x ∷ row) zero e = cc
each_some (x ∷ row) (suc i) e = each_some row i e

has_row : (o : Option (List ℕ)) (vs : List (Option ℕ)) (i : ℕ) → IsSomeAnd o (λ row. map Some row ≡ vs) → slice_get vs i ≡ Some None → ⊥
has_row None vs i h e = absurd h
has_row (Some row) vs i h e = each_some row i (ap (λ z. slice_get z i) h ∙ e)

lacks_not : (text : List ℕ) (ps : List Pin) (rows : List (List ℕ)) (i : ℕ) → IsTable text ps rows → Lacks text i → ⊥
lacks_not text ps rows i t l =
    let one : t.ms ≡ l.ms = one_sound text t.ms l.ms t.sound l.sound in
    let timed : 0 < length (times (events t.ms)) = subst (λ z. 0 < length (times (events z))) (sym one) l.timed in
    has_row (slice_get rows 0) (values_at t.ms 0) i (t.values.each 0 (omega (arith, t.values.count, timed))) (subst (λ z. slice_get (values_at z 0) i ≡ Some None) (sym one) l.none)

pub no_error : (text : List ℕ) (ps : List Pin) (rows : List (List ℕ)) (e : VcdError) → IsTable text ps rows → Fails text e → ⊥
no_error text ps rows e t f = elim (cause text e f) [
  | inl a ↦ no_both text t.ms a.0 a.1 t.sound a.2
  | inr a ↦ lacks_not text ps rows a.0 t a.1
]

-- Each text spells words.

-- the run of bytes at the front that are no blanks, and what is behind it
run : (text : List ℕ) → (w : List ℕ) × (rest : List ℕ) × (text ≡ w ++ rest) × (list_all in_word w ≡ true) × Breaks rest
run [] = ([], [], refl, refl, tt)
run (b ∷ bs) = at (is_blank b) refl (run bs)
  where
    at : (c : Bool) → is_blank b ≡ c → (w : List ℕ) × (rest : List ℕ) × (bs ≡ w ++ rest) × (list_all in_word w ≡ true) × Breaks rest
        → (w : List ℕ) × (rest : List ℕ) × (b ∷ bs ≡ w ++ rest) × (list_all in_word w ≡ true) × Breaks rest
    at true e r = ([], b ∷ bs, refl, refl, e)
    at false e r = (b ∷ r.0, r.1, ap (λ z. b ∷ z) r.2, rw (e, r.3) refl, r.4)

some_words : (fuel size : ℕ) (text : List ℕ) → length text ≤ fuel → length text ≤ size → (ws : List (List ℕ)) × Spelled size text ws
some_words fuel size [] f l = ([], nothing size)
some_words zero size (b ∷ bs) f l = absurd (omega arith)
some_words (suc fuel) size (b ∷ bs) f l = at (is_blank b) refl (λ rest less. some_words fuel size rest (omega (arith, less, f)) (omega (arith, less, l)))
  where
    at : (c : Bool) → is_blank b ≡ c → ((rest : List ℕ) → length rest ≤ length bs → (ws : List (List ℕ)) × Spelled size rest ws) → (ws : List (List ℕ)) × Spelled size (b ∷ bs) ws
    at true e more = let r = more bs (omega arith) in (r.0, pass_blank size b bs r.0 e r.1)
    at false e more =
        let r = run bs in
        let whole : b ∷ bs ≡ (b ∷ r.0) ++ r.1 = ap (λ z. b ∷ z) r.2 in
        let q = more r.1 (omega (arith, ap length r.2, length-append r.0 r.1)) in (
          (b ∷ r.0) ∷ q.0,
          subst (λ z. Spelled size z ((b ∷ r.0) ∷ q.0)) (sym whole)
              (one_word size (b ∷ r.0) r.1 q.0 (rw (e, r.3) refl) r.4 (subst (λ z. length z ≤ size) whole l) q.1),
        )

spelled : (text : List ℕ) → (ts : List Word) × Spells vcd text ts
unfolding Spelled
spelled text = let r = some_words (length text) (length text) text (omega arith) (omega arith) in (r.1.0, r.1.1)

-- A sound text has a table, or lacks a value.

before_before : (n m : ℕ) (es : List Event) → n ≤ m → before_time n (before_time m es) ≡ before_time n es
before_before n m [] l = refl
before_before zero zero (Comes t ∷ es) l = refl
before_before zero (suc m) (Comes t ∷ es) l = refl
before_before (suc n) zero (Comes t ∷ es) l = absurd (omega (arith, l))
before_before (suc n) (suc m) (Comes t ∷ es) l = ap (λ z. Comes t ∷ z) (before_before n m es (omega (arith, l)))
before_before zero zero (Gives c x ∷ es) l = ap (λ z. Gives c x ∷ z) (before_before zero zero es l)
before_before zero (suc m) (Gives c x ∷ es) l = ap (λ z. Gives c x ∷ z) (before_before zero (suc m) es l)
before_before (suc n) zero (Gives c x ∷ es) l = absurd (omega (arith, l))
before_before (suc n) (suc m) (Gives c x ∷ es) l = ap (λ z. Gives c x ∷ z) (before_before (suc n) (suc m) es l)

abbrev AllSome : List (Option ℕ) → Type 0
AllSome os = AllByRecursion (λ o. o ≡ None → ⊥) os

-- the first that is none, where there is one
abbrev FirstNone : List (Option ℕ) → Type 0
FirstNone os = (i : ℕ) × (slice_get os i ≡ Some None) × ((j : ℕ) → j < i → slice_get os j ≡ Some None → ⊥)

first_none : (os : List (Option ℕ)) → FirstNone os ⊎ AllSome os
first_none [] = inr tt
first_none (None ∷ os) = inl (0, refl, λ j l e. absurd (omega (arith, l)))
first_none (Some x ∷ os) = elim (first_none os) [
  | inl r ↦ inl (suc r.0, r.1, earlier r.0 r.2)
  | inr a ↦ inr ((λ e. cc), a)
]
  where
    earlier : (i : ℕ) → ((j : ℕ) → j < i → slice_get os j ≡ Some None → ⊥) → (j : ℕ) → j < suc i → slice_get (Some x ∷ os) j ≡ Some None → ⊥
    earlier i h zero l e = cc
    earlier i h (suc j) l e = h j (omega (arith, l)) e

abbrev value_of : Option ℕ → ℕ
value_of None = 0
value_of (Some x) = x

filled : (os : List (Option ℕ)) → AllSome os → map Some (map value_of os) ≡ os
filled [] a = refl
filled (None ∷ os) a = absurd (a.0 refl)
filled (Some x ∷ os) a = ap (λ z. Some x ∷ z) (filled os a.1)

-- where each has a value before the second time, each has one before any later time
still_some : (es : List Event) (k : ℕ) (cs : List (List ℕ)) → AllSome (map (last_given (before_time 1 es)) cs) → AllSome (map (last_given (before_time (k + 1) es)) cs)
still_some es k [] a = tt
still_some es k (c ∷ cs) a =
    (λ e. a.0 (ap (λ z. last_given z c) (sym (before_before 1 (k + 1) es (omega arith))) ∙ given_stays 1 (before_time (k + 1) es) c e), still_some es k cs a.1)

abbrev rows_from : (ℕ → List ℕ) → ℕ → ℕ → List (List ℕ)
rows_from f k zero = []
rows_from f k (suc n) = f k ∷ rows_from f (k + 1) n

rows_count : (f : ℕ → List ℕ) (k n : ℕ) → length (rows_from f k n) ≡ n
rows_count f k zero = refl
rows_count f k (suc n) = ap suc (rows_count f (k + 1) n)

rows_get : (f : ℕ → List ℕ) (k n i : ℕ) → i < n → slice_get (rows_from f k n) i ≡ Some (f (k + i))
rows_get f k zero i l = absurd (omega (arith, l))
rows_get f k (suc n) zero l = ap (λ z. Some (f z)) (let e : k ≡ k + 0 = omega arith in e)
rows_get f k (suc n) (suc i) l = rows_get f (k + 1) n i (omega (arith, l)) ∙ ap (λ z. Some (f z)) (let e : (k + 1) + i ≡ k + suc i = omega arith in e)

-- A text is answered by its table, or by a problem.
Answer : List ℕ → Type 0
Answer text = ((ps : List Pin) × (rows : List (List ℕ)) × IsTable text ps rows) ⊎ ((e : VcdError) × Fails text e)

module _ (text : List ℕ) (ms : List Token) (h : IsSound text ms) where
  abbrev row : ℕ → List ℕ
  row k = map value_of (values_at ms k)

  held : AllSome (values_at ms 0) → AreRows ms (rows_from row 0 (length (times (events ms))))
  held a = record {
    count = rows_count row 0 (length (times (events ms)));
    each = λ k l. subst (λ o. IsSomeAnd o (λ r. map Some r ≡ values_at ms k)) (sym (rows_get row 0 (length (times (events ms))) k (omega (arith, l, rows_count row 0 (length (times (events ms)))))))
        (subst (λ i. map Some (row i) ≡ values_at ms k) (let e : k ≡ 0 + k = omega arith in e) (filled (values_at ms k) (still_some (events ms) k (codes ms) a)));
  }

  table : (n : ℕ) → length (times (events ms)) ≡ n → FirstNone (values_at ms 0) ⊎ AllSome (values_at ms 0) → Answer text
  unfolding Answer
  table n e (inr a) = inl (pins ms, rows_from row 0 (length (times (events ms))), record { ms = ms; sound = h; variables = refl; values = held a })
  table zero e (inl r) = inl (pins ms, [], record { ms = ms; sound = h; variables = refl; values = record { count = sym e; each = λ k l. absurd (omega (arith, l)) } })
  table (suc n) e (inl r) = inr (error.NoValue r.0, record { ms = ms; sound = h; timed = omega (arith, e); none = r.1; before = r.2 })

  settled : Answer text
  settled = table (length (times (events ms))) refl (first_none (values_at ms 0))

problem : (text : List ℕ) (p : Problem) (k : ℕ) → IsFirst text p k → Answer text
unfolding Answer
problem text p k h = inr (error_of p k, fails text p k h)

ended : (text : List ℕ) (s : State) (k : Known) (back : ℕ) → Reads text [] s k back → Answer text
ended text state.Entries k back h = settled text h.ms (at_end text k back h)
ended text s k back h = problem text Misformed (length text) (no_end text s k back h (λ e. cc))

answer_from : (text : List ℕ) (left : List Word) (s : State) (k : Known) (back : ℕ) → Reads text left s k back → Answer text
answer_from text [] s k back h = ended text s k back h
answer_from text (w ∷ left) s k back h = at (exit_by s w.token) refl (λ t u j i. answer_from text left t u j i)
  where
    judged : (x : Kind) (t : State) → exit_by s w.token ≡ Some (x, t) → (v : Verdict) → judge x w.token k ≡ v → ((t : State) (u : Known) (j : ℕ) → Reads text left t u j → Answer text) → Answer text
    judged x t e Fine f next = next t (more x w.token k) w.place (goes_on text w left s k back h x t e f)
    judged x t e (Here p) f next = problem text p w.place (wrong_here text w left s k back h x t e p f)
    judged x t e (Before p) f next = problem text p back (wrong_before text w left s k back h x t e p f)

    at : (o : Option (Kind × State)) → exit_by s w.token ≡ o → ((t : State) (u : Known) (j : ℕ) → Reads text left t u j → Answer text) → Answer text
    at None e next = problem text Misformed w.place (no_exit text w left s k back h e)
    at (Some x) e next = judged x.0 x.1 e (judge x.0 w.token k) refl next

answer : (text : List ℕ) → Answer text
answer text =
    let s = spelled text in
    answer_from text s.0 state.Front (record { codes = []; names = []; widths = []; events = []; word = [] }) 0 (nothing_read text s.0 s.1)

pub answered : (text : List ℕ) → ((ps : List Pin) × (rows : List (List ℕ)) × IsTable text ps rows) ⊎ ((e : VcdError) × Fails text e)
unfolding Answer
answered text = answer text
