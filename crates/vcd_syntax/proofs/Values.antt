-- After the changes of an edge each pin's last value is that of the edge.
use Rattle.std.specs.Option.{option_or}
use Rattle.std.specs.Str.{bytes_eq}
use Rattle.std.specs.Cmp.Lexicographic.{bytes_decides}
use Rattle.std.specs.Prelude.{◌==◌, if◌then◌else◌, IsSomeAnd, slice_get}
use Rattle.std.proofs.Common.{◌≡◌, ℕ, zero, suc, ◌+◌, ◌*◌, ◌<◌, ◌≤◌, Bool, true, false, Option, Some, None, List, [], ◌∷◌, ◌++◌, length, map, refl, ap, sym, ◌∙◌, subst, arith, append_assoc, append-nil, length-append}
use Rattle.std.proofs.lemmas.Bool.{false_from_ne_true}
use Rattle.std.proofs.lemmas.Bool.Decides.{nat_tests}
use Rattle.rb_base.specs.declared.ports.Pin.{Pin}
use Rattle.v_design.specs.Fits.{FitsPins, AllFit}
use Rattle.vcd_syntax.specs.Meaning.{Event, Comes, Gives, last_given, times, before_time}
use Rattle.vcd_syntax.specs.Dump.{code}
use Rattle.vcd_syntax.proofs.Saying.{last_given-append, times-append, before_time-all, before_time-next}
use Rattle.vcd_syntax.proofs.Codes.{one_code}
use Rattle.vcd_syntax.proofs.Fine.{codes_from}
use Rattle.vcd_syntax.proofs.Changes.{all_events, changed_events}

-- the pins from k on have these values
abbrev pub Hold : List Event → ℕ → List Pin → List ℕ → Type 0
Hold es k [] [] = Unit {0}
Hold es k [] (x ∷ xs) = ⊥
Hold es k (p ∷ ps) [] = ⊥
Hold es k (p ∷ ps) (x ∷ xs) = (last_given es (code k) ≡ Some x) × Hold es (k + 1) ps xs

differ : (j k : ℕ) → (j ≡ k → ⊥) → bytes_eq (code j) (code k) ≡ false
differ j k n = false_from_ne_true (bytes_eq (code j) (code k)) (λ t. n (one_code j k ((bytes_decides (code j) (code k)).0 t)))

quiet : (es fs : List Event) (c : List ℕ) → last_given fs c ≡ None → last_given (es ++ fs) c ≡ last_given es c
quiet es fs c h = last_given-append es fs c ∙ ap (λ o. option_or o (last_given es c)) h

loud : (es fs : List Event) (c : List ℕ) (y : ℕ) → last_given fs c ≡ Some y → last_given (es ++ fs) c ≡ Some y
loud es fs c y h = last_given-append es fs c ∙ ap (λ o. option_or o (last_given es c)) h

-- a change of one pin says nothing of another
other : (j k y : ℕ) → (k ≡ j → ⊥) → last_given (Gives (code k) y ∷ []) (code j) ≡ None
other j k y n = ap (λ b. if b then Some y else None) (differ k j n)

own : (k y : ℕ) → last_given (Gives (code k) y ∷ []) (code k) ≡ Some y
own k y = ap (λ b. if b then Some y else None) ((bytes_decides (code k) (code k)).1 refl)

all_silent : (j k : ℕ) (ps : List Pin) (xs : List ℕ) → j < k → last_given (all_events k ps xs) (code j) ≡ None
all_silent j k [] xs l = refl
all_silent j k (p ∷ ps) [] l = refl
all_silent j k (p ∷ ps) (x ∷ xs) l =
    quiet (Gives (code k) x ∷ []) (all_events (k + 1) ps xs) (code j) (all_silent j (k + 1) ps xs (omega (arith, l))) ∙ other j k x (λ e. omega (arith, e, l))

changed_silent : (j k : ℕ) (ps : List Pin) (xs ys : List ℕ) → j < k → last_given (changed_events k ps xs ys) (code j) ≡ None
changed_silent j k [] xs ys l = refl
changed_silent j k (p ∷ ps) [] ys l = refl
changed_silent j k (p ∷ ps) (x ∷ xs) [] l = refl
changed_silent j k (p ∷ ps) (x ∷ xs) (y ∷ ys) l =
    quiet (if x == y then [] else Gives (code k) y ∷ []) (changed_events (k + 1) ps xs ys) (code j) (changed_silent j (k + 1) ps xs ys (omega (arith, l))) ∙ at (x == y)
  where
    at : (b : Bool) → last_given (if b then [] else Gives (code k) y ∷ []) (code j) ≡ None
    at true = refl
    at false = other j k y (λ e. omega (arith, e, l))

-- what says nothing of them keeps their values
keep : (es fs : List Event) (k : ℕ) (ps : List Pin) (xs : List ℕ) → ((j : ℕ) → k ≤ j → j < k + length ps → last_given fs (code j) ≡ None) → Hold es k ps xs → Hold (es ++ fs) k ps xs
keep es fs k [] [] f h = h
keep es fs k [] (x ∷ xs) f h = h
keep es fs k (p ∷ ps) [] f h = h
keep es fs k (p ∷ ps) (x ∷ xs) f h = (quiet es fs (code k) (f k (omega arith) (omega arith)) ∙ h.0, keep es fs (k + 1) ps xs (λ j l m. f j (omega (arith, l)) (omega (arith, m))) h.1)

all_hold : (es : List Event) (k : ℕ) (ps : List Pin) (xs : List ℕ) → FitsPins ps xs → Hold (es ++ all_events k ps xs) k ps xs
all_hold es k [] [] f = tt
all_hold es k [] (x ∷ xs) f = absurd f
all_hold es k (p ∷ ps) [] f = absurd f
all_hold es k (p ∷ ps) (x ∷ xs) f =
    let rest = all_events (k + 1) ps xs in (
      loud es (all_events k (p ∷ ps) (x ∷ xs)) (code k) x (loud_front k x rest (all_silent k (k + 1) ps xs (omega arith))),
      subst (λ z. Hold z (k + 1) ps xs) (append_assoc es (Gives (code k) x ∷ []) rest) (all_hold (es ++ (Gives (code k) x ∷ [])) (k + 1) ps xs f.1),
    )
  where
    loud_front : (k x : ℕ) (rest : List Event) → last_given rest (code k) ≡ None → last_given (Gives (code k) x ∷ rest) (code k) ≡ Some x
    loud_front k x rest h = quiet (Gives (code k) x ∷ []) rest (code k) h ∙ own k x

changed_hold : (es : List Event) (k : ℕ) (ps : List Pin) (xs ys : List ℕ) → Hold es k ps xs → FitsPins ps ys → Hold (es ++ changed_events k ps xs ys) k ps ys
changed_hold es k [] [] [] h f = tt
changed_hold es k [] (x ∷ xs) ys h f = absurd h
changed_hold es k [] [] (y ∷ ys) h f = absurd f
changed_hold es k (p ∷ ps) [] ys h f = absurd h
changed_hold es k (p ∷ ps) (x ∷ xs) [] h f = absurd f
changed_hold es k (p ∷ ps) (x ∷ xs) (y ∷ ys) h f = at (x == y) refl (λ fs g. changed_hold fs (k + 1) ps xs ys g f.1)
  where
    silent : last_given (changed_events (k + 1) ps xs ys) (code k) ≡ None
    silent = changed_silent k (k + 1) ps xs ys (omega arith)

    at : (b : Bool) → (x == y) ≡ b → ((fs : List Event) → Hold fs (k + 1) ps xs → Hold (fs ++ (changed_events (k + 1) ps xs ys)) (k + 1) ps ys) → Hold (es ++ ((if b then [] else Gives (code k) y ∷ []) ++ (changed_events (k + 1) ps xs ys))) k (p ∷ ps) (y ∷ ys)
    at true e ih = let same : x ≡ y = grind (arith, nat_tests) in (quiet es (changed_events (k + 1) ps xs ys) (code k) silent ∙ (h.0 ∙ ap Some same), ih es h.1)
    at false e ih =
        let now = es ++ (Gives (code k) y ∷ []) in
        let old : Hold now (k + 1) ps xs = keep es (Gives (code k) y ∷ []) (k + 1) ps xs (λ j m n. other j k y (λ g. omega (arith, g, m))) h.1 in
        let here : last_given (now ++ (changed_events (k + 1) ps xs ys)) (code k) ≡ Some y = quiet now (changed_events (k + 1) ps xs ys) (code k) silent ∙ loud es (Gives (code k) y ∷ []) (code k) y (own k y) in
        subst (λ z. Hold z k (p ∷ ps) (y ∷ ys)) (append_assoc es (Gives (code k) y ∷ []) (changed_events (k + 1) ps xs ys)) (here, ih now old)

-- what happens at an edge, and at edges from one on
abbrev pub edge_events : ℕ → List Pin → Option (List ℕ) → List ℕ → List Event
edge_events at ps None now = Comes (10 * at) ∷ all_events 0 ps now
edge_events at ps (Some before) now = Comes (10 * at) ∷ changed_events 0 ps before now

abbrev pub row_events : ℕ → List Pin → Option (List ℕ) → List (List ℕ) → List Event
row_events at ps before [] = []
row_events at ps before (row ∷ rows) = edge_events at ps before row ++ row_events (at + 1) ps (Some row) rows

-- the pins have the values of the edge before, if there was one
abbrev pub AreOld : List Event → List Pin → Option (List ℕ) → Type 0
AreOld es ps None = Unit {0}
AreOld es ps (Some before) = Hold es 0 ps before

edge_hold : (es : List Event) (at : ℕ) (ps : List Pin) (before : Option (List ℕ)) (now : List ℕ) → AreOld es ps before → FitsPins ps now → Hold (es ++ edge_events at ps before now) 0 ps now
edge_hold es at ps None now h f = subst (λ z. Hold z 0 ps now) (append_assoc es (Comes (10 * at) ∷ []) (all_events 0 ps now)) (all_hold (es ++ (Comes (10 * at) ∷ [])) 0 ps now f)
edge_hold es at ps (Some before) now h f =
    subst (λ z. Hold z 0 ps now) (append_assoc es (Comes (10 * at) ∷ []) (changed_events 0 ps before now))
    (changed_hold (es ++ (Comes (10 * at) ∷ [])) 0 ps before now (keep es (Comes (10 * at) ∷ []) 0 ps before (λ j m n. refl) h) f)

-- of times there is one at each edge
all_timeless : (k : ℕ) (ps : List Pin) (xs : List ℕ) → times (all_events k ps xs) ≡ []
all_timeless k [] xs = refl
all_timeless k (p ∷ ps) [] = refl
all_timeless k (p ∷ ps) (x ∷ xs) = all_timeless (k + 1) ps xs

changed_timeless : (k : ℕ) (ps : List Pin) (xs ys : List ℕ) → times (changed_events k ps xs ys) ≡ []
changed_timeless k [] xs ys = refl
changed_timeless k (p ∷ ps) [] ys = refl
changed_timeless k (p ∷ ps) (x ∷ xs) [] = refl
changed_timeless k (p ∷ ps) (x ∷ xs) (y ∷ ys) = at (x == y) (changed_timeless (k + 1) ps xs ys)
  where
    at : (b : Bool) → times (changed_events (k + 1) ps xs ys) ≡ [] → times ((if b then [] else Gives (code k) y ∷ []) ++ changed_events (k + 1) ps xs ys) ≡ []
    at true h = h
    at false h = h

edge_times : (at : ℕ) (ps : List Pin) (before : Option (List ℕ)) (now : List ℕ) → times (edge_events at ps before now) ≡ 10 * at ∷ []
edge_times at ps None now = ap (λ z. 10 * at ∷ z) (all_timeless 0 ps now)
edge_times at ps (Some before) now = ap (λ z. 10 * at ∷ z) (changed_timeless 0 ps before now)

pub times_on : (es : List Event) (at : ℕ) (ps : List Pin) (before : Option (List ℕ)) (now : List ℕ) → times (es ++ edge_events at ps before now) ≡ times es ++ (10 * at ∷ [])
times_on es at ps before now = times-append es (edge_events at ps before now) ∙ ap (λ z. times es ++ z) (edge_times at ps before now)

pub count_on : (es : List Event) (at : ℕ) (ps : List Pin) (before : Option (List ℕ)) (now : List ℕ) → length (times (es ++ edge_events at ps before now)) ≡ length (times es) + 1
count_on es at ps before now = ap length (times_on es at ps before now) ∙ length-append (times es) (10 * at ∷ [])

-- before the time of the next edge is what came so far
cut : (es : List Event) (n at : ℕ) (ps : List Pin) (before : List ℕ) (rows : List (List ℕ)) → length (times es) ≡ n → before_time n (es ++ row_events at ps (Some before) rows) ≡ es
cut es n at ps before [] e = ap (before_time n) (append-nil es) ∙ before_time-all n es (omega (arith, e))
cut es n at ps before (row ∷ rows) e = ap (λ m. before_time m (es ++ row_events at ps (Some before) (row ∷ rows))) (sym e) ∙ before_time-next es (changed_events 0 ps before row ++ row_events (at + 1) ps (Some row) rows) (10 * at)

held : (es : List Event) (k : ℕ) (ps : List Pin) (xs : List ℕ) → Hold es k ps xs → map Some xs ≡ map (last_given es) (codes_from k ps)
held es k [] [] h = refl
held es k [] (x ∷ xs) h = absurd h
held es k (p ∷ ps) [] h = absurd h
held es k (p ∷ ps) (x ∷ xs) h = ap (λ z. z ∷ map Some xs) (sym h.0) ∙ ap (λ z. last_given es (code k) ∷ z) (held es (k + 1) ps xs h.1)

-- Each row has the last values before the next time.
pub rows_held : (es : List Event) (at : ℕ) (ps : List Pin) (before : Option (List ℕ)) (rows : List (List ℕ)) → length (times es) ≡ at → AreOld es ps before → AllFit ps rows
    → (k : ℕ) → k < length rows → IsSomeAnd (slice_get rows k) (λ row. map Some row ≡ map (last_given (before_time (at + k + 1) (es ++ row_events at ps before rows))) (codes_from 0 ps))
rows_held es at ps before [] c h f k m = absurd (omega arith)
rows_held es at ps before (row ∷ rows) c h f zero m =
    let now = es ++ edge_events at ps before row in
    let rest = row_events (at + 1) ps (Some row) rows in
    let here : before_time (at + 0 + 1) (es ++ (edge_events at ps before row ++ rest)) ≡ now =
    ap (before_time (at + 0 + 1)) (sym (append_assoc es (edge_events at ps before row) rest)) ∙ cut now (at + 0 + 1) (at + 1) ps row rows (omega (arith, count_on es at ps before row, c)) in
    held now 0 ps row (edge_hold es at ps before row h f.0) ∙ ap (λ z. map (last_given z) (codes_from 0 ps)) (sym here)
rows_held es at ps before (row ∷ rows) c h f (suc k) m =
    let now = es ++ edge_events at ps before row in
    let rest = row_events (at + 1) ps (Some row) rows in
    let ih = rows_held now (at + 1) ps (Some row) rows (omega (arith, count_on es at ps before row, c)) (edge_hold es at ps before row h f.0) f.1 k (omega (arith, m)) in
    let place : (at + 1) + k + 1 ≡ at + suc k + 1 = omega arith in
    subst (λ n. IsSomeAnd (slice_get rows k) (λ r. map Some r ≡ map (last_given (before_time n (es ++ (edge_events at ps before row ++ rest)))) (codes_from 0 ps))) place
    (subst (λ z. IsSomeAnd (slice_get rows k) (λ r. map Some r ≡ map (last_given (before_time ((at + 1) + k + 1) z)) (codes_from 0 ps))) (append_assoc es (edge_events at ps before row) rest) ih)

-- There are as many times as rows.
pub rows_counted : (es : List Event) (at : ℕ) (ps : List Pin) (before : Option (List ℕ)) (rows : List (List ℕ)) → length (times (es ++ row_events at ps before rows)) ≡ length (times es) + length rows
rows_counted es at ps before [] = let e = ap (λ z. length (times z)) (append-nil es) in omega (arith, e)
rows_counted es at ps before (row ∷ rows) =
    let now = es ++ edge_events at ps before row in
    let ih = rows_counted now (at + 1) ps (Some row) rows in
    let same = ap (λ z. length (times z)) (append_assoc es (edge_events at ps before row) (row_events (at + 1) ps (Some row) rows)) in
    omega (arith, ih, same, count_on es at ps before row)
