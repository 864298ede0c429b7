-- The edges of a dump that was written: their words, where these lead, and that none is at fault.
use Rattle.std.specs.Fmt.{decimal}
use Rattle.std.specs.List.{last_or}
use Rattle.std.specs.Prelude.{◌==◌, if◌then◌else◌}
use Rattle.std.proofs.Common.{◌≡◌, ℕ, suc, ◌+◌, ◌*◌, ◌<◌, ◌≤◌, Bool, true, false, Option, Some, None, List, [], ◌∷◌, ◌++◌, codes, length, refl, ap, sym, ◌∙◌, subst, arith, append_assoc, append-nil, mul-le-mul_right}
use Rattle.std.proofs.lemmas.List.{map-append}
use Rattle.rb_base.specs.declared.ports.Pin.{Pin}
use Rattle.v_design.specs.Fits.{FitsPins, AllFit}
use Rattle.vcd_syntax.specs.declared.kind.Kind.TheVariants as kind
use Rattle.vcd_syntax.specs.Words.{decimal_value}
use Rattle.vcd_syntax.specs.Meaning.{Event, Comes, times}
use Rattle.vcd_syntax.specs.Faulty.{most_times, most_values}
use Rattle.vcd_syntax.specs.Dump.{Line, code, binary, end, change_line, all_lines, changed_lines, vector_lines, row_lines}
use Rattle.vcd_syntax.specs.declared.state.State.TheVariants as state
use Rattle.vcd_syntax.specs.Exits.{after_all}
use Rattle.vcd_syntax.specs.Known.{more}
use Rattle.vcd_syntax.proofs.Knowing.{MayCome}
use Rattle.vcd_syntax.proofs.Lines.{all_words}
use Rattle.vcd_syntax.proofs.Numerals.{decimal_value_of}
use Rattle.vcd_syntax.proofs.Marking.{Spoken, kinds, said, change_spoken, all_spoken, changed_spoken, both, change_leads}
use Rattle.vcd_syntax.proofs.Fine.{after_spoken, AllFine, fine_append, after_append, known, AreNarrow}
use Rattle.vcd_syntax.proofs.Changes.{HasAll, all_events, changed_events, all_fine, all_known, changed_fine, changed_known}
use Rattle.vcd_syntax.proofs.Values.{edge_events, row_events, times_on, count_on}

abbrev pub time_word : ℕ → List ℕ
time_word at = codes "#" ++ decimal (10 * at)

abbrev pub edge_spoken : ℕ → List Pin → Option (List ℕ) → List ℕ → Spoken
edge_spoken at ps None now = (kind.Time, time_word at) ∷ (kind.DumpVars, codes "$dumpvars") ∷ (all_spoken 0 ps now ++ (kind.End, end) ∷ [])
edge_spoken at ps (Some before) now = (kind.Time, time_word at) ∷ changed_spoken 0 ps before now

abbrev pub rows_spoken : ℕ → List Pin → Option (List ℕ) → List (List ℕ) → Spoken
rows_spoken at ps before [] = []
rows_spoken at ps before (row ∷ rows) = edge_spoken at ps before row ++ rows_spoken (at + 1) ps (Some row) rows

-- The kinds lead along.
dump_leads : (n w x : ℕ) → after_all state.Dump (kinds (change_spoken n w x)) ≡ Some state.Dump
dump_leads n w x = at (w == 1)
  where
    at : (b : Bool) → after_all state.Dump (kinds (if b then (kind.Scalar, (48 + x) ∷ code n) ∷ [] else (kind.Bits, codes "b" ++ binary x) ∷ (kind.Taker, code n) ∷ [])) ≡ Some state.Dump
    at true = refl
    at false = refl

all_lead : (k : ℕ) (ps : List Pin) (xs : List ℕ) → after_all state.Dump (kinds (all_spoken k ps xs)) ≡ Some state.Dump
all_lead k [] xs = refl
all_lead k (p ∷ ps) [] = refl
all_lead k (p ∷ ps) (x ∷ xs) = both (change_spoken k p.width x) (all_spoken (k + 1) ps xs) state.Dump state.Dump state.Dump (dump_leads k p.width x) (all_lead (k + 1) ps xs)

changed_lead : (k : ℕ) (ps : List Pin) (xs ys : List ℕ) → after_all state.Entries (kinds (changed_spoken k ps xs ys)) ≡ Some state.Entries
changed_lead k [] xs ys = refl
changed_lead k (p ∷ ps) [] ys = refl
changed_lead k (p ∷ ps) (x ∷ xs) [] = refl
changed_lead k (p ∷ ps) (x ∷ xs) (y ∷ ys) = at (x == y) (changed_lead (k + 1) ps xs ys)
  where
    at : (b : Bool) → after_all state.Entries (kinds (changed_spoken (k + 1) ps xs ys)) ≡ Some state.Entries → after_all state.Entries (kinds ((if b then [] else change_spoken k p.width y) ++ changed_spoken (k + 1) ps xs ys)) ≡ Some state.Entries
    at true ih = ih
    at false ih = both (change_spoken k p.width y) (changed_spoken (k + 1) ps xs ys) state.Entries state.Entries state.Entries (change_leads k p.width y) ih

edge_leads : (at : ℕ) (ps : List Pin) (before : Option (List ℕ)) (now : List ℕ) → after_all state.Entries (kinds (edge_spoken at ps before now)) ≡ Some state.Entries
edge_leads at ps None now = both (all_spoken 0 ps now) ((kind.End, end) ∷ []) state.Dump state.Dump state.Entries (all_lead 0 ps now) refl
edge_leads at ps (Some before) now = changed_lead 0 ps before now

pub rows_lead : (at : ℕ) (ps : List Pin) (before : Option (List ℕ)) (rows : List (List ℕ)) → after_all state.Entries (kinds (rows_spoken at ps before rows)) ≡ Some state.Entries
rows_lead at ps before [] = refl
rows_lead at ps before (row ∷ rows) = both (edge_spoken at ps before row) (rows_spoken (at + 1) ps (Some row) rows) state.Entries state.Entries state.Entries (edge_leads at ps before row) (rows_lead (at + 1) ps (Some row) rows)

-- The words are those of the lines.
pub words-append : (a b : List Line) → all_words (a ++ b) ≡ all_words a ++ all_words b
words-append [] b = refl
words-append (l ∷ a) b = ap (λ z. l ++ z) (words-append a b) ∙ sym (append_assoc l (all_words a) (all_words b))

pub said-append : (a b : Spoken) → said (a ++ b) ≡ said a ++ said b
said-append a b = map-append (λ x. x.1) a b

change_said : (n w x : ℕ) → said (change_spoken n w x) ≡ change_line n w x
change_said n w x = at (w == 1)
  where
    at : (b : Bool) → said (if b then (kind.Scalar, (48 + x) ∷ code n) ∷ [] else (kind.Bits, codes "b" ++ binary x) ∷ (kind.Taker, code n) ∷ []) ≡ (if b then ((48 + x) ∷ code n) ∷ [] else (codes "b" ++ binary x) ∷ code n ∷ [])
    at true = refl
    at false = refl

all_said : (k : ℕ) (ps : List Pin) (xs : List ℕ) → said (all_spoken k ps xs) ≡ all_words (all_lines k ps xs)
all_said k [] xs = refl
all_said k (p ∷ ps) [] = refl
all_said k (p ∷ ps) (x ∷ xs) = said-append (change_spoken k p.width x) (all_spoken (k + 1) ps xs) ∙ (ap (λ z. z ++ said (all_spoken (k + 1) ps xs)) (change_said k p.width x) ∙ ap (λ z. change_line k p.width x ++ z) (all_said (k + 1) ps xs))

changed_said : (k : ℕ) (ps : List Pin) (xs ys : List ℕ) → said (changed_spoken k ps xs ys) ≡ all_words (changed_lines k ps xs ys)
changed_said k [] xs ys = refl
changed_said k (p ∷ ps) [] ys = refl
changed_said k (p ∷ ps) (x ∷ xs) [] = refl
changed_said k (p ∷ ps) (x ∷ xs) (y ∷ ys) = at (x == y) (changed_said (k + 1) ps xs ys)
  where
    at : (b : Bool) → said (changed_spoken (k + 1) ps xs ys) ≡ all_words (changed_lines (k + 1) ps xs ys)
        → said ((if b then [] else change_spoken k p.width y) ++ changed_spoken (k + 1) ps xs ys) ≡ all_words ((if b then [] else change_line k p.width y ∷ []) ++ changed_lines (k + 1) ps xs ys)
    at true ih = ih
    at false ih = said-append (change_spoken k p.width y) (changed_spoken (k + 1) ps xs ys) ∙ (ap (λ z. z ++ said (changed_spoken (k + 1) ps xs ys)) (change_said k p.width y) ∙ ap (λ z. change_line k p.width y ++ z) ih)

edge_said : (at : ℕ) (ps : List Pin) (before : Option (List ℕ)) (now : List ℕ) → said (edge_spoken at ps before now) ≡ all_words (vector_lines at ps before now)
edge_said at ps None now =
    ap (λ z. time_word at ∷ codes "$dumpvars" ∷ z)
    (said-append (all_spoken 0 ps now) ((kind.End, end) ∷ []) ∙ (ap (λ z. z ++ (end ∷ [])) (all_said 0 ps now) ∙ sym (words-append (all_lines 0 ps now) ((end ∷ []) ∷ []))))
edge_said at ps (Some before) now = ap (λ z. time_word at ∷ z) (changed_said 0 ps before now)

pub rows_said : (at : ℕ) (ps : List Pin) (before : Option (List ℕ)) (rows : List (List ℕ)) → said (rows_spoken at ps before rows) ≡ all_words (row_lines at ps before rows)
rows_said at ps before [] = refl
rows_said at ps before (row ∷ rows) =
    said-append (edge_spoken at ps before row) (rows_spoken (at + 1) ps (Some row) rows)
    ∙ (ap (λ z. z ++ said (rows_spoken (at + 1) ps (Some row) rows)) (edge_said at ps before row)
    ∙ (ap (λ z. all_words (vector_lines at ps before row) ++ z) (rows_said (at + 1) ps (Some row) rows) ∙ sym (words-append (vector_lines at ps before row) (row_lines (at + 1) ps (Some row) rows))))

-- No word is at fault.
last_or-append : {X : Type 0} (d : Option X) (xs : List X) (x : X) → last_or d (xs ++ (x ∷ [])) ≡ Some x
last_or-append d [] x = refl
last_or-append d (y ∷ xs) x = last_or-append (Some y) xs x

-- so many values are there before an edge, if one was
abbrev pub IsLong : List Pin → Option (List ℕ) → Type 0
IsLong ps None = Unit {0}
IsLong ps (Some before) = length before ≡ length ps

fits_long : (ps : List Pin) (xs : List ℕ) → FitsPins ps xs → length xs ≡ length ps
fits_long [] [] f = refl
fits_long [] (x ∷ xs) f = absurd f
fits_long (p ∷ ps) [] f = absurd f
fits_long (p ∷ ps) (x ∷ xs) f = omega (arith, fits_long ps xs f.1)

-- the time of an edge as a word
time_value : (at : ℕ) → at < most_times → decimal_value (decimal (10 * at)) ≡ 10 * at
time_value at l = decimal_value_of (10 * at) (omega (arith, l))

module _ (cs ns : List (List ℕ)) (ws : List ℕ) where
  timed : (es : List Event) (v : List ℕ) (at : ℕ) → at < most_times → more kind.Time (time_word at) (known cs ns ws es v) ≡ known cs ns ws (es ++ (Comes (10 * at) ∷ [])) (time_word at)
  timed es v at l = ap (λ z. known cs ns ws (es ++ (Comes z ∷ [])) (time_word at)) (time_value at l)

  may_come : (es : List Event) (v : List ℕ) (at : ℕ) → at < most_times → length (times es) ≡ at → ((s : ℕ) → last_or None (times es) ≡ Some s → s < 10 * at) → (at + 1) * length cs ≤ most_values → MayCome (known cs ns ws es v) (decimal_value (decimal (10 * at)))
  may_come es v at l c h m = record {
    above = λ s e. subst (λ z. s < z) (sym (time_value at l)) (h s e);
    early = omega (arith, time_value at l, l);
    few_times = omega (arith, c, l);
    few_values = subst (λ z. (z + 1) * length cs ≤ most_values) (sym c) m;
  }

  edge_known : (es : List Event) (v : List ℕ) (at : ℕ) (ps : List Pin) (before : Option (List ℕ)) (now : List ℕ) → at < most_times → AreNarrow ps → IsLong ps before → FitsPins ps now
      → (u : List ℕ) × (after_spoken (known cs ns ws es v) (edge_spoken at ps before now) ≡ known cs ns ws (es ++ edge_events at ps before now) u)
  edge_known es v at ps None now l n g f =
      let come = es ++ (Comes (10 * at) ∷ []) in
      let r = all_known cs ns ws come (codes "$dumpvars") 0 ps now n f in (
        end,
        ap (λ z. after_spoken (more kind.DumpVars (codes "$dumpvars") z) (all_spoken 0 ps now ++ ((kind.End, end) ∷ []))) (timed es v at l)
            ∙ (after_append (known cs ns ws come (codes "$dumpvars")) (all_spoken 0 ps now) ((kind.End, end) ∷ [])
            ∙ (ap (λ z. after_spoken z ((kind.End, end) ∷ [])) r.1 ∙ ap (λ z. known cs ns ws z end) (append_assoc es (Comes (10 * at) ∷ []) (all_events 0 ps now)))),
      )
  edge_known es v at ps (Some before) now l n g f =
      let come = es ++ (Comes (10 * at) ∷ []) in
      let r = changed_known cs ns ws come (time_word at) 0 ps before now n f g in
      (r.0, ap (λ z. after_spoken z (changed_spoken 0 ps before now)) (timed es v at l) ∙ (r.1 ∙ ap (λ z. known cs ns ws z r.0) (append_assoc es (Comes (10 * at) ∷ []) (changed_events 0 ps before now))))

  edge_fine : (es : List Event) (v : List ℕ) (at : ℕ) (ps : List Pin) (before : Option (List ℕ)) (now : List ℕ) → at < most_times → HasAll cs ws 0 ps → AreNarrow ps → FitsPins ps now
      → MayCome (known cs ns ws es v) (decimal_value (decimal (10 * at))) → AllFine (known cs ns ws es v) (edge_spoken at ps before now)
  edge_fine es v at ps None now l h n f c =
      let come = es ++ (Comes (10 * at) ∷ []) in
      let k = known cs ns ws come (codes "$dumpvars") in (
        c,
        (
          tt,
          subst (λ z. AllFine (more kind.DumpVars (codes "$dumpvars") z) (all_spoken 0 ps now ++ ((kind.End, end) ∷ []))) (sym (timed es v at l))
              (fine_append k (all_spoken 0 ps now) ((kind.End, end) ∷ []) (all_fine cs ns ws come (codes "$dumpvars") 0 ps now h n f) (tt, tt)),
        ),
      )
  edge_fine es v at ps (Some before) now l h n f c =
      let come = es ++ (Comes (10 * at) ∷ []) in
      (c, subst (λ z. AllFine z (changed_spoken 0 ps before now)) (sym (timed es v at l)) (changed_fine cs ns ws come (time_word at) 0 ps before now h n f))

  -- so many times and values there may be
  fewer : (at rows : ℕ) → (at + suc rows) * length cs ≤ most_values → (at + 1) * length cs ≤ most_values
  fewer at rows h = let le = mul-le-mul_right {m = at + 1} {n = at + suc rows} (length cs) (omega arith) in omega (arith, h, le)

  pub rows_fine : (es : List Event) (v : List ℕ) (at : ℕ) (ps : List Pin) (before : Option (List ℕ)) (rows : List (List ℕ)) → HasAll cs ws 0 ps → AreNarrow ps → IsLong ps before → AllFit ps rows
      → length (times es) ≡ at → ((s : ℕ) → last_or None (times es) ≡ Some s → s < 10 * at) → at + length rows ≤ most_times → (at + length rows) * length cs ≤ most_values
      → AllFine (known cs ns ws es v) (rows_spoken at ps before rows)
  rows_fine es v at ps before [] h n g f c t l m = tt
  rows_fine es v at ps before (row ∷ rows) h n g f c t l m =
      let here : at < most_times = omega (arith, l) in
      let next = es ++ edge_events at ps before row in
      let r = edge_known es v at ps before row here n g f.0 in
      let size : (at + 1) + length rows ≡ at + length (row ∷ rows) = omega arith in
      fine_append (known cs ns ws es v) (edge_spoken at ps before row) (rows_spoken (at + 1) ps (Some row) rows)
      (edge_fine es v at ps before row here h n f.0 (may_come es v at here c t (fewer at (length rows) m)))
      (subst (λ z. AllFine z (rows_spoken (at + 1) ps (Some row) rows)) (sym r.1)
      (rows_fine next r.0 (at + 1) ps (Some row) rows h n (fits_long ps row f.0) f.1 (omega (arith, count_on es at ps before row, c))
      (λ s e. let last : Some (10 * at) ≡ Some s = sym (last_or-append None (times es) (10 * at)) ∙ (ap (last_or None) (sym (times_on es at ps before row)) ∙ e) in
      let same : 10 * at ≡ s = cc in omega (arith, same))
      (omega (arith, l, size)) (subst (λ z. z * length cs ≤ most_values) (sym size) m)))

  pub rows_known : (es : List Event) (v : List ℕ) (at : ℕ) (ps : List Pin) (before : Option (List ℕ)) (rows : List (List ℕ)) → AreNarrow ps → IsLong ps before → AllFit ps rows → at + length rows ≤ most_times
      → (u : List ℕ) × (after_spoken (known cs ns ws es v) (rows_spoken at ps before rows) ≡ known cs ns ws (es ++ row_events at ps before rows) u)
  rows_known es v at ps before [] n g f l = (v, ap (λ z. known cs ns ws z v) (sym (append-nil es)))
  rows_known es v at ps before (row ∷ rows) n g f l =
      let next = es ++ edge_events at ps before row in
      let r = edge_known es v at ps before row (omega (arith, l)) n g f.0 in
      let q = rows_known next r.0 (at + 1) ps (Some row) rows n (fits_long ps row f.0) f.1 (omega (arith, l)) in (
        q.0,
        after_append (known cs ns ws es v) (edge_spoken at ps before row) (rows_spoken (at + 1) ps (Some row) rows)
            ∙ (ap (λ z. after_spoken z (rows_spoken (at + 1) ps (Some row) rows)) r.1 ∙ (q.1 ∙ ap (λ z. known cs ns ws z q.0) (append_assoc es (edge_events at ps before row) (row_events (at + 1) ps (Some row) rows)))),
      )
