-- A dump that was written is read back.
use Rattle.std.specs.List.{enumerate_from, position, prefix_len}
use Rattle.std.specs.Str.{bytes_eq}
use Rattle.std.specs.Prelude.{◌==◌, if◌then◌else◌, IsSomeAnd, nat_lt, option_and_then, slice_get}
use Rattle.std.proofs.Common.{◌≡◌, ℕ, suc, ◌+◌, ◌*◌, ◌<◌, ◌≤◌, Bool, true, false, not, ◌||◌, cond, Option, Some, None, List, [], ◌∷◌, ◌++◌, codes, length, map, refl, ap, sym, ◌∙◌, subst, arith, append_assoc, append-nil, length-append}
use Rattle.std.proofs.lemmas.Bool.{or_parts}
use Rattle.std.proofs.lemmas.Bool.Decides.{nat_tests}
use Rattle.plain_lemmas.proofs.Bools.{or-true}
use Rattle.plain_lemmas.proofs.Lists.{bytes_eq-itself, bytes_eq-swap}
use Rattle.rb_base.specs.declared.ports.Pin.{Pin}
use Rattle.rb_grammar.specs.Spelling.{Spells}
use Rattle.v_design.specs.Lexemes.{among}
use Rattle.vcd_syntax.specs.declared.kind.Kind.TheVariants as kind
use Rattle.vcd_syntax.specs.Words.{vcd}
use Rattle.vcd_syntax.specs.Tokens.{Word, Token, kinds_of, AreOfTheirKinds}
use Rattle.vcd_syntax.specs.Meaning as meaning
use Rattle.vcd_syntax.specs.Meaning.{pins, pins_by, last_given, before_time, times, AreRows}
use Rattle.vcd_syntax.specs.Faulty.{most_times, most_values}
use Rattle.vcd_syntax.specs.Reading.{IsTable}
use Rattle.vcd_syntax.specs.Dump.{Line, code, binary, end, line_text, lines_text, var_line, change_line, all_lines, changed_lines, head_lines, vector_lines, row_lines, dump_text}
use Rattle.vcd_syntax.specs.declared.state.State.TheVariants as state
use Rattle.vcd_syntax.specs.Exits.{after_all}
use Rattle.vcd_syntax.proofs.Stacks.{leads_begin}
use Rattle.vcd_syntax.specs.Reads.{words, Read, Knows}
use Rattle.vcd_syntax.proofs.Judging.{sound}
use Rattle.vcd_syntax.specs.Known.{Known}
use Rattle.vcd_syntax.proofs.Knowing.{knows_none}
use Rattle.vcd_syntax.specs.Dumped.{CanBeDumped}
use Rattle.vcd_syntax.proofs.Lines.{AreWords, AreLines, tokens, all_words, lines_spelled}
use Rattle.vcd_syntax.proofs.Marking.{Spoken, kinds, said, vars_spoken, head_spoken, both, head_leads, vars_said}
use Rattle.vcd_syntax.proofs.Fine.{after_spoken, AllFine, fine_append, after_append, forget, knows_all, all_clean, known, codes_from, names_of, widths_of, AreFresh, fresh_on, among-append, AreNarrow, vars_known, vars_fine, all_new}
use Rattle.vcd_syntax.proofs.Changes.{HasAll}
use Rattle.vcd_syntax.proofs.Values.{row_events, rows_held, rows_counted}
use Rattle.vcd_syntax.proofs.Rows.{rows_spoken, rows_lead, words-append, said-append, rows_said, rows_fine, rows_known}
use Rattle.vcd_syntax.proofs.WordKinds.{AreGood, good_append, AreWide, head_good, rows_good}

-- Each pin's code is there, with its width.

behind : (front : List (List ℕ)) (c : List ℕ) (rest : List (List ℕ)) → among front c ≡ false → prefix_len (λ x. not (bytes_eq c x)) (front ++ (c ∷ rest)) ≡ length front
behind [] c rest h = ap (λ b. cond (not b) (1 + prefix_len (λ x. not (bytes_eq c x)) rest) 0) (bytes_eq-itself c)
behind (x ∷ front) c rest h =
    let r = or_parts (bytes_eq x c) (among front c) h in
    ap (λ b. cond (not b) (1 + prefix_len (λ x. not (bytes_eq c x)) (front ++ (c ∷ rest))) 0) (bytes_eq-swap c x ∙ r.0) ∙ ap (λ n. 1 + n) (behind front c rest r.1)
    ∙ (let e : 1 + length front ≡ suc (length front) = omega arith in e)

stands : (front : List (List ℕ)) (c : List ℕ) (rest : List (List ℕ)) → among front c ≡ false → position (bytes_eq c) (front ++ (c ∷ rest)) ≡ Some (length front)
stands front c rest h =
    let all = front ++ (c ∷ rest) in
    let l : nat_lt (length front) (length all) ≡ true = (let s = length-append front (c ∷ rest) in grind (arith, nat_tests)) in
    ap (λ n. cond (nat_lt n (length all)) (Some n) None) (behind front c rest h) ∙ ap (λ b. cond b (Some (length front)) None) l

got : (ws : List ℕ) (w : ℕ) (rest : List ℕ) → slice_get (ws ++ (w ∷ rest)) (length ws) ≡ Some w
got [] w rest = refl
got (x ∷ ws) w rest = got ws w rest

own_among : (front : List (List ℕ)) (c : List ℕ) (rest : List (List ℕ)) → among (front ++ (c ∷ rest)) c ≡ true
own_among front c rest = among-append front (c ∷ rest) c ∙ (ap (λ b. among front c || (b || among rest c)) (bytes_eq-itself c) ∙ or-true (among front c))

has_all : (front : List (List ℕ)) (ws : List ℕ) (k : ℕ) (ps : List Pin) → length front ≡ length ws → AreFresh k front → HasAll (front ++ codes_from k ps) (ws ++ widths_of ps) k ps
has_all front ws k [] e f = tt
has_all front ws k (p ∷ ps) e f =
    let rest = codes_from (k + 1) ps in
    let fresh : among front (code k) ≡ false = f k (omega arith) in
    let cs = front ++ (code k ∷ rest) in
    let all = ws ++ (p.width ∷ widths_of ps) in
    let at : option_and_then (λ i. slice_get all i) (position (bytes_eq (code k)) cs) ≡ Some p.width =
    ap (option_and_then (λ i. slice_get all i)) (stands front (code k) rest fresh) ∙ (ap (slice_get all) e ∙ got ws p.width (widths_of ps)) in (
      record { there = own_among front (code k) rest; width = at },
      subst (λ z. HasAll z all (k + 1) ps) (append_assoc front (code k ∷ []) rest)
          (subst (λ z. HasAll ((front ++ (code k ∷ [])) ++ rest) z (k + 1) ps) (append_assoc ws (p.width ∷ []) (widths_of ps))
          (has_all (front ++ (code k ∷ [])) (ws ++ (p.width ∷ [])) (k + 1) ps (omega (arith, e, length-append front (code k ∷ []), length-append ws (p.width ∷ []))) (fresh_on k front f))),
    )

-- Lines of words.

all_words_good : (sp : Spoken) → AreGood sp → AreWords (said sp)
all_words_good [] g = tt
all_words_good (x ∷ sp) g = (g.0.1, all_words_good sp g.1)

abbrev AreSome : List Line → Type 0
AreSome [] = Unit {0}
AreSome (l ∷ ls) = (0 < length l) × AreSome ls

some_append : (a b : List Line) → AreSome a → AreSome b → AreSome (a ++ b)
some_append [] b p q = q
some_append (l ∷ a) b p q = (p.0, some_append a b p.1 q)

front_words : (a b : List (List ℕ)) → AreWords (a ++ b) → AreWords a
front_words [] b h = tt
front_words (x ∷ a) b h = (h.0, front_words a b h.1)

back_words : (a b : List (List ℕ)) → AreWords (a ++ b) → AreWords b
back_words [] b h = h
back_words (x ∷ a) b h = back_words a b h.1

are_lines : (ls : List Line) → AreSome ls → AreWords (all_words ls) → AreLines ls
are_lines [] s h = tt
are_lines (l ∷ ls) s h = ((s.0, front_words l (all_words ls) h), are_lines ls s.1 (back_words l (all_words ls) h))

vars_some : (k : ℕ) (ps : List Pin) → AreSome (map var_line (enumerate_from k ps))
vars_some k [] = tt
vars_some k (p ∷ ps) = (omega arith, vars_some (k + 1) ps)

change_some : (n w x : ℕ) → 0 < length (change_line n w x)
change_some n w x = at (w == 1)
  where
    at : (b : Bool) → 0 < length (if b then ((48 + x) ∷ code n) ∷ [] else (codes "b" ++ binary x) ∷ code n ∷ [])
    at true = omega arith
    at false = omega arith

all_some : (k : ℕ) (ps : List Pin) (xs : List ℕ) → AreSome (all_lines k ps xs)
all_some k [] xs = tt
all_some k (p ∷ ps) [] = tt
all_some k (p ∷ ps) (x ∷ xs) = (change_some k p.width x, all_some (k + 1) ps xs)

changed_some : (k : ℕ) (ps : List Pin) (xs ys : List ℕ) → AreSome (changed_lines k ps xs ys)
changed_some k [] xs ys = tt
changed_some k (p ∷ ps) [] ys = tt
changed_some k (p ∷ ps) (x ∷ xs) [] = tt
changed_some k (p ∷ ps) (x ∷ xs) (y ∷ ys) = at (x == y) (changed_some (k + 1) ps xs ys)
  where
    at : (b : Bool) → AreSome (changed_lines (k + 1) ps xs ys) → AreSome ((if b then [] else change_line k p.width y ∷ []) ++ changed_lines (k + 1) ps xs ys)
    at true h = h
    at false h = (change_some k p.width y, h)

edge_some : (at : ℕ) (ps : List Pin) (before : Option (List ℕ)) (now : List ℕ) → AreSome (vector_lines at ps before now)
edge_some at ps None now = (omega arith, (omega arith, some_append (all_lines 0 ps now) ((end ∷ []) ∷ []) (all_some 0 ps now) (omega arith, tt)))
edge_some at ps (Some before) now = (omega arith, changed_some 0 ps before now)

rows_some : (at : ℕ) (ps : List Pin) (before : Option (List ℕ)) (rows : List (List ℕ)) → AreSome (row_lines at ps before rows)
rows_some at ps before [] = tt
rows_some at ps before (row ∷ rows) = some_append (vector_lines at ps before row) (row_lines (at + 1) ps (Some row) rows) (edge_some at ps before row) (rows_some (at + 1) ps (Some row) rows)

head_some : (name : List ℕ) (ps : List Pin) → AreSome (head_lines name ps)
head_some name ps = (omega arith, (omega arith, some_append (map var_line (enumerate_from 0 ps)) ((codes "$upscope" ∷ end ∷ []) ∷ (codes "$enddefinitions" ∷ end ∷ []) ∷ []) (vars_some 0 ps) (omega arith, (omega arith, tt))))

head_said : (name : List ℕ) (ps : List Pin) → said (head_spoken name ps) ≡ all_words (head_lines name ps)
head_said name ps =
    let tail = (kind.Upscope, codes "$upscope") ∷ (kind.End, end) ∷ (kind.EndDefinitions, codes "$enddefinitions") ∷ (kind.End, end) ∷ [] in
    ap (λ z. codes "$timescale" ∷ codes "1ns" ∷ end ∷ codes "$scope" ∷ codes "module" ∷ name ∷ end ∷ z)
    (said-append (vars_spoken 0 ps) tail ∙ (ap (λ z. z ++ said tail) (vars_said 0 ps) ∙ sym (words-append (map var_line (enumerate_from 0 ps)) ((codes "$upscope" ∷ end ∷ []) ∷ (codes "$enddefinitions" ∷ end ∷ []) ∷ []))))

text-append : (a b : List Line) → lines_text (a ++ b) ≡ lines_text a ++ lines_text b
text-append [] b = refl
text-append (l ∷ a) b = ap (λ z. line_text l ++ z) (text-append a b) ∙ sym (append_assoc (line_text l) (lines_text a) (lines_text b))

-- Words with their places, marked.

abbrev marks_of : Spoken → List Word → List Token
marks_of [] ts = []
marks_of (x ∷ sp) [] = []
marks_of (x ∷ sp) (t ∷ ts) = record { kind = x.0; word = t } ∷ marks_of sp ts

marked_words : (sp : Spoken) (ts : List Word) → tokens ts ≡ said sp → words (marks_of sp ts) ≡ ts
marked_words [] [] e = refl
marked_words [] (t ∷ ts) e = cc
marked_words (x ∷ sp) [] e = cc
marked_words (x ∷ sp) (t ∷ ts) e = let rest : tokens ts ≡ said sp = cc in ap (λ z. t ∷ z) (marked_words sp ts rest)

marked : (sp : Spoken) (ts : List Word) → tokens ts ≡ said sp → forget (marks_of sp ts) ≡ sp
marked [] ts e = refl
marked (x ∷ sp) [] e = cc
marked (x ∷ sp) (t ∷ ts) e =
    let first : t.token ≡ x.1 = cc in
    let rest : tokens ts ≡ said sp = cc in
    ap (λ z. (x.0, z) ∷ forget (marks_of sp ts)) first ∙ ap (λ z. x ∷ z) (marked sp ts rest)

kinds_kept : (ms : List Token) → kinds_of ms ≡ kinds (forget ms)
kinds_kept [] = refl
kinds_kept (m ∷ ms) = ap (λ z. m.kind ∷ z) (kinds_kept ms)

of_kinds : (ms : List Token) → AreGood (forget ms) → AreOfTheirKinds ms
of_kinds [] g = tt
of_kinds (m ∷ ms) g = (g.0.0, of_kinds ms g.1)

-- The whole.

narrow : (ps : List Pin) → AreWide ps → AreNarrow ps
narrow [] w = tt
narrow (p ∷ ps) w = (w.0.1, narrow ps w.1)

paired : (ps : List Pin) → pins_by (names_of ps) (widths_of ps) ≡ ps
paired [] = refl
paired (p ∷ ps) = ap (λ z. p ∷ z) (paired ps)

counted : (k : ℕ) (ps : List Pin) → length (codes_from k ps) ≡ length ps
counted k [] = refl
counted k (p ∷ ps) = ap suc (counted (k + 1) ps)

abbrev nothing : Known
nothing = known [] [] [] [] []

module _ (name : List ℕ) (ps : List Pin) (rows : List (List ℕ)) (c : CanBeDumped name ps rows) where
  abbrev lines : List Line
  lines = head_lines name ps ++ row_lines 0 ps None rows

  abbrev spoken : Spoken
  spoken = head_spoken name ps ++ rows_spoken 0 ps None rows

  good : AreGood spoken
  good = good_append (head_spoken name ps) (rows_spoken 0 ps None rows) (head_good name ps c.named c.names c.widths) (rows_good 0 ps None rows c.fits)

  all_said : said spoken ≡ all_words lines
  all_said = said-append (head_spoken name ps) (rows_spoken 0 ps None rows) ∙ (ap (λ z. z ++ said (rows_spoken 0 ps None rows)) (head_said name ps)
      ∙ (ap (λ z. all_words (head_lines name ps) ++ z) (rows_said 0 ps None rows) ∙ sym (words-append (head_lines name ps) (row_lines 0 ps None rows))))

  spelled : (ts : List Word) × Spells vcd (lines_text lines) ts × (tokens ts ≡ all_words lines)
  spelled = lines_spelled lines (are_lines lines (some_append (head_lines name ps) (row_lines 0 ps None rows) (head_some name ps) (rows_some 0 ps None rows)) (subst AreWords all_said (all_words_good spoken good)))

  abbrev tail : Spoken
  tail = (kind.Upscope, codes "$upscope") ∷ (kind.End, end) ∷ (kind.EndDefinitions, codes "$enddefinitions") ∷ (kind.End, end) ∷ []

  vars : (v : List ℕ) × (after_spoken (known [] [] [] [] end) (vars_spoken 0 ps) ≡ known (codes_from 0 ps) (names_of ps) (widths_of ps) [] v)
  vars = vars_known 0 ps [] [] [] end (narrow ps c.widths)

  declared : after_spoken nothing (head_spoken name ps) ≡ known (codes_from 0 ps) (names_of ps) (widths_of ps) [] end
  declared = after_append (known [] [] [] [] end) (vars_spoken 0 ps) tail ∙ ap (λ z. after_spoken z tail) vars.1

  head_fine : AllFine nothing (head_spoken name ps)
  head_fine = (
    tt,
    (
      tt,
      (
        tt,
        (
          tt,
          (
            tt,
            (
              tt,
              (
                tt,
                fine_append (known [] [] [] [] end) (vars_spoken 0 ps) tail
                    (vars_fine 0 ps [] [] [] end (narrow ps c.widths) (λ j a. refl) (all_new ps c.apart))
                    (subst (λ z. AllFine z tail) (sym vars.1) (tt, (tt, (tt, (tt, tt))))),
              ),
            ),
          ),
        ),
      ),
    ),
  )

  all : HasAll (codes_from 0 ps) (widths_of ps) 0 ps
  all = has_all [] [] 0 ps refl (λ j a. refl)

  many : 0 + length rows ≤ most_times
  many = omega (arith, c.few_rows)

  values : (0 + length rows) * length (codes_from 0 ps) ≤ most_values
  values =
      let e : 0 + length rows ≡ length rows = omega arith in
      subst (λ z. z * length (codes_from 0 ps) ≤ most_values) (sym e) (subst (λ z. length rows * z ≤ most_values) (sym (counted 0 ps)) c.few_values)

  fine : AllFine nothing spoken
  fine = fine_append nothing (head_spoken name ps) (rows_spoken 0 ps None rows) head_fine
      (subst (λ z. AllFine z (rows_spoken 0 ps None rows)) (sym declared)
      (rows_fine (codes_from 0 ps) (names_of ps) (widths_of ps) [] end 0 ps None rows all (narrow ps c.widths) tt c.fits refl (λ s e. cc) many values))

  done : (u : List ℕ) × (after_spoken nothing spoken ≡ known (codes_from 0 ps) (names_of ps) (widths_of ps) (row_events 0 ps None rows) u)
  done =
      let r = rows_known (codes_from 0 ps) (names_of ps) (widths_of ps) [] end 0 ps None rows (narrow ps c.widths) tt c.fits many in
      (r.0, after_append nothing (head_spoken name ps) (rows_spoken 0 ps None rows) ∙ (ap (λ z. after_spoken z (rows_spoken 0 ps None rows)) declared ∙ r.1))

  leads : after_all state.Front (kinds spoken) ≡ Some state.Entries
  leads = both (head_spoken name ps) (rows_spoken 0 ps None rows) state.Front state.Entries state.Entries (head_leads name ps) (rows_lead 0 ps None rows)

  abbrev ms : List Token
  ms = marks_of spoken spelled.0

  same_words : words ms ≡ spelled.0
  same_words = marked_words spoken spelled.0 (spelled.2 ∙ sym all_said)

  same_spoken : forget ms ≡ spoken
  same_spoken = marked spoken spelled.0 (spelled.2 ∙ sym all_said)

  along : after_all state.Front (kinds_of ms) ≡ Some state.Entries
  along = ap (after_all state.Front) (kinds_kept ms ∙ ap kinds same_spoken) ∙ leads

  read : Read (lines_text lines) ms []
  read = record {
    spelled = subst (λ z. Spells vcd (lines_text lines) z) (sym same_words ∙ sym (append-nil (words ms))) spelled.1;
    begun = record { are = refl; each = of_kinds ms (subst AreGood (sym same_spoken) good); begins = leads_begin (kinds_of ms) state.Entries along };
    clean = λ front m behind p k. all_clean [] ms nothing knows_none (subst (AllFine nothing) (sym same_spoken) fine) front m behind p k;
  }

  knows : Knows ms (known (codes_from 0 ps) (names_of ps) (widths_of ps) (row_events 0 ps None rows) done.0)
  knows = subst (Knows ms) (ap (after_spoken nothing) same_spoken ∙ done.1) (knows_all [] ms nothing knows_none)

  has_rows : AreRows ms rows
  has_rows = record {
    count = let e = ap (λ z. length (times z)) knows.events in omega (arith, e, rows_counted [] 0 ps None rows);
    each = λ k l. subst (λ es. IsSomeAnd (slice_get rows k) (λ row. map Some row ≡ map (last_given (before_time (k + 1) es)) (meaning.codes ms))) (sym knows.events)
        (subst (λ cs. IsSomeAnd (slice_get rows k) (λ row. map Some row ≡ map (last_given (before_time (k + 1) (row_events 0 ps None rows))) cs)) (sym knows.codes)
        (let e : 0 + k + 1 ≡ k + 1 = omega arith in
        subst (λ n. IsSomeAnd (slice_get rows k) (λ row. map Some row ≡ map (last_given (before_time n (row_events 0 ps None rows))) (codes_from 0 ps))) e
        (rows_held [] 0 ps None rows refl tt c.fits k l)));
  }

  -- Its pins and its rows are those that were written.
  pub read_back : IsTable (dump_text name ps rows) ps rows
  read_back = subst (λ z. IsTable z ps rows) (text-append (head_lines name ps) (row_lines 0 ps None rows)) (record {
    ms = ms;
    sound = sound (lines_text lines) ms read along;
    variables = sym (ap (λ z. pins_by z (meaning.widths ms)) knows.names ∙ (ap (pins_by (names_of ps)) knows.widths ∙ paired ps));
    values = has_rows;
  })
