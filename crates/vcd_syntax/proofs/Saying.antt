-- What one more word adds to what a dump says.
use Rattle.std.specs.Option.{option_or}
use Rattle.std.specs.Str.{bytes_eq}
use Rattle.std.specs.Prelude.{if◌then◌else◌, slice_get, IsSomeAnd}
use Rattle.std.proofs.Common.{◌≡◌, ℕ, zero, suc, ◌+◌, ◌-◌, ◌<◌, ◌≤◌, Bool, true, false, cond, Option, Some, None, List, [], ◌∷◌, ◌++◌, length, ltb, map, refl, ap, sym, ◌∙◌, subst, arith, append_assoc, append-nil, length-append}
use Rattle.plain_lemmas.proofs.Lists.{get-last}
use Rattle.vcd_syntax.specs.declared.kind.Kind.{Kind}
use Rattle.vcd_syntax.specs.Grammar.{same}
use borrow.Author.Tests.{ltb-true, ltb-false}
use Rattle.vcd_syntax.specs.Tokens.{Token}
use Rattle.vcd_syntax.specs.Reads.{last_word, Knows}
use Rattle.vcd_syntax.specs.Known.{Known}
use Rattle.vcd_syntax.specs.Meaning.{words_of, Event, Comes, Gives, said_by, events_after, events, times, before_time, last_given, values_at, AreRows}

pub events_more : (before : List ℕ) (ms : List Token) (m : Token) → events_after before (ms ++ (m ∷ [])) ≡ events_after before ms ++ said_by m.kind (last_word before ms) m.word.token
unfolding events_after
events_more before [] m = append-nil (said_by m.kind before m.word.token)
events_more before (x ∷ ms) m =
    ap (λ z. said_by x.kind before x.word.token ++ z) (events_more x.word.token ms m)
    ∙ sym (append_assoc (said_by x.kind before x.word.token) (events_after x.word.token ms) (said_by m.kind (last_word x.word.token ms) m.word.token))

pub times-append : (es fs : List Event) → times (es ++ fs) ≡ times es ++ times fs
times-append [] fs = refl
times-append (Comes t ∷ es) fs = ap (λ z. t ∷ z) (times-append es fs)
times-append (Gives c x ∷ es) fs = times-append es fs

or_assoc : {X : Type 0} (a b c : Option X) → option_or (option_or a b) c ≡ option_or a (option_or b c)
or_assoc (Some x) b c = refl
or_assoc None b c = refl

pub last_given-append : (es fs : List Event) (code : List ℕ) → last_given (es ++ fs) code ≡ option_or (last_given fs code) (last_given es code)
last_given-append [] fs code = or_none (last_given fs code)
  where
    or_none : (o : Option ℕ) → o ≡ option_or o None
    or_none (Some x) = refl
    or_none None = refl
last_given-append (Comes t ∷ es) fs code = last_given-append es fs code
last_given-append (Gives c x ∷ es) fs code =
    ap (λ o. option_or o (if bytes_eq c code then Some x else None)) (last_given-append es fs code)
    ∙ or_assoc (last_given fs code) (last_given es code) (if bytes_eq c code then Some x else None)

-- What happens before a time that came is settled.
pub before_time-settled : (n : ℕ) (es fs : List Event) → n < length (times es) → before_time n (es ++ fs) ≡ before_time n es
before_time-settled n [] fs l = absurd (omega arith)
before_time-settled zero (Comes t ∷ es) fs l = refl
before_time-settled (suc n) (Comes t ∷ es) fs l = ap (λ z. Comes t ∷ z) (before_time-settled n es fs (omega (arith, l)))
before_time-settled zero (Gives c x ∷ es) fs l = ap (λ z. Gives c x ∷ z) (before_time-settled zero es fs l)
before_time-settled (suc n) (Gives c x ∷ es) fs l = ap (λ z. Gives c x ∷ z) (before_time-settled (suc n) es fs l)

-- Before a time that has not come is all.
pub before_time-all : (n : ℕ) (es : List Event) → length (times es) ≤ n → before_time n es ≡ es
before_time-all n [] l = refl
before_time-all zero (Comes t ∷ es) l = absurd (omega arith)
before_time-all (suc n) (Comes t ∷ es) l = ap (λ z. Comes t ∷ z) (before_time-all n es (omega (arith, l)))
before_time-all zero (Gives c x ∷ es) l = ap (λ z. Gives c x ∷ z) (before_time-all zero es l)
before_time-all (suc n) (Gives c x ∷ es) l = ap (λ z. Gives c x ∷ z) (before_time-all (suc n) es l)

-- Before the next time is what came so far.
pub before_time-next : (es fs : List Event) (t : ℕ) → before_time (length (times es)) (es ++ (Comes t ∷ fs)) ≡ es
before_time-next [] fs t = refl
before_time-next (Comes s ∷ es) fs t = ap (λ z. Comes s ∷ z) (before_time-next es fs t)
before_time-next (Gives c x ∷ es) fs t = ap (λ z. Gives c x ∷ z) (before_time-next es fs t)

-- words of a kind, with one more mark
pub words_of-more : (k : Kind) (ms : List Token) (m : Token) → words_of k (ms ++ (m ∷ [])) ≡ words_of k ms ++ cond (same k m.kind) (m.word.token ∷ []) []
words_of-more k [] m = at (same k m.kind) refl
  where
    at : (b : Bool) → same k m.kind ≡ b → words_of k (m ∷ []) ≡ cond b (m.word.token ∷ []) []
    at true e = rw e refl
    at false e = rw e refl
words_of-more k (x ∷ ms) m = at (same k x.kind) refl (words_of-more k ms m)
  where
    at : (b : Bool) → same k x.kind ≡ b → words_of k (ms ++ (m ∷ [])) ≡ words_of k ms ++ cond (same k m.kind) (m.word.token ∷ []) [] → words_of k (x ∷ ms ++ (m ∷ [])) ≡ words_of k (x ∷ ms) ++ cond (same k m.kind) (m.word.token ∷ []) []
    at true e h = rw e (ap (λ z. x.word.token ∷ z) h)
    at false e h = rw e h

pub words_of-other : (k : Kind) (ms : List Token) (m : Token) → same k m.kind ≡ false → words_of k (ms ++ (m ∷ [])) ≡ words_of k ms
words_of-other k ms m e = words_of-more k ms m ∙ (ap (λ b. words_of k ms ++ cond b (m.word.token ∷ []) []) e ∙ append-nil (words_of k ms))

-- Rows that are closed: all but that of the last time.

some_and : {X : Type 0} (P Q : X → Type 0) (o : Option X) → ((x : X) → P x → Q x) → IsSomeAnd o P → IsSomeAnd o Q
some_and P Q (Some x) f h = f x h
some_and P Q None f h = h

get_front : {X : Type 0} (xs : List X) (y : X) (k : ℕ) → k < length xs → slice_get (xs ++ (y ∷ [])) k ≡ slice_get xs k
get_front [] y k l = absurd (omega arith)
get_front (x ∷ xs) y zero l = refl
get_front (x ∷ xs) y (suc k) l = get_front xs y k (omega (arith, l))

either_row : (P : ℕ → Option (List ℕ) → Type 0) (rows : List (List ℕ)) (now : List ℕ) → ((k : ℕ) → k < length rows → P k (slice_get rows k)) → P (length rows) (Some now) → (k : ℕ) → k < length (rows ++ (now ∷ [])) → P k (slice_get (rows ++ (now ∷ [])) k)
either_row P rows now each last k l = at (ltb k (length rows)) refl
  where
    at : (b : Bool) → ltb k (length rows) ≡ b → P k (slice_get (rows ++ (now ∷ [])) k)
    at true e = let below = ltb-true k (length rows) e in subst (P k) (sym (get_front rows now k below)) (each k below)
    at false e =
        let over = ltb-false k (length rows) e in
        let same : k ≡ length rows = omega (arith, l, over, length-append rows (now ∷ [])) in
        subst (λ z. P z (slice_get (rows ++ (now ∷ [])) z)) (sym same) (subst (P (length rows)) (sym (get-last rows now)) last)

abbrev pub row_at : Known → ℕ → List (Option ℕ)
row_at k i = map (last_given (before_time (i + 1) k.events)) k.codes

pub record AreClosed (k : Known) (rows : List (List ℕ)) : Type 0 where
  pub count : length rows ≡ length (times k.events) - 1
  pub each : (i : ℕ) → i < length rows → IsSomeAnd (slice_get rows i) (λ row. map Some row ≡ row_at k i)

-- a row that is closed stays, with the codes
row_stays : (k : Known) (fs : List Event) (ns : List (List ℕ)) (ws : List ℕ) (w : List ℕ) (i : ℕ) → i + 1 < length (times k.events) → row_at (record { codes = k.codes; names = ns; widths = ws; events = k.events ++ fs; word = w }) i ≡ row_at k i
row_stays k fs ns ws w i l = ap (λ z. map (last_given z) k.codes) (before_time-settled (i + 1) k.events fs l)

-- They stay where no time comes.
pub closed_on : (k : Known) (rows : List (List ℕ)) (fs : List Event) (ns : List (List ℕ)) (ws : List ℕ) (w : List ℕ) → times fs ≡ [] → AreClosed k rows → AreClosed (record { codes = k.codes; names = ns; widths = ws; events = k.events ++ fs; word = w }) rows
closed_on k rows fs ns ws w e h = record {
  count = let c = ap length (times-append k.events fs) ∙ (length-append (times k.events) (times fs)) in omega (arith, h.count, c, ap length e);
  each = λ i l. some_and (λ row. map Some row ≡ row_at k i) (λ row. map Some row ≡ row_at (record { codes = k.codes; names = ns; widths = ws; events = k.events ++ fs; word = w }) i) (slice_get rows i)
      (λ row p. p ∙ sym (row_stays k fs ns ws w i (omega (arith, l, h.count)))) (h.each i l);
}

-- With the first time there is none yet.
pub closed_first : (k : Known) (t : ℕ) (ns : List (List ℕ)) (ws : List ℕ) (w : List ℕ) → times k.events ≡ [] → AreClosed (record { codes = k.codes; names = ns; widths = ws; events = k.events ++ (Comes t ∷ []); word = w }) []
closed_first k t ns ws w e = record { count = let c = ap length (times-append k.events (Comes t ∷ [])) ∙ length-append (times k.events) (t ∷ []) in omega (arith, c, ap length e); each = λ i l. absurd (omega (arith, l)) }

-- With one more time the row of the last one is closed.
pub closed_more : (k : Known) (rows : List (List ℕ)) (now : List ℕ) (t : ℕ) (ns : List (List ℕ)) (ws : List ℕ) (w : List ℕ) → 0 < length (times k.events) → map Some now ≡ map (last_given k.events) k.codes → AreClosed k rows
    → AreClosed (record { codes = k.codes; names = ns; widths = ws; events = k.events ++ (Comes t ∷ []); word = w }) (rows ++ (now ∷ []))
closed_more k rows now t ns ws w some is h =
    let c = ap length (times-append k.events (Comes t ∷ [])) ∙ length-append (times k.events) (t ∷ []) in
    let here : length rows + 1 ≡ length (times k.events) = omega (arith, h.count, some) in
    let cut : before_time (length rows + 1) (k.events ++ (Comes t ∷ [])) ≡ k.events = ap (λ n. before_time n (k.events ++ (Comes t ∷ []))) here ∙ before_time-next k.events [] t in
    record {
      count = omega (arith, c, here, length-append rows (now ∷ []));
      each = either_row (λ i o. IsSomeAnd o (λ row. map Some row ≡ row_at (record { codes = k.codes; names = ns; widths = ws; events = k.events ++ (Comes t ∷ []); word = w }) i)) rows now
          (λ i l. some_and (λ row. map Some row ≡ row_at k i) (λ row. map Some row ≡ row_at (record { codes = k.codes; names = ns; widths = ws; events = k.events ++ (Comes t ∷ []); word = w }) i) (slice_get rows i)
          (λ row p. p ∙ sym (row_stays k (Comes t ∷ []) ns ws w i (omega (arith, l, h.count)))) (h.each i l))
          (is ∙ ap (λ z. map (last_given z) k.codes) (sym cut));
    }

-- At the end the last one is closed too.
pub rows_all : (ms : List Token) (k : Known) (rows : List (List ℕ)) (now : List ℕ) → Knows ms k → 0 < length (times k.events) → map Some now ≡ map (last_given k.events) k.codes → AreClosed k rows → AreRows ms (rows ++ (now ∷ []))
rows_all ms k rows now g some is h =
    let here : length rows + 1 ≡ length (times k.events) = omega (arith, h.count, some) in
    let cut : before_time (length rows + 1) k.events ≡ k.events = before_time-all (length rows + 1) k.events (omega (arith, here)) in
    let same : (i : ℕ) → row_at k i ≡ values_at ms i = λ i. ap (λ z. map (last_given (before_time (i + 1) z)) k.codes) (sym g.events) ∙ ap (λ z. map (last_given (before_time (i + 1) (events ms))) z) (sym g.codes) in
    record {
      count = let c = ap (λ z. length (times z)) g.events in omega (arith, c, here, length-append rows (now ∷ []));
      each = either_row (λ i o. IsSomeAnd o (λ row. map Some row ≡ values_at ms i)) rows now
          (λ i l. some_and (λ row. map Some row ≡ row_at k i) (λ row. map Some row ≡ values_at ms i) (slice_get rows i) (λ row p. p ∙ same i) (h.each i l))
          (is ∙ (ap (λ z. map (last_given z) k.codes) (sym cut) ∙ same (length rows)));
    }

-- Without a time there are no rows.
pub rows_none : (ms : List Token) (k : Known) → Knows ms k → times k.events ≡ [] → AreRows ms []
rows_none ms k g e = record { count = sym (ap (λ z. length (times z)) g.events ∙ ap length e); each = λ i l. absurd (omega (arith, l)) }

-- A value that was given stays.
before_begins : (n : ℕ) (es : List Event) → (fs : List Event) × (es ≡ before_time n es ++ fs)
before_begins n [] = ([], refl)
before_begins zero (Comes t ∷ es) = (Comes t ∷ es, refl)
before_begins (suc n) (Comes t ∷ es) = let r = before_begins n es in (r.0, ap (λ z. Comes t ∷ z) r.1)
before_begins zero (Gives c x ∷ es) = let r = before_begins zero es in (r.0, ap (λ z. Gives c x ∷ z) r.1)
before_begins (suc n) (Gives c x ∷ es) = let r = before_begins (suc n) es in (r.0, ap (λ z. Gives c x ∷ z) r.1)

pub given_stays : (n : ℕ) (es : List Event) (c : List ℕ) → last_given es c ≡ None → last_given (before_time n es) c ≡ None
given_stays n es c e =
    let r = before_begins n es in
    at (last_given (before_time n es) c) (last_given r.0 c) (sym (last_given-append (before_time n es) r.0 c) ∙ (ap (λ z. last_given z c) (sym r.1) ∙ e))
  where
    at : (o p : Option ℕ) → option_or p o ≡ None → o ≡ None
    at None p f = refl
    at (Some x) None f = cc
    at (Some x) (Some y) f = cc
