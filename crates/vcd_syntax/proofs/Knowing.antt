-- What is known of the marks so far, and that it tells which faults the next one has.
use Rattle.std.specs.List.{list_all, last_or, position}
use Rattle.std.specs.Str.{bytes_eq}
use Rattle.std.specs.Str.Parse.{digits_value}
use Rattle.std.specs.Prelude.{slice_get, option_and_then}
use Rattle.std.proofs.Common.{◌≡◌, ℕ, ◌+◌, ◌*◌, ◌^◌, ◌<◌, ◌≤◌, true, false, cond, Some, None, List, [], ◌∷◌, ◌++◌, length, map, drop, take, refl, ap, sym, ◌∙◌, subst, arith, append-nil}
use Rattle.std.proofs.lemmas.Bool.{both_ways}
use Rattle.std.proofs.lemmas.List.{map-append}
use Rattle.v_design.specs.Lexemes.{among}
use Rattle.vcd_syntax.specs.declared.kind.Kind.{Kind}
use Rattle.vcd_syntax.specs.declared.kind.Kind.TheVariants.{Heading, Said, End, Scope, ScopeKind, ScopeName, Upscope, Var, NetKind, Width, Code, Name, Range, EndDefinitions, Time, Scalar, Bits, Taker, DumpVars, Comment}
use Rattle.vcd_syntax.specs.Words.{decimal_value}
use Rattle.vcd_syntax.specs.Grammar.{same}
use Rattle.vcd_syntax.specs.Tokens.{Token}
use Rattle.vcd_syntax.specs.Meaning.{words_of, codes, widths, width_of, Event, said_by, events_after, events, times}
use Rattle.vcd_syntax.specs.Faulty.{Problem, is_known_bit, most_times, most_values, IsFaulty, code_again, name_again, no_taker, no_scalar, unknown_bit, unknown_bits, one_bit, too_wide, not_above, too_late, too_many_times, too_many_values}
use Rattle.vcd_syntax.specs.Reads.{last_word, Knows}
use Rattle.vcd_syntax.specs.Known.{Known, more, width_in}
use Rattle.vcd_syntax.proofs.Saying.{events_more, words_of-more, words_of-other}

pub last_word-more : (b : List ℕ) (ms : List Token) (m : Token) → last_word b (ms ++ m ∷ []) ≡ m.word.token
last_word-more b [] m = refl
last_word-more b (x ∷ ms) m = last_word-more x.word.token ms m

module _ (ms : List Token) (m : Token) (k : Known) (h : Knows ms k) where
  all_events : (x : Kind) → m.kind ≡ x → events (ms ++ m ∷ []) ≡ k.events ++ said_by x k.word m.word.token
  all_events x e = events_more [] ms m ∙ (ap (λ z. events ms ++ said_by z (last_word [] ms) m.word.token) e ∙ (ap (λ z. z ++ said_by x (last_word [] ms) m.word.token) h.events ∙ ap (λ z. k.events ++ said_by x z m.word.token) h.word))

  quiet : (x : Kind) → m.kind ≡ x → said_by x k.word m.word.token ≡ [] → events (ms ++ m ∷ []) ≡ k.events
  quiet x e q = all_events x e ∙ (ap (λ z. k.events ++ z) q ∙ append-nil k.events)

  kept : (x y : Kind) → m.kind ≡ y → same x y ≡ false → words_of x (ms ++ m ∷ []) ≡ words_of x ms
  kept x y e q = words_of-other x ms m (ap (λ z. same x z) e ∙ q)

  added : (x : Kind) → m.kind ≡ x → same x x ≡ true → words_of x (ms ++ m ∷ []) ≡ words_of x ms ++ m.word.token ∷ []
  added x e q = words_of-more x ms m ∙ ap (λ b. words_of x ms ++ cond b (m.word.token ∷ []) []) (ap (λ z. same x z) e ∙ q)

  old_widths : (y : Kind) → m.kind ≡ y → same Width y ≡ false → widths (ms ++ m ∷ []) ≡ k.widths
  old_widths y e q = ap (map decimal_value) (kept Width y e q) ∙ h.widths

  -- a word that declares nothing
  declares_nothing : (y : Kind) (es : List Event) → m.kind ≡ y → same Code y ≡ false → same Name y ≡ false → same Width y ≡ false → events (ms ++ m ∷ []) ≡ es
      → Knows (ms ++ m ∷ []) (record { codes = k.codes; names = k.names; widths = k.widths; events = es; word = m.word.token })
  declares_nothing y es e a b c f = record {
    codes = kept Code y e a ∙ h.codes;
    names = kept Name y e b ∙ h.names;
    widths = old_widths y e c;
    events = f;
    word = last_word-more [] ms m;
  }

  knows_at : (x : Kind) → m.kind ≡ x → Knows (ms ++ m ∷ []) (more x m.word.token k)
  knows_at Width e = record {
    codes = kept Code Width e refl ∙ h.codes;
    names = kept Name Width e refl ∙ h.names;
    widths = ap (map decimal_value) (added Width e refl) ∙ (map-append decimal_value (words_of Width ms) (m.word.token ∷ []) ∙ ap (λ z. z ++ decimal_value m.word.token ∷ []) h.widths);
    events = quiet Width e refl;
    word = last_word-more [] ms m;
  }
  knows_at Code e = record {
    codes = added Code e refl ∙ ap (λ z. z ++ m.word.token ∷ []) h.codes;
    names = kept Name Code e refl ∙ h.names;
    widths = old_widths Code e refl;
    events = quiet Code e refl;
    word = last_word-more [] ms m;
  }
  knows_at Name e = record {
    codes = kept Code Name e refl ∙ h.codes;
    names = added Name e refl ∙ ap (λ z. z ++ m.word.token ∷ []) h.names;
    widths = old_widths Name e refl;
    events = quiet Name e refl;
    word = last_word-more [] ms m;
  }
  knows_at Time e = declares_nothing Time _ e refl refl refl (all_events Time e)
  knows_at Scalar e = declares_nothing Scalar _ e refl refl refl (all_events Scalar e)
  knows_at Taker e = declares_nothing Taker _ e refl refl refl (all_events Taker e)
  knows_at Heading e = declares_nothing Heading _ e refl refl refl (quiet Heading e refl)
  knows_at Said e = declares_nothing Said _ e refl refl refl (quiet Said e refl)
  knows_at End e = declares_nothing End _ e refl refl refl (quiet End e refl)
  knows_at Scope e = declares_nothing Scope _ e refl refl refl (quiet Scope e refl)
  knows_at ScopeKind e = declares_nothing ScopeKind _ e refl refl refl (quiet ScopeKind e refl)
  knows_at ScopeName e = declares_nothing ScopeName _ e refl refl refl (quiet ScopeName e refl)
  knows_at Upscope e = declares_nothing Upscope _ e refl refl refl (quiet Upscope e refl)
  knows_at Var e = declares_nothing Var _ e refl refl refl (quiet Var e refl)
  knows_at NetKind e = declares_nothing NetKind _ e refl refl refl (quiet NetKind e refl)
  knows_at Range e = declares_nothing Range _ e refl refl refl (quiet Range e refl)
  knows_at EndDefinitions e = declares_nothing EndDefinitions _ e refl refl refl (quiet EndDefinitions e refl)
  knows_at Bits e = declares_nothing Bits _ e refl refl refl (quiet Bits e refl)
  knows_at DumpVars e = declares_nothing DumpVars _ e refl refl refl (quiet DumpVars e refl)
  knows_at Comment e = declares_nothing Comment _ e refl refl refl (quiet Comment e refl)

-- What is known goes on.
pub knows_more : (ms : List Token) (m : Token) (k : Known) → Knows ms k → Knows (ms ++ m ∷ []) (more m.kind m.word.token k)
knows_more ms m k h = knows_at ms m k h m.kind refl

pub knows_none : Knows [] (record { codes = []; names = []; widths = []; events = []; word = [] })
unfolding events_after
knows_none = record { codes = refl; names = refl; widths = refl; events = refl; word = refl }

-- a time may come
pub record MayCome (k : Known) (time : ℕ) : Type 0 where
  pub above : (s : ℕ) → last_or None (times k.events) ≡ Some s → s < time
  pub early : time < 2 ^ 64
  pub few_times : length (times k.events) < most_times
  pub few_values : (length (times k.events) + 1) * length k.codes ≤ most_values

-- a word of a kind has no fault
abbrev pub IsFine : Kind → List ℕ → Known → Type 0
IsFine Code w k = among k.codes w ≡ false
IsFine Name w k = among k.names w ≡ false
IsFine Time w k = MayCome k (decimal_value (drop 1 w))
IsFine Scalar w k = (among k.codes (drop 1 w) ≡ true) × (list_all is_known_bit (take 1 w) ≡ true) × ((v : ℕ) → width_in k (drop 1 w) ≡ Some v → v ≤ 1)
IsFine Bits w k = list_all is_known_bit (drop 1 w) ≡ true
IsFine Taker w k = (among k.codes w ≡ true) × ((v : ℕ) → width_in k w ≡ Some v → digits_value 2 (drop 1 k.word) < 2 ^ v)
IsFine _ w k = Unit {0}

last_of-more : (b : List ℕ) (front : List Token) (x : Token) → last_word b (front ++ x ∷ []) ≡ x.word.token
last_of-more b front x = last_word-more b front x

fine_as : (x : Kind) (m : Token) (k : Known) → m.kind ≡ x → IsFine m.kind m.word.token k → IsFine x m.word.token k
fine_as x m k e f = subst (λ z. IsFine z m.word.token k) e f

pub known_width : (ms : List Token) (k : Known) (code : List ℕ) → Knows ms k → width_of ms code ≡ width_in k code
known_width ms k code h = ap (λ z. option_and_then (λ i. slice_get z i) (position (bytes_eq code) (codes ms))) h.widths ∙ ap (λ z. option_and_then (λ i. slice_get k.widths i) (position (bytes_eq code) z)) h.codes

pub not_faulty : (ms : List Token) (m : Token) (k : Known) (p : Problem) (q : ℕ) → Knows ms k → IsFine m.kind m.word.token k → IsFaulty ms m p q → ⊥
not_faulty ms m k _ _ h f (code_again e i) = both_ways (among k.codes m.word.token) (fine_as Code m k e f) (ap (λ z. among z m.word.token) (sym h.codes) ∙ i)
not_faulty ms m k _ _ h f (name_again e i) = both_ways (among k.names m.word.token) (fine_as Name m k e f) (ap (λ z. among z m.word.token) (sym h.names) ∙ i)
not_faulty ms m k _ _ h f (no_taker e i) = both_ways (among k.codes m.word.token) (ap (λ z. among z m.word.token) (sym h.codes) ∙ i) (fine_as Taker m k e f).0
not_faulty ms m k _ _ h f (no_scalar e i) = both_ways (among k.codes (drop 1 m.word.token)) (ap (λ z. among z (drop 1 m.word.token)) (sym h.codes) ∙ i) (fine_as Scalar m k e f).0
not_faulty ms m k _ _ h f (unknown_bit e i) = both_ways (list_all is_known_bit (take 1 m.word.token)) i (fine_as Scalar m k e f).1
not_faulty ms m k _ _ h f (unknown_bits e i) = both_ways (list_all is_known_bit (drop 1 m.word.token)) i (fine_as Bits m k e f)
not_faulty ms m k _ _ h f (one_bit w e i l) = let z = (fine_as Scalar m k e f).2 w (sym (known_width ms k (drop 1 m.word.token) h) ∙ i) in omega (arith, z, l)
not_faulty ms m k _ _ h f (too_wide front bits w e g i l) =
    let word : bits.word.token ≡ k.word = sym (last_of-more [] front bits) ∙ (ap (last_word []) (sym g) ∙ h.word) in
    let z = (fine_as Taker m k e f).1 w (sym (known_width ms k m.word.token h) ∙ i) in
    let same_value : digits_value 2 (drop 1 bits.word.token) ≡ digits_value 2 (drop 1 k.word) = ap (λ y. digits_value 2 (drop 1 y)) word in
    omega (arith, z, l, same_value)
not_faulty ms m k _ _ h f (not_above s e i l) = let z = (fine_as Time m k e f).above s (ap (λ y. last_or None (times y)) (sym h.events) ∙ i) in omega (arith, z, l)
not_faulty ms m k _ _ h f (too_late e l) = let z = (fine_as Time m k e f).early in omega (arith, z, l)
not_faulty ms m k _ _ h f (too_many_times e l) = let z = (fine_as Time m k e f).few_times in let c = ap (λ y. length (times y)) h.events in omega (arith, z, l, c)
not_faulty ms m k _ _ h f (too_many_values e l) =
    let z = (fine_as Time m k e f).few_values in
    let c : (length (times (events ms)) + 1) * length (codes ms) ≡ (length (times k.events) + 1) * length k.codes = ap (λ y. (length (times y) + 1) * length (codes ms)) h.events ∙ ap (λ y. (length (times k.events) + 1) * length y) h.codes in
    omega (arith, z, l, c)
