-- The verdict on a word tells its least fault, or that it has none.
use Rattle.std.specs.List.{list_all, last_or, position, prefix_len}
use Rattle.std.specs.Str.{bytes_eq}
use Rattle.std.specs.Str.Parse.{digits_value}
use Rattle.std.specs.Cmp.Lexicographic.{bytes_decides}
use Rattle.std.specs.Prelude.{nat_lt, nat_le, if◌then◌else◌, option_and_then, slice_get}
use Rattle.std.proofs.Common.{◌≡◌, ◌⊎◌, inl, inr, ℕ, suc, ◌+◌, ◌*◌, ◌^◌, ◌<◌, ◌≤◌, Bool, true, false, not, ◌&&◌, cond, Option, Some, None, List, [], ◌∷◌, ◌++◌, length, take, drop, refl, ap, sym, ◌∙◌, subst, arith}
use Rattle.std.proofs.lemmas.Bool.{and_parts, or_parts, both_ways, false_from_ne_true}
use Rattle.std.proofs.lemmas.Bool.Decides.{nat_tests}
use Rattle.v_design.specs.Lexemes.{among}
use Rattle.vcd_syntax.specs.declared.kind.Kind.{Kind}
use Rattle.vcd_syntax.specs.declared.kind.Kind.TheVariants as kind
use Rattle.vcd_syntax.specs.Words.{decimal_value}
use Rattle.vcd_syntax.specs.Tokens.{Token}
use Rattle.vcd_syntax.specs.Meaning.{codes, width_of, events, times}
use Rattle.vcd_syntax.specs.Faulty.{Problem, Repeated, Unknown, Unfit, Untimely, Excessive, turn, is_known_bit, most_times, most_values, IsFaulty, code_again, name_again, no_taker, no_scalar, unknown_bit, unknown_bits, one_bit, too_wide, not_above, too_late, too_many_times, too_many_values}
use Rattle.vcd_syntax.specs.Reads.{last_word, Knows}
use Rattle.vcd_syntax.specs.Known.{Known, width_in, Fine, Here, Before, is_above, is_one_bit, holds, judge_time, judge}
use Rattle.vcd_syntax.proofs.Judging.{snoc_same}
use Rattle.vcd_syntax.proofs.Knowing.{MayCome, IsFine, not_faulty, known_width, last_word-more}

-- What a verdict says of tests.

split : (b c : Bool) → (b ≡ true) ⊎ (b ≡ false)
split true c = inl refl
split false c = inr refl

one_below : (o : Option ℕ) → is_one_bit o ≡ true → (v : ℕ) → o ≡ Some v → v ≤ 1
one_below None h v e = cc
one_below (Some w) h v e = let same : w ≡ v = cc in grind (arith, nat_tests)

one_above : (o : Option ℕ) → is_one_bit o ≡ false → (v : ℕ) × (o ≡ Some v) × (1 < v)
one_above None h = cc
one_above (Some w) h = (w, refl, grind (arith, nat_tests))

held : (o : Option ℕ) (n : ℕ) → holds o n ≡ true → (v : ℕ) → o ≡ Some v → n < 2 ^ v
held None n h v e = cc
held (Some w) n h v e = let same : w ≡ v = cc in subst (λ z. n < 2 ^ z) same (grind (arith, nat_tests))

not_held : (o : Option ℕ) (n : ℕ) → holds o n ≡ false → (v : ℕ) × (o ≡ Some v) × (2 ^ v ≤ n)
not_held None n h = cc
not_held (Some w) n h = (w, refl, grind (arith, nat_tests))

above : (o : Option ℕ) (t : ℕ) → is_above o t ≡ true → (s : ℕ) → o ≡ Some s → s < t
above None t h s e = cc
above (Some r) t h s e = let same : r ≡ s = cc in grind (arith, nat_tests)

below : (o : Option ℕ) (t : ℕ) → is_above o t ≡ false → (s : ℕ) × (o ≡ Some s) × (t ≤ s)
below None t h = cc
below (Some r) t h = (r, refl, grind (arith, nat_tests))

-- Fine.

fine_time : (k : Known) (t : ℕ) → judge_time k t ≡ Fine → MayCome k t
fine_time k t h = at (is_above (last_or None (times k.events)) t && nat_lt t (2 ^ 64)) refl h
  where
    few : (b c : Bool) → nat_lt (length (times k.events)) most_times ≡ b → nat_le ((length (times k.events) + 1) * length k.codes) most_values ≡ c → (if b && c then Fine else Here Excessive) ≡ Fine → (length (times k.events) < most_times) × ((length (times k.events) + 1) * length k.codes ≤ most_values)
    few true true e f g = (grind (arith, nat_tests), grind (arith, nat_tests))
    few true false e f g = cc
    few false c e f g = cc

    at : (b : Bool) → (is_above (last_or None (times k.events)) t && nat_lt t (2 ^ 64)) ≡ b → (if b then (if nat_lt (length (times k.events)) most_times && nat_le ((length (times k.events) + 1) * length k.codes) most_values then Fine else Here Excessive) else Here Untimely) ≡ Fine → MayCome k t
    at true e g =
        let p = and_parts (is_above (last_or None (times k.events)) t) (nat_lt t (2 ^ 64)) e in
        let f = few (nat_lt (length (times k.events)) most_times) (nat_le ((length (times k.events) + 1) * length k.codes) most_values) refl refl g in
        record { above = above (last_or None (times k.events)) t p.0; early = (let l : nat_lt t (2 ^ 64) ≡ true = p.1 in grind (arith, nat_tests)); few_times = f.0; few_values = f.1 }
    at false e g = cc

pub fine_at : (x : Kind) (w : List ℕ) (k : Known) → judge x w k ≡ Fine → IsFine x w k
fine_at kind.Code w k h = at (among k.codes w) h
  where
    at : (b : Bool) → (if b then Here Repeated else Fine) ≡ Fine → b ≡ false
    at true e = cc
    at false e = refl
fine_at kind.Name w k h = at (among k.names w) h
  where
    at : (b : Bool) → (if b then Here Repeated else Fine) ≡ Fine → b ≡ false
    at true e = cc
    at false e = refl
fine_at kind.Time w k h = fine_time k (decimal_value (drop 1 w)) h
fine_at kind.Scalar w k h = at (among k.codes (drop 1 w)) (list_all is_known_bit (take 1 w)) (is_one_bit (width_in k (drop 1 w))) refl h
  where
    at : (b c d : Bool) → is_one_bit (width_in k (drop 1 w)) ≡ d → (if b then (if c && d then Fine else Here Unfit) else Here Unknown) ≡ Fine → (b ≡ true) × (c ≡ true) × ((v : ℕ) → width_in k (drop 1 w) ≡ Some v → v ≤ 1)
    at true true true f e = (refl, refl, one_below (width_in k (drop 1 w)) f)
    at true true false f e = cc
    at true false d f e = cc
    at false c d f e = cc
fine_at kind.Bits w k h = at (list_all is_known_bit (drop 1 w)) h
  where
    at : (b : Bool) → (if b then Fine else Here Unfit) ≡ Fine → b ≡ true
    at true e = refl
    at false e = cc
fine_at kind.Taker w k h = at (among k.codes w) (holds (width_in k w) (digits_value 2 (drop 1 k.word))) refl h
  where
    at : (b c : Bool) → holds (width_in k w) (digits_value 2 (drop 1 k.word)) ≡ c → (if b then (if c then Fine else Before Unfit) else Here Unknown) ≡ Fine → (b ≡ true) × ((v : ℕ) → width_in k w ≡ Some v → digits_value 2 (drop 1 k.word) < 2 ^ v)
    at true true f e = (refl, held (width_in k w) (digits_value 2 (drop 1 k.word)) f)
    at true false f e = cc
    at false c f e = cc
fine_at kind.Heading w k h = tt
fine_at kind.Said w k h = tt
fine_at kind.End w k h = tt
fine_at kind.Scope w k h = tt
fine_at kind.ScopeKind w k h = tt
fine_at kind.ScopeName w k h = tt
fine_at kind.Upscope w k h = tt
fine_at kind.Var w k h = tt
fine_at kind.NetKind w k h = tt
fine_at kind.Width w k h = tt
fine_at kind.Range w k h = tt
fine_at kind.EndDefinitions w k h = tt
fine_at kind.DumpVars w k h = tt
fine_at kind.Comment w k h = tt

-- A word that is fine is not at fault.
pub fine_is : (ms : List Token) (m : Token) (k : Known) → Knows ms k → judge m.kind m.word.token k ≡ Fine → (p : Problem) (q : ℕ) → IsFaulty ms m p q → ⊥
fine_is ms m k h e p q i = not_faulty ms m k p q h (fine_at m.kind m.word.token k e) i

-- At fault.

-- a fault of a mark at a place, none of whose faults is less
abbrev pub IsLeast : List Token → Token → Problem → ℕ → Type 0
IsLeast ms m p j = IsFaulty ms m p j × ((q : Problem) (i : ℕ) → IsFaulty ms m q i → (j < i) ⊎ ((j ≡ i) × (turn p ≤ turn q)))

-- which faults words of a kind can have, and where
at_code : (ms : List Token) (m : Token) (q : Problem) (i : ℕ) → IsFaulty ms m q i → m.kind ≡ kind.Code → (m.word.place ≡ i) × (turn Repeated ≤ turn q)
at_code ms m _ _ (code_again e f) h = (refl, omega arith)
at_code ms m _ _ (name_again e f) h = cc
at_code ms m _ _ (no_taker e f) h = cc
at_code ms m _ _ (no_scalar e f) h = cc
at_code ms m _ _ (unknown_bit e f) h = cc
at_code ms m _ _ (unknown_bits e f) h = cc
at_code ms m _ _ (one_bit w e f l) h = cc
at_code ms m _ _ (too_wide front bits w e g f l) h = cc
at_code ms m _ _ (not_above s e f l) h = cc
at_code ms m _ _ (too_late e l) h = cc
at_code ms m _ _ (too_many_times e l) h = cc
at_code ms m _ _ (too_many_values e l) h = cc

at_name : (ms : List Token) (m : Token) (q : Problem) (i : ℕ) → IsFaulty ms m q i → m.kind ≡ kind.Name → (m.word.place ≡ i) × (turn Repeated ≤ turn q)
at_name ms m _ _ (code_again e f) h = cc
at_name ms m _ _ (name_again e f) h = (refl, omega arith)
at_name ms m _ _ (no_taker e f) h = cc
at_name ms m _ _ (no_scalar e f) h = cc
at_name ms m _ _ (unknown_bit e f) h = cc
at_name ms m _ _ (unknown_bits e f) h = cc
at_name ms m _ _ (one_bit w e f l) h = cc
at_name ms m _ _ (too_wide front bits w e g f l) h = cc
at_name ms m _ _ (not_above s e f l) h = cc
at_name ms m _ _ (too_late e l) h = cc
at_name ms m _ _ (too_many_times e l) h = cc
at_name ms m _ _ (too_many_values e l) h = cc

at_bits : (ms : List Token) (m : Token) (q : Problem) (i : ℕ) → IsFaulty ms m q i → m.kind ≡ kind.Bits → (m.word.place ≡ i) × (turn Unfit ≤ turn q)
at_bits ms m _ _ (code_again e f) h = cc
at_bits ms m _ _ (name_again e f) h = cc
at_bits ms m _ _ (no_taker e f) h = cc
at_bits ms m _ _ (no_scalar e f) h = cc
at_bits ms m _ _ (unknown_bit e f) h = cc
at_bits ms m _ _ (unknown_bits e f) h = (refl, omega arith)
at_bits ms m _ _ (one_bit w e f l) h = cc
at_bits ms m _ _ (too_wide front bits w e g f l) h = cc
at_bits ms m _ _ (not_above s e f l) h = cc
at_bits ms m _ _ (too_late e l) h = cc
at_bits ms m _ _ (too_many_times e l) h = cc
at_bits ms m _ _ (too_many_values e l) h = cc

at_time : (ms : List Token) (m : Token) (q : Problem) (i : ℕ) → IsFaulty ms m q i → m.kind ≡ kind.Time → (m.word.place ≡ i) × (turn Untimely ≤ turn q)
    × (turn Excessive ≤ turn q ⊎ ((is_above (last_or None (times (events ms))) (decimal_value (drop 1 m.word.token)) && nat_lt (decimal_value (drop 1 m.word.token)) (2 ^ 64)) ≡ false))
at_time ms m _ _ (code_again e f) h = cc
at_time ms m _ _ (name_again e f) h = cc
at_time ms m _ _ (no_taker e f) h = cc
at_time ms m _ _ (no_scalar e f) h = cc
at_time ms m _ _ (unknown_bit e f) h = cc
at_time ms m _ _ (unknown_bits e f) h = cc
at_time ms m _ _ (one_bit w e f l) h = cc
at_time ms m _ _ (too_wide front bits w e g f l) h = cc
at_time ms m _ _ (not_above s e f l) h =
    let t = decimal_value (drop 1 m.word.token) in
    let no : nat_lt s t ≡ false = grind (arith, nat_tests) in
    (refl, omega arith, inr (ap (λ o. is_above o t && nat_lt t (2 ^ 64)) f ∙ ap (λ b. b && nat_lt t (2 ^ 64)) no))
at_time ms m _ _ (too_late e l) h =
    let t = decimal_value (drop 1 m.word.token) in
    let no : nat_lt t (2 ^ 64) ≡ false = grind (arith, nat_tests) in
    (refl, omega arith, inr (ap (λ b. is_above (last_or None (times (events ms))) t && b) no ∙ never (is_above (last_or None (times (events ms))) t)))
  where
    never : (b : Bool) → (b && false) ≡ false
    never true = refl
    never false = refl
at_time ms m _ _ (too_many_times e l) h = (refl, omega arith, inl (omega arith))
at_time ms m _ _ (too_many_values e l) h = (refl, omega arith, inl (omega arith))

at_scalar : (ms : List Token) (m : Token) (q : Problem) (i : ℕ) → IsFaulty ms m q i → m.kind ≡ kind.Scalar → (m.word.place ≡ i) × (turn Unknown ≤ turn q) × (turn Unfit ≤ turn q ⊎ (among (codes ms) (drop 1 m.word.token) ≡ false))
at_scalar ms m _ _ (code_again e f) h = cc
at_scalar ms m _ _ (name_again e f) h = cc
at_scalar ms m _ _ (no_taker e f) h = cc
at_scalar ms m _ _ (no_scalar e f) h = (refl, omega arith, inr f)
at_scalar ms m _ _ (unknown_bit e f) h = (refl, omega arith, inl (omega arith))
at_scalar ms m _ _ (unknown_bits e f) h = cc
at_scalar ms m _ _ (one_bit w e f l) h = (refl, omega arith, inl (omega arith))
at_scalar ms m _ _ (too_wide front bits w e g f l) h = cc
at_scalar ms m _ _ (not_above s e f l) h = cc
at_scalar ms m _ _ (too_late e l) h = cc
at_scalar ms m _ _ (too_many_times e l) h = cc
at_scalar ms m _ _ (too_many_values e l) h = cc

-- a taker's code is none, or the number of the bits before it does not fit
at_taker : (ms : List Token) (m : Token) (q : Problem) (i : ℕ) → IsFaulty ms m q i → m.kind ≡ kind.Taker
    → ((m.word.place ≡ i) × (q ≡ Unknown) × (among (codes ms) m.word.token ≡ false))
    ⊎ ((front : List Token) × (bits : Token) × (w : ℕ) × (ms ≡ front ++ (bits ∷ [])) × (bits.word.place ≡ i) × (q ≡ Unfit) × (width_of ms m.word.token ≡ Some w))
at_taker ms m _ _ (code_again e f) h = cc
at_taker ms m _ _ (name_again e f) h = cc
at_taker ms m _ _ (no_taker e f) h = inl (refl, refl, f)
at_taker ms m _ _ (no_scalar e f) h = cc
at_taker ms m _ _ (unknown_bit e f) h = cc
at_taker ms m _ _ (unknown_bits e f) h = cc
at_taker ms m _ _ (one_bit w e f l) h = cc
at_taker ms m _ _ (too_wide front bits w e g f l) h = inr (front, bits, w, g, refl, refl, f)
at_taker ms m _ _ (not_above s e f l) h = cc
at_taker ms m _ _ (too_late e l) h = cc
at_taker ms m _ _ (too_many_times e l) h = cc
at_taker ms m _ _ (too_many_values e l) h = cc

-- a code that is not among those has no place, and no width
far : (cs : List (List ℕ)) (c : List ℕ) → among cs c ≡ false → prefix_len (λ x. not (bytes_eq c x)) cs ≡ length cs
far [] c h = refl
far (x ∷ cs) c h =
    let r = or_parts (bytes_eq x c) (among cs c) h in
    let no : bytes_eq c x ≡ false = false_from_ne_true (bytes_eq c x) (λ t. both_ways (bytes_eq x c) r.0 ((bytes_decides x c).1 (sym ((bytes_decides c x).0 t)))) in
    ap (λ b. cond (not b) (1 + prefix_len (λ x. not (bytes_eq c x)) cs) 0) no ∙ ap (λ n. 1 + n) (far cs c r.1) ∙ (let e : 1 + length cs ≡ suc (length cs) = omega arith in e)

no_width : (cs : List (List ℕ)) (ws : List ℕ) (c : List ℕ) (w : ℕ) → among cs c ≡ false → option_and_then (λ i. slice_get ws i) (position (bytes_eq c) cs) ≡ Some w → ⊥
no_width cs ws c w h e =
    let n : nat_lt (prefix_len (λ x. not (bytes_eq c x)) cs) (length cs) ≡ false = (let f = far cs c h in grind (arith, nat_tests)) in
    let none : position (bytes_eq c) cs ≡ None = ap (λ b. cond b (Some (prefix_len (λ x. not (bytes_eq c x)) cs)) None) n in
    let both : None ≡ Some w = ap (option_and_then (λ i. slice_get ws i)) (sym none) ∙ e in
    cc

-- Tests on marks and on what is known of them are the same.
module _ (ms : List Token) (m : Token) (k : Known) (h : Knows ms k) where
  known_code : (c : List ℕ) → among (codes ms) c ≡ among k.codes c
  known_code c = ap (λ z. among z c) h.codes

  -- where a verdict puts a fault
  least_code : m.kind ≡ kind.Code → (p : Problem) → judge kind.Code m.word.token k ≡ Here p → IsLeast ms m p m.word.place
  least_code x p e = at (among k.codes m.word.token) refl e
    where
      at : (b : Bool) → among k.codes m.word.token ≡ b → (if b then Here Repeated else Fine) ≡ Here p → IsLeast ms m p m.word.place
      at true f g =
          let one : Repeated ≡ p = cc in
          subst (λ z. IsLeast ms m z m.word.place) one (code_again x (known_code m.word.token ∙ f), λ q i w. inr (at_code ms m q i w x))
      at false f g = cc

  least_name : m.kind ≡ kind.Name → (p : Problem) → judge kind.Name m.word.token k ≡ Here p → IsLeast ms m p m.word.place
  least_name x p e = at (among k.names m.word.token) refl e
    where
      at : (b : Bool) → among k.names m.word.token ≡ b → (if b then Here Repeated else Fine) ≡ Here p → IsLeast ms m p m.word.place
      at true f g =
          let one : Repeated ≡ p = cc in
          subst (λ z. IsLeast ms m z m.word.place) one (name_again x (ap (λ z. among z m.word.token) h.names ∙ f), λ q i w. inr (at_name ms m q i w x))
      at false f g = cc

  least_bits : m.kind ≡ kind.Bits → (p : Problem) → judge kind.Bits m.word.token k ≡ Here p → IsLeast ms m p m.word.place
  least_bits x p e = at (list_all is_known_bit (drop 1 m.word.token)) refl e
    where
      at : (b : Bool) → list_all is_known_bit (drop 1 m.word.token) ≡ b → (if b then Fine else Here Unfit) ≡ Here p → IsLeast ms m p m.word.place
      at true f g = cc
      at false f g =
          let one : Unfit ≡ p = cc in
          subst (λ z. IsLeast ms m z m.word.place) one (unknown_bits x f, λ q i w. inr (at_bits ms m q i w x))

  width_same : (c : List ℕ) (v : ℕ) → width_in k c ≡ Some v → width_of ms c ≡ Some v
  width_same c v e = known_width ms k c h ∙ e

  least_scalar : m.kind ≡ kind.Scalar → (p : Problem) → judge kind.Scalar m.word.token k ≡ Here p → IsLeast ms m p m.word.place
  least_scalar x p e = at (among k.codes code) (list_all is_known_bit (take 1 m.word.token)) (is_one_bit (width_in k code)) refl refl refl e
    where
      code : List ℕ
      code = drop 1 m.word.token

      fault : (b c : Bool) → list_all is_known_bit (take 1 m.word.token) ≡ b → is_one_bit (width_in k (drop 1 m.word.token)) ≡ c → (b && c) ≡ false → IsFaulty ms m Unfit m.word.place
      fault true true f g i = cc
      fault true false f g i = let o = one_above (width_in k (drop 1 m.word.token)) g in one_bit o.0 x (width_same (drop 1 m.word.token) o.0 o.1) o.2
      fault false c f g i = unknown_bit x f

      worse : among k.codes (drop 1 m.word.token) ≡ true → (q : Problem) (i : ℕ) → IsFaulty ms m q i → (m.word.place < i) ⊎ ((m.word.place ≡ i) × (turn Unfit ≤ turn q))
      worse f q i w = let r = at_scalar ms m q i w x in elim r.2 [
        | inl a ↦ inr (r.0, a)
        | inr n ↦ absurd (both_ways (among k.codes (drop 1 m.word.token)) (sym (known_code (drop 1 m.word.token)) ∙ n) f)
      ]

      at : (b c d : Bool) → among k.codes (drop 1 m.word.token) ≡ b → list_all is_known_bit (take 1 m.word.token) ≡ c → is_one_bit (width_in k (drop 1 m.word.token)) ≡ d
          → (if b then (if c && d then Fine else Here Unfit) else Here Unknown) ≡ Here p → IsLeast ms m p m.word.place
      at true true true f g i j = cc
      at true true false f g i j =
          let one : Unfit ≡ p = cc in
          subst (λ z. IsLeast ms m z m.word.place) one (fault true false g i refl, worse f)
      at true false d f g i j =
          let one : Unfit ≡ p = cc in
          subst (λ z. IsLeast ms m z m.word.place) one (unknown_bit x g, worse f)
      at false c d f g i j =
          let one : Unknown ≡ p = cc in
          subst (λ z. IsLeast ms m z m.word.place) one (no_scalar x (known_code (drop 1 m.word.token) ∙ f), λ q n w. let r = at_scalar ms m q n w x in inr (r.0, r.1))

  least_time : m.kind ≡ kind.Time → (p : Problem) → judge kind.Time m.word.token k ≡ Here p → IsLeast ms m p m.word.place
  least_time x p e = at (is_above (last_or None (times k.events)) t && nat_lt t (2 ^ 64)) refl e
    where
      t : ℕ
      t = decimal_value (drop 1 m.word.token)

      latest : (o : Option ℕ) → last_or None (times k.events) ≡ o → last_or None (times (events ms)) ≡ o
      latest o f = ap (λ z. last_or None (times z)) h.events ∙ f

      late : (a b : Bool) → is_above (last_or None (times k.events)) (decimal_value (drop 1 m.word.token)) ≡ a → nat_lt (decimal_value (drop 1 m.word.token)) (2 ^ 64) ≡ b → (a && b) ≡ false → IsFaulty ms m Untimely m.word.place
      late true true f g i = cc
      late true false f g i = too_late x (grind (arith, nat_tests))
      late false b f g i = let o = below (last_or None (times k.events)) (decimal_value (drop 1 m.word.token)) f in not_above o.0 x (latest (Some o.0) o.1) o.2

      many : (a b : Bool) → nat_lt (length (times k.events)) most_times ≡ a → nat_le ((length (times k.events) + 1) * length k.codes) most_values ≡ b → (a && b) ≡ false → IsFaulty ms m Excessive m.word.place
      many true true f g i = cc
      many true false f g i =
          let c : (length (times (events ms)) + 1) * length (codes ms) ≡ (length (times k.events) + 1) * length k.codes = ap (λ y. (length (times y) + 1) * length (codes ms)) h.events ∙ ap (λ y. (length (times k.events) + 1) * length y) h.codes in
          let over : most_values < (length (times k.events) + 1) * length k.codes = grind (arith, nat_tests) in
          too_many_values x (omega (arith, c, over))
      many false b f g i =
          let c = ap (λ y. length (times y)) h.events in
          let over : most_times ≤ length (times k.events) = grind (arith, nat_tests) in
          too_many_times x (omega (arith, c, over))

      counts : (b : Bool) → (nat_lt (length (times k.events)) most_times && nat_le ((length (times k.events) + 1) * length k.codes) most_values) ≡ b → (is_above (last_or None (times k.events)) (decimal_value (drop 1 m.word.token)) && nat_lt (decimal_value (drop 1 m.word.token)) (2 ^ 64)) ≡ true
          → (if b then Fine else Here Excessive) ≡ Here p → IsLeast ms m p m.word.place
      counts true f g i = cc
      counts false f g i =
          let one : Excessive ≡ p = cc in
          subst (λ z. IsLeast ms m z m.word.place) one (
            many (nat_lt (length (times k.events)) most_times) (nat_le ((length (times k.events) + 1) * length k.codes) most_values) refl refl f,
            λ q n w. let r = at_time ms m q n w x in elim r.2 [
              | inl a ↦ inr (r.0, a)
              | inr z ↦ absurd (both_ways (is_above (last_or None (times k.events)) (decimal_value (drop 1 m.word.token)) && nat_lt (decimal_value (drop 1 m.word.token)) (2 ^ 64))
                  (ap (λ y. is_above (last_or None (times y)) (decimal_value (drop 1 m.word.token)) && nat_lt (decimal_value (drop 1 m.word.token)) (2 ^ 64)) (sym h.events) ∙ z) g)
            ],
          )

      at : (b : Bool) → (is_above (last_or None (times k.events)) (decimal_value (drop 1 m.word.token)) && nat_lt (decimal_value (drop 1 m.word.token)) (2 ^ 64)) ≡ b
          → (if b then (if nat_lt (length (times k.events)) most_times && nat_le ((length (times k.events) + 1) * length k.codes) most_values then Fine else Here Excessive) else Here Untimely) ≡ Here p → IsLeast ms m p m.word.place
      at true f g = counts (nat_lt (length (times k.events)) most_times && nat_le ((length (times k.events) + 1) * length k.codes) most_values) refl f g
      at false f g =
          let one : Untimely ≡ p = cc in
          subst (λ z. IsLeast ms m z m.word.place) one (
            late (is_above (last_or None (times k.events)) (decimal_value (drop 1 m.word.token))) (nat_lt (decimal_value (drop 1 m.word.token)) (2 ^ 64)) refl refl f,
            λ q n w. let r = at_time ms m q n w x in inr (r.0, r.1),
          )

  -- a taker's code: none
  least_taker : m.kind ≡ kind.Taker → (p : Problem) → judge kind.Taker m.word.token k ≡ Here p → IsLeast ms m p m.word.place
  least_taker x p e = at (among k.codes m.word.token) (holds (width_in k m.word.token) (digits_value 2 (drop 1 k.word))) refl e
    where
      at : (b c : Bool) → among k.codes m.word.token ≡ b → (if b then (if c then Fine else Before Unfit) else Here Unknown) ≡ Here p → IsLeast ms m p m.word.place
      at true true f g = cc
      at true false f g = cc
      at false c f g =
          let one : Unknown ≡ p = cc in
          subst (λ z. IsLeast ms m z m.word.place) one (
            no_taker x (known_code m.word.token ∙ f),
            λ q n w. elim (at_taker ms m q n w x) [
              | inl r ↦ inr (r.0, subst (λ z. turn Unknown ≤ turn z) (sym r.1) (omega arith))
              | inr r ↦ absurd (no_width k.codes k.widths m.word.token r.2 f (sym (known_width ms k m.word.token h) ∙ r.6))
            ],
          )

  -- the number before it does not fit
  pub least_before : (front : List Token) (bits : Token) (p : Problem) → ms ≡ front ++ (bits ∷ []) → m.kind ≡ kind.Taker → judge kind.Taker m.word.token k ≡ Before p → IsLeast ms m p bits.word.place
  least_before front bits p g x e = at (among k.codes m.word.token) (holds (width_in k m.word.token) (digits_value 2 (drop 1 k.word))) refl refl e
    where
      word : k.word ≡ bits.word.token
      word = sym (ap (last_word []) (sym g) ∙ h.word) ∙ last_word-more [] front bits

      at : (b c : Bool) → among k.codes m.word.token ≡ b → holds (width_in k m.word.token) (digits_value 2 (drop 1 k.word)) ≡ c → (if b then (if c then Fine else Before Unfit) else Here Unknown) ≡ Before p → IsLeast ms m p bits.word.place
      at true true f i j = cc
      at true false f i j =
          let one : Unfit ≡ p = cc in
          let o = not_held (width_in k m.word.token) (digits_value 2 (drop 1 k.word)) i in
          subst (λ z. IsLeast ms m z bits.word.place) one (
            too_wide front bits o.0 x g (width_same m.word.token o.0 o.1) (subst (λ z. 2 ^ o.0 ≤ digits_value 2 (drop 1 z)) word o.2),
            λ q n w. elim (at_taker ms m q n w x) [
              | inl r ↦ absurd (both_ways (among k.codes m.word.token) (sym (known_code m.word.token) ∙ r.2) f)
              | inr r ↦ inr (ap (λ z. z.word.place) (snoc_same front r.0 bits r.1 (sym g ∙ r.3)).1 ∙ r.4, subst (λ z. turn Unfit ≤ turn z) (sym r.5) (omega arith))
            ],
          )
      at false c f i j = cc

-- A verdict that puts a fault at the word tells its least one.
pub least_here : (ms : List Token) (m : Token) (k : Known) → Knows ms k → (p : Problem) → judge m.kind m.word.token k ≡ Here p → IsLeast ms m p m.word.place
least_here ms m k h p e = go m.kind refl e
  where
    go : (x : Kind) → m.kind ≡ x → judge x m.word.token k ≡ Here p → IsLeast ms m p m.word.place
    go kind.Code x f = least_code ms m k h x p f
    go kind.Name x f = least_name ms m k h x p f
    go kind.Time x f = least_time ms m k h x p f
    go kind.Scalar x f = least_scalar ms m k h x p f
    go kind.Bits x f = least_bits ms m k h x p f
    go kind.Taker x f = least_taker ms m k h x p f
    go kind.Heading x f = cc
    go kind.Said x f = cc
    go kind.End x f = cc
    go kind.Scope x f = cc
    go kind.ScopeKind x f = cc
    go kind.ScopeName x f = cc
    go kind.Upscope x f = cc
    go kind.Var x f = cc
    go kind.NetKind x f = cc
    go kind.Width x f = cc
    go kind.Range x f = cc
    go kind.EndDefinitions x f = cc
    go kind.DumpVars x f = cc
    go kind.Comment x f = cc

-- Only a taker has a fault placed before it.
pub before_is : (x : Kind) (w : List ℕ) (k : Known) (p : Problem) → judge x w k ≡ Before p → x ≡ kind.Taker
before_is kind.Taker w k p e = refl
before_is kind.Code w k p e = at (among k.codes w) e
  where
    at : (b : Bool) → (if b then Here Repeated else Fine) ≡ Before p → kind.Code ≡ kind.Taker
    at true e = cc
    at false e = cc
before_is kind.Name w k p e = at (among k.names w) e
  where
    at : (b : Bool) → (if b then Here Repeated else Fine) ≡ Before p → kind.Name ≡ kind.Taker
    at true e = cc
    at false e = cc
before_is kind.Bits w k p e = at (list_all is_known_bit (drop 1 w)) e
  where
    at : (b : Bool) → (if b then Fine else Here Unfit) ≡ Before p → kind.Bits ≡ kind.Taker
    at true e = cc
    at false e = cc
before_is kind.Scalar w k p e = at (among k.codes (drop 1 w)) (list_all is_known_bit (take 1 w) && is_one_bit (width_in k (drop 1 w))) e
  where
    at : (b c : Bool) → (if b then (if c then Fine else Here Unfit) else Here Unknown) ≡ Before p → kind.Scalar ≡ kind.Taker
    at true true e = cc
    at true false e = cc
    at false c e = cc
before_is kind.Time w k p e = at (is_above (last_or None (times k.events)) (decimal_value (drop 1 w)) && nat_lt (decimal_value (drop 1 w)) (2 ^ 64)) (nat_lt (length (times k.events)) most_times && nat_le ((length (times k.events) + 1) * length k.codes) most_values) e
  where
    at : (b c : Bool) → (if b then (if c then Fine else Here Excessive) else Here Untimely) ≡ Before p → kind.Time ≡ kind.Taker
    at true true e = cc
    at true false e = cc
    at false c e = cc
before_is kind.Heading w k p e = cc
before_is kind.Said w k p e = cc
before_is kind.End w k p e = cc
before_is kind.Scope w k p e = cc
before_is kind.ScopeKind w k p e = cc
before_is kind.ScopeName w k p e = cc
before_is kind.Upscope w k p e = cc
before_is kind.Var w k p e = cc
before_is kind.NetKind w k p e = cc
before_is kind.Width w k p e = cc
before_is kind.Range w k p e = cc
before_is kind.EndDefinitions w k p e = cc
before_is kind.DumpVars w k p e = cc
before_is kind.Comment w k p e = cc
