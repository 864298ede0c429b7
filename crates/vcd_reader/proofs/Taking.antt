-- What one more word of each kind makes of what is kept.
use Rattle.std.specs.List.{list_all, list_any, last_or, position, prefix_len}
use Rattle.std.specs.Str.{bytes_eq}
use Rattle.std.specs.Str.Parse.{digits_value}
use Rattle.std.specs.Prelude.{nat_lt, nat_le, if◌then◌else◌, option_and_then, slice_get, slice_index}
use Rattle.std.proofs.Common.{◌≡◌, ◌⊎◌, inl, inr, ℕ, suc, ◌+◌, ◌*◌, ◌^◌, ◌<◌, ◌≤◌, ◌==◌, Bool, true, false, not, ◌&&◌, ◌||◌, cond, Option, Some, None, List, [], ◌∷◌, ◌++◌, length, map, take, drop, set, refl, ap, sym, ◌∙◌, subst, arith, append-nil, length-append}
use Rattle.std.proofs.lemmas.Bool.{and_parts}
use Rattle.std.proofs.lemmas.Bool.Decides.{nat_tests}
use Rattle.std.proofs.lemmas.List.{length-map}
use Rattle.std.proofs.lemmas.Option.{slice_get-get_or}
use Rattle.std.proofs.Math.Nat.{pow-le-pow_right}
use Rattle.plain_lemmas.proofs.Bools.{or-either}
use Rattle.plain_lemmas.proofs.Numbers.{eq-same}
use Rattle.plain_lemmas.proofs.Lists.{each-append, each-get}
use Rattle.v_design.specs.Lexemes.{among}
use Rattle.vcd_syntax.specs.declared.kind.Kind.{Kind}
use Rattle.vcd_syntax.specs.declared.kind.Kind.TheVariants as kind
use Rattle.vcd_syntax.specs.Words.{is, is_number, decimal_value}
use Rattle.vcd_syntax.specs.Meaning.{Comes, Gives, times, last_given}
use Rattle.vcd_syntax.specs.Faulty.{Repeated, Unknown, Unfit, Untimely, Excessive, is_known_bit, most_times, most_values}
use Rattle.vcd_syntax.specs.Numbers.{within}
use Rattle.vcd_syntax.specs.Known.{Known, more, Verdict, Fine, Here, Before, AreApart, AreGiven, is_above, width_in, is_one_bit, holds, judge}
use Rattle.vcd_syntax.proofs.Saying.{times-append}
use Rattle.vcd_syntax.proofs.Giving.{given_at as given_in_order, declared, timed}
use Rattle.vcd_reader.specs.declared.rows.Rows.{Rows}
use Rattle.vcd_reader.specs.declared.rows.Came.{Came}
use Rattle.vcd_reader.specs.declared.rows.Came.TheVariants.{Next, Late, Many}
use Rattle.vcd_reader.specs.declared.variables.Given.{Given}
use Rattle.vcd_reader.specs.declared.variables.Given.TheVariants as change
use Rattle.vcd_reader.specs.declared.variables.Variables.{Variables}
use Rattle.vcd_reader.specs.Bits.{bit_value}
use Rattle.vcd_reader.specs.Rows.{Comes as OneTimeMore, ClosesAt, came_by}
use Rattle.vcd_reader.specs.Variables.{fits, given_at, given_by, now_with, Gives as Changes, AddsCode, AddsName, AddsWidth}
use Rattle.vcd_reader.specs.Steps.{AreKept, HoldsVariables, HoldsRows}
use Rattle.vcd_reader.proofs.Sets.{any_is}
use Rattle.vcd_reader.proofs.Keeping.{kept_given, kept_code, kept_time}

abbrev pub IsTaken : Kind → List ℕ → Known → Variables → Rows → Type 0
IsTaken x w k v r = (judge x w k ≡ Fine) × HoldsVariables v (more x w k) × HoldsRows r (more x w k)

-- the rows, where codes and events stay
rows_stay : (r : Rows) (k : Known) (ns : List (List ℕ)) (ws : List ℕ) (w : List ℕ) → HoldsRows r k → HoldsRows r (record { codes = k.codes; names = ns; widths = ws; events = k.events; word = w })
rows_stay r k ns ws w h = record { last = h.last; times = h.times; kept = h.kept }

variables_stay : (v : Variables) (k : Known) (w : List ℕ) → HoldsVariables v k → HoldsVariables v (record { codes = k.codes; names = k.names; widths = k.widths; events = k.events; word = w })
variables_stay v k w h = record { codes = h.codes; names = h.names; widths = h.widths; now = h.now; fit = h.fit }

-- Widths.

pub width_fits : (w : List ℕ) → is kind.Width w ≡ true → (1 ≤ decimal_value w) × (decimal_value w ≤ 128)
width_fits w h =
    let p = and_parts (is_number w) (nat_le 1 (decimal_value w) && nat_le (decimal_value w) 128) h in
    let q = and_parts (nat_le 1 (decimal_value w)) (nat_le (decimal_value w) 128) p.1 in
    let low : nat_le 1 (decimal_value w) ≡ true = q.0 in
    let high : nat_le (decimal_value w) 128 ≡ true = q.1 in
    (grind (arith, nat_tests), grind (arith, nat_tests))

pub within_is : (bits n m : ℕ) → within bits n ≡ Some m → m ≡ n
within_is bits n m e = at (nat_lt n (2 ^ bits)) e
  where
    at : (b : Bool) → (if b then Some n else None) ≡ Some m → m ≡ n
    at true f = cc
    at false f = cc

pub within_none : (bits n : ℕ) → within bits n ≡ None → 2 ^ bits ≤ n
within_none bits n e = at (nat_lt n (2 ^ bits)) refl e
  where
    at : (b : Bool) → nat_lt n (2 ^ bits) ≡ b → (if b then Some n else None) ≡ None → 2 ^ bits ≤ n
    at true f g = cc
    at false f g = grind (arith, nat_tests)

pub width_goes : (v after : Variables) (r : Rows) (w : List ℕ) (n : ℕ) (k : Known) → HoldsVariables v k → HoldsRows r k → is kind.Width w ≡ true → AddsWidth v after n → n ≡ decimal_value w → IsTaken kind.Width w k after r
width_goes v after r w n k h p i a e = (
  refl,
  record {
    codes = a.codes ∙ h.codes;
    names = a.names ∙ h.names;
    widths = a.widths ∙ (ap (λ z. z ++ (n ∷ [])) h.widths ∙ ap (λ z. k.widths ++ (z ∷ [])) e);
    now = a.now ∙ h.now;
    fit = each-append (λ z. (1 ≤ z) × (z ≤ 128)) k.widths (decimal_value w ∷ []) h.fit (width_fits w i, tt);
  },
  rows_stay r k k.names (k.widths ++ (decimal_value w ∷ [])) w p,
)

-- Codes and names.

pub code_again : (v after : Variables) (w : List ℕ) (again : Bool) (k : Known) → HoldsVariables v k → AddsCode v after w again → again ≡ true → judge kind.Code w k ≡ Here Repeated
code_again v after w again k h a e = ap (λ b. if b then Here Repeated else Fine) (ap (λ z. among z w) (sym h.codes) ∙ (sym a.is ∙ e))

pub code_goes : (v after : Variables) (r : Rows) (w : List ℕ) (again : Bool) (k : Known) → HoldsVariables v k → HoldsRows r k → AreGiven k.events k.codes → k.events ≡ [] → AddsCode v after w again → again ≡ false → IsTaken kind.Code w k after r
code_goes v after r w again k h p g none a e =
    let new : among k.codes w ≡ false = ap (λ z. among z w) (sym h.codes) ∙ (sym a.is ∙ e) in (
      ap (λ b. if b then Here Repeated else Fine) new,
      record {
        codes = a.codes ∙ (ap (λ b. if b then v.codes else v.codes ++ (w ∷ [])) e ∙ ap (λ z. z ++ (w ∷ [])) h.codes);
        names = a.names ∙ h.names;
        widths = a.widths ∙ h.widths;
        now = a.now ∙ (ap (λ b. if b then v.now else v.now ++ (None ∷ [])) e ∙ (ap (λ z. z ++ (None ∷ [])) h.now ∙ sym (declared k.events k.codes w g new)));
        fit = h.fit;
      },
      record {
        last = p.last;
        times = p.times;
        kept = subst (λ es. AreKept (k.codes ++ (w ∷ [])) es r.missing r.values) (sym none) (kept_code k.codes r.missing r.values w (subst (λ es. AreKept k.codes es r.missing r.values) none p.kept));
      },
    )

pub name_again : (v after : Variables) (w : List ℕ) (again : Bool) (k : Known) → HoldsVariables v k → AddsName v after w again → again ≡ true → judge kind.Name w k ≡ Here Repeated
name_again v after w again k h a e = ap (λ b. if b then Here Repeated else Fine) (ap (λ z. among z w) (sym h.names) ∙ (sym a.is ∙ e))

pub name_goes : (v after : Variables) (r : Rows) (w : List ℕ) (again : Bool) (k : Known) → HoldsVariables v k → HoldsRows r k → AddsName v after w again → again ≡ false → IsTaken kind.Name w k after r
name_goes v after r w again k h p a e =
    let new : among k.names w ≡ false = ap (λ z. among z w) (sym h.names) ∙ (sym a.is ∙ e) in (
      ap (λ b. if b then Here Repeated else Fine) new,
      record {
        codes = a.codes ∙ h.codes;
        names = a.names ∙ (ap (λ b. if b then v.names else v.names ++ (w ∷ [])) e ∙ ap (λ z. z ++ (w ∷ [])) h.names);
        widths = a.widths ∙ h.widths;
        now = a.now ∙ h.now;
        fit = h.fit;
      },
      rows_stay r k (k.names ++ (w ∷ [])) k.widths w p,
    )

-- Times.

abbrev came_verdict : Came → Verdict
came_verdict (Next t) = Fine
came_verdict Late = Here Untimely
came_verdict Many = Here Excessive

came_at : (last : Option ℕ) (n d m : ℕ) (b : Bool)
    → (if is_above last d && b then (if nat_lt n most_times && nat_le ((n + 1) * m) most_values then Fine else Here Excessive) else Here Untimely) ≡ came_verdict (came_by last n (if b then Some d else None) m)
came_at last n d m true = cases (is_above last d) (nat_lt n most_times && nat_le ((n + 1) * m) most_values)
  where
    cases : (a e : Bool) → (if a && true then (if e then Fine else Here Excessive) else Here Untimely) ≡ came_verdict (if a then (if e then Next d else Many) else Late)
    cases true true = refl
    cases true false = refl
    cases false e = refl
came_at last n d m false = cases (is_above last d)
  where
    cases : (a : Bool) → (if a && false then (if nat_lt n most_times && nat_le ((n + 1) * m) most_values then Fine else Here Excessive) else Here Untimely) ≡ Here Untimely
    cases true = refl
    cases false = refl

-- how a time comes, by what is kept
kept_came : (v : Variables) (r : Rows) (k : Known) (d n : ℕ) → HoldsVariables v k → HoldsRows r k → n ≡ length v.now → came_by r.last r.times (within 64 d) n ≡ came_by (last_or None (times k.events)) (length (times k.events)) (within 64 d) (length k.codes)
kept_came v r k d n h p e =
    let many : n ≡ length k.codes = e ∙ (ap length h.now ∙ length-map k.codes (last_given k.events)) in
    ap (λ z. came_by z r.times (within 64 d) n) p.last ∙ (ap (λ z. came_by (last_or None (times k.events)) z (within 64 d) n) p.times ∙ ap (came_by (last_or None (times k.events)) (length (times k.events)) (within 64 d)) many)

pub time_verdict : (v : Variables) (r : Rows) (k : Known) (w : List ℕ) (n : ℕ) (c : Came) → HoldsVariables v k → HoldsRows r k → n ≡ length v.now → c ≡ came_by r.last r.times (within 64 (decimal_value (drop 1 w))) n → judge kind.Time w k ≡ came_verdict c
time_verdict v r k w n c h p e f =
    let d = decimal_value (drop 1 w) in
    came_at (last_or None (times k.events)) (length (times k.events)) d (length k.codes) (nat_lt d (2 ^ 64)) ∙ ap came_verdict (sym (f ∙ kept_came v r k d n h p e))

next_at : (last : Option ℕ) (n d m t : ℕ) (b : Bool) → came_by last n (if b then Some d else None) m ≡ Next t → (t ≡ d) × (n < most_times)
next_at last n d m t false e = cc
next_at last n d m t true e = cases (is_above last d) (nat_lt n most_times) (nat_le ((n + 1) * m) most_values) refl e
  where
    cases : (a b c : Bool) → nat_lt n most_times ≡ b → (if a then (if b && c then Next d else Many) else Late) ≡ Next t → (t ≡ d) × (n < most_times)
    cases true true true f g = (cc, grind (arith, nat_tests))
    cases true true false f g = cc
    cases true false c f g = cc
    cases false b c f g = cc

pub next_is : (last : Option ℕ) (n d m t : ℕ) → Next t ≡ came_by last n (within 64 d) m → (t ≡ d) × (n < most_times)
next_is last n d m t e = next_at last n d m t (nat_lt d (2 ^ 64)) (sym e)

last_end : (o : Option ℕ) (ts : List ℕ) (t : ℕ) → last_or o (ts ++ (t ∷ [])) ≡ Some t
last_end o [] t = refl
last_end o (s ∷ ts) t = last_end (Some s) ts t

pub time_goes : (v : Variables) (r after : Rows) (w : List ℕ) (n t : ℕ) (k : Known) → HoldsVariables v k → HoldsRows r k → n ≡ length v.now → Next t ≡ came_by r.last r.times (within 64 (decimal_value (drop 1 w))) n → OneTimeMore r after v.now t → IsTaken kind.Time w k v after
time_goes v r after w n t k h p e f o =
    let d = decimal_value (drop 1 w) in
    let same : t ≡ d = (next_is r.last r.times d n t f).0 in
    let more_times : times (k.events ++ (Comes d ∷ [])) ≡ times k.events ++ (d ∷ []) = times-append k.events (Comes d ∷ []) in
    let kept = kept_time k.codes k.events d r.last r.missing r o.closed p.last refl p.kept (subst (λ z. ClosesAt r.last r.missing r o.closed z) h.now o.closes) in (
      time_verdict v r k w n (Next t) h p e f,
      record { codes = h.codes; names = h.names; widths = h.widths; now = h.now ∙ sym (timed k.events d k.codes); fit = h.fit },
      record {
        last = o.last ∙ (ap Some same ∙ (sym (last_end None (times k.events) d) ∙ ap (last_or None) (sym more_times)));
        times = o.times ∙ (ap (λ z. z + 1) p.times ∙ (sym (length-append (times k.events) (d ∷ [])) ∙ ap length (sym more_times)));
        kept = subst (λ z. AreKept k.codes (k.events ++ (Comes d ∷ [])) z after.values) (sym o.missing) (subst (λ z. AreKept k.codes (k.events ++ (Comes d ∷ [])) o.closed.missing z) (sym o.values) kept);
      },
    )

-- Changes.

-- where a code stands
code_at : (cs : List (List ℕ)) (c : List ℕ) → ((position (bytes_eq c) cs ≡ None) × (among cs c ≡ false)) ⊎ ((i : ℕ) × (position (bytes_eq c) cs ≡ Some i) × (i < length cs) × (among cs c ≡ true))
code_at cs c = go (nat_lt (prefix_len (λ x. not (bytes_eq c x)) cs) (length cs)) refl
  where
    inside : (cs : List (List ℕ)) → nat_lt (prefix_len (λ x. not (bytes_eq c x)) cs) (length cs) ≡ list_any (bytes_eq c) cs
    inside [] = refl
    inside (x ∷ cs) = at (bytes_eq c x) (inside cs)
      where
        at : (b : Bool) → nat_lt (prefix_len (λ x. not (bytes_eq c x)) cs) (length cs) ≡ list_any (bytes_eq c) cs
            → nat_lt (cond (not b) (1 + prefix_len (λ x. not (bytes_eq c x)) cs) 0) (suc (length cs)) ≡ (b || list_any (bytes_eq c) cs)
        at true ih = grind (arith, nat_tests)
        at false ih =
            let n = prefix_len (λ x. not (bytes_eq c x)) cs in
            let e : nat_lt (1 + n) (suc (length cs)) ≡ nat_lt n (length cs) = grind (arith, nat_tests) in
            e ∙ ih

    go : (b : Bool) → nat_lt (prefix_len (λ x. not (bytes_eq c x)) cs) (length cs) ≡ b → ((position (bytes_eq c) cs ≡ None) × (among cs c ≡ false)) ⊎ ((i : ℕ) × (position (bytes_eq c) cs ≡ Some i) × (i < length cs) × (among cs c ≡ true))
    go true e = inr (prefix_len (λ x. not (bytes_eq c x)) cs, ap (λ b. cond b (Some (prefix_len (λ x. not (bytes_eq c x)) cs)) None) e, grind (arith, nat_tests), sym (any_is cs c) ∙ (sym (inside cs) ∙ e))
    go false e = inl (ap (λ b. cond b (Some (prefix_len (λ x. not (bytes_eq c x)) cs)) None) e, sym (any_is cs c) ∙ (sym (inside cs) ∙ e))

abbrev scalar_verdict : Given → Verdict
scalar_verdict change.Taken = Fine
scalar_verdict change.Unknown = Here Unknown
scalar_verdict change.Unfit = Here Unfit

abbrev taker_verdict : Given → Verdict
taker_verdict change.Taken = Fine
taker_verdict change.Unknown = Here Unknown
taker_verdict change.Unfit = Before Unfit

-- a known bit is below 2
bit_small : (w : List ℕ) → list_all is_known_bit (take 1 w) ≡ true → digits_value 2 (take 1 w) < 2
bit_small [] h = omega arith
bit_small (b ∷ bs) h = elim (or-either (b == 48) (b == 49) (and_parts (b == 48 || b == 49) true h).0) [
  | inl e ↦ subst (λ z. digits_value 2 (z ∷ []) < 2) (sym (eq-same b 48 e)) (omega arith)
  | inr e ↦ subst (λ z. digits_value 2 (z ∷ []) < 2) (sym (eq-same b 49 e)) (omega arith)
]

one_bit_fits : (n wd : ℕ) → n < 2 → 1 ≤ wd → (nat_le wd 1 && (nat_lt n (2 ^ 128) && nat_lt n (2 ^ wd))) ≡ nat_le wd 1
one_bit_fits n wd small some = at (nat_le wd 1) refl
  where
    at : (b : Bool) → nat_le wd 1 ≡ b → (b && (nat_lt n (2 ^ 128) && nat_lt n (2 ^ wd))) ≡ b
    at false e = refl
    at true e =
        let one : wd ≡ 1 = grind (arith, nat_tests) in
        subst (λ z. (nat_lt n (2 ^ 128) && nat_lt n (2 ^ z)) ≡ true) (sym one) (both (nat_lt n (2 ^ 128)) (nat_lt n (2 ^ 1)) (grind (arith, nat_tests)) (grind (arith, nat_tests)))
      where
        both : (a b : Bool) → a ≡ true → b ≡ true → (a && b) ≡ true
        both a b p q = rw (p, q)

scalar_fits : (w : List ℕ) (wd : ℕ) → 1 ≤ wd → fits (bit_value w) wd 1 ≡ (list_all is_known_bit (take 1 w) && nat_le wd 1)
scalar_fits w wd some = at (list_all is_known_bit (take 1 w)) refl
  where
    at : (b : Bool) → list_all is_known_bit (take 1 w) ≡ b → fits (if b then Some (digits_value 2 (take 1 w)) else None) wd 1 ≡ (b && nat_le wd 1)
    at true e = one_bit_fits (digits_value 2 (take 1 w)) wd (bit_small w e) some
    at false e = refl

taker_fits : (n wd : ℕ) → wd ≤ 128 → fits (within 128 n) wd 128 ≡ nat_lt n (2 ^ wd)
taker_fits n wd wide = at (nat_lt n (2 ^ 128)) refl
  where
    high : 2 ^ wd ≤ 2 ^ 128
    high = pow-le-pow_right (omega arith) wide

    low : nat_le wd 128 ≡ true
    low = grind (arith, nat_tests)

    all_true : (a b c : Bool) → a ≡ true → b ≡ true → (a && (b && c)) ≡ c
    all_true a b c p q = rw (p, q)

    too_high : 2 ^ 128 ≤ n → false ≡ nat_lt n (2 ^ wd)
    too_high l = let m : 2 ^ wd ≤ n = omega (arith, high, l) in grind (arith, nat_tests)

    at : (b : Bool) → nat_lt n (2 ^ 128) ≡ b → fits (if b then Some n else None) wd 128 ≡ nat_lt n (2 ^ wd)
    at true e = all_true (nat_le wd 128) (nat_lt n (2 ^ 128)) (nat_lt n (2 ^ wd)) low e
    at false e = too_high (grind (arith, nat_tests))

-- the width of a variable that there is
module _ (v : Variables) (k : Known) (h : HoldsVariables v k) (whole : length k.widths ≡ length k.codes) where
  width_here : (i : ℕ) → i < length k.codes → (slice_get k.widths i ≡ Some (slice_index v.widths.items i)) × (1 ≤ slice_index v.widths.items i) × (slice_index v.widths.items i ≤ 128)
  width_here i l =
      let there : slice_get k.widths i ≡ Some (slice_index k.widths i) = slice_get-get_or k.widths i 0 (omega (arith, l, whole)) in
      let f = each-get (λ z. (1 ≤ z) × (z ≤ 128)) k.widths i (slice_index k.widths i) h.fit there in
      let same : slice_index k.widths i ≡ slice_index v.widths.items i = ap (λ z. slice_index z i) (sym h.widths) in
      (there ∙ ap Some same, subst (λ z. 1 ≤ z) same f.0, subst (λ z. z ≤ 128) same f.1)

  place_here : (c : List ℕ) (o : Option ℕ) → position (bytes_eq c) k.codes ≡ o → position (bytes_eq c) v.codes ≡ o
  place_here c o e = ap (position (bytes_eq c)) h.codes ∙ e

  pub scalar_is : (w : List ℕ) → judge kind.Scalar w k ≡ scalar_verdict (given_by v (drop 1 w) (bit_value w) 1)
  scalar_is w = elim (code_at k.codes (drop 1 w)) [
    | inl p ↦ ap (λ b. if b then (if list_all is_known_bit (take 1 w) && is_one_bit (width_in k (drop 1 w)) then Fine else Here Unfit) else Here Unknown) p.1
        ∙ ap (λ o. scalar_verdict (given_at v o (bit_value w) 1)) (sym (place_here (drop 1 w) None p.0))
    | inr p ↦
        let f = width_here p.0 p.2 in
        let wd : width_in k (drop 1 w) ≡ Some (slice_index v.widths.items p.0) = ap (option_and_then (λ i. slice_get k.widths i)) p.1 ∙ f.0 in
        ap (λ b. if b then (if list_all is_known_bit (take 1 w) && is_one_bit (width_in k (drop 1 w)) then Fine else Here Unfit) else Here Unknown) p.3
        ∙ (ap (λ o. if list_all is_known_bit (take 1 w) && is_one_bit o then Fine else Here Unfit) wd
        ∙ (ap (λ b. if b then Fine else Here Unfit) (sym (scalar_fits w (slice_index v.widths.items p.0) f.1))
        ∙ (turn (fits (bit_value w) (slice_index v.widths.items p.0) 1) ∙ ap (λ o. scalar_verdict (given_at v o (bit_value w) 1)) (sym (place_here (drop 1 w) (Some p.0) p.1)))))
  ]
    where
      turn : (b : Bool) → (if b then Fine else Here Unfit) ≡ scalar_verdict (if b then change.Taken else change.Unfit)
      turn true = refl
      turn false = refl

  pub taker_is : (w : List ℕ) → judge kind.Taker w k ≡ taker_verdict (given_by v w (within 128 (digits_value 2 (drop 1 k.word))) 128)
  taker_is w =
      let n = digits_value 2 (drop 1 k.word) in
      elim (code_at k.codes w) [
        | inl p ↦ ap (λ b. if b then (if holds (width_in k w) n then Fine else Before Unfit) else Here Unknown) p.1 ∙ ap (λ o. taker_verdict (given_at v o (within 128 n) 128)) (sym (place_here w None p.0))
        | inr p ↦
            let f = width_here p.0 p.2 in
            let wd : width_in k w ≡ Some (slice_index v.widths.items p.0) = ap (option_and_then (λ i. slice_get k.widths i)) p.1 ∙ f.0 in
            ap (λ b. if b then (if holds (width_in k w) n then Fine else Before Unfit) else Here Unknown) p.3
            ∙ (ap (λ o. if holds o n then Fine else Before Unfit) wd
            ∙ (ap (λ b. if b then Fine else Before Unfit) (sym (taker_fits n (slice_index v.widths.items p.0) f.2))
            ∙ (turn (fits (within 128 n) (slice_index v.widths.items p.0) 128) ∙ ap (λ o. taker_verdict (given_at v o (within 128 n) 128)) (sym (place_here w (Some p.0) p.1)))))
      ]
    where
      turn : (b : Bool) → (if b then Fine else Before Unfit) ≡ taker_verdict (if b then change.Taken else change.Unfit)
      turn true = refl
      turn false = refl

  -- what was taken is the number
  taken_value : (c : List ℕ) (value : Option ℕ) (most : ℕ) → given_by v c value most ≡ change.Taken → (i : ℕ) × (n : ℕ) × (position (bytes_eq c) k.codes ≡ Some i) × (value ≡ Some n)
  taken_value c value most e = elim (code_at k.codes c) [
    | inl p ↦ (let no : change.Unknown ≡ change.Taken = ap (λ o. given_at v o value most) (sym (place_here c None p.0)) ∙ e in cc)
    | inr p ↦
        let yes : (if fits value (slice_index v.widths.items p.0) most then change.Taken else change.Unfit) ≡ change.Taken = ap (λ o. given_at v o value most) (sym (place_here c (Some p.0) p.1)) ∙ e in
        let n = some_value value (slice_index v.widths.items p.0) yes in
        (p.0, n.0, p.1, n.1)
  ]
    where
      some_value : (o : Option ℕ) (wd : ℕ) → (if fits o wd most then change.Taken else change.Unfit) ≡ change.Taken → (n : ℕ) × (o ≡ Some n)
      some_value (Some n) wd f = (n, refl)
      some_value None wd f = cc

  -- the variables with one value more
  pub changed : (after : Variables) (c w : List ℕ) (value : Option ℕ) (most n : ℕ) → AreApart k.codes → given_by v c value most ≡ change.Taken → Changes v after c value change.Taken → ((m : ℕ) → value ≡ Some m → m ≡ n)
      → HoldsVariables after (record { codes = k.codes; names = k.names; widths = k.widths; events = k.events ++ (Gives c n ∷ []); word = w })
  changed after c w value most n apart e g is =
      let t = taken_value c value most e in
      let m : value ≡ Some n = t.3 ∙ ap Some (is t.1 t.3) in
      record {
        codes = g.0 ∙ h.codes;
        names = g.1 ∙ h.names;
        widths = ap (λ z. z.items) g.2 ∙ h.widths;
        now = g.3
            ∙ (ap (λ o. now_with v o value) (place_here c (Some t.0) t.2)
            ∙ (ap (λ z. set z t.0 value) h.now ∙ (ap (set (map (last_given k.events) k.codes) t.0) m ∙ sym (given_in_order k.events c n k.codes t.0 apart t.2))));
        fit = h.fit;
      }

pub rows_given : (r : Rows) (k : Known) (c w : List ℕ) (n : ℕ) → HoldsRows r k → HoldsRows r (record { codes = k.codes; names = k.names; widths = k.widths; events = k.events ++ (Gives c n ∷ []); word = w })
rows_given r k c w n h =
    let t : times (k.events ++ (Gives c n ∷ [])) ≡ times k.events = times-append k.events (Gives c n ∷ []) ∙ append-nil (times k.events) in
    record { last = h.last ∙ ap (last_or None) (sym t); times = h.times ∙ ap length (sym t); kept = kept_given k.codes k.events r.missing r.values c n h.kept }

pub scalar_told : (v : Variables) (k : Known) (w c : List ℕ) (value : Option ℕ) (g : Given) → HoldsVariables v k → length k.widths ≡ length k.codes → c ≡ drop 1 w → value ≡ bit_value w → g ≡ given_by v c value 1 → judge kind.Scalar w k ≡ scalar_verdict g
scalar_told v k w c value g h whole p q e = scalar_is v k h whole w ∙ ap scalar_verdict (sym (e ∙ (ap (λ z. given_by v z value 1) p ∙ ap (λ z. given_by v (drop 1 w) z 1) q)))

pub taker_told : (v : Variables) (k : Known) (w : List ℕ) (value : Option ℕ) (g : Given) → HoldsVariables v k → length k.widths ≡ length k.codes → value ≡ within 128 (digits_value 2 (drop 1 k.word)) → g ≡ given_by v w value 128 → judge kind.Taker w k ≡ taker_verdict g
taker_told v k w value g h whole q e = taker_is v k h whole w ∙ ap taker_verdict (sym (e ∙ ap (λ z. given_by v w z 128) q))

pub scalar_goes : (v after : Variables) (r : Rows) (w c : List ℕ) (value : Option ℕ) (k : Known) → HoldsVariables v k → HoldsRows r k → length k.widths ≡ length k.codes → AreApart k.codes → c ≡ drop 1 w → value ≡ bit_value w
    → change.Taken ≡ given_by v c value 1 → Changes v after c value change.Taken → IsTaken kind.Scalar w k after r
scalar_goes v after r w c value k h p whole apart s q t x =
    let e : given_by v (drop 1 w) (bit_value w) 1 ≡ change.Taken = sym (t ∙ (ap (λ z. given_by v z value 1) s ∙ ap (λ z. given_by v (drop 1 w) z 1) q)) in
    let g : Changes v after (drop 1 w) (bit_value w) change.Taken = subst (λ z. Changes v after (drop 1 w) z change.Taken) q (subst (λ z. Changes v after z value change.Taken) s x) in
    (scalar_is v k h whole w ∙ ap scalar_verdict e, changed v k h whole after (drop 1 w) w (bit_value w) 1 (digits_value 2 (take 1 w)) apart e g is_value, rows_given r k (drop 1 w) w (digits_value 2 (take 1 w)) p)
  where
    is_value : (m : ℕ) → bit_value w ≡ Some m → m ≡ digits_value 2 (take 1 w)
    is_value m f = at (list_all is_known_bit (take 1 w)) f
      where
        at : (b : Bool) → (if b then Some (digits_value 2 (take 1 w)) else None) ≡ Some m → m ≡ digits_value 2 (take 1 w)
        at true x = cc
        at false x = cc

pub taker_goes : (v after : Variables) (r : Rows) (w : List ℕ) (value : Option ℕ) (k : Known) → HoldsVariables v k → HoldsRows r k → length k.widths ≡ length k.codes → AreApart k.codes → value ≡ within 128 (digits_value 2 (drop 1 k.word))
    → given_by v w value 128 ≡ change.Taken → Changes v after w value change.Taken → IsTaken kind.Taker w k after r
taker_goes v after r w value k h p whole apart is e g =
    let n = digits_value 2 (drop 1 k.word) in
    (taker_is v k h whole w ∙ (ap (λ o. taker_verdict (given_by v w o 128)) (sym is) ∙ ap taker_verdict e), changed v k h whole after w w value 128 n apart e g (λ m f. within_is 128 n m (sym is ∙ f)), rows_given r k w w n p)

-- Bits and all other words.

pub bits_go : (v : Variables) (r : Rows) (w : List ℕ) (k : Known) → HoldsVariables v k → HoldsRows r k → list_all is_known_bit (drop 1 w) ≡ true → IsTaken kind.Bits w k v r
bits_go v r w k h p e = (ap (λ b. if b then Fine else Here Unfit) e, variables_stay v k w h, rows_stay r k k.names k.widths w p)

pub other_goes : (x : Kind) (v : Variables) (r : Rows) (w : List ℕ) (k : Known) → (x ≡ kind.Width → ⊥) → (x ≡ kind.Code → ⊥) → (x ≡ kind.Name → ⊥) → (x ≡ kind.Time → ⊥) → (x ≡ kind.Scalar → ⊥) → (x ≡ kind.Bits → ⊥) → (x ≡ kind.Taker → ⊥)
    → HoldsVariables v k → HoldsRows r k → IsTaken x w k v r
other_goes kind.Width v r w k a b c d e f g h p = absurd (a refl)
other_goes kind.Code v r w k a b c d e f g h p = absurd (b refl)
other_goes kind.Name v r w k a b c d e f g h p = absurd (c refl)
other_goes kind.Time v r w k a b c d e f g h p = absurd (d refl)
other_goes kind.Scalar v r w k a b c d e f g h p = absurd (e refl)
other_goes kind.Bits v r w k a b c d e f g h p = absurd (f refl)
other_goes kind.Taker v r w k a b c d e f g h p = absurd (g refl)
other_goes kind.Heading v r w k a b c d e f g h p = (refl, variables_stay v k w h, rows_stay r k k.names k.widths w p)
other_goes kind.Said v r w k a b c d e f g h p = (refl, variables_stay v k w h, rows_stay r k k.names k.widths w p)
other_goes kind.End v r w k a b c d e f g h p = (refl, variables_stay v k w h, rows_stay r k k.names k.widths w p)
other_goes kind.Scope v r w k a b c d e f g h p = (refl, variables_stay v k w h, rows_stay r k k.names k.widths w p)
other_goes kind.ScopeKind v r w k a b c d e f g h p = (refl, variables_stay v k w h, rows_stay r k k.names k.widths w p)
other_goes kind.ScopeName v r w k a b c d e f g h p = (refl, variables_stay v k w h, rows_stay r k k.names k.widths w p)
other_goes kind.Upscope v r w k a b c d e f g h p = (refl, variables_stay v k w h, rows_stay r k k.names k.widths w p)
other_goes kind.Var v r w k a b c d e f g h p = (refl, variables_stay v k w h, rows_stay r k k.names k.widths w p)
other_goes kind.NetKind v r w k a b c d e f g h p = (refl, variables_stay v k w h, rows_stay r k k.names k.widths w p)
other_goes kind.Range v r w k a b c d e f g h p = (refl, variables_stay v k w h, rows_stay r k k.names k.widths w p)
other_goes kind.EndDefinitions v r w k a b c d e f g h p = (refl, variables_stay v k w h, rows_stay r k k.names k.widths w p)
other_goes kind.DumpVars v r w k a b c d e f g h p = (refl, variables_stay v k w h, rows_stay r k k.names k.widths w p)
other_goes kind.Comment v r w k a b c d e f g h p = (refl, variables_stay v k w h, rows_stay r k k.names k.widths w p)
