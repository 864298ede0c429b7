-- What the decoding of two halves says of the whole.
use Rattle.std.proofs.Common.{◌≡◌, ℕ, zero, suc, ◌+◌, ◌-◌, ◌*◌, ◌%◌, ◌^◌, ◌<◌, ◌≤◌, ◌==◌, Bool, true, false, ◌||◌, nat_lt, eqb-true, lt-ltb, get_or, if◌then◌else◌, Option, Some, None, List, [], ◌∷◌, length, refl, ap, sym, ◌∙◌, subst, arith, inl, inr, ◌⊎◌}
use Rattle.std.specs.List.{list_any, slice_get, position, position_or_len}
use Rattle.std.specs.Option.{unwrap_or}
use Rattle.std.specs.List.Sorted.{IsStrictlyIncreasing}
use Rattle.std.proofs.lemmas.Nat.{pow_pos}
use Rattle.std.proofs.Math.Nat.{mod-lt, mod-one, mod-eq_of_lt}
use Rattle.plain_lemmas.proofs.Numbers.{below-two as below_two}
use Rattle.rb_base.specs.Bits.{part}
use Rattle.rtl_net.specs.Value.{At, bit_of}
use Rattle.rtl_net.specs.Net.{Net, Settles, Grows, IsNode, Stands}
use Rattle.rtl_net.specs.declared.node.Id.{Id}
use Rattle.rtl_net.proofs.Nets.{fits_at, Stands-grows}
use Rattle.gen_decode.specs.declared.words.Decoded.{Decoded}
use Rattle.gen_decode.specs.Among.{AreWithin, IsCut, MayDecode, hit_of, IsAmong, IsJoined}
use Rattle.gen_decode.proofs.Halves.{which_half, left_within, right_within, any_halved, by_top_bit, top_bit, single}

pub MayDecode-grows : (a b : Net) (d : Option Decoded) → Grows a b → MayDecode a d → MayDecode b d
MayDecode-grows a b None p h = tt
MayDecode-grows a b (Some d) p h = (Stands-grows a b d.hit 1 p h.0, Stands-grows a b d.word 16 p h.1)

pub IsAmong-grows : (a b : Net) (d : Option Decoded) (address : Id) (words : List ℕ) (first base bits : ℕ) → Grows a b → IsAmong a d address words first base bits → IsAmong b d address words first base bits
IsAmong-grows a b d address words first base bits p h = record {
  some = h.some;
  stands = MayDecode-grows a b d p h.stands;
  hit = λ x s. h.hit x (p.settles x s);
  word = λ x s. h.word x (p.settles x s);
}

-- no word
pub none_among : (net : Net) (address : Id) (words : List ℕ) (first base bits : ℕ) → length words ≡ 0 → IsAmong net None address words first base bits
none_among net address [] first base bits e = record { some = λ h. absurd (omega arith); stands = tt; hit = λ x s. refl; word = λ x s i w g. absurd (cc) }
none_among net address (w ∷ ws) first base bits e = absurd (omega arith)

-- one word
pub last_among : (net : Net) (d : Decoded) (address : Id) (words : List ℕ) (first base : ℕ) → IsStrictlyIncreasing words → AreWithin base 0 words → 0 < length words
    → IsNode net d.hit 1 (λ x. 1) → IsNode net d.word 16 (λ x. first) → IsAmong net (Some d) address words first base 0
last_among net d address words first base up within some hit word =
    let P : List ℕ → Type 0 = λ ws. IsAmong net (Some d) address ws first base 0 in
    subst P (sym (single words base up within some)) (record {
      some = λ h. refl;
      stands = (hit.stands, word.stands);
      hit = λ x s.
          let z : x.node address.0 % 2 ^ 0 ≡ 0 = mod-one (x.node address.0) in
          let y : base - base ≡ 0 = omega arith in
          hit.value x s ∙ rw (z, y) refl;
      word = λ x s i w e m. word.value x s ∙ at_first i w e;
    })
  where
    at_first : (i w : ℕ) → slice_get (base ∷ []) i ≡ Some w → first ≡ first + i
    at_first zero w e = omega arith
    at_first (suc i) w e = cc

module _ (net : Net) (d : Decoded) (bit address : Id) (low high : Option Decoded) (words left right : List ℕ) (first base half : ℕ)
    (cut : IsCut words left right (base + 2 ^ half)) (within : AreWithin base (half + 1) words)
    (bits : IsNode net bit 1 (λ x. part (x.node address.0) half half))
    (lows : IsAmong net low address left first base half) (highs : IsAmong net high address right (first + length left) (base + 2 ^ half) half)
    (joined : IsJoined net d bit low high) where
  hits : (x : At) → Settles net x → x.node d.hit.0 ≡ bit_of (list_any (λ w. x.node address.0 % 2 ^ (half + 1) == w - base) words)
  hits x s =
      let v = x.node address.0 in
      let h : (l r : Bool) (c : Bool) → hit_of x low ≡ bit_of l → hit_of x high ≡ bit_of r → (if c then hit_of x high else hit_of x low) ≡ bit_of (if c then r else l)
      = λ l r c e f. elim c as (λ c. (if c then hit_of x high else hit_of x low) ≡ bit_of (if c then r else l)) [ true ↦ f | false ↦ e ] in
      joined.hit x s
      ∙ h (list_any (λ w. v % 2 ^ half == w - base) left) (list_any (λ w. v % 2 ^ half == w - (base + 2 ^ half)) right) (x.node bit.0 == 1) (lows.hit x s) (highs.hit x s)
      ∙ ap (λ t. bit_of (if t == 1 then list_any (λ w. v % 2 ^ half == w - (base + 2 ^ half)) right else list_any (λ w. v % 2 ^ half == w - base) left)) (bits.value x s)
      ∙ ap bit_of (sym (any_halved words left right base half cut within (part v half half) (v % 2 ^ half) (top_bit v half) (mod-lt v (pow_pos half))))
      ∙ ap (λ t. bit_of (list_any (λ w. t == w - base) words)) (sym (by_top_bit v half))

  -- the half that an entry stands in is the bit's
  low_half : (v w : ℕ) → base ≤ w → w < base + 2 ^ half → v % 2 ^ (half + 1) ≡ w - base → (part v half half ≡ 0) × (v % 2 ^ half ≡ w - base)
  low_half v w a b e =
      let t = by_top_bit v half in
      elim (below_two (part v half half) (top_bit v half)) [
        | inl z ↦ (z, let q : part v half half * 2 ^ half ≡ 0 = ap (λ t. t * 2 ^ half) z ∙ omega arith in omega arith)
        | inr z ↦ let q : part v half half * 2 ^ half ≡ 2 ^ half = ap (λ t. t * 2 ^ half) z ∙ omega arith in absurd (omega arith)
      ]

  high_half : (v w : ℕ) → base + 2 ^ half ≤ w → v % 2 ^ (half + 1) ≡ w - base → (part v half half ≡ 1) × (v % 2 ^ half ≡ w - (base + 2 ^ half))
  high_half v w a e =
      let t = by_top_bit v half in
      let l : v % 2 ^ half < 2 ^ half = mod-lt v (pow_pos half) in
      elim (below_two (part v half half) (top_bit v half)) [
        | inl z ↦ let q : part v half half * 2 ^ half ≡ 0 = ap (λ t. t * 2 ^ half) z ∙ omega arith in absurd (omega arith)
        | inr z ↦ (z, let q : part v half half * 2 ^ half ≡ 2 ^ half = ap (λ t. t * 2 ^ half) z ∙ omega arith in omega arith)
      ]

  words_at : (x : At) → Settles net x → (i w : ℕ) → slice_get words i ≡ Some w → x.node address.0 % 2 ^ (half + 1) ≡ w - base → x.node d.word.0 ≡ first + i
  words_at x s i w e m = elim (which_half left right i w (ap (λ xs. slice_get xs i) (sym cut.whole) ∙ e)) [
    | inl h ↦
        let within_left = (left_within words left right base half cut within).each i w h.1 in
        let p = low_half (x.node address.0) w within_left.low within_left.high m in
        let some : 0 < length left = (let l = h.0 in omega arith) in
        joined.low_word x s (bits.value x s ∙ p.0) (lows.some some) ∙ lows.word x s i w h.1 p.1
    | inr r ↦
        let within_right = (right_within words left right base half cut within).each r.0 w r.2 in
        let p = high_half (x.node address.0) w within_right.low m in
        let some : 0 < length right = slice_get-some right r.0 w r.2 in
        joined.high_word x s (bits.value x s ∙ p.0) (highs.some some) ∙ highs.word x s r.0 w r.2 p.1 ∙ (let q = r.1 in omega arith)
  ]
    where
      slice_get-some : (ws : List ℕ) (i w : ℕ) → slice_get ws i ≡ Some w → 0 < length ws
      slice_get-some [] i w e = cc
      slice_get-some (x ∷ xs) i w e = omega arith

  pub joined_among : IsAmong net (Some d) address words first base (half + 1)
  joined_among = record { some = λ h. refl; stands = joined.stands; hit = hits; word = words_at }

-- The first word at an address

first_or_none : (p : ℕ → Bool) (words : List ℕ) → ((list_any p words ≡ false) × (position_or_len p words ≡ length words))
    ⊎ ((w : ℕ) × (slice_get words (position_or_len p words) ≡ Some w) × (p w ≡ true) × (list_any p words ≡ true) × (position_or_len p words < length words))
first_or_none p [] = inl (refl, refl)
first_or_none p (w ∷ ws) = by (first_or_none p ws) (p w) refl
  where
    by : ((list_any p ws ≡ false) × (position_or_len p ws ≡ length ws)) ⊎ ((v : ℕ) × (slice_get ws (position_or_len p ws) ≡ Some v) × (p v ≡ true) × (list_any p ws ≡ true) × (position_or_len p ws < length ws))
        → (c : Bool) → p w ≡ c → ((list_any p (w ∷ ws) ≡ false) × (position_or_len p (w ∷ ws) ≡ length (w ∷ ws)))
        ⊎ ((v : ℕ) × (slice_get (w ∷ ws) (position_or_len p (w ∷ ws)) ≡ Some v) × (p v ≡ true) × (list_any p (w ∷ ws) ≡ true) × (position_or_len p (w ∷ ws) < length (w ∷ ws)))
    by rest true e = inr (w, rw e refl, e, rw e refl, rw e (omega arith))
    by rest false e = elim rest [
      | inl n ↦ inl (rw e n.0, rw e (let m = n.1 in omega arith))
      | inr f ↦
          let next : 1 + position_or_len p ws ≡ suc (position_or_len p ws) = omega arith in
          inr (f.0, rw (e, next) f.1, f.2, rw e f.3, rw e (let l = f.4 in omega arith))
    ]

-- the number of the word at an address of 32 bits
pub word_is : (net : Net) (found : Decoded) (address none id : Id) (words : List ℕ) → Stands net address 32 → ((i : ℕ) → get_or words i 0 < 2 ^ 32)
    → IsAmong net (Some found) address words 0 0 32 → IsNode net none 16 (λ x. 0)
    → IsNode net id 16 (λ x. if x.node found.hit.0 == 1 then x.node found.word.0 else x.node none.0)
    → IsNode net id 16 (λ x. unwrap_or (position (λ w. x.node address.0 == w) words) 0)
word_is net found address none id words stands fit among zeros node = record { stands = node.stands; value = λ x s. node.value x s ∙ at x s (first_or_none (λ w. x.node address.0 == w) words) }
  where
    low : (x : At) → Settles net x → x.node address.0 % 2 ^ 32 ≡ x.node address.0
    low x s = mod-eq_of_lt (fits_at net x address 32 s stands)

    same : (a : ℕ) (ws : List ℕ) → list_any (λ w. a == w - 0) ws ≡ list_any (λ w. a == w) ws
    same a [] = refl
    same a (w ∷ ws) = let z : w - 0 ≡ w = omega arith in ap (λ t. (a == t) || list_any (λ w. a == w - 0) ws) z ∙ ap (λ t. (a == w) || t) (same a ws)

    hit : (x : At) → Settles net x → x.node found.hit.0 ≡ bit_of (list_any (λ w. x.node address.0 == w) words)
    hit x s = among.hit x s ∙ ap (λ t. bit_of (list_any (λ w. t == w - 0) words)) (low x s) ∙ ap bit_of (same (x.node address.0) words)

    at : (x : At) → Settles net x → ((list_any (λ w. x.node address.0 == w) words ≡ false) × (position_or_len (λ w. x.node address.0 == w) words ≡ length words))
        ⊎ ((w : ℕ) × (slice_get words (position_or_len (λ w. x.node address.0 == w) words) ≡ Some w) × ((x.node address.0 == w) ≡ true) × (list_any (λ w. x.node address.0 == w) words ≡ true) × (position_or_len (λ w. x.node address.0 == w) words < length words))
        → (if x.node found.hit.0 == 1 then x.node found.word.0 else x.node none.0) ≡ unwrap_or (position (λ w. x.node address.0 == w) words) 0
    at x s (inl n) =
        let h : x.node found.hit.0 ≡ 0 = hit x s ∙ ap bit_of n.0 in
        let z : x.node none.0 ≡ 0 = zeros.value x s in
        let t : nat_lt (length words) (length words) ≡ false = grind arith in
        let q = n.1 in
        rw (h, z, q, t) refl
    at x s (inr f) =
        let h : x.node found.hit.0 ≡ 1 = hit x s ∙ ap bit_of f.3 in
        let e : x.node address.0 ≡ f.0 = eqb-true (x.node address.0) f.0 f.2 in
        let m : x.node address.0 % 2 ^ 32 ≡ f.0 - 0 = low x s ∙ e ∙ (let z : f.0 ≡ f.0 - 0 = omega arith in z) in
        let i = position_or_len (λ w. x.node address.0 == w) words in
        let w : x.node found.word.0 ≡ 0 + i = among.word x s i f.0 f.1 m in
        let z : 0 + i ≡ i = omega arith in
        let t : nat_lt i (length words) ≡ true = lt-ltb i (length words) f.4 in
        let r : (if x.node found.hit.0 == 1 then x.node found.word.0 else x.node none.0) ≡ i = rw h (w ∙ z) in
        r ∙ rw t refl
