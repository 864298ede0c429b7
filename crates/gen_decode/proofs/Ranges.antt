-- What the words of a range have in common, and what decoding a part of it says of the whole.
use Rattle.std.proofs.Common.{◌≡◌, ℕ, zero, suc, ◌+◌, ◌-◌, ◌*◌, ◌/◌, ◌%◌, ◌^◌, ◌<◌, ◌≤◌, ◌==◌, Bool, true, false, get_or, if◌then◌else◌, Option, Some, List, [], ◌∷◌, length, refl, ap, sym, ◌∙◌, subst, arith, inl, inr, ◌⊎◌}
use Rattle.std.specs.List.{list_any, slice_get}
use Rattle.std.specs.List.Sorted.{IsStrictlyIncreasing}
use Rattle.std.proofs.lemmas.Nat.{mod-pow-add, pow-add, pow_pos, same_from_place, div_below, div-add-mod', mod-mul-add}
use Rattle.std.proofs.lemmas.Option.{get_or_from_slice_get}
use Rattle.std.proofs.Math.Nat.{mod-lt, mod-eq_of_lt, mul-le-mul_left, pow-le-pow_right}
use Rattle.rb_base.specs.Bits.{part}
use Rattle.rtl_net.proofs.Places.{slice_get-within}
use Rattle.rtl_net.specs.Value.{At, bit_of}
use Rattle.rtl_net.specs.Net.{Net, Settles, IsNode}
use Rattle.rtl_net.specs.declared.node.Id.{Id}
use Rattle.gen_decode.specs.declared.runs.Run.{Run}
use Rattle.gen_decode.specs.declared.words.Decoded.{Decoded}
use Rattle.gen_decode.specs.Among.{AreWithin, IsWithin, IsAmong, IsNarrowed, hit_of, word_of}
use Rattle.gen_decode.specs.Runs.{IsEven, IsRun}
use Rattle.gen_decode.proofs.Halves.{any_same, any_where}
use Rattle.gen_decode.proofs.Spans.{any_even, between, run_entry}
use Rattle.plain_lemmas.proofs.Lists.{get_or-not_below as rises}

slice_get_at : (ws : List ℕ) (i : ℕ) → i < length ws → slice_get ws i ≡ Some (get_or ws i 0)
slice_get_at [] i l = absurd (omega arith)
slice_get_at (w ∷ ws) zero l = refl
slice_get_at (w ∷ ws) (suc i) l = slice_get_at ws i (omega arith)

-- a word at a place of the range's
pub within_at : (words : List ℕ) (base bits i : ℕ) → AreWithin base bits words → i < length words → IsWithin base bits (get_or words i 0)
within_at words base bits i h l = h.each i (get_or words i 0) (slice_get_at words i l)

-- upper bits of a number of so many bits
pub top_fits : (x bits low : ℕ) → low ≤ bits → x < 2 ^ bits → x / 2 ^ low < 2 ^ (bits - low)
top_fits x bits low l h =
    let e : 2 ^ (bits - low) * 2 ^ low ≡ 2 ^ bits = sym (pow-add 2 (bits - low) low) ∙ ap (λ n. 2 ^ n) (let n : bits - low + low ≡ bits = omega arith in n) in
    div_below x (2 ^ low) (2 ^ (bits - low)) (pow_pos low) (omega arith)

-- the words share the upper bits that their first and their last have
pub shared_above : (words : List ℕ) (base bits low : ℕ) → IsStrictlyIncreasing words → AreWithin base bits words
    → (get_or words 0 0 - base) / 2 ^ low ≡ (get_or words (length words - 1) 0 - base) / 2 ^ low
    → AreWithin (base + (get_or words 0 0 - base) / 2 ^ low * 2 ^ low) low words
shared_above words base bits low up within agree = record { each = λ i w e. each i w e (within.each i w e) }
  where
    each : (i w : ℕ) → slice_get words i ≡ Some w → IsWithin base bits w → IsWithin (base + (get_or words 0 0 - base) / 2 ^ low * 2 ^ low) low w
    each i w e h =
        let inside : i < length words = slice_get-within words i w e in
        let is : get_or words i 0 ≡ w = get_or_from_slice_get words i w 0 e in
        let first : get_or words 0 0 ≤ get_or words (0 + i) 0 = rises words up 0 i (omega arith) in
        let zero_more : 0 + i ≡ i = omega arith in
        let first_is : get_or words (0 + i) 0 ≡ get_or words i 0 = ap (λ k. get_or words k 0) zero_more in
        let last : get_or words i 0 ≤ get_or words (i + (length words - 1 - i)) 0 = rises words up i (length words - 1 - i) (omega arith) in
        let to_end : i + (length words - 1 - i) ≡ length words - 1 = omega arith in
        let last_is : get_or words (i + (length words - 1 - i)) 0 ≡ get_or words (length words - 1) 0 = ap (λ k. get_or words k 0) to_end in
        let least = within_at words base bits 0 within (omega arith) in
        let low_end = h.low in
        let top : (w - base) / 2 ^ low ≡ (get_or words 0 0 - base) / 2 ^ low = between low (get_or words 0 0 - base) (w - base) (get_or words (length words - 1) 0 - base) (omega arith) (omega arith) agree in
        let whole : (w - base) / 2 ^ low * 2 ^ low + (w - base) % 2 ^ low ≡ w - base = div-add-mod' (w - base) (2 ^ low) in
        let same : (w - base) / 2 ^ low * 2 ^ low ≡ (get_or words 0 0 - base) / 2 ^ low * 2 ^ low = ap (λ n. n * 2 ^ low) top in
        let rest : (w - base) % 2 ^ low < 2 ^ low = mod-lt (w - base) (pow_pos low) in
        record { low = omega arith; high = omega arith }

-- upper bits put back at their place
pub raised_back : (x low : ℕ) → x < 2 ^ 32 → x / 2 ^ low * 2 ^ low % 2 ^ 32 ≡ x / 2 ^ low * 2 ^ low
raised_back x low l =
    let whole : x / 2 ^ low * 2 ^ low + x % 2 ^ low ≡ x = div-add-mod' x (2 ^ low) in
    let fits : x / 2 ^ low * 2 ^ low < 2 ^ 32 = omega arith in
    mod-eq_of_lt fits

pub run_is : (words : List ℕ) (base bits : ℕ) (run : Run) → IsStrictlyIncreasing words → AreWithin base bits words → 0 < length words → run.low < bits
    → run.top ≡ (get_or words 0 0 - base) / 2 ^ run.low → run.base ≡ base + run.top * 2 ^ run.low
    → (get_or words 0 0 - base) / 2 ^ run.low ≡ (get_or words (length words - 1) 0 - base) / 2 ^ run.low → IsRun words base bits run
run_is words base bits run up within some shorter top lowest agree =
    let at : run.base ≡ base + (get_or words 0 0 - base) / 2 ^ run.low * 2 ^ run.low = lowest ∙ ap (λ n. base + n * 2 ^ run.low) top in
    let first = within_at words base bits 0 within some in
    let a = first.low in
    let b = first.high in
    let fits : (get_or words 0 0 - base) / 2 ^ run.low < 2 ^ (bits - run.low) = top_fits (get_or words 0 0 - base) bits run.low (omega arith) (omega arith) in
    record {
      shorter = shorter;
      fits = omega arith;
      lowest = lowest;
      within = subst (λ n. AreWithin n run.low words) (sym at) (shared_above words base bits run.low up within agree);
    }

-- the addresses that have a run are within the range
pub run_room : (words : List ℕ) (base bits end : ℕ) (run : Run) → IsRun words base bits run → base + 2 ^ bits ≤ end → run.base + 2 ^ run.low ≤ end
run_room words base bits end run shared room =
    let shorter = shared.shorter in
    let lowest = shared.lowest in
    let fits : run.top + 1 ≤ 2 ^ (bits - run.low) = (let f = shared.fits in omega arith) in
    let e : bits - run.low + run.low ≡ bits = omega arith in
    let whole : 2 ^ (bits - run.low) * 2 ^ run.low ≡ 2 ^ bits = sym (pow-add 2 (bits - run.low) run.low) ∙ ap (λ n. 2 ^ n) e in
    let most : 2 ^ run.low * (run.top + 1) ≤ 2 ^ run.low * 2 ^ (bits - run.low) = mul-le-mul_left (2 ^ run.low) fits in
    omega arith

-- so many words have numbers of 16 bits
pub few_index : (index count : ℕ) → count ≡ 2 ^ index → count ≤ 65536 → index ≤ 16
few_index index count e few = elim (split index) [
  | inl l ↦ omega arith
  | inr l ↦ let p : 2 ^ 17 ≤ 2 ^ index = pow-le-pow_right (omega arith) l in absurd (omega arith)
]
  where
    split : (m : ℕ) → (m < 17) ⊎ (17 ≤ m)
    split m = grind arith

-- a number's bits below `bits` are those from `low` up and those below it
above_low : (v bits low : ℕ) → low < bits → v % 2 ^ bits ≡ part v (bits - 1) low * 2 ^ low + v % 2 ^ low
above_low v bits low l =
    let e : bits ≡ bits - low + low = omega arith in
    let n : bits - low ≡ bits - 1 - low + 1 = omega arith in
    ap (λ k. v % 2 ^ k) e ∙ mod-pow-add v (bits - low) low ∙ ap (λ k. v / 2 ^ low % 2 ^ k * 2 ^ low + v % 2 ^ low) n

held : (c l : Bool) → (if c then bit_of l else 0) ≡ bit_of (if c then l else false)
held true l = refl
held false l = refl

-- Words that share a run of bits

module _ (net : Net) (d inner : Option Decoded) (address : Id) (words : List ℕ) (first base bits : ℕ) (run : Run) (shared : IsRun words base bits run)
    (inners : IsAmong net inner address words first run.base run.low) (narrow : IsNarrowed net d inner address (bits - 1) run.low run.top) where
  entry : (v i w : ℕ) → slice_get words i ≡ Some w
      → (v % 2 ^ bits == w - base) ≡ (if part v (bits - 1) run.low == run.top then (v % 2 ^ run.low == w - run.base) else false)
  entry v i w e =
      let h = shared.within.each i w e in
      let l = h.low in
      let m = h.high in
      let b = shared.lowest in
      let r : v % 2 ^ run.low < 2 ^ run.low = mod-lt v (pow_pos run.low) in
      ap (λ n. n == w - base) (above_low v bits run.low shared.shorter)
      ∙ run_entry (2 ^ run.low) base run.top (part v (bits - 1) run.low) (v % 2 ^ run.low) w r (omega arith) (omega arith)
      ∙ ap (λ n. if part v (bits - 1) run.low == run.top then (v % 2 ^ run.low == w - n) else false) (sym b)

  run_hit : (v : ℕ) → list_any (λ w. v % 2 ^ bits == w - base) words
      ≡ (if part v (bits - 1) run.low == run.top then list_any (λ w. v % 2 ^ run.low == w - run.base) words else false)
  run_hit v =
      any_same (λ w. v % 2 ^ bits == w - base) (λ w. if part v (bits - 1) run.low == run.top then (v % 2 ^ run.low == w - run.base) else false) words (entry v)
      ∙ any_where (part v (bits - 1) run.low == run.top) (λ w. v % 2 ^ run.low == w - run.base) words

  run_hits : (x : At) → Settles net x → hit_of x d ≡ bit_of (list_any (λ w. x.node address.0 % 2 ^ bits == w - base) words)
  run_hits x s =
      narrow.hit x s
      ∙ ap (λ n. if part (x.node address.0) (bits - 1) run.low == run.top then n else 0) (inners.hit x s)
      ∙ held (part (x.node address.0) (bits - 1) run.low == run.top) (list_any (λ w. x.node address.0 % 2 ^ run.low == w - run.base) words)
      ∙ ap bit_of (sym (run_hit (x.node address.0)))

  run_rest : (v i w : ℕ) → slice_get words i ≡ Some w → v % 2 ^ bits ≡ w - base → v % 2 ^ run.low ≡ w - run.base
  run_rest v i w e m =
      let h = shared.within.each i w e in
      let l = h.low in
      let g = h.high in
      let b = shared.lowest in
      let r : v % 2 ^ run.low < 2 ^ run.low = mod-lt v (pow_pos run.low) in
      let whole : v % 2 ^ bits ≡ part v (bits - 1) run.low * 2 ^ run.low + v % 2 ^ run.low = above_low v bits run.low shared.shorter in
      let rest : w - run.base < 2 ^ run.low = omega arith in
      let same_number : part v (bits - 1) run.low * 2 ^ run.low + v % 2 ^ run.low ≡ run.top * 2 ^ run.low + (w - run.base) = omega arith in
      (same_from_place (part v (bits - 1) run.low) (v % 2 ^ run.low) run.top (w - run.base) (2 ^ run.low) r rest same_number).1

  run_words : (x : At) → Settles net x → (i w : ℕ) → slice_get words i ≡ Some w → x.node address.0 % 2 ^ bits ≡ w - base → word_of x d ≡ first + i
  run_words x s i w e m = narrow.word x s ∙ inners.word x s i w e (run_rest (x.node address.0) i w e m)

  pub run_among : IsAmong net d address words first base bits
  run_among = record { some = λ h. narrow.some (inners.some h); stands = narrow.stands; hit = run_hits; word = run_words }

-- Words evenly spaced

module _ (net : Net) (d : Decoded) (address : Id) (words : List ℕ) (first base bits index : ℕ) (even : IsEven words first base bits index)
    (hits : IsNode net d.hit 1 (λ x. bit_of (x.node address.0 % 2 ^ (bits - index) == 0)))
    (numbers : IsNode net d.word 16 (λ x. first / 2 ^ index * 2 ^ index + x.node address.0 / 2 ^ (bits - index) % 2 ^ index)) where
  by_step : (v : ℕ) → v % 2 ^ bits ≡ v / 2 ^ (bits - index) % 2 ^ index * 2 ^ (bits - index) + v % 2 ^ (bits - index)
  by_step v =
      let within = even.within in
      let e : bits ≡ index + (bits - index) = omega arith in
      ap (λ n. v % 2 ^ n) e ∙ mod-pow-add v index (bits - index)

  even_hit : (v : ℕ) → (v % 2 ^ (bits - index) == 0) ≡ list_any (λ w. v % 2 ^ bits == w - base) words
  even_hit v =
      let within = even.within in
      let r : v % 2 ^ (bits - index) < 2 ^ (bits - index) = mod-lt v (pow_pos (bits - index)) in
      let rest : v % 2 ^ bits % 2 ^ (bits - index) ≡ v % 2 ^ (bits - index)
      = ap (λ n. n % 2 ^ (bits - index)) (by_step v) ∙ mod-mul-add (v / 2 ^ (bits - index) % 2 ^ index) (2 ^ (bits - index)) (v % 2 ^ (bits - index)) r in
      let fits : v % 2 ^ bits < 2 ^ bits = mod-lt v (pow_pos bits) in
      let e : index + (bits - index) ≡ bits = omega arith in
      let room : length words * 2 ^ (bits - index) ≡ 2 ^ bits = ap (λ n. n * 2 ^ (bits - index)) even.count ∙ sym (pow-add 2 index (bits - index)) ∙ ap (λ n. 2 ^ n) e in
      ap (λ n. n == 0) (sym rest) ∙ sym (any_even words base (2 ^ (bits - index)) (v % 2 ^ bits) (pow_pos (bits - index)) (omega arith) even.each)

  even_hits : (x : At) → Settles net x → x.node d.hit.0 ≡ bit_of (list_any (λ w. x.node address.0 % 2 ^ bits == w - base) words)
  even_hits x s = hits.value x s ∙ ap bit_of (even_hit (x.node address.0))

  even_place : (v i w : ℕ) → slice_get words i ≡ Some w → v % 2 ^ bits ≡ w - base → v / 2 ^ (bits - index) % 2 ^ index ≡ i
  even_place v i w e m =
      let r : v % 2 ^ (bits - index) < 2 ^ (bits - index) = mod-lt v (pow_pos (bits - index)) in
      let inside : i < length words = slice_get-within words i w e in
      let is : get_or words i 0 ≡ w = get_or_from_slice_get words i w 0 e in
      let here : get_or words i 0 ≡ base + i * 2 ^ (bits - index) = even.each i inside in
      let whole : v % 2 ^ bits ≡ v / 2 ^ (bits - index) % 2 ^ index * 2 ^ (bits - index) + v % 2 ^ (bits - index) = by_step v in
      let same_number : v / 2 ^ (bits - index) % 2 ^ index * 2 ^ (bits - index) + v % 2 ^ (bits - index) ≡ i * 2 ^ (bits - index) + 0 = omega arith in
      (same_from_place (v / 2 ^ (bits - index) % 2 ^ index) (v % 2 ^ (bits - index)) i 0 (2 ^ (bits - index)) r (pow_pos (bits - index)) same_number).0

  upper : first / 2 ^ index * 2 ^ index ≡ first
  upper =
      let aligned : first % 2 ^ index ≡ 0 = even.aligned in
      let parts : first / 2 ^ index * 2 ^ index + first % 2 ^ index ≡ first = div-add-mod' first (2 ^ index) in
      omega arith

  even_words : (x : At) → Settles net x → (i w : ℕ) → slice_get words i ≡ Some w → x.node address.0 % 2 ^ bits ≡ w - base → x.node d.word.0 ≡ first + i
  even_words x s i w e m =
      numbers.value x s
      ∙ ap (λ n. n + x.node address.0 / 2 ^ (bits - index) % 2 ^ index) upper
      ∙ ap (λ n. first + n) (even_place (x.node address.0) i w e m)

  pub even_among : IsAmong net (Some d) address words first base bits
  even_among = record { some = λ h. refl; stands = (hits.stands, numbers.stands); hit = even_hits; word = even_words }
