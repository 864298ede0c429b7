-- The words of the two halves, and one bit that tells which.
use Rattle.std.proofs.Common.{◌≡◌, ℕ, ◌+◌, ◌-◌, ◌^◌, ◌<◌, List, Some, length, ap, sym, ◌∙◌, subst, arith}
use Rattle.std.proofs.lemmas.List.{length-append}
use Rattle.std.proofs.lemmas.Nat.{pow_pos}
use Rattle.rtl_net.specs.declared.node.Id.{Id}
use Rattle.rtl_net.specs.Net.{Net, IsNode}
use Rattle.rtl_net.proofs.Nets.{Grows-trans, IsNode-grows, Stands-grows}
use Rattle.rb_base.specs.Bits.{part}
use Rattle.gen_decode.specs.Among.{AreWithin, IsAmong, IsCut}
use Rattle.gen_decode.proofs.Halves.{doubled, left_within, right_within}
use Rattle.gen_decode.proofs.Joined.{last_among, joined_among, IsAmong-grows}
use Rattle.gen_decode.proofs.Ranges.{even_among, few_index, run_among, run_room}
use Rattle.gen_decode.proofs.words.+among.Goals as goal

-- the range of 2 ^ bits addresses in two of one bit less
one_more : (bits : ℕ) → (bits ≡ 0 → ⊥) → bits ≡ bits - 1 + 1
one_more bits n = omega arith

twice : (bits : ℕ) → (bits ≡ 0 → ⊥) → 2 ^ bits ≡ 2 ^ (bits - 1) + 2 ^ (bits - 1)
twice bits n = ap (λ k. 2 ^ k) (one_more bits n) ∙ doubled (bits - 1)

cut_of : (words left right : List ℕ) (base middle bits : ℕ) → middle ≡ base + 2 ^ (bits - 1) → IsCut words left right middle → IsCut words left right (base + 2 ^ (bits - 1))
cut_of words left right base middle bits e h = subst (λ m. IsCut words left right m) e h

within_of : (words : List ℕ) (base bits : ℕ) → (bits ≡ 0 → ⊥) → AreWithin base bits words → AreWithin base (bits - 1 + 1) words
within_of words base bits n h = subst (λ k. AreWithin base k words) (one_more bits n) h

lengths : (words left right : List ℕ) (middle : ℕ) → IsCut words left right middle → length words ≡ length left + length right
lengths words left right middle h = ap length h.whole ∙ length-append left right

pub returns-then-bits-eq0-clause-among : goal.returns-then-bits-eq0-clause-among
returns-then-bits-eq0-clause-among t c =
    let P : ℕ → Type 0 = λ k. IsAmong c.last.new.net (Some c.in_ok-only.only) c.args.address c.args.words.now c.args.first c.args.base k in
    let within : AreWithin c.args.base 0 c.args.words.now = subst (λ k. AreWithin c.args.base k c.args.words.now) c.if-bits-eq0.true c.requires.within in
    let some : 0 < length c.args.words.now = grind arith in
    subst P (sym c.if-bits-eq0.true) (last_among c.last.new.net c.in_ok-only.only c.args.address c.args.words.now c.args.first c.args.base c.requires.rising within some c.in_ok-only.ensures.hit c.in_ok-only.ensures.word)

pub middle_of-middle-requires-clause-room : goal.middle_of-middle-requires-clause-room
middle_of-middle-requires-clause-room t c =
    let e = twice c.args.bits c.if-bits-eq0.false in
    let p : 0 < 2 ^ (c.args.bits - 1) = pow_pos (c.args.bits - 1) in
    omega arith

pub by_index-requires-clause-few : goal.by_index-requires-clause-few
by_index-requires-clause-few t c = let few = c.requires.few in few_index c.in-Some.index (length c.args.words.now) c.in-Some.ensures.count (omega arith)

pub returns-in-Some-clause-among : goal.returns-in-Some-clause-among
returns-in-Some-clause-among t c =
    even_among c.by_index.new.net c.in_ok-even.even c.args.address c.args.words.now c.args.first c.args.base c.args.bits c.in-Some.index c.in-Some.ensures c.in_ok-even.ensures.hit c.in_ok-even.ensures.word

pub among-requires : goal.among-requires
among-requires t c =
    let run = c.in-Some-shared_run.common in
    let shared = c.in-Some-shared_run.ensures in
    let shorter : run.low < c.args.bits = shared.shorter in (
      omega arith,
      (c.requires.address, (omega arith, (run_room c.args.words.now c.args.base c.args.bits (2 ^ 32) run shared c.requires.room, (c.requires.rising, (shared.within, c.requires.few))))),
    )

pub returns-in-Some-shared_run-clause-among : goal.returns-in-Some-shared_run-clause-among
returns-in-Some-shared_run-clause-among t c =
    let run = c.in-Some-shared_run.common in
    let shared = c.in-Some-shared_run.ensures in
    let inner = IsAmong-grows c.among.new.net c.narrowed.new.net c.in_ok-inner.inner c.args.address c.args.words.now c.args.first run.base run.low c.in_ok-narrow.ensures.older c.in_ok-inner.ensures.among in
    run_among c.narrowed.new.net c.in_ok-narrow.narrow c.in_ok-inner.inner c.args.address c.args.words.now c.args.first c.args.base c.args.bits run shared inner c.in_ok-narrow.ensures.narrowed

pub among-requires-2 : goal.among-requires-2
among-requires-2 t c =
    let e = twice c.args.bits c.if-bits-eq0.false in
    let l = lengths c.args.words.now c.halves.result.0.now c.halves.result.1.now c.middle_of-middle.result c.halves.ensures in
    let cut = cut_of c.args.words.now c.halves.result.0.now c.halves.result.1.now c.args.base c.middle_of-middle.result c.args.bits c.middle_of-middle.ensures c.halves.ensures in
    let within = within_of c.args.words.now c.args.base c.args.bits c.if-bits-eq0.false c.requires.within in (
      omega arith,
      (
        c.requires.address,
        (omega arith, (omega arith, (c.halves.ensures.low_rising, (left_within c.args.words.now c.halves.result.0.now c.halves.result.1.now c.args.base (c.args.bits - 1) cut within, omega arith)))),
      ),
    )

pub among-requires-3 : goal.among-requires-3
among-requires-3 t c =
    let e = twice c.args.bits c.if-bits-eq0.false in
    let l = lengths c.args.words.now c.halves.result.0.now c.halves.result.1.now c.middle_of-middle.result c.halves.ensures in
    let cut = cut_of c.args.words.now c.halves.result.0.now c.halves.result.1.now c.args.base c.middle_of-middle.result c.args.bits c.middle_of-middle.ensures c.halves.ensures in
    let within = within_of c.args.words.now c.args.base c.args.bits c.if-bits-eq0.false c.requires.within in
    let high = right_within c.args.words.now c.halves.result.0.now c.halves.result.1.now c.args.base (c.args.bits - 1) cut within in
    let high_at = subst (λ m. AreWithin m (c.args.bits - 1) c.halves.result.1.now) (sym c.middle_of-middle.ensures) high in (
      omega arith,
      (
        Stands-grows c.args.net.now c.among-2.new.net c.args.address 32 c.in_ok-low.ensures.older c.requires.address,
        (omega arith, (omega arith, (c.halves.ensures.high_rising, (high_at, omega arith)))),
      ),
    )

pub returns-clause-among : goal.returns-clause-among
returns-clause-among t c =
    let half = c.args.bits - 1 in
    let cut = cut_of c.args.words.now c.halves.result.0.now c.halves.result.1.now c.args.base c.middle_of-middle.result c.args.bits c.middle_of-middle.ensures c.halves.ensures in
    let within = within_of c.args.words.now c.args.base c.args.bits c.if-bits-eq0.false c.requires.within in
    let n1 = c.among-2.new.net in
    let n2 = c.among-3.new.net in
    let n3 = c.slice.new.net in
    let n4 = c.joined.new.net in
    let g34 = c.in_ok-all.ensures.older in
    let g24 = Grows-trans n2 n3 n4 c.in_ok-bit.ensures.older g34 in
    let g14 = Grows-trans n1 n2 n4 c.in_ok-high.ensures.older g24 in
    let left = c.halves.result.0.now in
    let right = c.halves.result.1.now in
    let low = IsAmong-grows n1 n4 c.in_ok-low.low c.args.address left c.args.first c.args.base half g14 c.in_ok-low.ensures.among in
    let high = IsAmong-grows n2 n4 c.in_ok-high.high c.args.address right (c.args.first + length left) c.middle_of-middle.result half g24 c.in_ok-high.ensures.among in
    let high_at = subst (λ m. IsAmong n4 c.in_ok-high.high c.args.address right (c.args.first + length left) m half) c.middle_of-middle.ensures high in
    let bit = one_bit n4 c.in_ok-bit.bit c.args.address half (IsNode-grows n3 n4 c.in_ok-bit.bit (half - half + 1) (λ x. part (x.node c.args.address.0) half half) g34 c.in_ok-bit.ensures.node) in
    let whole = joined_among n4 c.in_ok-all.all c.in_ok-bit.bit c.args.address c.in_ok-low.low c.in_ok-high.high c.args.words.now left right c.args.first c.args.base half cut within bit low high_at c.in_ok-all.ensures.joined in
    subst (λ k. IsAmong n4 (Some c.in_ok-all.all) c.args.address c.args.words.now c.args.first c.args.base k) (sym (one_more c.args.bits c.if-bits-eq0.false)) whole
  where
    one_bit : (net : Net) (bit address : Id) (half : ℕ) → IsNode net bit (half - half + 1) (λ x. part (x.node address.0) half half) → IsNode net bit 1 (λ x. part (x.node address.0) half half)
    one_bit net bit address half h = let e : half - half + 1 ≡ 1 = omega arith in subst (λ w. IsNode net bit w (λ x. part (x.node address.0) half half)) e h
