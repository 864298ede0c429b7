-- Slots of one word that share a bit.
use Rattle.std.proofs.Common.{◌≡◌, ◌∙◌, ◌⊎◌, inl, inr, ℕ, suc, ◌+◌, ◌-◌, ◌<◌, ◌≤◌, ◌&&◌, Bool, true, false, not, max, min, nat_lt, List, [], ◌∷◌, ◌++◌, flat_map, slice_get, Some, refl, sym, ap, subst, arith}
use Rattle.std.specs.Prelude.{nat_le}
use Rattle.std.specs.List.{AllByRecursion, list_any}
use Rattle.std.proofs.lemmas.Bool.Decides.{nat_tests}
use Rattle.plain_lemmas.proofs.Bools.{and-both, or-either}
use Rattle.rdl_base.specs.declared.keyword.Keyword.TheVariants as word
use Rattle.rdl_base.specs.declared.rule.Rule.TheVariants as rules
use Rattle.rdl_values.specs.Bodies.{standing_from}
use Rattle.rdl_values.specs.Faults.{at_, when}
use Rattle.rdl_values.specs.Instances.{Instance}
use Rattle.rdl_props.specs.declared.prop.Prop.TheVariants as prop
use Rattle.rdl_layers.specs.Fields.{reads_word, writes_word}
use Rattle.rdl_layers.specs.Forms.{Meaning, named}
use Rattle.rdl_layers.specs.Settings.{setting}
use Rattle.rdl_nodes.proofs.Apart.{Apart, apart-append}
use Rattle.rdl_nodes.proofs.Members.{In, each-in, in-left, in-right, place-in}
use Rattle.rdl_addr.specs.Bits.{Bits}
use Rattle.rdl_addr.specs.Rules.{clashes, is_outside, may_share_bits, of_bits, only_reads, only_writes}
use Rattle.rb_model.specs.declared.block.Slot.{Slot}
use Rattle.rb_model.specs.Sound.{share_bit}
use Rattle.rdl_rules.specs.Words.{slot, slots_from}
use Rattle.rdl_sound_laws.proofs.Meeting.{each-of, none-any}
use Rattle.rdl_sound_laws.proofs.Placed.{nil-left, nil-right, when-nil}
use Rattle.rdl_sound_laws.proofs.Shown.{SlotIn, slot-from, when-in}
use Rattle.plain_lemmas.proofs.Numbers.{most as at-most}

-- Which fields may not clash.

abbrev pub Clear : Bits → Bits → Type 0
Clear b c = clashes c b ≡ false

behind : (r : Instance) (before bs : List Bits) → flat_map (of_bits r) (standing_from before bs) ≡ [] → ((b c : Bits) → In before b → In bs c → Clear b c) × Apart Clear bs
behind r before [] e = ((λ b c i j. absurd j), tt)
behind r before (c ∷ bs) e =
    let here = when-nil (list_any (clashes c) before) (at_ rules.B2 c.node.use_.name.place) (nil-right (when (is_outside r c) (at_ rules.B1 c.node.use_.name.place)) (when (list_any (clashes c) before) (at_ rules.B2 c.node.use_.name.place)) (nil-left (of_bits r (before, c)) (flat_map (of_bits r) (standing_from (before ++ (c ∷ [])) bs)) e)) in
    let more = behind r (before ++ (c ∷ [])) bs (nil-right (of_bits r (before, c)) (flat_map (of_bits r) (standing_from (before ++ (c ∷ [])) bs)) e) in
    ((λ b d i j. by b d i j here more.0), (each-of (Clear c) bs (λ d j. more.0 c d (in-right before (c ∷ []) c (inl refl)) j), more.1))
  where
    by : (b d : Bits) → In before b → (c ≡ d) ⊎ In bs d → list_any (clashes c) before ≡ false → ((b d : Bits) → In (before ++ (c ∷ [])) b → In bs d → Clear b d) → Clear b d
    by b d i (inl s) here more = subst (Clear b) s (none-any (clashes c) before here b i)
    by b d i (inr j) here more = more b d (in-left before (c ∷ []) b i) j

pub all-clear : (r : Instance) (bs : List Bits) → flat_map (of_bits r) (standing_from [] bs) ≡ [] → Apart Clear bs
all-clear r bs e = (behind r [] bs e).1

-- What software only reads it doesn't write, and the other way round.

not-read : (m : Meaning) → only_writes m ≡ true → reads_word m ≡ true → ⊥
not-read (named word.W) e f = cc f
not-read (named word.W1) e f = cc f
not-read (named _) e f = cc e
not-read _ e f = cc e

not-written : (m : Meaning) → only_reads m ≡ true → writes_word m ≡ true → ⊥
not-written (named word.R) e f = cc f
not-written (named _) e f = cc e
not-written _ e f = cc e

pub no-two-reads : (m n : Meaning) → may_share_bits m n ≡ true → reads_word m ≡ true → reads_word n ≡ true → ⊥
no-two-reads m n e f g = by (or-either (only_reads m && only_writes n) (only_writes m && only_reads n) e)
  where
    by : ((only_reads m && only_writes n) ≡ true) ⊎ ((only_writes m && only_reads n) ≡ true) → ⊥
    by (inl h) = not-read n (and-both (only_reads m) (only_writes n) h).1 g
    by (inr h) = not-read m (and-both (only_writes m) (only_reads n) h).0 f

pub no-two-writes : (m n : Meaning) → may_share_bits m n ≡ true → writes_word m ≡ true → writes_word n ≡ true → ⊥
no-two-writes m n e f g = by (or-either (only_reads m && only_writes n) (only_writes m && only_reads n) e)
  where
    by : ((only_reads m && only_writes n) ≡ true) ⊎ ((only_writes m && only_reads n) ≡ true) → ⊥
    by (inl h) = not-written m (and-both (only_reads m) (only_writes n) h).0 f
    by (inr h) = not-written n (and-both (only_writes m) (only_reads n) h).1 g

-- Two slots share a bit only where their views do.

meet : (base w h l i m : ℕ) → l ≤ h → m ≤ i → l < base + w → base ≤ h → m < base + w → base ≤ i
    → (nat_lt (max base l - base) ((max base m - base) + (min (base + w - 1) i + 1 - max base m)) && nat_lt (max base m - base) ((max base l - base) + (min (base + w - 1) h + 1 - max base l))) ≡ true → (l ≤ i) × (m ≤ h)
meet base w h l i m p q a b c d e = (grind (arith, nat_tests), grind (arith, nat_tests))

shared : (x y z : Bool) → x ≡ true → y ≡ true → (x && y && not z) ≡ false → z ≡ true
shared true true true e f h = refl
shared true true false e f h = cc h
shared true false z e f h = cc f
shared false y z e f h = cc e

may-share : (b c : Bits) → Clear b c → b.low ≤ c.high → c.low ≤ b.high → may_share_bits (setting c.node prop.Sw) (setting b.node prop.Sw) ≡ true
may-share b c clear l m = shared (nat_le c.low b.high) (nat_le b.low c.high) (may_share_bits (setting c.node prop.Sw) (setting b.node prop.Sw)) (at-most c.low b.high m) (at-most b.low c.high l) clear

-- a test of slots that says what their views' settings do, and that no two may share
module _ (passes : Slot → Bool) (p : Meaning → Bool) (no-two : (m n : Meaning) → may_share_bits m n ≡ true → p m ≡ true → p n ≡ true → ⊥) where
  -- not both pass where they share a bit
  abbrev pub NotBoth : Slot → Slot → Type 0
  NotBoth s t = (share_bit s t && passes s && passes t) ≡ true → ⊥

  abbrev Tells : ℕ → List Bits → Type 0
  Tells first bs = (j : ℕ) (c : Bits) (t : Slot) → slice_get bs j ≡ Some c → t.view ≡ first + j → passes t ≡ p (setting c.node prop.Sw)

  two-slots : (first base w : ℕ) (b : Bits) (bs : List Bits) → Tells first (b ∷ bs) → AllByRecursion (Clear b) bs → ((c : Bits) → In (b ∷ bs) c → c.low ≤ c.high) → (s t : Slot) → In (slot first base w b) s → SlotIn (first + 1) base w bs t → NotBoth s t
  two-slots first base w b bs tells clear up s t h g both =
      let q = when-in (nat_lt b.low (base + w) && nat_le base b.high) (record { view = first; low = max base b.low - base; from = max base b.low - b.low; bits = min (base + w - 1) b.high + 1 - max base b.low }) s h in
      let tests = range b.low b.high base w q.0 in
      let c = g.bits in
      let i = place-in bs g.at c g.here in
      let parts = and-both (share_bit s t && passes s) (passes t) both in
      let first-parts = and-both (share_bit s t) (passes s) parts.0 in
      let touching = meet base w b.high b.low c.high c.low (up b (inl refl)) (up c (inr i)) tests.0 tests.1 g.begins g.ends (subst (λ (x : Slot). share_bit x (record { view = first + 1 + g.at; low = max base c.low - base; from = max base c.low - c.low; bits = min (base + w - 1) c.high + 1 - max base c.low }) ≡ true) (sym q.1) (subst (λ (x : Slot). share_bit s x ≡ true) (sym g.is) first-parts.0)) in
      let may = may-share b c (each-in (Clear b) bs c clear i) touching.0 touching.1 in
      no-two (setting c.node prop.Sw) (setting b.node prop.Sw) may
      (sym (tells (suc g.at) c t g.here (ap (λ (x : Slot). x.view) (sym g.is) ∙ later g.at)) ∙ parts.1)
      (sym (tells 0 b s refl (ap (λ (x : Slot). x.view) (sym q.1) ∙ none)) ∙ first-parts.1)
    where
      range : (l h base w : ℕ) → (nat_lt l (base + w) && nat_le base h) ≡ true → (l < base + w) × (base ≤ h)
      range l h base w e = (grind (arith, nat_tests, e), grind (arith, nat_tests, e))

      later : (k : ℕ) → first + 1 + k ≡ first + suc k
      later k = omega arith

      none : first ≡ first + 0
      none = omega arith

  alone : (t : Bool) (x : Slot) → Apart NotBoth (when t x)
  alone true x = (tt, tt)
  alone false x = tt

  pub slots-apart : (first base w : ℕ) (bs : List Bits) → Tells first bs → Apart Clear bs → ((c : Bits) → In bs c → c.low ≤ c.high) → Apart NotBoth (slots_from first base w bs)
  slots-apart first base w [] tells clear up = tt
  slots-apart first base w (b ∷ bs) tells clear up =
      apart-append NotBoth (slot first base w b) (slots_from (first + 1) base w bs) (alone (nat_lt b.low (base + w) && nat_le base b.high) _)
      (slots-apart (first + 1) base w bs (λ j c t at view. tells (suc j) c t at (view ∙ later j)) clear.1 (λ c i. up c (inr i)))
      (each-of (λ s. AllByRecursion (NotBoth s) (slots_from (first + 1) base w bs)) (slot first base w b) (λ s h. each-of (NotBoth s) (slots_from (first + 1) base w bs) (λ t g. two-slots first base w b bs tells clear.0 up s t h (slot-from (first + 1) base w bs t g))))
    where
      later : (k : ℕ) → first + 1 + k ≡ first + suc k
      later k = omega arith
