-- The views of registers and words by their numbers.
use Rattle.std.proofs.Common.{◌≡◌, ◌∙◌, inl, inr, ℕ, suc, ◌+◌, ◌-◌, ◌*◌, ◌<◌, ◌≤◌, ◌==◌, Bool, true, false, cond, max, List, [], ◌∷◌, length, map, count_by, slice_get, Some, refl, sym, ap, subst, arith}
use Rattle.std.specs.List.{AllByRecursion, AllPairs}
use Rattle.std.proofs.Math.Nat.{mul-le-mul_left}
use Rattle.std.proofs.lemmas.Bool.Decides.{nat_tests}
use Rattle.std.proofs.lemmas.List.Sums.{sum_by-cons}
use Rattle.std.proofs.lemmas.List.Kept.{AllPairs-from_increasing}
use Rattle.rdl_layers.specs.Fields.{fields_of}
use Rattle.rdl_nodes.proofs.Apart.{Apart, apart-append}
use Rattle.rdl_nodes.proofs.Members.{In, get-read, in-map, in-place}
use Rattle.rdl_addr.specs.Bits.{Bits}
use Rattle.rdl_addr.specs.Layout.{Placed}
use Rattle.rb_model.specs.declared.block.Slot.{Slot}
use Rattle.rb_model.specs.declared.block.Word.{Word}
use Rattle.rdl_rules.specs.Numbers.{Numbered, numbered_from}
use Rattle.rdl_rules.specs.Words.{AreByAddress, slot, slots_from}
use Rattle.rdl_sound_laws.proofs.Meeting.{Differ, each-of}
use Rattle.rdl_sound_laws.proofs.Shown.{SlotIn, slot-from, when-in}

-- A view is of one register.

abbrev pub Holds : ℕ → Numbered Placed → Type 0
Holds i r = (r.first_view ≤ i) × (i < r.first_view + length (fields_of r.register.node))

first-from : (k v : ℕ) (ps : List Placed) (r : Numbered Placed) → In (numbered_from (λ p. p.node) k v ps) r → v ≤ r.first_view
first-from k v [] r h = absurd h
first-from k v (p ∷ ps) r (inl e) = let q = ap (λ (x : Numbered Placed). x.first_view) e in omega (arith, q)
first-from k v (p ∷ ps) r (inr h) = let more = first-from (k + 1) (v + length (fields_of p.node)) ps r h in omega (arith, more)

pub one-register : (k v i : ℕ) (ps : List Placed) (r s : Numbered Placed) → In (numbered_from (λ p. p.node) k v ps) r → In (numbered_from (λ p. p.node) k v ps) s → Holds i r → Holds i s → r ≡ s
one-register k v i [] r s h g m n = absurd h
one-register k v i (p ∷ ps) r s (inl d) (inl f) m n = sym d ∙ f
one-register k v i (p ∷ ps) r s (inl d) (inr g) m n =
    let low = first-from (k + 1) (v + length (fields_of p.node)) ps s g in
    let first = (subst (Holds i) (sym d) m).1 in
    let here = n.0 in
    absurd (omega (arith, low, first, here))
one-register k v i (p ∷ ps) r s (inr h) (inl f) m n =
    let low = first-from (k + 1) (v + length (fields_of p.node)) ps r h in
    let first = (subst (Holds i) (sym f) n).1 in
    let here = m.0 in
    absurd (omega (arith, low, first, here))
one-register k v i (p ∷ ps) r s (inr h) (inr g) m n = one-register (k + 1) (v + length (fields_of p.node)) i ps r s h g m n

-- Words stand at different addresses.

apart-pairs : (ws : List Word) → AllPairs (λ m n. m < n) (map (λ w. w.address) ws) → Apart Differ ws
apart-pairs [] h = tt
apart-pairs (w ∷ ws) h = (
  each-of (Differ w) ws (λ x i.
      let p = in-place (map (λ (y : Word). y.address) ws) x.address (in-map (λ (y : Word). y.address) ws x i) in
      let low = p.1 in
      let less = subst (λ a. w.address < a) (get-read (map (λ (y : Word). y.address) ws) p.0 w.address x.address p.2) (h 0 (suc p.0) w.address (omega arith) (omega (arith, low))) in
      λ e. absurd (omega (arith, less, e))),
  apart-pairs ws (λ i j d l m. h (suc i) (suc j) d (omega (arith, l)) (omega (arith, m))),
)

pub words-differ : (words ws : List Word) → AreByAddress words ws → Apart Differ ws
words-differ words ws by = apart-pairs ws (AllPairs-from_increasing (map (λ (w : Word). w.address) ws) by.rising)

-- Slots of one view.

-- not both are of the view
abbrev pub NotBoth : ℕ → Slot → Slot → Type 0
NotBoth i s t = s.view ≡ i → t.view ≡ i → ⊥

none-counted : (i : ℕ) (x : Slot) (xs : List Slot) → x.view ≡ i → AllByRecursion (NotBoth i x) xs → count_by (λ s. s.view == i) xs ≡ 0
none-counted i x [] e h = refl
none-counted i x (y ∷ ys) e h = sum_by-cons (λ s. cond (s.view == i) 1 0) y ys ∙ by (y.view == i) refl (none-counted i x ys e h.1)
  where
    by : (t : Bool) → (y.view == i) ≡ t → count_by (λ s. s.view == i) ys ≡ 0 → cond t 1 0 + count_by (λ s. s.view == i) ys ≡ 0
    by true q rest = absurd (h.0 e (grind (arith, nat_tests, q)))
    by false q rest = omega (arith, rest)

pub one-counted : (i : ℕ) (xs : List Slot) → Apart (NotBoth i) xs → count_by (λ s. s.view == i) xs ≤ 1
one-counted i [] h = omega arith
one-counted i (x ∷ xs) h = subst (λ n. n ≤ 1) (sym (sum_by-cons (λ s. cond (s.view == i) 1 0) x xs)) (by (x.view == i) refl (one-counted i xs h.1))
  where
    same : (x.view == i) ≡ true → x.view ≡ i
    same q = grind (arith, nat_tests, q)

    by : (t : Bool) → (x.view == i) ≡ t → count_by (λ s. s.view == i) xs ≤ 1 → cond t 1 0 + count_by (λ s. s.view == i) xs ≤ 1
    by true q rest = let none = none-counted i x xs (same q) h.0 in omega (arith, none)
    by false q rest = omega (arith, rest)

alone : (i : ℕ) (t : Bool) (x : Slot) → Apart (NotBoth i) (cond t (x ∷ []) [])
alone i true x = (tt, tt)
alone i false x = tt

-- the slots of one word are of different views
pub word-apart : (i first base w : ℕ) (bs : List Bits) → Apart (NotBoth i) (slots_from first base w bs)
word-apart i first base w [] = tt
word-apart i first base w (b ∷ bs) =
    apart-append (NotBoth i) (slot first base w b) (slots_from (first + 1) base w bs) (alone i _ _) (word-apart i (first + 1) base w bs)
    (each-of (λ s. AllByRecursion (NotBoth i s) (slots_from (first + 1) base w bs)) (slot first base w b) (λ s h. each-of (NotBoth i s) (slots_from (first + 1) base w bs) (λ t g. λ p q.
    let here = ap (λ (x : Slot). x.view) (when-in _ _ s h).1 in
    let r = slot-from (first + 1) base w bs t g in
    let at = r.at in
    let there = ap (λ (x : Slot). x.view) r.is in
    absurd (omega (arith, here, there, p, q)))))

-- Two slots of one view that show it from its first bit on are of one word.

from-first : (base l : ℕ) → max base l - l ≡ 0 → base ≤ l
from-first base l e = grind (arith, e)

below-next : (a k m l : ℕ) → k < m → l < k * a + a → m * a ≤ l → ⊥
below-next a k m l h p q = let up : suc k ≤ m = omega (arith, h) in let step = mul-le-mul_left a up in omega (arith, step, p, q)

one-quotient : (a k m l : ℕ) → k * a ≤ l → l < k * a + a → m * a ≤ l → l < m * a + a → k ≡ m
one-quotient a k m l p q r s = let below = below-next a k m l in let above = below-next a m k l in grind (arith, below, above)

same-bits : (first base base' a : ℕ) (bs : List Bits) (s t : Slot) (i : ℕ) (p : SlotIn first base a bs s) (q : SlotIn first base' a bs t) → s.view ≡ i → t.view ≡ i → p.bits ≡ q.bits
same-bits first base base' a bs s t i p q e f =
    let here = ap (λ (x : Slot). x.view) p.is in
    let there = ap (λ (x : Slot). x.view) q.is in
    let at : p.at ≡ q.at = omega (arith, here, there, e, f) in
    let one : Some p.bits ≡ Some q.bits = sym p.here ∙ (ap (slice_get bs) at ∙ q.here) in
    cc one

pub one-number : (first a : ℕ) (bs : List Bits) (k m i : ℕ) (s t : Slot) → SlotIn first (k * a) a bs s → SlotIn first (m * a) a bs t → s.view ≡ i → t.view ≡ i → s.from ≡ 0 → t.from ≡ 0 → k ≡ m
one-number first a bs k m i s t p q e f x y =
    let same = ap (λ (b : Bits). b.low) (same-bits first (k * a) (m * a) a bs s t i p q e f) in
    one-quotient a k m p.bits.low (from-first (k * a) p.bits.low (ap (λ (z : Slot). z.from) p.is ∙ x)) p.begins
    (subst (λ l. m * a ≤ l) (sym same) (from-first (m * a) q.bits.low (ap (λ (z : Slot). z.from) q.is ∙ y))) (subst (λ l. l < m * a + a) (sym same) q.begins)
