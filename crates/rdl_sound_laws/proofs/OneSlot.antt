-- A view through which software changes its field stands in one slot.
use Rattle.std.proofs.Common.{◌≡◌, ◌∙◌, ℕ, ◌*◌, ◌≤◌, ◌==◌, Bool, List, IsTrue, count_by, flat_map, slice_get, Some, sym, ap, subst, arith}
use Rattle.std.specs.List.{AllByRecursion, enumerate_from}
use Rattle.rdl_values.specs.Instances.{Instance}
use Rattle.rdl_layers.specs.Fields.{fields_of}
use Rattle.rdl_nodes.proofs.Apart.{Across, Apart, apart-flat_map, apart-imp}
use Rattle.rdl_nodes.proofs.Members.{In, get-within, in-place}
use Rattle.rdl_addr.specs.Bits.{bits_of}
use Rattle.rdl_addr.specs.Layout.{Placed}
use Rattle.rb_model.specs.declared.block.Block.{Block}
use Rattle.rb_model.specs.declared.block.Slot.{Slot}
use Rattle.rb_model.specs.declared.block.View.{View}
use Rattle.rb_model.specs.declared.block.Word.{Word}
use Rattle.rb_model.specs.References.{Each}
use Rattle.rb_model.specs.Sound.{SlotIsSound, WordIsSound}
use Rattle.rb_model.specs.SoundField.{changes}
use Rattle.rb_model.proofs.Eachs.{Each-at, Each-numbered_all}
use Rattle.rdl_rules.specs.Numbers.{Numbered}
use Rattle.rdl_rules.specs.Words.{AreByAddress, word_of, words_but}
use Rattle.rdl_sound_laws.proofs.Meeting.{Differ, each-of}
use Rattle.rdl_sound_laws.proofs.Placed.{access}
use Rattle.rdl_sound_laws.proofs.Shown.{SlotIn, WordIn, bits-node, slot-from, word-from}
use Rattle.rdl_sound_laws.proofs.ViewNumbers.{Holds, NotBoth, one-counted, one-number, one-register, word-apart, words-differ}

each-at : {X : Type 0} (P : X → Type 0) (xs : List X) (x : X) → Each P xs → In xs x → P x
each-at P xs x h i = let at = in-place xs x i in Each-at P xs at.0 x h at.2

-- the slot is of word k of the register
abbrev Of : Numbered Placed → ℕ → Slot → Type 0
Of r k s = SlotIn r.first_view (k * access r.register.node) (access r.register.node) (bits_of r.register.node) s

of-word : (ps : List Placed) (w : Word) (h : WordIn ps w) (s : Slot) → In w.slots s → Of h.of h.number s
of-word ps w h s i =
    let a = access h.of.register.node in
    slot-from h.of.first_view (h.number * a) a (bits_of h.of.register.node) s (subst (λ (x : Word). In x.slots s) (sym h.is) i)

holds : (r : Numbered Placed) (k i : ℕ) (s : Slot) → Of r k s → s.view ≡ i → Holds i r
holds r k i s g e =
    let view = ap (λ (x : Slot). x.view) g.is in
    let at = g.at in
    let low = get-within (fields_of r.register.node) g.at g.bits.node (bits-node r.register.node g.at g.bits g.here) in
    (omega (arith, view, e), omega (arith, view, e, low))

same-number : (r q : Numbered Placed) (k m i : ℕ) (s t : Slot) → r ≡ q → Of r k s → Of q m t → s.view ≡ i → t.view ≡ i → s.from ≡ 0 → t.from ≡ 0 → k ≡ m
same-number r q k m i s t same g h = one-number r.first_view (access r.register.node) (bits_of r.register.node) k m i s t g (subst (λ x. Of x m t) (sym same) h)

module _ (ps : List Placed) (test mate : Instance → Bool) (ws : List Word) (by : AreByAddress (words_but test mate ps) ws) (b : Block) (sound : Each (WordIsSound b) ws) (i : ℕ) (v : View) (at : slice_get b.views i ≡ Some v) (changed : IsTrue (changes v)) where
  -- a slot of the view shows it from its first bit on
  from-first : (w : Word) → In ws w → (s : Slot) → In w.slots s → s.view ≡ i → s.from ≡ 0
  from-first w h s g e =
      let t = each-at (SlotIsSound b w) w.slots s (each-at (WordIsSound b) ws w sound h).slots g in
      let same : t.view ≡ v = (let q : Some t.view ≡ Some v = sym t.of_view ∙ (ap (slice_get b.views) e ∙ at) in cc q) in
      (t.whole (subst (λ x. IsTrue (changes x)) (sym same) changed)).0

  one-word : (w x : Word) → In ws w → In ws x → (s t : Slot) → In w.slots s → In x.slots t → s.view ≡ i → t.view ≡ i → w ≡ x
  one-word w x h g s t j k e f =
      let p = word-from test mate ps ws by w h in
      let q = word-from test mate ps ws by x g in
      let m = of-word ps w p s j in
      let n = of-word ps x q t k in
      let register = one-register 0 0 i ps p.of q.of p.listed q.listed (holds p.of p.number i s m e) (holds q.of q.number i t n f) in
      let number = same-number p.of q.of p.number q.number i s t register m n e f (from-first w h s j e) (from-first x g t k f) in
      sym p.is ∙ ((λ z. word_of (register z) (number z)) ∙ q.is)

  words-apart : Apart (λ w x. Across (NotBoth i) w.slots x.slots) ws
  words-apart = apart-imp (In ws) Differ (λ w x. Across (NotBoth i) w.slots x.slots) ws (λ w x h g differ. each-of (λ s. AllByRecursion (NotBoth i s) x.slots) w.slots (λ s j. each-of (NotBoth i s) x.slots (λ t k. λ e f. differ (ap (λ (y : Word). y.address) (one-word w x h g s t j k e f)))))
      (each-of (In ws) ws (λ w h. h)) (words-differ (words_but test mate ps) ws by)

  each-apart : AllByRecursion (λ w. Apart (NotBoth i) w.slots) ws
  each-apart = each-of (λ (w : Word). Apart (NotBoth i) w.slots) ws (λ w h.
      let p = word-from test mate ps ws by w h in
      let a = access p.of.register.node in
      subst (λ (x : Word). Apart (NotBoth i) x.slots) p.is (word-apart i p.of.first_view (p.number * a) a (bits_of p.of.register.node)))

  one-slot : count_by (λ s. s.view == i) (flat_map (λ w. w.slots) ws) ≤ 1
  one-slot = one-counted i (flat_map (λ (w : Word). w.slots) ws) (apart-flat_map (NotBoth i) (λ (w : Word). w.slots) ws words-apart each-apart)

pub all-views : (ps : List Placed) (test mate : Instance → Bool) (ws : List Word) → AreByAddress (words_but test mate ps) ws → (b : Block) → Each (WordIsSound b) ws → Each (λ v. IsTrue (changes v.1) → count_by (λ s. s.view == v.0) (flat_map (λ w. w.slots) ws) ≤ 1) (enumerate_from 0 b.views)
all-views ps test mate ws by b sound =
    Each-numbered_all (λ (v : ℕ × View). IsTrue (changes v.1) → count_by (λ s. s.view == v.0) (flat_map (λ w. w.slots) ws) ≤ 1) b.views (λ i v at changed. one-slot ps test mate ws by b sound i v at changed)
