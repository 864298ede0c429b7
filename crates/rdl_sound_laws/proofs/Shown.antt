-- Words of registers, and their slots.
use Rattle.std.proofs.Common.{◌≡◌, ◌∙◌, ◌⊎◌, inl, inr, ℕ, zero, suc, ◌+◌, ◌-◌, ◌*◌, ◌/◌, ◌<◌, ◌≤◌, ◌&&◌, Bool, true, false, not, max, min, nat_lt, List, [], ◌∷◌, map, filter, length, slice_get, Some, refl, sym, ap, subst, arith}
use Rattle.std.specs.Prelude.{nat_le}
use Rattle.std.specs.List.{AllByRecursion}
use Rattle.std.proofs.lemmas.Bool.Decides.{nat_tests}
use Rattle.std.proofs.lemmas.List.Sorted.{Contains-permutation, IsPermutation-sym}
use Rattle.rdl_tree.specs.declared.item.Kind.TheVariants as kind
use Rattle.rdl_tree.specs.declared.node.Elab.{Elab}
use Rattle.rdl_values.specs.Elaborated.{nodes_of, top_name}
use Rattle.rdl_values.specs.Faults.{when}
use Rattle.rdl_values.specs.Instances.{Instance, children, upto}
use Rattle.rdl_values.specs.Lineages.{lineages}
use Rattle.rdl_layers.specs.Answers.{IsSettled}
use Rattle.rdl_layers.specs.Fields.{fields_of, is_a}
use Rattle.rdl_nodes.proofs.Members.{In, each-in, flat-in, in-either, in-from, in-to, map-in, place-in}
use Rattle.rdl_sound_laws.proofs.Closed.{all-closed}
use Rattle.rdl_addr.specs.Answers.{IsPlaced}
use Rattle.rdl_addr.specs.Bits.{Bits, bits_of}
use Rattle.rdl_addr.specs.Layout.{Placed, layout}
use Rattle.rdl_addr.specs.Rules.{registers}
use Rattle.rb_model.specs.declared.block.Block.{Block}
use Rattle.rb_model.specs.declared.block.Slot.{Slot}
use Rattle.rb_model.specs.declared.block.Word.{Word}
use Rattle.rb_model.specs.References.{Each}
use Rattle.rdl_rules.specs.Block.{IsBlockOf, reg_of}
use Rattle.rdl_rules.specs.Fields.{view_of}
use Rattle.rdl_rules.specs.Numbers.{Numbered, numbered}
use Rattle.rdl_rules.specs.Words.{AreByAddress, shares_with, slot, slots_from, word_of, words_but, words_of}
use Rattle.rdl_fields.proofs.Lists.{filter-in, filter-true}
use Rattle.rdl_fields.proofs.Fields.{nodes-are}
use Rattle.rdl_sound_laws.proofs.Meeting.{below-upto, numbered-in}
use Rattle.rdl_sound_laws.proofs.Placed.{Stands, access, in-nodes, stands, width}
use Rattle.rdl_sound_laws.specs.Shown.{IsOfRegister, IsShown}
use Rattle.rdl_sound_laws.proofs.WordNumbers.{as-many, number-below, view-listed}
use Rattle.rdl_sound_laws.proofs.Spans.{low-first}

pub each-of : {X : Type 0} (P : X → Type 0) (xs : List X) → ((x : X) → In xs x → P x) → Each P xs
each-of P [] h = tt
each-of P (x ∷ xs) h = (h x (inl refl), each-of P xs (λ y i. h y (inr i)))

-- The word is one of a register.
pub record WordIn (ps : List Placed) (w : Word) : Type 0 where
  pub of : Numbered Placed
  pub listed : In (numbered (λ p. p.node) ps) of
  pub number : ℕ
  pub below : number < width of.register.node / access of.register.node
  pub is : word_of of number ≡ w

pub word-from : (test mate : Instance → Bool) (ps : List Placed) (ws : List Word) → AreByAddress (words_but test mate ps) ws → (w : Word) → In ws w → WordIn ps w
word-from test mate ps ws by w h =
    let i = in-from (words_but test mate ps) w (Contains-permutation ws (words_but test mate ps) w (IsPermutation-sym (words_but test mate ps) ws by.same) (in-to ws w h)) in
    let r = flat-in words_of (filter (λ r. not (test r.register.node && shares_with mate ps r.register)) (numbered (λ (p : Placed). p.node) ps)) w i in
    let n = width r.0.register.node / access r.0.register.node in
    let k = map-in (word_of r.0) (upto n) w r.2 in
    record {
      of = r.0;
      listed = filter-in (λ r. not (test r.register.node && shares_with mate ps r.register)) (numbered (λ (p : Placed). p.node) ps) r.0 r.1;
      number = k.0;
      below = each-in (λ j. j < n) (upto n) k.0 (below-upto n) k.1;
      is = k.2;
    }

-- The part of a view that a slot shows.
pub record SlotIn (first base w : ℕ) (bs : List Bits) (s : Slot) : Type 0 where
  pub at : ℕ
  pub bits : Bits
  pub here : slice_get bs at ≡ Some bits
  pub begins : bits.low < base + w
  pub ends : base ≤ bits.high
  pub is : record { view = first + at; low = max base bits.low - base; from = max base bits.low - bits.low; bits = min (base + w - 1) bits.high + 1 - max base bits.low } ≡ s

pub when-in : {X : Type 0} (t : Bool) (x y : X) → In (when t x) y → (t ≡ true) × (x ≡ y)
when-in true x y (inl e) = (refl, e)
when-in true x y (inr h) = absurd h
when-in false x y h = absurd h

both-tests : (l h base w : ℕ) → (nat_lt l (base + w) && nat_le base h) ≡ true → (l < base + w) × (base ≤ h)
both-tests l h base w e = (grind (arith, nat_tests, e), grind (arith, nat_tests, e))

pub slot-from : (first base w : ℕ) (bs : List Bits) (s : Slot) → In (slots_from first base w bs) s → SlotIn first base w bs s
slot-from first base w [] s h = absurd h
slot-from first base w (b ∷ bs) s h = by (in-either (slot first base w b) (slots_from (first + 1) base w bs) s h) (λ g. slot-from (first + 1) base w bs s g)
  where
    none : first ≡ first + 0
    none = omega arith

    by : In (slot first base w b) s ⊎ In (slots_from (first + 1) base w bs) s → (In (slots_from (first + 1) base w bs) s → SlotIn (first + 1) base w bs s) → SlotIn first base w (b ∷ bs) s
    by (inl g) rest =
        let p = when-in (nat_lt b.low (base + w) && nat_le base b.high) (record { view = first; low = max base b.low - base; from = max base b.low - b.low; bits = min (base + w - 1) b.high + 1 - max base b.low }) s g in
        let t = both-tests b.low b.high base w p.0 in
        record { at = 0; bits = b; here = refl; begins = t.0; ends = t.1; is = (λ i. record { view = sym none i; low = max base b.low - base; from = max base b.low - b.low; bits = min (base + w - 1) b.high + 1 - max base b.low }) ∙ p.1 }
    by (inr g) rest =
        let r = rest g in
        record { at = suc r.at; bits = r.bits; here = r.here; begins = r.begins; ends = r.ends; is = (λ i. record { view = later r.at i; low = max base r.bits.low - base; from = max base r.bits.low - r.bits.low; bits = min (base + w - 1) r.bits.high + 1 - max base r.bits.low }) ∙ r.is }
      where
        later : (k : ℕ) → first + suc k ≡ first + 1 + k
        later k = omega arith

pub some-bit : (base w h l : ℕ) → 0 < w → l < base + w → base ≤ h → l ≤ h → 0 < min (base + w - 1) h + 1 - max base l
some-bit base w h l z a b c = grind (arith, z, a, b, c)

pub in-word : (base w h l : ℕ) → l < base + w → base ≤ h → l ≤ h → (max base l - base) + (min (base + w - 1) h + 1 - max base l) ≤ w
in-word base w h l a b c = grind (arith, a, b, c)

pub some-width : (a : ℕ) → (a ≡ 8) ⊎ (a ≡ 16) ⊎ (a ≡ 32) → 0 < a
some-width a (inl e) = omega (arith, e)
some-width a (inr (inl e)) = omega (arith, e)
some-width a (inr (inr e)) = omega (arith, e)

pub bits-node : (r : Instance) (j : ℕ) (b : Bits) → slice_get (bits_of r) j ≡ Some b → slice_get (fields_of r) j ≡ Some b.node
bits-node r j b at = ap (λ ns. slice_get ns j) (sym (nodes-are r)) ∙ get-map (bits_of r) j at
  where
    get-map : (bs : List Bits) (j : ℕ) → slice_get bs j ≡ Some b → slice_get (map (λ x. x.node) bs) j ≡ Some b.node
    get-map [] j e = cc e
    get-map (x ∷ xs) zero e = let same : x ≡ b = cc e in ap (λ (y : Bits). Some y.node) same
    get-map (x ∷ xs) (suc j) e = get-map xs j e

module _ (e : Elab) (settled : IsSettled e) (placed : IsPlaced e) (waits : ℕ) (b : Block) (block : IsBlockOf (Some (top_name e)) e.source.now waits b) where
  abbrev all_registers : List Placed
  all_registers = registers (Some (top_name e)) e.source.now

  of-word : (w : Word) → WordIn (registers (Some (top_name e)) e.source.now) w → IsOfRegister b w
  of-word w h =
      let s = stands e settled placed h.of.register (numbered-in 0 0 all_registers h.of h.listed) in
      let low = number-below 0 0 all_registers h.of h.listed in
      let many = as-many (Some (top_name e)) e.source.now in
      let regs = ap length block.regs ∙ length-map reg_of _ in
      subst (IsOfRegister b) h.is (record { wide = s.widths_.wide; in_register = omega (arith, low, many, regs) })
    where
      length-map : {X Y : Type 0} (f : X → Y) (xs : List X) → length (map f xs) ≡ length xs
      length-map f [] = refl
      length-map f (x ∷ xs) = ap suc (length-map f xs)

  -- the fields of a register are nodes
  pub fields-among : (p : Placed) → In (registers (Some (top_name e)) e.source.now) p → (n : Instance) → In (fields_of p.node) n → In (nodes_of e) n × (is_a kind.Field n ≡ true)
  fields-among p i n h =
      let all = layout (Some (top_name e)) e.source.now in
      let own = in-nodes e p (filter-in (λ (x : Placed). is_a kind.Reg x.node) all p i) in (
        each-in (In (nodes_of e)) (children p.node) n (each-in (λ x. AllByRecursion (In (nodes_of e)) (children x)) (nodes_of e) p.node (all-closed (Some (top_name e)) e.source.now) own) (filter-in (is_a kind.Field) (children p.node) n h),
        filter-true (is_a kind.Field) (children p.node) n h,
      )

  shown : (w : Word) → WordIn (registers (Some (top_name e)) e.source.now) w → Each (IsShown b w) w.slots
  shown w h =
      let i = numbered-in 0 0 all_registers h.of h.listed in
      let s = stands e settled placed h.of.register i in
      let a = access h.of.register.node in
      subst (λ (x : Word). Each (IsShown b x) x.slots) h.is (each-of (IsShown b (word_of h.of h.number)) (slots_from h.of.first_view (h.number * a) a (bits_of h.of.register.node)) (λ t g. by i s t (slot-from h.of.first_view (h.number * a) a (bits_of h.of.register.node) t g)))
    where
      by : In (registers (Some (top_name e)) e.source.now) h.of.register → Stands h.of.register → (t : Slot) → SlotIn h.of.first_view (h.number * access h.of.register.node) (access h.of.register.node) (bits_of h.of.register.node) t → IsShown b (word_of h.of h.number) t
      by i s t g =
          let n = h.of.register.node in
          let up = low-first e settled n (fields-among h.of.register i) g.bits (place-in (bits_of n) g.at g.bits g.here) in
          subst (IsShown b (word_of h.of h.number)) g.is (record {
            view = view_of (lineages (Some (top_name e)) e.source.now) n g.bits.node;
            of_view = ap (λ vs. slice_get vs (h.of.first_view + g.at)) block.views_ ∙ view-listed (Some (top_name e)) e.source.now h.of h.listed g.at g.bits.node (bits-node n g.at g.bits g.here);
            some_bit = some-bit (h.number * access n) (access n) g.bits.high g.bits.low (some-width (access n) s.widths_.wide) g.begins g.ends up;
            in_word = in-word (h.number * access n) (access n) g.bits.high g.bits.low g.begins g.ends up;
          })

  pub all-of-registers : (test mate : Instance → Bool) (ws : List Word) → AreByAddress (words_but test mate (registers (Some (top_name e)) e.source.now)) ws → Each (IsOfRegister b) ws
  all-of-registers test mate ws by = each-of (IsOfRegister b) ws (λ w h. of-word w (word-from test mate all_registers ws by w h))

  pub all-shown : (test mate : Instance → Bool) (ws : List Word) → AreByAddress (words_but test mate (registers (Some (top_name e)) e.source.now)) ws → Each (λ w. Each (IsShown b w) w.slots) ws
  all-shown test mate ws by = each-of (λ (w : Word). Each (IsShown b w) w.slots) ws (λ w h. shown w (word-from test mate all_registers ws by w h))
