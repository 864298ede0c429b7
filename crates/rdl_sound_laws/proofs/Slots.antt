-- The slots of words.
use Rattle.std.proofs.Common.{◌≡◌, ◌∙◌, ◌⊎◌, inl, inr, ℕ, ◌+◌, ◌-◌, ◌*◌, ◌/◌, ◌<◌, ◌≤◌, Bool, List, [], max, min, slice_get, Contains, Some, sym, ap, subst, arith}
use Rattle.rdl_tree.specs.declared.node.Elab.{Elab}
use Rattle.rdl_values.specs.Elaborated.{nodes_of, top_name}
use Rattle.rdl_values.specs.Instances.{Instance}
use Rattle.rdl_values.specs.Lineages.{lineages_of}
use Rattle.rdl_values.specs.Verdict.{IsListOf}
use Rattle.rdl_layers.specs.Answers.{IsSettled}
use Rattle.rdl_layers.specs.Fields.{fields_of}
use Rattle.rdl_nodes.proofs.Members.{In, in-map, in-to, place-in}
use Rattle.rdl_addr.specs.Answers.{IsPlaced}
use Rattle.rdl_addr.specs.Bits.{bits_of}
use Rattle.rdl_addr.specs.Layout.{Placed}
use Rattle.rdl_addr.specs.Rules as addr
use Rattle.rb_model.specs.declared.block.Block.{Block}
use Rattle.rb_model.specs.declared.block.Slot.{Slot}
use Rattle.rb_model.specs.declared.block.Word.{Word}
use Rattle.rb_model.specs.References.{Each}
use Rattle.rb_model.specs.Sound.{SlotIsSound}
use Rattle.rdl_rules.specs.Answers.{meaning_fails}
use Rattle.rdl_rules.specs.Block.{IsBlockOf}
use Rattle.rdl_rules.specs.Fields.{view_of}
use Rattle.rdl_rules.specs.Numbers.{registers}
use Rattle.rdl_rules.specs.Words.{AreByAddress, slots_from, word_of, words_but}
use Rattle.rdl_fields.proofs.Fields.{field-in}
use Rattle.rdl_sound_laws.proofs.Meeting.{numbered-in}
use Rattle.rdl_sound_laws.proofs.Placed.{access, same-registers, stands}
use Rattle.rdl_sound_laws.proofs.WordNumbers.{view-listed}
use Rattle.rdl_sound_laws.proofs.Shown.{SlotIn, WordIn, bits-node, each-of, fields-among, in-word, slot-from, some-bit, some-width, word-from}
use Rattle.rdl_sound_laws.proofs.Spans.{low-first}
use Rattle.rdl_sound_laws.specs.Fielded.{HasField, HasOneForm}
use Rattle.rdl_sound_laws.proofs.Failing.{in-one-word, same-word}
use Rattle.rdl_sound_laws.proofs.Widths.{field-wide}

in-field : (base w h l : ℕ) → l < base + w → base ≤ h → l ≤ h → (max base l - l) + (min (base + w - 1) h + 1 - max base l) ≤ h + 1 - l
in-field base w h l a b c = grind (arith, a, b, c)

one-word : (a k h l : ℕ) → (a ≡ 8) ⊎ (a ≡ 16) ⊎ (a ≡ 32) → h / a ≡ l / a → l < k * a + a → k * a ≤ h → (k * a ≤ l) × (h < k * a + a)
one-word a k h l (inl e) q i j = let q' = subst (λ x. h / x ≡ l / x) e q in let i' = subst (λ x. l < k * x + x) e i in let j' = subst (λ x. k * x ≤ h) e j in subst (λ x. (k * x ≤ l) × (h < k * x + x)) (sym e) (omega (arith, q', i', j'), omega (arith, q', i', j'))
one-word a k h l (inr (inl e)) q i j = let q' = subst (λ x. h / x ≡ l / x) e q in let i' = subst (λ x. l < k * x + x) e i in let j' = subst (λ x. k * x ≤ h) e j in subst (λ x. (k * x ≤ l) × (h < k * x + x)) (sym e) (omega (arith, q', i', j'), omega (arith, q', i', j'))
one-word a k h l (inr (inr e)) q i j = let q' = subst (λ x. h / x ≡ l / x) e q in let i' = subst (λ x. l < k * x + x) e i in let j' = subst (λ x. k * x ≤ h) e j in subst (λ x. (k * x ≤ l) × (h < k * x + x)) (sym e) (omega (arith, q', i', j'), omega (arith, q', i', j'))

from-first : (base l : ℕ) → base ≤ l → max base l - l ≡ 0
from-first base l a = grind (arith, a)

all-bits : (base w h l : ℕ) → base ≤ l → h < base + w → l ≤ h → min (base + w - 1) h + 1 - max base l ≡ h + 1 - l
all-bits base w h l a b c = grind (arith, a, b, c)

module _ (e : Elab) (settled : IsSettled e) (placed : IsPlaced e) (clean : IsListOf (meaning_fails e) []) (waits : ℕ) (b : Block) (block : IsBlockOf (Some (top_name e)) e.source.now waits b)
    (one : (n : Instance) → Contains (nodes_of e) n → HasOneForm n) (has : (r f : Instance) → Contains (registers (nodes_of e)) r → Contains (fields_of r) f → HasField (lineages_of e) b r f) where
  abbrev all_registers : List Placed
  all_registers = addr.registers (Some (top_name e)) e.source.now

  register-in : (p : Placed) → In (addr.registers (Some (top_name e)) e.source.now) p → In (registers (nodes_of e)) p.node
  register-in p i = subst (λ ns. In ns p.node) (same-registers (Some (top_name e)) e.source.now) (in-map (λ (x : Placed). x.node) all_registers p i)

  slot-sound : (w : Word) (h : WordIn (addr.registers (Some (top_name e)) e.source.now) w) → (t : Slot) → SlotIn h.of.first_view (h.number * access h.of.register.node) (access h.of.register.node) (bits_of h.of.register.node) t → SlotIsSound b (word_of h.of h.number) t
  slot-sound w h t g =
      let n = h.of.register.node in
      let i = numbered-in 0 0 all_registers h.of h.listed in
      let s = stands e settled placed h.of.register i in
      let a = access n in
      let base = h.number * a in
      let c = g.bits in
      let inside = place-in (bits_of n) g.at c g.here in
      let among = fields-among e settled placed waits b block h.of.register i in
      let up = low-first e settled n among c inside in
      let reg = register-in h.of.register i in
      let own = has n c.node (in-to (registers (nodes_of e)) n reg) (in-to (fields_of n) c.node (field-in n c inside)) in
      let wide = own.wide ∙ field-wide e settled n (λ m k. (among m k, one m (in-to (nodes_of e) m (among m k).0))) c inside in
      let fits = in-field base a c.high c.low g.begins g.ends up in
      subst (SlotIsSound b (word_of h.of h.number)) g.is (record {
        view = view_of (lineages_of e) n c.node;
        field = own.field;
        of_view = ap (λ vs. slice_get vs (h.of.first_view + g.at)) block.views_ ∙ view-listed (Some (top_name e)) e.source.now h.of h.listed g.at c.node (bits-node n g.at c g.here);
        of_field = own.of;
        some_bit = some-bit base a c.high c.low (some-width a s.widths_.wide) g.begins g.ends up;
        in_word = in-word base a c.high c.low g.begins g.ends up;
        in_field = subst (λ x. (max base c.low - c.low) + (min (base + a - 1) c.high + 1 - max base c.low) ≤ x) (sym wide) fits;
        whole = λ changed.
            let q = same-word n c changed (in-one-word e clean n reg c inside) in
            let lies = one-word a h.number c.high c.low s.widths_.wide q g.begins g.ends in
            (from-first base c.low lies.0, all-bits base a c.high c.low lies.0 lies.1 up ∙ sym wide);
      })

  pub all-sound : (test mate : Instance → Bool) (ws : List Word) → AreByAddress (words_but test mate (addr.registers (Some (top_name e)) e.source.now)) ws → Each (λ w. Each (SlotIsSound b w) w.slots) ws
  all-sound test mate ws by = each-of (λ (w : Word). Each (SlotIsSound b w) w.slots) ws (λ w i.
      let h = word-from test mate all_registers ws by w i in
      let a = access h.of.register.node in
      subst (λ (x : Word). Each (SlotIsSound b x) x.slots) h.is (each-of (SlotIsSound b (word_of h.of h.number)) (slots_from h.of.first_view (h.number * a) a (bits_of h.of.register.node)) (λ t g. slot-sound w h t (slot-from h.of.first_view (h.number * a) a (bits_of h.of.register.node) t g))))
