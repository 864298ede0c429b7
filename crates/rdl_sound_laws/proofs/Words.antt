-- The words of a block.
use Rattle.std.proofs.Common.{◌≡◌, ◌∙◌, inl, inr, ℕ, zero, suc, ◌+◌, ◌*◌, ◌<◌, Bool, true, false, List, [], ◌∷◌, length, get_or, slice_get, Contains, Some, refl, sym, ap, subst, arith}
use Rattle.std.specs.List.{AllPairs}
use Rattle.std.specs.Option.{option_map_or}
use Rattle.rdl_tree.specs.declared.item.Kind.TheVariants as kind
use Rattle.rdl_tree.specs.declared.node.Elab.{Elab}
use Rattle.rdl_values.specs.Elaborated.{nodes_of, top_name}
use Rattle.rdl_values.specs.Instances.{Instance}
use Rattle.rdl_values.specs.Lineages.{lineages_of}
use Rattle.rdl_values.specs.Verdict.{IsListOf}
use Rattle.rdl_layers.specs.Answers.{IsSettled}
use Rattle.rdl_layers.specs.Fields.{fields_of, is_a, is_alias}
use Rattle.rdl_nodes.proofs.Members.{In, in-map, place-in}
use Rattle.rdl_addr.specs.Answers.{IsPlaced}
use Rattle.rdl_addr.specs.Bits.{bits_of}
use Rattle.rdl_addr.specs.Layout.{Placed}
use Rattle.rdl_addr.specs.Rules as addr
use Rattle.rb_model.specs.declared.block.Block.{Block}
use Rattle.rb_model.specs.declared.block.Slot.{Slot}
use Rattle.rb_model.specs.declared.block.Word.{Word}
use Rattle.rb_model.specs.References.{Each}
use Rattle.rb_model.specs.Sound.{SlotIsSound, StandTogether, WordIsSound, field_number}
use Rattle.rdl_rules.specs.Answers.{meaning_fails}
use Rattle.rdl_rules.specs.Block.{IsBlockOf}
use Rattle.rdl_rules.specs.Fields.{view_of}
use Rattle.rdl_rules.specs.Numbers.{registers}
use Rattle.rdl_rules.specs.Words.{AreByAddress, words_but}
use Rattle.rdl_fields.proofs.Lists.{filter-in}
use Rattle.rdl_fields.proofs.Fields.{field-in}
use Rattle.rdl_sound_laws.proofs.Meeting.{numbered-in}
use Rattle.rdl_sound_laws.proofs.Placed.{access, same-registers}
use Rattle.rdl_sound_laws.specs.Shown.{IsOfRegister, StandApart}
use Rattle.rdl_sound_laws.proofs.WordNumbers.{view-listed}
use Rattle.rdl_sound_laws.proofs.Shown.{SlotIn, WordIn, all-of-registers, bits-node, each-of, slot-from, word-from}
use Rattle.rdl_sound_laws.proofs.Together.{all-apart}
use Rattle.rdl_sound_laws.specs.Fielded.{HasField, HasOneForm, HavePrimaries}
use Rattle.rdl_sound_laws.proofs.Aliases.{all-alias-fields}
use Rattle.rdl_sound_laws.proofs.Differing.{one-field, same-place}
use Rattle.rdl_sound_laws.proofs.Fields.{own-field}
use Rattle.rdl_sound_laws.proofs.Slots.{all-sound}

get-in : {X : Type 0} (xs : List X) (i : ℕ) (d : X) → i < length xs → In xs (get_or xs i d)
get-in [] i d l = absurd (omega (arith, l))
get-in (x ∷ xs) zero d l = inl refl
get-in (x ∷ xs) (suc i) d l = inr (get-in xs i d (omega (arith, l)))

each-three : {X : Type 0} (P Q R S T : X → Type 0) (xs : List X) → ((x : X) → P x → Q x → R x → S x → T x) → Each P xs → Each Q xs → Each R xs → Each S xs → Each T xs
each-three P Q R S T [] f p q r s = tt
each-three P Q R S T (x ∷ xs) f p q r s = (f x p.0 q.0 r.0 s.0, each-three P Q R S T xs f p.1 q.1 r.1 s.1)

module _ (e : Elab) (settled : IsSettled e) (placed : IsPlaced e) (clean : IsListOf (meaning_fails e) []) (waits : ℕ) (b : Block) (block : IsBlockOf (Some (top_name e)) e.source.now waits b) (one : (n : Instance) → Contains (nodes_of e) n → HasOneForm n) (mates : HavePrimaries (nodes_of e)) where
  abbrev all_registers : List Placed
  all_registers = addr.registers (Some (top_name e)) e.source.now

  has-field : (r f : Instance) → Contains (registers (nodes_of e)) r → Contains (fields_of r) f → HasField (lineages_of e) b r f
  has-field r f i h = by (is_alias r) refl
    where
      by : (t : Bool) → is_alias r ≡ t → HasField (lineages_of e) b r f
      by false own = (own-field (Some (top_name e)) e.source.now waits b r f block i own h).has
      by true alias = let m = mates r i alias in all-alias-fields e settled clean waits b block one r m.0 f i alias m.1 m.2 h

  abbrev OneView : Word → Type 0
  OneView w = (s t : Slot) → In w.slots s → In w.slots t → field_number b s ≡ field_number b t → s.view ≡ t.view

  number-at : (w : Word) (h : WordIn (addr.registers (Some (top_name e)) e.source.now) w) (t : Slot) (first base a : ℕ) → first ≡ h.of.first_view → (g : SlotIn first base a (bits_of h.of.register.node) t) → (t.view ≡ h.of.first_view + g.at) × (field_number b t ≡ (view_of (lineages_of e) h.of.register.node g.bits.node).field)
  number-at w h t first base a is g =
      let view : t.view ≡ h.of.first_view + g.at = ap (λ (x : Slot). x.view) (sym g.is) ∙ ap (λ n. n + g.at) is in
      let here = view-listed (Some (top_name e)) e.source.now h.of h.listed g.at g.bits.node (bits-node h.of.register.node g.at g.bits g.here) in
      (view, ap (λ k. option_map_or (λ v. v.field) (slice_get b.views k) 0) view ∙ (ap (λ vs. option_map_or (λ v. v.field) (slice_get vs (h.of.first_view + g.at)) 0) block.views_ ∙ ap (λ o. option_map_or (λ v. v.field) o 0) here))

  one-view : (w : Word) → WordIn (addr.registers (Some (top_name e)) e.source.now) w → OneView w
  one-view w h s t i j same =
      let n = h.of.register.node in
      let a = access n in
      let base = h.number * a in
      let x = slot-from h.of.first_view base a (bits_of n) s (subst (λ (v : Word). In v.slots s) (sym h.is) i) in
      let y = slot-from h.of.first_view base a (bits_of n) t (subst (λ (v : Word). In v.slots t) (sym h.is) j) in
      let p = number-at w h s h.of.first_view base a refl x in
      let q = number-at w h t h.of.first_view base a refl y in
      let reg : In (registers (nodes_of e)) n = subst (λ ns. In ns n) (same-registers (Some (top_name e)) e.source.now) (in-map (λ (z : Placed). z.node) all_registers h.of.register (numbered-in 0 0 all_registers h.of h.listed)) in
      let node = filter-in (is_a kind.Reg) (nodes_of e) n reg in
      let field = one-field e settled clean waits b block one mates n x.bits.node y.bits.node reg (field-in n x.bits (place-in (bits_of n) x.at x.bits x.here)) (field-in n y.bits (place-in (bits_of n) y.at y.bits y.here)) (sym p.1 ∙ (same ∙ q.1)) in
      let place = same-place e n node x.at y.at x.bits.node y.bits.node (bits-node n x.at x.bits x.here) (bits-node n y.at y.bits y.here) field in
      p.0 ∙ (ap (λ k. h.of.first_view + k) place ∙ sym q.0)

  pub all-words : (test mate : Instance → Bool) (ws : List Word) → AreByAddress (words_but test mate (addr.registers (Some (top_name e)) e.source.now)) ws → Each (WordIsSound b) ws
  all-words test mate ws by =
      each-three (IsOfRegister b) (λ w. Each (SlotIsSound b w) w.slots) (λ w. AllPairs (StandApart b) w.slots) OneView (WordIsSound b) ws (λ w r s p o. record { wide = r.wide; in_register = r.in_register; slots = s; together = together w p o })
      (all-of-registers e settled placed waits b block test mate ws by)
      (all-sound e settled placed clean waits b block one has-field test mate ws by)
      (all-apart e settled placed waits b block test mate ws by)
      (each-of OneView ws (λ w i. one-view w (word-from test mate all_registers ws by w i)))
    where
      together : (w : Word) → AllPairs (StandApart b) w.slots → OneView w → AllPairs (StandTogether b) w.slots
      together w p o = λ i j d l m.
          let apart = p i j d l m in
          record {
            one_view = o (get_or w.slots i d) (get_or w.slots j d) (get-in w.slots i d (omega (arith, l, m))) (get-in w.slots j d m);
            one_reads = apart.one_reads;
            one_writes = apart.one_writes;
          }
