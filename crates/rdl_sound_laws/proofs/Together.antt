-- The slots of one word.
use Rattle.std.proofs.Common.{◌≡◌, ◌∙◌, ℕ, ◌+◌, ◌*◌, ◌≤◌, Bool, false, List, [], ◌∷◌, filter, flat_map, slice_get, Some, ap, subst}
use Rattle.std.specs.List.{AllPairs}
use Rattle.std.specs.Option.{option_map_or}
use Rattle.plain_lemmas.proofs.Lists.{each-both}
use Rattle.rdl_tree.specs.declared.item.Kind.TheVariants as kind
use Rattle.rdl_tree.specs.declared.node.Elab.{Elab}
use Rattle.rdl_values.specs.Bodies.{standing}
use Rattle.rdl_values.specs.Elaborated.{nodes_of, top_name}
use Rattle.rdl_values.specs.Instances.{Instance}
use Rattle.rdl_values.specs.Lineages.{lineages}
use Rattle.rdl_props.specs.declared.prop.Prop.TheVariants as prop
use Rattle.rdl_layers.specs.Answers.{IsSettled}
use Rattle.rdl_layers.specs.Fields.{is_a, reads_word, writes_word}
use Rattle.rdl_layers.specs.Settings.{setting}
use Rattle.rdl_nodes.proofs.Apart.{Apart, pairs}
use Rattle.rdl_nodes.proofs.Members.{In}
use Rattle.rdl_addr.specs.Answers.{IsPlaced}
use Rattle.rdl_addr.specs.Bits.{Bits, bits_of}
use Rattle.rdl_addr.specs.Layout.{Placed, layout}
use Rattle.rdl_addr.specs.Rules.{of_bits, registers}
use Rattle.rb_model.specs.declared.block.Block.{Block}
use Rattle.rb_model.specs.declared.block.Slot.{Slot}
use Rattle.rb_model.specs.declared.block.Word.{Word}
use Rattle.rb_model.specs.References.{Each}
use Rattle.rb_model.specs.Sound.{view_passes}
use Rattle.rdl_rules.specs.Block.{IsBlockOf}
use Rattle.rdl_rules.specs.Fields.{view_of}
use Rattle.rdl_rules.specs.Words.{AreByAddress, slots_from, words_but}
use Rattle.rdl_fields.proofs.Lists.{filter-in, filter-true, in-filter}
use Rattle.rdl_sound_laws.proofs.Meeting.{numbered-in}
use Rattle.rdl_sound_laws.proofs.Placed.{access, in-nodes, nil-in, none-outside}
use Rattle.rdl_sound_laws.specs.Shown.{StandApart}
use Rattle.rdl_sound_laws.proofs.WordNumbers.{view-listed}
use Rattle.rdl_sound_laws.proofs.Sharing.{Clear, NotBoth, all-clear, no-two-reads, no-two-writes, slots-apart}
use Rattle.rdl_sound_laws.proofs.Shown.{WordIn, bits-node, each-of, fields-among, word-from}
use Rattle.rdl_sound_laws.proofs.Spans.{low-first}

apart-both : {X : Type 0} (R S T : X → X → Type 0) (xs : List X) → ((x y : X) → R x y → S x y → T x y) → Apart R xs → Apart S xs → Apart T xs
apart-both R S T [] f h g = tt
apart-both R S T (x ∷ xs) f h g = (each-both (R x) (S x) (T x) xs (f x) h.0 g.0, apart-both R S T xs f h.1 g.1)

module _ (e : Elab) (settled : IsSettled e) (placed : IsPlaced e) (waits : ℕ) (b : Block) (block : IsBlockOf (Some (top_name e)) e.source.now waits b) where
  abbrev all_registers : List Placed
  all_registers = registers (Some (top_name e)) e.source.now

  clear-bits : (p : Placed) → In (registers (Some (top_name e)) e.source.now) p → Apart Clear (bits_of p.node)
  clear-bits p i =
      let all = layout (Some (top_name e)) e.source.now in
      let reg = filter-true (λ (x : Placed). is_a kind.Reg x.node) all p i in
      let own = in-filter (is_a kind.Reg) (nodes_of e) p.node (in-nodes e p (filter-in (λ (x : Placed). is_a kind.Reg x.node) all p i)) reg in
      all-clear p.node (bits_of p.node) (nil-in (λ r. flat_map (of_bits r) (standing (bits_of r))) (filter (is_a kind.Reg) (nodes_of e)) p.node (none-outside e settled placed) own)

  module _ (w : Word) (h : WordIn (registers (Some (top_name e)) e.source.now) w) where
    abbrev first : ℕ
    first = h.of.first_view

    abbrev bits : List Bits
    bits = bits_of h.of.register.node

    here : In (registers (Some (top_name e)) e.source.now) h.of.register
    here = numbered-in 0 0 all_registers h.of h.listed

    up : (c : Bits) → In (bits_of h.of.register.node) c → c.low ≤ c.high
    up c i = low-first e settled h.of.register.node (fields-among e settled placed waits b block h.of.register here) c i

    view-at : (j : ℕ) (c : Bits) → slice_get (bits_of h.of.register.node) j ≡ Some c → slice_get b.views (h.of.first_view + j) ≡ Some (view_of (lineages (Some (top_name e)) e.source.now) h.of.register.node c.node)
    view-at j c at = ap (λ vs. slice_get vs (first + j)) block.views_ ∙ view-listed (Some (top_name e)) e.source.now h.of h.listed j c.node (bits-node h.of.register.node j c at)

    read-tells : (j : ℕ) (c : Bits) (t : Slot) → slice_get (bits_of h.of.register.node) j ≡ Some c → t.view ≡ h.of.first_view + j → view_passes b (λ v. v.reads) t ≡ reads_word (setting c.node prop.Sw)
    read-tells j c t at view = ap (λ k. option_map_or (λ v. v.reads) (slice_get b.views k) false) view ∙ ap (λ o. option_map_or (λ v. v.reads) o false) (view-at j c at)

    write-tells : (j : ℕ) (c : Bits) (t : Slot) → slice_get (bits_of h.of.register.node) j ≡ Some c → t.view ≡ h.of.first_view + j → view_passes b (λ v. v.writes) t ≡ writes_word (setting c.node prop.Sw)
    write-tells j c t at view = ap (λ k. option_map_or (λ v. v.writes) (slice_get b.views k) false) view ∙ ap (λ o. option_map_or (λ v. v.writes) o false) (view-at j c at)

    apart : AllPairs (StandApart b) w.slots
    apart =
        let a = access h.of.register.node in
        let base = h.number * a in
        let clear = clear-bits h.of.register here in
        let reads = slots-apart (view_passes b (λ v. v.reads)) reads_word no-two-reads first base a bits read-tells clear up in
        let writes = slots-apart (view_passes b (λ v. v.writes)) writes_word no-two-writes first base a bits write-tells clear up in
        subst (λ (x : Word). AllPairs (StandApart b) x.slots) h.is
        (pairs (StandApart b) (slots_from first base a bits)
        (apart-both (NotBoth (view_passes b (λ v. v.reads)) reads_word no-two-reads) (NotBoth (view_passes b (λ v. v.writes)) writes_word no-two-writes) (StandApart b) (slots_from first base a bits)
        (λ s t r q. record { one_reads = r; one_writes = q }) reads writes))

  pub all-apart : (test mate : Instance → Bool) (ws : List Word) → AreByAddress (words_but test mate (registers (Some (top_name e)) e.source.now)) ws → Each (λ w. AllPairs (StandApart b) w.slots) ws
  all-apart test mate ws by = each-of (λ (w : Word). AllPairs (StandApart b) w.slots) ws (λ w h. apart w (word-from test mate all_registers ws by w h))
