-- What tells the words of a source's block, and the slots of a word, apart.
use Rattle.std.proofs.Common.{◌≡◌, ◌∙◌, ◌⊎◌, inl, inr, ℕ, zero, suc, ◌+◌, ◌*◌, ◌/◌, ◌<◌, ◌≤◌, ◌^◌, ◌==◌, Bool, true, false, not, ◌&&◌, List, [], ◌∷◌, ◌++◌, append_assoc, flat_map, get_or, length, map, slice_get, Option, Some, refl, sym, ap, subst, arith}
use Rattle.std.specs.Prelude.{AllPairs, IsTrue}
use Rattle.std.specs.List.{join_with_byte, list_all}
use Rattle.std.specs.List.Sorted.{IsStrictlyIncreasing}
use Rattle.std.proofs.Math.Nat.{div-le_self}
use Rattle.std.proofs.lemmas.List.Elements.{recursion_from_All}
use Rattle.std.proofs.lemmas.Option.{get_or_from_slice_get}
use Rattle.plain_lemmas.proofs.Bools.{and-right}
use Rattle.plain_lemmas.proofs.Lists.{get-map_at, get-within, get_or-below}
use Rattle.v_design.specs.Lexemes.{is_name}
use Rattle.rb_model.specs.declared.block.Block.{Block}
use Rattle.rb_model.specs.declared.block.Reg.{Reg}
use Rattle.rb_model.specs.declared.block.Slot.{Slot}
use Rattle.rb_model.specs.declared.block.Word.{Word}
use Rattle.rb_model.specs.Apart.{HaveOtherViews, IsApart, IsNamedIn, IsWordAt, WordIsApart}
use Rattle.rb_model.specs.References.{Each}
use Rattle.rb_model.specs.Sound.{IsSound}
use Rattle.rdl_tree.specs.declared.item.Kind.TheVariants as kind
use Rattle.rdl_tree.specs.declared.item.Source.{Source}
use Rattle.rdl_tree.specs.declared.node.Elab.{Elab}
use Rattle.rdl_tree.specs.Kinds.{same_kind}
use Rattle.rdl_tree.specs.Words.{IsWordName}
use Rattle.rdl_values.specs.Elaborated.{nodes_of, top_name}
use Rattle.rdl_values.specs.Instances.{Instance, children, kind_of, most_names, nodes, signals, top_of, with_below}
use Rattle.rdl_values.specs.Lineages.{lineages_of}
use Rattle.rdl_values.specs.Paths.{Path, Step, below_top, in_node, joined, path_in, path_text, words_of}
use Rattle.rdl_values.specs.Verdict.{IsListOf}
use Rattle.rdl_values.proofs.Given.{tops-given}
use Rattle.rdl_layers.specs.Fields.{fields_of, is_a}
use Rattle.rdl_nodes.proofs.Apart.{pairs}
use Rattle.rdl_nodes.proofs.Members.{In, each-in, in-flat, in-map, in-right, place-in}
use Rattle.rdl_addr.specs.Bits.{bits_of}
use Rattle.rdl_addr.specs.Layout.{Placed}
use Rattle.rdl_addr.specs.Rules as addr
use Rattle.rdl_addr.specs.Rules.{is_read_only, is_write_only}
use Rattle.rdl_fields.proofs.Lists.{filter-in, filter-true}
use Rattle.rdl_rules.specs.Answers.{IsReady, meaning_fails}
use Rattle.rdl_rules.specs.Block.{IsBlockOf, reg_of}
use Rattle.rdl_rules.specs.Fields.{view_of}
use Rattle.rdl_rules.specs.Numbers.{Numbered, numbered, numbered_from, registers}
use Rattle.rdl_rules.specs.Words.{slots_from, word_of}
use Rattle.rdl_sound_laws.proofs.Closed.{one-node}
use Rattle.rdl_sound_laws.proofs.Meeting.{numbered-in}
use Rattle.rdl_sound_laws.proofs.Names.{IsRegister, all_registers, word_named}
use Rattle.rdl_sound_laws.proofs.Placed.{access, same-registers, stands, width}
use Rattle.rdl_sound_laws.proofs.RegisterNames.{child-path, field-in-nodes, field-kind}
use Rattle.rdl_sound_laws.proofs.Shown.{SlotIn, WordIn, bits-node, each-of, slot-from, word-from}
use Rattle.rdl_sound_laws.proofs.Top.{top-map}
use Rattle.rdl_sound_laws.proofs.ViewNumbers.{NotBoth, word-apart}
use Rattle.rdl_sound_laws.proofs.WordNumbers.{view-listed}
use Rattle.rdl_block_laws.proofs.ShortPaths.{short-register, words-append}

-- Registers by their numbers.

number-from : (k v : ℕ) (ps : List Placed) (r : Numbered Placed) → In (numbered_from (λ p. p.node) k v ps) r → k ≤ r.number
number-from k v [] r h = absurd h
number-from k v (p ∷ ps) r (inl e) = let q = ap (λ (x : Numbered Placed). x.number) e in omega (arith, q)
number-from k v (p ∷ ps) r (inr h) = let more = number-from (k + 1) (v + length (fields_of p.node)) ps r h in omega (arith, more)

one-numbered : (k v : ℕ) (ps : List Placed) (r s : Numbered Placed) → In (numbered_from (λ p. p.node) k v ps) r → In (numbered_from (λ p. p.node) k v ps) s → r.number ≡ s.number → r ≡ s
one-numbered k v [] r s h g e = absurd h
one-numbered k v (p ∷ ps) r s (inl d) (inl f) e = sym d ∙ f
one-numbered k v (p ∷ ps) r s (inl d) (inr g) e =
    let own = ap (λ (x : Numbered Placed). x.number) d in
    let more = number-from (k + 1) (v + length (fields_of p.node)) ps s g in
    absurd (omega (arith, own, more, e))
one-numbered k v (p ∷ ps) r s (inr h) (inl f) e =
    let own = ap (λ (x : Numbered Placed). x.number) f in
    let more = number-from (k + 1) (v + length (fields_of p.node)) ps r h in
    absurd (omega (arith, own, more, e))
one-numbered k v (p ∷ ps) r s (inr h) (inr g) e = one-numbered (k + 1) (v + length (fields_of p.node)) ps r s h g e

listed-from : (k v : ℕ) (ps : List Placed) (r : Numbered Placed) → In (numbered_from (λ p. p.node) k v ps) r → (j : ℕ) × (r.number ≡ k + j) × (slice_get ps j ≡ Some r.register)
listed-from k v [] r h = absurd h
listed-from k v (p ∷ ps) r (inl e) = (0, sym (ap (λ (x : Numbered Placed). x.number) e) ∙ omega arith, ap (λ (x : Numbered Placed). Some x.register) e)
listed-from k v (p ∷ ps) r (inr h) = let more = listed-from (k + 1) (v + length (fields_of p.node)) ps r h in let at = more.1 in (suc more.0, omega (arith, at), more.2)

-- Texts of paths.

joined-behind : (first : List ℕ) (ws : List (List ℕ)) (name : List ℕ) → join_with_byte 36 ((first ∷ ws) ++ (name ∷ [])) ≡ join_with_byte 36 (first ∷ ws) ++ 36 ∷ name
joined-behind first [] name = refl
joined-behind first (w ∷ ws) name = ap (λ rest. first ++ 36 ∷ rest) (joined-behind w ws name) ∙ sym (append_assoc first (36 ∷ join_with_byte 36 (w ∷ ws)) (36 ∷ name))

text-behind : (s : Step) (ss : List Step) (name : List ℕ) → joined ((s ∷ ss) ++ (record { name = name; index = [] } ∷ [])) ≡ joined (s ∷ ss) ++ 36 ∷ name
text-behind s ss name = ap (join_with_byte 36) (words-append (s ∷ ss) (record { name = name; index = [] } ∷ [])) ∙ joined-behind s.name _ name

-- One address has one place.

one-place : (xs : List ℕ) (i j : ℕ) (x : ℕ) → IsStrictlyIncreasing xs → slice_get xs i ≡ Some x → slice_get xs j ≡ Some x → i ≡ j
one-place xs i j x rising at_i at_j =
    let below = never i j at_i at_j in
    let above = never j i at_j at_i in
    grind (arith, below, above)
  where
    never : (k l : ℕ) → slice_get xs k ≡ Some x → slice_get xs l ≡ Some x → k < l → ⊥
    never k l at_k at_l less =
        let here = get_or_from_slice_get xs k x 0 at_k in
        let there = get_or_from_slice_get xs l x 0 at_l in
        let rise = get_or-below xs rising k l less (get-within xs l x at_l) in
        omega (arith, here, there, rise)

top-node : (wanted : Option (List ℕ)) (s : Source) (t : Instance) → In (top_of wanted s) t → In (nodes wanted s) t
unfolding nodes
top-node wanted s t h = in-right (signals s) (flat_map (with_below most_names) (top_of wanted s)) t (in-flat (with_below most_names) (top_of wanted s) t t h (inl refl))

module _ (e : Elab) (ready : IsReady e) (clean : IsListOf (meaning_fails e) []) (b : Block) (is : IsBlockOf (Some (top_name e)) e.source.now 0 b) (sound : IsSound b) where
  abbrev all : List Placed
  all = addr.registers (Some (top_name e)) e.source.now

  -- a register stands below the top, which is an address map
  below-top : (r : Instance) → In (registers (nodes_of e)) r → (s : Step) × ((ss : List Step) × (r.path ≡ below_top (s ∷ ss)))
  below-top r h =
      let at = each-in (IsRegister (Some (top_name e)) e.source.now) (registers (nodes_of e)) r (all_registers (Some (top_name e)) e.source.now) h in
      go at.steps at.path_is (top_of (Some (top_name e)) e.source.now) refl is.name
    where
      go : (ss : List Step) → r.path ≡ below_top ss → (ts : List Instance) → top_of (Some (top_name e)) e.source.now ≡ ts → map (λ n. n.use_.name.text.now) ts ≡ b.name ∷ [] → (s : Step) × ((rest : List Step) × (r.path ≡ below_top (s ∷ rest)))
      go (s ∷ ss) path ts e_ name = (s, (ss, path))
      go [] path [] e_ name = cc name
      go [] path (t ∷ ts) e_ name =
          let top : In (top_of (Some (top_name e)) e.source.now) t = subst (λ xs. In xs t) (sym e_) (inl refl) in
          let own = each-in (λ n. n.path ≡ below_top []) (top_of (Some (top_name e)) e.source.now) t (tops-given (Some (top_name e)) e.source.now) top in
          let map_ = each-in (λ n. kind_of n ≡ kind.Addrmap) (top_of (Some (top_name e)) e.source.now) t (top-map (Some (top_name e)) e.source.now) top in
          let same = one-node (Some (top_name e)) e.source.now r t (filter-in (is_a kind.Reg) (nodes_of e) r h) (top-node (Some (top_name e)) e.source.now t top) (path ∙ sym own) in
          let reg : is_a kind.Reg t ≡ true = ap (is_a kind.Reg) (sym same) ∙ filter-true (is_a kind.Reg) (nodes_of e) r h in
          let bad : false ≡ true = ap (same_kind kind.Reg) (sym map_) ∙ reg in cc bad

  word-name : (n : Instance) → In (nodes_of e) n → IsWordName n.use_.name
  word-name n i = each-in (λ m. IsWordName m.use_.name) (nodes_of e) n (recursion_from_All (λ m. IsWordName m.use_.name) (nodes_of e) ready.words) i

  field-text : (r f : Instance) → In (registers (nodes_of e)) r → In (fields_of r) f → path_text f.path ≡ path_text r.path ++ 36 ∷ f.use_.name.text.now
  field-text r f h i =
      let at = below-top r h in
      let path = child-path r f (filter-in (is_a kind.Field) (children r) f i) (field-kind f (filter-true (is_a kind.Field) (children r) f i)) in
      let step : Step = record { name = f.use_.name.text.now; index = [] } in
      ap path_text (path ∙ ap (λ p. path_in (in_node p (kind_of r)) step) at.1.1) ∙ text-behind at.0 at.1.0 f.use_.name.text.now ∙ ap (λ p. path_text p ++ 36 ∷ f.use_.name.text.now) (sym at.1.1)

  named-at : (h : Numbered Placed) → In (numbered (λ p. p.node) all) h → In (registers (nodes_of e)) h.register.node → (base a : ℕ) (t : Slot) → SlotIn h.first_view base a (bits_of h.register.node) t → IsNamedIn b (reg_of h.register.node) t
  named-at h listed reg base a t g =
      let n = h.register.node in
      let at = bits-node n g.at g.bits g.here in
      let field = place-in (fields_of n) g.at g.bits.node at in
      let own = word-named (field-in-nodes (Some (top_name e)) e.source.now n (filter-in (is_a kind.Reg) (nodes_of e) n reg) g.bits.node field) in
      subst (IsNamedIn b (reg_of n)) g.is (record {
        view = view_of (lineages_of e) n g.bits.node;
        of_view = ap (λ vs. slice_get vs (h.first_view + g.at)) is.views_ ∙ view-listed (Some (top_name e)) e.source.now h listed g.at g.bits.node at;
        name = g.bits.node.use_.name.text.now;
        of_name = own;
        of_path = field-text n g.bits.node reg field;
      })
    where
      word-named : In (nodes_of e) g.bits.node → IsTrue (list_all (λ c. not (c == 36)) g.bits.node.use_.name.text.now)
      word-named i =
          let word = g.bits.node.use_.name.text.now in
          and-right (is_name word) (list_all (λ c. not (c == 36)) word) (word_named word (word-name g.bits.node i))

  of-word : (w : Word) → WordIn all w → WordIsApart b w
  of-word w h =
      let n = h.of.register.node in
      let a = access n in
      let base = h.number * a in
      let in_all = numbered-in 0 0 all h.of h.listed in
      let reg : In (registers (nodes_of e)) n = subst (λ ns. In ns n) (same-registers (Some (top_name e)) e.source.now) (in-map (λ (p : Placed). p.node) all h.of.register in_all) in
      let at = listed-from 0 0 all h.of h.listed in
      let behind = at.1 in
      let number : h.of.number ≡ at.0 = omega (arith, behind) in
      let node : slice_get (registers (nodes_of e)) h.of.number ≡ Some n = ap (slice_get (registers (nodes_of e))) number ∙ ap (λ ns. slice_get ns at.0) (sym (same-registers (Some (top_name e)) e.source.now)) ∙ get-map_at (λ (p : Placed). p.node) all at.0 h.of.register at.2 in
      let most = (stands e ready.settled ready.placed h.of.register in_all).widths_.most in
      let under = h.below in
      let less = div-le_self (width n) (access n) in
      let short = short-register e clean n reg in
      subst (WordIsApart b) h.is (record {
        register = reg_of n;
        of_register = ap (λ rs. slice_get rs h.of.number) is.regs ∙ get-map_at reg_of (registers (nodes_of e)) h.of.number n node;
        named = each-of (IsNamedIn b (reg_of n)) (slots_from h.of.first_view base a (bits_of n)) (λ t i. named-at h.of h.listed reg base a t (slot-from h.of.first_view base a (bits_of n) t i));
        slots_apart = λ i j d l m. λ same. pairs (NotBoth (get_or (slots_from h.of.first_view base a (bits_of n)) i d).view) (slots_from h.of.first_view base a (bits_of n)) (word-apart _ h.of.first_view base a (bits_of n)) i j d l m refl (sym same);
        few_words = omega (arith, most, under, less);
        short_path = omega (arith, short);
      })

  word-in : (k : ℕ) (w : Word) → IsWordAt b k w → WordIn all w
  word-in k w (inl at) = word-from is_write_only is_read_only all b.reads is.reads w (place-in b.reads k w at)
  word-in k w (inr at) = word-from is_read_only is_write_only all b.writes is.writes w (place-in b.writes k w at)

  address-at : (k : ℕ) (w : Word) → IsWordAt b k w → slice_get (map (λ x. x.address) b.reads) k ≡ Some w.address
  address-at k w (inl at) = get-map_at (λ (x : Word). x.address) b.reads k w at
  address-at k w (inr at) = ap (λ xs. slice_get xs k) sound.same_addresses ∙ get-map_at (λ (x : Word). x.address) b.writes k w at

  one-word : (v w : Word) → WordIn all v → WordIn all w → v.reg ≡ w.reg → v.number ≡ w.number → v ≡ w
  one-word v w g h reg number =
      let of = one-numbered 0 0 all g.of h.of g.listed h.listed (ap (λ (x : Word). x.reg) g.is ∙ reg ∙ sym (ap (λ (x : Word). x.reg) h.is)) in
      let same = ap (λ (x : Word). x.number) g.is ∙ number ∙ sym (ap (λ (x : Word). x.number) h.is) in
      sym g.is ∙ (λ i. word_of (of i) (same i)) ∙ h.is

  pub all-apart : IsApart b
  all-apart = record {
    words = λ k w at. of-word w (word-in k w at);
    addresses = λ j k v w at_j at_k reg number.
        let one = one-word v w (word-in j v at_j) (word-in k w at_k) reg number in
        one-place (map (λ x. x.address) b.reads) j k w.address sound.by_address (address-at j v at_j ∙ ap (λ (x : Word). Some x.address) one) (address-at k w at_k);
  }
