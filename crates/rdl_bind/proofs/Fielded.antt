-- The fields of registers: where they stand, and which are wires.
use Rattle.std.proofs.Common.{◌≡◌, ◌∙◌, inl, inr, ℕ, ◌+◌, ◌<◌, ◌≤◌, Bool, true, false, ◌&&◌, ◌||◌, cond, List, [], ◌∷◌, ◌++◌, append-nil, filter, flat_map, get_or, length, take, take_all, Some, slice_get, refl, sym, ap, subst, arith}
use Rattle.std.specs.List.{list_any}
use Rattle.std.proofs.lemmas.List.{take_more}
use Rattle.std.proofs.lemmas.Grind.{flat_map-append}
use Rattle.plain_lemmas.proofs.Bools.{or-right_false as or-parts}
use Rattle.rdl_tree.specs.declared.item.Kind.TheVariants as kind
use Rattle.rdl_tree.specs.declared.node.Elab.{Elab}
use Rattle.rdl_tree.specs.declared.node.Node.{Node, out-Node}
use Rattle.rdl_values.specs.Elaborated.{nodes_of, top_name}
use Rattle.rdl_values.specs.Instances.{Instance, children, kind_of, signals}
use Rattle.rdl_values.specs.Lineages.{Lineage, lineages_of, nodes_in}
use Rattle.rdl_values.specs.NoNode.{is_signal, may_hold}
use Rattle.rdl_values.proofs.Given.{IsAtRoot, held, signals-given}
use Rattle.rdl_layers.specs.Fields.{is_a, is_alias, is_touched, is_wire, views}
use Rattle.rdl_addr.proofs.Covers.{address_by_kind}
use Rattle.rdl_nodes.specs.Rows.{AreInside}
use Rattle.rdl_nodes.proofs.Lineages.{all_nodes}
use Rattle.rdl_nodes.proofs.Members.{each-in, get-read, get-within, place-in}
use Rattle.rdl_sizes.proofs.Facts.{node-at}
use Rattle.rdl_sizes.proofs.Turns.{as-many, inside-at, read-at}
use Rattle.rdl_bits.proofs.Descending.{at-top, top-placed}
use Rattle.rdl_refs.specs.Follows.{is_in_alias}
use Rattle.rdl_refs.specs.Items.{Item}
use Rattle.rdl_members.specs.Covered.{AreOverViews, IsKept}
use Rattle.rdl_members.proofs.Sharing.{the-kind}
use Rattle.rdl_fields.specs.Touched.{touches}
use Rattle.rdl_bind.specs.Known.{is_of_wire, numbers_of}
use Rattle.rdl_bind.proofs.Items.{more-numbers}

-- a field stands in another node
has-above : (e : Elab) (k : ℕ) (l : Lineage) → slice_get (lineages_of e) k ≡ Some l → is_a kind.Field l.node ≡ true → (r : Instance) × (up : List Instance) × (l.ancestors ≡ r ∷ up)
has-above e k l here field = go l.ancestors refl
  where
    root : l.ancestors ≡ [] → (r : Instance) × (up : List Instance) × (l.ancestors ≡ r ∷ up)
    root none = elim (at-top (Some (top_name e)) e.source.now l (place-in (lineages_of e) k l here) none) [
      | inl p ↦
          let h = each-in IsAtRoot (signals e.source.now) l.node (signals-given e.source.now) p in
          let signal : is_signal (kind_of l.node) ≡ true = subst (λ q. may_hold q (kind_of l.node) ≡ true) h.in_body (held h.by l.node h.given_) in
          let no : is_signal kind.Field ≡ true = subst (λ q. is_signal q ≡ true) (the-kind l.node field) signal in
          cc no
      | inr p ↦
          let placed = top-placed (Some (top_name e)) e.source.now l.node p in
          let two : true ≡ false = sym placed ∙ address_by_kind l.node kind.Field (the-kind l.node field) in
          cc two
    ]

    go : (ups : List Instance) → l.ancestors ≡ ups → (r : Instance) × (up : List Instance) × (l.ancestors ≡ r ∷ up)
    go [] q = root q
    go (r ∷ up) q = (r, up, q)

module _ (e : Elab) (k : ℕ) (i : Item) (here : slice_get (lineages_of e) k ≡ Some (record { node = i.node; ancestors = i.ancestors })) (field : is_a kind.Field i.node ≡ true) (out : is_in_alias i ≡ false) where
  pub above : (r : Instance) × (up : List Instance) × (i.ancestors ≡ r ∷ up)
  above = has-above e k (record { node = i.node; ancestors = i.ancestors }) here field

  no-alias : is_alias above.0 ≡ false
  no-alias =
      let parts : (is_a kind.Field i.node && list_any is_alias (take 1 i.ancestors)) ≡ false = or-parts (is_alias i.node) (is_a kind.Field i.node && list_any is_alias (take 1 i.ancestors)) out in
      let one : (true && (is_alias above.0 || false)) ≡ false = (λ j. sym field j && list_any is_alias (take 1 (sym above.2 j))) ∙ parts in
      go (is_alias above.0) one
    where
      go : (b : Bool) → (true && (b || false)) ≡ false → b ≡ false
      go true h = cc h
      go false h = refl

  kept : IsKept e k (record { node = i.node; ancestors = i.ancestors }) above.0
  kept = record { here = here; is_field = field; above = above.1; parent = above.2; no_alias = no-alias }

  -- the mark of a field says whether software touches it
  pub touched-is : (bs : List Bool) → AreOverViews e touches bs → (d : Bool) → get_or bs k d ≡ is_touched (views (nodes_of e) above.0 i.node)
  touched-is bs are d = get-read bs k d (list_any touches (views (nodes_of e) above.0 i.node)) (are.each k (record { node = i.node; ancestors = i.ancestors }) above.0 kept)

  -- and so whether it is a wire
  pub wire-is : (b : Bool) → b ≡ is_wire (views (nodes_of e) above.0 i.node) i.node → b ≡ is_of_wire (lineages_of e) i
  wire-is b is =
      is ∙ (sym (or-false (is_wire (views (nodes_of e) above.0 i.node) i.node))
      ∙ (λ j. sym field j && list_any (λ r. is_wire (views (sym (all_nodes (Some (top_name e)) e.source.now) j) r i.node) i.node) (take 1 (sym above.2 j))))
    where
      or-false : (b : Bool) → (b || false) ≡ b
      or-false true = refl
      or-false false = refl

pub no-wire : (all : List Lineage) (i : Item) → is_a kind.Field i.node ≡ false → false ≡ is_of_wire all i
no-wire all i none = sym (ap (λ b. b && list_any (λ r. is_wire (views (nodes_in all) r i.node) i.node) (take 1 i.ancestors)) none)

-- Nodes in a register, one by one.

pub fields-alone : {X : Type 0} (p q : Instance → Bool) (f : Instance → List X) (ns : List Instance) → flat_map (λ c. cond (p c && q c) (f c) []) ns ≡ flat_map f (filter q (filter p ns))
fields-alone p q f [] = refl
fields-alone p q f (n ∷ ns) = go (p n) (q n) refl (fields-alone p q f ns)
  where
    go : (a b : Bool) → q n ≡ b → flat_map (λ c. cond (p c && q c) (f c) []) ns ≡ flat_map f (filter q (filter p ns)) → cond (a && b) (f n) [] ++ flat_map (λ c. cond (p c && q c) (f c) []) ns ≡ flat_map f (filter q (cond a (n ∷ filter p ns) (filter p ns)))
    go true true is h = ap (λ xs. f n ++ xs) h ∙ sym (ap (λ b. flat_map f (cond b (n ∷ filter q (filter p ns)) (filter q (filter p ns)))) is)
    go true false is h = h ∙ sym (ap (λ b. flat_map f (cond b (n ∷ filter q (filter p ns)) (filter q (filter p ns)))) is)
    go false b is h = h

module _ (e : Elab) (up : List Instance) (n : Instance) (rs : List Node) (h : AreInside (lineages_of e) up rs rs (children n)) where
  -- the instance of a node
  pub inside-here : (i : ℕ) (r : Node) → i < length rs → r ≡ get_or rs i r → (c : Instance) × (slice_get (children n) i ≡ Some c) × (slice_get (nodes_of e) (out-Node r).id ≡ Some c) × ((out-Node r).kind ≡ kind_of c)
  inside-here i r low is =
      let m = inside-at (lineages_of e) up rs rs (children n) h i r (read-at rs i r low is) in
      (m.0, m.1, node-at e (out-Node r).id (record { node = m.0; ancestors = up }) m.2.here, m.2.says.kind)

  pub one-inside : (g : Instance → List Item) (i : ℕ) (c : Instance) → slice_get (children n) i ≡ Some c → (old mid new : List ℕ) → mid ≡ old ++ numbers_of e (flat_map g (take i (children n))) → new ≡ mid ++ numbers_of e (g c) → new ≡ old ++ numbers_of e (flat_map g (take (i + 1) (children n)))
  one-inside g i c at old mid new before put =
      more-numbers e (flat_map g (take i (children n))) (g c) old mid new before put
      ∙ ap (λ xs. old ++ numbers_of e xs) (ap (λ xs. flat_map g (take i (children n)) ++ xs) (sym (append-nil (g c))) ∙ (sym (flat_map-append g (take i (children n)) (c ∷ [])) ∙ ap (flat_map g) (sym taken)))
    where
      taken : take (i + 1) (children n) ≡ take i (children n) ++ (c ∷ [])
      taken = take_more (children n) i c (get-within (children n) i c at) ∙ ap (λ y. take i (children n) ++ (y ∷ [])) (get-read (children n) i c c at)

  pub all-inside : (g : Instance → List Item) (i : ℕ) → length rs ≤ i → flat_map g (take i (children n)) ≡ flat_map g (children n)
  all-inside g i past = let many = as-many (lineages_of e) up rs rs (children n) h in ap (flat_map g) (take_all i (children n) (omega (arith, past, many)))
