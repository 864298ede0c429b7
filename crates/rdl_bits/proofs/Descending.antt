-- The nodes in the body of a node are listed too.
use Rattle.std.proofs.Common.{◌≡◌, ◌∙◌, ℕ, zero, suc, ◌⊎◌, inl, inr, true, false, List, [], ◌∷◌, map, flat_map, Option, refl, sym, ap, subst, arith}
use Rattle.rdl_tree.specs.declared.item.Kind.{Kind}
use Rattle.rdl_tree.specs.declared.item.Kind.TheVariants as kind
use Rattle.rdl_tree.specs.declared.item.Source.{Source}
use Rattle.rdl_values.specs.Bodies.{Step, below_top, of_signal}
use Rattle.rdl_values.specs.Instances.{Instance, children, kind_of, most_names, nodes, signals, top_of}
use Rattle.rdl_values.specs.Lineages.{Lineage, alone, child_of, lineages, lineages_below}
use Rattle.rdl_values.specs.NoNode.{is_signal, may_hold}
use Rattle.rdl_values.specs.Paths.{path_in}
use Rattle.rdl_values.proofs.Given.{IsAtRoot, held, signals-given, tops-given}
use Rattle.rdl_values.proofs.Numbered.{At, Deep, bottom, lower}
use Rattle.rdl_addr.specs.Layout.{Placed, has_address, layout, placed_from, regalign, size_of}
use Rattle.rdl_addr.proofs.Covers.{address_by_kind, covers}
use Rattle.rdl_nodes.proofs.Members.{In, each-in, flat-in, in-either, in-flat, in-map, in-right, map-in}
use Rattle.rdl_bits.proofs.Filtered.{kept-passes}

abbrev pub lineage : Instance → List Instance → Lineage
lineage n up = record { node = n; ancestors = up }

-- the top has room for all levels
pub top-deep : (wanted : Option (List ℕ)) (s : Source) (n : Instance) → In (top_of wanted s) n → Deep 31 n
top-deep wanted s n h =
    let path = each-in (λ n. n.path ≡ below_top []) (top_of wanted s) n (tops-given wanted s) h in
    let deep : At (below_top []) 31 n = omega arith in
    subst (λ p. At p 31 n) (sym path) deep

-- and in the body of a signal at the root stands nothing
pub signal-bare : (s : Source) (n : Instance) → In (signals s) n → children n ≡ []
signal-bare s n i =
    let h = each-in IsAtRoot (signals s) n (signals-given s) i in
    let t : Step = record { name = h.by.use_.name.text.now; index = h.given_.index } in
    let path : n.path ≡ of_signal t = h.given_.path_is ∙ ap (λ p. path_in p t) h.in_body in
    let kind : is_signal (kind_of n) ≡ true = subst (λ p. may_hold p (kind_of n) ≡ true) h.in_body (held h.by n h.given_) in
    bottom n (subst (λ p. At p 0 n) (sym path) kind)

-- a node in the body of one of those below this one is below it too
below-down : (k : ℕ) (n : Instance) (up : List Instance) → Deep k n → (l : Lineage) → In (lineages_below (suc k) up n) l → (c : Instance) → In (children l.node) c → In (lineages_below (suc k) up n) (child_of l c)
below-down zero n up d l (inl e) c i =
    let here : In (children n) c = subst (λ y. In (children y.node) c) (sym e) i in
    absurd (subst (λ cs. In cs c) (bottom n d) here)
below-down zero n up d l (inr h) c i = absurd (subst (λ cs. In (flat_map (lineages_below 0 (n ∷ up)) cs) l) (bottom n d) h)
below-down (suc k) n up d l (inl e) c i =
    let here : In (children n) c = subst (λ y. In (children y.node) c) (sym e) i in
    let mine : In (lineages_below (suc (suc k)) up n) (child_of (lineage n up) c) = inr (in-flat (lineages_below (suc k) (n ∷ up)) (children n) c (lineage c (n ∷ up)) here (inl refl)) in
    subst (λ y. In (lineages_below (suc (suc k)) up n) (child_of y c)) e mine
below-down (suc k) n up d l (inr h) c i =
    let m = flat-in (lineages_below (suc k) (n ∷ up)) (children n) l h in
    let deep = each-in (Deep k) (children n) m.0 (lower k n d) m.1 in
    inr (in-flat (lineages_below (suc k) (n ∷ up)) (children n) m.0 (child_of l c) m.1 (below-down k m.0 (n ∷ up) deep l m.2 c i))

pub listed-down : (wanted : Option (List ℕ)) (s : Source) (l : Lineage) → In (lineages wanted s) l → (c : Instance) → In (children l.node) c → In (lineages wanted s) (child_of l c)
unfolding lineages
listed-down wanted s l h c i = elim (in-either (map alone (signals s)) (flat_map (lineages_below most_names []) (top_of wanted s)) l h) [
  | inl p ↦
      let n = map-in alone (signals s) l p in
      let here : In (children n.0) c = subst (λ y. In (children y.node) c) (sym n.2) i in
      absurd (subst (λ cs. In cs c) (signal-bare s n.0 n.1) here)
  | inr p ↦
      let n = flat-in (lineages_below most_names []) (top_of wanted s) l p in
      in-right (map alone (signals s)) (flat_map (lineages_below most_names []) (top_of wanted s)) (child_of l c)
      (in-flat (lineages_below most_names []) (top_of wanted s) n.0 (child_of l c) n.1 (below-down 31 n.0 [] (top-deep wanted s n.0 n.1) l n.2 c i))
]

-- What has no parent.

pub signal-unplaced : (s : Source) (n : Instance) → In (signals s) n → has_address n ≡ false
signal-unplaced s n i =
    let h = each-in IsAtRoot (signals s) n (signals-given s) i in
    let signal : is_signal (kind_of n) ≡ true = subst (λ p. may_hold p (kind_of n) ≡ true) h.in_body (held h.by n h.given_) in
    by (kind_of n) refl signal
  where
    by : (k : Kind) → kind_of n ≡ k → is_signal k ≡ true → has_address n ≡ false
    by kind.Signal e t = address_by_kind n kind.Signal e
    by _ e t = cc t

shallower : (k : ℕ) (n : Instance) (up : List Instance) (l : Lineage) → ((c : Instance) → In (lineages_below k (n ∷ up) c) l → l.ancestors ≡ [] → ⊥) → (cs : List Instance) → In (flat_map (lineages_below k (n ∷ up)) cs) l → l.ancestors ≡ [] → ⊥
shallower k n up l each cs h none = let c = flat-in (lineages_below k (n ∷ up)) cs l h in each c.0 c.2 none

parented : (k : ℕ) (a : Instance) (up : List Instance) (n : Instance) (l : Lineage) → In (lineages_below k (a ∷ up) n) l → l.ancestors ≡ [] → ⊥
parented zero a up n l (inl e) none = let two : a ∷ up ≡ [] = ap (λ y. y.ancestors) e ∙ none in cc two
parented zero a up n l (inr h) none = absurd h
parented (suc k) a up n l (inl e) none = let two : a ∷ up ≡ [] = ap (λ y. y.ancestors) e ∙ none in cc two
parented (suc k) a up n l (inr h) none = shallower k n (a ∷ up) l (λ c q z. parented k n (a ∷ up) c l q z) (children n) h none

-- what stands in no other is a signal at the root or the top
pub at-top : (wanted : Option (List ℕ)) (s : Source) (l : Lineage) → In (lineages wanted s) l → l.ancestors ≡ [] → In (signals s) l.node ⊎ In (top_of wanted s) l.node
unfolding lineages
at-top wanted s l h none = elim (in-either (map alone (signals s)) (flat_map (lineages_below most_names []) (top_of wanted s)) l h) [
  | inl p ↦ let n = map-in alone (signals s) l p in inl (subst (In (signals s)) (ap (λ y. y.node) n.2) n.1)
  | inr p ↦ let n = flat-in (lineages_below most_names []) (top_of wanted s) l p in inr (subst (In (top_of wanted s)) (same n.0 n.2) n.1)
]
  where
    same : (n : Instance) → In (lineages_below most_names [] n) l → n ≡ l.node
    same n (inl q) = ap (λ x. x.node) q
    same n (inr q) = let c = flat-in (lineages_below 31 (n ∷ [])) (children n) l q in absurd (parented 31 n [] c.0 l c.2 none)

-- the top has an address
pub top-placed : (wanted : Option (List ℕ)) (s : Source) (n : Instance) → In (top_of wanted s) n → has_address n ≡ true
unfolding layout
top-placed wanted s n h =
    let own : Placed = record { node = n; address = 0; size = size_of most_names regalign n } in
    let all : In (layout wanted s) own = in-flat (placed_from most_names regalign 0) (top_of wanted s) n own h (inl refl) in
    kept-passes has_address (nodes wanted s) n (subst (λ xs. In xs n) (covers wanted s) (in-map (λ p. p.node) (layout wanted s) own all))
