-- The place of an item among all.
use Rattle.std.proofs.Common.{◌≡◌, ◌∙◌, ◌≢◌, inl, inr, ℕ, zero, suc, ◌+◌, ◌<◌, Bool, true, false, not, ◌&&◌, cond, List, [], ◌∷◌, ◌++◌, length, flat_map, map, take, slice_get, Some, length-append, refl, sym, ap, subst, arith}
use Rattle.std.specs.List.{position_or_len}
use Rattle.plain_lemmas.proofs.Lists.{length-map as mapped}
use Rattle.rdl_tree.specs.declared.item.Kind.{Kind}
use Rattle.rdl_tree.specs.declared.item.Kind.TheVariants as kind
use Rattle.rdl_tree.specs.declared.node.Elab.{Elab}
use Rattle.rdl_values.specs.Elaborated.{nodes_of, top_name}
use Rattle.rdl_values.specs.Instances.{Instance, kind_of}
use Rattle.rdl_values.specs.Lineages.{Lineage, lineages_of, nodes_in}
use Rattle.rdl_layers.specs.Assignments.{same_path}
use Rattle.rdl_refs.specs.declared.item.What.{What}
use Rattle.rdl_refs.specs.declared.item.What.TheVariants as what
use Rattle.rdl_refs.specs.Follows.{is_item, item_number}
use Rattle.rdl_refs.specs.Items.{Item, item_of, items, items_of, same_what, whats}
use Rattle.rdl_nodes.proofs.Apart.{Apart}
use Rattle.rdl_nodes.proofs.Lineages.{all_nodes}
use Rattle.rdl_nodes.proofs.Paths.{nodes_apart}
use Rattle.rdl_nodes.proofs.Members.{In, each-in, in-map, place-in}
use Rattle.rdl_fields.proofs.Steps.{is-same-path, path-refl}
use Rattle.rdl_sizes.proofs.Facts.{lineage-at}
use Rattle.rdl_bind.specs.Numbered.{first_of}
use Rattle.rdl_bind.specs.Places.{before}

what-refl : (a : What) → same_what a a ≡ true
what-refl what.Value = refl
what-refl what.Anded = refl
what-refl what.Ored = refl
what-refl what.Xored = refl
what-refl what.IncrThreshold = refl
what-refl what.DecrThreshold = refl
what-refl what.Overflow = refl
what-refl what.Underflow = refl
what-refl what.SwMod = refl
what-refl what.SwAcc = refl
what-refl what.Intr = refl
what-refl what.Halt = refl

-- how many items of its node stand before an item
abbrev StandsBehind : Kind → What → Type 0
StandsBehind k w = (position_or_len (same_what w) (whats k) ≡ before w) × (before w < length (whats k))

stands-behind : (k : Kind) (w : What) → In (whats k) w → StandsBehind k w
stands-behind kind.Addrmap w h = absurd h
stands-behind kind.Regfile w h = absurd h
stands-behind kind.Signal w (inl e) = subst (StandsBehind kind.Signal) e (refl, omega arith)
stands-behind kind.Signal w (inr h) = absurd h
stands-behind kind.Reg w (inl e) = subst (StandsBehind kind.Reg) e (refl, omega arith)
stands-behind kind.Reg w (inr (inl e)) = subst (StandsBehind kind.Reg) e (refl, omega arith)
stands-behind kind.Reg w (inr (inr h)) = absurd h
stands-behind kind.Field w (inl e) = subst (StandsBehind kind.Field) e (refl, omega arith)
stands-behind kind.Field w (inr (inl e)) = subst (StandsBehind kind.Field) e (refl, omega arith)
stands-behind kind.Field w (inr (inr (inl e))) = subst (StandsBehind kind.Field) e (refl, omega arith)
stands-behind kind.Field w (inr (inr (inr (inl e)))) = subst (StandsBehind kind.Field) e (refl, omega arith)
stands-behind kind.Field w (inr (inr (inr (inr (inl e))))) = subst (StandsBehind kind.Field) e (refl, omega arith)
stands-behind kind.Field w (inr (inr (inr (inr (inr (inl e)))))) = subst (StandsBehind kind.Field) e (refl, omega arith)
stands-behind kind.Field w (inr (inr (inr (inr (inr (inr (inl e))))))) = subst (StandsBehind kind.Field) e (refl, omega arith)
stands-behind kind.Field w (inr (inr (inr (inr (inr (inr (inr (inl e)))))))) = subst (StandsBehind kind.Field) e (refl, omega arith)
stands-behind kind.Field w (inr (inr (inr (inr (inr (inr (inr (inr (inl e))))))))) = subst (StandsBehind kind.Field) e (refl, omega arith)
stands-behind kind.Field w (inr (inr (inr (inr (inr (inr (inr (inr (inr (inl e)))))))))) = subst (StandsBehind kind.Field) e (refl, omega arith)
stands-behind kind.Field w (inr (inr (inr (inr (inr (inr (inr (inr (inr (inr h)))))))))) = absurd h

one-step : {X : Type 0} (p : X → Bool) (x : X) (xs : List X) → position_or_len p (x ∷ xs) ≡ cond (p x) 0 (1 + position_or_len p xs)
one-step p x xs = go (p x)
  where
    go : (b : Bool) → cond (not b) (1 + position_or_len p xs) 0 ≡ cond b 0 (1 + position_or_len p xs)
    go true = refl
    go false = refl

module _ (i : Item) (l : Lineage) where
  abbrev at : List Item → ℕ
  at = position_or_len (is_item i)

  abbrev mine : List What → List Item
  mine = map (item_of l)

  abbrev IsOwn : List What → List Item → Type 0
  IsOwn ws ys = In ws i.what → at (mine ws ++ ys) ≡ position_or_len (same_what i.what) ws

  -- among those of its node
  own : same_path i.node.path l.node.path ≡ true → (ws : List What) (ys : List Item) → IsOwn ws ys
  own same [] ys h = absurd h
  own same (w ∷ ws) ys h =
      one-step (is_item i) (item_of l w) (mine ws ++ ys)
      ∙ (ap (λ b. cond (b && same_what i.what w) 0 (1 + at (mine ws ++ ys))) same
      ∙ (go h (own same ws ys) (same_what i.what w) refl
      ∙ sym (one-step (same_what i.what) w ws)))
    where
      go : In (w ∷ ws) i.what → IsOwn ws ys → (b : Bool) → same_what i.what w ≡ b → cond b 0 (1 + at (mine ws ++ ys)) ≡ cond b 0 (1 + position_or_len (same_what i.what) ws)
      go h more true e = refl
      go (inl q) more false e = absurd (let t : true ≡ false = sym (what-refl i.what) ∙ (ap (same_what i.what) (sym q) ∙ e) in cc t)
      go (inr m) more false e = ap (λ n. 1 + n) (more m)

  -- behind those of another node
  other : same_path i.node.path l.node.path ≡ false → (ws : List What) (ys : List Item) → at (mine ws ++ ys) ≡ length (mine ws) + at ys
  other differ [] ys = let e : 0 + at ys ≡ at ys = omega arith in sym e
  other differ (w ∷ ws) ys =
      one-step (is_item i) (item_of l w) (mine ws ++ ys)
      ∙ (ap (λ b. cond (b && same_what i.what w) 0 (1 + at (mine ws ++ ys))) differ
      ∙ (let more = other differ ws ys in omega (arith, more)))

other-path : (i : Item) (n : Instance) → n.path ≢ i.node.path → same_path i.node.path n.path ≡ false
other-path i n differ = go (same_path i.node.path n.path) refl
  where
    go : (b : Bool) → same_path i.node.path n.path ≡ b → b ≡ false
    go true e = absurd (differ (sym (is-same-path i.node.path n.path e)))
    go false e = refl

-- behind the items of all nodes before its node, and those of its node before it
abbrev StandsAt : List Lineage → ℕ → Item → Type 0
StandsAt all k i = (position_or_len (is_item i) (flat_map items_of all) ≡ first_of all k + before i.what) × (first_of all k + before i.what < length (flat_map items_of all))

stands-at : (all : List Lineage) → Apart (λ a b. a.path ≢ b.path) (nodes_in all) → (k : ℕ) (l : Lineage) → slice_get all k ≡ Some l → (i : Item) → l.node ≡ i.node → In (whats (kind_of i.node)) i.what → StandsAt all k i
stands-at [] apart k l e i q h = absurd (cc e)
stands-at (m ∷ ms) apart zero l e i q h =
    let s : m ≡ l = cc e in
    let node : m.node ≡ i.node = ap (λ (x : Lineage). x.node) s ∙ q in
    let same : same_path i.node.path m.node.path ≡ true = subst (λ (n : Instance). same_path i.node.path n.path ≡ true) (sym node) (path-refl i.node.path) in
    let has : In (whats (kind_of m.node)) i.what = subst (λ (n : Instance). In (whats (kind_of n)) i.what) (sym node) h in
    let p = stands-behind (kind_of m.node) i.what has in
    let place : position_or_len (is_item i) (flat_map items_of (m ∷ ms)) ≡ before i.what = own i m same (whats (kind_of m.node)) (flat_map items_of ms) has ∙ p.0 in
    let low = p.1 in
    let long = length-append (items_of m) (flat_map items_of ms) in
    let many = mapped (item_of m) (whats (kind_of m.node)) in
    (omega (arith, place), omega (arith, low, long, many))
stands-at (m ∷ ms) apart (suc k) l e i q h =
    let differ : m.node.path ≢ l.node.path = each-in (λ (n : Instance). m.node.path ≢ n.path) (nodes_in ms) l.node apart.0 (in-map (λ (n : Lineage). n.node) ms l (place-in ms k l e)) in
    let apart_from : m.node.path ≢ i.node.path = subst (λ (n : Instance). m.node.path ≢ n.path) q differ in
    let more = stands-at ms apart.1 k l e i q h in
    let is = more.0 in
    let low = more.1 in
    let skipped = other i m (other-path i m.node apart_from) (whats (kind_of m.node)) (flat_map items_of ms) in
    let front = length-append (items_of m) (flat_map items_of (take k ms)) in
    let long = length-append (items_of m) (flat_map items_of ms) in
    (omega (arith, skipped, is, front), omega (arith, low, front, long))

-- the number of an item that the node of a number has
pub number-at : (e : Elab) (k : ℕ) (i : Item) → slice_get (nodes_of e) k ≡ Some i.node → In (whats (kind_of i.node)) i.what → (item_number (lineages_of e) i ≡ first_of (lineages_of e) k + before i.what) × (first_of (lineages_of e) k + before i.what < length (items (lineages_of e)))
unfolding items
number-at e k i here has =
    let l = lineage-at e k i.node here in
    let apart = subst (Apart (λ a b. a.path ≢ b.path)) (sym (all_nodes (Some (top_name e)) e.source.now)) (nodes_apart (Some (top_name e)) e.source.now) in
    stands-at (lineages_of e) apart k l.0 l.1 i l.2 has
