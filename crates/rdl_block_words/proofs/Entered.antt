-- The registers of a tree, taken up one by one.
use Rattle.std.proofs.Common.{◌≡◌, ◌∙◌, ◌≢◌, inl, inr, ℕ, suc, ◌+◌, ◌≤◌, true, false, cond, List, [], ◌∷◌, ◌++◌, map, filter, take, length, slice_get, Contains, Some, refl, sym, ap, subst, arith}
use Rattle.std.specs.List.{AllByRecursion}
use Rattle.std.proofs.lemmas.List.{map-append}
use Rattle.plain_lemmas.proofs.Lists.{append-none as none-behind, each-append, length-map}
use Rattle.rdl_tree.specs.declared.item.Kind.TheVariants as kind
use Rattle.rdl_tree.specs.declared.node.Elab.{Elab}
use Rattle.rdl_values.specs.Elaborated.{nodes_of, top_name}
use Rattle.rdl_values.specs.Instances.{Instance}
use Rattle.rdl_values.specs.Lineages.{Lineage, lineages_of}
use Rattle.rdl_layers.specs.Fields.{fields_of, is_a}
use Rattle.rdl_nodes.proofs.Apart.{Apart}
use Rattle.rdl_nodes.proofs.Lineages.{all_nodes}
use Rattle.rdl_nodes.proofs.Paths.{Differ, nodes_apart}
use Rattle.rdl_nodes.proofs.Members.{In, in-from}
use Rattle.rdl_sizes.proofs.Facts.{node-at}
use Rattle.rdl_addr.specs.Bits.{Bits, bits_of}
use Rattle.rdl_addr.specs.Layout.{Placed, has_address, layout}
use Rattle.rdl_addr.specs.Rules.{registers}
use Rattle.rdl_addr.proofs.Covers.{covers}
use Rattle.rdl_rules.specs.Numbers.{Numbered, numbered, numbered_from}
use Rattle.rdl_fields.proofs.Lists.{apart-filter, filter-all, filter-in, filter-next, only-one}
use Rattle.rdl_fields.proofs.Fields.{nodes-are}
use Rattle.rdl_block_words.proofs.Viewed.{as-many}
use Rattle.rdl_sound_laws.proofs.Placed.{map-kept, same-registers}
use Rattle.rdl_block_words.specs.declared.entry.PlacedRegister.{PlacedRegister}
use Rattle.rdl_block_words.specs.Entries.{AreEntries, AreEntriesOf, AreEntriesTo, IsEntryAt, IsEntryOf, fields_in, is_register}

-- One more, with its numbers.

numbered-more : (k v : ℕ) (ps : List Placed) (p : Placed) → numbered_from (λ x. x.node) k v (ps ++ (p ∷ [])) ≡ numbered_from (λ x. x.node) k v ps ++ (record { register = p; number = k + length ps; first_view = v + fields_in ps } ∷ [])
numbered-more k v [] p = (λ i. record { register = p; number = none k i; first_view = none v i } ∷ [])
  where
    none : (n : ℕ) → n ≡ n + 0
    none n = omega arith
numbered-more k v (q ∷ ps) p =
    ap (λ rs. record { register = q; number = k; first_view = v } ∷ rs)
    (numbered-more (k + 1) (v + length (fields_of q.node)) ps p
    ∙ (λ i. numbered_from (λ (x : Placed). x.node) (k + 1) (v + length (fields_of q.node)) ps ++ (record { register = p; number = first i; first_view = second i } ∷ [])))
  where
    first : k + 1 + length ps ≡ k + suc (length ps)
    first = omega arith

    second : v + length (fields_of q.node) + fields_in ps ≡ v + (length (fields_of q.node) + fields_in ps)
    second = omega arith

fields-more : (ps : List Placed) (p : Placed) → fields_in (ps ++ (p ∷ [])) ≡ fields_in ps + length (fields_of p.node)
fields-more [] p = omega arith
fields-more (q ∷ ps) p = let more = fields-more ps p in omega (arith, more)

module _ (e : Elab) where
  entries-push : (xs : List PlacedRegister) (rs : List (Numbered Placed)) (x : PlacedRegister) (r : Numbered Placed) → AreEntriesOf e xs rs → IsEntryOf e x r → AreEntriesOf e (xs ++ (x ∷ [])) (rs ++ (r ∷ []))
  entries-push [] [] x r h is = (is, tt)
  entries-push [] (s ∷ rs) x r h is = absurd h
  entries-push (y ∷ xs) [] x r h is = absurd h
  entries-push (y ∷ xs) (s ∷ rs) x r h is = (h.0, entries-push xs rs x r h.1 is)

  pub entries-many : (xs : List PlacedRegister) (rs : List (Numbered Placed)) → AreEntriesOf e xs rs → length xs ≡ length rs
  entries-many [] [] h = refl
  entries-many [] (r ∷ rs) h = absurd h
  entries-many (x ∷ xs) [] h = absurd h
  entries-many (x ∷ xs) (r ∷ rs) h = ap suc (entries-many xs rs h.1)

numbered-many : (k v : ℕ) (ps : List Placed) → length (numbered_from (λ x. x.node) k v ps) ≡ length ps
numbered-many k v [] = refl
numbered-many k v (p ∷ ps) = ap suc (numbered-many (k + 1) (v + length (fields_of p.node)) ps)

bits-many : (n : Instance) → length (bits_of n) ≡ length (fields_of n)
bits-many n = sym (length-map (λ (b : Bits). b.node) (bits_of n)) ∙ ap length (nodes-are n)

-- Nodes stand at one place.

each-unmap : {X Y : Type 0} (f : X → Y) (P : Y → Type 0) (ys : List X) → AllByRecursion P (map f ys) → AllByRecursion (λ y. P (f y)) ys
each-unmap f P [] g = tt
each-unmap f P (y ∷ ys) g = (g.0, each-unmap f P ys g.1)

apart-unmap : {X Y : Type 0} (f : X → Y) (R : Y → Y → Type 0) (xs : List X) → Apart R (map f xs) → Apart (λ a b. R (f a) (f b)) xs
apart-unmap f R [] h = tt
apart-unmap f R (x ∷ xs) h = (each-unmap f (R (f x)) xs h.0, apart-unmap f R xs h.1)

module _ (e : Elab) where
  placed-apart : Apart (λ (p q : Placed). p.node.path ≢ q.node.path) (layout (Some (top_name e)) e.source.now)
  placed-apart = apart-unmap (λ (p : Placed). p.node) Differ (layout (Some (top_name e)) e.source.now) (subst (Apart Differ) (sym (covers (Some (top_name e)) e.source.now)) (apart-filter has_address Differ (nodes_of e) (nodes_apart (Some (top_name e)) e.source.now)))

  -- those of the same nodes are the same
  same-spots : (ps qs : List Placed) → map (λ p. p.node) ps ≡ map (λ p. p.node) qs → AllByRecursion (Contains (layout (Some (top_name e)) e.source.now)) ps → ((q : Placed) → In qs q → In (layout (Some (top_name e)) e.source.now) q) → ps ≡ qs
  same-spots [] [] same all among = refl
  same-spots [] (q ∷ qs) same all among = cc same
  same-spots (p ∷ ps) [] same all among = cc same
  same-spots (p ∷ ps) (q ∷ qs) same all among =
      let head : p.node ≡ q.node = cc same in
      let tail : map (λ (x : Placed). x.node) ps ≡ map (λ (x : Placed). x.node) qs = cc same in
      let one = only-one (λ (x : Placed). x.node.path) (layout (Some (top_name e)) e.source.now) placed-apart p q (in-from (layout (Some (top_name e)) e.source.now) p all.0) (among q (inl refl)) (ap (λ (n : Instance). n.path) head) in
      let rest = same-spots ps qs tail all.1 (λ x i. among x (inr i)) in
      (λ i. one i ∷ rest i)

  module _ (k : ℕ) (l : Lineage) (here : slice_get (lineages_of e) k ≡ Some l) (views : ℕ) (old : List PlacedRegister) (before : AreEntriesTo e k views old) where
    pub passed-by : is_register l ≡ false → AreEntriesTo e (k + 1) views old
    passed-by unlike = record {
      spots = before.spots;
      nodes_ = before.nodes_ ∙ ap (map (λ (m : Lineage). m.node)) (sym (filter-next is_register (lineages_of e) k l here ∙ (ap (λ b. filter is_register (take k (lineages_of e)) ++ cond b (l ∷ []) []) unlike ∙ none-behind (filter is_register (take k (lineages_of e))))));
      among = before.among;
      are = before.are;
      views_ = before.views_;
    }

    module _ (reg : is_register l ≡ true) (x : PlacedRegister) (at : IsEntryAt e k (length old) views x) where
      own : at.spot.node ≡ l.node
      own = let same : Some at.spot.node ≡ Some l.node = sym at.here.0 ∙ node-at e k l here in cc same

      old-many : length old ≡ length before.spots
      old-many = entries-many e old (numbered (λ (p : Placed). p.node) before.spots) before.are ∙ numbered-many 0 0 before.spots

      nodes-more : map (λ p. p.node) (before.spots ++ (at.spot ∷ [])) ≡ map (λ m. m.node) (filter is_register (take (k + 1) (lineages_of e)))
      nodes-more =
          map-append (λ (p : Placed). p.node) before.spots (at.spot ∷ [])
          ∙ ((λ i. before.nodes_ i ++ (own i ∷ []))
          ∙ (sym (map-append (λ (m : Lineage). m.node) (filter is_register (take k (lineages_of e))) (l ∷ []))
          ∙ ap (map (λ (m : Lineage). m.node)) (sym (filter-next is_register (lineages_of e) k l here ∙ ap (λ b. filter is_register (take k (lineages_of e)) ++ cond b (l ∷ []) []) reg))))

      numbers : numbered (λ p. p.node) before.spots ++ (record { register = at.spot; number = length old; first_view = views } ∷ []) ≡ numbered (λ p. p.node) (before.spots ++ (at.spot ∷ []))
      numbers =
          (λ i. numbered (λ (p : Placed). p.node) before.spots ++ (record { register = at.spot; number = first i; first_view = second i } ∷ []))
          ∙ sym (numbered-more 0 0 before.spots at.spot)
        where
          first : length old ≡ 0 + length before.spots
          first = let m = old-many in omega (arith, m)

          second : views ≡ 0 + fields_in before.spots
          second = let m = before.views_ in omega (arith, m)

      next-is : x.next_view ≡ fields_in (before.spots ++ (at.spot ∷ []))
      next-is =
          let next = at.is.next in
          let first = at.is.shape_.first_view_ in
          let many = as-many e x.views.items (bits_of at.spot.node) at.is.views_ ∙ bits-many at.spot.node in
          let was = before.views_ in
          let more = fields-more before.spots at.spot in
          omega (arith, next, first, many, was, more)

      pub taken-up : (new : List PlacedRegister) → new ≡ old ++ (x ∷ []) → AreEntriesTo e (k + 1) x.next_view new
      taken-up new pushed = record {
        spots = before.spots ++ (at.spot ∷ []);
        nodes_ = nodes-more;
        among = each-append (Contains (layout (Some (top_name e)) e.source.now)) before.spots (at.spot ∷ []) before.among (at.here.1, tt);
        are = subst (λ xs. AreEntriesOf e xs (numbered (λ (p : Placed). p.node) (before.spots ++ (at.spot ∷ [])))) (sym pushed)
            (subst (AreEntriesOf e (old ++ (x ∷ []))) numbers (entries-push e old (numbered (λ (p : Placed). p.node) before.spots) x (record { register = at.spot; number = length old; first_view = views }) before.are at.is));
        views_ = next-is;
      }

  pub none-yet : (xs : List PlacedRegister) → xs ≡ [] → AreEntriesTo e 0 0 xs
  none-yet xs none = record {
    spots = [];
    nodes_ = refl;
    among = tt;
    are = subst (λ ys. AreEntriesOf e ys []) (sym none) tt;
    views_ = refl;
  }

  pub all-entered : (k views : ℕ) (xs : List PlacedRegister) → length (lineages_of e) ≤ k → AreEntriesTo e k views xs → AreEntries e xs
  all-entered k views xs past h = subst (λ ps. AreEntriesOf e xs (numbered (λ (p : Placed). p.node) ps)) all h.are
    where
      of-lineages : map (λ m. m.node) (filter is_register (take k (lineages_of e))) ≡ filter (is_a kind.Reg) (nodes_of e)
      of-lineages = ap (map (λ (m : Lineage). m.node)) (filter-all is_register (lineages_of e) k past) ∙ (map-kept (λ (m : Lineage). m.node) (lineages_of e) ∙ ap (filter (is_a kind.Reg)) (all_nodes (Some (top_name e)) e.source.now))

      all : h.spots ≡ registers (Some (top_name e)) e.source.now
      all = same-spots h.spots (registers (Some (top_name e)) e.source.now) (h.nodes_ ∙ (of-lineages ∙ sym (same-registers (Some (top_name e)) e.source.now))) h.among (λ q i. filter-in (λ (x : Placed). is_a kind.Reg x.node) (layout (Some (top_name e)) e.source.now) q i)
