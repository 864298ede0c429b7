-- An order of a source's items has all items of its block, each once.
use Rattle.std.proofs.Common.{◌≡◌, ◌∙◌, ◌≢◌, ◌⊎◌, inl, inr, ℕ, zero, suc, ◌<◌, Bool, true, false, not, ◌&&◌, ◌||◌, cond, if◌then◌else◌, eqb, List, [], ◌∷◌, ◌++◌, filter, flat_map, length, take, Option, None, Some, option_to_list, is_some, IsPermutation, slice_get, Contains, refl, sym, ap, subst, arith}
use Rattle.std.specs.List.{AllByRecursion, IsDistinct, enumerate_from, list_any}
use Rattle.std.proofs.lemmas.Bool.{eq-eqb}
use Rattle.std.proofs.lemmas.Bool.Decides.{Decides-eqb}
use Rattle.std.proofs.lemmas.List.Sorted.{IsPermutation-sym}
use Rattle.std.proofs.lemmas.Map.Keys.{IsDistinct-IsPermutation, IsDistinct-head, IsDistinct-tail}
use Rattle.std.proofs.lemmas.Map.Made.{IsDistinct-from_AllPairs}
use Rattle.plain_lemmas.proofs.Numbers.{eqb-swap as eqb-flips}
use Rattle.rb_model.specs.declared.block.Block.{Block}
use Rattle.rb_model.specs.declared.block.Field.{Field}
use Rattle.rb_model.specs.declared.block.Reg.{Reg}
use Rattle.rb_model.specs.declared.block.Signal.{Signal}
use Rattle.rb_model.specs.declared.kinds.RefItem.{RefItem}
use Rattle.rb_model.specs.declared.kinds.RefItem.TheVariants as item
use Rattle.rb_model.specs.Items as model
use Rattle.rb_model.specs.Items.{field_items, reg_items}
use Rattle.rb_model.specs.Kept.{when}
use Rattle.rdl_tree.specs.Kinds.{same_kind}
use Rattle.rdl_props.specs.declared.prop.Prop.TheVariants as prop
use Rattle.rdl_tree.specs.declared.item.Kind.{Kind}
use Rattle.rdl_tree.specs.declared.item.Kind.TheVariants as kind
use Rattle.rdl_tree.specs.declared.item.Source.{Source}
use Rattle.rdl_tree.specs.declared.node.Elab.{Elab}
use Rattle.rdl_values.specs.Elaborated.{nodes_of, top_name}
use Rattle.rdl_values.specs.Elaboration.{IsClean}
use Rattle.rdl_values.specs.Given.{IsGivenBy}
use Rattle.rdl_values.specs.Instances.{Instance, children, kind_of, signals, top_of, upto}
use Rattle.rdl_values.specs.Lineages.{Lineage, lineages_of}
use Rattle.rdl_values.specs.NoNode.{is_reg}
use Rattle.rdl_values.specs.Uses.{Seen}
use Rattle.rdl_values.specs.Verdict.{IsListOf}
use Rattle.rdl_values.proofs.Given.{IsAtRoot, IsChildOf, children-given, signals-given}
use Rattle.plain_lemmas.proofs.Lists.{each-append, each-imp, get-mapped as got}
use Rattle.rdl_nodes.proofs.Apart.{Apart, apart-append, apart-flat_map, pairs}
use Rattle.rdl_nodes.proofs.Lineages.{all_nodes}
use Rattle.rdl_nodes.proofs.Paths.{nodes_apart}
use Rattle.rdl_nodes.proofs.Members.{In, each-in, flat-in, get-within, in-either, in-flat, in-from, in-place, map-in, place-in}
use Rattle.rdl_nodes.proofs.Order.{behind}
use Rattle.rdl_layers.specs.Fields.{fields_of, has_one_of, is_a, is_alias, is_counter, is_interrupt}
use Rattle.rdl_bits.proofs.Descending.{at-top, top-placed}
use Rattle.rdl_addr.specs.Layout.{has_address}
use Rattle.rdl_refs.specs.Answers.{IsBound}
use Rattle.rdl_refs.specs.declared.item.What.{What}
use Rattle.rdl_refs.specs.declared.item.What.TheVariants as what
use Rattle.rdl_refs.specs.Follows.{edges_of, is_in_alias, is_missing, item_number}
use Rattle.rdl_refs.specs.Graph.{IsOrder}
use Rattle.rdl_refs.specs.Items.{Item, item_of, items, whats}
use Rattle.rdl_rules.specs.Answers.{meaning_fails}
use Rattle.rdl_rules.specs.Block.{halts, reg_of, signal_of}
use Rattle.rdl_rules.specs.Feeds.{count_of, ref_of, ref_to}
use Rattle.rdl_rules.specs.Fields.{field_of}
use Rattle.rdl_rules.specs.Numbers.{Numbered, all_fields, all_signals, number_of, registers}
use Rattle.rdl_sound_laws.specs.Lists.{HasLists}
use Rattle.rdl_sound_laws.specs.Standing.{HasItem}
use Rattle.rdl_sound_laws.proofs.Found.{field-in, in-filter, own}
use Rattle.rdl_sound_laws.proofs.Standing.{item-in, ref-by, same-ref, some-when}
use Rattle.rdl_block_laws.proofs.Having.{in-back, register-of}
use Rattle.rdl_sound_laws.proofs.Faultless.{field-kind}
use Rattle.rdl_sound_laws.proofs.Distinct.{apart-filter}
use Rattle.rdl_block_laws.specs.Ordered.{in_turn, shown_as}
use Rattle.rdl_block_laws.proofs.After.{among-all, shown, shown-there}
use Rattle.rdl_block_laws.proofs.Distinct.{items-apart}
use Rattle.rdl_block_laws.proofs.Fields.{alone, no-alias}
use Rattle.rdl_block_laws.proofs.Members.{IsThere, halting, has, same-item, same-place, signal-number}
use Rattle.rdl_block_laws.proofs.Numbers.{among, apart-index, stands}
use Rattle.rdl_block_laws.proofs.Permuted.{Differ, across-of, apart-of, each-of, same-members}
use Rattle.rdl_block_laws.proofs.Places.{at-field, one-parent, own-register, register-in, register-number}
use Rattle.rdl_block_laws.proofs.Within.{enumerated}
use Rattle.rdl_block_laws.proofs.Numbers as numbers

-- Numbers that are each once.

apart-distinct : (xs : List ℕ) → IsDistinct eqb xs → Apart Differ xs
apart-distinct [] d = tt
apart-distinct (x ∷ xs) d = (each-of (Differ x) xs (λ y h e. let no = each-in (λ z. eqb x z ≡ false) xs y (IsDistinct-head eqb x xs d) h in let yes : eqb x y ≡ true = eq-eqb x y e in let bad : true ≡ false = sym yes ∙ no in cc bad), apart-distinct xs (IsDistinct-tail eqb x xs d))

below : (n : ℕ) → AllByRecursion (λ k. k < n) (upto n)
below zero = tt
below (suc n) = each-append (λ k. k < suc n) (upto n) (n ∷ []) (each-imp (λ k. k < n) (λ k. k < suc n) (upto n) (λ k l. omega (arith, l)) (below n)) (omega arith, tt)

apart-upto : (n : ℕ) → Apart Differ (upto n)
apart-upto zero = tt
apart-upto (suc n) = apart-append Differ (upto n) (n ∷ []) (apart-upto n) (tt, tt) (across-of (upto n) (n ∷ []) (λ x y h g q. before x y h g q))
  where
    before : (x y : ℕ) → In (upto n) x → In (n ∷ []) y → x ≡ y → ⊥
    before x y h (inl p) q = let l = each-in (λ k. k < n) (upto n) x (below n) h in absurd (omega (arith, l, p, q))
    before x y h (inr p) q = absurd p

distinct-upto : (n : ℕ) → IsDistinct eqb (upto n)
distinct-upto n = IsDistinct-from_AllPairs Decides-eqb (upto n) (pairs Differ (upto n) (apart-upto n))

-- What passes a test.

passing : {X : Type 0} (p : X → Bool) (xs : List X) (x : X) → In (filter p xs) x → p x ≡ true
passing p [] x h = absurd h
passing p (y ∷ ys) x h = go (p y) refl h (passing p ys x)
  where
    go : (b : Bool) → p y ≡ b → In (cond b (y ∷ filter p ys) (filter p ys)) x → (In (filter p ys) x → p x ≡ true) → p x ≡ true
    go true q (inl e) rest = subst (λ z. p z ≡ true) e q
    go true q (inr i) rest = rest i
    go false q i rest = rest i

signal-kind : (n : Instance) → is_a kind.Signal n ≡ true → kind_of n ≡ kind.Signal
signal-kind n e = go (kind_of n) e
  where
    go : (k : Kind) → same_kind kind.Signal k ≡ true → k ≡ kind.Signal
    go kind.Signal q = refl
    go kind.Field q = cc
    go kind.Reg q = cc
    go kind.Regfile q = cc
    go kind.Addrmap q = cc

reg-kind : (n : Instance) → is_a kind.Reg n ≡ true → kind_of n ≡ kind.Reg
reg-kind n e = go (kind_of n) e
  where
    go : (k : Kind) → same_kind kind.Reg k ≡ true → k ≡ kind.Reg
    go kind.Reg q = refl
    go kind.Signal q = cc
    go kind.Field q = cc
    go kind.Regfile q = cc
    go kind.Addrmap q = cc

-- where an interrupt is enabled or masked for halt, a field is
some-halts : (fs : List Instance) → list_any halts fs ≡ true → list_any (has_one_of (prop.Haltenable ∷ prop.Haltmask ∷ [])) fs ≡ true
some-halts [] e = e
some-halts (f ∷ fs) e = go (is_interrupt f) (has_one_of (prop.Haltenable ∷ prop.Haltmask ∷ []) f) e (some-halts fs)
  where
    go : (a c : Bool) → ((a && c) || list_any halts fs) ≡ true → (list_any halts fs ≡ true → list_any (has_one_of (prop.Haltenable ∷ prop.Haltmask ∷ [])) fs ≡ true) → (c || list_any (has_one_of (prop.Haltenable ∷ prop.Haltmask ∷ [])) fs) ≡ true
    go a true x rest = refl
    go true false x rest = rest x
    go false false x rest = rest x

module _ (e : Elab) (b : Block) (ks : List ℕ) (clean : IsClean e) (bound : IsBound e) (none : IsListOf (meaning_fails e) []) (is : HasLists (Some (top_name e)) e.source.now b) (order : IsOrder (edges_of (lineages_of e)) ks) where
  abbrev w : Option (List ℕ)
  w = Some (top_name e)

  abbrev s : Source
  s = e.source.now

  abbrev all : List Lineage
  all = lineages_of e

  abbrev ns : List Instance
  ns = nodes_of e

  abbrev shows : ℕ → List RefItem
  shows = shown e b ks clean bound none is order

  halts-of : (f : Instance) → Contains (all_fields ns) f → has_one_of (prop.Haltenable ∷ prop.Haltmask ∷ []) f ≡ true → is_interrupt f ≡ true
  halts-of = halting e b clean none is

  -- What is listed.

  pub record IsShown (k : ℕ) (j : RefItem) : Type 0 where
    pub item_ : Item
    pub here : slice_get (items all) k ≡ Some item_
    pub there : IsThere item_
    pub is_ : ref_to all item_ ≡ j

  shown-at : (k : ℕ) (j : RefItem) → In (shows k) j → IsShown k j
  shown-at k j h = go (slice_get (items all) k) refl h
    where
      one : (x : Item) → slice_get (items all) k ≡ Some x → (c : Bool) → (is_missing x || is_in_alias x) ≡ c → In (cond c [] (ref_to all x ∷ []) ++ []) j → IsShown k j
      one x p true q i = absurd i
      one x p false q (inl i) = record { item_ = x; here = p; there = q; is_ = i }
      one x p false q (inr i) = absurd i

      go : (o : Option Item) → slice_get (items all) k ≡ o → In (flat_map (shown_as all) (option_to_list o)) j → IsShown k j
      go None p i = absurd i
      go (Some x) p i = one x p (is_missing x || is_in_alias x) refl i

  shown-apart : (k : ℕ) → Apart Differ (shows k)
  shown-apart k = go (slice_get (items all) k)
    where
      one : (x : Item) (c : Bool) → Apart Differ (cond c [] (ref_to all x ∷ []) ++ [])
      one x true = tt
      one x false = (tt, tt)

      go : (o : Option Item) → Apart Differ (flat_map (shown_as all) (option_to_list o))
      go None = tt
      go (Some x) = one x (is_missing x || is_in_alias x)

  numbers-apart : Apart Differ ks
  numbers-apart = apart-distinct ks (IsDistinct-IsPermutation eqb eqb-flips (upto (length (edges_of all))) ks (IsPermutation-sym ks (upto (length (edges_of all))) order.each_once) (distinct-upto (length (edges_of all))))

  turn-apart : Apart Differ (in_turn all ks)
  turn-apart = apart-flat_map Differ shows ks
      (apart-of Differ _ ks (λ j k h g n. across-of (shows j) (shows k) (λ x y p q r. n (same-number j k x y p q r))) numbers-apart)
      (each-of (λ k. Apart Differ (shows k)) ks (λ k h. shown-apart k))
    where
      same-number : (j k : ℕ) (x y : RefItem) → In (shows j) x → In (shows k) y → x ≡ y → j ≡ k
      same-number j k x y p q r =
          let a = shown-at j x p in
          let c = shown-at k y q in
          same-place e b clean none is j k a.item_ c.item_ a.here c.here (same-item e b clean none is a.item_ c.item_ (place-in (items all) j a.item_ a.here) (place-in (items all) k c.item_ c.here) a.there c.there (a.is_ ∙ r ∙ sym c.is_))

  -- What is listed is the block's.

  forth : (j : RefItem) → In (in_turn all ks) j → In (model.items b) j
  forth j h =
      let q = flat-in shows ks j h in
      let x = shown-at q.0 j q.2 in
      let st = stands all x.item_ (place-in (items all) q.0 x.item_ x.here) in
      let has_ : HasItem ns x.item_ = subst (HasItem ns) st.is (has e b clean none is st.lineage x.item_.what st.here st.has (subst IsThere (sym st.is) x.there)) in
      subst (In (model.items b)) x.is_ (in-from (model.items b) (ref_to all x.item_) (item-in w s b is x.item_ has_))

  -- What is the block's is listed.

  listed : (l : Lineage) (v : What) (j : RefItem) → In all l → In (whats (kind_of l.node)) v → IsThere (item_of l v) → ref_to all (item_of l v) ≡ j → In (in_turn all ks) j
  listed l v j i h there q =
      let x = item_of l v in
      let at = numbers.at-number w s x (among all l v i h) in
      let k = item_number all x in
      in-flat shows ks k j (among-all e b ks clean bound none is order k (get-within (items all) k x at)) (shown-there e b ks clean bound none is order x k j at there (sym q))

  lineage-of : (n : Instance) → In ns n → (l : Lineage) × In all l × (l.node ≡ n)
  lineage-of n h = map-in (λ (l : Lineage). l.node) all n (subst (λ xs. In xs n) (sym (all_nodes w s)) h)

  -- a signal is no alias
  signal-alone : (l : Lineage) → In all l → kind_of l.node ≡ kind.Signal → is_alias l.node ≡ false
  signal-alone l i k = go l.ancestors refl
    where
      given : (by : Seen) → IsGivenBy by l.node → is_alias l.node ≡ false
      given by g = alone by l.node g (ap is_reg k)

      no-place : (t : Kind) → kind_of l.node ≡ t → t ≡ kind.Signal → has_address l.node ≡ false
      no-place kind.Signal q x = rw q refl
      no-place kind.Addrmap q x = cc
      no-place kind.Regfile q x = cc
      no-place kind.Reg q x = cc
      no-place kind.Field q x = cc

      root : In (signals s) l.node ⊎ In (top_of w s) l.node → is_alias l.node ≡ false
      root (inl t) = let h = each-in IsAtRoot (signals s) l.node (signals-given s) t in given h.by h.given_
      root (inr t) = let bad : true ≡ false = sym (top-placed w s l.node t) ∙ no-place (kind_of l.node) refl k in cc bad

      go : (as' : List Instance) → l.ancestors ≡ as' → is_alias l.node ≡ false
      go [] q = root (at-top w s l i q)
      go (r ∷ up) q =
          let place = in-place all l i in
          let c = behind w s place.0 l r up place.2 q in
          let child = each-in (IsChildOf r) (children r) l.node (children-given r) c.3 in
          given child.by child.given_

  signals-back : (j : RefItem) (p : ℕ × Signal) → In (enumerate_from 0 b.signals) p → In (item.Signal p.0 ∷ []) j → In (in_turn all ks) j
  signals-back j p h (inr x) = absurd x
  signals-back j p h (inl x) =
      let at = enumerated 0 b.signals p h in
      let n = got signal_of (all_signals ns) at.0 p.1 (ap (λ xs. slice_get xs at.0) (sym is.signals_) ∙ at.2) in
      let in_ = place-in (all_signals ns) at.0 n.0 n.1 in
      let l = lineage-of n.0 (in-filter (is_a kind.Signal) ns n.0 in_) in
      let k : kind_of l.0.node ≡ kind.Signal = ap kind_of l.2 ∙ signal-kind n.0 (passing (is_a kind.Signal) ns n.0 in_) in
      let number : number_of n.0 (all_signals ns) ≡ at.0 = apart-index (λ (m : Instance). m.path) (all_signals ns) (apart-filter (λ (x y : Instance). x.path ≢ y.path) (is_a kind.Signal) ns (nodes_apart w s)) (number_of n.0 (all_signals ns)) at.0 n.0 n.0 (signal-number e b clean none is n.0 in_) n.1 refl in
      let same : at.0 ≡ p.0 = (let q = at.1 in omega (arith, q)) in
      listed l.0 what.Value j l.1 (subst (λ q. In (whats q) what.Value) (sym k) (inl refl)) (there l.0 l.1 k)
      (same-ref w s b is (item_of l.0 what.Value) ∙ ap (λ q. ref-by ns l.0.node q what.Value) k ∙ ap (λ (m : Instance). item.Signal (number_of m (all_signals ns))) l.2 ∙ ap item.Signal (number ∙ same) ∙ x)
    where
      there : (l : Lineage) → In all l → kind_of l.node ≡ kind.Signal → IsThere (item_of l what.Value)
      there l i k = ap (λ t. t || (is_a kind.Field l.node && list_any is_alias (take 1 l.ancestors))) (signal-alone l i k) ∙ ap (λ t. t && list_any is_alias (take 1 l.ancestors)) (ap (same_kind kind.Field) k)

  fields-back : (j : RefItem) (p : ℕ × Field) → In (enumerate_from 0 b.fields) p → In (field_items p) j → In (in_turn all ks) j
  fields-back j p h x =
      let at = enumerated 0 b.fields p h in
      let f = at-field w s b is at.0 p.1 at.2 in
      let l = lineage-of f.0 (field-in w s f.0 f.1.listed) in
      let same : p.1 ≡ field_of s all f.1.register f.0 = one-some (sym at.2 ∙ f.1.here) in
      let number : p.0 ≡ number_of f.0 (all_fields ns) = (let q = at.1 in let r = f.1.number in omega (arith, q, r)) in
      let k : kind_of l.0.node ≡ kind.Field = ap kind_of l.2 ∙ field-kind (children f.1.register.register.node) f.0 f.1.of in
      of-field l.0 l.1 k (own-there l.0 l.1 k f.1.register (subst (In (fields_of f.1.register.register.node)) (sym l.2) f.1.of) f.1.own_) j (is_some p.1.count) (ap (λ (y : Field). is_some y.count) same ∙ some-when (is_counter f.0) (count_of all f.0) ∙ ap is_counter (sym l.2))
      p.0 (number ∙ ap (λ m. number_of m (all_fields ns)) (sym l.2)) x
    where
      one-some : {y z : Field} → Some y ≡ Some z → y ≡ z
      one-some q = cc q

      -- a field of a register that is no alias is in none
      own-there : (l : Lineage) → In all l → kind_of l.node ≡ kind.Field → (r : Numbered Lineage) → In (fields_of r.register.node) l.node → In (own all) r → is_in_alias (item_of l what.Value) ≡ false
      own-there l i k r g o =
          let up = register-of w s halts-of l i k in
          let one : r.register.node ≡ up.0 = one-parent w s r.register.node up.0 l.node (register-in w s r o) (in-back (is_a kind.Reg) ns up.0 up.3 (ap (same_kind kind.Reg) up.5)) g (in-back (is_a kind.Field) (children up.0) l.node up.4 (ap (same_kind kind.Field) k)) in
          let child = each-in (IsChildOf up.0) (children up.0) l.node (children-given up.0) up.4 in
          let plain : is_alias up.0 ≡ false = ap is_alias (sym one) ∙ own-register w s r o in
          let none_ : list_any is_alias (take 1 l.ancestors) ≡ false = ap (λ as'. list_any is_alias (take 1 as')) up.2 ∙ ap (λ t. t || false) plain in
          ap (λ t. t || (is_a kind.Field l.node && list_any is_alias (take 1 l.ancestors))) (no-alias child.by l.node child.given_ k) ∙ ap (λ t. is_a kind.Field l.node && t) none_ ∙ and-nothing (is_a kind.Field l.node)
        where
          and-nothing : (t : Bool) → (t && false) ≡ false
          and-nothing true = refl
          and-nothing false = refl

      of-field : (l : Lineage) → In all l → kind_of l.node ≡ kind.Field → is_in_alias (item_of l what.Value) ≡ false → (j : RefItem) (c : Bool) → c ≡ is_counter l.node → (n : ℕ) → n ≡ number_of l.node (all_fields ns)
          → In (item.Field n ∷ item.Anded n ∷ item.Ored n ∷ item.Xored n ∷ ((if c then item.IncrThreshold n ∷ item.DecrThreshold n ∷ item.Overflow n ∷ item.Underflow n ∷ [] else []) ++ item.SwMod n ∷ item.SwAcc n ∷ [])) j → In (in_turn all ks) j
      of-field l i k own j c counter n number x = go c counter x
        where
          one : (v : What) → In (whats kind.Field) v → is_missing (item_of l v) ≡ false → ref_of v n ≡ j → In (in_turn all ks) j
          one v g m q = listed l v j i (subst (λ t. In (whats t) v) (sym k) g) (ap (λ t. t || is_in_alias (item_of l v)) m ∙ own)
              (same-ref w s b is (item_of l v) ∙ ap (λ t. ref-by ns l.node t v) k ∙ ap (ref_of v) (sym number) ∙ q)

          counts_ : true ≡ is_counter l.node → not (is_counter l.node) ≡ false
          counts_ q = ap not (sym q)

          go : (c : Bool) → c ≡ is_counter l.node → In (item.Field n ∷ item.Anded n ∷ item.Ored n ∷ item.Xored n ∷ ((if c then item.IncrThreshold n ∷ item.DecrThreshold n ∷ item.Overflow n ∷ item.Underflow n ∷ [] else []) ++ item.SwMod n ∷ item.SwAcc n ∷ [])) j → In (in_turn all ks) j
          go c q (inl x) = one what.Value (inl refl) refl x
          go c q (inr (inl x)) = one what.Anded (inr (inl refl)) refl x
          go c q (inr (inr (inl x))) = one what.Ored (inr (inr (inl refl))) refl x
          go c q (inr (inr (inr (inl x)))) = one what.Xored (inr (inr (inr (inl refl)))) refl x
          go true q (inr (inr (inr (inr (inl x))))) = one what.IncrThreshold (inr (inr (inr (inr (inl refl))))) (counts_ q) x
          go true q (inr (inr (inr (inr (inr (inl x)))))) = one what.DecrThreshold (inr (inr (inr (inr (inr (inl refl)))))) (counts_ q) x
          go true q (inr (inr (inr (inr (inr (inr (inl x))))))) = one what.Overflow (inr (inr (inr (inr (inr (inr (inl refl))))))) (counts_ q) x
          go true q (inr (inr (inr (inr (inr (inr (inr (inl x)))))))) = one what.Underflow (inr (inr (inr (inr (inr (inr (inr (inl refl)))))))) (counts_ q) x
          go true q (inr (inr (inr (inr (inr (inr (inr (inr (inl x))))))))) = one what.SwMod (inr (inr (inr (inr (inr (inr (inr (inr (inl refl))))))))) refl x
          go true q (inr (inr (inr (inr (inr (inr (inr (inr (inr (inl x)))))))))) = one what.SwAcc (inr (inr (inr (inr (inr (inr (inr (inr (inr (inl refl)))))))))) refl x
          go true q (inr (inr (inr (inr (inr (inr (inr (inr (inr (inr x)))))))))) = absurd x
          go false q (inr (inr (inr (inr (inl x))))) = one what.SwMod (inr (inr (inr (inr (inr (inr (inr (inr (inl refl))))))))) refl x
          go false q (inr (inr (inr (inr (inr (inl x)))))) = one what.SwAcc (inr (inr (inr (inr (inr (inr (inr (inr (inr (inl refl)))))))))) refl x
          go false q (inr (inr (inr (inr (inr (inr x)))))) = absurd x

  regs-back : (j : RefItem) (p : ℕ × Reg) → In (enumerate_from 0 b.regs) p → In (reg_items p) j → In (in_turn all ks) j
  regs-back j p h x =
      let at = enumerated 0 b.regs p h in
      let n = got reg_of (registers ns) at.0 p.1 (ap (λ xs. slice_get xs at.0) (sym is.regs_) ∙ at.2) in
      let in_ = place-in (registers ns) at.0 n.0 n.1 in
      let l = lineage-of n.0 (in-filter (is_a kind.Reg) ns n.0 in_) in
      let k : kind_of l.0.node ≡ kind.Reg = ap kind_of l.2 ∙ reg-kind n.0 (passing (is_a kind.Reg) ns n.0 in_) in
      let number : number_of n.0 (registers ns) ≡ at.0 = apart-index (λ (m : Instance). m.path) (registers ns) (apart-filter (λ (y z : Instance). y.path ≢ z.path) (is_a kind.Reg) ns (nodes_apart w s)) (number_of n.0 (registers ns)) at.0 n.0 n.0 (register-number w s n.0 in_) n.1 refl in
      let same : at.0 ≡ p.0 = (let q = at.1 in omega (arith, q)) in
      of-reg l.0 l.1 k p.0 (sym same ∙ sym number ∙ ap (λ m. number_of m (registers ns)) (sym l.2)) p.1 (sym n.2 ∙ ap reg_of (sym l.2)) (in-either (when p.1.intr (item.Intr p.0)) (when p.1.halt (item.Halt p.0)) j x)
    where
      of-reg : (l : Lineage) → In all l → kind_of l.node ≡ kind.Reg → (n : ℕ) → n ≡ number_of l.node (registers ns) → (r : Reg) → r ≡ reg_of l.node → In (when r.intr (item.Intr n)) j ⊎ In (when r.halt (item.Halt n)) j → In (in_turn all ks) j
      of-reg l i k n number r same x = go x
        where
          one : (v : What) → In (whats kind.Reg) v → is_missing (item_of l v) ≡ false → is_alias l.node ≡ false → ref_of v n ≡ j → In (in_turn all ks) j
          one v g m own q = listed l v j i (subst (λ t. In (whats t) v) (sym k) g) (ap (λ t. t || is_in_alias (item_of l v)) m ∙ ap (λ t. t || (is_a kind.Field l.node && list_any is_alias (take 1 l.ancestors))) own ∙ ap (λ t. t && list_any is_alias (take 1 l.ancestors)) (ap (same_kind kind.Field) k))
              (same-ref w s b is (item_of l v) ∙ ap (λ t. ref-by ns l.node t v) k ∙ ap (ref_of v) (sym number) ∙ q)

          parts : (a c : Bool) → (not a && c) ≡ true → (a ≡ false) × (c ≡ true)
          parts true c q = cc q
          parts false c q = (refl, q)

          line : (t : Bool) → r.intr ≡ t → In (when t (item.Intr n)) j → In (in_turn all ks) j
          line true q (inl y) = let h = parts (is_alias l.node) (list_any is_interrupt (fields_of l.node)) (ap (λ (z : Reg). z.intr) (sym same) ∙ q) in one what.Intr (inl refl) (ap not h.1) h.0 y
          line true q (inr y) = absurd y
          line false q y = absurd y

          stop : (t : Bool) → r.halt ≡ t → In (when t (item.Halt n)) j → In (in_turn all ks) j
          stop true q (inl y) = let h = parts (is_alias l.node) (list_any halts (fields_of l.node)) (ap (λ (z : Reg). z.halt) (sym same) ∙ q) in one what.Halt (inr (inl refl)) (ap not (some-halts (fields_of l.node) h.1)) h.0 y
          stop true q (inr y) = absurd y
          stop false q y = absurd y

          go : In (when r.intr (item.Intr n)) j ⊎ In (when r.halt (item.Halt n)) j → In (in_turn all ks) j
          go (inl y) = line r.intr refl y
          go (inr y) = stop r.halt refl y

  back : (j : RefItem) → In (model.items b) j → In (in_turn all ks) j
  back j h = last (in-either (flat_map (λ x. item.Signal x.0 ∷ []) (enumerate_from 0 b.signals) ++ flat_map field_items (enumerate_from 0 b.fields)) (flat_map reg_items (enumerate_from 0 b.regs)) j h)
    where
      first : In (flat_map (λ (x : ℕ × Signal). item.Signal x.0 ∷ []) (enumerate_from 0 b.signals)) j ⊎ In (flat_map field_items (enumerate_from 0 b.fields)) j → In (in_turn all ks) j
      first (inl x) = let q = flat-in (λ (x : ℕ × Signal). item.Signal x.0 ∷ []) (enumerate_from 0 b.signals) j x in signals-back j q.0 q.1 q.2
      first (inr x) = let q = flat-in field_items (enumerate_from 0 b.fields) j x in fields-back j q.0 q.1 q.2

      last : In (flat_map (λ (x : ℕ × Signal). item.Signal x.0 ∷ []) (enumerate_from 0 b.signals) ++ flat_map field_items (enumerate_from 0 b.fields)) j ⊎ In (flat_map reg_items (enumerate_from 0 b.regs)) j → In (in_turn all ks) j
      last (inl x) = first (in-either (flat_map (λ (x : ℕ × Signal). item.Signal x.0 ∷ []) (enumerate_from 0 b.signals)) (flat_map field_items (enumerate_from 0 b.fields)) j x)
      last (inr x) = let q = flat-in reg_items (enumerate_from 0 b.regs) j x in regs-back j q.0 q.1 q.2

  pub all-once : IsPermutation (model.items b) (in_turn all ks)
  all-once = same-members (model.items b) (in_turn all ks) (items-apart b) turn-apart (λ j h. back j h) (λ j h. forth j h)
