-- Which items of a source its block has, and that different items are different there.
use Rattle.std.proofs.Common.{◌≡◌, ◌∙◌, ◌≢◌, inl, inr, ℕ, ◌<◌, Bool, true, false, not, ◌&&◌, ◌||◌, List, [], ◌∷◌, Option, Some, slice_get, slice_index_or, Contains, refl, sym, ap, subst, arith}
use Rattle.std.specs.List.{list_any}
use Rattle.plain_lemmas.proofs.Bools.{and-both_true as and-yes, or-left as or-first, or-neither as or-none, or-true_right as or-more, true-of_not as not-false}
use Rattle.rb_model.specs.declared.block.Block.{Block}
use Rattle.rdl_tree.specs.Kinds.{same_kind}
use Rattle.rdl_props.specs.declared.prop.Prop.TheVariants as prop
use Rattle.rdl_tree.specs.declared.item.Kind.{Kind}
use Rattle.rdl_tree.specs.declared.item.Kind.TheVariants as kind
use Rattle.rdl_tree.specs.declared.item.Source.{Source}
use Rattle.rdl_tree.specs.declared.node.Elab.{Elab}
use Rattle.rdl_values.specs.Elaborated.{nodes_of, top_name}
use Rattle.rdl_values.specs.Elaboration.{IsClean}
use Rattle.rdl_values.specs.Instances.{Instance, kind_of}
use Rattle.rdl_values.specs.Lineages.{Lineage, lineages, lineages_of}
use Rattle.rdl_values.specs.Verdict.{IsListOf}
use Rattle.rdl_nodes.proofs.Apart.{Apart, apart-flat_map, apart-map}
use Rattle.rdl_nodes.proofs.Lineages.{all_nodes}
use Rattle.rdl_nodes.proofs.Paths.{nodes_apart}
use Rattle.rdl_nodes.proofs.Members.{In, each-in, in-flat, in-from, in-to, map-in}
use Rattle.rdl_layers.specs.Fields.{fields_of, has_one_of, is_a, is_alias, is_counter, is_interrupt}
use Rattle.rdl_sound_laws.proofs.Closed.{one-node}
use Rattle.rdl_refs.specs.declared.item.What.{What}
use Rattle.rdl_refs.specs.declared.item.What.TheVariants as what
use Rattle.rdl_refs.specs.Follows.{is_in_alias, is_missing}
use Rattle.rdl_refs.specs.Items.{Item, item_of, items, items_of, whats}
use Rattle.rdl_rules.specs.Answers.{meaning_fails}
use Rattle.rdl_rules.specs.Block.{halts}
use Rattle.rdl_rules.specs.Feeds.{ref_of, ref_to}
use Rattle.rdl_rules.specs.Numbers.{all_fields, all_signals, number_of, primaries, registers}
use Rattle.rdl_sound_laws.specs.Lists.{HasLists}
use Rattle.rdl_sound_laws.specs.Standing.{FieldHas, HasItem, NodeHas}
use Rattle.rdl_sound_laws.proofs.Found.{found, in-filter}
use Rattle.rdl_sound_laws.proofs.Standing.{ref-by, same-ref}
use Rattle.rdl_block_laws.proofs.Having.{field-listed, in-back, in-nodes, own-register}
use Rattle.rdl_sound_laws.proofs.Faultless as faultless
use Rattle.rdl_block_laws.proofs.Distinct.{apart-by, index_of, rank_of}
use Rattle.rdl_block_laws.proofs.Numbers.{apart-index, node-lineages, same-lineage, stands}
use Rattle.rdl_block_laws.proofs.Permuted.{Differ, across-of, apart-of, each-of}
use Rattle.rdl_block_laws.proofs.Places.{field-number, register-number}

-- an item that is there, and is no alias's
abbrev pub IsThere : Item → Type 0
IsThere i = (is_missing i || is_in_alias i) ≡ false

pub is-signal : (n : Instance) → kind_of n ≡ kind.Signal → is_a kind.Signal n ≡ true
is-signal n e = ap (same_kind kind.Signal) e

-- What an item is, as a number.

abbrev what_rank : What → ℕ
what_rank what.Value = 0
what_rank what.Anded = 1
what_rank what.Ored = 2
what_rank what.Xored = 3
what_rank what.IncrThreshold = 4
what_rank what.DecrThreshold = 5
what_rank what.Overflow = 6
what_rank what.Underflow = 7
what_rank what.SwMod = 8
what_rank what.SwAcc = 9
what_rank what.Intr = 10
what_rank what.Halt = 11

abbrev all_whats : List What
all_whats = what.Value ∷ what.Anded ∷ what.Ored ∷ what.Xored ∷ what.IncrThreshold ∷ what.DecrThreshold ∷ what.Overflow ∷ what.Underflow ∷ what.SwMod ∷ what.SwAcc ∷ what.Intr ∷ what.Halt ∷ []

abbrev what_at : ℕ → What
what_at n = slice_index_or all_whats n what.Halt

ranked : (v : What) → what_at (what_rank v) ≡ v
ranked what.Value = refl
ranked what.Anded = refl
ranked what.Ored = refl
ranked what.Xored = refl
ranked what.IncrThreshold = refl
ranked what.DecrThreshold = refl
ranked what.Overflow = refl
ranked what.Underflow = refl
ranked what.SwMod = refl
ranked what.SwAcc = refl
ranked what.Intr = refl
ranked what.Halt = refl

same-rank : (v w : What) → what_rank v ≡ what_rank w → v ≡ w
same-rank v w e = sym (ranked v) ∙ ap what_at e ∙ ranked w

ref-rank : (v : What) (n : ℕ) → rank_of (ref_of v n) ≡ what_rank v
ref-rank what.Value n = refl
ref-rank what.Anded n = refl
ref-rank what.Ored n = refl
ref-rank what.Xored n = refl
ref-rank what.IncrThreshold n = refl
ref-rank what.DecrThreshold n = refl
ref-rank what.Overflow n = refl
ref-rank what.Underflow n = refl
ref-rank what.SwMod n = refl
ref-rank what.SwAcc n = refl
ref-rank what.Intr n = refl
ref-rank what.Halt n = refl

ref-index : (v : What) (n : ℕ) → index_of (ref_of v n) ≡ n
ref-index what.Value n = refl
ref-index what.Anded n = refl
ref-index what.Ored n = refl
ref-index what.Xored n = refl
ref-index what.IncrThreshold n = refl
ref-index what.DecrThreshold n = refl
ref-index what.Overflow n = refl
ref-index what.Underflow n = refl
ref-index what.SwMod n = refl
ref-index what.SwAcc n = refl
ref-index what.Intr n = refl
ref-index what.Halt n = refl

-- the ranks of the items of a node of each kind
field-low : (v : What) → In (whats kind.Field) v → what_rank v < 10
field-low v h = each-in (λ u. what_rank u < 10) (whats kind.Field) v (omega arith, (omega arith, (omega arith, (omega arith, (omega arith, (omega arith, (omega arith, (omega arith, (omega arith, (omega arith, tt)))))))))) h

reg-high : (v : What) → In (whats kind.Reg) v → (9 < what_rank v) × (what_rank v < 12)
reg-high v h = each-in (λ u. (9 < what_rank u) × (what_rank u < 12)) (whats kind.Reg) v ((omega arith, omega arith), ((omega arith, omega arith), tt)) h

-- The items of a source differ.

whats-apart : (k : Kind) → Apart Differ (whats k)
whats-apart kind.Signal = (tt, tt)
whats-apart kind.Field = apart-by what_rank (whats kind.Field) refl
whats-apart kind.Reg = apart-by what_rank (whats kind.Reg) refl
whats-apart kind.Addrmap = tt
whats-apart kind.Regfile = tt

items-of-apart : (l : Lineage) → Apart Differ (items_of l)
items-of-apart l = apart-map Differ (item_of l) (whats (kind_of l.node)) (apart-of Differ _ (whats (kind_of l.node)) (λ v u h g n e. n (ap (λ (x : Item). x.what) e)) (whats-apart (kind_of l.node)))

of-lineage : (l : Lineage) (x : Item) → In (items_of l) x → x.node ≡ l.node
of-lineage l x h = let q = map-in (item_of l) (whats (kind_of l.node)) x h in sym (ap (λ (y : Item). y.node) q.2)

pub all-apart : (wanted : Option (List ℕ)) (s : Source) → Apart Differ (items (lineages wanted s))
unfolding items
all-apart wanted s =
    let all = lineages wanted s in
    let paths : Apart (λ (a b : Lineage). a.node.path ≢ b.node.path) all = node-lineages all (subst (Apart (λ (a b : Instance). a.path ≢ b.path)) (sym (all_nodes wanted s)) (nodes_apart wanted s)) in
    apart-flat_map Differ items_of all
    (apart-of (λ (a b : Lineage). a.node.path ≢ b.node.path) _ all (λ l m h g n. across-of (items_of l) (items_of m) (λ x y i j e. n (sym (ap (λ (z : Instance). z.path) (of-lineage l x i)) ∙ ap (λ (z : Item). z.node.path) e ∙ ap (λ (z : Instance). z.path) (of-lineage m y j)))) paths)
    (each-of (λ l. Apart Differ (items_of l)) all (λ l h. items-of-apart l))

module _ (e : Elab) (b : Block) (clean : IsClean e) (none : IsListOf (meaning_fails e) []) (is : HasLists (Some (top_name e)) e.source.now b) where
  abbrev w : Option (List ℕ)
  w = Some (top_name e)

  abbrev s : Source
  s = e.source.now

  abbrev all : List Lineage
  all = lineages_of e

  abbrev ns : List Instance
  ns = nodes_of e

  pub halting : (f : Instance) → Contains (all_fields ns) f → has_one_of (prop.Haltenable ∷ prop.Haltmask ∷ []) f ≡ true → is_interrupt f ≡ true
  halting f c h = faultless.halts e none f (in-from (all_fields ns) f c) h

  -- What an item that is there is of.

  field-has : (l : Lineage) (v : What) → In (whats kind.Field) v → is_missing (item_of l v) ≡ false → FieldHas l.node v
  field-has l what.Value h m = tt
  field-has l what.Anded h m = tt
  field-has l what.Ored h m = tt
  field-has l what.Xored h m = tt
  field-has l what.IncrThreshold h m = not-false (is_counter l.node) m
  field-has l what.DecrThreshold h m = not-false (is_counter l.node) m
  field-has l what.Overflow h m = not-false (is_counter l.node) m
  field-has l what.Underflow h m = not-false (is_counter l.node) m
  field-has l what.SwMod h m = tt
  field-has l what.SwAcc h m = tt
  field-has l what.Intr h m = let q = field-low what.Intr h in absurd (omega (arith, q))
  field-has l what.Halt h m = let q = field-low what.Halt h in absurd (omega (arith, q))

  -- where one of the fields is enabled or masked for halt, an interrupt is
  halting-too : (fs : List Instance) → ((f : Instance) → In fs f → Contains (all_fields ns) f) → list_any (has_one_of (prop.Haltenable ∷ prop.Haltmask ∷ [])) fs ≡ true → list_any halts fs ≡ true
  halting-too [] h q = q
  halting-too (f ∷ fs) h q = by (has_one_of (prop.Haltenable ∷ prop.Haltmask ∷ []) f) refl q (halting-too fs (λ g k. h g (inr k)))
    where
      by : (t : Bool) → has_one_of (prop.Haltenable ∷ prop.Haltmask ∷ []) f ≡ t → (t || list_any (has_one_of (prop.Haltenable ∷ prop.Haltmask ∷ [])) fs) ≡ true → (list_any (has_one_of (prop.Haltenable ∷ prop.Haltmask ∷ [])) fs ≡ true → list_any halts fs ≡ true) → ((is_interrupt f && has_one_of (prop.Haltenable ∷ prop.Haltmask ∷ []) f) || list_any halts fs) ≡ true
      by true k x rest = or-first (is_interrupt f && has_one_of (prop.Haltenable ∷ prop.Haltmask ∷ []) f) (list_any halts fs) (and-yes (is_interrupt f) (has_one_of (prop.Haltenable ∷ prop.Haltmask ∷ []) f) (halting f (h f (inl refl)) k) k)
      by false k x rest = or-more (is_interrupt f && has_one_of (prop.Haltenable ∷ prop.Haltmask ∷ []) f) (list_any halts fs) (rest x)

  both : {a c : Bool} → a ≡ false → c ≡ true → (not a && c) ≡ true
  both {a} {c} x y = and-yes (not a) c (ap not x) y

  field-own : (l : Lineage) → In all l → kind_of l.node ≡ kind.Reg → is_alias l.node ≡ false → (f : Instance) → In (fields_of l.node) f → Contains (all_fields ns) f
  field-own l i k own f h =
      let primary : In (primaries ns) l.node = in-back (λ x. not (is_alias x)) (registers ns) l.node (own-register w s halting l i k) (ap not own) in
      in-to (all_fields ns) f (in-flat fields_of (primaries ns) l.node f primary h)

  reg-has : (l : Lineage) → In all l → kind_of l.node ≡ kind.Reg → (v : What) → In (whats kind.Reg) v → is_missing (item_of l v) ≡ false → is_alias l.node ≡ false → NodeHas ns l.node kind.Reg v
  reg-has l i k v (inl q) m own = subst (NodeHas ns l.node kind.Reg) q (in-to (registers ns) l.node (own-register w s halting l i k), both own (not-false (list_any is_interrupt (fields_of l.node)) (subst (λ x. is_missing (item_of l x) ≡ false) (sym q) m)))
  reg-has l i k v (inr (inl q)) m own = subst (NodeHas ns l.node kind.Reg) q (in-to (registers ns) l.node (own-register w s halting l i k), both own (halting-too (fields_of l.node) (λ f h. field-own l i k own f h) (not-false (list_any (has_one_of (prop.Haltenable ∷ prop.Haltmask ∷ [])) (fields_of l.node)) (subst (λ x. is_missing (item_of l x) ≡ false) (sym q) m))))
  reg-has l i k v (inr (inr q)) m own = absurd q

  pub has : (l : Lineage) (v : What) → In all l → In (whats (kind_of l.node)) v → IsThere (item_of l v) → HasItem ns (item_of l v)
  has l v i h there = go (kind_of l.node) refl h
    where
      parts : (is_missing (item_of l v) ≡ false) × (is_in_alias (item_of l v) ≡ false)
      parts = or-none (is_missing (item_of l v)) (is_in_alias (item_of l v)) there

      signal : kind_of l.node ≡ kind.Signal → (u : What) → In (whats kind.Signal) u → NodeHas ns l.node kind.Signal u
      signal k u (inl q) = subst (NodeHas ns l.node kind.Signal) q (in-to (all_signals ns) l.node (in-back (is_a kind.Signal) ns l.node (in-nodes w s halting l i) (is-signal l.node k)))
      signal k u (inr q) = absurd q

      go : (k : Kind) → kind_of l.node ≡ k → In (whats k) v → NodeHas ns l.node k v
      go kind.Signal k g = signal k v g
      go kind.Field k g = (in-to (all_fields ns) l.node (field-listed w s halting l i k parts.1), field-has l v g parts.0)
      go kind.Reg k g = reg-has l i k v g parts.0 (or-none (is_alias l.node) _ parts.1).0
      go kind.Addrmap k g = absurd g
      go kind.Regfile k g = absurd g

  -- Items that are the same in the block.

  pub signal-number : (n : Instance) → In (all_signals ns) n → slice_get (all_signals ns) (number_of n (all_signals ns)) ≡ Some n
  signal-number n h = found (all_signals ns) n (λ m j q. one-node w s m n (in-filter (is_a kind.Signal) ns m j) (in-filter (is_a kind.Signal) ns n h) q) h

  one : {m n : Instance} (xs : List Instance) {j k : ℕ} → slice_get xs j ≡ Some m → slice_get xs k ≡ Some n → j ≡ k → m ≡ n
  one {m} {n} xs p q r = let x : Some m ≡ Some n = sym p ∙ ap (slice_get xs) r ∙ q in cc x

  -- the same item of two nodes of these kinds
  same-of : (m n : Instance) (v u : What) (j k : Kind) → NodeHas ns m j v → NodeHas ns n k u → In (whats j) v → In (whats k) u → ref-by ns m j v ≡ ref-by ns n k u → (m ≡ n) × (v ≡ u)
  same-of m n v u kind.Signal kind.Signal g h (inl p) (inl q) r = (one (all_signals ns) (signal-number m (in-from (all_signals ns) m (subst (NodeHas ns m kind.Signal) (sym p) g))) (signal-number n (in-from (all_signals ns) n (subst (NodeHas ns n kind.Signal) (sym q) h))) (ap index_of r), sym p ∙ q)
  same-of m n v u kind.Signal kind.Signal g h (inr p) q r = absurd p
  same-of m n v u kind.Signal kind.Signal g h p (inr q) r = absurd q
  same-of m n v u kind.Field kind.Field g h p q r =
      let x = number_of m (all_fields ns) in
      let y = number_of n (all_fields ns) in
      (one (all_fields ns) (field-number w s m (in-from (all_fields ns) m g.0)) (field-number w s n (in-from (all_fields ns) n h.0)) (sym (ref-index v x) ∙ ap index_of r ∙ ref-index u y), same-rank v u (sym (ref-rank v x) ∙ ap rank_of r ∙ ref-rank u y))
  same-of m n v u kind.Reg kind.Reg g h p q r =
      let x = number_of m (registers ns) in
      let y = number_of n (registers ns) in
      (one (registers ns) (register-number w s m (in-reg m v p g)) (register-number w s n (in-reg n u q h)) (sym (ref-index v x) ∙ ap index_of r ∙ ref-index u y), same-rank v u (sym (ref-rank v x) ∙ ap rank_of r ∙ ref-rank u y))
    where
      in-reg : (z : Instance) (t : What) → In (whats kind.Reg) t → NodeHas ns z kind.Reg t → In (registers ns) z
      in-reg z t (inl p) g = in-from (registers ns) z (subst (NodeHas ns z kind.Reg) (sym p) g).0
      in-reg z t (inr (inl p)) g = in-from (registers ns) z (subst (NodeHas ns z kind.Reg) (sym p) g).0
      in-reg z t (inr (inr p)) g = absurd p
  same-of m n v u kind.Signal kind.Field g h p q r = let a = field-low u q in let c = ap rank_of r ∙ ref-rank u (number_of n (all_fields ns)) in absurd (omega (arith, a, c))
  same-of m n v u kind.Signal kind.Reg g h p q r = let a = (reg-high u q).1 in let c = ap rank_of r ∙ ref-rank u (number_of n (registers ns)) in absurd (omega (arith, a, c))
  same-of m n v u kind.Field kind.Signal g h p q r = let a = field-low v p in let c = sym (ref-rank v (number_of m (all_fields ns))) ∙ ap rank_of r in absurd (omega (arith, a, c))
  same-of m n v u kind.Reg kind.Signal g h p q r = let a = (reg-high v p).1 in let c = sym (ref-rank v (number_of m (registers ns))) ∙ ap rank_of r in absurd (omega (arith, a, c))
  same-of m n v u kind.Field kind.Reg g h p q r = let a = field-low v p in let d = (reg-high u q).0 in let c = sym (ref-rank v (number_of m (all_fields ns))) ∙ ap rank_of r ∙ ref-rank u (number_of n (registers ns)) in absurd (omega (arith, a, c, d))
  same-of m n v u kind.Reg kind.Field g h p q r = let a = field-low u q in let d = (reg-high v p).0 in let c = sym (ref-rank v (number_of m (registers ns))) ∙ ap rank_of r ∙ ref-rank u (number_of n (all_fields ns)) in absurd (omega (arith, a, c, d))
  same-of m n v u kind.Addrmap k g h p q r = absurd p
  same-of m n v u kind.Regfile k g h p q r = absurd p
  same-of m n v u kind.Signal kind.Addrmap g h p q r = absurd q
  same-of m n v u kind.Signal kind.Regfile g h p q r = absurd q
  same-of m n v u kind.Field kind.Addrmap g h p q r = absurd q
  same-of m n v u kind.Field kind.Regfile g h p q r = absurd q
  same-of m n v u kind.Reg kind.Addrmap g h p q r = absurd q
  same-of m n v u kind.Reg kind.Regfile g h p q r = absurd q

  pub same-item : (x y : Item) → In (items all) x → In (items all) y → IsThere x → IsThere y → ref_to all x ≡ ref_to all y → x ≡ y
  same-item x y h g p q r =
      let a = stands all x h in
      let c = stands all y g in
      let x-has : HasItem ns x = subst (HasItem ns) a.is (has a.lineage x.what a.here a.has (subst IsThere (sym a.is) p)) in
      let y-has : HasItem ns y = subst (HasItem ns) c.is (has c.lineage y.what c.here c.has (subst IsThere (sym c.is) q)) in
      let a-node : a.lineage.node ≡ x.node = ap (λ (z : Item). z.node) a.is in
      let c-node : c.lineage.node ≡ y.node = ap (λ (z : Item). z.node) c.is in
      let both_ = same-of x.node y.node x.what y.what (kind_of x.node) (kind_of y.node) x-has y-has (subst (λ n. In (whats (kind_of n)) x.what) a-node a.has) (subst (λ n. In (whats (kind_of n)) y.what) c-node c.has) (sym (same-ref w s b is x) ∙ r ∙ same-ref w s b is y) in
      let line : a.lineage ≡ c.lineage = same-lineage w s a.lineage c.lineage a.here c.here (ap (λ (n : Instance). n.path) (a-node ∙ both_.0 ∙ sym c-node)) in
      sym a.is ∙ ap (λ l. item_of l x.what) line ∙ ap (item_of c.lineage) both_.1 ∙ c.is

  pub same-place : (j k : ℕ) (x y : Item) → slice_get (items all) j ≡ Some x → slice_get (items all) k ≡ Some y → x ≡ y → j ≡ k
  same-place j k x y p q r = apart-index (λ z. z) (items all) (all-apart w s) j k x y p q r
