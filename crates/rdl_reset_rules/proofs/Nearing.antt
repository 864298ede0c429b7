-- The first reset signals, body by body.
use Rattle.std.proofs.Common.{◌≡◌, ◌∙◌, ◌⊎◌, inl, inr, ℕ, zero, suc, ◌+◌, ◌<◌, ◌≤◌, Bool, true, false, ◌&&◌, cond, List, [], ◌∷◌, ◌++◌, append_assoc, filter, flat_map, get_or, length, length-append, map, take, Option, None, Some, slice_get, refl, sym, ap, subst, arith}
use Rattle.std.specs.List.{All}
use Rattle.plain_lemmas.proofs.Lists.{filter-append as filter-join}
use Rattle.rdl_tree.specs.declared.item.Kind.{Kind}
use Rattle.rdl_tree.specs.declared.item.Kind.TheVariants as kind
use Rattle.rdl_tree.specs.declared.node.Elab.{Elab}
use Rattle.rdl_tree.specs.declared.node.Node.{Node, out-Node}
use Rattle.rdl_props.specs.declared.prop.Prop.TheVariants as prop
use Rattle.rdl_values.specs.Elaborated.{nodes_of, top_name}
use Rattle.rdl_values.specs.Elaboration.{IsClean}
use Rattle.rdl_tree.specs.Kinds.{same_kind}
use Rattle.rdl_values.specs.Instances.{Instance, children, kind_of, signals}
use Rattle.rdl_values.specs.Lineages.{Lineage, child_of, lineages_of, nodes_in}
use Rattle.rdl_nodes.proofs.Lineages.{all_nodes}
use Rattle.rdl_layers.specs.Fields.{has, is_a}
use Rattle.rdl_layers.specs.Settings.{setting}
use Rattle.rdl_nodes.specs.Rows.{AreInside, IsParent}
use Rattle.rdl_refs.specs.declared.item.ItemOf.{ItemOf}
use Rattle.rdl_refs.specs.Answers.{IsBound}
use Rattle.rdl_refs.specs.Items.{Item, target}
use Rattle.rdl_nodes.proofs.Members.{get-within}
use Rattle.rdl_sizes.proofs.Facts.{count-is, node-at, nodes-many}
use Rattle.rdl_sizes.proofs.Moding.{parent-before}
use Rattle.rdl_fields.proofs.Beside.{AreBeside}
use Rattle.rdl_ref_items.specs.Named.{Names}
use Rattle.rdl_reset_rules.specs.Said.{AreSaid}
use Rattle.rdl_reset_rules.proofs.Bound.{names-signal}
use Rattle.rdl_rules.specs.Fields.{is_field_reset, reset_signals}
use Rattle.rdl_rules.specs.Numbers.{all_fields, all_signals, number_of, registers}
use Rattle.rdl_block_numbers.specs.Numbers.{own_number}
use Rattle.rdl_reset_rules.specs.Nearest.{AreNearestTo, AreSignals, IsFirst, nodes_in_and_round, outer_in}

-- The first of a list that passes.

pub first-at : {X : Type 0} (p : X → Bool) (xs : List X) (i : ℕ) (x : X) → slice_get xs i ≡ Some x → filter p (take i xs) ≡ [] → p x ≡ true → (ys : List X) × (filter p xs ≡ x ∷ ys)
first-at p [] i x at none passes = cc at
first-at p (y ∷ xs) zero x at none passes = let s : y ≡ x = cc at in (filter p xs, ap (λ b. cond b (y ∷ filter p xs) (filter p xs)) (ap p s ∙ passes) ∙ ap (λ z. z ∷ filter p xs) s)
first-at {X = X} p (y ∷ xs) (suc i) x at none passes = go (p y) none (λ e. first-at p xs i x at e passes)
  where
    go : (b : Bool) → cond b (y ∷ filter p (take i xs)) (filter p (take i xs)) ≡ [] → (filter p (take i xs) ≡ [] → (ys : List X) × (filter p xs ≡ x ∷ ys)) → (ys : List X) × (cond b (y ∷ filter p xs) (filter p xs) ≡ x ∷ ys)
    go true e more = cc e
    go false e more = more e

module _ (e : Elab) where
  pub is-first : (ns : List Instance) (n : Instance) (k : ℕ) → slice_get (nodes_of e) k ≡ Some n → (ms : List Instance) × (ns ≡ n ∷ ms) → IsFirst e ns (Some k)
  is-first ns n k here h = subst (λ xs. IsFirst e xs (Some k)) (sym h.1) (k, refl, here)

  pub in-front : (xs ys : List Instance) (k : ℕ) → IsFirst e xs (Some k) → IsFirst e (xs ++ ys) (Some k)
  in-front [] ys k h = cc h
  in-front (x ∷ xs) ys k h = h

  pub none-first : (xs : List Instance) → IsFirst e xs None → xs ≡ []
  none-first [] h = refl
  none-first (x ∷ xs) h = let q = h.1 in cc q

  pub behind-none : (xs ys : List Instance) (o : Option ℕ) → IsFirst e xs None → IsFirst e ys o → IsFirst e (xs ++ ys) o
  behind-none xs ys o h g = subst (λ zs. IsFirst e (zs ++ ys) o) (sym (none-first xs h)) g

  pub kept-join : (ns ms : List Instance) (o : Option ℕ) → IsFirst e (filter is_field_reset ns ++ filter is_field_reset ms) o → IsFirst e (filter is_field_reset (ns ++ ms)) o
  kept-join ns ms o h = subst (λ xs. IsFirst e xs o) (sym (filter-join is_field_reset ns ms)) h

  -- The nodes of the tree say what they are.

  pub inside-said : (up : List Instance) (b rs : List Node) (ns : List Instance) → AreInside (lineages_of e) up b rs ns → AreSaid e rs ns
  inside-said up b [] [] h = tt
  inside-said up b [] (n ∷ ns) h = absurd h
  inside-said up b (r ∷ rs) [] h = absurd h
  inside-said up b (r ∷ rs) (n ∷ ns) h = (record { here = node-at e (out-Node r).id (record { node = n; ancestors = up }) h.0.here; kind_ = h.0.says.kind; place_ = h.0.says.place }, inside-said up b rs ns h.1)

  pub beside-said : (b rs : List Node) (ns : List Instance) → AreBeside (nodes_of e) b rs ns → AreSaid e rs ns
  beside-said b [] [] h = tt
  beside-said b [] (n ∷ ns) h = absurd h
  beside-said b (r ∷ rs) [] h = absurd h
  beside-said b (r ∷ rs) (n ∷ ns) h = (record { here = h.0.1; kind_ = h.0.0.kind; place_ = h.0.0.place }, beside-said b rs ns h.1)

  pub said-below : IsClean e → (rs : List Node) (ns : List Instance) → AreSaid e rs ns → All (λ r. (out-Node r).id < e.count) rs
  said-below clean rs ns h = λ i d low. go rs ns h i d low
    where
      go : (rs : List Node) (ns : List Instance) → AreSaid e rs ns → (i : ℕ) (d : Node) → i < length rs → (out-Node (get_or rs i d)).id < e.count
      go [] ns h i d low = absurd (omega (arith, low))
      go (r ∷ rs) [] h i d low = absurd h
      go (r ∷ rs) (n ∷ ns) h zero d low = let l = get-within (nodes_of e) (out-Node r).id n h.0.here in let c = count-is e clean in let m = nodes-many e in omega (arith, l, c, m)
      go (r ∷ rs) (n ∷ ns) h (suc i) d low = go rs ns h.1 i d (omega (arith, low))

  -- The bodies round a node.

  pub outer-first : (at : ℕ) (l : Lineage) → slice_get (lineages_of e) at ≡ Some l → (rs : List (Option ℕ)) → AreNearestTo e at rs → (root : Option ℕ) → IsFirst e (filter is_field_reset (signals e.source.now)) root → (parent : Option ℕ) → IsParent (lineages_of e) parent l.ancestors
      → IsFirst e (filter is_field_reset (flat_map children l.ancestors ++ signals e.source.now)) (outer_in rs root parent)
  outer-first at l here rs before root first None up = subst (λ ns. IsFirst e (filter is_field_reset (flat_map children ns ++ signals e.source.now)) root) (sym up) first
  outer-first at l here rs before root first (Some p) up =
      let q = up.0 in
      let b = before.each p q (parent-before e at p l here up) up.1 in
      subst (λ ns. IsFirst e (filter is_field_reset (flat_map children ns ++ signals e.source.now)) (outer_in rs root (Some p))) (sym up.2)
      (subst (IsFirst e (filter is_field_reset (nodes_in_and_round e q))) (sym (ap listed b.1)) b.2)
    where
      listed : Option (Option ℕ) → Option ℕ
      listed (Some o) = o
      listed None = root

  pub round-first : (l : Lineage) (o : Option ℕ) → IsFirst e (filter is_field_reset (children l.node ++ (flat_map children l.ancestors ++ signals e.source.now))) o → IsFirst e (filter is_field_reset (nodes_in_and_round e l)) o
  round-first l o h = subst (λ ns. IsFirst e (filter is_field_reset ns) o) (sym (append_assoc (children l.node) (flat_map children l.ancestors) (signals e.source.now))) h

  pub none-near : (rs : List (Option ℕ)) → rs ≡ [] → AreNearestTo e 0 rs
  none-near rs h = record { many = ap length h; each = λ k l low. absurd (omega (arith, low)) }

  get-front : {X : Type 0} (xs ys : List X) (k : ℕ) (x : X) → slice_get xs k ≡ Some x → slice_get (xs ++ ys) k ≡ Some x
  get-front [] ys k x h = cc h
  get-front (y ∷ xs) ys zero x h = h
  get-front (y ∷ xs) ys (suc k) x h = get-front xs ys k x h

  get-last : {X : Type 0} (xs : List X) (x : X) (k : ℕ) → k ≡ length xs → slice_get (xs ++ (x ∷ [])) k ≡ Some x
  get-last [] x zero q = refl
  get-last [] x (suc k) q = absurd (omega (arith, q))
  get-last (y ∷ ys) x zero q = absurd (omega (arith, q))
  get-last (y ∷ ys) x (suc k) q = get-last ys x k (omega (arith, q))

  pub one-near : (at : ℕ) (l : Lineage) → slice_get (lineages_of e) at ≡ Some l → (rs new : List (Option ℕ)) (o : Option ℕ) → AreNearestTo e at rs → new ≡ rs ++ (o ∷ []) → IsFirst e (filter is_field_reset (nodes_in_and_round e l)) o → AreNearestTo e (at + 1) new
  one-near at l here rs new o h put first = record {
    many = (let s = length-append rs (o ∷ []) in let p = ap length put in let m = h.many in omega (arith, s, p, m));
    each = λ k m low at-k. by k m at-k (split k low);
  }
    where
      split : (k : ℕ) → k < at + 1 → (k ≡ at) ⊎ (k < at)
      split k low = grind (arith, low)

      by : (k : ℕ) (m : Lineage) → slice_get (lineages_of e) k ≡ Some m → (k ≡ at) ⊎ (k < at) → (x : Option ℕ) × (slice_get new k ≡ Some x) × IsFirst e (filter is_field_reset (nodes_in_and_round e m)) x
      by k m at-k (inl q) =
          let same' : Some l ≡ Some m = sym here ∙ (ap (slice_get (lineages_of e)) (sym q) ∙ at-k) in
          let same : l ≡ m = cc same' in
          (o, ap (λ xs. slice_get xs k) put ∙ get-last rs o k (q ∙ sym h.many), subst (λ x. IsFirst e (filter is_field_reset (nodes_in_and_round e x)) o) same first)
      by k m at-k (inr b) = let r = h.each k m b at-k in (r.0, ap (λ xs. slice_get xs k) put ∙ get-front rs (o ∷ []) k r.0 r.1, r.2)

  -- The signal that a field names, or the nearest.

  pub by-name : (l : Lineage) (f : Instance) (x : ItemOf) → Names e (target (lineages_of e) (setting f prop.Resetsignal)) (Some x) → IsFirst e (reset_signals e.source.now (lineages_of e) (child_of l f)) (Some x.node)
  by-name l f x h = go (target (lineages_of e) (setting f prop.Resetsignal)) h
    where
      go : (is : List Item) → Names e is (Some x) → IsFirst e (map (λ i. i.node) is ++ filter is_field_reset (nodes_in_and_round e l)) (Some x.node)
      go [] g = cc g
      go (i ∷ is) g = (x.node, refl, node-at e x.node (record { node = i.node; ancestors = i.ancestors }) g.1.here)

  pub by-place : (l : Lineage) (f : Instance) (o : Option ℕ) → Names e (target (lineages_of e) (setting f prop.Resetsignal)) None → IsFirst e (filter is_field_reset (nodes_in_and_round e l)) o → IsFirst e (reset_signals e.source.now (lineages_of e) (child_of l f)) o
  by-place l f o h first = go (target (lineages_of e) (setting f prop.Resetsignal)) h
    where
      go : (is : List Item) → Names e is None → IsFirst e (map (λ i. i.node) is ++ filter is_field_reset (nodes_in_and_round e l)) o
      go [] g = first
      go (i ∷ is) g = absurd g

  -- All of these are signals.

  and-left : (a b : Bool) → a && b ≡ true → a ≡ true
  and-left true b q = refl
  and-left false b q = cc q

  kept-signals : (ns : List Instance) → AreSignals (filter is_field_reset ns)
  kept-signals [] = tt
  kept-signals (n ∷ ns) = go (is_field_reset n) refl (kept-signals ns)
    where
      go : (b : Bool) → is_field_reset n ≡ b → AreSignals (filter is_field_reset ns) → AreSignals (cond b (n ∷ filter is_field_reset ns) (filter is_field_reset ns))
      go true q h = (and-left (is_a kind.Signal n) (has prop.FieldReset n) q, h)
      go false q h = h

  pub all-signals : IsBound e → (k : ℕ) (l : Lineage) (f : Instance) → slice_get (nodes_of e) k ≡ Some f → length (target (lineages_of e) (setting f prop.Resetsignal)) ≤ 1 → AreSignals (reset_signals e.source.now (lineages_of e) (child_of l f))
  all-signals bound k l f at few = go (target (lineages_of e) (setting f prop.Resetsignal)) refl few
    where
      rest : AreSignals (filter is_field_reset (nodes_in_and_round e l))
      rest = kept-signals (nodes_in_and_round e l)

      go : (is : List Item) → target (lineages_of e) (setting f prop.Resetsignal) ≡ is → length is ≤ 1 → AreSignals (map (λ i. i.node) is ++ filter is_field_reset (nodes_in_and_round e l))
      go [] q g = rest
      go (i ∷ []) q g = (names-signal e bound k f at i q, rest)
      go (i ∷ j ∷ is) q g = absurd (omega (arith, g))

  -- The signal's own number, where it is one.

  pub first-of : (ns : List Instance) (k : ℕ) → IsFirst e ns (Some k) → (n : Instance) × (ms : List Instance) × (ns ≡ n ∷ ms) × (slice_get (nodes_of e) k ≡ Some n)
  first-of [] k h = cc h
  first-of (n ∷ ms) k h = let q : Some k ≡ Some h.0 = h.1 in let same : k ≡ h.0 = cc q in (n, ms, refl, ap (slice_get (nodes_of e)) same ∙ h.2)

  pub listed-at : (rs : List (Option ℕ)) (root : Option ℕ) (k : ℕ) (o : Option ℕ) → slice_get rs k ≡ Some o → outer_in rs root (Some k) ≡ o
  listed-at rs root k o at = ap listed at
    where
      listed : Option (Option ℕ) → Option ℕ
      listed (Some x) = x
      listed None = root

  pub number-below : IsClean e → (k : ℕ) (n : Instance) → slice_get (nodes_of e) k ≡ Some n → k < e.count
  number-below clean k n at = let low = get-within (nodes_of e) k n at in let c = count-is e clean in let m = nodes-many e in omega (arith, low, c, m)

  pub node-here : IsClean e → (k : ℕ) → k < e.count → (l : Lineage) × (slice_get (lineages_of e) k ≡ Some l)
  node-here clean k low = has (lineages_of e) k (let c = count-is e clean in omega (arith, low, c))
    where
      has : {X : Type 0} (xs : List X) (k : ℕ) → k < length xs → (x : X) × (slice_get xs k ≡ Some x)
      has [] k l = absurd (omega (arith, l))
      has (x ∷ xs) zero l = (x, refl)
      has (x ∷ xs) (suc k) l = has xs k (omega (arith, l))

  pub signal-number : (n : Instance) → is_a kind.Signal n ≡ true → own_number (nodes_of e) n ≡ number_of n (all_signals (nodes_in (lineages_of e)))
  signal-number n signal = by (kind_of n) signal ∙ ap (λ ns. number_of n (all_signals ns)) (sym (all_nodes (Some (top_name e)) e.source.now))
    where
      number-by : Kind → ℕ
      number-by kind.Signal = number_of n (all_signals (nodes_of e))
      number-by kind.Field = number_of n (all_fields (nodes_of e))
      number-by _ = number_of n (registers (nodes_of e))

      by : (k : Kind) → same_kind kind.Signal k ≡ true → number-by k ≡ number_of n (all_signals (nodes_of e))
      by kind.Signal q = refl
      by kind.Field q = cc q
      by kind.Reg q = cc q
      by kind.Regfile q = cc q
      by kind.Addrmap q = cc q
