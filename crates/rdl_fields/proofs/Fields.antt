-- The fields of a register, each with its bits.
use Rattle.std.specs.List.{AllByRecursion}
use Rattle.std.proofs.Common.{◌≡◌, ◌∙◌, ◌≢◌, ◌⊎◌, inl, inr, ℕ, ◌+◌, Bool, true, false, cond, List, [], ◌∷◌, ◌++◌, map, filter, slice_get, Contains, Some, refl, sym, ap, subst}
use Rattle.plain_lemmas.proofs.Lists.{append-none as none-behind}
use Rattle.rdl_tree.specs.declared.item.Kind.TheVariants as kinds
use Rattle.rdl_tree.specs.declared.node.Elab.{Elab}
use Rattle.rdl_tree.specs.declared.node.Node.{Node, out-Node}
use Rattle.rdl_tree.specs.Kinds.{same_kind}
use Rattle.rdl_values.specs.Bodies.{Path, Step, below_top}
use Rattle.rdl_values.specs.Elaborated.{Says, nodes_of, top_name}
use Rattle.rdl_values.specs.Instances.{Instance, children}
use Rattle.rdl_values.specs.Lineages.{Lineage, lineages_of}
use Rattle.rdl_layers.specs.Fields.{all_but_last, fields_of, is_a}
use Rattle.rdl_layers.specs.Phase4.{range_of}
use Rattle.rdl_addr.specs.Answers.{AreBitsAt}
use Rattle.rdl_addr.specs.Bits.{Bits, bits_at, bits_from, bits_of}
use Rattle.rdl_nodes.proofs.Apart.{Apart}
use Rattle.rdl_nodes.proofs.Paths.{Differ, are_children, children_apart, nodes_apart}
use Rattle.rdl_nodes.proofs.Members.{In, each-in, in-from, in-map, in-place, place-in}
use Rattle.rdl_nodes.proofs.Order.{shallow-at, stands-under}
use Rattle.rdl_sizes.proofs.Facts.{lineage-at, node-at}
use Rattle.rdl_fields.specs.declared.view.View.{View}
use Rattle.rdl_fields.specs.Views.{AreViewsOf, IsAdded, IsPushed, IsViewOf}
use Rattle.rdl_fields.proofs.Lists.{apart-filter, filter-in, filter-true, only-one}

node-of : (next : ℕ) (n : Instance) → (bits_at next n).node ≡ n
node-of next n = go (range_of n) refl
  where
    go : (r : List (ℕ × ℕ)) → range_of n ≡ r → (bits_at next n).node ≡ n
    go [] e = rw e refl
    go (r ∷ rs) e = rw e refl

nodes-from : (next : ℕ) (ns : List Instance) → map (λ b. b.node) (bits_from next ns) ≡ ns
nodes-from next [] = refl
nodes-from next (n ∷ ns) = (λ i. node-of next n i ∷ nodes-from ((bits_at next n).high + 1) ns i)

pub nodes-are : (r : Instance) → map (λ b. b.node) (bits_of r) ≡ fields_of r
nodes-are r = nodes-from 0 (fields_of r)

pub field-in : (r : Instance) (b : Bits) → In (bits_of r) b → In (fields_of r) b.node
field-in r b h = subst (λ ns. In ns b.node) (nodes-are r) (in-map (λ c. c.node) (bits_of r) b h)

child-in : (r c : Instance) → In (fields_of r) c → In (children r) c
child-in r c h = filter-in (is_a kinds.Field) (children r) c h

-- A node is in the body of one node alone.

front : (ss : List Step) (t : Step) → all_but_last (ss ++ (t ∷ [])) ≡ ss
front [] t = refl
front (s ∷ []) t = refl
front (s ∷ u ∷ ss) t = ap (λ xs. s ∷ xs) (front (u ∷ ss) t)

abbrev steps_in : Path → List Step
steps_in (below_top ss) = ss
steps_in _ = []

nothing-in : (c : Instance) (ns : List Instance) → ns ≡ [] → In ns c → ⊥
nothing-in c ns e h = absurd (subst (λ xs. In xs c) e h)

module _ (e : Elab) where
  under : (k : ℕ) (l : Lineage) (c : Instance) → slice_get (lineages_of e) k ≡ Some l → In (children l.node) c → (ss : List Step) × (l.node.path ≡ below_top ss)
  under k l c here h = by (stands-under l (shallow-at (Some (top_name e)) e.source.now k l here))
    where
      by : ((ss : List Step) × (l.node.path ≡ below_top ss)) ⊎ (children l.node ≡ []) → (ss : List Step) × (l.node.path ≡ below_top ss)
      by (inl u) = u
      by (inr none) = absurd (nothing-in c (children l.node) none h)

  one-parent : (i j : ℕ) (l m : Lineage) (c : Instance) → slice_get (lineages_of e) i ≡ Some l → slice_get (lineages_of e) j ≡ Some m → In (children l.node) c → In (children m.node) c → l.node ≡ m.node
  one-parent i j l m c at_l at_m h g =
      let u = under i l c at_l h in
      let v = under j m c at_m g in
      let t = each-in _ (children l.node) c (are_children l.node u.0 u.1) h in
      let w = each-in _ (children m.node) c (are_children m.node v.0 v.1) g in
      let same : u.0 ++ (t.0 ∷ []) ≡ v.0 ++ (w.0 ∷ []) = ap steps_in (sym t.1 ∙ w.1) in
      let steps : u.0 ≡ v.0 = sym (front u.0 t.0) ∙ (ap all_but_last same ∙ front v.0 w.0) in
      let paths : l.node.path ≡ m.node.path = u.1 ∙ (ap below_top steps ∙ sym v.1) in
      only-one (λ (n : Instance). n.path) (nodes_of e) (nodes_apart (Some (top_name e)) e.source.now) l.node m.node (place-in (nodes_of e) i l.node (node-at e i l at_l)) (place-in (nodes_of e) j m.node (node-at e j m at_m)) paths

  -- the bits that a map has for a field are those in its register
  pub in-register : (i k : ℕ) (l : Lineage) (c : Instance) (bits : ℕ × ℕ) → slice_get (lineages_of e) i ≡ Some l → In (children l.node) c → slice_get (nodes_of e) k ≡ Some c → AreBitsAt e k bits → (b : Bits) × In (bits_of l.node) b × (b.node ≡ c) × ((b.high, b.low) ≡ bits)
  in-register i k l c bits at h here of =
      let r = of.0 in
      let b = of.1 in
      let among = in-from (nodes_of e) r of.2 in
      let place = in-place (nodes_of e) r among in
      let lin = lineage-at e place.0 r place.2 in
      let is : b.node ≡ c = (let q : Some b.node ≡ Some c = sym of.4 ∙ here in cc q) in
      let inside : In (children lin.0.node) c = subst (λ n. In (children n) c) (sym lin.2) (subst (In (children r)) is (child-in r b.node (field-in r b (in-from (bits_of r) b of.3)))) in
      let same : r ≡ l.node = sym lin.2 ∙ one-parent place.0 i lin.0 l c lin.1 at inside h in
      (b, subst (λ n. In (bits_of n) b) same (in-from (bits_of r) b of.3), is, of.5)

-- One field more.

-- each field of a list with its bits in the register
pub record IsIn (e : Elab) (r : Instance) (v : View) (c : Instance) : Type 0 where
  pub here : slice_get (nodes_of e) (out-Node v.node.now).id ≡ Some c
  pub name_ : (out-Node v.node.now).name.now ≡ c.use_.name.text.now
  pub place_ : (out-Node v.node.now).place ≡ c.use_.name.place
  pub bits : Bits
  pub among : In (bits_of r) bits
  pub of : bits.node ≡ c
  pub high_ : v.high ≡ bits.high
  pub low_ : v.low ≡ bits.low

abbrev pub AreIn : Elab → Instance → List View → List Instance → Type 0
AreIn e r [] [] = Unit {0}
AreIn e r (v ∷ vs) (c ∷ cs) = IsIn e r v c × AreIn e r vs cs
AreIn e r _ _ = ⊥

pub in-push : (e : Elab) (r : Instance) (vs : List View) (cs : List Instance) (v : View) (c : Instance) → AreIn e r vs cs → IsIn e r v c → AreIn e r (vs ++ (v ∷ [])) (cs ++ (c ∷ []))
in-push e r [] [] v c h is = (is, tt)
in-push e r [] (d ∷ cs) v c h is = absurd h
in-push e r (w ∷ vs) [] v c h is = absurd h
in-push e r (w ∷ vs) (d ∷ cs) v c h is = (h.0, in-push e r vs cs v c h.1 is)

-- a node that was put behind the others is one with its bits
pub pushed-in : (e : Elab) (i : ℕ) (l : Lineage) (c : Instance) (q : Node) (beside : List Node) (old new : List View) → slice_get (lineages_of e) i ≡ Some l → In (children l.node) c → slice_get (nodes_of e) (out-Node q).id ≡ Some c → Says beside q c
    → (p : IsPushed e q old new) → IsIn e l.node p.view c
pushed-in e i l c q beside old new at h here says p =
    let b = in-register e i (out-Node q).id l c (p.view.high, p.view.low) at h here p.bits in
    record {
      here = subst (λ n. slice_get (nodes_of e) (out-Node n).id ≡ Some c) (sym p.of) here;
      name_ = ap (λ n. (out-Node n).name.now) p.of ∙ says.name;
      place_ = ap (λ n. (out-Node n).place) p.of ∙ says.place;
      bits = b.0;
      among = b.1;
      of = b.2;
      high_ = (let s = b.3 in ap (λ (x : ℕ × ℕ). x.0) (sym s));
      low_ = (let s = b.3 in ap (λ (x : ℕ × ℕ). x.1) (sym s));
    }

-- a node is put behind the others where it is a field
pub added-in : (e : Elab) (i : ℕ) (l : Lineage) (c : Instance) (q : Node) (beside : List Node) (old new : List View) (xs : List Instance) → slice_get (lineages_of e) i ≡ Some l → In (children l.node) c → slice_get (nodes_of e) (out-Node q).id ≡ Some c → Says beside q c
    → IsAdded e q old new → AreIn e l.node old xs → AreIn e l.node new (xs ++ cond (is_a kinds.Field c) (c ∷ []) [])
added-in e i l c q beside old new xs at inside here says added h = go (same_kind kinds.Field (out-Node q).kind) refl
  where
    kind : is_a kinds.Field c ≡ same_kind kinds.Field (out-Node q).kind
    kind = ap (same_kind kinds.Field) (sym says.kind)

    go : (b : Bool) → same_kind kinds.Field (out-Node q).kind ≡ b → AreIn e l.node new (xs ++ cond (is_a kinds.Field c) (c ∷ []) [])
    go true t =
        let p = added.field t in
        let more = in-push e l.node old xs p.view c h (pushed-in e i l c q beside old new at inside here says p) in
        subst (λ b. AreIn e l.node new (xs ++ cond b (c ∷ []) [])) (sym (kind ∙ t)) (subst (λ vs. AreIn e l.node vs (xs ++ (c ∷ []))) (sym p.behind) more)
    go false t = subst (λ b. AreIn e l.node new (xs ++ cond b (c ∷ []) [])) (sym (kind ∙ t)) (subst (AreIn e l.node new) (sym (none-behind xs)) (subst (λ vs. AreIn e l.node vs xs) (sym (added.other t)) h))

-- All fields.

bits-apart : (bs : List Bits) → Apart Differ (map (λ b. b.node) bs) → Apart (λ a b. a.node.path ≢ b.node.path) bs
bits-apart [] h = tt
bits-apart (b ∷ bs) h = (unmapped bs h.0, bits-apart bs h.1)
  where
    unmapped : (xs : List Bits) → AllByRecursion (Differ b.node) (map (λ c. c.node) xs) → AllByRecursion (λ c. b.node.path ≢ c.node.path) xs
    unmapped [] g = tt
    unmapped (x ∷ xs) g = (g.0, unmapped xs g.1)

module _ (e : Elab) (r : Instance) (apart : Apart (λ (a b : Bits). a.node.path ≢ b.node.path) (bits_of r)) where
  one-by-one : (vs : List View) (bs : List Bits) → ((b : Bits) → In bs b → In (bits_of r) b) → AreIn e r vs (map (λ b. b.node) bs) → AreViewsOf e vs bs
  one-by-one [] [] among h = tt
  one-by-one [] (b ∷ bs) among h = absurd h
  one-by-one (v ∷ vs) [] among h = absurd h
  one-by-one (v ∷ vs) (b ∷ bs) among h =
      let is = h.0 in
      let same : is.bits ≡ b = only-one (λ (x : Bits). x.node.path) (bits_of r) apart is.bits b is.among (among b (inl refl)) (ap (λ (n : Instance). n.path) is.of) in
      (record { here = is.here; field = filter-true (is_a kinds.Field) (children r) b.node (field-in r b (among b (inl refl))); name_ = is.name_; place_ = is.place_; high_ = is.high_ ∙ ap (λ (x : Bits). x.high) same; low_ = is.low_ ∙ ap (λ (x : Bits). x.low) same }, one-by-one vs bs (λ c g. among c (inr g)) h.1)

pub views-are : (e : Elab) (i : ℕ) (l : Lineage) (vs : List View) → slice_get (lineages_of e) i ≡ Some l → AreIn e l.node vs (fields_of l.node) → AreViewsOf e vs (bits_of l.node)
views-are e i l vs at h = one-by-one e l.node apart vs (bits_of l.node) (λ b g. g) (subst (AreIn e l.node vs) (sym (nodes-are l.node)) h)
  where
    children-differ : Apart Differ (children l.node)
    children-differ = by (stands-under l (shallow-at (Some (top_name e)) e.source.now i l at))
      where
        by : ((ss : List Step) × (l.node.path ≡ below_top ss)) ⊎ (children l.node ≡ []) → Apart Differ (children l.node)
        by (inl u) = children_apart l.node u.0 u.1
        by (inr none) = subst (Apart Differ) (sym none) tt

    apart : Apart (λ (a b : Bits). a.node.path ≢ b.node.path) (bits_of l.node)
    apart = bits-apart (bits_of l.node) (subst (Apart Differ) (sym (nodes-are l.node)) (apart-filter (is_a kinds.Field) Differ (children l.node) children-differ))
