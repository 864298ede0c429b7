-- Paths of nodes, by the nodes that they stand in.
use Rattle.std.proofs.Common.{◌≡◌, ◌∙◌, ◌⊎◌, inl, inr, ℕ, zero, suc, ◌+◌, ◌<◌, Bool, true, false, List, [], ◌∷◌, ◌++◌, length, length-append, Option, None, Some, slice_get, refl, sym, ap, subst, arith}
use Rattle.rdl_tree.specs.declared.item.Kind.{Kind}
use Rattle.rdl_tree.specs.declared.item.Kind.TheVariants as kind
use Rattle.rdl_tree.specs.declared.node.Elab.{Elab}
use Rattle.rdl_tree.specs.Kinds.{same_kind}
use Rattle.rdl_values.specs.Bodies.{Path, Step, below_top, of_signal}
use Rattle.rdl_values.specs.Elaborated.{index_of, last_index, nodes_of, top_name}
use Rattle.rdl_values.specs.Instances.{Instance, children, kind_of, signals, top_of}
use Rattle.rdl_values.specs.Lineages.{Lineage, lineages_of}
use Rattle.rdl_values.specs.NoNode.{is_signal, may_hold}
use Rattle.rdl_values.specs.Paths.{in_node, joined, path_in}
use Rattle.rdl_values.specs.Uses.{path_text}
use Rattle.rdl_values.proofs.Given.{IsAtRoot, IsChildOf, children-given, held, signals-given, tops-given}
use Rattle.rdl_nodes.specs.declared.table.Row.{Row}
use Rattle.rdl_nodes.specs.Rows.{AreRows, IsParent}
use Rattle.rdl_addr.proofs.Covers.{address_by_kind}
use Rattle.rdl_nodes.proofs.Members.{In, each-in, get-within, place-in}
use Rattle.rdl_nodes.proofs.Order.{behind, shallow-at, stands-under}
use Rattle.rdl_sizes.proofs.Facts.{node-at, row-at, rows-many}
use Rattle.rdl_sizes.proofs.Moding.{parent-before}
use Rattle.rdl_bits.proofs.Descending.{at-top, top-placed}
use Rattle.rdl_block_numbers.specs.Texts.{AreTextsTo, below, front_in, step_text}
use Rattle.rdl_block_numbers.proofs.Joining.{one-step, step-behind}

-- the step of a name and indices
abbrev step : List ℕ → List ℕ → Step
step name index = record { name = name; index = index }

last-of : (ss : List Step) (s : Step) → last_index (ss ++ (s ∷ [])) ≡ s.index
last-of [] s = refl
last-of (t ∷ []) s = refl
last-of (t ∷ u ∷ ss) s = last-of (u ∷ ss) s

nothing-in : (c : Instance) (ns : List Instance) → ns ≡ [] → In ns c → ⊥
nothing-in c ns e h = absurd (subst (λ xs. In xs c) e h)

-- What a node stands under, and its own step.
pub record IsUnder (q n : Instance) : Type 0 where
  pub steps : List Step
  pub above : q.path ≡ below_top steps
  pub own : n.path ≡ below_top (steps ++ (step n.use_.name.text.now (index_of n.path) ∷ []))

module _ (e : Elab) where
  pub under : (k : ℕ) (l : Lineage) (q : Instance) (up : List Instance) → slice_get (lineages_of e) k ≡ Some l → l.ancestors ≡ q ∷ up → IsUnder q l.node
  under k l q up here line =
      let b = behind (Some (top_name e)) e.source.now k l q up here line in
      by b.3 (stands-under (record { node = q; ancestors = up }) (shallow-at (Some (top_name e)) e.source.now b.0 (record { node = q; ancestors = up }) b.2))
    where
      by : In (children q) l.node → ((ss : List Step) × (q.path ≡ below_top ss)) ⊎ (children q ≡ []) → IsUnder q l.node
      by h (inr none) = absurd (nothing-in l.node (children q) none h)
      by h (inl u) =
          let g = each-in (IsChildOf q) (children q) l.node (children-given q) h in
          let own' : Step = step g.by.use_.name.text.now g.given_.index in
          let path : l.node.path ≡ below_top (u.0 ++ (own' ∷ [])) = g.given_.path_is ∙ (ap (λ p. path_in p own') g.in_body ∙ ap (λ p. path_in (in_node p (kind_of q)) own') u.1) in
          let name : g.by.use_.name.text.now ≡ l.node.use_.name.text.now = ap (λ v. v.name.text.now) (sym g.given_.use_is) in
          let index : g.given_.index ≡ index_of l.node.path = sym (ap index_of path ∙ last-of u.0 own') in
          record { steps = u.0; above = u.1; own = path ∙ (λ i. below_top (u.0 ++ (step (name i) (index i) ∷ []))) }

  -- A node that stands in no other is the top or a signal.

  is-signal : (k : Kind) → is_signal k ≡ true → same_kind kind.Signal k ≡ true
  is-signal kind.Signal h = refl
  is-signal kind.Addrmap h = cc h
  is-signal kind.Regfile h = cc h
  is-signal kind.Reg h = cc h
  is-signal kind.Field h = cc h

  the-kind : (k : Kind) → same_kind kind.Signal k ≡ true → k ≡ kind.Signal
  the-kind kind.Signal q = refl
  the-kind _ q = cc q

  signal-alone : (n : Instance) → In (signals e.source.now) n → (n.path ≡ of_signal (step n.use_.name.text.now (index_of n.path))) × (same_kind kind.Signal (kind_of n) ≡ true)
  signal-alone n i =
      let h = each-in IsAtRoot (signals e.source.now) n (signals-given e.source.now) i in
      let own' : Step = step h.by.use_.name.text.now h.given_.index in
      let path : n.path ≡ of_signal own' = h.given_.path_is ∙ ap (λ p. path_in p own') h.in_body in
      let name : h.by.use_.name.text.now ≡ n.use_.name.text.now = ap (λ v. v.name.text.now) (sym h.given_.use_is) in
      let index : h.given_.index ≡ index_of n.path = sym (ap index_of path) in
      (path ∙ (λ i. of_signal (step (name i) (index i))), is-signal (kind_of n) (subst (λ p. may_hold p (kind_of n) ≡ true) h.in_body (held h.by n h.given_)))

  top-no-signal : (n : Instance) → In (top_of (Some (top_name e)) e.source.now) n → same_kind kind.Signal (kind_of n) ≡ true → ⊥
  top-no-signal n h q =
      let yes = top-placed (Some (top_name e)) e.source.now n h in
      let no = address_by_kind n kind.Signal (the-kind (kind_of n) q) in
      let clash : true ≡ false = sym yes ∙ no in
      cc clash

  pub alone-text : (k : ℕ) (l : Lineage) → slice_get (lineages_of e) k ≡ Some l → l.ancestors ≡ [] → (b : Bool) → same_kind kind.Signal (kind_of l.node) ≡ b → (b ≡ true → step_text l.node.use_.name.text.now (index_of l.node.path) ≡ path_text l.node.path) × (b ≡ false → [] ≡ path_text l.node.path)
  alone-text k l here none b is = by b is (at-top (Some (top_name e)) e.source.now l (place-in (lineages_of e) k l here) none)
    where
      by : (b : Bool) → same_kind kind.Signal (kind_of l.node) ≡ b → In (signals e.source.now) l.node ⊎ In (top_of (Some (top_name e)) e.source.now) l.node → (b ≡ true → step_text l.node.use_.name.text.now (index_of l.node.path) ≡ path_text l.node.path) × (b ≡ false → [] ≡ path_text l.node.path)
      by b q (inl i) = let s = signal-alone l.node i in ((λ t. sym (ap path_text s.0 ∙ one-step (step l.node.use_.name.text.now (index_of l.node.path)))), λ f. absurd (let clash : true ≡ false = sym s.1 ∙ (q ∙ f) in cc clash))
      by true q (inr i) = absurd (top-no-signal l.node i q)
      by false q (inr i) = let top : l.node.path ≡ below_top [] = each-in (λ n. n.path ≡ below_top []) (top_of (Some (top_name e)) e.source.now) l.node (tops-given (Some (top_name e)) e.source.now) i in ((λ t. absurd (let clash : false ≡ true = t in cc clash)), λ f. sym (ap path_text top))

  -- A node in another: under the top, or deeper.

  top-path : (p : ℕ) (q : Lineage) → slice_get (lineages_of e) p ≡ Some q → q.ancestors ≡ [] → (ss : List Step) → q.node.path ≡ below_top ss → ss ≡ []
  top-path p q here none ss path = by (at-top (Some (top_name e)) e.source.now q (place-in (lineages_of e) p q here) none)
    where
      steps_in : Path → List Step
      steps_in (below_top ts) = ts
      steps_in (of_signal t) = t ∷ t ∷ []

      two : (t : Step) (ts : List Step) → of_signal t ≡ below_top ts → ⊥
      two t ts h = let q : true ≡ false = ap is-signal-path h in cc q
        where
          is-signal-path : Path → Bool
          is-signal-path (of_signal u) = true
          is-signal-path (below_top us) = false

      by : In (signals e.source.now) q.node ⊎ In (top_of (Some (top_name e)) e.source.now) q.node → ss ≡ []
      by (inl i) = let s = signal-alone q.node i in absurd (two (step q.node.use_.name.text.now (index_of q.node.path)) ss (sym s.0 ∙ path))
      by (inr i) = let top : q.node.path ≡ below_top [] = each-in (λ n. n.path ≡ below_top []) (top_of (Some (top_name e)) e.source.now) q.node (tops-given (Some (top_name e)) e.source.now) i in ap steps_in (sym path ∙ top)

  deep-text : (ss ts : List Step) (t s : Step) → ss ≡ ts ++ (t ∷ []) → joined (ss ++ (s ∷ [])) ≡ joined ss ++ (36 ∷ step_text s.name s.index)
  deep-text ss [] t s q = subst (λ us. joined (us ++ (s ∷ [])) ≡ joined us ++ (36 ∷ step_text s.name s.index)) (sym q) (step-behind t [] s)
  deep-text ss (u ∷ us) t s q = subst (λ vs. joined (vs ++ (s ∷ [])) ≡ joined vs ++ (36 ∷ step_text s.name s.index)) (sym q) (step-behind u (us ++ (t ∷ [])) s)

  pub below-text : (rows : List Row) → AreRows e rows → (k : ℕ) (l : Lineage) → slice_get (lineages_of e) k ≡ Some l → (ts : List (List ℕ)) → AreTextsTo e k ts → (p : ℕ) → IsParent (lineages_of e) (Some p) l.ancestors
      → below (front_in rows ts p) l.node.use_.name.text.now (index_of l.node.path) ≡ path_text l.node.path
  below-text rows are k l here ts texts p parent = by-row (slice_get rows p) refl
    where
      q : Lineage
      q = parent.0

      u : IsUnder q.node l.node
      u = under k l q.node q.ancestors here parent.2

      own' : Step
      own' = step l.node.use_.name.text.now (index_of l.node.path)

      front-under : Option ℕ → Option (List ℕ)
      front-under None = None
      front-under (Some a) = slice_get ts p

      front-go : Option Row → Option (List ℕ)
      front-go None = None
      front-go (Some x) = front-under x.parent

      by-parent : (o : Option ℕ) → IsParent (lineages_of e) o q.ancestors → below (front-under o) own'.name own'.index ≡ path_text l.node.path
      by-parent None none =
          let top : u.steps ≡ [] = top-path p q parent.1 none u.steps u.above in
          sym (ap path_text u.own ∙ (ap (λ ss. joined (ss ++ (own' ∷ []))) top ∙ one-step own'))
      by-parent (Some a) deeper =
          let r = deeper.0 in
          let v = under p q r.node r.ancestors parent.1 deeper.2 in
          let steps_of' : Path → List Step = steps_in in
          let last = step q.node.use_.name.text.now (index_of q.node.path) in
          let same : u.steps ≡ v.steps ++ (last ∷ []) = ap steps_in (sym u.above ∙ v.own) in
          let low = parent-before e k p l here parent in
          let text = texts.each p q.node low (node-at e p q parent.1) in
          ap (λ o. below o own'.name own'.index) text
          ∙ (ap (λ x. x ++ (36 ∷ step_text own'.name own'.index)) (ap path_text u.above) ∙ sym (ap path_text u.own ∙ deep-text u.steps v.steps last own' same))
        where
          steps_in : Path → List Step
          steps_in (below_top ss) = ss
          steps_in (of_signal t) = []

      by-row : (o : Option Row) → slice_get rows p ≡ o → below (front_in rows ts p) own'.name own'.index ≡ path_text l.node.path
      by-row None at = absurd (past rows p at (let low = get-within (lineages_of e) p q parent.1 in let many = rows-many e rows are in omega (arith, low, many)))
        where
          past : (xs : List Row) (j : ℕ) → slice_get xs j ≡ None → j < length xs → ⊥
          past [] j h low = absurd (omega (arith, low))
          past (x ∷ xs) zero h low = cc h
          past (x ∷ xs) (suc j) h low = past xs j h (omega (arith, low))
      by-row (Some x) at =
          let r = row-at e rows are p x at in
          let same' : Some r.0 ≡ Some q = sym r.1 ∙ parent.1 in
          let same : r.0 ≡ q = cc same' in
          ap (λ o. below (front-go o) own'.name own'.index) at ∙ by-parent x.parent (subst (λ y. IsParent (lineages_of e) x.parent y.ancestors) same r.2.parent)

  -- One more.

  pub no-texts : (ts : List (List ℕ)) → ts ≡ [] → AreTextsTo e 0 ts
  no-texts ts h = record { many = ap length h; each = λ k n low. absurd (omega (arith, low)) }

  get-front : {X : Type 0} (xs ys : List X) (k : ℕ) (x : X) → slice_get xs k ≡ Some x → slice_get (xs ++ ys) k ≡ Some x
  get-front [] ys k x h = cc h
  get-front (y ∷ xs) ys zero x h = h
  get-front (y ∷ xs) ys (suc k) x h = get-front xs ys k x h

  get-last : {X : Type 0} (xs : List X) (x : X) (k : ℕ) → k ≡ length xs → slice_get (xs ++ (x ∷ [])) k ≡ Some x
  get-last [] x zero q = refl
  get-last [] x (suc k) q = absurd (omega (arith, q))
  get-last (y ∷ ys) x zero q = absurd (omega (arith, q))
  get-last (y ∷ ys) x (suc k) q = get-last ys x k (omega (arith, q))

  pub one-text : (at : ℕ) (n : Instance) → slice_get (nodes_of e) at ≡ Some n → (ts new : List (List ℕ)) (t : List ℕ) → AreTextsTo e at ts → new ≡ ts ++ (t ∷ []) → t ≡ path_text n.path → AreTextsTo e (at + 1) new
  one-text at n here ts new t h put is = record {
    many = (let s = length-append ts (t ∷ []) in let p = ap length put in let m = h.many in omega (arith, s, p, m));
    each = λ k m low at-k. by k m at-k (split k low);
  }
    where
      split : (k : ℕ) → k < at + 1 → (k ≡ at) ⊎ (k < at)
      split k low = grind (arith, low)

      by : (k : ℕ) (m : Instance) → slice_get (nodes_of e) k ≡ Some m → (k ≡ at) ⊎ (k < at) → slice_get new k ≡ Some (path_text m.path)
      by k m at-k (inl q) =
          let same' : Some n ≡ Some m = sym here ∙ (ap (slice_get (nodes_of e)) (sym q) ∙ at-k) in
          let same : n ≡ m = cc same' in
          ap (λ xs. slice_get xs k) put ∙ (get-last ts t k (q ∙ sym h.many) ∙ ap Some (is ∙ ap (λ x. path_text x.path) same))
      by k m at-k (inr b) = ap (λ xs. slice_get xs k) put ∙ get-front ts (t ∷ []) k (path_text m.path) (h.each k m b at-k)
