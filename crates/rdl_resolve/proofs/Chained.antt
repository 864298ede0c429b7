-- Chains of bodies, one more at a time.
use Rattle.std.proofs.Common.{◌≡◌, ◌∙◌, ℕ, zero, suc, ◌+◌, ◌^◌, ◌≤◌, ◌<◌, ◌⊎◌, inl, inr, List, [], ◌∷◌, ◌++◌, drop, get_or, length, IfNone, Option, None, Some, slice_get, refl, sym, ap, subst, arith, length-append}
use Rattle.std.specs.List.{AllByRecursion}
use Rattle.plain_lemmas.proofs.Lists.{drop-rest as drop-one, get-not_none as no-end, length-map as long-map}
use Rattle.rdl_tree.specs.declared.item.Source.{Source}
use Rattle.rdl_tree.specs.declared.node.Elab.{Elab}
use Rattle.rdl_tree.specs.declared.node.Node.{out-Node}
use Rattle.rdl_values.specs.Bodies.{Path}
use Rattle.rdl_values.specs.Elaborated.{around_body, nodes_of, top_name}
use Rattle.rdl_values.specs.Elaboration.{IsClean}
use Rattle.rdl_values.specs.Instances.{Instance, children, signals, top_of}
use Rattle.rdl_values.specs.Lineages.{Lineage, lineages_of}
use Rattle.rdl_values.specs.Seen.{around_of}
use Rattle.rdl_layers.specs.Says.{IsBodyNumber}
use Rattle.rdl_nodes.specs.declared.table.Row.{Row}
use Rattle.rdl_nodes.specs.Rows.{AreRows, IsParent}
use Rattle.rdl_nodes.proofs.Members.{each-in, get-within, place-in}
use Rattle.rdl_nodes.proofs.Order.{behind}
use Rattle.rdl_sizes.proofs.Facts.{count-is, node-at, nodes-many, row-at, rows-many}
use Rattle.rdl_sizes.proofs.Moding.{parent-before}
use Rattle.rdl_bits.proofs.Descending.{at-top}
use Rattle.rdl_layers.specs.Scoped.{IsEnd, bodies_of}
use Rattle.rdl_resolve.specs.Outward.{IsChain, outer_at}
use Rattle.rdl_resolve.specs.Outers.{AreOuters, AreOutersTo, IsChainBelow, IsTooDeep}

-- Going outwards.

drop-none : {X : Type 0} (xs : List X) (i : ℕ) → drop i xs ≡ [] → drop (suc i) xs ≡ []
drop-none [] zero e = refl
drop-none [] (suc i) e = refl
drop-none (x ∷ xs) zero e = cc e
drop-none (x ∷ xs) (suc i) e = drop-none xs i e

pub one-outward : (e : Elab) (outers : List ℕ) (n : ℕ) (ps : List (Option Path)) (i b : ℕ) → IsChainBelow e outers n (drop i ps) b → IsChainBelow e outers n (drop (i + 1) ps) (outer_at e.count outers b)
one-outward e outers n ps i b h = subst (λ k. IsChainBelow e outers n (drop k ps) (outer_at e.count outers b)) next (by (drop i ps) refl h)
  where
    next : suc i ≡ i + 1
    next = omega arith

    by : (qs : List (Option Path)) → drop i ps ≡ qs → IsChainBelow e outers n qs b → IsChainBelow e outers n (drop (suc i) ps) (outer_at e.count outers b)
    by [] q h = subst (λ rs. IsChainBelow e outers n rs (outer_at e.count outers b)) (sym (drop-none ps i q)) tt
    by (None ∷ qs) q h = subst (λ rs. IsChainBelow e outers n rs (outer_at e.count outers b)) (sym (drop-one ps i None qs q ∙ h.1)) tt
    by (Some p ∷ qs) q h = subst (λ rs. IsChainBelow e outers n rs (outer_at e.count outers b)) (sym (drop-one ps i (Some p) qs q)) h.2

-- A number more.

before-end : (xs : List ℕ) (x k d : ℕ) → k < length xs → get_or (xs ++ (x ∷ [])) k d ≡ get_or xs k d
before-end [] x k d l = absurd (omega (arith, l))
before-end (y ∷ ys) x zero d l = refl
before-end (y ∷ ys) x (suc k) d l = before-end ys x k d (omega (arith, l))

at-end : (xs : List ℕ) (x k d : ℕ) → k ≡ length xs → get_or (xs ++ (x ∷ [])) k d ≡ x
at-end [] x zero d e = refl
at-end [] x (suc k) d e = absurd (omega (arith, e))
at-end (y ∷ ys) x zero d e = absurd (omega (arith, e))
at-end (y ∷ ys) x (suc k) d e = at-end ys x k d (omega (arith, e))

grown : (e : Elab) (outers : List ℕ) (x n m : ℕ) (ps : List (Option Path)) (b : ℕ) → n ≤ length outers → n ≤ m → IsChainBelow e outers n ps b → IsChainBelow e (outers ++ (x ∷ [])) m ps b
grown e outers x n m [] b l k h = tt
grown e outers x n m (None ∷ ps) b l k h = h
grown e outers x n m (Some p ∷ ps) b l k h =
    let low = h.0 in
    (omega (arith, low, k), h.1, subst (IsChainBelow e (outers ++ (x ∷ [])) m ps) (sym (before-end outers x b e.count (omega (arith, low, l)))) (grown e outers x n m ps (outer_at e.count outers b) l k h.2))

pub outers-more : (e : Elab) (outers new : List ℕ) (i x : ℕ) (l : Lineage) → slice_get (lineages_of e) i ≡ Some l → AreOutersTo e i outers → IsChainBelow e outers i (bodies_of l.node.closure.scope) x → new ≡ outers ++ (x ∷ []) → AreOutersTo e (i + 1) new
outers-more e outers new i x l here before chain pushed = record {
  many = (let s = length-append outers (x ∷ []) in let p = ap length pushed in let m = before.many in omega (arith, s, p, m));
  chains = λ k m low at. subst (λ os. IsChainBelow e os (i + 1) (bodies_of m.node.closure.scope) (outer_at e.count os k)) (sym pushed) (by k m at (split k low));
}
  where
    long : i ≤ length outers
    long = let m = before.many in omega (arith, m)

    split : (k : ℕ) → k < i + 1 → (k ≡ i) ⊎ (k < i)
    split k l = grind (arith, l)

    by : (k : ℕ) (m : Lineage) → slice_get (lineages_of e) k ≡ Some m → (k ≡ i) ⊎ (k < i) → IsChainBelow e (outers ++ (x ∷ [])) (i + 1) (bodies_of m.node.closure.scope) (outer_at e.count (outers ++ (x ∷ [])) k)
    by k m at (inr less) =
        let same = before-end outers x k e.count (let n = before.many in omega (arith, less, n)) in
        subst (IsChainBelow e (outers ++ (x ∷ [])) (i + 1) (bodies_of m.node.closure.scope)) (sym same) (grown e outers x i (i + 1) (bodies_of m.node.closure.scope) (outer_at e.count outers k) long (omega arith) (before.chains k m less at))
    by k m at (inl q) =
        let one : Some l ≡ Some m = sym here ∙ (ap (slice_get (lineages_of e)) (sym q) ∙ at) in
        let twin : l ≡ m = cc one in
        let same = at-end outers x k e.count (let n = before.many in omega (arith, q, n)) in
        subst (IsChainBelow e (outers ++ (x ∷ [])) (i + 1) (bodies_of m.node.closure.scope)) (sym same)
        (subst (λ y. IsChainBelow e (outers ++ (x ∷ [])) (i + 1) (bodies_of y.node.closure.scope) x) twin (grown e outers x i (i + 1) (bodies_of l.node.closure.scope) x long (omega arith) chain))

pub no-outers : (e : Elab) (outers : List ℕ) → outers ≡ [] → AreOutersTo e 0 outers
no-outers e outers none = record { many = ap length none; chains = λ k l low. absurd (omega (arith, low)) }

chain-is : (e : Elab) (outers : List ℕ) (n : ℕ) (ps : List (Option Path)) (b : ℕ) → IsChainBelow e outers n ps b → IsChain e outers ps b
chain-is e outers n [] b h = tt
chain-is e outers n (None ∷ ps) b h = (h.0, subst (λ qs. IsChain e outers qs (outer_at e.count outers b)) (sym h.1) tt)
chain-is e outers n (Some p ∷ ps) b h = (h.1, chain-is e outers n ps (outer_at e.count outers b) h.2)

pub all-outers : (e : Elab) (outers : List ℕ) (i : ℕ) → length (lineages_of e) ≤ i → AreOutersTo e i outers → AreOuters e outers
all-outers e outers i past h = record {
  chains = λ k l at. chain-is e outers i (bodies_of l.node.closure.scope) (outer_at e.count outers k) (h.chains k l (let low = get-within (lineages_of e) k l at in omega (arith, low, past)) at);
}

-- The body next round a text.

dropped : {X : Type 0} (xs ys : List X) (k : ℕ) → k ≡ length xs → drop k (xs ++ ys) ≡ ys
dropped [] ys zero e = refl
dropped [] ys (suc k) e = absurd (omega (arith, e))
dropped (x ∷ xs) ys zero e = absurd (omega (arith, e))
dropped (x ∷ xs) ys (suc k) e = dropped xs ys k (omega (arith, e))

pub if-none : {X : Type 0} (o : Option X) (P : Type 0) → P → IfNone o P
if-none None P h = h
if-none (Some x) P h = tt

abbrev pub TextsOfChildren : Type 0
TextsOfChildren = (n : Instance) → AllByRecursion (λ c. IsEnd (bodies_of c.closure.scope) (Some n.path ∷ bodies_of n.closure.scope)) (children n)

module _ (e : Elab) (clean : IsClean e) (rows : List Row) (are : AreRows e rows) (x : Row) (l : Lineage) (row : slice_get rows (out-Node x.node.now).id ≡ Some x) (here : slice_get (lineages_of e) (out-Node x.node.now).id ≡ Some l) where
  abbrev i : ℕ
  i = (out-Node x.node.now).id

  -- how many bodies are round a node's own body, and that
  own-bodies : (k : ℕ) (y : Row) (m : Lineage) → slice_get rows k ≡ Some y → slice_get (lineages_of e) k ≡ Some m → (d : ℕ) → d ≡ length (around_of (out-Node y.node.now).env.now) → d ≡ suc (length (bodies_of m.node.closure.scope))
  own-bodies k y m at lineage d is =
      let r = row-at e rows are k y at in
      let one : Some r.0 ≡ Some m = sym r.1 ∙ lineage in
      let same : r.0 ≡ m = cc one in
      is ∙ (ap length (r.2.says.env ∙ ap (λ z. around_body z.node) same) ∙ ap suc (long-map (λ b. b.names) m.node.closure.scope ∙ sym (long-map (λ b. b.node) m.node.closure.scope)))

  parent-of : IsParent (lineages_of e) x.parent l.ancestors
  parent-of =
      let r = row-at e rows are (out-Node x.node.now).id x row in
      let one : Some r.0 ≡ Some l = sym r.1 ∙ here in
      let same : r.0 ≡ l = cc one in
      subst (λ y. IsParent (lineages_of e) x.parent y.ancestors) same r.2.parent

  pub round-root : ((s : Source) → AllByRecursion (λ n. bodies_of n.closure.scope ≡ None ∷ []) (signals s)) → ((wanted : Option (List ℕ)) (s : Source) → AllByRecursion (λ n. bodies_of n.closure.scope ≡ None ∷ []) (top_of wanted s))
      → x.parent ≡ None → (root : ℕ) → root ≡ e.count → (outers : List ℕ) → IsChainBelow e outers (out-Node x.node.now).id (bodies_of l.node.closure.scope) root
  round-root of-signals of-top none root is outers =
      let alone : l.ancestors ≡ [] = subst (λ o. IsParent (lineages_of e) o l.ancestors) none parent-of in
      let bodies : bodies_of l.node.closure.scope ≡ None ∷ [] = elim (at-top (Some (top_name e)) e.source.now l (place-in (lineages_of e) i l here) alone) [
        | inl p ↦ each-in (λ n. bodies_of n.closure.scope ≡ None ∷ []) (signals e.source.now) l.node (of-signals e.source.now) p
        | inr p ↦ each-in (λ n. bodies_of n.closure.scope ≡ None ∷ []) (top_of (Some (top_name e)) e.source.now) l.node (of-top (Some (top_name e)) e.source.now) p
      ] in
      let count = count-is e clean in
      let many = nodes-many e in
      let number : IsBodyNumber (nodes_of e) None root = is ∙ (count ∙ sym many) in
      subst (λ ps. IsChainBelow e outers i ps root) (sym bodies) (number, refl)

  above-of : (p : ℕ) → x.parent ≡ Some p → (q : Lineage) × (slice_get (lineages_of e) p ≡ Some q) × (l.ancestors ≡ q.node ∷ q.ancestors)
  above-of p parent = subst (λ o. IsParent (lineages_of e) o l.ancestors) parent parent-of

  -- the parent has a row
  pub has-row : (p : ℕ) → x.parent ≡ Some p → slice_get rows p ≡ None → ⊥
  has-row p parent none =
      let q = above-of p parent in
      let low = get-within (lineages_of e) p q.0 q.1 in
      let many = rows-many e rows are in
      no-end rows p (omega (arith, low, many)) none

  -- at most one body more is seen in a body than in that which its node stands in
  one-more : TextsOfChildren → (p : ℕ) → x.parent ≡ Some p → (y : Row) → slice_get rows p ≡ Some y → length (around_of (out-Node x.node.now).env.now) ≤ length (around_of (out-Node y.node.now).env.now) + 1
  one-more texts p parent y at =
      let q = above-of p parent in
      let inside = (behind (Some (top_name e)) e.source.now i l q.0.node q.0.ancestors here q.2).3 in
      let end = each-in (λ c. IsEnd (bodies_of c.closure.scope) (Some q.0.node.path ∷ bodies_of q.0.node.closure.scope)) (children q.0.node) l.node (texts q.0.node) inside in
      let a = own-bodies i x l row here (length (around_of (out-Node x.node.now).env.now)) refl in
      let b = own-bodies p y q.0 at q.1 (length (around_of (out-Node y.node.now).env.now)) refl in
      let n = length-append end.0 (bodies_of l.node.closure.scope) in
      let m = ap length end.1 in
      omega (arith, a, b, n, m)

  pub too-deep : TextsOfChildren → (p : ℕ) → x.parent ≡ Some p → (y : Row) → slice_get rows p ≡ Some y → (own : ℕ) → own ≡ length (around_of (out-Node x.node.now).env.now) → (round : ℕ) → round ≡ length (around_of (out-Node y.node.now).env.now)
      → (2 ^ 64 ≤ own) ⊎ ((2 ^ 64 ≤ round + 1) ⊎ (round + 1 < own)) → IsTooDeep rows x
  too-deep texts p parent y at own mine round theirs cause = (p, y, parent, at, by cause)
    where
      by : (2 ^ 64 ≤ own) ⊎ ((2 ^ 64 ≤ round + 1) ⊎ (round + 1 < own)) → 2 ^ 64 ≤ length (around_of (out-Node y.node.now).env.now) + 1
      by (inl h) = let most = one-more texts p parent y at in omega (arith, h, mine, most)
      by (inr (inl h)) = omega (arith, h, theirs)
      by (inr (inr h)) = let most = one-more texts p parent y at in absurd (omega (arith, h, mine, theirs, most))

  -- the chain of the parent's body
  module _ (p : ℕ) (parent : x.parent ≡ Some p) (outers : List ℕ) (before : AreOutersTo e (out-Node x.node.now).id outers) where
    pub above : (q : Lineage) × (slice_get (lineages_of e) p ≡ Some q) × (l.ancestors ≡ q.node ∷ q.ancestors)
    above = subst (λ o. IsParent (lineages_of e) o l.ancestors) parent parent-of

    pub parent-chain : IsChainBelow e outers (out-Node x.node.now).id (Some above.0.node.path ∷ bodies_of above.0.node.closure.scope) p
    parent-chain =
        let less = parent-before e i p l here above in
        (less, (above.0.node, node-at e p above.0 above.1, refl), before.chains p above.0 less above.1)

    pub round-parent : TextsOfChildren → (y : Row) → slice_get rows p ≡ Some y → (own round bodies : ℕ) → own ≡ length (around_of (out-Node x.node.now).env.now) → round ≡ length (around_of (out-Node y.node.now).env.now) → bodies + own ≡ round + 1
        → (o : ℕ) → IsChainBelow e outers (out-Node x.node.now).id (drop bodies (Some above.0.node.path ∷ bodies_of above.0.node.closure.scope)) o → IsChainBelow e outers (out-Node x.node.now).id (bodies_of l.node.closure.scope) o
    round-parent texts y at own round bodies mine theirs sum o chain =
        let inside = (behind (Some (top_name e)) e.source.now i l above.0.node above.0.ancestors here above.2).3 in
        let end = each-in (λ c. IsEnd (bodies_of c.closure.scope) (Some above.0.node.path ∷ bodies_of above.0.node.closure.scope)) (children above.0.node) l.node (texts above.0.node) inside in
        let full = Some above.0.node.path ∷ bodies_of above.0.node.closure.scope in
        let a = own-bodies i x l row here own mine in
        let b = own-bodies p y above.0 at above.1 round theirs in
        let n = length-append end.0 (bodies_of l.node.closure.scope) in
        let m = ap length end.1 in
        let skipped : bodies ≡ length end.0 = omega (arith, a, b, n, m, sum) in
        subst (λ ps. IsChainBelow e outers i ps o) (ap (drop bodies) (sym end.1) ∙ dropped end.0 (bodies_of l.node.closure.scope) bodies skipped) chain
