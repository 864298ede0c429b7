-- The nodes of a body, with their numbers.
use Rattle.std.proofs.Common.{◌≡◌, ◌∙◌, ◌⊎◌, inl, inr, ℕ, zero, suc, ◌+◌, true, List, [], ◌∷◌, ◌++◌, length, drop, flat_map, slice_get, Some, refl, sym, ap, subst, arith, length-append, append_assoc, append-nil}
use Rattle.std.specs.List.{AllByRecursion}
use Rattle.rdl_tree.specs.declared.item.Source.{Source}
use Rattle.rdl_tree.specs.declared.node.Elab.{Elab}
use Rattle.rdl_tree.specs.declared.node.Node.{Node, out-Node}
use Rattle.rdl_values.specs.Elaborated.{Says, IsTreeOf, AreTreesOf, node, none, more, IsElab, IsNodeOf, nodes_of, top_name}
use Rattle.rdl_values.specs.Bodies.{of_signal}
use Rattle.rdl_values.specs.Instances.{Instance, children, kind_of, most_names, nodes, signals, top_of, with_below}
use Rattle.rdl_values.specs.NoNode.{is_signal, may_hold}
use Rattle.rdl_values.specs.Paths.{path_in}
use Rattle.rdl_values.proofs.Given.{IsAtRoot, held, signals-given}
use Rattle.plain_lemmas.proofs.Lists.{each-imp}
use Rattle.rdl_values.proofs.Numbered.{At, Deep, Found, bottom, found, lower, tops_deep}
use Rattle.rdl_nodes.proofs.Members.{In, place-in}

module _ {X : Type 0} where
  stands-at : (all : List X) (k : ℕ) (n : X) (rest : List X) → drop k all ≡ n ∷ rest → slice_get all k ≡ Some n
  stands-at [] zero n rest e = cc
  stands-at [] (suc k) n rest e = cc
  stands-at (x ∷ all) zero n rest e = cc
  stands-at (x ∷ all) (suc k) n rest e = stands-at all k n rest e

  behind : (all xs ys : List X) (at : ℕ) → drop at all ≡ xs ++ ys → drop (at + length xs) all ≡ ys
  behind all [] ys at e = let z : at + 0 ≡ at = omega arith in ap (λ n. drop n all) z ∙ e
  behind all (x ∷ xs) ys at e = let s : at + length (x ∷ xs) ≡ suc at + length xs = omega arith in ap (λ n. drop n all) s ∙ behind all xs ys (suc at) (next all at x (xs ++ ys) e)
    where
      next : (all : List X) (at : ℕ) (x : X) (ys : List X) → drop at all ≡ x ∷ ys → drop (suc at) all ≡ ys
      next [] zero x ys e = cc
      next [] (suc at) x ys e = cc
      next (a ∷ all) zero x ys e = cc
      next (a ∷ all) (suc at) x ys e = next all at x ys e

no-trees : {b rs : List Node} {at after : ℕ} (ns : List Instance) → ns ≡ [] → AreTreesOf b at rs ns after → at ≡ after
no-trees ns e none = refl
no-trees ns e (more t ts) = cc

mutual
  listed : (k : ℕ) {b : List Node} {at after : ℕ} {r : Node} {n : Instance} → Deep k n → IsTreeOf b at r n after → at + length (with_below k n) ≡ after
  listed zero {n = n} d (node e s ts) = let q = no-trees (children n) (bottom n d) ts in omega (arith, q)
  listed (suc k) {n = n} d (node e s ts) = let q = all-listed k (lower k n d) ts in omega (arith, q)

  all-listed : (k : ℕ) {b : List Node} {at after : ℕ} {rs : List Node} {ns : List Instance} → AllByRecursion (Deep k) ns → AreTreesOf b at rs ns after → at + length (flat_map (with_below k) ns) ≡ after
  all-listed k d none = omega arith
  all-listed k {ns = n ∷ ns} d (more t ts) = let one = listed k d.0 t in let rest = all-listed k d.1 ts in let size = length-append (with_below k n) (flat_map (with_below k) ns) in omega (arith, one, rest, size)

-- each node says what the instance at its number is, one by one
abbrev pub AreBeside : List Instance → List Node → List Node → List Instance → Type 0
AreBeside all b [] [] = Unit {0}
AreBeside all b (r ∷ rs) (n ∷ ns) = (Says b r n × (slice_get all (out-Node r).id ≡ Some n)) × AreBeside all b rs ns
AreBeside all b _ _ = ⊥

said : {b : List Node} {at after : ℕ} {r : Node} {n : Instance} → IsTreeOf b at r n after → Says b r n
said (node i s ts) = s

first : (k : ℕ) (all : List Instance) {b : List Node} {at after : ℕ} {r : Node} {n : Instance} (rest : List Instance) → IsTreeOf b at r n after → drop at all ≡ with_below k n ++ rest → slice_get all (out-Node r).id ≡ Some n
first zero all {n = n} rest (node i s ts) e = ap (slice_get all) i ∙ stands-at all _ n rest e
first (suc k) all {n = n} rest (node i s ts) e = ap (slice_get all) i ∙ stands-at all _ n (flat_map (with_below k) (children n) ++ rest) e

kids : (k : ℕ) (all : List Instance) {b rs : List Node} {ns : List Instance} {at after : ℕ} (rest : List Instance) → AllByRecursion (Deep k) ns → AreTreesOf b at rs ns after → drop at all ≡ flat_map (with_below k) ns ++ rest → AreBeside all b rs ns
kids k all rest d none e = tt
kids k all {ns = n ∷ ns} {at = at} rest d (more {next = next} t ts) e =
    let tail = flat_map (with_below k) ns ++ rest in
    let here : drop at all ≡ with_below k n ++ tail = e ∙ append_assoc (with_below k n) (flat_map (with_below k) ns) rest in
    let left : drop next all ≡ tail = subst (λ q. drop q all ≡ tail) (listed k d.0 t) (behind all (with_below k n) tail at here) in
    ((said t, first k all tail t here), kids k all rest d.1 ts left)

no-kids : (all : List Instance) {b rs : List Node} {at after : ℕ} (ns : List Instance) → ns ≡ [] → AreTreesOf b at rs ns after → AreBeside all b rs ns
no-kids all ns e none = tt
no-kids all ns e (more t ts) = cc

-- The nodes in the body of a node are those in the body of an instance.
pub record Body (e : Elab) (rs : List Node) : Type 0 where
  pub parent : Instance
  pub among : In (nodes_of e) parent
  pub beside : AreBeside (nodes_of e) rs rs (children parent)

pub body-of : (e : Elab) → IsElab (Some (top_name e)) e.source.now e → (b : List Node) (p : Node) → IsNodeOf e b p → Body e (out-Node p).children.now
body-of e t b p h = by (found (Some (top_name e)) e.source.now e t h)
  where
    by : Found (nodes_of e) b p → Body e (out-Node p).children.now
    by f = go f.levels f.deep f.tree f.here
      where
        go : (k : ℕ) → Deep k f.instance → IsTreeOf b f.number p f.instance f.after → drop f.number (nodes_of e) ≡ with_below k f.instance ++ f.rest → Body e (out-Node p).children.now
        go zero d (node i s ts) here = record {
          parent = f.instance;
          among = place-in (nodes_of e) f.number f.instance (stands-at (nodes_of e) f.number f.instance f.rest here);
          beside = no-kids (nodes_of e) (children f.instance) (bottom f.instance d) ts;
        }
        go (suc k) d (node i s ts) here = record {
          parent = f.instance;
          among = place-in (nodes_of e) f.number f.instance (stands-at (nodes_of e) f.number f.instance (flat_map (with_below k) (children f.instance) ++ f.rest) here);
          beside =
              kids k (nodes_of e) f.rest (lower k f.instance d) ts
              (behind (nodes_of e) (f.instance ∷ []) (flat_map (with_below k) (children f.instance) ++ f.rest) f.number here);
        }

-- the instance of one of the nodes
pub beside-at : (all : List Instance) (b rs : List Node) (ns : List Instance) → AreBeside all b rs ns → (r : Node) → In rs r → (n : Instance) × In ns n × Says b r n × (slice_get all (out-Node r).id ≡ Some n)
beside-at all b [] ns h r i = absurd i
beside-at all b (q ∷ rs) [] h r i = absurd h
beside-at all b (q ∷ rs) (n ∷ ns) h r (inl e) = (n, inl refl, subst (λ x. Says b x n) e h.0.0, subst (λ x. slice_get all (out-Node x).id ≡ Some n) e h.0.1)
beside-at all b (q ∷ rs) (n ∷ ns) h r (inr i) = let m = beside-at all b rs ns h.1 r i in (m.0, inr m.1, m.2, m.3)

-- The signals at the root, and the top.

no-levels : (s : Source) → AllByRecursion (Deep 0) (signals s)
no-levels s = each-imp IsAtRoot (Deep 0) (signals s) (λ n h. of n h) (signals-given s)
  where
    of : (n : Instance) → IsAtRoot n → Deep 0 n
    of n h =
        let path : n.path ≡ of_signal (record { name = h.by.use_.name.text.now; index = h.given_.index }) = h.given_.path_is ∙ ap (λ p. path_in p (record { name = h.by.use_.name.text.now; index = h.given_.index })) h.in_body in
        let kind : is_signal (kind_of n) ≡ true = subst (λ p. may_hold p (kind_of n) ≡ true) h.in_body (held h.by n h.given_) in
        subst (λ p. At p 0 n) (sym path) kind

alone : (ns : List Instance) → flat_map (with_below 0) ns ≡ ns
alone [] = refl
alone (n ∷ ns) = ap (λ xs. n ∷ xs) (alone ns)

module _ (e : Elab) (t : IsElab (Some (top_name e)) e.source.now e) where
  abbrev s : Source
  s = e.source.now

  from-front : drop 0 (nodes_of e) ≡ flat_map (with_below 0) (signals s) ++ flat_map (with_below most_names) (top_of (Some (top_name e)) s)
  unfolding nodes
  from-front = ap (λ xs. xs ++ flat_map (with_below most_names) (top_of (Some (top_name e)) s)) (sym (alone (signals s)))

  pub roots-of : AreBeside (nodes_of e) e.signals.now e.signals.now (signals s)
  roots-of = kids 0 (nodes_of e) (flat_map (with_below most_names) (top_of (Some (top_name e)) s)) (no-levels s) t.signals_ from-front

  pub tops-of : AreBeside (nodes_of e) [] (e.top.now ∷ []) (top_of (Some (top_name e)) s)
  tops-of =
      let first = flat_map (with_below 0) (signals s) in
      let second = flat_map (with_below most_names) (top_of (Some (top_name e)) s) in
      let left : drop t.between (nodes_of e) ≡ second = subst (λ q. drop q (nodes_of e) ≡ second) (all-listed 0 (no-levels s) t.signals_) (behind (nodes_of e) first second 0 from-front) in
      kids most_names (nodes_of e) [] (tops_deep (Some (top_name e)) s) t.top (left ∙ sym (append-nil second))
