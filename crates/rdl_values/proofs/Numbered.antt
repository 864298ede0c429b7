-- Nodes of the tree stand in the list of nodes at their numbers.
use Rattle.std.proofs.Common.{◌≡◌, ℕ, zero, suc, ◌+◌, ◌≤◌, ◌<◌, true, false, nat_lt, List, [], ◌∷◌, ◌++◌, length, flat_map, drop, get_or, slice_get, Contains, Option, None, Some, refl, sym, ap, subst, ◌∙◌, arith, length-append, append_assoc, append-nil}
use Rattle.std.specs.List.{AllByRecursion}
use Rattle.std.proofs.lemmas.Bool.Decides.{nat_tests}
use Rattle.rdl_tree.specs.declared.item.Kind.{Kind}
use Rattle.rdl_tree.specs.declared.item.Kind.TheVariants as kind
use Rattle.rdl_tree.specs.declared.item.Source.{Source}
use Rattle.rdl_tree.specs.declared.node.Elab.{Elab}
use Rattle.rdl_tree.specs.declared.node.Node.{Node, out-Node}
use Rattle.rdl_values.specs.Bodies.{Path, Step, of_signal, below_top}
use Rattle.rdl_values.specs.Elaborated.{Says, IsTreeOf, AreTreesOf, node, none, more, IsElab, IsNodeOf, signal, top, below}
use Rattle.rdl_values.specs.Instances.{Instance, kind_of, children, signals, top_of, with_below, nodes, most_names}
use Rattle.rdl_values.specs.NoNode.{may_hold, is_signal, holds}
use Rattle.rdl_values.specs.Paths.{in_node, path_in, depth_in}
use Rattle.rdl_values.proofs.Given.{IsChildOf, IsAtRoot, held, shallow, children-given, signals-given, tops-given}
use Rattle.plain_lemmas.proofs.Lists.{each-imp}

-- so many levels below the node are all: of a signal at the root none
abbrev pub At : Path → ℕ → Instance → Type 0
At (of_signal t) k n = is_signal (kind_of n) ≡ true
At (below_top ss) k n = 31 ≤ length ss + k

abbrev pub Deep : ℕ → Instance → Type 0
Deep k n = At n.path k n

not_held : (n c : Instance) (t : Step) → n.path ≡ of_signal t → is_signal (kind_of n) ≡ true → IsChildOf n c → ⊥
not_held n c t e s h =
    let yes = held h.by c h.given_ in
    let at : may_hold (in_node n.path (kind_of n)) (kind_of c) ≡ true = subst (λ p. may_hold p (kind_of c) ≡ true) h.in_body yes in
    no_signal (kind_of n) (kind_of c) s at
  where
    no_signal : (k l : Kind) → is_signal k ≡ true → holds k l ≡ true → ⊥
    no_signal kind.Signal l s h = cc
    no_signal _ l s h = cc

too_deep : (n c : Instance) (ss : List Step) → n.path ≡ below_top ss → 31 ≤ length ss → IsChildOf n c → ⊥
too_deep n c ss e l h =
    let no : nat_lt most_names (depth_in (in_node n.path (kind_of n))) ≡ false = subst (λ p. nat_lt most_names (depth_in p) ≡ false) h.in_body (shallow h.by c h.given_) in
    let at : nat_lt most_names (length ss + 2) ≡ false = subst (λ p. nat_lt most_names (depth_in (in_node p (kind_of n))) ≡ false) e no in
    grind (arith, l, at, nat_tests)

pub empty_of_none : (P : Instance → Type 0) (ns : List Instance) → ((n : Instance) → P n → ⊥) → AllByRecursion P ns → ns ≡ []
empty_of_none P [] never h = refl
empty_of_none P (n ∷ ns) never h = absurd (never n h.0)

-- nothing stands in the body of a node that deep
pub bottom : (n : Instance) → Deep 0 n → children n ≡ []
bottom n d = by n.path refl d
  where
    by : (p : Path) → n.path ≡ p → At p 0 n → children n ≡ []
    by (of_signal t) e d = empty_of_none (IsChildOf n) (children n) (λ c h. not_held n c t e d h) (children-given n)
    by (below_top ss) e d = empty_of_none (IsChildOf n) (children n) (λ c h. too_deep n c ss e (omega (arith, d)) h) (children-given n)

child_path : (n c : Instance) (ss : List Step) → n.path ≡ below_top ss → (h : IsChildOf n c) → c.path ≡ below_top (ss ++ (record { name = h.by.use_.name.text.now; index = h.given_.index } ∷ []))
child_path n c ss e h = h.given_.path_is ∙ ap (λ p. path_in p (record { name = h.by.use_.name.text.now; index = h.given_.index })) (h.in_body ∙ ap (λ p. in_node p (kind_of n)) e)

-- below a node there is one level less
pub lower : (k : ℕ) (n : Instance) → Deep (suc k) n → AllByRecursion (Deep k) (children n)
lower k n d = by n.path refl d
  where
    child : (ss : List Step) → n.path ≡ below_top ss → 31 ≤ length ss + suc k → (c : Instance) → IsChildOf n c → Deep k c
    child ss e l c h =
        let step : Step = record { name = h.by.use_.name.text.now; index = h.given_.index } in
        let size : length (ss ++ (step ∷ [])) ≡ length ss + 1 = length-append ss (step ∷ []) in
        let deep : At (below_top (ss ++ (step ∷ []))) k c = omega (arith, l, size) in
        subst (λ p. At p k c) (sym (child_path n c ss e h)) deep

    by : (p : Path) → n.path ≡ p → At p (suc k) n → AllByRecursion (Deep k) (children n)
    by (of_signal t) e d = subst (AllByRecursion (Deep k)) (sym (empty_of_none (IsChildOf n) (children n) (λ c h. not_held n c t e d h) (children-given n))) tt
    by (below_top ss) e d = each-imp (IsChildOf n) (Deep k) (children n) (child ss e d) (children-given n)

pub tops_deep : (wanted : Option (List ℕ)) (s : Source) → AllByRecursion (Deep most_names) (top_of wanted s)
tops_deep wanted s = each-imp (λ n. n.path ≡ below_top []) (Deep most_names) (top_of wanted s) (λ n e. let deep : At (below_top []) most_names n = omega arith in subst (λ p. At p most_names n) (sym e) deep) (tops-given wanted s)

signals_deep : (s : Source) → AllByRecursion (Deep 0) (signals s)
signals_deep s = each-imp IsAtRoot (Deep 0) (signals s) (λ n h. of n h) (signals-given s)
  where
    of : (n : Instance) → IsAtRoot n → Deep 0 n
    of n h =
        let path : n.path ≡ of_signal (record { name = h.by.use_.name.text.now; index = h.given_.index }) = h.given_.path_is ∙ ap (λ p. path_in p (record { name = h.by.use_.name.text.now; index = h.given_.index })) h.in_body in
        let kind : is_signal (kind_of n) ≡ true = subst (λ p. may_hold p (kind_of n) ≡ true) h.in_body (held h.by n h.given_) in
        subst (λ p. At p 0 n) (sym path) kind

-- Counting.

no_trees : {beside rs : List Node} {at after : ℕ} → AreTreesOf beside at rs [] after → at ≡ after
no_trees none = refl

no_children : {beside rs : List Node} {at after : ℕ} (ns : List Instance) → ns ≡ [] → AreTreesOf beside at rs ns after → at ≡ after
no_children {beside = b} {rs = rs} {at = at} {after = after} ns e t = no_trees (subst (λ xs. AreTreesOf b at rs xs after) e t)

mutual
  listed : (k : ℕ) {beside : List Node} {at after : ℕ} {r : Node} {n : Instance} → Deep k n → IsTreeOf beside at r n after → at + length (with_below k n) ≡ after
  listed zero {n = n} d (node e s ts) = let q = no_children (children n) (bottom n d) ts in omega (arith, q)
  listed (suc k) {n = n} d (node e s ts) = let q = all_listed k (lower k n d) ts in omega (arith, q)

  all_listed : (k : ℕ) {beside : List Node} {at after : ℕ} {rs : List Node} {ns : List Instance} → AllByRecursion (Deep k) ns → AreTreesOf beside at rs ns after → at + length (flat_map (with_below k) ns) ≡ after
  all_listed k d none = omega arith
  all_listed k {ns = n ∷ ns} d (more t ts) = let one = listed k d.0 t in let rest = all_listed k d.1 ts in let size = length-append (with_below k n) (flat_map (with_below k) ns) in omega (arith, one, rest, size)

-- At a number stands the node of that number.

shifted : (xs ys : List Instance) (j : ℕ) → drop (length xs + j) (xs ++ ys) ≡ drop j ys
shifted [] ys j = ap (λ k. drop k ys) (omega arith)
shifted (x ∷ xs) ys j = let e : length (x ∷ xs) + j ≡ suc (length xs + j) = omega arith in ap (λ k. drop k (x ∷ xs ++ ys)) e ∙ shifted xs ys j

drop_none : (k : ℕ) → drop {A = Instance} k [] ≡ []
drop_none zero = refl
drop_none (suc k) = refl

-- what is left behind more of a list
left_behind : (all xs ys : List Instance) (at after : ℕ) → drop at all ≡ xs ++ ys → at + length xs ≡ after → drop after all ≡ ys
left_behind all xs ys at after e l =
    let sum : after ≡ at + length xs = sym l in
    ap (λ k. drop k all) sum ∙ sym (drop_more all at (length xs)) ∙ ap (drop (length xs)) e ∙ back
  where
    drop_more : (zs : List Instance) (i j : ℕ) → drop j (drop i zs) ≡ drop (i + j) zs
    drop_more zs zero j = ap (λ k. drop k zs) (omega arith)
    drop_more [] (suc i) j = drop_none j ∙ sym (drop_none (suc i + j))
    drop_more (z ∷ zs) (suc i) j = let e : suc i + j ≡ suc (i + j) = omega arith in drop_more zs i j ∙ sym (ap (λ k. drop k (z ∷ zs)) e)

    back : drop (length xs) (xs ++ ys) ≡ ys
    back = let e : length xs ≡ length xs + 0 = omega arith in ap (λ k. drop k (xs ++ ys)) e ∙ shifted xs ys 0

stands_at : (all : List Instance) (k : ℕ) (n : Instance) (rest : List Instance) → drop k all ≡ n ∷ rest → slice_get all k ≡ Some n
stands_at [] zero n rest e = cc
stands_at [] (suc k) n rest e = cc
stands_at (x ∷ all) zero n rest e = ap first e
  where
    first : List Instance → Option Instance
    first [] = None
    first (y ∷ ys) = Some y
stands_at (x ∷ all) (suc k) n rest e = stands_at all k n rest e

pub record Found (all : List Instance) (beside : List Node) (r : Node) : Type 0 where
  pub instance : Instance
  pub levels : ℕ
  pub number : ℕ
  pub after : ℕ
  pub rest : List Instance
  pub deep : Deep levels instance
  pub tree : IsTreeOf beside number r instance after
  pub here : drop number all ≡ with_below levels instance ++ rest

found_among : (k i : ℕ) (all : List Instance) {beside rs : List Node} {ns : List Instance} {at after : ℕ} (rest : List Instance) (d : Node) → AllByRecursion (Deep k) ns → AreTreesOf beside at rs ns after
    → drop at all ≡ flat_map (with_below k) ns ++ rest → i < length rs → Found all beside (get_or rs i d)
found_among k i all rest d deep none e l = absurd (omega (arith, l))
found_among k zero all {ns = n ∷ ns} rest d deep (more t ts) e l = record { instance = n; levels = k; number = _; after = _; rest = flat_map (with_below k) ns ++ rest; deep = deep.0; tree = t; here = e ∙ append_assoc (with_below k n) (flat_map (with_below k) ns) rest }
found_among k (suc i) all {ns = n ∷ ns} {at = at} rest d deep (more {next = next} t ts) e l =
    found_among k i all rest d deep.1 ts (left_behind all (with_below k n) (flat_map (with_below k) ns ++ rest) at next (e ∙ append_assoc (with_below k n) (flat_map (with_below k) ns) rest) (listed k deep.0 t)) (omega (arith, l))

found_in : (k : ℕ) (all : List Instance) {beside rs : List Node} {ns : List Instance} {at after : ℕ} (rest : List Instance) (r : Node) → AllByRecursion (Deep k) ns → AreTreesOf beside at rs ns after
    → drop at all ≡ flat_map (with_below k) ns ++ rest → Contains rs r → Found all beside r
found_in k all {beside = b} rest r deep ts e c = subst (Found all b) c.2 (found_among k c.0 all rest r deep ts e c.1)

no_node_in : {beside rs : List Node} {at after : ℕ} (all : List Instance) (r : Node) (ns : List Instance) → ns ≡ [] → AreTreesOf beside at rs ns after → Contains rs r → Found all beside r
no_node_in all r [] e none c = absurd (omega (arith, c.1))
no_node_in all r (n ∷ ns) e ts c = cc

found_below : (all : List Instance) (beside : List Node) (p r : Node) → Found all beside p → Contains (out-Node p).children.now r → Found all (out-Node p).children.now r
found_below all b p r f c = by f.levels f.deep f.tree f.here
  where
    by : (k : ℕ) → Deep k f.instance → IsTreeOf b f.number p f.instance f.after → drop f.number all ≡ with_below k f.instance ++ f.rest → Found all (out-Node p).children.now r
    by zero d (node e s ts) h = no_node_in all r (children f.instance) (bottom f.instance d) ts c
    by (suc k) d (node e s ts) h = found_in k all f.rest r (lower k f.instance d) ts (left_behind all (f.instance ∷ []) (flat_map (with_below k) (children f.instance) ++ f.rest) f.number (f.number + 1) h (omega arith)) c

alone : (ns : List Instance) → flat_map (with_below 0) ns ≡ ns
alone [] = refl
alone (n ∷ ns) = ap (λ xs. n ∷ xs) (alone ns)

module _ (wanted : Option (List ℕ)) (s : Source) (e : Elab) (t : IsElab wanted s e) where
  signals_counted : length (signals s) ≡ t.between
  signals_counted = let q = all_listed 0 (signals_deep s) t.signals_ in let z = ap length (alone (signals s)) in omega (arith, q, z)

  pub counted : e.count ≡ length (nodes wanted s)
  unfolding nodes
  counted = let q = all_listed most_names (tops_deep wanted s) t.top in let z = signals_counted in let size = length-append (signals s) (flat_map (with_below most_names) (top_of wanted s)) in omega (arith, q, z, size)

  behind_signals : drop t.between (nodes wanted s) ≡ flat_map (with_below most_names) (top_of wanted s) ++ []
  unfolding nodes
  behind_signals = left_behind (nodes wanted s) (signals s) (flat_map (with_below most_names) (top_of wanted s)) 0 t.between refl (omega (arith, signals_counted)) ∙ sym (append-nil _)

  from_signals : drop 0 (nodes wanted s) ≡ flat_map (with_below 0) (signals s) ++ flat_map (with_below most_names) (top_of wanted s)
  unfolding nodes
  from_signals = ap (λ xs. xs ++ flat_map (with_below most_names) (top_of wanted s)) (sym (alone (signals s)))

  pub found : {beside : List Node} {r : Node} → IsNodeOf e beside r → Found (nodes wanted s) beside r
  found (signal c) = found_in 0 (nodes wanted s) _ _ (signals_deep s) t.signals_ from_signals c
  found top = found_in most_names (nodes wanted s) [] e.top.now (tops_deep wanted s) t.top behind_signals (0, omega arith, refl)
  found (below {beside = b} {p = p} {r = r} h c) = found_below (nodes wanted s) b p r (found h) c

  pub numbered : (beside : List Node) (r : Node) → IsNodeOf e beside r → (n : Instance) × (slice_get (nodes wanted s) (out-Node r).id ≡ Some n) × Says beside r n
  numbered b r h = by (found h)
    where
      of : (f : Found (nodes wanted s) b r) → (k : ℕ) → drop f.number (nodes wanted s) ≡ with_below k f.instance ++ f.rest → slice_get (nodes wanted s) f.number ≡ Some f.instance
      of f zero h = stands_at (nodes wanted s) f.number f.instance f.rest h
      of f (suc k) h = stands_at (nodes wanted s) f.number f.instance _ h

      says : (f : Found (nodes wanted s) b r) → IsTreeOf b f.number r f.instance f.after → (n : Instance) × (slice_get (nodes wanted s) (out-Node r).id ≡ Some n) × Says b r n
      says f (node i said ts) = (f.instance, ap (slice_get (nodes wanted s)) i ∙ of f f.levels f.here, said)

      by : Found (nodes wanted s) b r → (n : Instance) × (slice_get (nodes wanted s) (out-Node r).id ≡ Some n) × Says b r n
      by f = says f f.tree
