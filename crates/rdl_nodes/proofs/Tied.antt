-- The rows of a tree are those of its nodes, with their ancestors.
use Rattle.std.proofs.Common.{◌≡◌, ◌∙◌, ℕ, zero, suc, ◌+◌, true, Option, None, Some, List, [], ◌∷◌, ◌++◌, length, drop, slice_get, map, flat_map, Contains, refl, sym, ap, subst, arith, length-append, append_assoc, append-nil}
use Rattle.std.specs.List.{AllByRecursion}
use Rattle.rdl_tree.specs.declared.item.Source.{Source}
use Rattle.rdl_tree.specs.declared.node.Elab.{Elab}
use Rattle.rdl_tree.specs.declared.node.Node.{Node, out-Node}
use Rattle.rdl_values.specs.Elaborated.{Says, IsTreeOf, AreTreesOf, node, none, more, IsElab, IsNodeOf, signal, top, below}
use Rattle.rdl_values.specs.Instances.{Instance, children, kind_of, signals, top_of, most_names}
use Rattle.rdl_values.specs.Lineages.{Lineage, alone, lineages, lineages_below}
use Rattle.rdl_values.specs.NoNode.{may_hold, is_signal}
use Rattle.rdl_values.specs.Paths.{path_in}
use Rattle.rdl_values.specs.Bodies.{of_signal}
use Rattle.rdl_values.proofs.Given.{IsAtRoot, held, signals-given}
use Rattle.plain_lemmas.proofs.Lists.{each-imp}
use Rattle.rdl_values.proofs.Numbered.{At, Deep, bottom, lower, tops_deep}
use Rattle.rdl_nodes.specs.declared.table.Row.{Row}
use Rattle.rdl_nodes.specs.Below.{AreBelow, IsBelow, row, no_rows, more_rows}
use Rattle.rdl_nodes.specs.Rows.{AreInside, AreRowsFrom, IsParent, IsRow}

-- What is left behind the front of a list.

module _ {X : Type 0} where
  stands-at : (all : List X) (k : ℕ) (n : X) (rest : List X) → drop k all ≡ n ∷ rest → slice_get all k ≡ Some n
  stands-at [] zero n rest e = cc
  stands-at [] (suc k) n rest e = cc
  stands-at (x ∷ all) zero n rest e = cc
  stands-at (x ∷ all) (suc k) n rest e = stands-at all k n rest e

  behind : (all xs ys : List X) (at : ℕ) → drop at all ≡ xs ++ ys → drop (at + length xs) all ≡ ys
  behind all [] ys at e = let z : at + 0 ≡ at = omega arith in ap (λ n. drop n all) z ∙ e
  behind all (x ∷ xs) ys at e = let s : at + length (x ∷ xs) ≡ suc at + length xs = omega arith in ap (λ n. drop n all) s ∙ behind all xs ys (suc at) (next all at x (xs ++ ys) e)
    where
      next : (all : List X) (at : ℕ) (x : X) (ys : List X) → drop at all ≡ x ∷ ys → drop (suc at) all ≡ ys
      next [] zero x ys e = cc
      next [] (suc at) x ys e = cc
      next (a ∷ all) zero x ys e = cc
      next (a ∷ all) (suc at) x ys e = next all at x ys e

no-trees : {b rs : List Node} {at after : ℕ} → AreTreesOf b at rs [] after → (rs ≡ []) × (at ≡ after)
no-trees none = (refl, refl)

said : {b : List Node} {at after : ℕ} {r : Node} {n : Instance} → IsTreeOf b at r n after → Says b r n
said (node i s ts) = s

no-rows : {p : Option ℕ} {rows : List Row} → AreBelow p [] rows → rows ≡ []
no-rows no_rows = refl

module _ (e : Elab) (all : List Lineage) where
  rows-append : (k : ℕ) (xs : List Row) (ms : List Lineage) (ys : List Row) (ns : List Lineage) → AreRowsFrom e all k xs ms → AreRowsFrom e all (k + length xs) ys ns → AreRowsFrom e all k (xs ++ ys) (ms ++ ns)
  rows-append k [] [] ys ns h g = let z : k + 0 ≡ k = omega arith in subst (λ n. AreRowsFrom e all n ys ns) z g
  rows-append k [] (m ∷ ms) ys ns h g = absurd h
  rows-append k (x ∷ xs) [] ys ns h g = absurd h
  rows-append k (x ∷ xs) (m ∷ ms) ys ns h g = let s : k + length (x ∷ xs) ≡ suc k + length xs = omega arith in (h.0, rows-append (suc k) xs ms ys ns h.1 (subst (λ n. AreRowsFrom e all n ys ns) s g))

  same-length : (k : ℕ) (xs : List Row) (ms : List Lineage) → AreRowsFrom e all k xs ms → length xs ≡ length ms
  same-length k [] [] h = refl
  same-length k [] (m ∷ ms) h = absurd h
  same-length k (x ∷ xs) [] h = absurd h
  same-length k (x ∷ xs) (m ∷ ms) h = ap suc (same-length (suc k) xs ms h.1)

  first-row : {beside : List Node} {at : ℕ} {r : Node} {n : Instance} (x : Row) (parent : Option ℕ) (above : List Instance) → (out-Node r).id ≡ at → Says beside r n → IsNodeOf e beside r → x.node.now ≡ r → x.parent ≡ parent → IsParent all parent above
      → AreInside all (n ∷ above) (out-Node r).children.now (out-Node r).children.now (children n) → IsRow e all at x (record { node = n; ancestors = above })
  first-row {beside = b} {n = n} x parent above i s stands is p up within = record {
    number = ap (λ y. (out-Node y).id) is ∙ i;
    beside = b;
    stands = subst (IsNodeOf e b) (sym is) stands;
    says = subst (λ y. Says b y n) (sym is) s;
    parent = subst (λ q. IsParent all q above) (sym p) up;
    inside = subst (λ y. AreInside all (n ∷ above) (out-Node y).children.now (out-Node y).children.now (children n)) (sym is) within;
  }

  none-inside : (beside rs : List Node) (ns above : List Instance) → rs ≡ [] → ns ≡ [] → AreInside all above beside rs ns
  none-inside b [] [] above e f = tt
  none-inside b [] (n ∷ ns) above e f = cc
  none-inside b (r ∷ rs) ns above e f = cc

  mutual
    pub one : (k : ℕ) {beside : List Node} {at after : ℕ} {r : Node} {n : Instance} {rows : List Row} → Deep k n → IsTreeOf beside at r n after → (parent : Option ℕ) (above : List Instance) (rest : List Lineage) → IsNodeOf e beside r
        → IsBelow parent r rows → IsParent all parent above → drop at all ≡ lineages_below k above n ++ rest → AreRowsFrom e all at rows (lineages_below k above n) × (at + length rows ≡ after) × (slice_get all (out-Node r).id ≡ Some (record { node = n; ancestors = above }))
    one zero {at = at} {after = after} {n = n} d (node {r = r} i s ts) parent above rest stands (row {x = x} {rows = inner_rows} is p inner) up here =
        let none_left = no-trees (subst (λ ns. AreTreesOf (out-Node r).children.now (at + 1) (out-Node r).children.now ns after) (bottom n d) ts) in
        let no_inner : inner_rows ≡ [] = no-rows (subst (λ rs. AreBelow (Some (out-Node r).id) rs inner_rows) none_left.0 inner) in (
          subst (λ rows. AreRowsFrom e all at (x ∷ rows) (record { node = n; ancestors = above } ∷ [])) (sym no_inner) (first-row x parent above i s stands is p up (none-inside (out-Node r).children.now (out-Node r).children.now (children n) (n ∷ above) none_left.0 (bottom n d)), tt),
          (let l = ap length no_inner in let a = none_left.1 in omega (arith, l, a)),
          subst (λ q. slice_get all q ≡ Some (record { node = n; ancestors = above })) (sym i) (stands-at all at (record { node = n; ancestors = above }) rest here),
        )
    one (suc k) {at = at} {after = after} {n = n} d (node {r = r} i s ts) parent above rest stands (row {x = x} {rows = inner_rows} is p inner) up here =
        let self : Lineage = record { node = n; ancestors = above } in
        let tail = flat_map (lineages_below k (n ∷ above)) (children n) in
        let standing = stands-at all at self (tail ++ rest) here in
        let one_more : at + 1 ≡ suc at = omega arith in
        let next : drop (at + 1) all ≡ tail ++ rest = behind all (self ∷ []) (tail ++ rest) at here in
        let inside = many k (lower k n d) ts (Some (out-Node r).id) (n ∷ above) rest (λ c has. below stands has) inner (self, subst (λ q. slice_get all q ≡ Some self) (sym i) standing, refl) next in (
          (first-row x parent above i s stands is p up inside.2, subst (λ q. AreRowsFrom e all q inner_rows tail) one_more inside.0),
          (let l = inside.1 in omega (arith, l)),
          subst (λ q. slice_get all q ≡ Some self) (sym i) standing,
        )

    pub many : (k : ℕ) {beside : List Node} {at after : ℕ} {rs : List Node} {ns : List Instance} {rows : List Row} → AllByRecursion (Deep k) ns → AreTreesOf beside at rs ns after → (parent : Option ℕ) (above : List Instance) (rest : List Lineage)
        → ((r : Node) → Contains rs r → IsNodeOf e beside r) → AreBelow parent rs rows → IsParent all parent above → drop at all ≡ flat_map (lineages_below k above) ns ++ rest
        → AreRowsFrom e all at rows (flat_map (lineages_below k above) ns) × (at + length rows ≡ after) × AreInside all above beside rs ns
    many k d none parent above rest stands no_rows up here = (tt, omega arith, tt)
    many k {at = at} {after = after} d (more {r = r} {n = n} {ns = ns} {next = next} t ts) parent above rest stands (more_rows {rs = rs} {xs = xs} {ys = ys} b bs) up here =
        let tail = flat_map (lineages_below k above) ns in
        let head = one k d.0 t parent above (tail ++ rest) (stands r (0, omega arith, refl)) b up (here ∙ append_assoc (lineages_below k above n) tail rest) in
        let size = same-length at xs (lineages_below k above n) head.0 in
        let at_next : at + length (lineages_below k above n) ≡ next = (let q = head.1 in omega (arith, q, size)) in
        let left : drop next all ≡ tail ++ rest = subst (λ q. drop q all ≡ tail ++ rest) at_next (behind all (lineages_below k above n) (tail ++ rest) at (here ∙ append_assoc (lineages_below k above n) tail rest)) in
        let others = many k d.1 ts parent above rest (λ q c. stands q (let l = c.1 in (suc c.0, omega (arith, l), c.2))) bs up left in (
          rows-append at xs (lineages_below k above n) ys tail head.0 (subst (λ q. AreRowsFrom e all q ys tail) (sym head.1) others.0),
          (let a = head.1 in let c = others.1 in let s = length-append xs ys in omega (arith, a, c, s)),
          (record { here = head.2; says = said t }, others.2),
        )

-- The signals at the root have nothing below them.

no_levels : (s : Source) → AllByRecursion (Deep 0) (signals s)
no_levels s = each-imp IsAtRoot (Deep 0) (signals s) (λ n h. of n h) (signals-given s)
  where
    of : (n : Instance) → IsAtRoot n → Deep 0 n
    of n h =
        let path : n.path ≡ of_signal (record { name = h.by.use_.name.text.now; index = h.given_.index }) = h.given_.path_is ∙ ap (λ p. path_in p (record { name = h.by.use_.name.text.now; index = h.given_.index })) h.in_body in
        let kind : is_signal (kind_of n) ≡ true = subst (λ p. may_hold p (kind_of n) ≡ true) h.in_body (held h.by n h.given_) in
        subst (λ p. At p 0 n) (sym path) kind

alone-flat : (ns : List Instance) → map alone ns ≡ flat_map (lineages_below 0 []) ns
alone-flat [] = refl
alone-flat (n ∷ ns) = ap (λ l. alone n ∷ l) (alone-flat ns)

only : (r x : Node) → Contains (r ∷ []) x → r ≡ x
only r x (zero, l, e) = e
only r x (suc k, l, e) = absurd (omega (arith, l))

-- all rows
pub whole : (wanted : Option (List ℕ)) (e : Elab) (ours others : List Row) → IsElab wanted e.source.now e → AreBelow None e.signals.now ours → IsBelow None e.top.now others → AreRowsFrom e (lineages wanted e.source.now) 0 (ours ++ others) (lineages wanted e.source.now)
unfolding lineages
whole wanted e ours others is a b =
    let s = e.source.now in
    let first = flat_map (lineages_below 0 []) (signals s) in
    let second = flat_map (lineages_below most_names []) (top_of wanted s) in
    let all = map alone (signals s) ++ second in
    let split : all ≡ first ++ second = ap (λ l. l ++ second) (alone-flat (signals s)) in
    let one = many e all 0 (no_levels s) is.signals_ None [] second (λ r c. signal c) a refl split in
    let size = same-length e all 0 ours first one.0 in
    let left = behind all first second 0 split in
    let at : 0 + length first ≡ is.between = (let q = one.1 in omega (arith, q, size)) in
    let here : drop is.between all ≡ second ++ [] = subst (λ n. drop n all ≡ second) at left ∙ sym (append-nil second) in
    let two = many e all most_names (tops_deep wanted s) is.top None [] [] (λ r c. subst (IsNodeOf e []) (only e.top.now r c) top) (more_rows b no_rows) refl here in
    let rest : AreRowsFrom e all is.between others second = subst (λ l. AreRowsFrom e all is.between l second) (append-nil others) two.0 in
    let joined = rows-append e all 0 ours first others second one.0 (subst (λ n. AreRowsFrom e all n others second) (sym one.1) rest) in
    subst (λ l. AreRowsFrom e all 0 (ours ++ others) l) (sym split) joined
