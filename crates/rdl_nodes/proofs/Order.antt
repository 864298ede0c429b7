-- The nodes that are listed with their ancestors: each once, behind the one that it stands in, and not too deep.
use Rattle.std.proofs.Common.{◌≡◌, ◌∙◌, ℕ, zero, suc, ◌+◌, ◌<◌, ◌⊎◌, inl, inr, true, List, [], ◌∷◌, ◌++◌, length, map, flat_map, take, slice_get, Option, Some, refl, sym, ap, subst, arith, append_assoc}
use Rattle.std.specs.List.{AllByRecursion}
use Rattle.rdl_tree.specs.declared.item.Source.{Source}
use Rattle.rdl_values.specs.Bodies.{Path, Step, below_top, of_signal}
use Rattle.rdl_values.specs.NoNode.{is_signal, may_hold}
use Rattle.rdl_values.specs.Paths.{path_in}
use Rattle.rdl_values.specs.Instances.{Instance, children, kind_of, signals, top_of, nodes, most_names}
use Rattle.rdl_values.specs.Lineages.{Lineage, alone, lineages, lineages_below}
use Rattle.rdl_values.proofs.Given.{IsAtRoot, held, signals-given, tops-given}
use Rattle.plain_lemmas.proofs.Lists.{each-append}
use Rattle.rdl_values.proofs.Numbered.{At, Deep, bottom, lower}
use Rattle.rdl_nodes.proofs.Lineages.{all_nodes}
use Rattle.rdl_nodes.proofs.Paths.{paths_differ}
use Rattle.rdl_nodes.proofs.Members.{In, in-left, in-right, in-place, get-map, get-within, get-read, each-in, place-in}

-- Each once.

pub once : (wanted : Option (List ℕ)) (s : Source) (i j : ℕ) (l : Lineage) → slice_get (lineages wanted s) i ≡ Some l → slice_get (lineages wanted s) j ≡ Some l → i ≡ j
once wanted s i j l e f = by (split i j)
  where
    node_at : (k : ℕ) → slice_get (lineages wanted s) k ≡ Some l → slice_get (nodes wanted s) k ≡ Some l.node
    node_at k h = subst (λ ns. slice_get ns k ≡ Some l.node) (all_nodes wanted s) (get-map (λ n. n.node) (lineages wanted s) k l h)

    not-before : (a b : ℕ) → slice_get (nodes wanted s) a ≡ Some l.node → slice_get (nodes wanted s) b ≡ Some l.node → a < b → ⊥
    not-before a b p q less =
        let differ = paths_differ wanted s a b l.node less (get-within (nodes wanted s) b l.node q) in
        let left = get-read (nodes wanted s) a l.node l.node p in
        let right = get-read (nodes wanted s) b l.node l.node q in
        differ (ap (λ n. n.path) (left ∙ sym right))

    split : (a b : ℕ) → (a < b) ⊎ (b < a) ⊎ (a ≡ b)
    split a b = grind arith

    by : (i < j) ⊎ (j < i) ⊎ (i ≡ j) → i ≡ j
    by (inl less) = absurd (not-before i j (node_at i e) (node_at j f) less)
    by (inr (inl more)) = absurd (not-before j i (node_at j f) (node_at i e) more)
    by (inr (inr same)) = same

-- Each behind the one that it stands in.

abbrev IsParented : List Lineage → Instance → List Instance → Type 0
IsParented before c [] = Unit {0}
IsParented before c (a ∷ up) = In before (record { node = a; ancestors = up }) × In (children a) c

abbrev InOrder : List Lineage → List Lineage → Type 0
InOrder before [] = Unit {0}
InOrder before (x ∷ xs) = IsParented before x.node x.ancestors × InOrder (before ++ (x ∷ [])) xs

order-append : (before xs ys : List Lineage) → InOrder before xs → InOrder (before ++ xs) ys → InOrder before (xs ++ ys)
order-append before [] ys h g = subst (λ b. InOrder b ys) (none before) g
  where
    none : (zs : List Lineage) → zs ++ [] ≡ zs
    none [] = refl
    none (z ∷ zs) = ap (λ l. z ∷ l) (none zs)
order-append before (x ∷ xs) ys h g = (h.0, order-append (before ++ (x ∷ [])) xs ys h.1 (subst (λ b. InOrder b ys) (sym (append_assoc before (x ∷ []) xs)) g))

parented-more : (before more : List Lineage) (c : Instance) (up : List Instance) → IsParented before c up → IsParented (before ++ more) c up
parented-more before more c [] h = tt
parented-more before more c (a ∷ up) h = (in-left before more (record { node = a; ancestors = up }) h.0, h.1)

many-order : (k : ℕ) (n : Instance) (up : List Instance) (each : (c : Instance) (b : List Lineage) → IsParented b c (n ∷ up) → InOrder b (lineages_below k (n ∷ up) c)) (cs : List Instance) (before : List Lineage)
    → In before (record { node = n; ancestors = up }) → ((c : Instance) → In cs c → In (children n) c) → InOrder before (flat_map (lineages_below k (n ∷ up)) cs)
many-order k n up each [] before self among = tt
many-order k n up each (c ∷ cs) before self among =
    order-append before (lineages_below k (n ∷ up) c) (flat_map (lineages_below k (n ∷ up)) cs) (each c before (self, among c (inl refl)))
    (many-order k n up each cs (before ++ lineages_below k (n ∷ up) c) (in-left before (lineages_below k (n ∷ up) c) (record { node = n; ancestors = up }) self) (λ d i. among d (inr i)))

below-order : (k : ℕ) (up : List Instance) (n : Instance) (before : List Lineage) → IsParented before n up → InOrder before (lineages_below k up n)
below-order zero up n before h = (h, tt)
below-order (suc k) up n before h =
    let self : Lineage = record { node = n; ancestors = up } in
    (h, many-order k n up (λ c b p. below-order k (n ∷ up) c b p) (children n) (before ++ (self ∷ [])) (in-right before (self ∷ []) self (inl refl)) (λ c i. i))

alone-order : (ns : List Instance) (before : List Lineage) → InOrder before (map alone ns)
alone-order [] before = tt
alone-order (n ∷ ns) before = (tt, alone-order ns (before ++ (alone n ∷ [])))

tops-order : (ns : List Instance) (before : List Lineage) → InOrder before (flat_map (lineages_below most_names []) ns)
tops-order [] before = tt
tops-order (n ∷ ns) before = order-append before (lineages_below most_names [] n) (flat_map (lineages_below most_names []) ns) (below-order most_names [] n before tt) (tops-order ns (before ++ lineages_below most_names [] n))

all-order : (wanted : Option (List ℕ)) (s : Source) → InOrder [] (lineages wanted s)
unfolding lineages
all-order wanted s = order-append [] (map alone (signals s)) (flat_map (lineages_below most_names []) (top_of wanted s)) (alone-order (signals s) []) (tops-order (top_of wanted s) (map alone (signals s)))

order-at : (before xs : List Lineage) → InOrder before xs → (j : ℕ) (l : Lineage) → slice_get xs j ≡ Some l → IsParented (before ++ take j xs) l.node l.ancestors
order-at before [] h j l e = cc e
order-at before (x ∷ xs) h zero l e = let s : x ≡ l = cc e in parented-more before [] l.node l.ancestors (subst (λ y. IsParented before y.node y.ancestors) s h.0)
order-at before (x ∷ xs) h (suc j) l e = subst (λ b. IsParented b l.node l.ancestors) (append_assoc before (x ∷ []) (take j xs)) (order-at (before ++ (x ∷ [])) xs h.1 j l e)

from-take : (xs : List Lineage) (j i : ℕ) (l : Lineage) → slice_get (take j xs) i ≡ Some l → (i < j) × (slice_get xs i ≡ Some l)
from-take xs zero i l e = cc e
from-take [] (suc j) i l e = cc e
from-take (x ∷ xs) (suc j) zero l e = (omega arith, e)
from-take (x ∷ xs) (suc j) (suc i) l e = let h = from-take xs j i l e in let m = h.0 in (omega (arith, m), h.1)

pub behind : (wanted : Option (List ℕ)) (s : Source) (j : ℕ) (l : Lineage) (a : Instance) (up : List Instance) → slice_get (lineages wanted s) j ≡ Some l → l.ancestors ≡ a ∷ up
    → (i : ℕ) × (i < j) × (slice_get (lineages wanted s) i ≡ Some (record { node = a; ancestors = up })) × In (children a) l.node
behind wanted s j l a up e f =
    let p : IsParented (take j (lineages wanted s)) l.node (a ∷ up) = subst (IsParented (take j (lineages wanted s)) l.node) f (order-at [] (lineages wanted s) (all-order wanted s) j l e) in
    let q = in-place (take j (lineages wanted s)) (record { node = a; ancestors = up }) p.0 in
    let r = from-take (lineages wanted s) j q.0 (record { node = a; ancestors = up }) q.2 in
    (q.0, r.0, r.1, p.1)

-- None too deep: so many levels are left below a node.

abbrev pub IsShallow : Lineage → Type 0
IsShallow l = (k : ℕ) × (length l.ancestors + k ≡ 31) × Deep k l.node

many-shallow : (k : ℕ) (n : Instance) (up : List Instance) → ((c : Instance) → Deep k c → AllByRecursion IsShallow (lineages_below (suc k) (n ∷ up) c)) → (cs : List Instance) → AllByRecursion (Deep k) cs → AllByRecursion IsShallow (flat_map (lineages_below (suc k) (n ∷ up)) cs)
many-shallow k n up each [] d = tt
many-shallow k n up each (c ∷ cs) d = each-append IsShallow (lineages_below (suc k) (n ∷ up) c) (flat_map (lineages_below (suc k) (n ∷ up)) cs) (each c d.0) (many-shallow k n up each cs d.1)

below-shallow : (k : ℕ) (up : List Instance) (n : Instance) → length up + k ≡ 31 → Deep k n → AllByRecursion IsShallow (lineages_below (suc k) up n)
below-shallow zero up n e d = ((0, e, d), subst (λ cs. AllByRecursion IsShallow (flat_map (lineages_below 0 (n ∷ up)) cs)) (sym (bottom n d)) tt)
below-shallow (suc k) up n e d = ((suc k, e, d), many-shallow k n up (λ c q. below-shallow k (n ∷ up) c (omega (arith, e)) q) (children n) (lower k n d))

top-shallow : (n : Instance) → n.path ≡ below_top [] → AllByRecursion IsShallow (lineages_below most_names [] n)
top-shallow n e = let deep : At (below_top []) 31 n = omega arith in below-shallow 31 [] n refl (subst (λ p. At p 31 n) (sym e) deep)

signal-deep : (n : Instance) → IsAtRoot n → IsShallow (alone n)
signal-deep n h =
    let t : Step = record { name = h.by.use_.name.text.now; index = h.given_.index } in
    let path : n.path ≡ of_signal t = h.given_.path_is ∙ ap (λ p. path_in p t) h.in_body in
    let kind : is_signal (kind_of n) ≡ true = subst (λ p. may_hold p (kind_of n) ≡ true) h.in_body (held h.by n h.given_) in
    (31, refl, subst (λ p. At p 31 n) (sym path) kind)

tops-shallow : (ns : List Instance) → AllByRecursion (λ n. n.path ≡ below_top []) ns → AllByRecursion IsShallow (flat_map (lineages_below most_names []) ns)
tops-shallow [] h = tt
tops-shallow (n ∷ ns) h = each-append IsShallow (lineages_below most_names [] n) (flat_map (lineages_below most_names []) ns) (top-shallow n h.0) (tops-shallow ns h.1)

signals-shallow : (ns : List Instance) → AllByRecursion IsAtRoot ns → AllByRecursion IsShallow (map alone ns)
signals-shallow [] h = tt
signals-shallow (n ∷ ns) h = (signal-deep n h.0, signals-shallow ns h.1)

all-shallow : (wanted : Option (List ℕ)) (s : Source) → AllByRecursion IsShallow (lineages wanted s)
unfolding lineages
all-shallow wanted s = each-append IsShallow (map alone (signals s)) (flat_map (lineages_below most_names []) (top_of wanted s)) (signals-shallow (signals s) (signals-given s)) (tops-shallow (top_of wanted s) (tops-given wanted s))

pub shallow-at : (wanted : Option (List ℕ)) (s : Source) (j : ℕ) (l : Lineage) → slice_get (lineages wanted s) j ≡ Some l → IsShallow l
shallow-at wanted s j l e = each-in IsShallow (lineages wanted s) l (all-shallow wanted s) (place-in (lineages wanted s) j l e)

pub few : (wanted : Option (List ℕ)) (s : Source) (j : ℕ) (l : Lineage) → slice_get (lineages wanted s) j ≡ Some l → length l.ancestors < 32
few wanted s j l e = let h = shallow-at wanted s j l e in let m = h.1 in omega (arith, m)

-- a node stands under the top, or has nothing in its body
pub stands-under : (l : Lineage) → IsShallow l → ((ss : List Step) × (l.node.path ≡ below_top ss)) ⊎ (children l.node ≡ [])
stands-under l h = by l.node.path refl h.2
  where
    by : (p : Path) → l.node.path ≡ p → At p h.0 l.node → ((ss : List Step) × (l.node.path ≡ below_top ss)) ⊎ (children l.node ≡ [])
    by (below_top ss) e d = inl (ss, e)
    by (of_signal t) e d = inr (bottom l.node (subst (λ p. At p 0 l.node) (sym e) d))
