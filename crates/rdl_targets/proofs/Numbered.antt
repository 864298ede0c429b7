-- Nodes by their numbers, and the rows that say what they are.
use Rattle.std.proofs.Common.{◌≡◌, ◌∙◌, ℕ, zero, suc, ◌+◌, ◌<◌, ◌≤◌, Bool, List, [], ◌∷◌, ◌++◌, length, get_or, take, map, filter, flat_map, add-one, append-nil, None, Some, option_map, slice_get, refl, sym, ap, subst, arith}
use Rattle.std.proofs.lemmas.Grind.{flat_map-append}
use Rattle.std.proofs.lemmas.List.{take_all}
use Rattle.std.proofs.lemmas.List.Elements.{filter-append}
use Rattle.rdl_tree.specs.declared.node.Elab.{Elab}
use Rattle.rdl_tree.specs.declared.node.Node.{Node, out-Node}
use Rattle.rdl_values.specs.Elaborated.{Says}
use Rattle.rdl_values.specs.Instances.{Instance, children}
use Rattle.rdl_values.specs.Lineages.{Lineage, lineages_of}
use Rattle.rdl_nodes.specs.Rows.{AreInside, AreRows, AreRowsFrom, IsRow}
use Rattle.rdl_nodes.specs.declared.table.Row.{Row}
use Rattle.rdl_targets.specs.At.{AreAt, IsAt, id_of}

-- the row of a number, and what it is of
pub record IsRowOf (e : Elab) (all : List Lineage) (k : ℕ) (x : Row) (n : Instance) : Type 0 where
  pub l : Lineage
  pub is : l.node ≡ n
  pub row : IsRow e all k x l

find-row : (e : Elab) (all : List Lineage) (at : ℕ) (xs : List Row) (ls : List Lineage) (k : ℕ) (x : Row) (n : Instance) → AreRowsFrom e all at xs ls → slice_get xs k ≡ Some x → option_map (λ l. l.node) (slice_get ls k) ≡ Some n → IsRowOf e all (at + k) x n
find-row e all at [] ls k x n h is there = cc
find-row e all at (y ∷ xs) [] k x n h is there = absurd h
find-row e all at (y ∷ xs) (l ∷ ls) zero x n h is there =
    let same : y ≡ x = cc in
    let here : at ≡ at + 0 = omega arith in
    record { l = l; is = (let P : l.node ≡ n = cc in P); row = subst (λ z. IsRow e all (at + 0) z l) same (subst (λ m. IsRow e all m y l) here h.0) }
find-row e all at (y ∷ xs) (l ∷ ls) (suc k) x n h is there =
    let next : suc at + k ≡ at + suc k = omega arith in
    subst (λ m. IsRowOf e all m x n) next (find-row e all (suc at) xs ls k x n h.1 is there)

pub row_at : (e : Elab) (rows : List Row) (k : ℕ) (x : Row) (n : Instance) → AreRows e rows → slice_get rows k ≡ Some x → IsAt (lineages_of e) k n → IsRowOf e (lineages_of e) k x n
row_at e rows k x n h is there =
    let here : 0 + k ≡ k = omega arith in
    subst (λ m. IsRowOf e (lineages_of e) m x n) here (find-row e (lineages_of e) 0 rows (lineages_of e) k x n h is there)

-- a number without a row is none of a node
no-row : (e : Elab) (all : List Lineage) (at : ℕ) (xs : List Row) (ls : List Lineage) (k : ℕ) (n : Instance) → AreRowsFrom e all at xs ls → slice_get xs k ≡ None → option_map (λ l. l.node) (slice_get ls k) ≡ Some n → ⊥
no-row e all at [] [] k n h is there = cc
no-row e all at [] (l ∷ ls) k n h is there = h
no-row e all at (y ∷ xs) [] k n h is there = h
no-row e all at (y ∷ xs) (l ∷ ls) zero n h is there = cc
no-row e all at (y ∷ xs) (l ∷ ls) (suc k) n h is there = no-row e all (suc at) xs ls k n h.1 is there

pub no_row : (e : Elab) (rows : List Row) (k : ℕ) (n : Instance) → AreRows e rows → slice_get rows k ≡ None → IsAt (lineages_of e) k n → ⊥
no_row e rows k n h is there = no-row e (lineages_of e) 0 rows (lineages_of e) k n h is there

-- the nodes in the body of one stand at their numbers
inside-at : (all : List Lineage) (above : List Instance) (beside rs : List Node) (ns : List Instance) → AreInside all above beside rs ns → AreAt all (map id_of rs) ns
inside-at all above beside [] [] h = tt
inside-at all above beside (r ∷ rs) (n ∷ ns) h = (ap (option_map (λ (l : Lineage). l.node)) h.0.here, inside-at all above beside rs ns h.1)
inside-at all above beside [] (n ∷ ns) h = h
inside-at all above beside (r ∷ rs) [] h = h

pub row_inside : (e : Elab) (rows : List Row) (k : ℕ) (x : Row) (n : Instance) → AreRows e rows → slice_get rows k ≡ Some x → IsAt (lineages_of e) k n → AreAt (lineages_of e) (map id_of (out-Node x.node.now).children.now) (children n)
row_inside e rows k x n h is there =
    let r = row_at e rows k x n h is there in
    subst (λ m. AreAt (lineages_of e) (map id_of (out-Node x.node.now).children.now) (children m)) r.is (inside-at (lineages_of e) _ _ _ _ r.row.inside)

pub row_says : (e : Elab) (rows : List Row) (k : ℕ) (x : Row) (n : Instance) → AreRows e rows → slice_get rows k ≡ Some x → IsAt (lineages_of e) k n → (beside : List Node) × Says beside x.node.now n
row_says e rows k x n h is there =
    let r = row_at e rows k x n h is there in
    (r.row.beside, subst (Says r.row.beside x.node.now) r.is r.row.says)

-- Numbers one by one.

pub at-append : (all : List Lineage) (ks js : List ℕ) (ns ms : List Instance) → AreAt all ks ns → AreAt all js ms → AreAt all (ks ++ js) (ns ++ ms)
at-append all [] js [] ms h k = k
at-append all (i ∷ ks) js (n ∷ ns) ms h k = (h.0, at-append all ks js ns ms h.1 k)
at-append all [] js (n ∷ ns) ms h k = absurd h
at-append all (i ∷ ks) js [] ms h k = absurd h

pub record IsNth (all : List Lineage) (k : ℕ) (ns : List Instance) (i : ℕ) : Type 0 where
  pub n : Instance
  pub is : IsAt all k n
  pub more : take (suc i) ns ≡ take i ns ++ (n ∷ [])

pub nth : (all : List Lineage) (ks : List ℕ) (ns : List Instance) (i d : ℕ) → i < length ks → AreAt all ks ns → IsNth all (get_or ks i d) ns i
nth all [] ns i d l h = absurd (omega (arith, l))
nth all (k ∷ ks) [] i d l h = absurd h
nth all (k ∷ ks) (n ∷ ns) zero d l h = record { n = n; is = h.0; more = refl }
nth all (k ∷ ks) (n ∷ ns) (suc i) d l h =
    let next = nth all ks ns i d (omega (arith, l)) h.1 in
    record { n = next.n; is = next.is; more = ap (λ xs. n ∷ xs) next.more }

pub all-at : (all : List Lineage) (ks : List ℕ) (ns : List Instance) (i : ℕ) → length ks ≤ i → AreAt all ks ns → take i ns ≡ ns
all-at all [] [] i l h = take_all i [] l
all-at all [] (n ∷ ns) i l h = absurd h
all-at all (k ∷ ks) [] i l h = absurd h
all-at all (k ∷ ks) (n ∷ ns) zero l h = absurd (omega (arith, l))
all-at all (k ∷ ks) (n ∷ ns) (suc i) l h = ap (λ xs. n ∷ xs) (all-at all ks ns i (omega (arith, l)) h.1)

-- those that each of some nodes has, put one behind the other

pub each_step : (all : List Lineage) (f : Instance → List Instance) (ks : List ℕ) (ns : List Instance) (i d : ℕ) (old more new : List ℕ) → i < length ks → AreAt all ks ns → new ≡ old ++ more → ((n : Instance) → IsAt all (get_or ks i d) n → AreAt all more (f n))
    → AreAt all old (flat_map f (take i ns)) → AreAt all new (flat_map f (take (i + 1) ns))
each_step all f ks ns i d old more new l h e adds so_far =
    let one = nth all ks ns i d l h in
    let spread : flat_map f (take (i + 1) ns) ≡ flat_map f (take i ns) ++ f one.n = ap (λ m. flat_map f (take m ns)) (add-one i) ∙ ap (flat_map f) one.more ∙ flat_map-append f (take i ns) (one.n ∷ []) ∙ ap (λ ys. flat_map f (take i ns) ++ ys) (append-nil (f one.n)) in
    subst (λ ys. AreAt all new ys) (sym spread) (subst (λ xs. AreAt all xs (flat_map f (take i ns) ++ f one.n)) (sym e) (at-append all old more (flat_map f (take i ns)) (f one.n) so_far (adds one.n one.is)))

pub each_all : (all : List Lineage) (f : Instance → List Instance) (ks : List ℕ) (ns : List Instance) (i : ℕ) (list : List ℕ) → length ks ≤ i → AreAt all ks ns → AreAt all list (flat_map f (take i ns)) → AreAt all list (flat_map f ns)
each_all all f ks ns i list l h so_far = subst (λ ys. AreAt all list (flat_map f ys)) (all-at all ks ns i l h) so_far

-- of each those that pass a test
pub filter-each : (p : Instance → Bool) (f : Instance → List Instance) (ns : List Instance) → flat_map (λ n. filter p (f n)) ns ≡ filter p (flat_map f ns)
filter-each p f [] = refl
filter-each p f (n ∷ ns) = ap (λ xs. filter p (f n) ++ xs) (filter-each p f ns) ∙ sym (filter-append p (f n) (flat_map f ns))
