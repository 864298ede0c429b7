-- What is visible in the bodies of nodes.
use Rattle.std.proofs.Common.{◌≡◌, ◌∙◌, ℕ, zero, suc, List, [], ◌∷◌, ◌++◌, length, map, None, Some, Option, slice_get, slice_index_or, refl, sym, ap, subst}
use Rattle.std.specs.Borrow.{Bor}
use Rattle.rdl_tree.specs.declared.node.Elab.{Elab}
use Rattle.rdl_values.specs.Bodies as values
use Rattle.rdl_values.specs.Bodies.{around, scope_at}
use Rattle.rdl_values.specs.Chained.{chained}
use Rattle.rdl_values.specs.Elaborated.{nodes_of}
use Rattle.rdl_values.specs.Instances.{Instance, body, root}
use Rattle.rdl_failures.specs.Shown.{IsAlike}
use Rattle.rdl_layers.specs.NodeNames.{AreNamesOf, around_if, body_of, numbers_of, numbers_or_none, visible_at}
use Rattle.rdl_layers.specs.declared.names.NodeNames.{NodeNames}
use Rattle.rdl_bodies.specs.declared.bodies.Bodies.{Bodies}
use Rattle.rdl_bodies.specs.declared.bodies.Body.{Body}
use Rattle.rdl_open_bodies.specs.Spots.{AreSpots, IsOpenAt, IsOpenTree, IsSpot}
use Rattle.rdl_open_bodies.specs.declared.spots.OpenTree.{OpenTree}
use Rattle.rdl_open_bodies.specs.declared.spots.Spot.{Spot}
use Rattle.rdl_open_bodies.proofs.Staying.{open_alike}
use Rattle.rdl_settle.specs.Listed.{AreNumbersOf}

-- The lists of numbers are those of the first bodies, one by one.
abbrev pub AreFirst : List Body → List (Bor (List ℕ)) → Type 0
AreFirst xs [] = Unit {0}
AreFirst [] (r ∷ rs) = ⊥
AreFirst (x ∷ xs) (r ∷ rs) = (r.now ≡ x.numbers.now) × AreFirst xs rs

pub first_more : (xs : List Body) (rs : List (Bor (List ℕ))) (x : Body) (r : Bor (List ℕ)) → AreFirst xs rs → slice_get xs (length rs) ≡ Some x → r.now ≡ x.numbers.now → AreFirst xs (rs ++ (r ∷ []))
first_more [] [] x r h at same = cc
first_more (y ∷ xs) [] x r h at same = let q : y ≡ x = cc in (subst (λ z. r.now ≡ z.numbers.now) (sym q) same, tt)
first_more [] (s ∷ rs) x r h at same = absurd h
first_more (y ∷ xs) (s ∷ rs) x r h at same = (h.0, first_more xs rs x r h.1 at same)

pub first_all : (xs : List Body) (rs : List (Bor (List ℕ))) → AreFirst xs rs → slice_get xs (length rs) ≡ None → (k : ℕ) (x : Body) → slice_get xs k ≡ Some x → numbers_or_none (slice_get rs k) ≡ x.numbers.now
first_all [] [] h past k x at = cc
first_all (y ∷ xs) [] h past k x at = cc
first_all [] (s ∷ rs) h past k x at = absurd h
first_all (y ∷ xs) (s ∷ rs) h past zero x at = let q : y ≡ x = cc in h.0 ∙ ap (λ z. z.numbers.now) q
first_all (y ∷ xs) (s ∷ rs) h past (suc k) x at = first_all xs rs h.1 past k x at

-- The body of each node is that of its place.
spot-at : (e : Elab) (t : Bodies) (os : List Spot) (ns : List Instance) (k : ℕ) (n : Instance) → AreSpots e t os ns → slice_get ns k ≡ Some n → IsOpenAt t (slice_index_or (map (λ o. o.body) os) k 0) (body n)
spot-at e t [] [] k n h at = cc
spot-at e t [] (m ∷ ns) k n h at = absurd h
spot-at e t (o ∷ os) [] k n h at = absurd h
spot-at e t (o ∷ os) (m ∷ ns) zero n h at = let same : m ≡ n = cc in subst (λ i. IsOpenAt t o.body (body i)) same h.0.own
spot-at e t (o ∷ os) (m ∷ ns) (suc k) n h at = spot-at e t os ns k n h.1 at

spot-past : (e : Elab) (t : Bodies) (os : List Spot) (ns : List Instance) (k : ℕ) → AreSpots e t os ns → slice_get ns k ≡ None → slice_index_or (map (λ o. o.body) os) k 0 ≡ 0
spot-past e t [] [] k h at = refl
spot-past e t [] (m ∷ ns) k h at = absurd h
spot-past e t (o ∷ os) [] k h at = absurd h
spot-past e t (o ∷ os) (m ∷ ns) zero h at = cc
spot-past e t (o ∷ os) (m ∷ ns) (suc k) h at = spot-past e t os ns k h.1 at

-- What is visible in an open body.
sees : (t : Bodies) (x : NodeNames) (b : ℕ) (of : values.Body) → x.tables.items ≡ t.tables.items → AreNumbersOf t x.numbers.items → IsOpenAt t b of → IsAlike (chained x.tables.items (numbers_of x b)) (around (scope_at of of.items))
sees t x b of tables numbers h =
    subst (λ ts. IsAlike (chained ts (numbers_of x b)) (around (scope_at of of.items))) (sym tables)
    (subst (λ ks. IsAlike (chained t.tables.items ks) (around (scope_at of of.items))) (sym (numbers b h.open_ h.here)) (open_alike t h.open_ of h.is))

pub named : (e : Elab) (tree : OpenTree) (x : NodeNames) → x.tables.items ≡ tree.bodies.tables.items → AreNumbersOf tree.bodies x.numbers.items → x.bodies.items ≡ map (λ o. o.body) tree.spots.items → IsOpenTree e tree → AreNamesOf e x
named e tree x tables numbers bodies h k = by (slice_get (nodes_of e) k) refl
  where
    place : body_of x k ≡ slice_index_or (map (λ o. o.body) tree.spots.items) k 0
    place = ap (λ bs. slice_index_or bs k 0) bodies

    by : (o : Option Instance) → slice_get (nodes_of e) k ≡ o → IsAlike (visible_at x k) (around_if e o)
    by (Some n) at = sees tree.bodies x (body_of x k) (body n) tables numbers (subst (λ b. IsOpenAt tree.bodies b (body n)) (sym place) (spot-at e tree.bodies tree.spots.items (nodes_of e) k n h.nodes_ at))
    by None at = sees tree.bodies x (body_of x k) (root e.source.now) tables numbers (subst (λ b. IsOpenAt tree.bodies b (root e.source.now)) (sym (place ∙ spot-past e tree.bodies tree.spots.items (nodes_of e) k h.nodes_ at)) h.root_)
