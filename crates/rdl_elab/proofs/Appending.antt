-- Trees behind others, and parts of what is whole.
use Rattle.std.proofs.Common.{◌≡◌, ◌∙◌, ℕ, zero, suc, ◌≤◌, ◌<◌, Bool, true, false, nat_lt, List, [], ◌∷◌, ◌++◌, length, flat_map, map, refl, ap, subst, arith}
use Rattle.std.specs.List.{AllByRecursion}
use Rattle.std.proofs.lemmas.Bool.{ltb-false, ltb-true}
use Rattle.std.proofs.lemmas.Grind.{flat_map-append}
use Rattle.std.proofs.lemmas.List.{length-append, map-append}
use Rattle.plain_lemmas.proofs.Lists.{each-left, each-right}
use Rattle.rdl_tree.specs.declared.node.Node.{Node}
use Rattle.rdl_values.specs.Elaborated.{AreTreesOf, more, none}
use Rattle.rdl_values.specs.Instances.{Instance, given_by, most_nodes, upto}
use Rattle.rdl_values.specs.Uses.{Seen}
use Rattle.rdl_elab.specs.Grown.{AreAllWhole, IsWhole}

pub trees_append : {b rs qs : List Node} {ns ms : List Instance} {at mid after : ℕ} → AreTreesOf b at rs ns mid → AreTreesOf b mid qs ms after → AreTreesOf b at (rs ++ qs) (ns ++ ms) after
trees_append none h = h
trees_append (more t ts) h = more t (trees_append ts h)

pub trees_as : (b c rs qs : List Node) (ns ms : List Instance) (at after : ℕ) → b ≡ c → rs ≡ qs → ns ≡ ms → AreTreesOf b at rs ns after → AreTreesOf c at qs ms after
trees_as b c rs qs ns ms at after e f g h = subst (λ x. AreTreesOf x at qs ms after) e (subst (λ x. AreTreesOf b at x ms after) f (subst (λ x. AreTreesOf b at rs x after) g h))

-- one use of many
pub whole_part : (levels : ℕ) (before : List Seen) (s : Seen) (rest : List Seen) → AreAllWhole levels (before ++ (s ∷ rest)) → (length (given_by s) ≤ most_nodes) × AllByRecursion (IsWhole levels) (given_by s)
whole_part levels before s rest h =
    let split = flat_map-append given_by before (s ∷ rest) in
    let one = length-append (flat_map given_by before) (given_by s ++ flat_map given_by rest) in
    let two = length-append (given_by s) (flat_map given_by rest) in
    let all = ap length split in
    let few = h.1 in
    (omega (arith, one, two, all, few), each-left (IsWhole levels) (given_by s) (flat_map given_by rest) (each-right (IsWhole levels) (flat_map given_by before) (given_by s ++ flat_map given_by rest) (subst (AllByRecursion (IsWhole levels)) split h.2)))

-- The numbers below one.

pub upto_length : {X : Type 0} (f : ℕ → X) (n : ℕ) → length (map f (upto n)) ≡ n
upto_length f zero = refl
upto_length f (suc n) =
    let rec = upto_length f n in
    let both = ap length (map-append f (upto n) (n ∷ [])) ∙ length-append (map f (upto n)) (f n ∷ []) in
    omega (arith, rec, both)

pub upto_each : {X : Type 0} (P : X → Type 0) (f : ℕ → X) (n k : ℕ) → k < n → AllByRecursion P (map f (upto n)) → P (f k)
upto_each P f zero k l h = absurd (omega (arith, l))
upto_each P f (suc n) k l h = go (nat_lt k n) refl (λ m q. upto_each P f n k m q)
  where
    all : AllByRecursion P (map f (upto n) ++ (f n ∷ []))
    all = subst (AllByRecursion P) (map-append f (upto n) (n ∷ [])) h

    go : (b : Bool) → nat_lt k n ≡ b → (k < n → AllByRecursion P (map f (upto n)) → P (f k)) → P (f k)
    go true e ih = ih (ltb-true k n e) (each-left P (map f (upto n)) (f n ∷ []) all)
    go false e ih = let m = ltb-false k n e in let same : n ≡ k = omega (arith, m, l) in subst (λ j. P (f j)) same (each-right P (map f (upto n)) (f n ∷ []) all).0
