-- What fails of nodes behind so many others.
use Rattle.std.proofs.Common.{◌≡◌, ◌∙◌, ℕ, zero, suc, ◌+◌, ◌-◌, ◌<◌, ◌≤◌, ◌==◌, Bool, true, false, cond, nat_lt, List, [], ◌∷◌, ◌++◌, length, drop, flat_map, min, take, refl, sym, ap, subst, arith, append_assoc}
use Rattle.std.proofs.Math.Nat.{min-eq_left}
use Rattle.std.proofs.lemmas.Bool.{le-ltb, lt-ltb, ltb-false, ltb-true}
use Rattle.std.proofs.lemmas.List.{length-append}
use Rattle.plain_lemmas.proofs.Numbers.{eq-itself as own, min-right as above}
use Rattle.rdl_base.specs.declared.fault.Fault.{Fault}
use Rattle.rb_base.specs.declared.place.Place.{Place}
use Rattle.rdl_base.specs.declared.rule.Rule.TheVariants as rules
use Rattle.rdl_values.specs.Faults.{at_}
use Rattle.rdl_values.specs.Instances.{Instance, children, most_nodes, with_below}
use Rattle.rdl_values.specs.Phase3.{first_over, of_node}
use Rattle.rdl_walk.specs.Walked.{capped, fails_at, fails_from, over}

other : (c m : ℕ) → m + 1 ≤ c → (c == m) ≡ false
other c m l = grind (arith, l)

below : (m n : ℕ) → m ≤ n → min m n ≡ m
below m n l = min-eq_left l

pub over_none : (c : ℕ) (p : Place) → most_nodes + 1 ≤ c → over c p ≡ []
over_none c p l = ap (λ b. cond b (at_ rules.E9 p ∷ []) []) (other c most_nodes l)

over-here : (p : Place) → over most_nodes p ≡ at_ rules.E9 p ∷ []
over-here p = ap (λ b. cond b (at_ rules.E9 p ∷ []) []) (own most_nodes)

at-over : (c : ℕ) (n : Instance) → most_nodes + 1 ≤ c → fails_at c n ≡ []
at-over c n l = ap (λ b. cond b (of_node n) (over c n.use_.name.place)) (le-ltb c most_nodes (omega (arith, l))) ∙ over_none c n.use_.name.place l

pub at_first : (c : ℕ) (n : Instance) → most_nodes ≤ c → fails_at c n ≡ over c n.use_.name.place
at_first c n l = ap (λ b. cond b (of_node n) (over c n.use_.name.place)) (le-ltb c most_nodes l)

pub at_judged : (c : ℕ) (n : Instance) → c < most_nodes → fails_at c n ≡ of_node n
at_judged c n l = ap (λ b. cond b (of_node n) (over c n.use_.name.place)) (lt-ltb c most_nodes l)

pub fails_over : (c : ℕ) (ns : List Instance) → most_nodes + 1 ≤ c → fails_from c ns ≡ []
fails_over c [] l = refl
fails_over c (n ∷ ns) l = ap (λ fs. fs ++ fails_from (suc c) ns) (at-over c n l) ∙ fails_over (suc c) ns (omega (arith, l))

pub fails_append : (c : ℕ) (xs ys : List Instance) → fails_from c (xs ++ ys) ≡ fails_from c xs ++ fails_from (c + length xs) ys
fails_append c [] ys = let e : c ≡ c + 0 = omega arith in ap (λ k. fails_from k ys) e
fails_append c (x ∷ xs) ys =
    let e : suc c + length xs ≡ c + length (x ∷ xs) = omega arith in
    ap (λ fs. fails_at c x ++ fs) (fails_append (suc c) xs ys ∙ ap (λ k. fails_from (suc c) xs ++ fails_from k ys) e) ∙ sym (append_assoc (fails_at c x) (fails_from (suc c) xs) (fails_from (c + length (x ∷ xs)) ys))

pub fails_capped : (c : ℕ) (ys : List Instance) → fails_from (capped c) ys ≡ fails_from c ys
fails_capped c ys = go (nat_lt c (most_nodes + 1)) refl
  where
    go : (b : Bool) → nat_lt c (most_nodes + 1) ≡ b → fails_from (capped c) ys ≡ fails_from c ys
    go true e = let l = ltb-true c (most_nodes + 1) e in ap (λ k. fails_from k ys) (below c (most_nodes + 1) (omega (arith, l)))
    go false e = let l = ltb-false c (most_nodes + 1) e in ap (λ k. fails_from k ys) (above c (most_nodes + 1) l) ∙ fails_over (most_nodes + 1) ys (omega arith) ∙ sym (fails_over c ys l)

pub capped_twice : (a b : ℕ) → capped (capped a + b) ≡ capped (a + b)
capped_twice a b = go (nat_lt a (most_nodes + 1)) refl
  where
    go : (t : Bool) → nat_lt a (most_nodes + 1) ≡ t → capped (capped a + b) ≡ capped (a + b)
    go true e = let l = ltb-true a (most_nodes + 1) e in ap (λ k. capped (k + b)) (below a (most_nodes + 1) (omega (arith, l)))
    go false e =
        let l = ltb-false a (most_nodes + 1) e in
        let x : most_nodes + 1 ≤ (most_nodes + 1) + b = omega arith in
        let y : most_nodes + 1 ≤ a + b = omega (arith, l) in
        ap (λ k. capped (k + b)) (above a (most_nodes + 1) l) ∙ above ((most_nodes + 1) + b) (most_nodes + 1) x ∙ sym (above (a + b) (most_nodes + 1) y)

pub capped_few : (a : ℕ) → a ≤ most_nodes + 1 → capped a ≡ a
capped_few a l = below a (most_nodes + 1) l

pub capped_many : (a : ℕ) → most_nodes + 1 ≤ a → capped a ≡ most_nodes + 1
capped_many a l = above a (most_nodes + 1) l

pub capped_most : (a : ℕ) → capped a ≤ most_nodes + 1
capped_most a = go (nat_lt a (most_nodes + 1)) refl
  where
    go : (t : Bool) → nat_lt a (most_nodes + 1) ≡ t → capped a ≤ most_nodes + 1
    go true e = let l = ltb-true a (most_nodes + 1) e in let s = capped_few a (omega (arith, l)) in omega (arith, s, l)
    go false e = let l = ltb-false a (most_nodes + 1) e in let s = capped_many a l in omega (arith, s)

-- a node stands before those below it
pub record IsFirst (n : Instance) (ns : List Instance) : Type 0 where
  pub rest : List Instance
  pub is : ns ≡ n ∷ rest

pub node_first : (levels : ℕ) (n : Instance) → IsFirst n (with_below levels n)
node_first zero n = record { rest = []; is = refl }
node_first (suc levels) n = record { rest = flat_map (with_below levels) (children n); is = refl }

-- all failures of a walk are those of the nodes that are judged, and of the first that isn't
pub fails_all : (left : ℕ) (c : ℕ) (ns : List Instance) → c + left ≡ most_nodes → fails_from c ns ≡ flat_map of_node (take left ns) ++ first_over (drop left ns)
fails_all zero c [] e = refl
fails_all (suc left) c [] e = refl
fails_all zero c (n ∷ ns) e =
    let here : c ≡ most_nodes = omega (arith, e) in
    let past : most_nodes + 1 ≤ suc c = omega (arith, here) in
    ap (λ fs. fs ++ fails_from (suc c) ns) (at_first c n (omega (arith, here)) ∙ ap (λ k. over k n.use_.name.place) here ∙ over-here n.use_.name.place) ∙ ap (λ fs. at_ rules.E9 n.use_.name.place ∷ fs) (fails_over (suc c) ns past)
fails_all (suc left) c (n ∷ ns) e =
    let low : c < most_nodes = omega (arith, e) in
    let next : suc c + left ≡ most_nodes = omega (arith, e) in
    ap (λ fs. fs ++ fails_from (suc c) ns) (at_judged c n low) ∙ ap (λ fs. of_node n ++ fs) (fails_all left (suc c) ns next) ∙ sym (append_assoc (of_node n) (flat_map of_node (take left ns)) (first_over (drop left ns)))
