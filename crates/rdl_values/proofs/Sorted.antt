-- Failures put in order, without repeats: the list of what fails, as a verdict has it.
use Rattle.std.proofs.Common.{◌≡◌, ◌∙◌, ◌<◌, ℕ, zero, suc, ◌⊎◌, inl, inr, Bool, true, List, [], ◌∷◌, ◌++◌, length, get_or, Contains, IsPermutation, IsSorted, refl, sym, ap, subst, arith}
use Rattle.std.specs.List.{dedup}
use Rattle.std.proofs.lemmas.List.Kept.{IsStrictlySortedBy-dedup, Contains-from_dedup, Contains-dedup}
use Rattle.std.proofs.lemmas.List.Sorted.{Contains-permutation, IsPermutation-sym}
use Rattle.std.specs.List.{AllByRecursion}
use Rattle.std.specs.List.Sorted.{IsStrictlySortedBy}
use Rattle.std.specs.Cmp.{IsTotalOrder, IsEquivalence}
use Rattle.std.specs.Ordering.{eq_by_cmp, is_eq, nat_cmp, ordering_then, ordering_reverse, MatchOrdering}
use Rattle.std.specs.declared.cmp.Ordering.{Ordering}
use Rattle.std.specs.declared.cmp.Ordering.TheVariants.{Less, Equal, Greater}
use Rattle.std.proofs.lemmas.Cmp.{ranked, nat_cmp_total, on_total, then_total}
use Rattle.rdl_base.specs.Faults.{fault_cmp}
use Rattle.rdl_base.specs.Rules.{row}
use Rattle.rdl_base.specs.declared.fault.Fault.{Fault}
use Rattle.rdl_base.specs.declared.rule.Rule.{Rule}
use Rattle.rdl_base.specs.declared.rule.Rule.TheVariants as rules
use Rattle.rdl_values.specs.Faults.{at_}
use Rattle.rdl_values.specs.Verdict.{IsListOf, placed, with, in_order}

-- Failures that are neither before nor behind one another are one.

all_rules : List Rule
all_rules = rules.L1 ∷ rules.L2 ∷ rules.L3 ∷ rules.L4 ∷ rules.L5 ∷ rules.L6 ∷ rules.S1 ∷ rules.S2 ∷ rules.O1 ∷ rules.O2 ∷ rules.O3 ∷ rules.O4 ∷ rules.O5 ∷ rules.O6 ∷ rules.O7 ∷ rules.O8 ∷ rules.O9 ∷ rules.V1 ∷ rules.V2 ∷ rules.V3 ∷ rules.V4 ∷ rules.E1 ∷ rules.E2 ∷ rules.E3 ∷ rules.E4 ∷ rules.E5 ∷ rules.E6 ∷ rules.E7 ∷ rules.E8 ∷ rules.E9 ∷ rules.E10 ∷ rules.E11 ∷ rules.E12 ∷ rules.E13 ∷ rules.E14 ∷ rules.P1 ∷ rules.P2 ∷ rules.P3 ∷ rules.P4 ∷ rules.P5 ∷ rules.P6 ∷ rules.P7 ∷ rules.P8 ∷ rules.P9 ∷ rules.P10 ∷ rules.P11 ∷ rules.A1 ∷ rules.A2 ∷ rules.A3 ∷ rules.A4 ∷ rules.A5 ∷ rules.A6 ∷ rules.B1 ∷ rules.B2 ∷ rules.R1 ∷ rules.R2 ∷ rules.F1 ∷ rules.F2 ∷ rules.F3 ∷ rules.F4 ∷ rules.F5 ∷ rules.F6 ∷ rules.F7 ∷ rules.F8 ∷ rules.F9 ∷ rules.F10 ∷ rules.F11 ∷ rules.F12 ∷ rules.F13 ∷ rules.F14 ∷ rules.F15 ∷ rules.R3 ∷ rules.R4 ∷ rules.R5 ∷ rules.R6 ∷ rules.R7 ∷ rules.R8 ∷ rules.X1 ∷ []

numbered : (r : Rule) → get_or all_rules (row r).number rules.L1 ≡ r
unfolding all_rules
numbered rules.L1 = refl
numbered _ = refl

same_rule : (a b : Rule) → (row a).number ≡ (row b).number → a ≡ b
same_rule a b e = sym (numbered a) ∙ ap (λ n. get_or all_rules n rules.L1) e ∙ numbered b

same_number : (m n : ℕ) → nat_cmp m n ≡ Equal → m ≡ n
same_number m n e = subst (λ o. MatchOrdering o (m < n) (m ≡ n) (n < m)) e (ranked m n (nat_cmp m n) refl)

both_equal : (o p : Ordering) → ordering_then o p ≡ Equal → (o ≡ Equal) × (p ≡ Equal)
both_equal Less p e = absurd (subst (λ o. MatchOrdering o (Unit {0}) ⊥ ⊥) e tt)
both_equal Equal p e = (refl, e)
both_equal Greater p e = absurd (subst (λ o. MatchOrdering o ⊥ ⊥ (Unit {0})) e tt)

pub alike : (f g : Fault) → fault_cmp f g ≡ Equal → f ≡ g
alike f g e =
    let parts = both_equal (nat_cmp f.place.0 g.place.0) (nat_cmp (row f.rule).number (row g.rule).number) e in
    let place = same_number f.place.0 g.place.0 parts.0 in
    let rule = same_rule f.rule g.rule (same_number (row f.rule).number (row g.rule).number parts.1) in
    λ i. record { place = record { 0 = place i }; rule = rule i }

order : IsTotalOrder fault_cmp
order = then_total (on_total (λ (f : Fault). f.place.0) nat_cmp_total) (on_total (λ (f : Fault). (row f.rule).number) nat_cmp_total)

-- What the list holds.

here : (f : Fault) (fs : List Fault) → Contains (f ∷ fs) f
here f fs = (0, omega arith, refl)

later : (f g : Fault) (fs : List Fault) → Contains fs f → Contains (g ∷ fs) f
later f g fs c = (suc c.0, omega (arith, c.1), c.2)

cases : (f g : Fault) (fs : List Fault) → Contains (g ∷ fs) f → (g ≡ f) ⊎ Contains fs f
cases f g fs c = go c.0 c.1 c.2
  where
    go : (k : ℕ) → k < length (g ∷ fs) → get_or (g ∷ fs) k f ≡ f → (g ≡ f) ⊎ Contains fs f
    go zero l e = inl e
    go (suc k) l e = inr (k, omega (arith, l), e)

with-has : (f : Fault) (fs : List Fault) → Contains (with f fs) f
with-has f [] = here f []
with-has f (g ∷ gs) = go (fault_cmp f g) refl (with-has f gs)
  where
    go : (o : Ordering) → fault_cmp f g ≡ o → Contains (with f gs) f → Contains (placed o f g gs (with f gs)) f
    go Less e c = here f (g ∷ gs)
    go Equal e c = subst (λ x. Contains (x ∷ gs) f) (alike f g e) (here f gs)
    go Greater e c = later f g (with f gs) c

with-keeps : (f x : Fault) (fs : List Fault) → Contains fs x → Contains (with f fs) x
with-keeps f x [] c = later x f [] c
with-keeps f x (g ∷ gs) c = go (fault_cmp f g) (cases x g gs c) (with-keeps f x gs)
  where
    go : (o : Ordering) → (g ≡ x) ⊎ Contains gs x → (Contains gs x → Contains (with f gs) x) → Contains (placed o f g gs (with f gs)) x
    go Less h k = later x f (g ∷ gs) c
    go Equal h k = c
    go Greater (inl e) k = subst (Contains (g ∷ with f gs)) e (here g (with f gs))
    go Greater (inr d) k = later x g (with f gs) (k d)

with-only : (f x : Fault) (fs : List Fault) → Contains (with f fs) x → (f ≡ x) ⊎ Contains fs x
with-only f x [] c = cases x f [] c
with-only f x (g ∷ gs) c = go (fault_cmp f g) c (with-only f x gs)
  where
    more : (f ≡ x) ⊎ Contains gs x → (f ≡ x) ⊎ Contains (g ∷ gs) x
    more (inl e) = inl e
    more (inr d) = inr (later x g gs d)

    tail : (g ≡ x) ⊎ Contains (with f gs) x → (Contains (with f gs) x → (f ≡ x) ⊎ Contains gs x) → (f ≡ x) ⊎ Contains (g ∷ gs) x
    tail (inl e) k = inr (subst (Contains (g ∷ gs)) e (here g gs))
    tail (inr d) k = more (k d)

    go : (o : Ordering) → Contains (placed o f g gs (with f gs)) x → (Contains (with f gs) x → (f ≡ x) ⊎ Contains gs x) → (f ≡ x) ⊎ Contains (g ∷ gs) x
    go Less d k = cases x f (g ∷ gs) d
    go Equal d k = inr d
    go Greater d k = tail (cases x g (with f gs) d) k

in_order-keeps : (x : Fault) (fs : List Fault) → Contains fs x → Contains (in_order fs) x
in_order-keeps x [] c = c
in_order-keeps x (f ∷ fs) c = go (cases x f fs c) (in_order-keeps x fs)
  where
    go : (f ≡ x) ⊎ Contains fs x → (Contains fs x → Contains (in_order fs) x) → Contains (with f (in_order fs)) x
    go (inl e) k = subst (Contains (with f (in_order fs))) e (with-has f (in_order fs))
    go (inr d) k = with-keeps f x (in_order fs) (k d)

in_order-only : (x : Fault) (fs : List Fault) → Contains (in_order fs) x → Contains fs x
in_order-only x [] c = c
in_order-only x (f ∷ fs) c = go (with-only f x (in_order fs) c) (in_order-only x fs)
  where
    go : (f ≡ x) ⊎ Contains (in_order fs) x → (Contains (in_order fs) x → Contains fs x) → Contains (f ∷ fs) x
    go (inl e) k = subst (Contains (f ∷ fs)) e (here f fs)
    go (inr d) k = later x f fs (k d)

-- Its order.

abbrev Behind : Fault → List Fault → Type 0
Behind g fs = AllByRecursion (λ x. fault_cmp g x ≡ Less) fs

with-behind : (g f : Fault) (fs : List Fault) → fault_cmp g f ≡ Less → Behind g fs → Behind g (with f fs)
with-behind g f [] e h = (e, tt)
with-behind g f (x ∷ xs) e h = go (fault_cmp f x) (with-behind g f xs e h.1)
  where
    go : (o : Ordering) → Behind g (with f xs) → Behind g (placed o f x xs (with f xs))
    go Less k = (e, h)
    go Equal k = h
    go Greater k = (h.0, k)

behind-all : (f g : Fault) (fs : List Fault) → fault_cmp f g ≡ Less → Behind g fs → Behind f fs
behind-all f g [] e h = h
behind-all f g (x ∷ xs) e h = (order.trans f g x e h.0, behind-all f g xs e h.1)

with-sorted : (f : Fault) (fs : List Fault) → IsStrictlySortedBy fault_cmp fs → IsStrictlySortedBy fault_cmp (with f fs)
unfolding IsStrictlySortedBy
with-sorted f [] s = (tt, tt)
with-sorted f (g ∷ gs) s = go (fault_cmp f g) refl (with-sorted f gs s.1)
  where
    go : (o : Ordering) → fault_cmp f g ≡ o → IsStrictlySortedBy fault_cmp (with f gs) → IsStrictlySortedBy fault_cmp (placed o f g gs (with f gs))
    go Less e k = ((e, behind-all f g gs e s.0), s)
    go Equal e k = s
    go Greater e k = (with-behind g f gs (order.antisymm g f ∙ ap ordering_reverse e) s.0, k)

in_order-sorted : (fs : List Fault) → IsStrictlySortedBy fault_cmp (in_order fs)
unfolding IsStrictlySortedBy
in_order-sorted [] = tt
in_order-sorted (f ∷ fs) = with-sorted f (in_order fs) (in_order-sorted fs)

-- the failures in order are the list of what fails
pub in_order-is : (fs : List Fault) → IsListOf (λ rule place. Contains fs (at_ rule place)) (in_order fs)
in_order-is fs = record { ordered = in_order-sorted fs; exact = λ f. (in_order-only f fs, in_order-keeps f fs) }

-- What a sort and the dropping of repeats leave is the list.

equal_only : (o : Ordering) → is_eq o ≡ true → o ≡ Equal
equal_only Less e = cc
equal_only Equal e = refl
equal_only Greater e = cc

pub sorted_once : (fs xs : List Fault) (E : Fault → Fault → Bool) → IsEquivalence E → ((f g : Fault) → E f g ≡ eq_by_cmp fault_cmp f g) → IsPermutation fs xs → IsSorted fault_cmp xs
    → IsListOf (λ rule place. Contains fs (at_ rule place)) (dedup E xs)
sorted_once fs xs E equivalence ties same sorted = record {
  ordered = IsStrictlySortedBy-dedup order ties xs sorted;
  exact = λ f. (λ c. Contains-permutation xs fs f (IsPermutation-sym fs xs same) (Contains-from_dedup E xs f c), λ c. Contains-dedup equivalence (λ x y e. alike x y (equal_only (fault_cmp x y) (sym (ties x y) ∙ e))) xs f (Contains-permutation fs xs f same c));
}

-- Where the list is empty nothing fails.

pub none_fails : (fs : List Fault) → IsListOf (λ rule place. Contains fs (at_ rule place)) [] → fs ≡ []
none_fails [] l = refl
none_fails (f ∷ fs) l = absurd (nothing ((l.exact f).1 (here f fs)))
  where
    nothing : Contains [] f → ⊥
    nothing c = omega (arith, c.1)

-- The lists of two rules' failures give that of both.

left_of : (f : Fault) (fs gs : List Fault) → Contains fs f → Contains (fs ++ gs) f
left_of f [] gs c = absurd (nothing c)
  where
    nothing : Contains [] f → ⊥
    nothing c = omega (arith, c.1)
left_of f (g ∷ fs) gs c = go (cases f g fs c) (left_of f fs gs)
  where
    go : (g ≡ f) ⊎ Contains fs f → (Contains fs f → Contains (fs ++ gs) f) → Contains (g ∷ fs ++ gs) f
    go (inl e) k = subst (Contains (g ∷ fs ++ gs)) e (here g (fs ++ gs))
    go (inr d) k = later f g (fs ++ gs) (k d)

right_of : (f : Fault) (fs gs : List Fault) → Contains gs f → Contains (fs ++ gs) f
right_of f [] gs c = c
right_of f (g ∷ fs) gs c = later f g (fs ++ gs) (right_of f fs gs c)

either_of : (f : Fault) (fs gs : List Fault) → Contains (fs ++ gs) f → Contains fs f ⊎ Contains gs f
either_of f [] gs c = inr c
either_of f (g ∷ fs) gs c = go (cases f g (fs ++ gs) c) (either_of f fs gs)
  where
    more : Contains fs f ⊎ Contains gs f → Contains (g ∷ fs) f ⊎ Contains gs f
    more (inl d) = inl (later f g fs d)
    more (inr d) = inr d

    go : (g ≡ f) ⊎ Contains (fs ++ gs) f → (Contains (fs ++ gs) f → Contains fs f ⊎ Contains gs f) → Contains (g ∷ fs) f ⊎ Contains gs f
    go (inl e) k = inl (subst (Contains (g ∷ fs)) e (here g fs))
    go (inr d) k = more (k d)

-- the failures of both, where each list is that of its rule
pub merged : (fs gs xs ys : List Fault) → IsListOf (λ rule place. Contains fs (at_ rule place)) xs → IsListOf (λ rule place. Contains gs (at_ rule place)) ys
    → IsListOf (λ rule place. Contains (fs ++ gs) (at_ rule place)) (in_order (xs ++ ys))
merged fs gs xs ys of_fs of_gs = record { ordered = in_order-sorted (xs ++ ys); exact = λ f. (λ c. onward f (either_of f xs ys (in_order-only f (xs ++ ys) c)), λ c. in_order-keeps f (xs ++ ys) (back f (either_of f fs gs c))) }
  where
    onward : (f : Fault) → Contains xs f ⊎ Contains ys f → Contains (fs ++ gs) f
    onward f (inl c) = left_of f fs gs ((of_fs.exact f).0 c)
    onward f (inr c) = right_of f fs gs ((of_gs.exact f).0 c)

    back : (f : Fault) → Contains fs f ⊎ Contains gs f → Contains (xs ++ ys) f
    back f (inl c) = left_of f xs ys ((of_fs.exact f).1 c)
    back f (inr c) = right_of f xs ys ((of_gs.exact f).1 c)
