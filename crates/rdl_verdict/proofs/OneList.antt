-- Two lists of one verdict are equal.
use Rattle.std.proofs.Common.{◌≡◌, ◌∙◌, ◌<◌, ℕ, zero, suc, ◌⊎◌, inl, inr, List, [], ◌∷◌, Option, length, get_or, Contains, refl, sym, ap, subst, arith}
use Rattle.std.specs.List.{AllByRecursion}
use Rattle.std.specs.List.Sorted.{IsStrictlySortedBy}
use Rattle.std.specs.Cmp.{IsTotalOrder}
use Rattle.std.specs.Ordering.{MatchOrdering, ordering_reverse}
use Rattle.std.specs.declared.cmp.Ordering.TheVariants.{Less, Greater}
use Rattle.std.proofs.lemmas.Cmp.{nat_cmp_total, on_total, then_total}
use Rattle.rdl_base.specs.Faults.{fault_cmp}
use Rattle.rdl_base.specs.Rules.{row}
use Rattle.rdl_base.specs.declared.fault.Fault.{Fault}
use Rattle.rdl_tree.specs.declared.item.Source.{Source}
use Rattle.rdl_values.specs.Elaboration.{instances}
use Rattle.rdl_values.specs.Phase3.{fails3}
use Rattle.rdl_values.specs.Verdict.{Fails, FirstOf, IsListOf, Phase}
use Rattle.rdl_layers.specs.Phase4.{fails4}
use Rattle.rdl_rules.specs.Phase5.{fails5}
use Rattle.rdl_rules.specs.Phase6.{fails6}
use Rattle.rdl_verdict.specs.Verdict.{meanings, places, settings, tree_phases}
use Rattle.rdl_verdict.proofs.Parts.{first-in, none-in}

order : IsTotalOrder fault_cmp
order = then_total (on_total (λ (f : Fault). f.place.0) nat_cmp_total) (on_total (λ (f : Fault). (row f.rule).number) nat_cmp_total)

one-way : (x y : Fault) → fault_cmp x y ≡ Less → fault_cmp y x ≡ Less → ⊥
one-way x y a b =
    let greater : fault_cmp x y ≡ Greater = order.antisymm x y ∙ ap ordering_reverse b in
    subst (λ o. MatchOrdering o (Unit {0}) ⊥ ⊥) (sym a ∙ greater) tt

behind-it : (f g : Fault) (fs : List Fault) → Contains fs f → Contains (g ∷ fs) f
behind-it f g fs c = (suc c.0, omega (arith, c.1), c.2)

cases : (f g : Fault) (fs : List Fault) → Contains (g ∷ fs) f → (g ≡ f) ⊎ Contains fs f
cases f g fs c = go c.0 c.1 c.2
  where
    go : (k : ℕ) → k < length (g ∷ fs) → get_or (g ∷ fs) k f ≡ f → (g ≡ f) ⊎ Contains fs f
    go zero l e = inl e
    go (suc k) l e = inr (k, omega (arith, l), e)

abbrev Behind : Fault → List Fault → Type 0
Behind g fs = AllByRecursion (λ x. fault_cmp g x ≡ Less) fs

behind : (g : Fault) (fs : List Fault) → Behind g fs → (f : Fault) → Contains fs f → fault_cmp g f ≡ Less
behind g [] h f c = absurd (none-in f c)
behind g (x ∷ xs) h f c = go (cases f x xs c) (behind g xs h.1 f)
  where
    go : (x ≡ f) ⊎ Contains xs f → (Contains xs f → fault_cmp g f ≡ Less) → fault_cmp g f ≡ Less
    go (inl e) k = subst (λ y. fault_cmp g y ≡ Less) e h.0
    go (inr d) k = k d

heads : (x y : Fault) (xs ys : List Fault) → Behind x xs → Behind y ys → (y ≡ x) ⊎ Contains ys x → (x ≡ y) ⊎ Contains xs y → x ≡ y
heads x y xs ys s t (inl e) q = sym e
heads x y xs ys s t (inr c) (inl e) = e
heads x y xs ys s t (inr c) (inr d) = absurd (one-way x y (behind x xs s y d) (behind y ys t x c))

tails : (x y : Fault) (xs ys : List Fault) → x ≡ y → Behind x xs → ((f : Fault) → Contains (x ∷ xs) f → Contains (y ∷ ys) f) → (f : Fault) → Contains xs f → Contains ys f
tails x y xs ys e s to f c = go (cases f y ys (to f (behind-it f x xs c)))
  where
    go : (y ≡ f) ⊎ Contains ys f → Contains ys f
    go (inl p) = let itself = subst (λ z. fault_cmp x z ≡ Less) (sym (e ∙ p)) (behind x xs s f c) in absurd (one-way x x itself itself)
    go (inr d) = d

-- lists in order with the same members
same-list : (xs ys : List Fault) → IsStrictlySortedBy fault_cmp xs → IsStrictlySortedBy fault_cmp ys → ((f : Fault) → Contains xs f → Contains ys f) → ((f : Fault) → Contains ys f → Contains xs f) → xs ≡ ys
unfolding IsStrictlySortedBy
same-list [] [] s t to from = refl
same-list [] (y ∷ ys) s t to from = absurd (none-in y (from y (first-in y ys)))
same-list (x ∷ xs) [] s t to from = absurd (none-in x (to x (first-in x xs)))
same-list (x ∷ xs) (y ∷ ys) s t to from =
    let e : x ≡ y = heads x y xs ys s.0 t.0 (cases x y ys (to x (first-in x xs))) (cases y x xs (from y (first-in y ys))) in
    let rest : xs ≡ ys = same-list xs ys s.1 t.1 (tails x y xs ys e s.0 to) (tails y x ys xs (sym e) t.0 from) in
    λ i. e i ∷ rest i

one : (P : Fails) (k l : List Fault) → IsListOf P k → IsListOf P l → k ≡ l
one P k l a b = same-list k l a.ordered b.ordered (λ f c. (b.exact f).1 ((a.exact f).0 c)) (λ f c. (a.exact f).1 ((b.exact f).0 c))

step : (P : Phase) (ps : List Phase) → ((k l : List Fault) → P k → P l → k ≡ l) → ((k l : List Fault) → FirstOf ps k → FirstOf ps l → k ≡ l) → (k l : List Fault) → FirstOf (P ∷ ps) k → FirstOf (P ∷ ps) l → k ≡ l
step P ps own rest k l (inl a) (inl b) = own k l a.0 b.0
step P ps own rest k l (inl a) (inr b) = absurd (a.1 (own k [] a.0 b.0))
step P ps own rest k l (inr a) (inl b) = absurd (b.1 (own l [] b.0 a.0))
step P ps own rest k l (inr a) (inr b) = rest k l a.1 b.1

pub one-verdict : (wanted : Option (List ℕ)) (s : Source) (k l : List Fault) → FirstOf (tree_phases wanted s) k → FirstOf (tree_phases wanted s) l → k ≡ l
one-verdict wanted s =
    step (instances wanted s) (settings wanted s ∷ places wanted s ∷ meanings wanted s ∷ []) (one (fails3 wanted s))
    (step (settings wanted s) (places wanted s ∷ meanings wanted s ∷ []) (one (fails4 wanted s))
    (step (places wanted s) (meanings wanted s ∷ []) (one (fails5 wanted s))
    (step (meanings wanted s) [] (one (fails6 wanted s)) (λ k l a b. a ∙ sym b))))
