-- The failures of the two parts of layout and targets are those of the phase.
use Rattle.std.proofs.Common.{◌≢◌, ◌⊎◌, inl, inr, List, [], ◌∷◌, ◌++◌, Some, Contains, refl, subst, arith}
use Rattle.std.proofs.lemmas.List.Elements.{Contains-append_left, Contains-append_right, Contains-append_cases}
use Rattle.rdl_base.specs.declared.fault.Fault.{Fault}
use Rattle.rdl_tree.specs.declared.node.Elab.{Elab}
use Rattle.rdl_values.specs.Elaborated.{top_name}
use Rattle.rdl_values.specs.Faults.{at_}
use Rattle.rdl_values.specs.Verdict.{IsListOf, IsRefusal}
use Rattle.rdl_addr.specs.Answers.{IsPlaced, places_fail}
use Rattle.rdl_addr.specs.Rules.{failures_ab}
use Rattle.rdl_refs.specs.Answers.{IsBound, references_fail}
use Rattle.rdl_refs.specs.Items.{failures_r}
use Rattle.rdl_verdict.specs.Steps.{stands_fail}

pub none-in : (f : Fault) → Contains [] f → ⊥
none-in f c = omega (arith, c.1)

pub first-in : (f : Fault) (fs : List Fault) → Contains (f ∷ fs) f
first-in f fs = (0, omega arith, refl)

pub some : (f : Fault) (fs : List Fault) → Contains fs f → fs ≢ []
some f fs c e = none-in f (subst (λ l. Contains l f) e c)

-- a list that has all of one with some has some
more : (xs ys : List Fault) → ((f : Fault) → Contains xs f → Contains ys f) → xs ≢ [] → ys ≢ []
more [] ys keep has e = has refl
more (x ∷ xs) ys keep has e = some x ys (keep x (first-in x xs)) e

-- the list of two lists
pub joined : (e : Elab) (first second all : List Fault) → IsListOf (places_fail e) first → IsListOf (references_fail e) second → IsListOf (λ rule place. Contains (first ++ second) (at_ rule place)) all → IsListOf (stands_fail e) all
joined e first second all a b h = record {
  ordered = h.ordered;
  exact = λ f. (λ c. there f (Contains-append_cases first second f ((h.exact f).0 c)), λ x. (h.exact f).1 (here f (Contains-append_cases (failures_ab (Some (top_name e)) e.source.now) (failures_r (Some (top_name e)) e.source.now) f x)));
}
  where
    there : (f : Fault) → Contains first f ⊎ Contains second f → Contains (failures_ab (Some (top_name e)) e.source.now ++ failures_r (Some (top_name e)) e.source.now) f
    there f (inl c) = Contains-append_left (failures_ab (Some (top_name e)) e.source.now) (failures_r (Some (top_name e)) e.source.now) f ((a.exact f).0 c)
    there f (inr c) = Contains-append_right (failures_ab (Some (top_name e)) e.source.now) (failures_r (Some (top_name e)) e.source.now) f ((b.exact f).0 c)

    here : (f : Fault) → Contains (failures_ab (Some (top_name e)) e.source.now) f ⊎ Contains (failures_r (Some (top_name e)) e.source.now) f → Contains (first ++ second) f
    here f (inl c) = Contains-append_left first second f ((a.exact f).1 c)
    here f (inr c) = Contains-append_right first second f ((b.exact f).1 c)

-- Both parts have failures.
pub both : (e : Elab) (first second all : List Fault) → IsRefusal (places_fail e) first → IsRefusal (references_fail e) second → IsListOf (λ rule place. Contains (first ++ second) (at_ rule place)) all → IsRefusal (stands_fail e) all
both e first second all a b h = record {
  failures = joined e first second all a.failures b.failures h;
  some = more first all (λ f c. (h.exact f).1 (Contains-append_left first second f c)) a.some;
}

-- The first alone has some.
pub first-alone : (e : Elab) (list : List Fault) → IsRefusal (places_fail e) list → IsBound e → IsRefusal (stands_fail e) list
first-alone e list a bound = record {
  failures = joined e list [] list a.failures bound (record { ordered = a.failures.ordered; exact = λ f. (λ c. Contains-append_left list [] f c, λ c. left f (Contains-append_cases list [] f c)) });
  some = a.some;
}
  where
    left : (f : Fault) → Contains list f ⊎ Contains [] f → Contains list f
    left f (inl c) = c
    left f (inr c) = absurd (none-in f c)

-- The second alone has some, or neither.
pub second-alone : (e : Elab) (list : List Fault) → IsPlaced e → IsListOf (references_fail e) list → IsListOf (stands_fail e) list
second-alone e list placed b = joined e [] list list placed b (record { ordered = b.ordered; exact = λ f. (λ c. c, λ c. c) })

-- The second alone has some.
pub second-refused : (e : Elab) (list : List Fault) → IsPlaced e → IsRefusal (references_fail e) list → IsRefusal (stands_fail e) list
second-refused e list placed b = record { failures = second-alone e list placed b.failures; some = b.some }
