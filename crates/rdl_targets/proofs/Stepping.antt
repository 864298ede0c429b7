-- A target, step by step.
use Rattle.std.proofs.Common.{◌≡◌, ◌∙◌, ℕ, suc, ◌+◌, ◌<◌, ◌==◌, Bool, true, false, List, [], ◌∷◌, length, get_or, drop, filter, flat_map, append-nil, drop-cons, add-one, refl, sym, ap, arith}
use Rattle.std.proofs.lemmas.Bool.Decides.{nat_tests}
use Rattle.rdl_tree.specs.declared.expr.Step.{Step}
use Rattle.rdl_values.specs.Instances.{Instance, children}
use Rattle.rdl_layers.specs.Assignments.{led_down}
use Rattle.rdl_targets.specs.Steps.{further}

led_first : (is : Step → Instance → Bool) (ns : List Instance) (t : Step) (ts : List Step) → further is (filter (is t) ns) ts ≡ led_down children is ns (t ∷ ts)
led_first is ns t [] = refl
led_first is ns t (u ∷ ts) = led_first is (flat_map children (filter (is t) ns)) u ts

pub further_more : (is : Step → Instance → Bool) (ns : List Instance) (ts : List Step) (i : ℕ) (d : Step) → i < length ts → further is ns (drop i ts) ≡ further is (filter (is (get_or ts i d)) (flat_map children ns)) (drop (i + 1) ts)
further_more is ns ts i d l = ap (further is ns) (drop-cons ts i d l) ∙ ap (λ n. further is (filter (is (get_or ts i d)) (flat_map children ns)) (drop n ts)) (sym (add-one i))

pub none_led : (is : Step → Instance → Bool) (ns : List Instance) (ts : List Step) → (length ts == 0) ≡ true → [] ≡ led_down children is ns ts
none_led is ns [] l = refl
none_led is ns (t ∷ ts) l = absurd (some (length ts) l)
  where
    some : (n : ℕ) → (suc n == 0) ≡ true → ⊥
    some n e = grind (arith, nat_tests)

pub all_led : (is : Step → Instance → Bool) (n : Instance) (ts : List Step) → (length ts == 0) ≡ false → further is (n ∷ []) ts ≡ led_down children is (children n) ts
all_led is n [] some = (let two : true ≡ false = some in cc two)
all_led is n (t ∷ ts) some = ap (λ ns. further is (filter (is t) ns) ts) (append-nil (children n)) ∙ led_first is (children n) t ts
