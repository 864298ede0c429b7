-- Properties that are taken.
use Rattle.std.proofs.Common.{◌≡◌, ◌∙◌, Bool, true, false, ◌||◌, List, [], ◌∷◌, ◌++◌, refl, sym, ap}
use Rattle.std.specs.List.{list_any}
use Rattle.std.proofs.lemmas.List.Folds.{list_any-append}
use denote.Enum.Bare.{same_true}
use Rattle.rdl_props.specs.Same.{same_prop}
use Rattle.rdl_props.specs.declared.prop.Prop.{Prop}
use Rattle.rdl_props.specs.contracts.prop.Prop as of_prop
use Rattle.rdl_assignments.specs.Taken.{AreTaken}
use Rattle.rdl_assignments.specs.declared.taken.AssignedProps.{AssignedProps}

same_prop-is : (p q : Prop) → same_prop p q ≡ true → p ≡ q
same_prop-is p q e = same_true of_prop.the_type tt p q e

-- where a property is among some, a test that it passes passes at one of them
passes : (f : Prop → Bool) (p : Prop) (qs : List Prop) → list_any (same_prop p) qs ≡ true → f p ≡ true → list_any f qs ≡ true
passes f p [] there e = cc
passes f p (q ∷ qs) there e = go (same_prop p q) refl there (λ h. passes f p qs h e)
  where
    go : (b : Bool) → same_prop p q ≡ b → (b || list_any (same_prop p) qs) ≡ true → (list_any (same_prop p) qs ≡ true → list_any f qs ≡ true) → (f q || list_any f qs) ≡ true
    go true same h ih = ap (λ b. b || list_any f qs) (ap f (sym (same_prop-is p q same)) ∙ e)
    go false same h ih = or-true (f q) (list_any f qs) (ih h)
      where
        or-true : (a b : Bool) → b ≡ true → (a || b) ≡ true
        or-true true b h = refl
        or-true false b h = h

pub taken_again : (t : AssignedProps) (earlier : List Prop) (p : Prop) → AreTaken t earlier → list_any (same_prop p) t.props.items ≡ true → AreTaken t (earlier ++ (p ∷ []))
taken_again t earlier p h there = record { same = λ f. go f (f p) refl }
  where
    end : (f : Prop → Bool) → list_any f (earlier ++ (p ∷ [])) ≡ (list_any f t.props.items || (f p || false))
    end f = list_any-append f earlier (p ∷ []) ∙ ap (λ b. b || (f p || false)) (sym (h.same f))

    or-false : (a : Bool) → (a || false) ≡ a
    or-false true = refl
    or-false false = refl

    go : (f : Prop → Bool) (b : Bool) → f p ≡ b → list_any f t.props.items ≡ list_any f (earlier ++ (p ∷ []))
    go f true e = sym (end f ∙ ap (λ b. b || (f p || false)) (passes f p t.props.items there e) ∙ sym (passes f p t.props.items there e))
    go f false e = sym (end f ∙ ap (λ b. list_any f t.props.items || (b || false)) e ∙ or-false (list_any f t.props.items))
