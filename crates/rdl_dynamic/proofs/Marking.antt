-- A property that is there already.
use Rattle.std.proofs.Common.{◌≡◌, ◌∙◌, ℕ, ◌==◌, Bool, true, false, ◌&&◌, ◌||◌, List, [], ◌∷◌, Option, None, Some, Vec, refl, sym, ap, arith}
use Rattle.std.specs.Global.{Global}
use Rattle.std.specs.HashMap.{get_by}
use Rattle.std.specs.List.{list_any}
use Rattle.std.proofs.lemmas.Bool.Decides.{nat_tests}
use denote.Enum.Bare.{same_true}
use Rattle.rdl_props.specs.Same.{same_prop}
use Rattle.rdl_props.specs.declared.prop.Prop.{Prop}
use Rattle.rdl_props.specs.contracts.prop.Prop as of_prop
use Rattle.rdl_dynamic.specs.Marks.{any_of, is_marked}
use Rattle.rdl_dynamic.specs.declared.marks.Marks.{Marks}

pub same_prop-is : (p q : Prop) → same_prop p q ≡ true → p ≡ q
same_prop-is p q e = same_true of_prop.the_type tt p q e

passes : (f : Prop → Bool) (p : Prop) (qs : List Prop) → list_any (same_prop p) qs ≡ true → f p ≡ true → list_any f qs ≡ true
passes f p [] there e = cc
passes f p (q ∷ qs) there e = go (same_prop p q) refl there (λ h. passes f p qs h e)
  where
    go : (b : Bool) → same_prop p q ≡ b → (b || list_any (same_prop p) qs) ≡ true → (list_any (same_prop p) qs ≡ true → list_any f qs ≡ true) → (f q || list_any f qs) ≡ true
    go true same h ih = ap (λ b. b || list_any f qs) (ap f (sym (same_prop-is p q same)) ∙ e)
    go false same h ih = or-true (f q) (list_any f qs) (ih h)
      where
        or-true : (a b : Bool) → b ≡ true → (a || b) ≡ true
        or-true true b h = refl
        or-true false b h = h

-- one more is no more
pub again : (p : Prop) (qs : List Prop) → list_any (same_prop p) qs ≡ true → (f : Prop → Bool) → list_any f qs ≡ (list_any f qs || f p)
again p qs there f = go (f p) refl
  where
    or-false : (a : Bool) → a ≡ (a || false)
    or-false true = refl
    or-false false = refl

    go : (b : Bool) → f p ≡ b → list_any f qs ≡ (list_any f qs || f p)
    go true e = let yes = passes f p qs there e in yes ∙ sym (ap (λ b. b || f p) yes)
    go false e = or-false (list_any f qs) ∙ ap (λ b. list_any f qs || b) (sym e)

-- a mark more is none more
pub marked_again : (m : Marks) (node : ℕ) (p : Prop) → is_marked m node (same_prop p) ≡ true → (other : ℕ) (f : Prop → Bool) → is_marked m other f ≡ (is_marked m other f || ((node == other) && f p))
marked_again m node p there other f = go (node == other) refl
  where
    or-false : (a : Bool) → a ≡ (a || false)
    or-false true = refl
    or-false false = refl

    once-more : (o : Option (Vec Prop Global)) → any_of (same_prop p) o ≡ true → any_of f o ≡ (any_of f o || f p)
    once-more None e = cc e
    once-more (Some v) e = again p v.items e f

    same : (node == other) ≡ true → node ≡ other
    same e = grind (arith, nat_tests)

    go : (b : Bool) → (node == other) ≡ b → is_marked m other f ≡ (is_marked m other f || (b && f p))
    go true e = once-more (get_by (λ k. other == k) m.at) (ap (λ k. is_marked m k (same_prop p)) (sym (same e)) ∙ there)
    go false e = or-false (is_marked m other f)
