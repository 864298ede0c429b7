-- Outputs put behind one another.
use Rattle.std.proofs.Common.{◌≡◌, ◌∙◌, Bool, true, false, cond, List, [], ◌∷◌, ◌++◌, map, filter, append-nil, append_assoc, refl, sym, ap}
use Rattle.rdl_props.specs.declared.prop.Prop.{Prop}
use Rattle.rdl_values.specs.Instances.{Instance}
use Rattle.rdl_layers.specs.Fields.{has}
use Rattle.rb_model.specs.declared.kinds.Shown.{Shown}
use Rattle.rdl_rules.specs.Fields.{shown_of, showing}

-- an output, where its property is set
abbrev pub one : Instance → Prop → Shown → List Shown
one n p s = cond (has p n) (s ∷ []) []

-- outputs put behind these, one by one
abbrev pub after : Instance → List Shown → List (Prop × Shown) → List Shown
after n list [] = list
after n list (x ∷ xs) = after n (list ++ one n x.0 x.1) xs

listed : (n : Instance) (list : List Shown) (xs : List (Prop × Shown)) → after n list xs ≡ list ++ map (λ x. x.1) (filter (λ x. has x.0 n) xs)
listed n list [] = sym (append-nil list)
listed n list (x ∷ xs) = listed n (list ++ one n x.0 x.1) xs ∙ append_assoc list (one n x.0 x.1) (map (λ (y : Prop × Shown). y.1) (filter (λ y. has y.0 n) xs)) ∙ ap (λ ys. list ++ ys) (first (has x.0 n))
  where
    first : (b : Bool) → cond b (x.1 ∷ []) [] ++ map (λ (y : Prop × Shown). y.1) (filter (λ y. has y.0 n) xs) ≡ map (λ (y : Prop × Shown). y.1) (cond b (x ∷ filter (λ y. has y.0 n) xs) (filter (λ y. has y.0 n) xs))
    first true = refl
    first false = refl

pub all-listed : (n : Instance) → after n [] showing ≡ shown_of n
all-listed n = listed n [] showing
