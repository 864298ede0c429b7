-- Some element of lists joined, or of those that pass a test.
use Rattle.std.proofs.Common.{◌≡◌, ◌∙◌, Bool, true, false, ◌&&◌, ◌||◌, cond, List, [], ◌∷◌, filter, flat_map, refl, ap}
use Rattle.std.specs.List.{list_any}
use Rattle.plain_lemmas.proofs.Lists.{list_any-append as any-joined}
use Rattle.rdl_values.specs.Instances.{Instance}
use Rattle.rdl_values.specs.Uses.{same_name}
use Rattle.rdl_layers.specs.Fields.{aliases, fields_of, is_touched, views}
use Rattle.rdl_fields.specs.Touched.{touches}

any-kept : {X : Type 0} (p t : X → Bool) (xs : List X) → list_any p (filter t xs) ≡ list_any (λ x. t x && p x) xs
any-kept p t [] = refl
any-kept p t (x ∷ xs) = go (t x) (any-kept p t xs)
  where
    go : (b : Bool) → list_any p (filter t xs) ≡ list_any (λ y. t y && p y) xs → list_any p (cond b (x ∷ filter t xs) (filter t xs)) ≡ (b && p x) || list_any (λ y. t y && p y) xs
    go true e = ap (λ b. p x || b) e
    go false e = e

any-flat : {X Y : Type 0} (p : Y → Bool) (f : X → List Y) (q : X → Bool) → ((x : X) → list_any p (f x) ≡ q x) → (xs : List X) → list_any p (flat_map f xs) ≡ list_any q xs
any-flat p f q same [] = refl
any-flat p f q same (x ∷ xs) = any-joined p (f x) (flat_map f xs) ∙ (ap (λ b. b || list_any p (flat_map f xs)) (same x) ∙ ap (λ b. q x || b) (any-flat p f q same xs))

pub touched-by : (all : List Instance) (r f : Instance) → is_touched (views all r f) ≡ (touches f || list_any (λ a. list_any (λ g. same_name g.use_.name f.use_.name && touches g) (fields_of a)) (aliases all r))
touched-by all r f =
    ap (λ b. touches f || b) (any-flat touches (λ a. filter (λ g. same_name g.use_.name f.use_.name) (fields_of a)) (λ a. list_any (λ g. same_name g.use_.name f.use_.name && touches g) (fields_of a)) (λ a. any-kept touches (λ g. same_name g.use_.name f.use_.name) (fields_of a)) (aliases all r))
