-- The order that a derive gives to an enum without fields is that of the places of its variants.
use Rattle.std.proofs.Common.{◌≡◌, ℕ, suc, refl, ◌∙◌, List, [], ◌∷◌, inl, inr, arith}
use Rattle.std.proofs.lemmas.Bool.Decides.{nat_tests}
use Rattle.std.specs.Ordering.{nat_cmp}
use Rattle.std.specs.Cmp.{nat_cmp_is}
use Rattle.std.specs.declared.cmp.Ordering.{Ordering}
use Rattle.std.specs.declared.cmp.Ordering.TheVariants.{Less, Equal, Greater}
use denote.Struct.Field.{Field}
use denote.Enum.Enum.{tag}
use denote.Enum.Declared.{Choice, rowss, intoss}
use denote.Enum.Compared.{Each, by}

-- two values of one variant are equal
abbrev pub no_fields : (Fss : List (List Field)) → Each Ordering Fss
no_fields [] = tt
no_fields (Fs ∷ Fss) = (λ _ _. Equal, no_fields Fss)

abbrev pub place : (Fss : List (List Field)) → Choice Fss → ℕ
place Fss c = tag (rowss Fss) (intoss Fss c)

nat_cmp-suc : (m n : ℕ) → nat_cmp m n ≡ nat_cmp (suc m) (suc n)
nat_cmp-suc m n = grind (arith, nat_tests)

pub by_place : (Fss : List (List Field)) (c d : Choice Fss) → by Less Greater Fss (no_fields Fss) c d ≡ nat_cmp (place Fss c) (place Fss d)
by_place [] c d = absurd c
by_place (Fs ∷ Fss) (inl x) (inl y) = refl
by_place (Fs ∷ Fss) (inl x) (inr y) = nat_cmp_is 0 (suc (place Fss y)) Less (omega arith)
by_place (Fs ∷ Fss) (inr x) (inl y) = nat_cmp_is (suc (place Fss x)) 0 Greater (omega arith)
by_place (Fs ∷ Fss) (inr x) (inr y) = by_place Fss x y ∙ nat_cmp-suc (place Fss x) (place Fss y)
