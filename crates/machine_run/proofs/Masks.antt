-- A mask over a value that doesn't change leaves it as it is.
use Rattle.std.proofs.Common.{◌≡◌, ℕ, ◌+◌, ◌^◌, ◌<◌, bit_and, bit_or, refl, ap, sym, ◌∙◌, arith}
use Rattle.std.specs.Int.Bits.{or_add_and, and_self, and_zero_l, and_zero_r}
use Rattle.std.proofs.lemmas.Nat.{and-not, and_assoc, and_comm}
use Rattle.rb_model.specs.declared.kinds.Mask.{Mask}
use Rattle.rb_model.specs.declared.kinds.Mask.TheVariants as mask
use Rattle.rb_model.specs.Effects.{masked, turned}

-- the bits of v where x is 1, and where it is 0
module _ (w v x : ℕ) (fits : v < 2 ^ w) (wide : x < 2 ^ w) where
  abbrev here : ℕ
  here = bit_and v x

  abbrev there : ℕ
  there = bit_and v (turned w x)

  no_bit : bit_and x (turned w x) ≡ 0
  no_bit =
      let sum : bit_and (turned w x) x + bit_and x x ≡ x = and-not w x x wide wide in
      let self : bit_and x x ≡ x = and_self x in
      let none : bit_and (turned w x) x ≡ 0 = omega (arith, sum, self) in
      and_comm x (turned w x) ∙ none

  apart : bit_and here there ≡ 0
  apart =
      and_assoc there v x
      ∙ (ap (bit_and v) (ap (bit_and x) (and_comm v (turned w x)) ∙ (sym (and_assoc v x (turned w x)) ∙ (ap (λ y. bit_and y v) no_bit ∙ and_zero_l v)))
      ∙ and_zero_r v)

  whole : here + there ≡ v
  whole =
      let sum : bit_and (turned w x) v + bit_and x v ≡ v = and-not w x v wide fits in
      let l : here ≡ bit_and x v = and_comm v x in
      let r : there ≡ bit_and (turned w x) v = and_comm v (turned w x) in
      omega (arith, sum, l, r)

  joined : bit_or here there ≡ v
  joined =
      let sum : bit_or here there + bit_and here there ≡ here + there = or_add_and here there in
      let none : bit_and here there ≡ 0 = apart in
      let all : here + there ≡ v = whole in
      omega (arith, sum, none, all)

  turned_joined : bit_or there here ≡ v
  turned_joined =
      let sum : bit_or there here + bit_and there here ≡ there + here = or_add_and there here in
      let none : bit_and there here ≡ 0 = and_comm there here ∙ apart in
      let all : here + there ≡ v = whole in
      omega (arith, sum, none, all)

pub mask_rests : (w x bits : ℕ) → x < 2 ^ w → (q : Mask) → bits < 2 ^ w → masked q w x x bits ≡ x
mask_rests w x bits h mask.Off g = refl
mask_rests w x bits h (mask.Enable i) g = joined w x bits h g
mask_rests w x bits h (mask.Mask i) g = turned_joined w x bits h g
