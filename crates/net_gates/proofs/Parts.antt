-- Bits cut and put together.
use Rattle.std.proofs.Common.{◌≡◌, ℕ, ◌+◌, ◌-◌, ◌*◌, ◌%◌, ◌<◌, ◌≤◌, ◌^◌, sym, ◌∙◌, ap, arith}
use Rattle.std.proofs.lemmas.Nat.{pow-add, pow_pos}
use Rattle.std.proofs.Math.Nat.{mod-eq_of_lt, div-one, pow-le-pow_right, mul-lt-mul_of_pos_right}
use Rattle.rb_base.specs.Bits.{part}
use Rattle.rtl_net.proofs.Nets.{Grows-refl, Grows-trans, fits_at}
use Rattle.plain_lemmas.proofs.Numbers.{times_power-below as raised_below}

pub part_whole : (x hi : ℕ) → x < 2 ^ (hi + 1) → x ≡ part x hi 0
part_whole x hi l =
    let e : hi - 0 + 1 ≡ hi + 1 = omega arith in
    rw e (sym (ap (λ y. y % 2 ^ (hi + 1)) (div-one x) ∙ mod-eq_of_lt l))

pub below_wider : (x w u : ℕ) → x < 2 ^ w → w ≤ u → x < 2 ^ u
below_wider x w u l h = let p : 2 ^ w ≤ 2 ^ u = pow-le-pow_right (omega arith) h in omega arith

pub ruleset parts = (Grows-refl, Grows-trans, part_whole, below_wider, raised_below, fits_at)
