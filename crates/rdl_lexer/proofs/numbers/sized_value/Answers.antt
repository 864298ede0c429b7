use Rattle.std.proofs.Common.{◌<◌, subst, inl, inr, sym, ap, ◌∙◌, arith}
use Rattle.rdl_lexer.specs.Numbers.{value_of_size, digits_of}
use Rattle.std.specs.Str.Parse.{digits_value}
use Rattle.rdl_lexer.proofs.Sizes.{value_some, value_none, bad_size, good_size}
use Rattle.rdl_lexer.proofs.numbers.sized_value.Goals.{then-bits-eq0-via-then-bits-eq0, then-bits-eq0-via-else-bits-eq0+then-bits-gt64}
use Rattle.rdl_lexer.proofs.numbers.sized_value.Goals as goal

pub returns-in_err-bits : goal.returns-in_err-bits
returns-in_err-bits c =
    let large : 64 < digits_value 10 (digits_of c.args.size.now) = omega (arith, value_none 7 c.args.size.now c.requires (sym c.in_err-bits.ensures)) in
    c.from_residual.ensures ∙ bad_size _ c.args.based.now (inr large)

pub returns-then-bits-eq0 : goal.returns-then-bits-eq0
returns-then-bits-eq0 c =
    let size = value_some 7 10 c.args.size.now c.in_ok-bits.bits (sym c.in_ok-bits.ensures) in
    elim c.then-bits-eq0.branch [
      | then-bits-eq0-via-then-bits-eq0 w ↦ bad_size _ c.args.based.now (inl (sym size ∙ w.if-bits-eq0.true))
      | then-bits-eq0-via-else-bits-eq0+then-bits-gt64 w ↦ bad_size _ c.args.based.now (inr (subst (λ n. 64 < n) size w.if-bits-gt64.true))
    ]

pub returns-in_ok-base-in-len1-up : goal.returns-in_ok-base-in-len1-up
returns-in_ok-base-in-len1-up c =
    let size = value_some 7 10 c.args.size.now c.in_ok-bits.bits (sym c.in_ok-bits.ensures) in
    c.value_of-in-len1-up.ensures ∙ (good_size c.in_ok-bits.bits c.in_ok-base-in-len1-up.base c.args.based.now c.if-bits-eq0.false c.if-bits-gt64.false c.in-len1-up.len_at_least c.in_ok-base-in-len1-up.ensures.value ∙ ap (λ n. value_of_size n c.args.based.now) size)
