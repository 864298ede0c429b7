use Rattle.std.proofs.Common.{◌≡◌, ℕ, List, ◌∷◌, drop, inl, inr, sym}
use Rattle.rdl_lexer.proofs.NumberFronts.{decimal_front, decimal_number, plain_behind, hexadecimal_number, sized_number}
use Rattle.rdl_lexer.proofs.numbers.number_at.Goals.{then-size-text-via-then-size-text, then-size-text-via-else-size-text+then-text-size-ne39}
use Rattle.rdl_lexer.proofs.numbers.number_at.Goals as goal

pub returns-then-begins_hexadecimal : goal.returns-then-begins_hexadecimal
returns-then-begins_hexadecimal c = hexadecimal_number c.hexadecimal_len-len.result c.args.text.now c.value_of.result c.requires.bare (sym c.if-begins_hexadecimal.ensures) c.hexadecimal_len-len.ensures c.value_of.ensures

pub returns-then-size-text : goal.returns-then-size-text
returns-then-size-text c =
    let size = c.decimal_len-size.result in
    let text = c.args.text.now in
    let plain : (rest : List ℕ) → drop size text ≡ 39 ∷ rest → ⊥ = elim c.then-size-text.branch [
      | then-size-text-via-then-size-text w ↦ plain_behind size text (inl w.if-size-text.true)
      | then-size-text-via-else-size-text+then-text-size-ne39 w ↦ plain_behind size text (inr (w.if-size-text.false, w.if-text-size-ne39.true))
    ] in
    decimal_number size text c.value_of-then-size-text.result c.requires.bare c.requires.digit (sym c.if-begins_hexadecimal.ensures) c.decimal_len-size.ensures plain c.value_of-then-size-text.ensures

pub sized_value-requires : goal.sized_value-requires
sized_value-requires c = decimal_front c.decimal_len-size.result c.args.text.now c.requires.digit c.decimal_len-size.ensures

pub returns : goal.returns
returns c = sized_number c.decimal_len-size.result c.based_len-len.result c.args.text.now c.sized_value.result c.requires.bare c.requires.digit (sym c.if-begins_hexadecimal.ensures) c.decimal_len-size.ensures c.if-size-text.false c.if-text-size-ne39.false c.based_len-len.ensures.within c.based_len-len.ensures.based c.based_len-len.ensures.longest c.sized_value.ensures
