use Rattle.std.proofs.Common.{◌≡◌, ℕ, List, true, false, refl, ◌∙◌, sym, ap, nat_eq, take, drop, length, ◌-◌, arith, codes}
use Rattle.std.specs.List.{starts_with}
use Rattle.std.proofs.lemmas.List.{take_all, length-drop}
use Rattle.stim_csv.specs.Numeral.{cell_value, cell_of, numeral_value}
use Rattle.stim_csv.proofs.cells.cell.Goals as goal

prefixed : (text : List ℕ) → starts_with nat_eq text (codes "0x") ≡ true → cell_value text ≡ numeral_value 16 (drop 2 text)
unfolding cell_value
prefixed text h = rw h refl

plain : (text : List ℕ) → starts_with nat_eq text (codes "0x") ≡ false → cell_value text ≡ numeral_value 10 text
unfolding cell_value
plain text h = rw h refl

-- all that stands past a place
past : (text : List ℕ) (n : ℕ) → take (length text - n) (drop n text) ≡ drop n text
past text n = take_all (length text - n) (drop n text) (omega (arith, length-drop n text))

pub returns-then-starts_with : goal.returns-then-starts_with
returns-then-starts_with c =
    let e = prefixed c.args.text.now (sym c.starts_with.ensures.value ∙ c.if-starts_with.true) in
    c.numeral.ensures ∙ ap (λ digits. cell_of (numeral_value 16 digits)) (past c.args.text.now 2) ∙ ap cell_of (sym e)

pub returns-else-starts_with : goal.returns-else-starts_with
returns-else-starts_with c =
    let e = plain c.args.text.now (sym c.starts_with.ensures.value ∙ c.if-starts_with.false) in
    c.numeral-else-starts_with.ensures ∙ ap cell_of (sym e)
