use Rattle.std.proofs.Common.{◌≡◌, ℕ, List, false, Option, Some, None, IfSome, nat_eq, codes, sym, subst, ◌∙◌}
use Rattle.std.specs.List.{starts_with}
use Rattle.stim_csv.specs.Plain.{Leads, IsCellAhead}
use Rattle.stim_csv.proofs.Ahead.{past, decimal, hexadecimal}
use Rattle.stim_csv.proofs.cells.cell_ahead.Goals as goal

each : (text : List ℕ) (o : Option (ℕ × ℕ)) → starts_with nat_eq text (codes "0x") ≡ false → IfSome o (λ r. Leads 10 text r.0 r.1) → IfSome o (λ r. IsCellAhead text r.0 r.1)
each text None h lead = tt
each text (Some r) h lead = decimal text r.0 r.1 h lead

pub returns-in_ok-number : goal.returns-in_ok-number
returns-in_ok-number c = hexadecimal c.args.text.now c.in_ok-number.number c.in_ok-number.count (sym c.starts_with.ensures.value ∙ c.if-starts_with.true)
    (subst (λ t. Leads 16 t c.in_ok-number.number c.in_ok-number.count) (past c.args.text.now 2) c.in_ok-number.ensures)

pub returns-else-starts_with : goal.returns-else-starts_with
returns-else-starts_with c = each c.args.text.now c.leading_numeral-else-starts_with.result (sym c.starts_with.ensures.value ∙ c.if-starts_with.false) c.leading_numeral-else-starts_with.ensures
