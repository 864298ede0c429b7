use Rattle.std.specs.Prelude.{Option}
use Rattle.std.proofs.Common.{◌≡◌, ℕ, List, drop, ap, ◌∙◌}
use Rattle.vcd_syntax.specs.Words.{decimal_value}
use Rattle.vcd_syntax.specs.Numbers.{within}
use Rattle.vcd_reader.specs.declared.rows.Came.{Came}
use Rattle.vcd_reader.specs.Rows.{came_by}
use Rattle.vcd_reader.proofs.Taking.{time_goes}
use Rattle.vcd_reader.proofs.said.Said.time.Goals as goal

came_as : (last : Option ℕ) (times n : ℕ) (time : Option ℕ) (tail word : List ℕ) (came : Came) → came ≡ came_by last times time n → time ≡ within 64 (decimal_value tail) → tail ≡ drop 1 word → came ≡ came_by last times (within 64 (decimal_value (drop 1 word))) n
came_as last times n time tail word came e f g = e ∙ ap (λ z. came_by last times z n) (f ∙ ap (λ z. within 64 (decimal_value z)) g)

pub returns-in_ok-come-in-Next-clause-on : goal.returns-in_ok-come-in-Next-clause-on
returns-in_ok-come-in-Next-clause-on c = λ k h.
    let r = c.args.self.now.rows in
    let v = c.args.self.now.variables in
    time_goes v r c.come.new.self c.args.word.text.now c.len.result c.in-Next.time k h.variables h.rows c.len.ensures
    (came_as r.last r.times c.len.result c.decimal-time.result c.tail.result.now c.args.word.text.now _ c.in-Next.ensures c.decimal-time.ensures c.tail.ensures)
    c.in_ok-come-in-Next.ensures
