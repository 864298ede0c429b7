use Rattle.std.proofs.Common.{[], ap, sym, subst, ◌∙◌, arith}
use Rattle.vcd_syntax.specs.Faulty.{Misformed}
use Rattle.vcd_syntax.specs.Reading.{IsFirst}
use Rattle.vcd_syntax.proofs.Steps.{no_end}
use Rattle.vcd_syntax.specs.Reads.{Reads}
use Rattle.vcd_syntax.specs.Meaning.{pins_by}
use Rattle.vcd_reader.proofs.Stepping.{none_of}
use Rattle.vcd_reader.proofs.Ending.{table_is, lacks, pin_within}
use Rattle.vcd_reader.proofs.said.Said.end.Goals as goal

pub returns-in_default-clause-problem : goal.returns-in_default-clause-problem
returns-in_default-clause-problem c = λ n text h e. subst (λ z. IsFirst text Misformed z) (sym e) (no_end text c.args.self.state h.known c.args.self.last.place.0 h.reads c.in_default.not-Entries)

pub overflow_cast-result : goal.overflow_cast-result
overflow_cast-result c =
    let text = c.requires.0 in
    let h = c.requires.1 in
    let below = pin_within text c.args.self.variables h.known c.args.self.state c.args.self.last.place.0 c.args.self.rows c.close.new.self c.in-Some.pin h.reads h.variables h.rows
    c.in_ok-close.ensures c.in-Some.is in
    omega (arith, below, c.requires.3)

pub returns-in-Some-clause-problem : goal.returns-in-Some-clause-problem
returns-in-Some-clause-problem c = λ n text h e.
    lacks text c.args.self.variables h.known c.args.self.last.place.0 c.args.self.rows c.close.new.self c.in-Some.pin (subst (λ z. Reads text [] z h.known c.args.self.last.place.0) c.in-Entries.is h.reads) h.variables h.rows
    c.in_ok-close.ensures c.in-Some.is

pub invariant_of-result : goal.invariant_of-result
invariant_of-result c =
    let text = c.requires.0 in
    let h = c.requires.1 in
    (table_is text c.args.self.variables h.known c.args.self.last.place.0 c.args.self.rows c.close.new.self c.in_ok-pins.pins.items (subst (λ z. Reads text [] z h.known c.args.self.last.place.0) c.in-Entries.is h.reads) h.variables h.rows
    c.in_ok-close.ensures (none_of c.close.new.self.missing c.in_default-missing.not-Some)
    (c.in_ok-pins.ensures ∙ ap (pins_by c.args.self.variables.names) c.deref.ensures.value)).0

pub returns-clause-table : goal.returns-clause-table
returns-clause-table c = λ text h.
    (table_is text c.args.self.variables h.known c.args.self.last.place.0 c.args.self.rows c.close.new.self c.in_ok-pins.pins.items (subst (λ z. Reads text [] z h.known c.args.self.last.place.0) c.in-Entries.is h.reads) h.variables h.rows
    c.in_ok-close.ensures (none_of c.close.new.self.missing c.in_default-missing.not-Some)
    (c.in_ok-pins.ensures ∙ ap (pins_by c.args.self.variables.names) c.deref.ensures.value)).1
