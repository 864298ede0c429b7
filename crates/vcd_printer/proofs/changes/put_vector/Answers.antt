use Rattle.std.specs.Option.{option_copied}
use Rattle.std.proofs.Common.{sym, ap}
use Rattle.rb_edge.proofs.Flowing.{and_then, stopped, of_bytes}
use Rattle.vcd_syntax.specs.Dump.{vector_text}
use Rattle.vcd_printer.proofs.Lines.{values_text, vector_is}
use Rattle.vcd_printer.proofs.changes.put_vector.Goals as goal

pub returns-in_err-put_time : goal.returns-in_err-put_time
returns-in_err-put_time g c = of_bytes _ _ (vector_is c.args.at c.args.pins.now (option_copied c.args.before) c.args.now.now)
    (stopped (values_text c.args.pins.now (option_copied c.args.before) c.args.now.now) c.from_residual.result c.from_residual.ensures.0 c.in_err-put_time.ensures)

pub returns-in-None : goal.returns-in-None
returns-in-None g c = of_bytes _ _ (ap (λ b. vector_text c.args.at c.args.pins.now (option_copied b) c.args.now.now) (sym c.in-None.is)) (and_then c.in_ok-put_time.ensures c.put_first.ensures)

pub returns-in-Some : goal.returns-in-Some
returns-in-Some g c = of_bytes _ _ (ap (λ b. vector_text c.args.at c.args.pins.now (option_copied b) c.args.now.now) (sym c.in-Some.is)) (and_then c.in_ok-put_time.ensures c.put_changed.ensures)
