use Rattle.std.proofs.Common.{codes, ◌++◌}
use Rattle.v_design.specs.Tree.{dir_word}
use Rattle.v_design.specs.Header.{range_text}
use Rattle.v_printer.specs.Module.{side_of}
use Rattle.rb_edge.proofs.Flowing.{and_then, stopped, of_bytes}
use Rattle.v_printer.proofs.module.put_port.Goals as goal

pub returns-in_err-put : goal.returns-in_err-put
returns-in_err-put g c = stopped (dir_word (side_of c.args.taken) ++ (codes " " ++ (range_text c.args.width ++ (c.args.name.now)))) c.from_residual.result c.from_residual.ensures.0 c.in_err-put.ensures

pub returns-in_err-put-2 : goal.returns-in_err-put-2
returns-in_err-put-2 g c = and_then c.in_ok-put.ensures (stopped (codes " " ++ (range_text c.args.width ++ (c.args.name.now))) c.from_residual-in_err-put-2.result c.from_residual-in_err-put-2.ensures.0 (of_bytes c.side_word.result.now (dir_word (side_of c.args.taken)) c.side_word.ensures c.in_err-put-2.ensures))

pub returns-in_err-put-3 : goal.returns-in_err-put-3
returns-in_err-put-3 g c = and_then c.in_ok-put.ensures (and_then (of_bytes c.side_word.result.now (dir_word (side_of c.args.taken)) c.side_word.ensures c.in_ok-put-2.ensures) (stopped (range_text c.args.width ++ (c.args.name.now)) c.from_residual-in_err-put-3.result c.from_residual-in_err-put-3.ensures.0 c.in_err-put-3.ensures))

pub returns-in_err-put_range : goal.returns-in_err-put_range
returns-in_err-put_range g c = and_then c.in_ok-put.ensures (and_then (of_bytes c.side_word.result.now (dir_word (side_of c.args.taken)) c.side_word.ensures c.in_ok-put-2.ensures) (and_then c.in_ok-put-3.ensures (stopped (c.args.name.now) c.from_residual-in_err-put_range.result c.from_residual-in_err-put_range.ensures.0 c.in_err-put_range.ensures)))

pub returns : goal.returns
returns g c = and_then c.in_ok-put.ensures (and_then (of_bytes c.side_word.result.now (dir_word (side_of c.args.taken)) c.side_word.ensures c.in_ok-put-2.ensures) (and_then c.in_ok-put-3.ensures (and_then c.in_ok-put_range.ensures c.put-4.ensures)))
