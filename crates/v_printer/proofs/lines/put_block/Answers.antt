use Rattle.std.proofs.Common.{◌++◌}
use Rattle.v_printer.specs.Module.{node_name}
use Rattle.v_printer.specs.Layout.{reset_value_text, next_text}
use Rattle.v_printer.proofs.Choices.{block_is}
use Rattle.rb_edge.proofs.Flowing.{and_then, stopped, of_bytes}
use Rattle.v_printer.proofs.lines.put_block.Goals as goal

pub returns-in_err-put_reset-in-Async : goal.returns-in_err-put_reset-in-Async
returns-in_err-put_reset-in-Async g c = of_bytes _ _ (block_is c.args.net.now c.args.name.now c.args.width c.args.reset c.args.next c.in-Async.pin c.in-Async.low c.in-Async.value c.in-Async.is)
    (stopped (reset_value_text c.args.name.now c.args.width c.in-Async.value ++ next_text c.args.name.now (node_name c.args.net.now.nodes c.args.next.0)) c.from_residual.result c.from_residual.ensures.0 c.in_err-put_reset-in-Async.ensures)

pub returns-in_ok-put_reset-in-Async : goal.returns-in_ok-put_reset-in-Async
returns-in_ok-put_reset-in-Async g c = of_bytes _ _ (block_is c.args.net.now c.args.name.now c.args.width c.args.reset c.args.next c.in-Async.pin c.in-Async.low c.in-Async.value c.in-Async.is)
    (and_then c.in_ok-put_reset-in-Async.ensures c.put_branches.ensures)
