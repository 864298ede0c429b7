use Rattle.std.proofs.Common.{◌≡◌, slice_get, Some, length, ap, arith}
use Rattle.rtl_net.proofs.Places.{read_at}
use Rattle.v_printer.specs.Layout.{line_text}
use Rattle.rb_edge.proofs.Flowing.{and_then, stopped, nothing, of_bytes}
use Rattle.v_printer.proofs.Sections.{more_lines, lines_left, all_lines, last_lines}
use Rattle.v_printer.proofs.lines.put_section.Goals as goal

pub loop-at-init : goal.loop-at-init
loop-at-init g c = nothing _ _ _ tt

pub returns-in_err-put_line : goal.returns-in_err-put_line
returns-in_err-put_line g c =
    let nodes = c.args.net.now.nodes in
    let f = line_text c.args.net.now c.args.section in
    let item : slice_get nodes c.loop-at.at ≡ Some c.node-item.result = read_at c.nodes-node-items.result.now nodes c.loop-at.at c.node-item.result c.nodes-node-items.ensures.value c.loop-at-test.true c.node-item.is in
    of_bytes _ _ (all_lines f nodes c.loop-at.at c.node-item.result item)
    (and_then c.loop-at.invariant (stopped {xs = f c.loop-at.at c.node-item.result} (lines_left f nodes c.loop-at.at c.node-item.result item) c.from_residual.result c.from_residual.ensures.0 c.in_err-put_line.ensures))

pub loop-at-preserved : goal.loop-at-preserved
loop-at-preserved g c =
    let nodes = c.args.net.now.nodes in
    let f = line_text c.args.net.now c.args.section in
    let item : slice_get nodes c.loop-at.at ≡ Some c.node-item.result = read_at c.nodes-node-items.result.now nodes c.loop-at.at c.node-item.result c.nodes-node-items.ensures.value c.loop-at-test.true c.node-item.is in
    of_bytes _ _ (more_lines f nodes c.loop-at.at c.node-item.result item) (and_then c.loop-at.invariant c.in_ok-put_line.ensures)

pub returns : goal.returns
returns g c = of_bytes _ _ (last_lines (line_text c.args.net.now c.args.section) c.args.net.now.nodes c.loop-at.at (omega (arith, ap length c.nodes-node-items.ensures.value))) c.loop-at.invariant
