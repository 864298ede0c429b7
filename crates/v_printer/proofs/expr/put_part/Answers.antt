use Rattle.std.proofs.Common.{◌≡◌, ◌∙◌, sym}
use Rattle.rtl_net.specs.Net.{width_in}
use Rattle.v_printer.specs.Module.{node_name}
use Rattle.v_printer.proofs.Choices.{only_bit_is, bit_is, bits_are, part_is, bits_text}
use Rattle.rb_edge.proofs.Flowing.{and_then, stopped, of_bytes}
use Rattle.v_printer.proofs.expr.put_part.Goals as goal

pub returns-then-width-eq1 : goal.returns-then-width-eq1
returns-then-width-eq1 g c =
    let w : c.width.result ≡ width_in c.args.net.now c.args.a = c.width.ensures.operand c.requires.1 in
    of_bytes _ _ (only_bit_is (width_in c.args.net.now c.args.a) (node_name c.args.net.now.nodes c.args.a.0) c.args.hi c.args.lo (sym w ∙ c.if-width-eq1.true)) c.put_only_bit.ensures

pub returns-in_err-put_name : goal.returns-in_err-put_name
returns-in_err-put_name g c =
    let w : c.width.result ≡ width_in c.args.net.now c.args.a = c.width.ensures.operand c.requires.1 in
    let wide : width_in c.args.net.now c.args.a ≡ 1 → ⊥ = λ e. c.if-width-eq1.false (w ∙ e) in
    of_bytes _ _ (part_is (width_in c.args.net.now c.args.a) (node_name c.args.net.now.nodes c.args.a.0) c.args.hi c.args.lo wide) (stopped (bits_text c.args.hi c.args.lo) c.from_residual.result c.from_residual.ensures.0 c.in_err-put_name.ensures)

pub returns-then-hi-lo : goal.returns-then-hi-lo
returns-then-hi-lo g c =
    let w : c.width.result ≡ width_in c.args.net.now c.args.a = c.width.ensures.operand c.requires.1 in
    let wide : width_in c.args.net.now c.args.a ≡ 1 → ⊥ = λ e. c.if-width-eq1.false (w ∙ e) in
    of_bytes _ _ (bit_is (width_in c.args.net.now c.args.a) (node_name c.args.net.now.nodes c.args.a.0) c.args.hi c.args.lo wide c.if-hi-lo.true) (and_then c.in_ok-put_name.ensures c.put_bit.ensures)

pub returns-else-hi-lo : goal.returns-else-hi-lo
returns-else-hi-lo g c =
    let w : c.width.result ≡ width_in c.args.net.now c.args.a = c.width.ensures.operand c.requires.1 in
    let wide : width_in c.args.net.now c.args.a ≡ 1 → ⊥ = λ e. c.if-width-eq1.false (w ∙ e) in
    of_bytes _ _ (bits_are (width_in c.args.net.now c.args.a) (node_name c.args.net.now.nodes c.args.a.0) c.args.hi c.args.lo wide c.if-hi-lo.false) (and_then c.in_ok-put_name.ensures c.put_bits.ensures)
