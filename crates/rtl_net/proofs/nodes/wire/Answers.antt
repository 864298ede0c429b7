use Rattle.std.proofs.Common.{◌≡◌, ◌∙◌, sym, None, rules}
use Rattle.rtl_net.proofs.WireLists.{on_err, wires_forgotten}
use Rattle.rtl_net.proofs.nodes.wire.Goals as goal

pub returns-then-is_err-clause-same_wires : goal.returns-then-is_err-clause-same_wires
returns-then-is_err-clause-same_wires c =
    let none : c.in_ok-id.field-0 ≡ None = search rules in
    let e = c.in_ok-id.ensures in
    on_err _ _ (wires_forgotten c.args.wires.now c.note.new.self c.forget.new.self c.args.expr _ (sym e.old ∙ none) (e.put none) c.forget.ensures)
