use Rattle.std.proofs.Common.{Some, None, slice_get, ◌∙◌, ap, ◌&&◌, ◌==◌}
use Rattle.v_check.proofs.Tables.{net-number, pin-found}
use Rattle.v_check.proofs.nets.is_pin.Goals as goal

pub returns-then-is : goal.returns-then-is
returns-then-is c = λ n is once.
    let nets = c.args.nets.now in
    ap (λ b. b && c.in-Some.net.width == 1) c.if-is.ensures ∙ pin-found nets (Some c.in-Some.net) n (c.in-Some.ensures ∙ (ap (slice_get nets) is ∙ net-number nets n)) once

pub returns-else-is : goal.returns-else-is
returns-else-is c = λ n is once.
    let nets = c.args.nets.now in
    c.if-is.false ∙ (ap (λ b. b && c.in-Some.net.width == 1) c.if-is.ensures ∙ pin-found nets (Some c.in-Some.net) n (c.in-Some.ensures ∙ (ap (slice_get nets) is ∙ net-number nets n)) once)

pub returns-in-None : goal.returns-in-None
returns-in-None c = λ n is once.
    let nets = c.args.nets.now in
    pin-found nets None n (c.in-None.ensures ∙ (ap (slice_get nets) is ∙ net-number nets n)) once
