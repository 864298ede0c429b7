use Rattle.std.proofs.Common.{Some, None, slice_get, ◌∙◌, ap}
use Rattle.v_check.proofs.Tables.{net-number, width-found}
use Rattle.v_check.proofs.nets.width_at.Goals as goal

pub returns-in-Some : goal.returns-in-Some
returns-in-Some c = λ n is.
    let nets = c.args.nets.now in
    width-found nets (Some c.in-Some.net) n (c.in-Some.ensures ∙ (ap (slice_get nets) is ∙ net-number nets n))

pub returns-in-None : goal.returns-in-None
returns-in-None c = λ n is.
    let nets = c.args.nets.now in
    width-found nets None n (c.in-None.ensures ∙ (ap (slice_get nets) is ∙ net-number nets n))
