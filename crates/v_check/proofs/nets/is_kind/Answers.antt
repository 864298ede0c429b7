use Rattle.std.proofs.Common.{Some, None, slice_get, ap, ◌∙◌}
use Rattle.v_check.specs.Nets.{kind_seen}
use Rattle.v_check.proofs.Tables.{has-found, net-number}
use Rattle.v_check.proofs.nets.is_kind.Goals as goal

pub returns-in-Some : goal.returns-in-Some
returns-in-Some c = λ n is once.
    let nets = c.args.nets.now in
    c.is.ensures ∙ has-found nets (Some c.in-Some.net) (kind_seen c.args.kind) n (c.in-Some.ensures ∙ (ap (slice_get nets) is ∙ net-number nets n)) once

pub returns-in-None : goal.returns-in-None
returns-in-None c = λ n is once.
    let nets = c.args.nets.now in
    has-found nets None (kind_seen c.args.kind) n (c.in-None.ensures ∙ (ap (slice_get nets) is ∙ net-number nets n)) once
