use Rattle.std.proofs.Common.{◌∙◌, ap, map}
use Rattle.rdl_settle.proofs.Naming.{named}
use Rattle.rdl_settle.proofs.names.names_of.Goals as goal

pub returns : goal.returns
returns c = λ e open_.
    named e c.args.tree (record { tables = c.into_tables.result; numbers = c.in_ok-numbers.numbers; bodies = c.in_ok-own.own }) (ap (λ v. v.items) c.into_tables.ensures) c.in_ok-numbers.ensures
    (c.in_ok-own.ensures ∙ ap (map (λ o. o.body)) c.deref.ensures.value) open_
