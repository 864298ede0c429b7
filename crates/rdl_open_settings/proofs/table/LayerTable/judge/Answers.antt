use Rattle.std.proofs.Common.{◌∙◌, ap, is_some, sym}
use Rattle.rdl_open_settings.proofs.Knowing.{can_read, known_again, known_new}
use Rattle.plain_lemmas.proofs.Options.{some_copied}
use Rattle.rdl_open_settings.proofs.table.LayerTable.judge.Goals as goal

pub returns-then-is_some-clause-known : goal.returns-then-is_some-clause-known
returns-then-is_some-clause-known c = known_again c.args.bodies.now c.args.self.now c.args.failures.now c.args.number c.requires.kept (ap is_some (sym c.find.ensures) ∙ some_copied c.find.result ∙ sym c.is_some.ensures ∙ c.if-is_some.true)

pub judge-requires-clause-some : goal.judge-requires-clause-some
judge-requires-clause-some c = can_read c.args.bodies.now c.args.number c.in-Some.body c.requires.some (sym c.body.ensures ∙ c.in-Some.is)

pub returns-clause-known : goal.returns-clause-known
returns-clause-known c =
    known_new c.args.bodies.now c.args.self.now (record { list = c.insert.new.self }) c.args.failures.now c.judge.new.failures c.args.number c.in-Some.body c.in_ok-layers.layers c.requires.kept
    (ap is_some (sym c.find.ensures) ∙ some_copied c.find.result ∙ sym c.is_some.ensures ∙ c.if-is_some.false) (sym c.body.ensures ∙ c.in-Some.is) c.in_ok-insert.ensures.updates c.in_ok-layers.ensures.noted c.in_ok-layers.ensures.given
