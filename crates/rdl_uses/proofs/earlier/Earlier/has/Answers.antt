use Rattle.std.proofs.Common.{◌∙◌, ap, is_some}
use Rattle.rdl_values.proofs.Named.{any-named, firsts-some}
use Rattle.rdl_uses.specs.Before.{names_of_uses}
use Rattle.rdl_uses.proofs.earlier.Earlier.has.Goals as goal

pub returns : goal.returns
returns c = λ us h. c.is_some.ensures ∙ ap is_some c.find.ensures ∙ firsts-some c.args.self.now.places (names_of_uses us) c.args.name.now.text.now h.places ∙ any-named (λ u. u.name.text.now) c.args.name.now.text.now us
