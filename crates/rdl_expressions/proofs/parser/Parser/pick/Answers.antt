use Rattle.std.proofs.Common.{refl}
use Rattle.rdl_expressions.proofs.parser.Parser.pick.Goals as goal

pub returns-clause-is : goal.returns-clause-is
returns-clause-is c = record { first = c.in_ok-first.first; second = c.in_ok-second.second; third = c.in_ok-third.third; asked = c.in_ok-first.ensures.is; chosen = c.in_ok-second.ensures.is; other = c.in_ok-third.ensures.is; is = refl }
