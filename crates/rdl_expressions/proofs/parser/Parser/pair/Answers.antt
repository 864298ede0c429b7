use Rattle.std.proofs.Common.{refl}
use Rattle.rdl_expressions.proofs.parser.Parser.pair.Goals as goal

pub returns-clause-is : goal.returns-clause-is
returns-clause-is c = record { first = c.in_ok-first.first; second = c.in_ok-second.second; before = c.in_ok-first.ensures.is; behind = c.in_ok-second.ensures.is; is = refl }
