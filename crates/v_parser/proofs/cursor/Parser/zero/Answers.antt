use Rattle.std.proofs.Common.{arith}
use Rattle.std.proofs.lemmas.Grind.{common_steps}
use Rattle.v_parser.proofs.Taking.{zero_here}
use Rattle.v_parser.proofs.cursor.Parser.zero.Goals as goal

pub returns-in-Dec-clause-ok : goal.returns-in-Dec-clause-ok
returns-in-Dec-clause-ok c = zero_here c.self.inside.bytes.now c.text.result.now c.in-Some.first c.capped.result c.args.self.now _ c.in-Dec.is c.text.ensures (grind (arith, common_steps)) c.capped.ensures c.if-capped-eq0.true
