use Rattle.std.proofs.Common.{arith}
use Rattle.std.proofs.lemmas.Grind.{common_steps}
use Rattle.v_parser.proofs.Taking.{high_here}
use Rattle.v_parser.proofs.cursor.Parser.high.Goals as goal

pub returns-else-value-gt127-clause-ok : goal.returns-else-value-gt127-clause-ok
returns-else-value-gt127-clause-ok c = high_here c.self.inside.bytes.now c.text.result.now c.in-Some.first c.capped-value.result c.args.self.now _ c.in-Dec.is c.text.ensures (grind (arith, common_steps)) c.capped-value.ensures c.if-value-eq0.false c.if-value-gt127.false
