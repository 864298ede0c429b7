use Rattle.std.proofs.Common.{arith}
use Rattle.std.proofs.lemmas.Grind.{common_steps}
use Rattle.v_parser.proofs.Taking.{constant_here}
use Rattle.v_parser.proofs.cursor.Parser.eat_constant.Goals as goal

pub returns-in-Const : goal.returns-in-Const
returns-in-Const c = constant_here c.self.inside.bytes.now c.text.result.now c.in_ok-first.field-0.now c.constant_in.result c.args.self.now _ c.in-Const.is c.text.ensures (grind (arith, common_steps)) c.constant_in.ensures
