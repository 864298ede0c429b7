use Rattle.std.proofs.Common.{arith, sym}
use Rattle.std.proofs.lemmas.Grind.{common_steps}
use Rattle.v_syntax.specs.Tokens.{spotted}
use Rattle.v_parser.proofs.Taking.{quoted_taken}
use Rattle.v_parser.proofs.cursor.Parser.eat.Goals as goal

pub returns-then-is_quoted : goal.returns-then-is_quoted
returns-then-is_quoted c = quoted_taken c.args.text.now (spotted c.self.inside.bytes.now c.in_ok-first.field-0.now) c.args.self.now _ (grind (arith, common_steps)) (sym c.if-is_quoted.ensures)
