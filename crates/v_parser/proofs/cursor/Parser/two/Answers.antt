use Rattle.std.proofs.Common.{refl}
use Rattle.v_parser.proofs.cursor.Parser.two.Goals as goal

pub returns-clause-seen : goal.returns-clause-seen
returns-clause-seen c = rw (c.in_ok-left.ensures.ok, c.in_ok-right.ensures.ok) refl
