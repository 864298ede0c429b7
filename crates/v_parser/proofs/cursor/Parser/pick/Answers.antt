use Rattle.std.proofs.Common.{refl}
use Rattle.v_parser.proofs.cursor.Parser.pick.Goals as goal

pub returns-clause-seen : goal.returns-clause-seen
returns-clause-seen c = rw (c.in_ok-test.ensures.ok, c.in_ok-chosen.ensures.ok, c.in_ok-other.ensures.ok) refl
