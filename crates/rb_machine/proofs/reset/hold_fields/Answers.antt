use Rattle.std.proofs.Common.{refl}
use Rattle.rb_machine.proofs.reset.hold_fields.Goals as goal

pub returns-then-not-is_reset-clause-reset : goal.returns-then-not-is_reset-clause-reset
returns-then-not-is_reset-clause-reset c k f here = rw (c.requires.calm c.if-not-is_reset.true k f here) refl
