use Rattle.rb_base.proofs.Fields.{bit_at-part}
use Rattle.rb_base.proofs.laws.bits_of_part.Goals as goal

pub returns-clause-bits : goal.returns-clause-bits
returns-clause-bits c = bit_at-part
