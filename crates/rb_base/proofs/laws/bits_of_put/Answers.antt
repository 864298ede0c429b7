use Rattle.rb_base.proofs.Fields.{part-put, bit_at-put_other, put-below}
use Rattle.rb_base.proofs.laws.bits_of_put.Goals as goal

pub returns-clause-part : goal.returns-clause-part
returns-clause-part c = part-put

pub returns-clause-others : goal.returns-clause-others
returns-clause-others c = bit_at-put_other

pub returns-clause-within : goal.returns-clause-within
returns-clause-within c = put-below
