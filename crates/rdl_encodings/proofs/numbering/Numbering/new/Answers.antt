use Rattle.std.proofs.Common.{[], sym, subst}
use Rattle.rdl_encodings.specs.Numbered.{AreNumbersOf}
use Rattle.rdl_encodings.proofs.numbering.Numbering.new.Goals as goal

pub returns : goal.returns
returns c = λ t. record { numbers_ = c.new.ensures t; fields_ = subst (λ os. AreNumbersOf [] os []) (sym c.new-2.ensures.items) tt }
