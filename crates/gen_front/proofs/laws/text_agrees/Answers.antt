use Rattle.rb_model.specs.Run.{apb}
use Rattle.gen_front.proofs.Agreeing.{agrees}
use Rattle.gen_front.proofs.laws.text_agrees.Goals as goal

pub returns : goal.returns
returns c = λ net b text is of. agrees net (apb b) text is of
