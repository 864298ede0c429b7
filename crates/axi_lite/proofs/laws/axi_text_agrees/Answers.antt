use Rattle.axi_model.specs.Axi.{axi}
use Rattle.gen_front.proofs.Agreeing.{agrees}
use Rattle.axi_lite.proofs.laws.axi_text_agrees.Goals as goal

pub returns : goal.returns
returns c = λ net b text is of. agrees net (axi b) text is of
