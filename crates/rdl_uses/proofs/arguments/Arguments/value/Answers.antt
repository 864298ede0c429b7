use Rattle.std.proofs.Common.{◌∙◌}
use Rattle.rdl_uses.proofs.BoundValues.{argument-by}
use Rattle.rdl_uses.proofs.arguments.Arguments.value.Goals as goal

pub returns-in-Some : goal.returns-in-Some
returns-in-Some c = λ ps args h. c.value_at.ensures ∙ argument-by c.args.name.now ps args c.args.self.now _ h c.in-Some.ensures

pub returns-in-None : goal.returns-in-None
returns-in-None c = λ ps args h. argument-by c.args.name.now ps args c.args.self.now _ h c.in-None.ensures
