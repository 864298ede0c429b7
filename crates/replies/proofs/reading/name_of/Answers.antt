use Rattle.vcd_syntax.specs.Meaning.{names}
use Rattle.replies.proofs.Dumps.{named, unnamed}
use Rattle.replies.proofs.reading.name_of.Goals as goal

pub returns-in-Some : goal.returns-in-Some
returns-in-Some c = λ ms sound. named c.variable_name.result c.in-Some.name (names ms) c.args.number c.in-Some.is (c.variable_name.ensures ms sound)

pub returns-in-None : goal.returns-in-None
returns-in-None c = λ ms sound. unnamed c.variable_name.result (names ms) c.args.number c.in-None.is (c.variable_name.ensures ms sound)
