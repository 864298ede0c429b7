use Rattle.std.proofs.Common.{◌∙◌, sym}
use Rattle.rdl_assignments.proofs.Related.{taken_again}
use Rattle.rdl_assignments.proofs.taken.AssignedProps.add.Goals as goal

pub returns-then-has : goal.returns-then-has
returns-then-has c = λ earlier h. taken_again c.args.self.now earlier c.args.prop h (sym c.has.ensures ∙ c.if-has.true)
