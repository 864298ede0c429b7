use Rattle.std.proofs.Common.{◌∙◌, sym}
use Rattle.rdl_dynamic.proofs.Marking.{marked_again}
use Rattle.rdl_dynamic.proofs.marks.Marks.add.Goals as goal

pub returns-then-has : goal.returns-then-has
returns-then-has c = marked_again c.args.self.now c.args.node c.args.prop (sym c.has.ensures ∙ c.if-has.true)
