use Rattle.std.proofs.Common.{◌∙◌, sym}
use Rattle.rdl_dynamic.proofs.Knowing.{no-rivals}
use Rattle.rdl_dynamic.proofs.marks.Marks.is_excluded.Goals as goal

pub returns-in-None : goal.returns-in-None
returns-in-None c = no-rivals c.args.self.now c.args.prop c.args.nodes.now (sym c.group.ensures ∙ c.in-None.is)
