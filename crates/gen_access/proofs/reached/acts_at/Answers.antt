use Rattle.std.proofs.Common.{sym, ◌∙◌}
use Rattle.std.proofs.lemmas.Option.{slice_get_within}
use Rattle.gen_access.specs.Words.{acts_through}
use Rattle.gen_access.proofs.Puts.{passes_here}
use Rattle.gen_access.proofs.reached.acts_at.Goals as goal

pub view_at-requires : goal.view_at-requires
view_at-requires c = slice_get_within c.args.block.now.views c.args.slot.view c.requires.view c.requires.of_view

pub returns : goal.returns
returns c = c.acts.ensures ∙ sym (passes_here c.args.block.now c.args.slot c.view_at.result.now c.view_at.ensures (acts_through c.args.way))
