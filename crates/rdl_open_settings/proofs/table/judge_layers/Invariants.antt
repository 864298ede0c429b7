use Rattle.rdl_tree.specs.declared.node.Elab.{Elab}
use Rattle.rdl_open_bodies.specs.Spots.{IsOpenTree}
use Rattle.rdl_open_settings.specs.Texts.{AreTexts}
use Rattle.rdl_open_settings.proofs.Knowing.{done}
use Rattle.rdl_open_settings.proofs.table.judge_layers.Given as goal

abbrev pub invariant-loop-spot : goal.invariant-loop-spot
invariant-loop-spot l = record {
  texts : AreTexts l.tree.bodies l.failures l.texts;
  done : (e : Elab) (open_ : IsOpenTree e l.tree) → done e l.tree open_ l.fn.failures l.spot-index l.table l.failures l.spot-index;
}
