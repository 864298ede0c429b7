use Rattle.gen_scene.proofs.Raising.{BitsTo}
use Rattle.gen_scene.proofs.lines.line.Given as goal

abbrev pub invariant-loop-place : goal.invariant-loop-place
invariant-loop-place l = BitsTo l.net l.scene l.halt l.place-items l.bits.items l.place-index
