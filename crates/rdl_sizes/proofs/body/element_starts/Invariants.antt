use Rattle.std.proofs.Common.{◌≡◌, ◌++◌, drop}
use Rattle.rdl_sizes.specs.Elements as elements
use Rattle.rdl_sizes.proofs.body.element_starts.Given as goal

abbrev pub invariant-loop-index : goal.invariant-loop-index
invariant-loop-index l = l.starts.items ++ elements.element_starts l.mode (drop l.index l.parts) (drop l.index l.firsts) ≡ elements.element_starts l.mode l.parts l.firsts
