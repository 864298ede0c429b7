use Rattle.std.proofs.Common.{◌≡◌, ◌+◌, ◌-◌, ◌++◌}
use Rattle.rdl_sizes.specs.Elements.{elements}
use Rattle.rdl_sizes.proofs.body.add_elements.Given as goal

abbrev pub invariant-loop-each : goal.invariant-loop-each
invariant-loop-each l = l.starts.items ++ elements (l.at + l.step) l.step (l.others - l.each) ≡ l.fn.starts.items ++ elements l.start l.step (l.others + 1)
