use Rattle.std.proofs.Common.{◌≡◌, ◌++◌, take}
use Rattle.rdl_block_numbers.specs.Texts.{step_text}
use Rattle.rdl_block_numbers.proofs.step.push_step.Given as goal

abbrev pub invariant-loop-each : goal.invariant-loop-each
invariant-loop-each l = l.bytes.items ≡ l.fn.bytes.items ++ step_text l.name (take l.each-index l.index)
