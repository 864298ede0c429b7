use Rattle.std.proofs.Common.{◌≡◌, ◌++◌}
use Rattle.command_line.specs.Source.{first_line, register_lines}
use Rattle.command_line.proofs.lines.source.Given as goal

abbrev pub invariant-loop-number : goal.invariant-loop-number
invariant-loop-number l = l.text.items ≡ first_line l.count ++ register_lines l.number
