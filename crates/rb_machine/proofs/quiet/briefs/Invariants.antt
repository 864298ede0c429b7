use Rattle.std.proofs.Common.{◌≡◌, map, take}
use Rattle.rb_machine.specs.Quiet.{brief_of}
use Rattle.rb_machine.proofs.quiet.briefs.Given as goal

abbrev pub invariant-loop-field : goal.invariant-loop-field
invariant-loop-field l = l.all.items ≡ map brief_of (take l.field-index l.fields)
