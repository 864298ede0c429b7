use Rattle.std.proofs.Common.{◌≡◌, take}
use Rattle.kept_texts.proofs.notes.keep_groups.Given as goal

abbrev pub invariant-loop-group : goal.invariant-loop-group
invariant-loop-group l = l.list.items ≡ take l.group-index l.groups
