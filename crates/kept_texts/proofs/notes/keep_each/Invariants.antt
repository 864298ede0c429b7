use Rattle.std.proofs.Common.{◌≡◌, map, take}
use Rattle.kept_texts.proofs.notes.keep_each.Given as goal

abbrev pub invariant-loop-notes : goal.invariant-loop-notes
invariant-loop-notes l = map (λ v. v.items) l.list.items ≡ map (λ v. v.items) (take l.notes-index l.enums)
