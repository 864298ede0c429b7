use Rattle.rdl_encodings.proofs.Settings.{NameNone}
use Rattle.rdl_encodings.proofs.meant.some_name.Given as goal

abbrev pub invariant-loop-list : goal.invariant-loop-list
invariant-loop-list l = NameNone l.entries l.list-index
