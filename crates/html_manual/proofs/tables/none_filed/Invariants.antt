use Rattle.std.proofs.Common.{◌≡◌, [], replicate}
use Rattle.html_manual.proofs.tables.none_filed.Given as goal

abbrev pub invariant-loop : goal.invariant-loop
invariant-loop l = l.items.items ≡ replicate l.counter []
