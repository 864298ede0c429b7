use Rattle.std.proofs.Common.{◌≡◌, length, take}
use Rattle.html_manual.specs.Filing.{tables_among}
use Rattle.html_manual.proofs.tables.tables_of.Given as goal

abbrev pub invariant-loop-at : goal.invariant-loop-at
invariant-loop-at l = l.tables ≡ tables_among (take l.at l.block.fields) (length l.block.regs)
