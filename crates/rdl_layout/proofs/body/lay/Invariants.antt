use Rattle.std.proofs.Common.{◌≡◌, ◌++◌, max, drop}
use Rattle.rdl_layout.specs.Parts.{starts, greatest_end}
use Rattle.rdl_layout.proofs.body.lay.Given as goal

abbrev pub invariant-loop-part : goal.invariant-loop-part
invariant-loop-part l = record {
  all : l.starts.items ++ starts l.mode l.before (drop l.part-index l.parts) ≡ starts l.mode 0 l.parts;
  last : max l.greatest (greatest_end l.mode l.before (drop l.part-index l.parts)) ≡ greatest_end l.mode 0 l.parts;
}
