use Rattle.std.proofs.Common.{◌≡◌, drop}
use Rattle.rdl_values.specs.Chained.{chained}
use Rattle.rdl_values.specs.Values.{parameter}
use Rattle.rdl_values.proofs.chain.parameter_along.Given as goal

abbrev pub invariant-loop-number : goal.invariant-loop-number
invariant-loop-number l = parameter (chained l.tables l.numbers) l.name ≡ parameter (chained l.tables (drop l.number-index l.numbers)) l.name
