use Rattle.std.proofs.Common.{◌≡◌, drop}
use Rattle.rdl_values.specs.Chained.{chained}
use Rattle.rdl_values.specs.Values.{visible_enum}
use Rattle.rdl_values.proofs.chain.enum_along.Given as goal

abbrev pub invariant-loop-number : goal.invariant-loop-number
invariant-loop-number l = visible_enum (chained l.tables l.numbers) l.name ≡ visible_enum (chained l.tables (drop l.number-index l.numbers)) l.name
