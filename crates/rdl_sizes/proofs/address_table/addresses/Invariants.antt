use Rattle.std.proofs.Common.{◌≡◌, length}
use Rattle.rdl_sizes.specs.Addresses.{AreFirst}
use Rattle.rdl_sizes.proofs.address_table.addresses.Given as goal

abbrev pub invariant-loop-at : goal.invariant-loop-at
invariant-loop-at l = record {
  many : length l.addresses.items ≡ l.at;
  first : AreFirst l.props l.addresses.items;
}
