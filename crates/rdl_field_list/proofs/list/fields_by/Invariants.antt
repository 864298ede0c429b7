use Rattle.std.proofs.Common.{◌≡◌, filter, length, take}
use Rattle.rdl_values.specs.Lineages.{lineages_of}
use Rattle.rdl_field_list.proofs.Listing.{among, is_register}
use Rattle.rdl_field_list.proofs.list.fields_by.Given as goal

abbrev pub invariant-loop-at : goal.invariant-loop-at
invariant-loop-at l = record {
  number_ : l.number ≡ length (filter is_register (take l.at (lineages_of l.known.props.now)));
  fields_ : l.list.items ≡ among l.known.props.now.source.now (lineages_of l.known.props.now) (take l.at (lineages_of l.known.props.now));
}
