use Rattle.std.proofs.Common.{◌∙◌, sym}
use Rattle.rdl_place.proofs.Listing.{listed-all, none-placed, some-listed}
use Rattle.rdl_place.proofs.map.place.Goals as goal

pub returns-then-not-is_empty : goal.returns-then-not-is_empty
returns-then-not-is_empty c = record {
  failures = listed-all c.args.elab.now c.in-Ok.laid.faults.items c.in-Ok-listed.list.items c.in-Ok.ensures.failures c.in-Ok-listed.ensures;
  some = some-listed c.in-Ok-listed.list.items c.in-Ok-listed.list.len c.in-Ok-listed.list.ok.0 (sym c.is_empty.ensures ∙ c.if-not-is_empty.true);
}

pub of_tables-requires-clause-addresses : goal.of_tables-requires-clause-addresses
of_tables-requires-clause-addresses c = c.in-Ok.ensures.addresses (none-placed c.args.elab.now c.in-Ok.laid.faults.items c.in-Ok-listed.list.items c.in-Ok-listed.list.len c.in-Ok.ensures.failures c.in-Ok-listed.ensures c.in-Ok-listed.list.ok.0 (sym c.is_empty.ensures ∙ c.if-not-is_empty.false))

pub of_tables-requires-clause-sizes : goal.of_tables-requires-clause-sizes
of_tables-requires-clause-sizes c = c.in-Ok.ensures.sizes (none-placed c.args.elab.now c.in-Ok.laid.faults.items c.in-Ok-listed.list.items c.in-Ok-listed.list.len c.in-Ok.ensures.failures c.in-Ok-listed.ensures c.in-Ok-listed.list.ok.0 (sym c.is_empty.ensures ∙ c.if-not-is_empty.false))

pub of_tables-requires-clause-fields : goal.of_tables-requires-clause-fields
of_tables-requires-clause-fields c = c.in-Ok.ensures.fields (none-placed c.args.elab.now c.in-Ok.laid.faults.items c.in-Ok-listed.list.items c.in-Ok-listed.list.len c.in-Ok.ensures.failures c.in-Ok-listed.ensures c.in-Ok-listed.list.ok.0 (sym c.is_empty.ensures ∙ c.if-not-is_empty.false))

pub returns : goal.returns
returns c = (none-placed c.args.elab.now c.in-Ok.laid.faults.items c.in-Ok-listed.list.items c.in-Ok-listed.list.len c.in-Ok.ensures.failures c.in-Ok-listed.ensures c.in-Ok-listed.list.ok.0 (sym c.is_empty.ensures ∙ c.if-not-is_empty.false), c.of_tables.ensures)
