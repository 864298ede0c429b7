use Rattle.std.proofs.Common.{◌∙◌, sym}
use Rattle.rdl_bind.proofs.Listing.{few-edges, listed-all, none-unbound, some-listed}
use Rattle.rdl_bind.proofs.references.bind.Goals as goal

pub returns-then-not-is_empty : goal.returns-then-not-is_empty
returns-then-not-is_empty c = record {
  failures = listed-all c.args.elab.now c.in-Ok-named.found.faults.items c.in-Ok-listed.list.items c.in-Ok-named.ensures.faults_ c.in-Ok-listed.ensures;
  some = some-listed c.in-Ok-listed.list.items c.in-Ok-listed.list.len c.in-Ok-listed.list.ok.0 (sym c.is_empty.ensures ∙ c.if-not-is_empty.true);
}

pub of_tables-dependencies-requires-clause-few : goal.of_tables-dependencies-requires-clause-few
of_tables-dependencies-requires-clause-few c = few-edges c.args.elab.now c.in-Ok-tables_of.made.numbers c.in-Ok-tables_of.ensures.numbers_ c.in-Ok-tables_of.made.edges c.in-Ok-tables_of.ensures.refer

pub returns : goal.returns
returns c = (none-unbound c.args.elab.now c.in-Ok-named.found.faults.items c.in-Ok-listed.list.items c.in-Ok-listed.list.len c.in-Ok-named.ensures.faults_ c.in-Ok-listed.ensures c.in-Ok-listed.list.ok.0 (sym c.is_empty.ensures ∙ c.if-not-is_empty.false), c.of_tables-refs.ensures, c.of_tables-dependencies.ensures)
