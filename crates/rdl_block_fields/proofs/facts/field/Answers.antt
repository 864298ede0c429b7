use Rattle.rdl_values.specs.Lineages.{lineages_of, nodes_in}
use Rattle.rdl_layers.specs.Fields.{views}
use Rattle.rdl_block_fields.proofs.facts.field.Goals as goal

pub returns : goal.returns
returns c = λ r f here told.
    let vs = views (nodes_in (lineages_of c.args.known.props.now)) r.register.node f in
    (λ i. record {
      path = told.path_ i;
      reg = told.register_ i;
      width = told.width_ i;
      reset = c.reset_value.ensures f here i;
      reset_by = told.reset_ i;
      class = c.class.ensures f vs here told.touched_ i;
      hw_writes = c.hardware_writes.ensures f here i;
      hw_reads = c.hardware_reads.ensures f here i;
      hw_first = c.hardware_first.ensures f here i;
      source = c.source_of.ensures f here i;
      gate = c.gate_of.ensures f here i;
      count = c.count_of.ensures f here told.width_ i;
      latch = c.latch.ensures f here i;
      set = c.feed_of.ensures f here i;
      clear = c.feed_of-2.ensures f here i;
      keep = c.mask_of.ensures f here i;
      pulse = c.has.ensures f here i;
      once = told.once_ i;
      enable = c.mask_of-2.ensures f here i;
      halt = c.mask_of-3.ensures f here i;
      shown = told.shown_ i;
    })
