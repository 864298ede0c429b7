use Rattle.std.proofs.Common.{Some, arith}
use Rattle.rdl_values.specs.Elaborated.{nodes_of, top_name}
use Rattle.rdl_values.specs.Lineages.{lineages_of}
use Rattle.rdl_rules.specs.Numbers.{all_fields}
use Rattle.rdl_block_laws.proofs.Views.{all-lead, views-sound}
use Rattle.rdl_block_laws.proofs.sound_blocks.blocks_are_sound.Goals as goal

pub returns : goal.returns
returns c = λ e b ready forms none primaries is. record {
  named = c.names_are_sound.ensures.named e 0 b ready.clean ready.words is;
  signals = c.names_are_sound.ensures.signals_ e 0 b ready.clean ready.words ready.settled is;
  fields = c.block_fields_are_sound.ensures e 0 b ready.clean ready.settled ready.bound none is primaries;
  views = views-sound b 0 b.views
      (c.views_are_of_fields.ensures e 0 b ready.settled none is forms primaries)
      (c.gates_are_sound.ensures.fed e 0 b ready.bound is)
      (c.gates_are_sound.ensures.bit e 0 b none is)
      (c.views_in_one_slot.ensures.reads e 0 b ready.settled ready.placed none is forms primaries)
      (c.views_in_one_slot.ensures.writes e 0 b ready.settled ready.placed none is forms primaries);
  regs = c.registers_are_sound.ensures (Some (top_name e)) e.source.now 0 b is (all-lead (lineages_of e) (all_fields (nodes_of e)) (c.clean_is_faultless.ensures.fields_ e ready.clean ready.settled ready.bound none));
  reads = c.words_are_sound.ensures.reads e 0 b ready.settled ready.placed none is forms primaries;
  writes = c.words_are_sound.ensures.writes e 0 b ready.settled ready.placed none is forms primaries;
  some_word = (c.some_word.ensures e 0 b ready.settled ready.placed none is, c.words_are_few.ensures.reads e 0 b ready.settled ready.placed is);
  by_address = is.reads.rising;
  same_addresses = c.same_addresses.ensures e ready.settled ready.placed b.reads b.writes is.reads is.writes;
  signal_paths = c.names_are_sound.ensures.signal_paths e 0 b ready.clean ready.words is;
  field_paths = c.names_are_sound.ensures.field_paths e 0 b ready.clean ready.words is;
  view_paths = c.names_are_sound.ensures.view_paths e 0 b ready.clean ready.words is;
  reg_paths = c.names_are_sound.ensures.reg_paths e 0 b ready.clean ready.words is;
  waits = let w = is.waits_ in omega (arith, w);
  all_items = is.each_item;
  ordered = is.ordered;
}
