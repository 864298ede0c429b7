-- Blocks that differ in wait states.
use Rattle.std.specs.Prelude.{ℕ}
use Rattle.rb_model.specs.declared.block.Block.{Block}

-- the block, with so many wait states
abbrev pub with_waits : ℕ → Block → Block
with_waits waits b = record {
  name = b.name;
  signals = b.signals;
  fields = b.fields;
  views = b.views;
  reads = b.reads;
  writes = b.writes;
  regs = b.regs;
  order = b.order;
  waits = waits;
}
