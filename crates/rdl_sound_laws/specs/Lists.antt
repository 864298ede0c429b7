-- The lists of a block that hold what has items.
use Rattle.std.specs.Prelude.{◌≡◌, ℕ, List, map, Option}
use Rattle.rb_model.specs.declared.block.Block.{Block}
use Rattle.rdl_tree.specs.declared.item.Source.{Source}
use Rattle.rdl_values.specs.Instances.{nodes}
use Rattle.rdl_values.specs.Lineages.{lineages}
use Rattle.rdl_rules.specs.Block.{fields, reg_of, signal_of}
use Rattle.rdl_rules.specs.Numbers.{all_signals, registers}

-- The signals, fields and registers of the block are those of the source.
pub record HasLists (wanted : Option (List ℕ)) (s : Source) (b : Block) : Type 0 where
  pub signals_ : b.signals ≡ map signal_of (all_signals (nodes wanted s))
  pub fields_ : b.fields ≡ fields s (lineages wanted s)
  pub regs_ : b.regs ≡ map reg_of (registers (nodes wanted s))
