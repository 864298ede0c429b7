use Rattle.std.proofs.Common.{◌≡◌, length}
use Rattle.rb_machine.specs.Sources.{AreSources}
use Rattle.rb_machine.proofs.sources.item_sources.Given as goal

abbrev pub invariant-loop-item : goal.invariant-loop-item
invariant-loop-item l = record {
  sized : length l.all.items ≡ l.item-index;
  each : AreSources l.block l.order l.all.items;
}
