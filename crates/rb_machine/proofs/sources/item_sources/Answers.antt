use Rattle.std.proofs.Common.{◌∙◌, ◌∷◌, [], ap, length, arith}
use Rattle.std.proofs.lemmas.List.{length-append}
use Rattle.rb_machine.proofs.Sourcing.{no_sources, sources_more}
use Rattle.rb_machine.proofs.sources.item_sources.Goals as goal

pub loop-item-init : goal.loop-item-init
loop-item-init c = record {
  sized = ap length c.new-all.ensures.items;
  each = no_sources c.args.block.now c.args.order.now c.new-all.result.items c.new-all.ensures.items;
}

pub loop-item-preserved : goal.loop-item-preserved
loop-item-preserved c = record {
  sized = ap length c.in_ok-push.ensures.items ∙ omega (arith, length-append c.loop-item.all.items (c.source_of.result ∷ []), c.loop-item.invariant.sized);
  each = sources_more c.args.block.now c.args.order.now c.loop-item.all.items c.push.new.self.items c.loop-item.item-index _ c.source_of.result c.loop-item-test.true c.loop-item.invariant.sized c.in_ok-push.ensures.items
      c.source_of.ensures c.loop-item.invariant.each;
}

pub returns : goal.returns
returns c = c.loop-item.invariant.each
