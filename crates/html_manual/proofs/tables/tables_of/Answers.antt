use Rattle.std.proofs.Common.{◌∙◌, ap, length}
use Rattle.rb_model.specs.declared.block.Block.{Block}
use Rattle.html_manual.proofs.Filing.{next_tables}
use Rattle.html_manual.proofs.tables.tables_of.Goals as goal

pub loop-at-preserved : goal.loop-at-preserved
loop-at-preserved c =
    let b = c.args.block.now in
    next_tables b.fields c.deref-field-items.result.now c.loop-at.at (length b.regs) c.in_ok-number_of.field-0 c.field-item.result c.loop-at.tables c.add_field.new.tables (c.deref-field-items.ensures.value ∙ ap (λ (b : Block). b.fields) c.block.view_is)
    c.loop-at-test.true c.field-item.is c.loop-at.invariant c.in_ok-number_of.ensures c.in_ok-add_field.ensures
