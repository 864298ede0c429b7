use Rattle.std.proofs.Common.{◌∙◌, ◌||◌, sym, ap, get_or}
use Rattle.std.proofs.lemmas.List.{take_all}
use Rattle.std.specs.List.{list_any}
use Rattle.std.proofs.lemmas.List.Folds.{list_any_at, list_any_more}
use Rattle.rb_model.specs.Machine.{is_asserted}
use Rattle.rb_model.specs.Run.{pins_of}
use Rattle.rb_machine.specs.Resets.{no_way}
use Rattle.rb_machine.proofs.reset.some_asserted.Goals as goal

pub returns-then-is_asserted : goal.returns-then-is_asserted
returns-then-is_asserted c =
    sym (list_any_at (is_asserted c.args.block.now (pins_of c.args.block.now c.args.pins.now)) c.args.ways.now c.loop-by.by-index no_way c.loop-by-test.true (sym c.is_asserted.ensures ∙ c.if-is_asserted.true))

pub loop-by-preserved : goal.loop-by-preserved
loop-by-preserved c =
    let p = is_asserted c.args.block.now (pins_of c.args.block.now c.args.pins.now) in
    list_any_more p c.args.ways.now c.loop-by.by-index no_way c.loop-by-test.true
    ∙ (ap (λ a. a || p (get_or c.args.ways.now c.loop-by.by-index no_way)) c.loop-by.invariant ∙ (sym c.is_asserted.ensures ∙ c.if-is_asserted.false))

pub returns : goal.returns
returns c =
    let p = is_asserted c.args.block.now (pins_of c.args.block.now c.args.pins.now) in
    sym (ap (list_any p) (sym (take_all c.loop-by.by-index c.args.ways.now c.loop-by-test.false)) ∙ c.loop-by.invariant)
