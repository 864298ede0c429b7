use Rattle.std.proofs.Common.{nat_le, refl}
use Rattle.std.specs.Option.{option_map_or}
use Rattle.std.proofs.lemmas.Result.{IfOk-weaker}
use Rattle.rtl_net.specs.Value.{bit_of}
use Rattle.rb_model.specs.declared.kinds.RefItem.TheVariants as item
use Rattle.rb_model.specs.Items.{level_value}
use Rattle.gen_scene.proofs.Arms.{anded_worth, field_is, halt_is, halt_line, intr_is, intr_line, ored_worth, signal_worth, xored_worth}
use Rattle.gen_scene.proofs.Worths.{worth_as}
use Rattle.gen_scene.proofs.item_node.item_node.Goals as goal

pub line-requires-clause-line : goal.line-requires-clause-line
line-requires-clause-line c = intr_line c.args.net.now c.args.scene.now c.in-Intr.number (rw c.in-Intr.is at c.requires.refs)

pub line-requires-in-Halt-clause-line : goal.line-requires-in-Halt-clause-line
line-requires-in-Halt-clause-line c = halt_line c.args.net.now c.args.scene.now c.in-Halt.number (rw c.in-Halt.is at c.requires.refs)

pub returns-in-Signal-clause-worth : goal.returns-in-Signal-clause-worth
returns-in-Signal-clause-worth c = rw c.in-Signal.is (IfOk-weaker c.present.result _ _ (λ id node.
    let g = c.signal_at.result.now in
    signal_worth c.args.scene.now.base.now.block.now c.args.scene.now.base.now.inlet c.args.net.now c.present.new.net c.in-Signal.number g g c.signal.result id c.signal_at.ensures (c.signal.ensures c.args.net.now g c.requires.base c.signal_at.ensures) c.present.ensures.older node) c.present.ensures.node)

pub returns-in-Anded-clause-worth : goal.returns-in-Anded-clause-worth
returns-in-Anded-clause-worth c = rw c.in-Anded.is (IfOk-weaker c.fold.result _ _ (λ id node.
    let own = rw c.in-Anded.is at c.requires.own in
    anded_worth c.args.net.now c.fold.new.self c.args.scene.now c.in-Anded.number own.0 c.node-value.result id own.1 (rw c.in-Anded.is at c.requires.refs) c.node-value.ensures c.fold.ensures.older node) c.fold.ensures.node)

pub returns-in-Ored-clause-worth : goal.returns-in-Ored-clause-worth
returns-in-Ored-clause-worth c = rw c.in-Ored.is (IfOk-weaker c.nonzero.result _ _ (λ id node.
    let own = rw c.in-Ored.is at c.requires.own in
    ored_worth c.args.net.now c.nonzero.new.net c.args.scene.now c.in-Ored.number own.0 c.node-value-in-Ored.result id own.1 (rw c.in-Ored.is at c.requires.refs) c.node-value-in-Ored.ensures c.nonzero.ensures.older node) c.nonzero.ensures.node)

pub returns-in-Xored-clause-worth : goal.returns-in-Xored-clause-worth
returns-in-Xored-clause-worth c = rw c.in-Xored.is (IfOk-weaker c.fold-in-Xored.result _ _ (λ id node.
    let own = rw c.in-Xored.is at c.requires.own in
    xored_worth c.args.net.now c.fold-in-Xored.new.self c.args.scene.now c.in-Xored.number own.0 c.node-value-in-Xored.result id own.1 (rw c.in-Xored.is at c.requires.refs) c.node-value-in-Xored.ensures c.fold-in-Xored.ensures.older node) c.fold-in-Xored.ensures.node)

pub returns-in-IncrThreshold-clause-worth : goal.returns-in-IncrThreshold-clause-worth
returns-in-IncrThreshold-clause-worth c = rw c.in-IncrThreshold.is (IfOk-weaker c.incr_threshold.result _ _ (λ id h. worth_as c.args.scene.now.base.now.block.now c.args.scene.now.base.now.inlet c.incr_threshold.new.net id 1 1 _ _ h refl
    (λ n v k. field_is c.args.scene.now.base.now.block.now c.in-IncrThreshold.number c.field_at-in-IncrThreshold.result.now c.field_at-in-IncrThreshold.ensures (λ f. option_map_or (λ d. bit_of (nat_le (level_value v d.above) (v (item.Field c.in-IncrThreshold.number)))) f.count 0))) c.incr_threshold.ensures.worth)

pub returns-in-DecrThreshold-clause-worth : goal.returns-in-DecrThreshold-clause-worth
returns-in-DecrThreshold-clause-worth c = rw c.in-DecrThreshold.is (IfOk-weaker c.decr_threshold.result _ _ (λ id h. worth_as c.args.scene.now.base.now.block.now c.args.scene.now.base.now.inlet c.decr_threshold.new.net id 1 1 _ _ h refl
    (λ n v k. field_is c.args.scene.now.base.now.block.now c.in-DecrThreshold.number c.field_at-in-DecrThreshold.result.now c.field_at-in-DecrThreshold.ensures (λ f. option_map_or (λ d. bit_of (nat_le (v (item.Field c.in-DecrThreshold.number)) (level_value v d.below))) f.count 0))) c.decr_threshold.ensures.worth)

pub returns-in-SwMod-clause-worth : goal.returns-in-SwMod-clause-worth
returns-in-SwMod-clause-worth c = rw c.in-SwMod.is (rw c.in-SwMod.is at c.requires.marked).1

pub returns-in-SwAcc-clause-worth : goal.returns-in-SwAcc-clause-worth
returns-in-SwAcc-clause-worth c = rw c.in-SwAcc.is (rw c.in-SwAcc.is at c.requires.marked).1

pub returns-in-Intr-clause-worth : goal.returns-in-Intr-clause-worth
returns-in-Intr-clause-worth c = rw c.in-Intr.is (IfOk-weaker c.line.result _ _ (λ id h. worth_as c.args.scene.now.base.now.block.now c.args.scene.now.base.now.inlet c.line.new.net id 1 1 _ _ h refl (λ n v k. intr_is c.args.scene.now.base.now.block.now n v c.in-Intr.number)) c.line.ensures.worth)

pub returns-in-Halt-clause-worth : goal.returns-in-Halt-clause-worth
returns-in-Halt-clause-worth c = rw c.in-Halt.is (IfOk-weaker c.line-in-Halt.result _ _ (λ id h. worth_as c.args.scene.now.base.now.block.now c.args.scene.now.base.now.inlet c.line-in-Halt.new.net id 1 1 _ _ h refl (λ n v k. halt_is c.args.scene.now.base.now.block.now n v c.in-Halt.number)) c.line-in-Halt.ensures.worth)
