use Rattle.std.proofs.Common.{ap, nat_le, refl, sym}
use Rattle.std.specs.Option.{option_map_or}
use Rattle.std.proofs.lemmas.Result.{IfOk-weaker}
use Rattle.rtl_net.specs.Value.{bit_of}
use Rattle.rb_model.specs.declared.kinds.RefItem.TheVariants as item
use Rattle.rb_model.specs.Items.{level_value}
use Rattle.gen_scene.proofs.Counts.{can_below, width_fits}
use Rattle.gen_scene.proofs.Made.{node_worth}
use Rattle.gen_scene.proofs.Worths.{worth_as}
use Rattle.gen_scene.proofs.making.decr_threshold.Goals as goal

pub at_most-requires-clause-wide : goal.at_most-requires-clause-wide
at_most-requires-clause-wide c = width_fits c.args.scene.now.base.now.block.now c.args.net.now c.args.scene.now.base.now c.args.place c.args.field.now c.requires.base c.requires.here

pub at_most-requires-clause-value : goal.at_most-requires-clause-value
at_most-requires-clause-value c = (node_worth c.args.net.now c.args.scene.now c.args.place c.args.field.now c.node-value.result c.requires.here c.requires.value c.node-value.ensures).stands

pub at_most-requires-clause-can : goal.at_most-requires-clause-can
at_most-requires-clause-can c = can_below c.args.net.now c.args.scene.now c.args.place c.args.field.now c.requires.base c.requires.here c.in-Some.count c.in-Some.is (rw c.in-Some.is at c.requires.level)

pub returns-in-Some-clause-worth : goal.returns-in-Some-clause-worth
returns-in-Some-clause-worth c = IfOk-weaker c.at_most.result _ _ (λ id h.
    worth_as c.args.scene.now.base.now.block.now c.args.scene.now.base.now.inlet c.at_most.new.net id 1 1 _ _
    (h (λ n v. v (item.Field c.args.place)) (node_worth c.args.net.now c.args.scene.now c.args.place c.args.field.now c.node-value.result c.requires.here c.requires.value c.node-value.ensures)) refl
    (λ n v k. sym (ap (λ o. option_map_or (λ d. bit_of (nat_le (v (item.Field c.args.place)) (level_value v d.below))) o 0) c.in-Some.is))) c.at_most.ensures.worth
