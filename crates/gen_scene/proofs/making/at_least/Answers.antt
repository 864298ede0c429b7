use Rattle.rb_model.specs.Items.{level_value}
use Rattle.gen_scene.proofs.Made.{least_worth}
use Rattle.gen_scene.proofs.making.at_least.Goals as goal

pub returns-clause-worth : goal.returns-clause-worth
returns-clause-worth c g h =
    least_worth c.args.scene.now.base.now.block.now c.args.scene.now.base.now.inlet c.args.net.now c.level.new.net c.less.new.net c.opposite.new.net c.args.value c.in_ok-from.from c.in_ok-below.below c.in_ok-id.id c.args.width g (λ n v. level_value v c.args.level) h
    c.in_ok-from.ensures.older c.in_ok-from.ensures.worth c.in_ok-below.ensures.older c.in_ok-below.ensures.node c.in_ok-id.ensures.older c.in_ok-id.ensures.node
