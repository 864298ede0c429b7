use Rattle.rdl_layers.specs.Settings.{gives}
use Rattle.rdl_merge.proofs.Each.{given_all, given_none, given_step}
use Rattle.rdl_merge.proofs.layers.add_given.Goals as goal

pub loop-one-init : goal.loop-one-init
loop-one-init c = λ all xs judged assigned rank h k old. given_none all c.args.entries.now.items xs old

pub loop-one-preserved : goal.loop-one-preserved
loop-one-preserved c = λ all xs judged assigned rank h k old.
    given_step all c.args.body judged c.args.given.now assigned c.loop-one.one-index _ (gives rank) c.loop-one.entries.items c.add_one.new.entries.items xs c.loop-one-test.true h k
    (λ ys a g inside told. c.in_ok-add_one.ensures all ys judged a rank g inside told) (c.loop-one.invariant all xs judged assigned rank h k old)

pub returns : goal.returns
returns c = λ all xs judged assigned rank h k old. given_all all judged c.args.given.now assigned c.loop-one.one-index (gives rank) c.loop-one.entries.items xs c.loop-one-test.false h (c.loop-one.invariant all xs judged assigned rank h k old)
