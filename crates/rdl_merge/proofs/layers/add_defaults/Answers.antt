use Rattle.std.proofs.Common.{◌++◌, subst}
use Rattle.rdl_layers.specs.Settings.{gives}
use Rattle.rdl_merge.specs.Merged.{AreEntries}
use Rattle.rdl_merge.proofs.Each.{given_all, given_none, given_step, legal_among, legal-each}
use Rattle.rdl_merge.proofs.layers.add_defaults.Goals as goal

pub loop-one-init : goal.loop-one-init
loop-one-init c = λ all xs judged assigned rank h k old. given_none all c.args.entries.now.items xs old

pub loop-one-preserved : goal.loop-one-preserved
loop-one-preserved c = λ all xs judged assigned rank h k old.
    given_step all c.args.body judged c.args.given.now assigned c.loop-one.one-index _ (λ a. legal_among c.args.kind (gives rank a)) c.loop-one.entries.items c.add_default.new.entries.items xs c.loop-one-test.true h k
    (λ ys a g inside told. c.in_ok-add_default.ensures all ys judged a rank g inside told) (c.loop-one.invariant all xs judged assigned rank h k old)

pub returns : goal.returns
returns c = λ all xs judged assigned rank h k old.
    subst (λ ys. AreEntries all c.loop-one.entries.items (xs ++ ys)) (legal-each c.args.kind (gives rank) assigned)
    (given_all all judged c.args.given.now assigned c.loop-one.one-index (λ a. legal_among c.args.kind (gives rank a)) c.loop-one.entries.items xs c.loop-one-test.false h (c.loop-one.invariant all xs judged assigned rank h k old))
