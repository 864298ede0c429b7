use Rattle.std.proofs.Common.{◌∙◌, ap}
use Rattle.rdl_values.specs.Views.{item_is}
use Rattle.rdl_assignments.specs.Live.{default_set}
use Rattle.rdl_assignments.proofs.Finding.{thinning_all, thinning_next}
use Rattle.rdl_assignments.proofs.Layered.{live_defaults}
use Rattle.rdl_assignments.proofs.live.live_defaults.Goals as goal

pub loop-position-init : goal.loop-position-init
loop-position-init c = λ v shown. c.new-thinning.ensures default_set c.args.text.now.same_enums v

pub loop-position-preserved : goal.loop-position-preserved
loop-position-preserved c = λ v shown.
    thinning_next default_set c.args.text.now.same_enums v c.loop-position.thinning c.read_item.new.self c.args.items.now c.loop-position.position c.index-items-position.result _ c.loop-position-test.true
    (c.default_of.ensures ∙ ap (λ i. default_set (item_is i)) c.index-items-position.is) (c.in_ok-read_item.ensures v shown default_set) (c.loop-position.invariant v shown)

pub returns : goal.returns
returns c = λ v shown. live_defaults c.args.text.now.same_enums v c.loop-position.thinning.live.items c.args.items.now (thinning_all default_set c.args.text.now.same_enums v c.loop-position.thinning c.args.items.now c.loop-position.position c.loop-position-test.false (c.loop-position.invariant v shown))
