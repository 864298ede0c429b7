use Rattle.std.proofs.Common.{◌≡◌, ◌<◌, ◌==◌, not, ◌&&◌, arith, slice_index, subst, ℕ}
use Rattle.std.proofs.lemmas.Option.{slice_get_within}
use Rattle.rb_model.specs.Own.{IsOwnView}
use Rattle.rb_model.proofs.OwnViews.{one_passes, own_test, TheOne}
use Rattle.rb_model.specs.declared.block.View.{View}
use Rattle.rb_model.proofs.own.own_views.Goals as goal

pub returns-clause-own : goal.returns-clause-own
returns-clause-own c k below =
    let views = c.args.views.now in
    let one : TheOne (λ v. v.field == k && not v.alias) views = one_passes (λ v. v.field == k && not v.alias) views (c.requires.one k below) in
    let told = own_test k one.it one.passes in
    let within : one.at < c.loop-number.number = omega (arith, slice_get_within views one.at one.it one.here) in
    let P : ℕ → Type 0 = λ f. IsOwnView views f (slice_index c.loop-number.own.items f) in
    subst P told.0 (c.loop-number.invariant.seen one.at one.it within one.here told.1)
