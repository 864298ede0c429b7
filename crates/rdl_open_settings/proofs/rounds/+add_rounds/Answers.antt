use Rattle.std.proofs.Common.{◌∙◌, ap, slice_get, subst, sym}
use Rattle.std.specs.Option.{option_copied}
use Rattle.rdl_merge.specs.Merged.{AreIn}
use Rattle.rdl_open_settings.proofs.Round.{found_layers, last_round, next_round, none_found, none_known, none_next}
use Rattle.rdl_open_settings.proofs.rounds.+add_rounds.Goals as goal

pub returns-in_default : goal.returns-in_default
returns-in_default t c = λ e n distance scope xs scene kind_is h size start. absurd (none_known c.args.tree.now c.args.layers.now c.body_of.result h.of (c.body_of.ensures e c.args.tree.now c.args.layers.now c.args.count h.of scene (sym c.deref.ensures.value) h.body_is) c.in_default.is)

pub returns-in_default-find : goal.returns-in_default-find
returns-in_default-find t c = λ e n distance scope xs scene kind_is h size start. absurd (none_found c.args.tree.now c.args.layers.now c.body_of.result h.of c.in-Some.body (c.body_of.ensures e c.args.tree.now c.args.layers.now c.args.count h.of scene (sym c.deref.ensures.value) h.body_is) c.in-Some.is (sym c.find.ensures ∙ ap option_copied c.in_default-find.is))

pub returns-in_default-round : goal.returns-in_default-round
returns-in_default-round t c = λ e n distance scope xs scene kind_is h size start. last_round e c.args.tree.now c.args.layers.now c.args.count scene n c.args.kind kind_is distance scope xs c.args.spot.now.round c.args.spot.now.upto h c.in-Some.body c.in-Some-find.found.now (found_layers c.args.tree.now c.args.layers.now c.body_of.result h.of c.in-Some.body (c.body_of.ensures e c.args.tree.now c.args.layers.now c.args.count h.of scene (sym c.deref.ensures.value) h.body_is) c.in-Some.is).1 (sym c.find.ensures ∙ ap option_copied c.in-Some-find.is) c.args.list.now.items c.add_defaults.new.entries.items c.before-2.result.now c.before-2.ensures (λ all ys judged as' r given are before. c.in_ok-add_defaults.ensures all ys judged as' r given (subst (λ k. AreIn all k as') (sym c.number_of-number.ensures) are) before) start c.in_default-round.is

pub returns-in_default-spot_at : goal.returns-in_default-spot_at
returns-in_default-spot_at t c = λ e n distance scope xs scene kind_is h size start. absurd (none_next e c.args.tree.now c.args.layers.now c.args.count scene n c.args.kind kind_is distance scope xs c.args.spot.now.round c.args.spot.now.upto h c.in-Some.body c.in-Some-find.found.now (found_layers c.args.tree.now c.args.layers.now c.body_of.result h.of c.in-Some.body (c.body_of.ensures e c.args.tree.now c.args.layers.now c.args.count h.of scene (sym c.deref.ensures.value) h.body_is) c.in-Some.is).1 (sym c.find.ensures ∙ ap option_copied c.in-Some-find.is) c.args.list.now.items c.add_defaults.new.entries.items c.before-2.result.now c.before-2.ensures (λ all ys judged as' r given are before. c.in_ok-add_defaults.ensures all ys judged as' r given (subst (λ k. AreIn all k as') (sym c.number_of-number.ensures) are) before) start c.in-Some-round.node c.in-Some-round.is (ap (λ os. slice_get os c.in-Some-round.node) (sym c.deref-2.ensures.value) ∙ sym c.spot_at.ensures ∙ c.in_default-spot_at.is))

pub returns : goal.returns
returns t c = λ e n distance scope xs scene kind_is h size start.
    next_round e c.args.tree.now c.args.layers.now c.args.count scene n c.args.kind kind_is distance scope xs c.args.spot.now.round c.args.spot.now.upto h c.in-Some.body c.in-Some-find.found.now (found_layers c.args.tree.now c.args.layers.now c.body_of.result h.of c.in-Some.body (c.body_of.ensures e c.args.tree.now c.args.layers.now c.args.count h.of scene (sym c.deref.ensures.value) h.body_is) c.in-Some.is).1 (sym c.find.ensures ∙ ap option_copied c.in-Some-find.is) c.args.list.now.items c.add_defaults.new.entries.items c.before-2.result.now c.before-2.ensures (λ all ys judged as' r given are before. c.in_ok-add_defaults.ensures all ys judged as' r given (subst (λ k. AreIn all k as') (sym c.number_of-number.ensures) are) before) start c.in-Some-round.node c.in-Some-round.is c.args.left c.in-Some-spot_at.next c.add_rounds.new.list.items size c.if-left-eq0.false (ap (λ os. slice_get os c.in-Some-round.node) (sym c.deref-2.ensures.value) ∙ sym c.spot_at.ensures ∙ c.in-Some-spot_at.is)
    (λ d s ys r few before. c.in_ok-add_rounds.ensures e n d s ys scene kind_is r few before)
