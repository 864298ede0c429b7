use Rattle.std.proofs.Common.{◌≡◌, ◌<◌, ◌≤◌, ◌^◌, Some, length, slice_get, refl, sym, ap, ◌∙◌, subst}
use Rattle.std.proofs.lemmas.Option.{slice_get_within}
use Rattle.rtl_net.specs.Net.{width_in}
use Rattle.rtl_net.proofs.Nets.{IsNode-is}
use Rattle.block_plan.specs.Kept.{kept_seen}
use Rattle.gen_clock.specs.Edges.{number_in}
use Rattle.gen_clock.proofs.Taking.{kept_wide, no_reset, not_sync, reset_fits, reset_made, same_number}
use Rattle.gen_clock.proofs.nexts.reset_in.Goals as goal

pub returns-then-not-field-clause-reset : goal.returns-then-not-field-clause-reset
returns-then-not-field-clause-reset c = not_sync c.args.scene.now.base.now.block.now c.args.scene.now.base.now.inlet c.args.net.now (kept_seen c.args.kept) c.args.field.now c.args.id c.if-not-field.true c.requires.stands

pub returns-in_default-clause-reset : goal.returns-in_default-clause-reset
returns-in_default-clause-reset c = no_reset c.args.scene.now.base.now.block.now c.args.scene.now.base.now.inlet c.args.net.now (kept_seen c.args.kept) c.args.field.now c.args.id (sym c.reset_value.ensures ∙ c.in_default.is) c.requires.stands

pub asserted-requires-clause-field : goal.asserted-requires-clause-field
asserted-requires-clause-field c =
    let b = c.args.scene.now.base.now.block.now in
    let e = same_number (kept_seen c.args.kept) c.number_of.result c.number_of.ensures in
    subst (λ m. m < length b.fields) e (slice_get_within b.fields (number_in (kept_seen c.args.kept)) c.args.field.now c.requires.field)

pub number-requires-clause-wide : goal.number-requires-clause-wide
number-requires-clause-wide c =
    let b = c.args.scene.now.base.now.block.now in
    subst (λ w. (0 < w) × (w ≤ 128)) (sym c.width_of.ensures) (kept_wide b c.requires.scene.base.sound (kept_seen c.args.kept) c.args.field.now c.requires.kept c.requires.field)

pub number-requires-clause-fits : goal.number-requires-clause-fits
number-requires-clause-fits c =
    let b = c.args.scene.now.base.now.block.now in
    let v : c.from.result ≡ c.in-Some.value = c.from.ensures in
    subst (λ x. x < 2 ^ c.width_of.result) (sym v) (subst (λ w. c.in-Some.value < 2 ^ w) (sym c.width_of.ensures) (reset_fits b c.requires.scene.base.sound (kept_seen c.args.kept) c.args.field.now c.in-Some.value c.requires.field (sym c.reset_value.ensures ∙ c.in-Some.is)))

pub returns-clause-reset : goal.returns-clause-reset
returns-clause-reset c =
    let b = c.args.scene.now.base.now.block.now in
    let a = c.args.scene.now.base.now.inlet in
    let k = kept_seen c.args.kept in
    let f = c.args.field.now in
    let v : c.from.result ≡ c.in-Some.value = c.from.ensures in
    let here = ap (slice_get b.fields) (sym (same_number k c.number_of.result c.number_of.ensures)) ∙ c.requires.field in
    reset_made b a c.args.net.now c.asserted.new.net c.number.new.net c.choose.new.net k f c.args.id c.in_ok-asserted.asserted c.in_ok-left.left c.in_ok-new.new c.from.result c.width_of.result
    c.if-not-field.false (sym c.reset_value.ensures ∙ c.in-Some.is ∙ ap Some (sym v)) c.width_of.ensures c.in_ok-asserted.ensures.older c.in_ok-left.ensures.older c.in_ok-new.ensures.older
    (c.in_ok-asserted.ensures.worth f here) c.in_ok-left.ensures.node
    (IsNode-is c.choose.new.net c.in_ok-new.new (width_in c.number.new.net c.in_ok-left.left) c.width_of.result _ _ c.in_ok-new.ensures.node c.in_ok-left.ensures.node.stands.width (λ x s. refl))
