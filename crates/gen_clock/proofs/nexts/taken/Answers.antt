use Rattle.std.proofs.Common.{◌≡◌, Some, slice_get, sym, ◌∙◌, subst, arith}
use Rattle.std.proofs.lemmas.Option.{same_Some, slice_get_within}
use Rattle.rtl_net.specs.Net.{seen_or_zero}
use Rattle.rb_model.specs.declared.block.Field.{Field}
use Rattle.rb_model.specs.Kept.{Done}
use Rattle.rb_model.specs.Items.{source_value}
use Rattle.rb_model.specs.Machine.{moved}
use Rattle.rb_model.specs.SoundField.{FieldIsSoundIn}
use Rattle.rb_model.proofs.Eachs.{Each-from_zero}
use Rattle.block_plan.specs.declared.kept.KeptValue.{KeptValue}
use Rattle.block_plan.specs.Kept.{kept_seen}
use Rattle.gen_scene.specs.Bases.{kept_width}
use Rattle.gen_scene.specs.Worth.{IsWorth}
use Rattle.gen_scene.proofs.Worths.{worth_read}
use Rattle.gen_clock.specs.Edges.{IsKeptBy, number_in}
use Rattle.gen_clock.proofs.Taking.{source_taken}
use Rattle.gen_clock.proofs.nexts.taken.Goals as goal

pub present-requires-clause-wide : goal.present-requires-clause-wide
present-requires-clause-wide c =
    let b = c.args.scene.now.base.now.block.now in
    let w = (Each-from_zero (FieldIsSoundIn b) b.fields c.in-Last.number c.field_at-field.result.now c.requires.scene.base.sound.fields c.field_at-field.ensures).alone.wide in
    (w.0, omega (arith, w.1))

pub bounds-used-number : goal.bounds-used-number
bounds-used-number c =
    let b = c.args.scene.now.base.now.block.now in
    let h : IsKeptBy b (Done c.in-Done.number) = subst (λ k. IsKeptBy b (kept_seen k)) c.in-Done.is c.requires.kept in
    let l = slice_get_within b.fields c.in-Done.number h.0 h.1 in
    omega (arith, c.requires.used.long)

pub returns-in_ok-id-in-Last-clause-worth : goal.returns-in_ok-id-in-Last-clause-worth
returns-in_ok-id-in-Last-clause-worth c =
    let b = c.args.scene.now.base.now.block.now in
    let a = c.args.scene.now.base.now.inlet in
    let P : KeptValue → Type 0 = λ k. (f : Field) → slice_get b.fields (number_in (kept_seen k)) ≡ Some f → IsWorth b a c.present.new.net c.in_ok-id-in-Last.id (kept_width (kept_seen k) f) (λ n v. moved b n v (kept_seen k)) in
    subst P (sym c.in-Last.is) (λ f here.
    let g = c.field_at-field.result.now in
    let has = c.requires.scene.fields.each c.in-Last.number g c.field_at-field.ensures in
    let r = worth_read b a c.args.net.now c.present.new.net c.in_ok-id-in-Last.id g.width (λ x. seen_or_zero x c.source.result) (λ n v. source_value n v g) c.in_ok-id-in-Last.ensures.older c.in_ok-id-in-Last.ensures.node (c.source.ensures c.args.net.now has).read in
    let same : g ≡ f = same_Some g f (sym c.field_at-field.ensures ∙ here) in
    let Q : Field → Type 0 = λ h. IsWorth b a c.present.new.net c.in_ok-id-in-Last.id h.width (λ n v. source_value n v h) in
    source_taken b a c.present.new.net c.in_ok-id-in-Last.id c.in-Last.number f here (subst Q same r))
