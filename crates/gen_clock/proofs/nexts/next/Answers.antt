use Rattle.std.proofs.Common.{◌<◌, length, slice_get, ap, ◌∙◌, subst}
use Rattle.std.proofs.lemmas.Option.{slice_get_within}
use Rattle.rb_model.specs.Kept.{register_width}
use Rattle.rb_model.specs.Machine.{moved}
use Rattle.block_plan.specs.Kept.{kept_seen}
use Rattle.gen_scene.specs.Bases.{kept_width}
use Rattle.gen_scene.proofs.Worths.{worth_as}
use Rattle.gen_clock.specs.Edges.{number_in, to_take}
use Rattle.gen_clock.proofs.Edging.{IsScene-grows}
use Rattle.gen_clock.proofs.Taking.{field_by, kept_by, same_number, take_is, width_here}
use Rattle.gen_clock.proofs.nexts.next.Goals as goal

pub field_at-field-requires : goal.field_at-field-requires
field_at-field-requires c =
    let b = c.args.scene.now.base.now.block.now in
    let k = kept_seen c.args.kept in
    let f = field_by b k (kept_by b k c.requires.kept) in
    subst (λ m. m < length b.fields) (same_number k c.number_of.result c.number_of.ensures) (slice_get_within b.fields (number_in k) f.0 f.1)

pub taken-requires-clause-kept : goal.taken-requires-clause-kept
taken-requires-clause-kept c = kept_by c.args.scene.now.base.now.block.now (kept_seen c.args.kept) c.requires.kept

pub reset_in-requires-clause-scene : goal.reset_in-requires-clause-scene
reset_in-requires-clause-scene c = IsScene-grows c.args.net.now c.taken.new.net c.args.scene.now c.in_ok-value.ensures.older c.requires.scene

pub reset_in-requires-clause-kept : goal.reset_in-requires-clause-kept
reset_in-requires-clause-kept c = kept_by c.args.scene.now.base.now.block.now (kept_seen c.args.kept) c.requires.kept

pub reset_in-requires-clause-stands : goal.reset_in-requires-clause-stands
reset_in-requires-clause-stands c =
    let b = c.args.scene.now.base.now.block.now in
    let k = kept_seen c.args.kept in
    let here = ap (slice_get b.fields) (same_number k c.number_of.result c.number_of.ensures) ∙ c.field_at-field.ensures in
    (c.in_ok-value.ensures.worth c.field_at-field.result.now here).stands

pub returns-clause-worth : goal.returns-clause-worth
returns-clause-worth c =
    let b = c.args.scene.now.base.now.block.now in
    let a = c.args.scene.now.base.now.inlet in
    let k = kept_seen c.args.kept in
    let f = c.field_at-field.result.now in
    let h = kept_by b k c.requires.kept in
    let here = ap (slice_get b.fields) (same_number k c.number_of.result c.number_of.ensures) ∙ c.field_at-field.ensures in
    let r = c.in_ok-id.ensures.reset.worth (λ n v. moved b n v k) (c.in_ok-value.ensures.worth f here) in
    worth_as b a c.reset_in.new.net c.in_ok-id.id (kept_width k f) (register_width b k) _ (λ n v. to_take b n v k) r (width_here b k f h here) (λ n v valued. take_is b n v k f h here)
