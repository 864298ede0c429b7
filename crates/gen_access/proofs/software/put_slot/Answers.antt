use Rattle.std.proofs.Common.{if◌then◌else◌, ap, ◌∙◌, arith}
use Rattle.std.proofs.lemmas.Option.{slice_get_within}
use Rattle.plain_lemmas.proofs.Bools.{if-same as same_either}
use Rattle.gen_access.specs.Words.{is_at}
use Rattle.gen_access.specs.Effects.{reached_by, slot_effect, width_of}
use Rattle.gen_access.proofs.Puts.{effect_other}
use Rattle.gen_access.proofs.Turns.{changes_set, field_there, nodes_set}
use Rattle.gen_access.proofs.software.put_slot.Goals as goal

pub put-requires-clause-v : goal.put-requires-clause-v
put-requires-clause-v c = λ f h. c.requires.table.each c.view_at-view.result.now.field f h

pub bounds-table-number : goal.bounds-table-number
bounds-table-number c =
    let b = c.args.scene.now.base.now.block.now in
    let f = field_there b c.args.slot c.view_at-view.result.now c.requires.slot c.view_at-view.ensures in
    let l = slice_get_within b.fields c.view_at-view.result.now.field f.0 f.1 in
    omega (arith, c.requires.table.long)

pub returns-clause-table : goal.returns-clause-table
returns-clause-table c =
    let b = c.args.scene.now.base.now.block.now in
    let f = field_there b c.args.slot c.view_at-view.result.now c.requires.slot c.view_at-view.ensures in
    nodes_set b c.args.net.now c.put.new.net c.args.table.now c.view_at-view.result.now.field f.0 c.in_ok-id.id (width_of c.args.effect) f.1 c.requires.table c.in_ok-id.ensures.older (c.in_ok-id.ensures.worth.stands f.0 f.1)

pub returns-clause-changes : goal.returns-clause-changes
returns-clause-changes c = λ j on.
    let b = c.args.scene.now.base.now.block.now in
    let u = c.view_at-view.result.now in
    let e = c.args.effect in
    let f = field_there b c.args.slot u c.requires.slot c.view_at-view.ensures in
    changes_set b c.args.net.now c.put.new.net c.args.table.now u.field f.0 c.in_ok-id.id (width_of e) f.1 c.requires.table c.in_ok-id.ensures.older
    c.args.scene.now.base.now.inlet (λ n v k g x. if is_at j (reached_by e n.access) then slot_effect b e n v k g x c.args.slot else x)
    (λ g at. c.in_ok-id.ensures.worth.worth j f.0 g f.1 on at)
    (λ n v k g x ne. ap (λ y. if is_at j (reached_by e n.access) then y else x) (effect_other b c.args.slot u c.view_at-view.ensures e n v k g x ne) ∙ same_either (is_at j (reached_by e n.access)) x)
