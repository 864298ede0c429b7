use Rattle.std.proofs.Common.{if◌then◌else◌, sym, ap, ◌∙◌, arith}
use Rattle.std.proofs.lemmas.Option.{slice_get_within}
use Rattle.plain_lemmas.proofs.Bools.{if-same as same_either}
use Rattle.gen_access.specs.Words.{is_at}
use Rattle.gen_access.proofs.Turns.{changes_set, field_there, nodes_set}
use Rattle.gen_access.specs.Touches.{mark_item, one_bit, slot_mark, touch_reached, touches}
use Rattle.block_plan.specs.Wanted.{is_wanted}
use Rattle.std.proofs.lemmas.Bool.{and_parts}
use Rattle.gen_access.proofs.Puts.{passes_here}
use Rattle.gen_access.proofs.Turns.{Changes-none}
use Rattle.gen_access.proofs.MarkSteps.{mark_other, mark_put, unmarked}
use Rattle.gen_access.proofs.touched.Marking.slot.Goals as goal

pub returns-then-not-counts-clause-changes : goal.returns-then-not-counts-clause-changes
returns-then-not-counts-clause-changes c = λ j on.
    let b = c.args.self.now.base.now.block.now in
    let t = c.args.self.now.touch in
    Changes-none b c.args.self.now.base.now.inlet c.args.net.now c.args.table.now one_bit _
    (λ n v k f x. ap (λ y. if is_at j (touch_reached t n.access) then y else x) (unmarked b c.args.self.now.wanted.now c.args.self.now.mark t c.args.slot c.view_at-view.result.now c.view_at-view.ensures (sym c.counts.ensures ∙ c.if-not-counts.true) n v k f x)
    ∙ same_either (is_at j (touch_reached t n.access)) x)

pub slice_copy_out-either : goal.slice_copy_out-either
slice_copy_out-either c =
    let b = c.args.self.now.base.now.block.now in
    let f = field_there b c.args.slot c.view_at-view.result.now c.requires.slot c.view_at-view.ensures in
    let l = slice_get_within b.fields c.view_at-view.result.now.field f.0 f.1 in
    omega (arith, c.requires.table.long)

pub bounds-table-number : goal.bounds-table-number
bounds-table-number c =
    let b = c.args.self.now.base.now.block.now in
    let f = field_there b c.args.slot c.view_at-view.result.now c.requires.slot c.view_at-view.ensures in
    let l = slice_get_within b.fields c.view_at-view.result.now.field f.0 f.1 in
    omega (arith, c.requires.table.long)

pub returns-clause-table : goal.returns-clause-table
returns-clause-table c =
    let b = c.args.self.now.base.now.block.now in
    let f = field_there b c.args.slot c.view_at-view.result.now c.requires.slot c.view_at-view.ensures in
    nodes_set b c.args.net.now c.either.new.net c.args.table.now c.view_at-view.result.now.field f.0 c.in_ok-id.id one_bit f.1 c.requires.table c.in_ok-id.ensures.older c.in_ok-id.ensures.node.stands

pub returns-clause-changes : goal.returns-clause-changes
returns-clause-changes c = λ j on.
    let b = c.args.self.now.base.now.block.now in
    let a = c.args.self.now.base.now.inlet in
    let u = c.view_at-view.result.now in
    let t = c.args.self.now.touch in
    let w = c.args.self.now.wanted.now in
    let m = c.args.self.now.mark in
    let f = field_there b c.args.slot u c.requires.slot c.view_at-view.ensures in
    let counts = sym c.counts.ensures ∙ c.if-not-counts.false in
    let passes = passes_here b c.args.slot u c.view_at-view.ensures (touches t) ∙ (and_parts (is_wanted w (mark_item m u.field)) (touches t u) counts).1 in
    changes_set b c.args.net.now c.either.new.net c.args.table.now u.field f.0 c.in_ok-id.id one_bit f.1 c.requires.table c.in_ok-id.ensures.older
    a (λ n v k g x. if is_at j (touch_reached t n.access) then slot_mark b w m t n v k g x c.args.slot else x)
    (λ g was. mark_put b w m t c.args.slot u c.view_at-view.ensures a c.args.net.now c.either.new.net c.args.hit _ c.in_ok-id.id counts c.in_ok-id.ensures.older c.in_ok-id.ensures.node j f.0 g (on passes) was)
    (λ n v k g x ne. ap (λ y. if is_at j (touch_reached t n.access) then y else x) (mark_other b w m t c.args.slot u c.view_at-view.ensures n v k g x ne) ∙ same_either (is_at j (touch_reached t n.access)) x)
