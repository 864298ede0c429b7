use Rattle.std.proofs.Common.{◌∙◌, [], take, flat_map, ap, sym, subst, refl}
use Rattle.std.proofs.lemmas.List.{take_all}
use Rattle.rdl_values.specs.Bodies.{scope_at}
use Rattle.rdl_values.specs.Phase3.{of_use}
use Rattle.rdl_values.specs.Uses.{parent_of}
use Rattle.rdl_failures.specs.Noted.{with_all}
use Rattle.rdl_children.specs.ItemUses.{GivesAll, none}
use Rattle.rdl_children.proofs.Listing.{items_more, seens_in, uses_in}
use Rattle.rdl_children.proofs.body.judge_items.Goals as goal

pub loop-position-init : goal.loop-position-init
loop-position-init c = λ above b scene. record { earlier = c.new-earlier.ensures; noted = refl; given = subst (λ xs. GivesAll c.args.scene.now xs []) (sym c.new-list.ensures.items) none }

pub loop-position-preserved : goal.loop-position-preserved
loop-position-preserved c = λ above b scene.
    let s = c.args.scene.now in
    let items = c.args.items.now in
    let k = c.loop-position.position in
    let inv = c.loop-position.invariant above b scene in
    let p = parent_of b in
    let scope = scope_at b (take k items) in
    let us = uses_in b (take k items) in
    items_more s above b items scene k c.loop-position-test.true c.index-items-position.result c.index-items-position.is c.loop-position.earlier c.judge_item.new.earlier c.args.failures.now c.loop-position.failures c.judge_item.new.failures c.loop-position.list.items c.add.new.list.items c.in_ok-uses.uses inv
    (c.in_ok-uses.ensures.earlier p above scope us (scene.scenes k) inv.earlier) (c.in_ok-uses.ensures.noted p above scope us (scene.scenes k) inv.earlier) (c.in_ok-uses.ensures.given p above scope us (scene.scenes k) inv.earlier) c.in_ok-add.ensures

pub returns-clause-noted : goal.returns-clause-noted
returns-clause-noted c = λ above b scene.
    (c.loop-position.invariant above b scene).noted ∙ ap (λ is. with_all (flat_map of_use (seens_in (parent_of b) above (uses_in b is))) c.args.failures.now) (take_all c.loop-position.position c.args.items.now c.loop-position-test.false ∙ sym scene.items_are)

pub returns-clause-given : goal.returns-clause-given
returns-clause-given c = λ above b scene.
    subst (λ is. GivesAll c.args.scene.now c.loop-position.list.items (seens_in (parent_of b) above (uses_in b is))) (take_all c.loop-position.position c.args.items.now c.loop-position-test.false ∙ sym scene.items_are) (c.loop-position.invariant above b scene).given
