use Rattle.std.proofs.Common.{◌∙◌, subst, sym}
use Rattle.rdl_children.specs.Items.{CanList, Lists}
use Rattle.rdl_children.proofs.Itemized.{items_known}
use Rattle.rdl_children.proofs.Sharing.{can_list, judged_all}
use Rattle.rdl_children.proofs.children.judge_children.Goals as goal

pub judge-requires-clause-items : goal.judge-requires-clause-items
judge-requires-clause-items c = items_known c.args.bodies.now c.args.number c.in-Some.body c.args.parent (sym c.body.ensures ∙ c.in-Some.is) c.requires.some

pub list_uses-requires : goal.list_uses-requires
list_uses-requires c =
    subst (CanList c.args.bodies.now c.in-Some.body) (sym c.deref.ensures.value)
    (can_list c.args.bodies.now c.args.failures.now c.judge.new.failures c.args.number c.in-Some.body c.args.parent c.in_ok-items.items.items c.requires.kept (sym c.body.ensures ∙ c.in-Some.is) c.in_ok-items.ensures c.requires.some)

pub returns : goal.returns
returns c = λ above x b here open_ stands.
    judged_all c.args.bodies.now c.args.failures.now c.judge.new.failures c.args.number c.in-Some.body c.args.parent c.in_ok-items.items.items c.requires.kept (sym c.body.ensures ∙ c.in-Some.is) c.in_ok-items.ensures c.list_uses.new.bodies c.in_ok-children.children.now
    (subst (λ is. Lists c.args.bodies.now c.list_uses.new.bodies c.in-Some.body is c.in_ok-children.children.now) c.deref.ensures.value c.in_ok-children.ensures) above x b here open_ stands
