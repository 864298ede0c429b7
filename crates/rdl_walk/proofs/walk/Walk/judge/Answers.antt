use Rattle.std.proofs.Common.{◌∙◌, refl, subst, sym}
use Rattle.rdl_uses.specs.Placed.{IsParent}
use Rattle.rdl_values.specs.Uses.{parent_of, seen}
use Rattle.rdl_children.specs.Children.{IsJudged}
use Rattle.rdl_walk.proofs.Asking.{asked_new, can_judge}
use Rattle.rdl_walk.proofs.walk.Walk.judge.Goals as goal

pub judge_children-requires-clause-some : goal.judge_children-requires-clause-some
judge_children-requires-clause-some c = can_judge c.args.self.now.bodies c.args.number c.args.standing c.in-Some.body c.holder_of.result c.requires.some (sym c.body.ensures ∙ c.in-Some.is) c.holder_of.ensures

pub returns : goal.returns
returns c = λ above x b e open_ p.
    let w = c.args.self.now in
    let v = c.push.new.self in
    let y = c.in-Some.body in
    let at = c.args.standing in
    let xs = c.in_ok-children.children.now in
    let here = sym c.body.ensures ∙ c.in-Some.is in
    asked_new w v (record { body = c.args.number; standing = at; children = c.in_ok-children.children }) c.requires.walking c.args.number at y here refl refl c.in_ok-push.ensures.count c.in_ok-push.ensures.judgements
    (λ ab bb o q.
    subst (λ t. IsJudged w.bodies t w.failures v.failures xs (seen ab bb)) (sym c.in_ok-push.ensures.bodies)
    (subst (λ fs. IsJudged w.bodies c.judge_children.new.bodies w.failures fs xs (seen ab bb)) (sym c.in_ok-push.ensures.failures)
    (c.in_ok-children.ensures ab y bb here o (subst (λ h. IsParent (record { holder = h; standing = at }) (parent_of bb)) (sym c.holder_of.ensures) q))))
    above x b e open_ p
