use Rattle.std.proofs.Common.{◌≡◌, ◌∙◌, ◌<◌, ap, sym, subst, arith}
use Rattle.rdl_refs.specs.Answers.{TargetAt}
use Rattle.rdl_refs.specs.Tables.{item_at, list_at}
use Rattle.rdl_refs.proofs.Gets.{list-at}
use Rattle.rdl_refs.proofs.refs.Refs.target.Goals as goal

pub returns : goal.returns
returns c =
    let tables = c.self.invariant in
    let ts = c.self.inside.targets.items in
    let count = ap (λ e. e.count) c.self.view_is in
    let node = c.args.node in
    let below : node < c.self.inside.elab.count = (let r = c.requires in omega (arith, r, count)) in
    let listed = list-at ts node c.index.result.now (let s = tables.sized in omega (arith, below, s)) in
    let is : item_at c.args.prop (list_at ts node) ≡ c.item_of.result = ap (item_at c.args.prop) (listed ∙ (ap (λ v. v.items) (sym c.index.ensures) ∙ sym c.deref.ensures.value)) ∙ sym c.item_of.ensures in
    subst (λ e. TargetAt e node c.args.prop c.item_of.result) c.self.view_is (subst (TargetAt c.self.inside.elab node c.args.prop) is (tables.named node c.args.prop below))
