use Rattle.std.proofs.Common.{◌≡◌, ◌∙◌, ◌<◌, ap, sym, subst, arith}
use Rattle.rdl_layers.specs.Answers.{SaysAt}
use Rattle.rdl_layers.specs.Tables.{entries_at, setting_in}
use Rattle.rdl_layers.proofs.Entries.{entries-read}
use Rattle.rdl_layers.proofs.props.Props.value.Goals as goal

pub returns : goal.returns
returns c =
    let tables = c.self.invariant.settings_ in
    let es = c.self.inside.entries.items in
    let count = ap (λ e. e.count) c.self.view_is in
    let node = c.args.node in
    let below : node < c.self.inside.elab.count = (let r = c.requires in omega (arith, r, count)) in
    let listed = entries-read es node c.index.result.now (let s = tables.all_nodes in omega (arith, below, s)) in
    let is : setting_in c.args.prop (entries_at es node) ≡ c.setting_of.result = ap (setting_in c.args.prop) (listed ∙ (ap (λ v. v.items) (sym c.index.ensures) ∙ sym c.deref.ensures.value)) ∙ sym c.setting_of.ensures in
    subst (λ e. SaysAt e node c.args.prop c.setting_of.result) c.self.view_is (subst (SaysAt c.self.inside.elab node c.args.prop) is (tables.settings node c.args.prop below))
