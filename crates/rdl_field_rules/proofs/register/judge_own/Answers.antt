use Rattle.std.proofs.Common.{◌≡◌, ◌∙◌, Some, sym, ap, subst}
use Rattle.rdl_tree.specs.declared.node.Node.{out-Node}
use Rattle.rdl_values.specs.Elaborated.{nodes_of}
use Rattle.rdl_values.specs.Lineages.{Lineage}
use Rattle.rdl_failures.specs.Noted.{with_all}
use Rattle.rdl_addr.specs.Bits.{bits_of}
use Rattle.rdl_fields.specs.Primary.{TellsPrimary}
use Rattle.rdl_sizes.specs.Bodies.{IsBodyOf}
use Rattle.rdl_sizes.proofs.Facts.{node-at, row-at}
use Rattle.rdl_sizes.proofs.Turns.{read-at}
use Rattle.rdl_fields.specs.Views.{AreViewsOf}
use Rattle.rdl_field_rules.specs.Judged.{own_failures}
use Rattle.rdl_field_rules.proofs.Told.{body-of-row, no-primary, own-alias, own-fields, same-lineage, within-rows}
use Rattle.rdl_field_rules.proofs.register.judge_own.Goals as goal

pub bounds-rows-other : goal.bounds-rows-other
bounds-rows-other c =
    let e = c.args.props.now in
    let r = c.requires.row in
    let told = subst (TellsPrimary e r.0.node) c.in-Some.is (c.primary.ensures e (out-Node c.args.row.now.node.now).id r.0 c.requires.clean r.1 r.2) in
    within-rows e c.args.rows.now c.requires.rows c.in-Some.other told.1 told.2.here

pub views_in-requires : goal.views_in-requires
views_in-requires c =
    let e = c.args.props.now in
    let r = c.requires.row in
    let told = subst (TellsPrimary e r.0.node) c.in-Some.is (c.primary.ensures e (out-Node c.args.row.now.node.now).id r.0 c.requires.clean r.1 r.2) in
    let low = within-rows e c.args.rows.now c.requires.rows c.in-Some.other told.1 told.2.here in
    let other = row-at e c.args.rows.now c.requires.rows c.in-Some.other c.index-rows-other.result (read-at c.args.rows.now c.in-Some.other c.index-rows-other.result low c.index-rows-other.is) in
    subst (λ m. (x : Lineage) × IsBodyOf m c.index-rows-other.result.node.now x) (sym c.requires.map) (other.0, body-of-row e c.in-Some.other c.index-rows-other.result other.0 other.1 other.2)

pub judge_alias-requires-clause-alias : goal.judge_alias-requires-clause-alias
judge_alias-requires-clause-alias c = let r = c.requires.row in (r.0.node, node-at c.args.props.now (out-Node c.args.row.now.node.now).id r.0 r.1, r.3)

pub judge_alias-requires-clause-primary : goal.judge_alias-requires-clause-primary
judge_alias-requires-clause-primary c =
    let e = c.args.props.now in
    let r = c.requires.row in
    let told = subst (TellsPrimary e r.0.node) c.in-Some.is (c.primary.ensures e (out-Node c.args.row.now.node.now).id r.0 c.requires.clean r.1 r.2) in
    let low = within-rows e c.args.rows.now c.requires.rows c.in-Some.other told.1 told.2.here in
    let other = row-at e c.args.rows.now c.requires.rows c.in-Some.other c.index-rows-other.result (read-at c.args.rows.now c.in-Some.other c.index-rows-other.result low c.index-rows-other.is) in
    let body = body-of-row e c.in-Some.other c.index-rows-other.result other.0 other.1 other.2 in
    let views = c.in_ok-others.ensures other.0 (subst (λ m. IsBodyOf m c.index-rows-other.result.node.now other.0) (sym c.requires.map) body) in
    (other.0.node, node-at e c.in-Some.other other.0 other.1, subst (λ vs. AreViewsOf e vs (bits_of other.0.node)) (sym c.deref.ensures.value) (subst (λ m. AreViewsOf m c.in_ok-others.others.items (bits_of other.0.node)) c.requires.map views))

pub returns-in_default : goal.returns-in_default
returns-in_default c = λ l at.
    let e = c.args.props.now in
    let r = c.requires.row in
    let same = same-lineage e (out-Node c.args.row.now.node.now).id r.0 l r.1 at in
    let none = no-primary e r.0.node c.primary.result c.in_default.not-Some (c.primary.ensures e (out-Node c.args.row.now.node.now).id r.0 c.requires.clean r.1 r.2) in
    c.in_ok-judge_fields.ensures (bits_of r.0.node) r.3 ∙ (ap (λ fs. with_all fs c.args.failures.now) (own-fields (nodes_of e) r.0.node none) ∙ ap (λ (m : Lineage). with_all (own_failures (nodes_of e) m.node) c.args.failures.now) same)

pub returns : goal.returns
returns c = λ l at.
    let e = c.args.props.now in
    let r = c.requires.row in
    let same = same-lineage e (out-Node c.args.row.now.node.now).id r.0 l r.1 at in
    let told = subst (TellsPrimary e r.0.node) c.in-Some.is (c.primary.ensures e (out-Node c.args.row.now.node.now).id r.0 c.requires.clean r.1 r.2) in
    c.in_ok-judge_alias.ensures r.0.node told.1 (node-at e (out-Node c.args.row.now.node.now).id r.0 r.1) told.2.here (sym r.2.says.place)
    ∙ (ap (λ fs. with_all fs c.args.failures.now) (own-alias e r.0.node told.1 c.in-Some.other told.0 told.2) ∙ ap (λ (m : Lineage). with_all (own_failures (nodes_of e) m.node) c.args.failures.now) same)
