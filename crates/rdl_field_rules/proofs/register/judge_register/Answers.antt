use Rattle.std.proofs.Common.{◌≡◌, ◌∙◌, ℕ, ◌==◌, true, flat_map, Some, slice_get, sym, ap, subst, arith}
use Rattle.rdl_base.specs.declared.rule.Rule.TheVariants as rule
use Rattle.rdl_tree.specs.declared.item.Kind.TheVariants as kinds
use Rattle.rdl_tree.specs.declared.node.Node.{out-Node}
use Rattle.rdl_values.specs.Elaborated.{nodes_of}
use Rattle.rdl_values.specs.Faults.{at_, when}
use Rattle.rdl_values.specs.Instances.{is_empty}
use Rattle.rdl_values.specs.Lineages.{Lineage, lineages_of}
use Rattle.rdl_failures.specs.Noted.{with_all}
use Rattle.rdl_layers.specs.Fields.{fields_of, is_a}
use Rattle.rdl_nodes.specs.Rows.{IsRow}
use Rattle.rdl_addr.specs.Bits.{bits_of}
use Rattle.rdl_rules.specs.FieldRules.{at_node, of_view}
use Rattle.rdl_nodes.proofs.Members.{get-within}
use Rattle.rdl_sizes.specs.Bodies.{IsBodyOf}
use Rattle.rdl_sizes.proofs.Facts.{count-is, node-at, row-at, rows-many}
use Rattle.rdl_sizes.proofs.Turns.{read-at}
use Rattle.rdl_fields.specs.Views.{AreViewsOf}
use Rattle.rdl_field_rules.specs.Judged.{own_failures, register_failures}
use Rattle.rdl_field_rules.proofs.Told.{known-row, body-of-row, empty-fields, empty-length, reg-access, same-lineage}
use Rattle.rdl_field_rules.proofs.Turns.{three-put}
use Rattle.rdl_field_rules.proofs.register.judge_register.Goals as goal

pub bounds-rows-at : goal.bounds-rows-at
bounds-rows-at c = let r = c.requires.register in let low = get-within (lineages_of c.args.props.now) c.args.at r.0 r.1 in let many = rows-many c.args.props.now c.args.rows.now c.requires.rows in omega (arith, low, many)

pub views_in-requires : goal.views_in-requires
views_in-requires c =
    let k = known-row c.args.props.now c.args.rows.now c.requires.rows c.args.at c.requires.register.0 c.requires.register.1 c.index-rows-at.result c.index-rows-at.is in
    subst (λ m. (x : Lineage) × IsBodyOf m c.index-rows-at.result.node.now x) (sym c.requires.map) (k.of, body-of-row c.args.props.now (out-Node c.index-rows-at.result.node.now).id c.index-rows-at.result k.of k.stands k.row)

pub number-access-requires : goal.number-access-requires
number-access-requires c =
    let k = known-row c.args.props.now c.args.rows.now c.requires.rows c.args.at c.requires.register.0 c.requires.register.1 c.index-rows-at.result c.index-rows-at.is in
    let low = get-within (lineages_of c.args.props.now) (out-Node c.index-rows-at.result.node.now).id k.of k.stands in
    let n = count-is c.args.props.now c.requires.clean in
    omega (arith, low, n)

pub judge_views-requires-clause-access : goal.judge_views-requires-clause-access
judge_views-requires-clause-access c =
    let e = c.args.props.now in
    let k = known-row c.args.props.now c.args.rows.now c.requires.rows c.args.at c.requires.register.0 c.requires.register.1 c.index-rows-at.result c.index-rows-at.is in
    let same = same-lineage e c.args.at c.requires.register.0 k.of c.requires.register.1 k.here in
    let reg = subst (λ (l : Lineage). is_a kinds.Reg l.node ≡ true) same c.requires.register.2 in
    reg-access e c.requires.settled (out-Node c.index-rows-at.result.node.now).id k.of k.stands reg c.number-access.result (c.number-access.ensures k.of.node (node-at e (out-Node c.index-rows-at.result.node.now).id k.of k.stands))

pub judge_views-requires-clause-views : goal.judge_views-requires-clause-views
judge_views-requires-clause-views c =
    let e = c.args.props.now in
    let k = known-row c.args.props.now c.args.rows.now c.requires.rows c.args.at c.requires.register.0 c.requires.register.1 c.index-rows-at.result c.index-rows-at.is in
    (bits_of k.of.node, subst (λ vs. AreViewsOf e vs (bits_of k.of.node)) (sym c.deref.ensures.value) (subst (λ m. AreViewsOf m c.in_ok-views.views.items (bits_of k.of.node)) c.requires.map (c.in_ok-views.ensures k.of (subst (λ m. IsBodyOf m c.index-rows-at.result.node.now k.of) (sym c.requires.map) (body-of-row e (out-Node c.index-rows-at.result.node.now).id c.index-rows-at.result k.of k.stands k.row)))))

pub judge_own-requires-clause-row : goal.judge_own-requires-clause-row
judge_own-requires-clause-row c =
    let e = c.args.props.now in
    let k = known-row c.args.props.now c.args.rows.now c.requires.rows c.args.at c.requires.register.0 c.requires.register.1 c.index-rows-at.result c.index-rows-at.is in
    (k.of, k.stands, k.row, subst (λ vs. AreViewsOf e vs (bits_of k.of.node)) (sym c.deref-2.ensures.value) (subst (λ m. AreViewsOf m c.in_ok-views.views.items (bits_of k.of.node)) c.requires.map (c.in_ok-views.ensures k.of (subst (λ m. IsBodyOf m c.index-rows-at.result.node.now k.of) (sym c.requires.map) (body-of-row e (out-Node c.index-rows-at.result.node.now).id c.index-rows-at.result k.of k.stands k.row)))))

pub returns : goal.returns
unfolding register_failures
returns c = λ l at.
    let e = c.args.props.now in
    let k = known-row c.args.props.now c.args.rows.now c.requires.rows c.args.at c.requires.register.0 c.requires.register.1 c.index-rows-at.result c.index-rows-at.is in
    let same : k.of ≡ l = same-lineage e c.args.at k.of l k.here at in
    let n = k.of.node in
    let views : AreViewsOf e c.in_ok-views.views.items (bits_of n) = subst (λ m. AreViewsOf m c.in_ok-views.views.items (bits_of n)) c.requires.map (c.in_ok-views.ensures k.of (subst (λ m. IsBodyOf m c.index-rows-at.result.node.now k.of) (sym c.requires.map) (body-of-row e (out-Node c.index-rows-at.result.node.now).id c.index-rows-at.result k.of k.stands k.row))) in
    let access = c.number-access.ensures n (node-at e (out-Node c.index-rows-at.result.node.now).id k.of k.stands) in
    let place = k.row.says.place in
    let none : c.is_empty-is_empty.result ≡ is_empty (fields_of n) = c.is_empty-is_empty.ensures ∙ (ap (λ (j : ℕ). j == 0) c.in_ok-views.views.ok.0 ∙ (empty-length c.in_ok-views.views.items ∙ empty-fields e c.in_ok-views.views.items n views)) in
    let last : c.note.new.self ≡ with_all (at_node rule.F14 n (is_empty (fields_of n))) c.judge_own.new.failures = c.in_ok-note.ensures.put ∙ (λ i. with_all (when (none i) (at_ rule.F14 (place i))) c.judge_own.new.failures) in
    three-put (flat_map (of_view n) (bits_of n)) (own_failures (nodes_of e) n) (at_node rule.F14 n (is_empty (fields_of n))) c.args.failures.now c.judge_views.new.failures c.judge_own.new.failures c.note.new.self
    (c.in_ok-judge_views.ensures n (bits_of n) access (subst (λ vs. AreViewsOf e vs (bits_of n)) (sym c.deref.ensures.value) views)) (c.in_ok-judge_own.ensures k.of k.stands) last
    ∙ ap (λ (m : Lineage). with_all (register_failures (nodes_of e) m.node) c.args.failures.now) same
