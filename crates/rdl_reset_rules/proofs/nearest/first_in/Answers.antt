use Rattle.std.proofs.Common.{◌≡◌, ◌∙◌, ◌<◌, false, cond, [], ◌∷◌, ◌++◌, None, refl, sym, subst, arith}
use Rattle.rdl_tree.specs.declared.node.Node.{out-Node}
use Rattle.rdl_fields.proofs.Lists.{filter-all, filter-next}
use Rattle.rdl_rules.specs.Fields.{is_field_reset}
use Rattle.rdl_sizes.proofs.Turns.{read-at}
use Rattle.rdl_reset_rules.proofs.Said.{as-many, said-at}
use Rattle.rdl_reset_rules.specs.Nearest.{IsFirst}
use Rattle.rdl_reset_rules.proofs.Nearing.{first-at, is-first}
use Rattle.rdl_reset_rules.proofs.nearest.first_in.Goals as goal

pub is_field_reset-requires : goal.is_field_reset-requires
is_field_reset-requires c = subst (λ x. (out-Node x).id < c.args.props.now.count) (sym c.node-item.is) (c.requires c.loop-node.node-index c.node-item.result c.loop-node-test.true)

pub loop-node-init : goal.loop-node-init
loop-node-init c = λ ns h. refl

pub returns-then-is_field_reset : goal.returns-then-is_field_reset
returns-then-is_field_reset c = λ ns h.
    let e = c.args.props.now in
    let i = c.loop-node.node-index in
    let s = said-at e c.args.nodes.now ns h i c.node-item.result (read-at c.args.nodes.now i c.node-item.result c.loop-node-test.true c.node-item.is) in
    is-first e _ s.0 (out-Node c.node-item.result).id s.2.here (first-at is_field_reset ns i s.0 s.1 (c.loop-node.invariant ns h) (sym (c.is_field_reset.ensures s.0 s.2) ∙ c.if-is_field_reset.true))

pub loop-node-preserved : goal.loop-node-preserved
loop-node-preserved c = λ ns h.
    let e = c.args.props.now in
    let i = c.loop-node.node-index in
    let s = said-at e c.args.nodes.now ns h i c.node-item.result (read-at c.args.nodes.now i c.node-item.result c.loop-node-test.true c.node-item.is) in
    let no : is_field_reset s.0 ≡ false = sym (c.is_field_reset.ensures s.0 s.2) ∙ c.if-is_field_reset.false in
    let before = c.loop-node.invariant ns h in
    filter-next is_field_reset ns i s.0 s.1 ∙ (λ j. before j ++ cond (no j) (s.0 ∷ []) [])

pub returns : goal.returns
returns c = λ ns h.
    let e = c.args.props.now in
    let many = as-many e c.args.nodes.now ns h in
    subst (λ xs. IsFirst e xs None) (sym (sym (filter-all is_field_reset ns c.loop-node.node-index (omega (arith, many, c.loop-node-test.false))) ∙ c.loop-node.invariant ns h)) refl
