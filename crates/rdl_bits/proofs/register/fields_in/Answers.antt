use Rattle.std.proofs.Common.{◌∷◌, filter, take, sym, subst, arith}
use Rattle.rdl_tree.specs.declared.item.Kind.TheVariants as kinds
use Rattle.rdl_tree.specs.declared.node.Node.{out-Node}
use Rattle.rdl_values.specs.Elaborated.{around_body}
use Rattle.rdl_values.specs.Instances.{children}
use Rattle.rdl_values.specs.Lineages.{lineages_of}
use Rattle.rdl_layers.specs.Fields.{is_a}
use Rattle.rdl_addr.specs.Fields.{AreFieldsOf}
use Rattle.rdl_addr.proofs.Using.{children-texts}
use Rattle.rdl_nodes.proofs.Members.{each-in, place-in}
use Rattle.rdl_sizes.specs.Bodies.{HasText}
use Rattle.rdl_sizes.proofs.Facts.{node-at}
use Rattle.rdl_sizes.proofs.Turns.{as-many, inside-at, read-at}
use Rattle.rdl_bits.proofs.Lists.{filter-all, filter-next}
use Rattle.rdl_bits.proofs.register.fields_in.Goals as goal

pub loop-child-preserved : goal.loop-child-preserved
loop-child-preserved c = record {
  fit = c.in_ok-add_field.ensures.fit c.loop-child.invariant.fit;
  all = λ n body shown.
      let e = c.args.props.now in
      let rs = (out-Node c.args.node.now).children.now in
      let i = c.loop-child.child-index in
      let r = c.child-item.result in
      let is = inside-at (lineages_of e) (n.node ∷ n.ancestors) rs rs (children n.node) body.inside i r (read-at rs i r c.loop-child-test.true c.child-item.is) in
      let text = each-in (HasText (around_body n.node)) (children n.node) is.0 (children-texts n.node) (place-in (children n.node) i is.0 is.1) in
      subst (AreFieldsOf c.add_field.new.fields.items) (sym (filter-next (is_a kinds.Field) (children n.node) i is.0 is.1))
      (c.in_ok-add_field.ensures.field (around_body n.node) rs is.0 (filter (is_a kinds.Field) (take i (children n.node))) shown (node-at e (out-Node r).id (record { node = is.0; ancestors = n.node ∷ n.ancestors }) is.2.here) is.2.says
      text (c.loop-child.invariant.all n body shown));
}

pub returns-clause-fields : goal.returns-clause-fields
returns-clause-fields c = λ n body shown.
    let rs = (out-Node c.args.node.now).children.now in
    let many = as-many (lineages_of c.args.props.now) (n.node ∷ n.ancestors) rs rs (children n.node) body.inside in
    subst (AreFieldsOf c.loop-child.fields.items) (filter-all (is_a kinds.Field) (children n.node) c.loop-child.child-index (omega (arith, many, c.loop-child-test.false))) (c.loop-child.invariant.all n body shown)
