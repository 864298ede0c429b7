use Rattle.std.proofs.Common.{◌∙◌, ◌++◌, ◌∷◌, [], cond, sym, ap, subst, arith}
use Rattle.std.proofs.lemmas.Result.{on_ok_weaker}
use Rattle.rdl_props.specs.declared.prop.Prop.TheVariants as properties
use Rattle.rdl_values.specs.Lineages.{lineages_of}
use Rattle.rdl_refs.specs.Follows.{given_items}
use Rattle.rdl_bind.specs.Given.{NameItems}
use Rattle.rdl_bind.specs.Known.{numbers_of}
use Rattle.rdl_bind.proofs.Items.{node-counted, node-here}
use Rattle.rdl_bind.proofs.fields.add_wire.Goals as goal

pub targets_of-requires : goal.targets_of-requires
targets_of-requires c =
    let e = c.args.known.props.now in
    let low = node-counted e c.requires.known.clean c.args.item.node c.requires.item.0.node (node-here e c.requires.item.0 c.args.item c.requires.item.1) in
    let many = c.requires.known.sized in
    omega (arith, low, many)

pub returns : goal.returns
returns c = on_ok_weaker c.add_given.result (λ h i is out.
    let e = c.args.known.props.now in
    let here = node-here e i c.args.item is in
    let low = node-counted e c.requires.known.clean c.args.item.node i.node here in
    let names = subst (NameItems e c.args.item.node) (sym c.targets_of.ensures) (c.requires.known.named c.args.item.node low) in
    h e c.args.item.node i.node here names ∙ ap (λ b. c.args.list.now.items ++ numbers_of e (cond b (given_items (lineages_of e) i.node (properties.Next ∷ [])) [])) (sym c.if-not-is_wire_field.false ∙ c.is_wire_field.ensures i is out)) c.add_given.ensures
