use Rattle.std.proofs.Common.{◌∷◌, [], sym, subst, arith}
use Rattle.std.proofs.lemmas.Result.{on_ok_weaker}
use Rattle.rdl_values.specs.Lineages.{lineages_of}
use Rattle.rdl_refs.specs.Follows.{given_items}
use Rattle.rdl_bind.specs.Given.{NameItems}
use Rattle.rdl_bind.proofs.Items.{more-numbers, node-counted}
use Rattle.rdl_bind.proofs.known.add_with.Goals as goal

pub targets_of-requires : goal.targets_of-requires
targets_of-requires c =
    let low = node-counted c.args.known.props.now c.requires.known.clean c.args.node c.requires.node.0 c.requires.node.1 in
    let many = c.requires.known.sized in
    omega (arith, low, many)

pub returns : goal.returns
returns c = on_ok_weaker c.add_given.result (λ h i here value.
    let e = c.args.known.props.now in
    let low = node-counted e c.requires.known.clean c.args.node i.node here in
    let names = subst (NameItems e c.args.node) (sym c.targets_of.ensures) (c.requires.known.named c.args.node low) in
    more-numbers e (i ∷ []) (given_items (lineages_of e) i.node c.args.props.now) c.args.list.now.items c.add_value.new.list.items c.add_given.new.list.items (c.in_ok-add_value.ensures i here value) (h e c.args.node i.node here names)) c.add_given.ensures
