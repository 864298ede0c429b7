use Rattle.std.proofs.Common.{◌∙◌, ◌∷◌, ◌/◌, refl, ap}
use Rattle.rdl_tree.specs.declared.node.Node.{out-Node}
use Rattle.rdl_addr.proofs.Read.{one-side}
use Rattle.rdl_sizes.proofs.Facts.{node-at}
use Rattle.rdl_bits.proofs.one.numbers_of.Goals as goal

pub returns : goal.returns
returns c = λ beside l here says inside.
    let n = node-at c.args.props.now (out-Node c.args.node.now).id l here in
    record {
      place_ = says.place;
      address_ = refl;
      size_ = ap (λ w. w / 8) (c.number-regwidth.ensures l.node n);
      regwidth_ = c.number-regwidth.ensures l.node n;
      accesswidth_ = c.number.ensures l.node n;
      side_ = c.register_side.ensures l.node (l.node ∷ l.ancestors) inside ∙ one-side l.node;
    }
