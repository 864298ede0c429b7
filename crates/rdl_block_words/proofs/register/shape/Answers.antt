use Rattle.std.proofs.Common.{◌∙◌, refl, sym, ap, subst, arith}
use Rattle.rdl_tree.specs.declared.node.Node.{out-Node}
use Rattle.rdl_values.specs.Elaborated.{nodes_of}
use Rattle.rdl_nodes.proofs.Members.{get-within}
use Rattle.rdl_sizes.proofs.Facts.{count-is, nodes-many}
use Rattle.rdl_addr.specs.Answers.{HasAddressAt, IsAddressAt}
use Rattle.rdl_sound_laws.proofs.Placed.{access, width}
use Rattle.rdl_block_words.proofs.Standing.{low-address, reg-address, shape-fits, small-access, small-width, spot-node, stands-at}
use Rattle.rdl_block_words.proofs.register.shape.Goals as goal

pub address-address-requires : goal.address-address-requires
address-address-requires c =
    let r = c.requires.register in
    subst (λ m. HasAddressAt m (out-Node c.args.node.now).id) (sym c.requires.map) (reg-address c.args.props.now (out-Node c.args.node.now).id r.0 r.1 r.2)

pub number-regwidth-requires : goal.number-regwidth-requires
number-regwidth-requires c =
    let r = c.requires.register in
    let low = get-within (nodes_of c.args.props.now) (out-Node c.args.node.now).id r.0 r.1 in
    let count = count-is c.args.props.now c.requires.clean in
    let many = nodes-many c.args.props.now in
    omega (arith, low, count, many)

pub number-accesswidth-requires : goal.number-accesswidth-requires
number-accesswidth-requires c =
    let r = c.requires.register in
    let low = get-within (nodes_of c.args.props.now) (out-Node c.args.node.now).id r.0 r.1 in
    let count = count-is c.args.props.now c.requires.clean in
    let many = nodes-many c.args.props.now in
    omega (arith, low, count, many)

pub overflow_cast-result : goal.overflow_cast-result
overflow_cast-result c =
    let e = c.args.props.now in
    let k = (out-Node c.args.node.now).id in
    let r = c.requires.register in
    let a = subst (λ m. IsAddressAt m k c.address-address.result) c.requires.map c.address-address.ensures in
    let low = low-address a.0 (stands-at e c.requires.settled c.requires.placed k r.0 a.0 r.1 r.2 a.1) in
    let is = a.2 in
    omega (arith, low, is)

pub overflow_cast-result-2 : goal.overflow_cast-result-2
overflow_cast-result-2 c =
    let e = c.args.props.now in
    let k = (out-Node c.args.node.now).id in
    let r = c.requires.register in
    let a = subst (λ m. IsAddressAt m k c.address-address.result) c.requires.map c.address-address.ensures in
    let low = small-width a.0 (stands-at e c.requires.settled c.requires.placed k r.0 a.0 r.1 r.2 a.1) in
    let is = c.number-regwidth.ensures r.0 r.1 ∙ ap width (sym (spot-node e k r.0 a.0 r.1 a.1)) in
    omega (arith, low, is)

pub overflow_cast-result-3 : goal.overflow_cast-result-3
overflow_cast-result-3 c =
    let e = c.args.props.now in
    let k = (out-Node c.args.node.now).id in
    let r = c.requires.register in
    let a = subst (λ m. IsAddressAt m k c.address-address.result) c.requires.map c.address-address.ensures in
    let low = small-access a.0 (stands-at e c.requires.settled c.requires.placed k r.0 a.0 r.1 r.2 a.1) in
    let is = c.number-accesswidth.ensures r.0 r.1 ∙ ap access (sym (spot-node e k r.0 a.0 r.1 a.1)) in
    omega (arith, low, is)

pub returns : goal.returns
returns c =
    let e = c.args.props.now in
    let k = (out-Node c.args.node.now).id in
    let r = c.requires.register in
    let a = subst (λ m. IsAddressAt m k c.address-address.result) c.requires.map c.address-address.ensures in
    let own = sym (spot-node e k r.0 a.0 r.1 a.1) in
    let whole = c.number-regwidth.ensures r.0 r.1 ∙ ap width own in
    let part = c.number-accesswidth.ensures r.0 r.1 ∙ ap access own in
    record {
      spot = a.0;
      here = a.1;
      is = record { number_ = refl; first_view_ = refl; address_ = sym a.2; regwidth_ = whole; accesswidth_ = part };
      fits = shape-fits _ a.0 (stands-at e c.requires.settled c.requires.placed k r.0 a.0 r.1 r.2 a.1) (sym a.2) whole part;
    }
