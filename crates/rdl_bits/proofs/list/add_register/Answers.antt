use Rattle.std.proofs.Common.{◌≡◌, ◌∙◌, ◌∷◌, true, sym, ap, subst, arith}
use Rattle.rdl_tree.specs.declared.item.Kind.TheVariants as kinds
use Rattle.rdl_tree.specs.declared.node.Node.{out-Node}
use Rattle.rdl_tree.specs.Kinds.{same_kind}
use Rattle.rdl_values.specs.Elaborated.{Says}
use Rattle.rdl_values.specs.Instances.{children}
use Rattle.rdl_values.specs.Lineages.{lineages_of}
use Rattle.rdl_nodes.specs.Rows.{AreInside}
use Rattle.rdl_nodes.proofs.Members.{get-within}
use Rattle.rdl_sizes.proofs.Facts.{count-is}
use Rattle.rdl_sizes.proofs.Sizing.{all-within}
use Rattle.rdl_bits.specs.Found.{is_register}
use Rattle.rdl_bits.proofs.Listed.{passed-by, reg-placed, taken-up}
use Rattle.rdl_bits.proofs.list.add_register.Goals as goal

pub numbers_of-register-requires-clause-here : goal.numbers_of-register-requires-clause-here
numbers_of-register-requires-clause-here c =
    let r = c.requires.row in
    let low = get-within (lineages_of c.args.props.now) (out-Node c.args.node.now).id r.0 r.1 in
    let n = count-is c.args.props.now c.requires.clean in
    omega (arith, low, n)

pub numbers_of-register-requires-clause-within : goal.numbers_of-register-requires-clause-within
numbers_of-register-requires-clause-within c =
    let r = c.requires.row in
    let e = c.args.props.now in
    let inside = subst (λ y. AreInside (lineages_of e) (r.0.node ∷ r.0.ancestors) (out-Node y).children.now (out-Node y).children.now (children r.0.node)) r.3 r.4.inside in
    all-within (lineages_of e) (r.0.node ∷ r.0.ancestors) (out-Node c.args.node.now).children.now (out-Node c.args.node.now).children.now (children r.0.node) inside e.count (sym (count-is e c.requires.clean))

pub returns-then-not-is_register : goal.returns-then-not-is_register
returns-then-not-is_register c =
    let r = c.requires.row in
    let says = subst (λ y. Says r.4.beside y r.0.node) r.3 r.4.says in
    passed-by c.args.props.now (out-Node c.args.node.now).id r.0 r.1 c.args.registers.now.items c.requires.before (ap (same_kind kinds.Reg) (sym says.kind) ∙ (sym c.is_register.ensures ∙ c.if-not-is_register.true))

pub returns : goal.returns
returns c =
    let r = c.requires.row in
    let e = c.args.props.now in
    let says = subst (λ y. Says r.4.beside y r.0.node) r.3 r.4.says in
    let inside = subst (λ y. AreInside (lineages_of e) (r.0.node ∷ r.0.ancestors) (out-Node y).children.now (out-Node y).children.now (children r.0.node)) r.3 r.4.inside in
    let reg : is_register r.0 ≡ true = ap (same_kind kinds.Reg) (sym says.kind) ∙ (sym c.is_register.ensures ∙ c.if-not-is_register.false) in
    taken-up e (out-Node c.args.node.now).id r.0 r.1 c.args.registers.now.items c.requires.before reg c.args.address (r.5 (reg-placed r.0.node reg)) c.numbers_of-register.result
    (c.numbers_of-register.ensures r.4.beside r.0 r.1 says inside) c.requires.settled (c.ends_below.ensures.0 c.if-not-ends_below.false) c.push.new.self.items c.in_ok-push.ensures.items
