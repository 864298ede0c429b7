use Rattle.std.proofs.Common.{◌≡◌, ◌∙◌, arith, length, sym, vec_len}
use Rattle.rdl_children.proofs.Sharing.{empty_list, uses_none, uses_unbound}
use Rattle.rdl_children.proofs.given.add_uses.Goals as goal

pub returns-then-is_empty : goal.returns-then-is_empty
returns-then-is_empty c =
    let given = c.args.item.now.uses.given in
    let ok = given.ok.0 in
    let size : vec_len given ≡ length given.items = omega (arith, ok) in
    uses_none c.args.bodies.now c.args.body.now c.args.item.now c.args.list.now.items (empty_list given.items (vec_len given) size (sym c.is_empty.ensures ∙ c.if-is_empty.true))

pub returns-in-None : goal.returns-in-None
returns-in-None c = uses_unbound c.args.bodies.now c.args.body.now c.args.item.now c.args.list.now.items c.in-None.is
