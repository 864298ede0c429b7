use Rattle.std.proofs.Common.{subst, sym, arith}
use Rattle.rdl_values.specs.Elaborated.{nodes_of}
use Rattle.rdl_addr.specs.Answers.{IsFieldAt, AreBitsAt}
use Rattle.rdl_addr.proofs.Found.{get-within, read}
use Rattle.rdl_addr.proofs.map.Map.bits.Goals as goal

pub returns : goal.returns
returns c =
    let node = c.args.node in
    let tables = c.self.invariant in
    let has : IsFieldAt c.self.inside.elab node = subst (λ e. IsFieldAt e node) (sym c.self.view_is) c.requires in
    let low = get-within (nodes_of c.self.inside.elab) node has.0 has.1 in
    let is = read c.self.inside.bits.items node (0, 0) c.index.result.now (let all = tables.all_fields in omega (arith, low, all)) c.index.ensures in
    subst (λ e. AreBitsAt e node c.index.result.now) c.self.view_is (subst (AreBitsAt c.self.inside.elab node) is (tables.fields node has))
