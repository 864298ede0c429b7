use Rattle.std.proofs.Common.{subst, sym, arith}
use Rattle.rdl_values.specs.Elaborated.{nodes_of}
use Rattle.rdl_addr.specs.Answers.{HasAddressAt, IsSizeAt}
use Rattle.rdl_addr.proofs.Found.{get-within, read}
use Rattle.rdl_addr.proofs.map.Map.size.Goals as goal

pub returns : goal.returns
returns c =
    let node = c.args.node in
    let tables = c.self.invariant in
    let has : HasAddressAt c.self.inside.elab node = subst (λ e. HasAddressAt e node) (sym c.self.view_is) c.requires in
    let low = get-within (nodes_of c.self.inside.elab) node has.0 has.1 in
    let is = read c.self.inside.areas.items node (record { address = 0; size = 0 }) c.index.result.now (let all = tables.all_placed in omega (arith, low, all)) c.index.ensures in
    subst (λ e. IsSizeAt e node c.index.result.now.size) c.self.view_is (subst (λ s. IsSizeAt c.self.inside.elab node s.size) is (tables.sizes node has))
