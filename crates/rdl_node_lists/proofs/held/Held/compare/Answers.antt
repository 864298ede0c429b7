use Rattle.std.proofs.Common.{◌∙◌, ap, sym}
use Rattle.std.specs.Cmp.Lexicographic.{slice_cmp}
use Rattle.std.specs.Ordering.{is_ne, nat_cmp}
use Rattle.rdl_nodes.specs.Keyed.{Key}
use Rattle.rdl_node_lists.specs.Keys.{key_of}
use Rattle.rdl_node_lists.proofs.Sorted.{last-tells}
use Rattle.rdl_node_lists.proofs.held.Held.compare.Goals as goal

pub returns : goal.returns
returns c =
    let own : Key = key_of c.args.by c.args.self.now in
    c.cmp.ensures ∙ (λ t. slice_cmp nat_cmp (c.index.ensures t) c.args.index.now)
    ∙ last-tells (nat_cmp own.body c.args.body) (slice_cmp nat_cmp own.name c.args.name.now) (slice_cmp nat_cmp own.index c.args.index.now)
    (ap is_ne (sym c.cmp-bodies.ensures) ∙ sym c.is_ne.ensures ∙ c.if-is_ne.false) (ap is_ne (sym c.cmp-names.ensures) ∙ sym c.is_ne-2.ensures ∙ c.if-is_ne-2.false)
