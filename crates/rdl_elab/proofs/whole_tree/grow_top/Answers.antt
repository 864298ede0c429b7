use Rattle.std.proofs.Common.{[], ap, option_and_then, subst, sym}
use Rattle.rdl_values.specs.Elaborated.{IsTreeOf, index_of, number_named}
use Rattle.rdl_values.specs.Instances.{kind_of}
use Rattle.rdl_elab.proofs.Totals.{can_visit_top, in_top_stands, top_fits}
use Rattle.rdl_elab.proofs.whole_tree.grow_top.Goals as goal

pub grow-requires-clause-some : goal.grow-requires-clause-some
grow-requires-clause-some c = can_visit_top c.args.growing.now.walk.bodies c.args.top c.requires.some.0 c.requires.some.1

pub returns : goal.returns
returns c = λ n h whole.
    subst (λ r. IsTreeOf [] c.args.growing.now.count r n c.grow.new.self.count) (sym c.in_ok-kept.ensures)
    (c.in_ok-node.ensures.node h.site n h.here h.at (in_top_stands n.path (kind_of n) h.path_is) (top_fits c.args.growing.now.walk.bodies c.args.top n h) whole
    (record { name_is = h.name_is; index_is = sym (ap index_of h.path_is); inst_is = sym h.inst_is }) [] (sym (ap (option_and_then (number_named [])) h.alias_is)))
