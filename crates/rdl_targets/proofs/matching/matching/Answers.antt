use Rattle.std.proofs.Common.{◌∙◌, ◌++◌, [], ap, filter, sym, subst}
use Rattle.rdl_values.specs.Instances.{children}
use Rattle.rdl_values.specs.Lineages.{lineages_of}
use Rattle.rdl_targets.specs.At.{AreAt}
use Rattle.rdl_targets.specs.Contents.{passes}
use Rattle.rdl_targets.proofs.Leading.{under-are}
use Rattle.rdl_targets.proofs.Numbered.{each_all, each_step, filter-each}
use Rattle.rdl_targets.proofs.matching.matching.Goals as goal

pub loop-node-init : goal.loop-node-init
loop-node-init c = λ e ns h at. subst (λ xs. AreAt (lineages_of e) xs []) (sym c.new-list.ensures.items) tt

pub loop-node-preserved : goal.loop-node-preserved
loop-node-preserved c = λ e ns h at.
    each_step (lineages_of e) (λ n. filter (passes c.args.wanted.now c.args.name.now) (children n)) c.args.nodes.now ns c.loop-node.node-index 0 c.loop-node.list.items _ c.add_all.new.list.items c.loop-node-test.true at
    (c.in_ok-add_all.ensures ∙ ap (λ xs. c.loop-node.list.items ++ xs) c.all.ensures) (λ n is. under-are e c.args.contents.now _ n c.args.name.now c.args.wanted.now h is) (c.loop-node.invariant e ns h at)

pub returns : goal.returns
returns c = λ e ns h at.
    subst (AreAt (lineages_of e) c.loop-node.list.items) (filter-each (passes c.args.wanted.now c.args.name.now) children ns)
    (each_all (lineages_of e) (λ n. filter (passes c.args.wanted.now c.args.name.now) (children n)) c.args.nodes.now ns c.loop-node.node-index c.loop-node.list.items c.loop-node-test.false at (c.loop-node.invariant e ns h at))
