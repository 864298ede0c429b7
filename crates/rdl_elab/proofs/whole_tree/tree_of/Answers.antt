use Rattle.std.proofs.Common.{refl}
use Rattle.rdl_elab.proofs.Environments.{envs_none}
use Rattle.rdl_elab.proofs.Staying.{node_stays}
use Rattle.rdl_elab.proofs.Sources.{elaborates, is_some_top, is_top, never, root_is_whole, top_is_whole, top_node}
use Rattle.rdl_elab.proofs.whole_tree.tree_of.Goals as goal

pub unreachable-requires : goal.unreachable-requires
unreachable-requires c =
    let r = c.requires in
    never c.args.surveyed.top (is_some_top r.wanted c.args.source.now c.args.surveyed r.survey r.clean) c.in_default.is

pub grow_signals-requires-clause-growing : goal.grow_signals-requires-clause-growing
grow_signals-requires-clause-growing c = record { walking = c.requires.survey.walking; envs = envs_none c.args.surveyed.walk.bodies.list.items c.new.result.items c.new.ensures.items }

pub grow_top-requires-clause-some : goal.grow_top-requires-clause-some
grow_top-requires-clause-some c =
    let r = c.requires in
    let s = c.args.source.now in
    let v = c.args.surveyed in
    let x = c.in-Some.top in
    let n = top_node r.wanted s v r.survey r.clean x c.in-Some.is in
    (n, node_stays v.walk.bodies c.grow_signals.new.growing.walk.bodies v.walk.failures x n r.survey.walking.kept c.in_ok-signals.ensures.grown.grown (is_top r.wanted s v r.survey r.clean x c.in-Some.is))

pub returns : goal.returns
returns c = λ w survey.
    let s = c.args.source.now in
    let v = c.args.surveyed in
    let x = c.in-Some.top in
    let clean = c.requires.clean in
    let n = top_node w s v survey clean x c.in-Some.is in
    let there = node_stays v.walk.bodies c.grow_signals.new.growing.walk.bodies v.walk.failures x n survey.walking.kept c.in_ok-signals.ensures.grown.grown (is_top w s v survey clean x c.in-Some.is) in
    elaborates w s v survey clean x c.in-Some.is _ c.grow_signals.new.growing.count refl (c.in_ok-signals.ensures.nodes s survey.root_ (root_is_whole w s v survey clean)) (c.in_ok-top.ensures n there (top_is_whole w s v survey clean x c.in-Some.is))
