use Rattle.std.proofs.Common.{[], refl}
use Rattle.rdl_values.specs.Top.{root}
use Rattle.rdl_bodies.proofs.Growing.{grows_on}
use Rattle.rdl_elab.proofs.Environments.{envs_stay}
use Rattle.rdl_elab.proofs.Totals.{at_root_stands, root_parent}
use Rattle.rdl_elab.proofs.whole_tree.grow_signals.Goals as goal

pub grow_all-requires-clause-growing : goal.grow_all-requires-clause-growing
grow_all-requires-clause-growing c =
    let s = c.requires.some.0 in
    let h = c.requires.some.1 in
    let w = c.args.growing.now.walk in
    let g = c.requires.growing in
    let asked = c.in_ok-children.ensures [] h.body (root s) h.here h.open_ (root_parent w.bodies s h) in
    record { walking = asked.walking; envs = envs_stay w.bodies c.children.new.self.bodies w.failures c.args.growing.now.envs.items g.walking.kept asked.grown g.envs }

pub grow_all-requires-clause-some : goal.grow_all-requires-clause-some
grow_all-requires-clause-some c =
    let s = c.requires.some.0 in
    let h = c.requires.some.1 in
    record {
      above = [];
      text = root s;
      children_are = (c.in_ok-children.ensures [] h.body (root s) h.here h.open_ (root_parent c.args.growing.now.walk.bodies s h)).children;
      stands = at_root_stands;
      fits = refl;
    }

pub returns-clause-grown : goal.returns-clause-grown
returns-clause-grown c =
    let s = c.requires.some.0 in
    let h = c.requires.some.1 in
    let asked = c.in_ok-children.ensures [] h.body (root s) h.here h.open_ (root_parent c.args.growing.now.walk.bodies s h) in
    let grown = c.in_ok-nodes.ensures.grown in
    record { growing = grown.growing; grown = grows_on c.args.growing.now.walk.bodies c.children.new.self.bodies c.grow_all.new.self.walk.bodies asked.grown grown.grown }

pub returns-clause-nodes : goal.returns-clause-nodes
returns-clause-nodes c = λ s h whole.
    let asked = c.in_ok-children.ensures [] h.body (root s) h.here h.open_ (root_parent c.args.growing.now.walk.bodies s h) in
    c.in_ok-nodes.ensures.nodes [] (root s) asked.children at_root_stands refl whole
