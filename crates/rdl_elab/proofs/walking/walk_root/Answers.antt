use Rattle.rdl_elab.proofs.Totals.{can_visit_signals, root_parent, root_walked}
use Rattle.rdl_values.specs.Top.{root}
use Rattle.rdl_values.specs.Paths.{at_root}
use Rattle.rdl_values.specs.Uses.{seen}
use Rattle.std.proofs.Common.{[], refl}
use Rattle.rdl_walk.proofs.Asking.{seen_stand}
use Rattle.rdl_elab.proofs.Totals.{at_root_stands}
use Rattle.rdl_elab.proofs.walking.walk_root.Goals as goal

pub visit_all-requires-clause-walking : goal.visit_all-requires-clause-walking
visit_all-requires-clause-walking c =
    let s = c.requires.some.0 in
    let h = c.requires.some.1 in
    (c.in_ok-children.ensures [] h.body (root s) h.here h.open_ (root_parent c.args.walk.now.bodies s h)).walking

pub visit_all-requires-clause-some : goal.visit_all-requires-clause-some
visit_all-requires-clause-some c =
    let s = c.requires.some.0 in
    let h = c.requires.some.1 in
    can_visit_signals c.children.new.self.bodies s c.in_ok-children.children.now (c.in_ok-children.ensures [] h.body (root s) h.here h.open_ (root_parent c.args.walk.now.bodies s h)).children

pub returns : goal.returns
returns c = λ s h.
    let asked = c.in_ok-children.ensures [] h.body (root s) h.here h.open_ (root_parent c.args.walk.now.bodies s h) in
    root_walked c.args.walk.now c.children.new.self c.visit_all.new.self s c.in_ok-children.children.now asked (c.in_ok-visit_all.ensures at_root (seen [] (root s)) asked.children (seen_stand [] (root s)) at_root_stands refl)
