use Rattle.std.proofs.Common.{◌∙◌, Some, refl, subst, sym}
use Rattle.rdl_values.specs.Elaborated.{top_name}
use Rattle.rdl_values.specs.Top.{top_use_of}
use Rattle.rdl_top.specs.Topped.{Means}
use Rattle.rdl_walk.specs.declared.walk.Walk.{Walk}
use Rattle.rdl_open_bodies.proofs.Topmost.{root_is, top_apart, top_defined, top_found, top_started, top_valued}
use Rattle.rdl_open_bodies.proofs.roots.top_start.Goals as goal

pub returns-in_default : goal.returns-in_default
returns-in_default c =
    let e = c.args.elab.now in
    absurd (top_found e c.requires.clean (subst (λ r. Means e.source.now e.source.now.items.now r (top_use_of (Some (top_name e)) e.source.now)) c.in_default.is (c.find_top.ensures e.source.now refl)))

pub list-requires-clause-below : goal.list-requires-clause-below
list-requires-clause-below c = (c.requires.walking.kept.bodies 0 c.in-Some-body.root (sym c.body.ensures ∙ c.in-Some-body.is)).below

pub list-requires-clause-defined : goal.list-requires-clause-defined
list-requires-clause-defined c =
    let e = c.args.elab.now in
    let means = subst (λ r. Means e.source.now e.source.now.items.now r (top_use_of (Some (top_name e)) e.source.now)) c.in-Some.is (c.find_top.ensures e.source.now refl) in
    top_defined e c.requires.clean c.in-Some.top means c.args.walk.now.bodies c.in-Some-body.root (root_is e c.args.walk.now.bodies c.in-Some-body.root c.requires.some (sym c.body.ensures ∙ c.in-Some-body.is)) c.deref.result.now (c.deref.ensures.value ∙ c.in_ok-uptos.ensures)

pub list-requires-clause-apart : goal.list-requires-clause-apart
list-requires-clause-apart c =
    let e = c.args.elab.now in
    top_apart e c.requires.clean c.in-Some.top (subst (λ r. Means e.source.now e.source.now.items.now r (top_use_of (Some (top_name e)) e.source.now)) c.in-Some.is (c.find_top.ensures e.source.now refl))

pub list-requires-clause-valued : goal.list-requires-clause-valued
list-requires-clause-valued c =
    let e = c.args.elab.now in
    top_valued e c.requires.clean c.in-Some.top (subst (λ r. Means e.source.now e.source.now.items.now r (top_use_of (Some (top_name e)) e.source.now)) c.in-Some.is (c.find_top.ensures e.source.now refl))

pub returns : goal.returns
returns c =
    let e = c.args.elab.now in
    let w = c.args.walk.now in
    let v : Walk = record w { bodies = c.list.new.self } in
    let means = subst (λ r. Means e.source.now e.source.now.items.now r (top_use_of (Some (top_name e)) e.source.now)) c.in-Some.is (c.find_top.ensures e.source.now refl) in
    top_started e c.requires.clean w v c.in-Some.top means c.in-Some-body.root c.deref.result.now c.in_ok-site.site c.in_ok-chain.chain c.requires.walking c.requires.some (sym c.body.ensures ∙ c.in-Some-body.is) (c.deref.ensures.value ∙ c.in_ok-uptos.ensures) c.in_ok-chain.ensures
    (λ held k b kept def round bound. c.in_ok-site.ensures held k b kept def round bound) refl refl refl
