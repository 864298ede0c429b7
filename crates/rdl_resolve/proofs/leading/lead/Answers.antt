use Rattle.std.proofs.Common.{◌∙◌, map, sym, ap, subst}
use Rattle.plain_lemmas.proofs.Results.{if_ok-map as if-ok}
use Rattle.rdl_tree.specs.declared.expr.Path.{out-Path}
use Rattle.rdl_values.specs.Bodies.{around}
use Rattle.rdl_values.specs.Lineages.{lineages_of}
use Rattle.rdl_values.specs.Seen.{around_of}
use Rattle.rdl_assignments.proofs.Steps.{steps_of_code}
use Rattle.rdl_sizes.proofs.Facts.{count-is}
use Rattle.rdl_members.specs.Found.{members_at}
use Rattle.rdl_resolve.specs.Led.{IsLed, is_exactly}
use Rattle.rdl_resolve.specs.Outward.{IsNearest}
use Rattle.rdl_resolve.proofs.Chaining.{body-low}
use Rattle.rdl_resolve.proofs.Stepping.{first-led, nowhere}
use Rattle.rdl_resolve.proofs.Whole.{bodies-many, led-nowhere, led-there, no-steps}
use Rattle.rdl_resolve.proofs.leading.lead.Goals as goal

pub returns-in_default : goal.returns-in_default
returns-in_default c = λ e scope clean are seen. nowhere e (no-steps e c.args.path.now scope (out-Path c.args.path.now).steps.now (steps_of_code c.args.path.now) c.in_default.len_below)

pub returns-in_default-nearest : goal.returns-in_default-nearest
returns-in_default-nearest c = λ e scope clean are seen.
    let ps = map (λ l. l.node) scope in
    let many = bodies-many scope (around_of c.args.from.env.now) c.in-Some.bodies seen.visible c.in-Some.ensures.depth in
    let near = c.nearest.ensures e ps clean are seen.root_ many seen.chain in
    nowhere e (led-nowhere e c.args.path.now scope (out-Path c.args.path.now).steps.now _ (steps_of_code c.args.path.now) c.in-len1-up.len_at_least (subst (IsNearest e _ ps) c.in_default-nearest.is near))

pub returns : goal.returns
returns c =
    if-ok c.led_on.result _ _ (λ r h e scope clean are seen.
    let ps = map (λ l. l.node) scope in
    let many = bodies-many scope (around_of c.args.from.env.now) c.in-Some.bodies seen.visible c.in-Some.ensures.depth in
    let near = subst (IsNearest e _ ps) c.in-Some-nearest.is (c.nearest.ensures e ps clean are seen.root_ many seen.chain) in
    let there = led-there e c.args.path.now scope (out-Path c.args.path.now).steps.now _ c.in-Some-nearest.body (steps_of_code c.args.path.now) c.in-len1-up.len_at_least near in
    let low = body-low e (count-is e clean) there.0 c.in-Some-nearest.body there.1 in
    let first = c.in_ok-found.ensures e (around scope) are low seen.shown in
    let all = first-led (is_exactly (around scope)) (members_at (lineages_of e) c.in-Some-nearest.body) (out-Path c.args.path.now).steps.now _ c.in-len1-up.len_at_least in
    subst (IsLed e r)
    (all ∙ sym there.2)
    (h e (around scope) _ clean are seen.shown first)) c.led_on.ensures
