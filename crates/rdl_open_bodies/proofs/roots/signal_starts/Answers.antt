use Rattle.std.proofs.Common.{[], refl}
use Rattle.rdl_values.specs.Bodies.{scope_at}
use Rattle.rdl_values.specs.Paths.{at_root}
use Rattle.rdl_values.specs.Top.{root}
use Rattle.rdl_open_bodies.specs.declared.spots.Round.{Round}
use Rattle.rdl_open_bodies.proofs.Topmost.{root_stands, signals_inside}
use Rattle.rdl_open_bodies.proofs.roots.signal_starts.Goals as goal

pub returns : goal.returns
returns c =
    let e = c.args.elab.now in
    let w = c.args.walk.now in
    let u = c.children.new.self in
    let some = c.requires.some in
    let stands = root_stands e w.bodies some in
    let round : Round = record { within = 0; standing = record { depth = 1; prefix = 0 }; chain = c.in_ok-chain.chain } in
    signals_inside e c.requires.clean w u c.in_ok-children.children.now round c.in_ok-starts.starts.items _ c.requires.walking some (c.in_ok-children.ensures [] some.open_ (root e.source.now) some.here some.is stands) refl refl c.in_ok-chain.ensures refl
    (λ ss h uses of f. c.in_ok-starts.ensures e u.bodies at_root 0 (scope_at (root e.source.now) (root e.source.now).items) ss h uses of f)
