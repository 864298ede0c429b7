use Rattle.std.proofs.Common.{◌∙◌, [], ◌∷◌, ◌++◌, Some, ap, refl}
use Rattle.rdl_values.specs.Bodies.{scope_at}
use Rattle.rdl_values.specs.Instances.{body, kind_of}
use Rattle.rdl_values.specs.Paths.{in_node}
use Rattle.rdl_walk.proofs.Asking.{stands_here}
use Rattle.rdl_open_bodies.specs.declared.spots.Round.{Round}
use Rattle.rdl_open_bodies.proofs.Growing.{inside}
use Rattle.rdl_open_bodies.proofs.opening.starts_in.Goals as goal

pub returns : goal.returns
returns c = λ e levels n at spot start few.
    let w = c.args.walk.now in
    let u = c.children.new.self in
    let round : Round = record { within = c.args.spot.now.body; standing = c.args.start.now.standing; chain = c.in_ok-chain.chain } in
    let asked = c.in_ok-children.ensures (n.above ++ (body n ∷ [])) spot.own.open_ (body n) spot.own.here spot.own.is (stands_here w.bodies spot.own.open_ n c.args.start.now.standing spot.own.is start.stands) in
    inside e w u c.args.start.now levels c.args.node c.args.spot.now n c.requires.walking at spot start c.in_ok-children.children.now round c.in_ok-starts.starts.items c.args.most asked refl refl (c.in_ok-chain.ensures ∙ ap (λ ks. Some c.args.node ∷ ks) c.last_of.ensures)
    (λ ss h uses of f. c.in_ok-starts.ensures e u.bodies (in_node n.path (kind_of n)) levels (scope_at (body n) (body n).items) ss h uses of f) few
