use Rattle.std.proofs.Common.{◌∙◌, ap, refl, slice_get, subst, sym}
use Rattle.rdl_values.specs.Elaborated.{nodes_of}
use Rattle.rdl_values.specs.Top.{root}
use Rattle.rdl_bodies.proofs.Adding.{kept_as}
use Rattle.rdl_bodies.proofs.Alike.{share_texts}
use Rattle.rdl_bodies.proofs.Growing.{begins_same, grows_same}
use Rattle.rdl_open_bodies.specs.Spots.{IsOpenAt}
use Rattle.rdl_open_bodies.proofs.Staying.{open_stays, spots_stay}
use Rattle.rdl_open_bodies.proofs.Topmost.{nodes_open}
use Rattle.rdl_open_bodies.proofs.roots.open_tree.Goals as goal

pub open_top-requires-clause-some : goal.open_top-requires-clause-some
open_top-requires-clause-some c =
    let e = c.args.elab.now in
    let r = c.in_ok-bodies.ensures e.source.now refl in
    let first = subst (λ t. IsOpenAt t 0 (root e.source.now)) (sym c.new-walk.ensures.bodies) (record { open_ = r.body; here = r.here; is = r.open_ }) in
    open_stays c.new-walk.result.bodies c.open_signals.new.walk.bodies c.new-walk.result.failures c.new-walk.ensures.walking.kept c.in_ok-open_signals.ensures.grown 0 (root e.source.now) first

pub returns : goal.returns
returns c =
    let e = c.args.elab.now in
    let f = c.in_ok-open_signals.ensures in
    let g = c.in_ok-open_top.ensures in
    let r = c.in_ok-bodies.ensures e.source.now refl in
    let start = subst (λ t. IsOpenAt t 0 (root e.source.now)) (sym c.new-walk.ensures.bodies) (record { open_ = r.body; here = r.here; is = r.open_ }) in
    let first = open_stays c.new-walk.result.bodies c.open_signals.new.walk.bodies c.new-walk.result.failures c.new-walk.ensures.walking.kept f.grown 0 (root e.source.now) start in
    let t = c.open_top.new.walk.bodies in
    let held = c.open_top.new.walk.failures in
    let u = c.without_keys-bodies.result in
    let same = c.without_keys-bodies.ensures in
    let list = ap (λ xs. xs.items) same.list in
    let grown = grows_same t u (ap (λ xs. xs.items) same.tables) (ap (λ xs. xs.items) same.components) list (begins_same t.sites.items u.sites.items (ap (λ xs. xs.items) same.sites)) in
    let nodes = nodes_open e c.new-walk.result c.open_signals.new.walk c.open_top.new.walk c.new-spots.result.items c.open_signals.new.spots.items c.open_top.new.spots.items c.new-spots.ensures.items f g in
    record {
      texts = share_texts u held (kept_as t u same.tables same.components same.list same.sites same.texts held g.walking.kept);
      in_order = λ k b at. (g.walking.kept.bodies k b (ap (λ xs. slice_get xs k) (sym list) ∙ at)).in_order;
      root_ = open_stays t u held g.walking.kept grown 0 (root e.source.now) (open_stays c.open_signals.new.walk.bodies t c.open_signals.new.walk.failures f.walking.kept g.grown 0 (root e.source.now) first);
      nodes_ = spots_stay t u held g.walking.kept grown e c.open_top.new.spots.items (nodes_of e) nodes;
    }
