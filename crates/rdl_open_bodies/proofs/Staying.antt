-- What is known of nodes and starts stays so where more is open.
use Rattle.std.proofs.Common.{ℕ, List, [], ◌∷◌, ◌++◌, take, subst}
use Rattle.rdl_base.specs.declared.fault.Fault.{Fault}
use Rattle.rdl_tree.specs.declared.node.Elab.{Elab}
use Rattle.rdl_values.specs.Bodies as values
use Rattle.rdl_values.specs.Bodies.{around, scope_at}
use Rattle.rdl_values.specs.Chained.{chained}
use Rattle.rdl_values.specs.Instances.{Instance, body}
use Rattle.rdl_values.specs.Values.{Around}
use Rattle.rdl_failures.specs.Shown.{IsAlike}
use Rattle.rdl_bodies.specs.Kept.{AreKept, Grows}
use Rattle.rdl_bodies.specs.Sited.{IsOpenAs}
use Rattle.rdl_bodies.specs.declared.bodies.Bodies.{Bodies}
use Rattle.rdl_bodies.specs.declared.bodies.Body.{Body}
use Rattle.rdl_bodies.proofs.Adding.{round_alike}
use Rattle.rdl_bodies.proofs.Growing.{at_same, begins_get, chained_same, open_same, same_below}
use Rattle.rdl_open_bodies.specs.Spots.{AreSpots, IsOpenAt, IsSpot, Sees}
use Rattle.rdl_open_bodies.specs.Starts.{AreStarts, IsStart}
use Rattle.rdl_open_bodies.specs.declared.spots.Spot.{Spot}
use Rattle.rdl_open_bodies.specs.declared.spots.Start.{Start}

-- An open body sees the names of its own.
pub open_alike : (t : Bodies) (x : Body) (b : values.Body) → IsOpenAs t x b → IsAlike (chained t.tables.items x.numbers.now) (around (scope_at b b.items))
open_alike t x b h = round_alike t x.numbers.now (0 ∷ x.uptos.now) (scope_at b (take 0 x.items.now)) (h.shown 0)

module _ (t u : Bodies) (held : List Fault) (kept : AreKept t held) (grown : Grows t u) where
  pub open_stays : (k : ℕ) (b : values.Body) → IsOpenAt t k b → IsOpenAt u k b
  open_stays k b h =
      let low = (kept.bodies k h.open_ h.here).below in
      record {
        open_ = h.open_;
        here = begins_get t.list.items u.list.items k h.open_ grown.list h.here;
        is = open_same t u h.open_ b (same_below t u h.open_.numbers.now kept.components kept.list grown low) h.is;
      }

  pub sees_stay : (k : ℕ) (names : Around) → Sees t k names → Sees u k names
  sees_stay k names h =
      let low = (kept.bodies k h.open_ h.here).below in
      record {
        open_ = h.open_;
        here = begins_get t.list.items u.list.items k h.open_ grown.list h.here;
        alike = subst (λ ws. IsAlike ws names) (chained_same t u h.open_.numbers.now (same_below t u h.open_.numbers.now kept.components kept.list grown low)) h.alike;
      }

  pub spot_stays : (e : Elab) (o : Spot) (n : Instance) → IsSpot e t o n → IsSpot e u o n
  spot_stays e o n h = record {
    own = open_stays o.body (body n) h.own;
    use_ = sees_stay o.within _ h.use_;
    parts = h.parts;
    round_is = h.round_is;
    depth_is = h.depth_is;
  }

  pub spots_stay : (e : Elab) (os : List Spot) (ns : List Instance) → AreSpots e t os ns → AreSpots e u os ns
  spots_stay e [] [] h = tt
  spots_stay e [] (n ∷ ns) h = absurd h
  spots_stay e (o ∷ os) [] h = absurd h
  spots_stay e (o ∷ os) (n ∷ ns) h = (spot_stays e o n h.0, spots_stay e os ns h.1)

  pub start_stays : (e : Elab) (x : Start) (levels : ℕ) (n : Instance) → IsStart e t x levels n → IsStart e u x levels n
  start_stays e x levels n h =
      let low = (kept.sites x.site h.of h.here).below in
      record {
        of = h.of;
        here = begins_get t.sites.items u.sites.items x.site h.of grown.sites h.here;
        at = at_same t u h.of n.closure n.bound (same_below t u h.of.outer.now kept.components kept.list grown low) h.at;
        stands = h.stands;
        fits = h.fits;
        use_ = sees_stay x.within _ h.use_;
        parts = h.parts;
        deep = h.deep;
        scope = h.scope;
        bodies = h.bodies;
        cut = h.cut;
      }

-- Lists behind others.

pub spots_append : (e : Elab) (t : Bodies) (os ps : List Spot) (ns ms : List Instance) → AreSpots e t os ns → AreSpots e t ps ms → AreSpots e t (os ++ ps) (ns ++ ms)
spots_append e t [] ps [] ms h g = g
spots_append e t [] ps (n ∷ ns) ms h g = absurd h
spots_append e t (o ∷ os) ps [] ms h g = absurd h
spots_append e t (o ∷ os) ps (n ∷ ns) ms h g = (h.0, spots_append e t os ps ns ms h.1 g)

pub starts_append : (e : Elab) (t : Bodies) (xs ys : List Start) (levels : ℕ) (ns ms : List Instance) → AreStarts e t xs levels ns → AreStarts e t ys levels ms → AreStarts e t (xs ++ ys) levels (ns ++ ms)
starts_append e t [] ys levels [] ms h g = g
starts_append e t [] ys levels (n ∷ ns) ms h g = absurd h
starts_append e t (x ∷ xs) ys levels [] ms h g = absurd h
starts_append e t (x ∷ xs) ys levels (n ∷ ns) ms h g = (h.0, starts_append e t xs ys levels ns ms h.1 g)
