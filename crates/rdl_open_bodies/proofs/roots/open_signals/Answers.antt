use Rattle.std.proofs.Common.{subst, sym}
use Rattle.rdl_values.specs.Instances.{signals}
use Rattle.rdl_open_bodies.specs.Starts.{AreStarts}
use Rattle.rdl_open_bodies.proofs.Topmost.{signals_at, signals_open}
use Rattle.rdl_open_bodies.proofs.roots.open_signals.Goals as goal

pub open_nodes-requires-clause-some : goal.open_nodes-requires-clause-some
open_nodes-requires-clause-some c =
    let e = c.args.elab.now in
    record {
      instances = signals e.source.now;
      there = signals_at e c.requires.clean;
      starts = subst (λ xs. AreStarts e c.signal_starts.new.walk.bodies xs 0 (signals e.source.now)) (sym c.deref.ensures.value) c.in_ok-starts.ensures.starts;
    }

pub returns : goal.returns
returns c =
    let e = c.args.elab.now in
    signals_open e c.args.walk.now c.signal_starts.new.walk c.open_nodes.new.walk c.args.spots.now.items c.open_nodes.new.spots.items c.in_ok-starts.starts.items c.in_ok-starts.ensures (c.in_ok-open_nodes.ensures (signals e.source.now) (signals_at e c.requires.clean))
