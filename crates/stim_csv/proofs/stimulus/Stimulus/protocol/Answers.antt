use Rattle.std.proofs.Common.{◌≡◌, ◌<◌, ◌∙◌, ℕ, List, sym, subst, length, map, arith}
use Rattle.std.proofs.lemmas.List.{length-map}
use Rattle.rb_model.specs.Protocol.{IDLE}
use Rattle.stim_csv.specs.Buses.{bus_first}
use Rattle.stim_csv.specs.Watch.{bus_seen, phase_seen}
use Rattle.stim_csv.proofs.Keeping.{Watched, begins, breaks_here, ends, goes_on}
use Rattle.stim_csv.proofs.Watching.{bus_there, row_has}
use Rattle.stim_csv.proofs.stimulus.Stimulus.protocol.Goals as goal

many : (rows : List (List ℕ)) → length (map bus_first rows) ≡ length rows
many rows = length-map rows bus_first

pub loop-row-init : goal.loop-row-init
loop-row-init c = subst (Watched c.args.waits (map bus_first c.args.self.now) 0 IDLE) (sym c.idle-before.ensures) (begins c.args.waits (map bus_first c.args.self.now))

pub bus_at-now-requires-clause-bus : goal.bus_at-now-requires-clause-bus
bus_at-now-requires-clause-bus c = row_has c.args.self.now c.loop-row.row c.requires (omega (arith, c.loop-row-test.true, c.rows-row-end.ensures))

pub loop-row-preserved : goal.loop-row-preserved
loop-row-preserved c =
    let rows = c.args.self.now in
    let here : c.loop-row.row < length rows = omega (arith, c.loop-row-test.true, c.rows-row-end.ensures) in
    goes_on c.args.waits (map bus_first rows) c.loop-row.row (phase_seen c.loop-row.last) (phase_seen c.phase_after-phase.result) (bus_seen c.loop-row.before) (bus_seen c.bus_at-now.result)
    (omega (arith, here, many rows)) c.loop-row.invariant
    (c.bus_at-now.ensures ∙ bus_there rows c.loop-row.row here) c.phase_after-phase.ensures (sym c.is_kept.ensures ∙ c.if-not-is_kept.false)

pub returns-then-not-is_kept-clause-broken : goal.returns-then-not-is_kept-clause-broken
returns-then-not-is_kept-clause-broken c =
    let rows = c.args.self.now in
    let here : c.loop-row.row < length rows = omega (arith, c.loop-row-test.true, c.rows-row-end.ensures) in
    breaks_here c.args.waits (map bus_first rows) c.loop-row.row (phase_seen c.loop-row.last) (phase_seen c.phase_after-phase.result) (bus_seen c.loop-row.before) (bus_seen c.bus_at-now.result)
    (omega (arith, here, many rows)) c.loop-row.invariant
    (c.bus_at-now.ensures ∙ bus_there rows c.loop-row.row here) c.phase_after-phase.ensures (sym c.is_kept.ensures ∙ c.if-not-is_kept.true)

pub returns-clause-kept : goal.returns-clause-kept
returns-clause-kept c none =
    let rows = c.args.self.now in
    ends c.args.waits (map bus_first rows) c.loop-row.row (phase_seen c.loop-row.last) (bus_seen c.loop-row.before) (omega (arith, c.loop-row-test.false, c.rows-row-end.ensures, many rows)) c.loop-row.invariant
