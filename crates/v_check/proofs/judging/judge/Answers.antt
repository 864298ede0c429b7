use Rattle.std.proofs.Common.{ℕ, IfNone, List, refl, sym, subst}
use Rattle.v_design.specs.WellFormed.{Rises}
use Rattle.v_syntax.specs.Faulty.{Twice, Undeclared, Driver, Width, Loop, Faulty}
use Rattle.v_syntax.specs.Tokens.{placed}
use Rattle.v_check.specs.Drivers.{driver_at}
use Rattle.v_check.specs.Found.{Finds}
use Rattle.v_check.proofs.Faults.{first-twice, first-undeclared, first-driver, first-width, first-loop}
use Rattle.v_check.proofs.Forming.{single-from, well-formed}
use Rattle.v_check.proofs.Parts.{events-count}
use Rattle.v_check.proofs.Stages.{parts-of, found-declared, found-driver, found-loop, found-numbers, found-once, found-twice, found-undeclared, found-width}
use Rattle.v_check.proofs.judging.judge.Goals as goal

pub declare-requires : goal.declare-requires
declare-requires c =
    let (t, syn) = c.requires in
    let ts = placed c.args.bytes.now c.args.tokens.now in
    let x = c.args.parsed.now in
    let nets = c.deref-nets.result.now in
    let stmts = c.deref-stmts.result.now in
    let places = c.deref-places.result.now in
    let p = parts-of ts x t c.deref.result.now c.deref-2.result.now c.in_ok-listed.listed.items nets stmts x.events.items places syn c.deref.ensures.value c.deref-2.ensures.value c.in_ok-listed.ensures c.deref-nets.ensures.value c.deref-stmts.ensures.value refl c.deref-places.ensures.value in
    p.count

pub returns-in-Some : goal.returns-in-Some
returns-in-Some c = λ t syn.
    let ts = placed c.args.bytes.now c.args.tokens.now in
    let x = c.args.parsed.now in
    let nets = c.deref-nets.result.now in
    let stmts = c.deref-stmts.result.now in
    let places = c.deref-places.result.now in
    let p = parts-of ts x t c.deref.result.now c.deref-2.result.now c.in_ok-listed.listed.items nets stmts x.events.items places syn c.deref.ensures.value c.deref-2.ensures.value c.in_ok-listed.ensures c.deref-nets.ensures.value c.deref-stmts.ensures.value refl c.deref-places.ensures.value in
    let twice = found-twice ts x t nets stmts x.events.items places p c.in_ok-table.twice c.in_ok-table.ensures.found in
    first-twice t ts c.in-Some.place (subst (Finds (Faulty t ts Twice)) c.in-Some.is twice)

pub drive_all-requires-clause-events : goal.drive_all-requires-clause-events
drive_all-requires-clause-events c =
    let (t, syn) = c.requires in
    let ts = placed c.args.bytes.now c.args.tokens.now in
    let x = c.args.parsed.now in
    let nets = c.deref-nets.result.now in
    let stmts = c.deref-stmts.result.now in
    let places = c.deref-places.result.now in
    let events = c.deref-3.result.now in
    let p = parts-of ts x t c.deref.result.now c.deref-2.result.now c.in_ok-listed.listed.items nets stmts events places syn c.deref.ensures.value c.deref-2.ensures.value c.in_ok-listed.ensures c.deref-nets.ensures.value c.deref-stmts.ensures.value c.deref-3.ensures.value c.deref-places.ensures.value in
    events-count stmts events t.stmts p.are

pub returns-in-Some-unknown : goal.returns-in-Some-unknown
returns-in-Some-unknown c = λ t syn.
    let ts = placed c.args.bytes.now c.args.tokens.now in
    let x = c.args.parsed.now in
    let nets = c.deref-nets.result.now in
    let stmts = c.deref-stmts.result.now in
    let places = c.deref-places.result.now in
    let events = c.deref-3.result.now in
    let p = parts-of ts x t c.deref.result.now c.deref-2.result.now c.in_ok-listed.listed.items nets stmts events places syn c.deref.ensures.value c.deref-2.ensures.value c.in_ok-listed.ensures c.deref-nets.ensures.value c.deref-stmts.ensures.value c.deref-3.ensures.value c.deref-places.ensures.value in
    let twice = found-twice ts x t nets stmts events places p c.in_ok-table.twice c.in_ok-table.ensures.found in
    let no_twice = subst (Finds (Faulty t ts Twice)) c.in_default.is twice in
    let once = found-once ts x t nets stmts events places p no_twice in
    let driving = c.in_ok-driving.driving in
    let undeclared = found-undeclared ts x t nets stmts events places p driving.declared x.before c.undeclared_yet-unknown.result refl (λ yes. c.in_ok-driving.ensures.declared yes once t.stmts p.are)
    c.undeclared_yet-unknown.ensures.declared (λ no. c.undeclared_yet-unknown.ensures.found no nets c.in_ok-table.ensures.nets) in
    first-undeclared t ts c.in-Some-unknown.place no_twice (subst (Finds (Faulty t ts Undeclared)) c.in-Some-unknown.is undeclared)

pub undriven-undriven-requires : goal.undriven-undriven-requires
undriven-undriven-requires c =
    let (t, syn) = c.requires in
    let ts = placed c.args.bytes.now c.args.tokens.now in
    let x = c.args.parsed.now in
    let nets = c.deref-nets.result.now in
    let stmts = c.deref-stmts.result.now in
    let places = c.deref-places.result.now in
    let p = parts-of ts x t c.deref.result.now c.deref-2.result.now c.in_ok-listed.listed.items nets stmts x.events.items places syn c.deref.ensures.value c.deref-2.ensures.value c.in_ok-listed.ensures c.deref-nets.ensures.value c.deref-stmts.ensures.value refl c.deref-places.ensures.value in
    p.count

pub returns-in-Some-either : goal.returns-in-Some-either
returns-in-Some-either c = λ t syn.
    let ts = placed c.args.bytes.now c.args.tokens.now in
    let x = c.args.parsed.now in
    let nets = c.deref-nets.result.now in
    let stmts = c.deref-stmts.result.now in
    let places = c.deref-places.result.now in
    let events = c.deref-3.result.now in
    let p = parts-of ts x t c.deref.result.now c.deref-2.result.now c.in_ok-listed.listed.items nets stmts events places syn c.deref.ensures.value c.deref-2.ensures.value c.in_ok-listed.ensures c.deref-nets.ensures.value c.deref-stmts.ensures.value c.deref-3.ensures.value c.deref-places.ensures.value in
    let twice = found-twice ts x t nets stmts events places p c.in_ok-table.twice c.in_ok-table.ensures.found in
    let no_twice = subst (Finds (Faulty t ts Twice)) c.in_default.is twice in
    let once = found-once ts x t nets stmts events places p no_twice in
    let driving = c.in_ok-driving.driving in
    let undeclared = found-undeclared ts x t nets stmts events places p driving.declared x.before c.undeclared_yet-unknown.result refl (λ yes. c.in_ok-driving.ensures.declared yes once t.stmts p.are)
    c.undeclared_yet-unknown.ensures.declared (λ no. c.undeclared_yet-unknown.ensures.found no nets c.in_ok-table.ensures.nets) in
    let no_undeclared = subst (Finds (Faulty t ts Undeclared)) c.in_default-unknown.is undeclared in
    let all = found-declared ts x t nets stmts events places p no_undeclared in
    let driver = driver_at nets driving.drivers in
    let drivers = c.in_ok-driving.ensures.drivers t.stmts p.are all in
    let badly = found-driver ts x t nets stmts events places p driver driving.misdriven c.undriven-undriven.result drivers (c.in_ok-driving.ensures.found once t.stmts p.are all) (c.undriven-undriven.ensures once) in
    first-driver t ts c.in-Some-either.place no_twice no_undeclared (subst (Finds (Faulty t ts Driver)) (sym c.in-Some-either.ensures) badly)

pub returns-in-Some-misfit : goal.returns-in-Some-misfit
returns-in-Some-misfit c = λ t syn.
    let ts = placed c.args.bytes.now c.args.tokens.now in
    let x = c.args.parsed.now in
    let nets = c.deref-nets.result.now in
    let stmts = c.deref-stmts.result.now in
    let places = c.deref-places.result.now in
    let events = c.deref-3.result.now in
    let p = parts-of ts x t c.deref.result.now c.deref-2.result.now c.in_ok-listed.listed.items nets stmts events places syn c.deref.ensures.value c.deref-2.ensures.value c.in_ok-listed.ensures c.deref-nets.ensures.value c.deref-stmts.ensures.value c.deref-3.ensures.value c.deref-places.ensures.value in
    let twice = found-twice ts x t nets stmts events places p c.in_ok-table.twice c.in_ok-table.ensures.found in
    let no_twice = subst (Finds (Faulty t ts Twice)) c.in_default.is twice in
    let once = found-once ts x t nets stmts events places p no_twice in
    let driving = c.in_ok-driving.driving in
    let undeclared = found-undeclared ts x t nets stmts events places p driving.declared x.before c.undeclared_yet-unknown.result refl (λ yes. c.in_ok-driving.ensures.declared yes once t.stmts p.are)
    c.undeclared_yet-unknown.ensures.declared (λ no. c.undeclared_yet-unknown.ensures.found no nets c.in_ok-table.ensures.nets) in
    let no_undeclared = subst (Finds (Faulty t ts Undeclared)) c.in_default-unknown.is undeclared in
    let all = found-declared ts x t nets stmts events places p no_undeclared in
    let driver = driver_at nets driving.drivers in
    let drivers = c.in_ok-driving.ensures.drivers t.stmts p.are all in
    let badly = found-driver ts x t nets stmts events places p driver driving.misdriven c.undriven-undriven.result drivers (c.in_ok-driving.ensures.found once t.stmts p.are all) (c.undriven-undriven.ensures once) in
    let no_driver = subst (Finds (Faulty t ts Driver)) (sym c.in_default-either.ensures) badly in
    let width = found-width ts x t nets stmts events places p c.in_ok-uses.misfit c.in_ok-uses.ensures.found in
    first-width t ts c.in-Some-misfit.place no_twice no_undeclared no_driver (subst (Finds (Faulty t ts Width)) c.in-Some-misfit.is width)

pub looping-requires-clause-numbers : goal.looping-requires-clause-numbers
looping-requires-clause-numbers c =
    let (t, syn) = c.requires in
    let ts = placed c.args.bytes.now c.args.tokens.now in
    let x = c.args.parsed.now in
    let nets = c.deref-nets.result.now in
    let stmts = c.deref-stmts.result.now in
    let places = c.deref-places.result.now in
    let events = c.deref-3.result.now in
    let p = parts-of ts x t c.deref.result.now c.deref-2.result.now c.in_ok-listed.listed.items nets stmts events places syn c.deref.ensures.value c.deref-2.ensures.value c.in_ok-listed.ensures c.deref-nets.ensures.value c.deref-stmts.ensures.value c.deref-3.ensures.value c.deref-places.ensures.value in
    let twice = found-twice ts x t nets stmts events places p c.in_ok-table.twice c.in_ok-table.ensures.found in
    let no_twice = subst (Finds (Faulty t ts Twice)) c.in_default.is twice in
    let once = found-once ts x t nets stmts events places p no_twice in
    let driving = c.in_ok-driving.driving in
    let undeclared = found-undeclared ts x t nets stmts events places p driving.declared x.before c.undeclared_yet-unknown.result refl (λ yes. c.in_ok-driving.ensures.declared yes once t.stmts p.are)
    c.undeclared_yet-unknown.ensures.declared (λ no. c.undeclared_yet-unknown.ensures.found no nets c.in_ok-table.ensures.nets) in
    let no_undeclared = subst (Finds (Faulty t ts Undeclared)) c.in_default-unknown.is undeclared in
    let all = found-declared ts x t nets stmts events places p no_undeclared in
    let driver = driver_at nets driving.drivers in
    let drivers = c.in_ok-driving.ensures.drivers t.stmts p.are all in
    found-numbers ts x t nets stmts events places p driver drivers

pub returns-in-Some-2 : goal.returns-in-Some-2
returns-in-Some-2 c = λ t syn.
    let ts = placed c.args.bytes.now c.args.tokens.now in
    let x = c.args.parsed.now in
    let nets = c.deref-nets.result.now in
    let stmts = c.deref-stmts.result.now in
    let places = c.deref-places.result.now in
    let events = c.deref-3.result.now in
    let p = parts-of ts x t c.deref.result.now c.deref-2.result.now c.in_ok-listed.listed.items nets stmts events places syn c.deref.ensures.value c.deref-2.ensures.value c.in_ok-listed.ensures c.deref-nets.ensures.value c.deref-stmts.ensures.value c.deref-3.ensures.value c.deref-places.ensures.value in
    let twice = found-twice ts x t nets stmts events places p c.in_ok-table.twice c.in_ok-table.ensures.found in
    let no_twice = subst (Finds (Faulty t ts Twice)) c.in_default.is twice in
    let once = found-once ts x t nets stmts events places p no_twice in
    let driving = c.in_ok-driving.driving in
    let undeclared = found-undeclared ts x t nets stmts events places p driving.declared x.before c.undeclared_yet-unknown.result refl (λ yes. c.in_ok-driving.ensures.declared yes once t.stmts p.are)
    c.undeclared_yet-unknown.ensures.declared (λ no. c.undeclared_yet-unknown.ensures.found no nets c.in_ok-table.ensures.nets) in
    let no_undeclared = subst (Finds (Faulty t ts Undeclared)) c.in_default-unknown.is undeclared in
    let all = found-declared ts x t nets stmts events places p no_undeclared in
    let driver = driver_at nets driving.drivers in
    let drivers = c.in_ok-driving.ensures.drivers t.stmts p.are all in
    let badly = found-driver ts x t nets stmts events places p driver driving.misdriven c.undriven-undriven.result drivers (c.in_ok-driving.ensures.found once t.stmts p.are all) (c.undriven-undriven.ensures once) in
    let no_driver = subst (Finds (Faulty t ts Driver)) (sym c.in_default-either.ensures) badly in
    let width = found-width ts x t nets stmts events places p c.in_ok-uses.misfit c.in_ok-uses.ensures.found in
    let no_width = subst (Finds (Faulty t ts Width)) c.in_default-misfit.is width in
    let single = single-from t ts no_driver in
    let loops = found-loop ts x t nets stmts events places p c.in_ok-place.field-0 (c.in_ok-place.ensures.found events t.stmts p.are drivers single) in
    first-loop t ts c.in-Some-2.place no_twice no_undeclared no_driver no_width (subst (Finds (Faulty t ts Loop)) c.in-Some-2.is loops)

pub returns : goal.returns
returns c = λ t syn.
    let ts = placed c.args.bytes.now c.args.tokens.now in
    let x = c.args.parsed.now in
    let nets = c.deref-nets.result.now in
    let stmts = c.deref-stmts.result.now in
    let places = c.deref-places.result.now in
    let events = c.deref-3.result.now in
    let p = parts-of ts x t c.deref.result.now c.deref-2.result.now c.in_ok-listed.listed.items nets stmts events places syn c.deref.ensures.value c.deref-2.ensures.value c.in_ok-listed.ensures c.deref-nets.ensures.value c.deref-stmts.ensures.value c.deref-3.ensures.value c.deref-places.ensures.value in
    let twice = found-twice ts x t nets stmts events places p c.in_ok-table.twice c.in_ok-table.ensures.found in
    let no_twice = subst (Finds (Faulty t ts Twice)) c.in_default.is twice in
    let once = found-once ts x t nets stmts events places p no_twice in
    let driving = c.in_ok-driving.driving in
    let undeclared = found-undeclared ts x t nets stmts events places p driving.declared x.before c.undeclared_yet-unknown.result refl (λ yes. c.in_ok-driving.ensures.declared yes once t.stmts p.are)
    c.undeclared_yet-unknown.ensures.declared (λ no. c.undeclared_yet-unknown.ensures.found no nets c.in_ok-table.ensures.nets) in
    let no_undeclared = subst (Finds (Faulty t ts Undeclared)) c.in_default-unknown.is undeclared in
    let all = found-declared ts x t nets stmts events places p no_undeclared in
    let driver = driver_at nets driving.drivers in
    let drivers = c.in_ok-driving.ensures.drivers t.stmts p.are all in
    let badly = found-driver ts x t nets stmts events places p driver driving.misdriven c.undriven-undriven.result drivers (c.in_ok-driving.ensures.found once t.stmts p.are all) (c.undriven-undriven.ensures once) in
    let no_driver = subst (Finds (Faulty t ts Driver)) (sym c.in_default-either.ensures) badly in
    let width = found-width ts x t nets stmts events places p c.in_ok-uses.misfit c.in_ok-uses.ensures.found in
    let no_width = subst (Finds (Faulty t ts Width)) c.in_default-misfit.is width in
    let single = single-from t ts no_driver in
    let ranked = subst (λ r. IfNone r ((rank : List ℕ → ℕ) × Rises rank t.stmts)) c.in_default-2.is (c.in_ok-place.ensures.rank events t.stmts p.are drivers single) in
    well-formed t ts syn.tokens no_twice no_undeclared no_driver no_width ranked.0 ranked.1
