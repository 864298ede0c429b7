use Rattle.std.proofs.Common.{sym, subst}
use Rattle.v_check.specs.Drivers.{driver_at}
use Rattle.v_check.specs.Loops.{IsLooping, IsUnranked}
use Rattle.v_check.specs.Nets.{number_of}
use Rattle.topological_order.specs.Levels.{AreLevels}
use Rattle.v_check.specs.Sizes.{stmt_places}
use Rattle.v_check.proofs.Finding.{finds_stands}
use Rattle.v_check.proofs.Looping.{looping-unranked, unranked-looping, needs-within, rises-if-none}
use Rattle.v_check.proofs.loops.looping.Goals as goal

pub levelize-requires : goal.levelize-requires
levelize-requires c =
    needs-within (driver_at c.args.nets.now c.args.drivers.now) c.args.stmts.now c.in_ok-needs.needs
    (c.in_ok-needs.ensures (number_of c.args.nets.now) c.requires.uses.reads) c.requires.numbers

pub returns-clause-found : goal.returns-clause-found
returns-clause-found c = λ events ss are d single.
    let drivers = driver_at c.args.nets.now c.args.drivers.now in
    let is = c.in_ok-needs.ensures (number_of c.args.nets.now) c.requires.uses.reads in
    let ranks = c.deref.result.now in
    let levels = c.in_ok-levels.levels in
    let ranked = subst (λ rs. AreLevels c.in_ok-needs.needs rs levels.order.items) (sym c.deref.ensures.value) c.in_ok-levels.ensures in
    finds_stands (IsUnranked ranks) (IsLooping ss) (stmt_places c.args.stmts.now) c.unranked.result
    (unranked-looping drivers c.args.stmts.now events ss are d single c.in_ok-needs.needs is ranks levels.order.items ranked)
    (looping-unranked drivers c.args.stmts.now events ss are d single c.in_ok-needs.needs is ranks levels.order.items ranked) c.unranked.ensures

pub returns-clause-rank : goal.returns-clause-rank
returns-clause-rank c = λ events ss are d single.
    let drivers = driver_at c.args.nets.now c.args.drivers.now in
    let is = c.in_ok-needs.ensures (number_of c.args.nets.now) c.requires.uses.reads in
    let ranks = c.deref.result.now in
    let levels = c.in_ok-levels.levels in
    let ranked = subst (λ rs. AreLevels c.in_ok-needs.needs rs levels.order.items) (sym c.deref.ensures.value) c.in_ok-levels.ensures in
    rises-if-none drivers c.args.stmts.now events ss are d single c.in_ok-needs.needs is ranks levels.order.items ranked (stmt_places c.args.stmts.now) c.unranked.result c.unranked.ensures
