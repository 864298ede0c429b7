use Rattle.std.proofs.Common.{length, map, sym, subst, arith}
use Rattle.rtl_net.specs.Net.{CanReset}
use Rattle.rtl_net.proofs.Nets.{Extends-trans, Keeps-trans}
use Rattle.plain_lemmas.proofs.Lists.{get-at, get-map_at, length-map}
use Rattle.gen_ports.specs.Registers.{pin_of}
use Rattle.gen_ports.proofs.Rowing.{all_added, can_clear, next_new, one_more, power_some}
use Rattle.gen_ports.proofs.cleared.cleared_registers.Goals as goal

pub register-requires-clause-named : goal.register-requires-clause-named
register-requires-clause-named c = (c.requires.rows.each c.loop-row.row-index _ (get-map_at pin_of c.args.rows.now c.loop-row.row-index _ (get-at c.args.rows.now c.loop-row.row-index _ c.loop-row-test.true))).0

pub register-requires-clause-new : goal.register-requires-clause-new
register-requires-clause-new c = next_new c.args.resetn (map pin_of c.args.rows.now) c.args.net.now c.loop-row.net c.loop-row.ids.items c.loop-row.row-index _ c.requires.rows c.loop-row.invariant (get-map_at pin_of c.args.rows.now c.loop-row.row-index _ (get-at c.args.rows.now c.loop-row.row-index _ c.loop-row-test.true))

pub register-requires-clause-wide : goal.register-requires-clause-wide
register-requires-clause-wide c = (c.requires.rows.each c.loop-row.row-index _ (get-map_at pin_of c.args.rows.now c.loop-row.row-index _ (get-at c.args.rows.now c.loop-row.row-index _ c.loop-row-test.true))).1

pub register-requires-clause-reset : goal.register-requires-clause-reset
register-requires-clause-reset c = subst (CanReset c.loop-row.net _) (sym c.cleared_by.ensures) (can_clear c.args.net.now c.loop-row.net c.args.resetn _ c.loop-row.invariant.older c.requires.resetn (power_some _))

pub returns-in_err-push-clause-older : goal.returns-in_err-push-clause-older
returns-in_err-push-clause-older c = Extends-trans c.args.net.now c.loop-row.net c.register.new.self c.loop-row.invariant.older c.register.ensures.older

pub returns-in_err-push-clause-keeps : goal.returns-in_err-push-clause-keeps
returns-in_err-push-clause-keeps c = Keeps-trans c.args.net.now c.loop-row.net c.register.new.self c.loop-row.invariant.keeps c.register.ensures.awaits

pub loop-row-preserved : goal.loop-row-preserved
loop-row-preserved c = one_more c.args.resetn (map pin_of c.args.rows.now) c.args.net.now c.loop-row.net c.register.new.self c.loop-row.ids.items c.push.new.self.items c.loop-row.row-index _ c.in_ok-id.id _ c.cleared_by.ensures c.loop-row.invariant (get-map_at pin_of c.args.rows.now c.loop-row.row-index _ (get-at c.args.rows.now c.loop-row.row-index _ c.loop-row-test.true)) c.in_ok-push.ensures.items
    c.register.ensures.older c.register.ensures.name c.register.ensures.awaits c.register.ensures.seats c.in_ok-id.ensures.registers c.in_ok-id.ensures.undriven c.in_ok-id.ensures.register c.in_ok-id.ensures.node

pub returns-clause-cleared : goal.returns-clause-cleared
returns-clause-cleared c = all_added c.args.resetn (map pin_of c.args.rows.now) c.args.net.now c.loop-row.net c.loop-row.ids.items c.loop-row.row-index c.requires.resetn c.loop-row.invariant (let past = c.loop-row-test.false in let low = c.loop-row.auto.row-index-end in let l = length-map pin_of c.args.rows.now in omega arith)
