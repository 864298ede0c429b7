use Rattle.std.proofs.Common.{◌++◌, codes, refl, sym, ◌∙◌, arith}
use Rattle.std.proofs.lemmas.Result.{IfOk-weaker}
use Rattle.gen_scene.proofs.Counts.{can_down, down_is, width_fits}
use Rattle.gen_scene.proofs.Worths.{worth_as}
use Rattle.gen_scene.proofs.scene.Scene.counted_down.Goals as goal

pub step-requires-clause-wide : goal.step-requires-clause-wide
step-requires-clause-wide c = width_fits c.args.self.now.base.now.block.now c.args.net.now c.args.self.now.base.now c.args.number c.args.field.now c.requires.base c.requires.here

pub step-requires-clause-can : goal.step-requires-clause-can
step-requires-clause-can c = (codes "decr$" ++ c.args.field.now.path, codes "decrvalue$" ++ c.args.field.now.path, can_down c.args.net.now c.args.self.now c.args.number c.args.field.now c.requires.base c.requires.here c.in-Some-Some.count c.in-Some-Some.is-0 c.requires.refs c.in-Some-Some.places (sym c.in-Some-Some.is-1 ∙ c.places.ensures))

pub zero-requires : goal.zero-requires
zero-requires c = let w = width_fits c.args.self.now.base.now.block.now c.args.net.now c.args.self.now.base.now c.args.number c.args.field.now c.requires.base c.requires.here in (w.0, omega (arith, w.1))

pub returns-in-Some-Some-clause-worth : goal.returns-in-Some-Some-clause-worth
returns-in-Some-Some-clause-worth c = IfOk-weaker c.step.result _ _ (λ id worth. worth_as c.args.self.now.base.now.block.now c.args.self.now.base.now.inlet c.step.new.net id c.args.field.now.width c.args.field.now.width _ _
    (worth (codes "decr$" ++ c.args.field.now.path) (codes "decrvalue$" ++ c.args.field.now.path) (can_down c.args.net.now c.args.self.now c.args.number c.args.field.now c.requires.base c.requires.here c.in-Some-Some.count c.in-Some-Some.is-0 c.requires.refs c.in-Some-Some.places (sym c.in-Some-Some.is-1 ∙ c.places.ensures))) refl (λ n v k. down_is c.args.net.now c.args.self.now c.args.number c.args.field.now c.requires.base c.requires.here c.in-Some-Some.count c.in-Some-Some.is-0 n v)) c.step.ensures.worth
