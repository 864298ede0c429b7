use Rattle.std.proofs.Common.{subst}
use Rattle.rb_model.specs.Kept.{field_kept}
use Rattle.block_plan.specs.Kept.{IsKeptAt}
use Rattle.gen_scene.proofs.Sources.{kept_worth}
use Rattle.gen_scene.proofs.base.Base.register.Goals as goal

pub returns-in-Some : goal.returns-in-Some
returns-in-Some c net is_kept k base at =
    let b = c.args.self.now.block.now in
    let h = subst (IsKeptAt (field_kept b) is_kept k) c.in-Some.is at in
    kept_worth b c.args.self.now.inlet net c.args.self.now.kept.now is_kept k c.in-Some.place _ base.kept h.0 h.1 c.id_at.ensures
