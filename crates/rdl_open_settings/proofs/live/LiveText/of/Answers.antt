use Rattle.rdl_open_settings.proofs.Further.{live_by}
use Rattle.rdl_open_settings.proofs.live.LiveText.of.Goals as goal

pub returns : goal.returns
returns c =
    let t = c.args.bodies.now in
    let x = c.args.body.now in
    live_by t x _ c.are_steady.result c.requires.some (λ q. c.are_steady.ensures q) (λ b h. record {
      locals = c.in_ok-locals.ensures _ (c.visible_in-visible.ensures b h);
      defaults = c.in_ok-defaults.ensures _ (c.visible_in-visible.ensures b h);
      entries = λ q. c.entries_vary.ensures q _ (c.visible_in-visible.ensures b h);
    })
