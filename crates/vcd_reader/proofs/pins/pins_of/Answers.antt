use Rattle.std.proofs.Common.{[], ◌∷◌, ◌++◌, get_or, sym, ◌∙◌, ap}
use Rattle.std.proofs.lemmas.Option.{slice_get-get_or}
use Rattle.vcd_reader.proofs.Lists.{pin, pins_more}
use Rattle.vcd_reader.proofs.pins.pins_of.Goals as goal

pub loop-at-preserved : goal.loop-at-preserved
loop-at-preserved c =
    let at = c.loop-at.at in
    let w = get_or c.args.widths.now at 0 in
    let more = pins_more c.args.names.now c.args.widths.now at c.in-Some.name.now w c.requires (sym c.in-Some.ensures) (slice_get-get_or c.args.widths.now at 0 c.loop-at-test.true) in
    c.in_ok-push.ensures.items ∙ (ap (λ n. c.loop-at.pins.items ++ (pin n w ∷ [])) c.in_ok-copied.ensures ∙ (ap (λ z. z ++ (pin c.in-Some.name.now w ∷ [])) c.loop-at.invariant ∙ sym more))
