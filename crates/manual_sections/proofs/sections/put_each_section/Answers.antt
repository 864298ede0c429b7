use Rattle.std.proofs.Common.{◌∙◌, ◌-◌, ◌∷◌, ap, drop, flat_map, length, sym, take}
use Rattle.html_text.specs.Writing.{at}
use Rattle.html_text.proofs.Cuts.{first}
use Rattle.html_text.proofs.Looping.{begins, step}
use Rattle.manual_sections.specs.Sections.{section}
use Rattle.manual_sections.proofs.sections.put_each_section.Goals as goal

pub loop-rest-init : goal.loop-rest-init
loop-rest-init g c = begins (at (g.K.Sink.told c.args.out.now) (g.K.Sink.faults c.args.out.now) c.args.pen.now) (flat_map (section c.args.block.now c.args.notes.now c.args.encodings.now c.args.fields.now c.args.regs.now) c.args.units.now)

pub loop-rest-preserved : goal.loop-rest-preserved
loop-rest-preserved g c =
    let rest = c.loop-rest.rest.now in
    step _ (ap (flat_map (section c.args.block.now c.args.notes.now c.args.encodings.now c.args.fields.now c.args.regs.now)) (first rest _ c.in-len1-up.len_at_least ∙ ap (λ u. u ∷ take (length rest - 1) (drop 1 rest)) (sym c.unit-item.is))) c.loop-rest.invariant c.put_section.ensures
