use Rattle.rdl_values.specs.Lineages.{lineages_of}
use Rattle.rdl_dynamic.proofs.Taking.{taken-noted}
use Rattle.rdl_dynamic.proofs.dynamic.note_taken.Goals as goal

pub returns : goal.returns
returns c = λ e b d earlier marks are place named again ruled. taken-noted (lineages_of e) b c.args.marks.now earlier d c.args.prop c.args.place c.args.nodes.now c.is_taken.result c.args.excluded c.in_ok-fresh.fresh c.in_ok-alone.alone c.args.failures.now c.note.new.self c.note-2.new.self
    (λ f. c.met_at_targets.ensures f b d earlier) marks are place named (c.is_taken.ensures again) ruled c.in_ok-fresh.ensures c.in_ok-alone.ensures
