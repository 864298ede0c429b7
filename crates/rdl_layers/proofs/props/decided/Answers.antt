use Rattle.std.proofs.Common.{◌∙◌, sym}
use Rattle.rdl_layers.proofs.Entries.{entry-here, entry-later}
use Rattle.rdl_layers.proofs.props.decided.Goals as goal

pub returns-then-is_related : goal.returns-then-is_related
returns-then-is_related c = c.settled.ensures ∙ sym (c.loop-entry.invariant ∙ entry-here c.args.prop c.args.default c.args.entries.now c.loop-entry.entry-index _ c.loop-entry-test.true (sym c.is_related.ensures ∙ c.if-is_related.true))

pub loop-entry-preserved : goal.loop-entry-preserved
loop-entry-preserved c = c.loop-entry.invariant ∙ entry-later c.args.prop c.args.default c.args.entries.now c.loop-entry.entry-index _ c.loop-entry-test.true (sym c.is_related.ensures ∙ c.if-is_related.false)
