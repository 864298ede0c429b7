use Rattle.c_header.specs.Header.{entry_text}
use Rattle.c_header.proofs.Numbered.{flat-step}
use Rattle.c_header.proofs.text.push_each.Goals as goal

pub loop-entry-preserved : goal.loop-entry-preserved
loop-entry-preserved c =
    flat-step (entry_text c.args.begin.now c.args.words.now c.args.parts.now) c.args.entries.now c.loop-entry.entry-index c.entry-item.result c.args.text.now.items c.loop-entry.text.items c.push_entry.new.text.items
    c.loop-entry-test.true c.entry-item.is c.loop-entry.invariant c.in_ok-push_entry.ensures
