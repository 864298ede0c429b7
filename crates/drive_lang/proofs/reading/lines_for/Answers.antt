use Rattle.std.proofs.Common.{◌∙◌}
use Rattle.drive_lang.proofs.reading.lines_for.Goals as goal

pub returns-clause-ok : goal.returns-clause-ok
returns-clause-ok c = c.lines_of.ensures.ok c.args.block.now (c.in_ok-names.ensures c.args.block.now (c.deref.ensures.value ∙ c.in_ok-words.ensures.words) c.requires.inputs c.requires.outputs)

pub returns-clause-err : goal.returns-clause-err
returns-clause-err c = c.lines_of.ensures.err c.args.block.now (c.in_ok-names.ensures c.args.block.now (c.deref.ensures.value ∙ c.in_ok-words.ensures.words) c.requires.inputs c.requires.outputs)
