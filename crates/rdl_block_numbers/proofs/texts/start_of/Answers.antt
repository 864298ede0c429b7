use Rattle.rdl_block_numbers.proofs.Cuts.{start-before}
use Rattle.rdl_block_numbers.proofs.texts.start_of.Goals as goal

pub returns-else-at-eq0 : goal.returns-else-at-eq0
returns-else-at-eq0 c = start-before c.args.ends.now c.args.at c.if-at-eq0.false c.requires
