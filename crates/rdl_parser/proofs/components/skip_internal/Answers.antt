use Rattle.rdl_parser.proofs.Items.{skip_tree, skip_step}
use Rattle.rdl_parser.proofs.components.skip_internal.Goals as goal

pub returns-clause-tree : goal.returns-clause-tree
returns-clause-tree c = skip_tree c.word.result c.word.ensures

pub returns-clause-reads : goal.returns-clause-reads
returns-clause-reads c = skip_step c.word.result c.word.ensures
