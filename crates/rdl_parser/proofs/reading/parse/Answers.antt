use Rattle.rdl_parser.proofs.OneVerdict.{only_memory}
use Rattle.rdl_parser.proofs.reading.parse.Goals as goal

pub returns-clause-accepts : goal.returns-clause-accepts
returns-clause-accepts c = λ accepted. only_memory c.args.src.now c.tree.result accepted c.tree.ensures.error
