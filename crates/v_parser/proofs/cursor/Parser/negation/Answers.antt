use Rattle.std.proofs.Common.{refl}
use Rattle.rb_grammar.proofs.Steps.{taking, missing}
use Rattle.v_parser.proofs.Firsts.{right}
use Rattle.v_parser.proofs.Spanning.{spans_one, spans_same}
use Rattle.v_parser.proofs.cursor.Parser.negation.Goals as goal

pub returns-in-Some-clause-tree : goal.returns-in-Some-clause-tree
returns-in-Some-clause-tree c = spans_one c.in-Some.ensures

pub returns-in-Some-clause-reads : goal.returns-in-Some-clause-reads
returns-in-Some-clause-reads c = taking right c.in-Some.ensures refl

pub returns-in-None-clause-tree : goal.returns-in-None-clause-tree
returns-in-None-clause-tree c = spans_same c.in-None.ensures.list

pub returns-in-None-clause-reads : goal.returns-in-None-clause-reads
returns-in-None-clause-reads c = missing right c.in-None.ensures refl
