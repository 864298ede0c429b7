use Rattle.std.proofs.Common.{refl}
use Rattle.rb_grammar.proofs.Following.{◌⟫◌, ◌⟫|◌}
use Rattle.rb_grammar.proofs.Steps.{entering, taking, missing, halting}
use Rattle.v_parser.proofs.Firsts.{right}
use Rattle.v_parser.proofs.Spanning.{spans_one, spans_from}
use Rattle.v_parser.proofs.cursor.Parser.edge.Goals as goal

pub returns-in-Some-clause-tree : goal.returns-in-Some-clause-tree
returns-in-Some-clause-tree c = spans_one c.in-Some.ensures

pub returns-in-Some-clause-reads : goal.returns-in-Some-clause-reads
returns-in-Some-clause-reads c = entering ⟫ taking right c.in-Some.ensures refl

pub returns-in_err-_negedge-clause-stops : goal.returns-in_err-_negedge-clause-stops
returns-in_err-_negedge-clause-stops c = λ h. entering ⟫ missing right c.in_default.ensures refl ⟫| halting right c.in_err-_negedge.ensures.err refl

pub returns-clause-tree : goal.returns-clause-tree
returns-clause-tree c = spans_from c.in_default.ensures.list (spans_one c.in_ok-_negedge.ensures.ok)

pub returns-clause-reads : goal.returns-clause-reads
returns-clause-reads c = entering ⟫ missing right c.in_default.ensures refl ⟫ taking right c.in_ok-_negedge.ensures.ok refl
