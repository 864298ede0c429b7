use Rattle.std.proofs.Common.{◌*◌, ◌+◌, List, [], ◌∷◌, ◌++◌, length}
use Rattle.rb_grammar.specs.Readings.{Same}
use Rattle.rb_grammar.specs.Forms.{Non, Many, ◌then◌}
use Rattle.v_design.specs.declared.design.VExpr.{VExpr}
use Rattle.v_syntax.specs.Grammar.{grammar, quoted}
use Rattle.v_syntax.specs.Grammar as rules
use Rattle.v_parser.specs.Reading.{after_operand}
use Rattle.v_parser.proofs.Terms.{ReadsRest, ReadsParts}
use Rattle.v_parser.proofs.Walking.{Tokens}
use Rattle.v_parser.proofs.cursor.Parser.+expr.Given as goal

abbrev pub decreases-expr : goal.decreases-expr
decreases-expr l = length l.self.now * 2 + 1

abbrev pub decreases-choice : goal.decreases-choice
decreases-choice l = length l.self.now * 2 + 1

abbrev pub decreases-operand : goal.decreases-operand
decreases-operand l = length l.self.now * 2

abbrev pub invariant-operand-more : goal.invariant-operand-more
invariant-operand-more l = record {
  tree : (us : Tokens) (xs : List VExpr) → ReadsRest l.self us xs → ReadsParts l.fn.self us (l.parts.items ++ xs);
  reads : Same grammar after_operand (Non rules.Operand ∷ []) l.fn.self (Many (quoted "," then Non rules.Operand) ∷ quoted "}" ∷ []) l.self;
}

abbrev pub decreases-operand-more : goal.decreases-operand-more
decreases-operand-more l = length l.self
