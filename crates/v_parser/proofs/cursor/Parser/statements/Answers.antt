use Rattle.std.proofs.Common.{refl, ap, sym, Err, [], ◌∷◌}
use Rattle.rb_grammar.proofs.Following.{◌⟫◌, ◌⟫|◌, same}
use Rattle.rb_grammar.proofs.Steps.{calling, calling_stops, passed}
use Rattle.rb_grammar.specs.Forms.{Non, Many}
use Rattle.v_syntax.specs.Grammar.{grammar}
use Rattle.v_syntax.specs.Grammar as rules
use Rattle.v_parser.specs.Reading.{after_stmts, one_statement}
use Rattle.v_parser.proofs.Firsts.{right}
use Rattle.v_parser.proofs.Loops.{statements_begun, statements_more, statements_done}
use Rattle.v_parser.proofs.Blocks.{statement_shorter, one_more, no_more}
use Rattle.v_parser.proofs.cursor.Parser.statements.Goals as goal

pub more-init : goal.more-init
more-init c = record {
  tree = rw c.new-stmts.ensures.items (statements_begun c.args.self.now c.args.events.now.items);
  reads = same grammar after_stmts (Many (Non rules.Stmt) ∷ []) c.args.self.now;
}

pub returns-in_err-stmt-clause-stops : goal.returns-in_err-stmt-clause-stops
returns-in_err-stmt-clause-stops c = λ h. c.more.invariant.reads ⟫ one_more (sym c.more-test.ensures) ⟫| calling_stops right (c.in_err-stmt.ensures.stops (ap Err (passed _ _ c.from_residual.ensures.1 h))) refl

pub more-preserved : goal.more-preserved
more-preserved c = record {
  tree = statements_more c.in_ok-stmt.stmt c.in_ok-stmt.event c.more.stmts.items c.push.new.self.items c.args.events.now.items c.more.events.items c.push-in-more.new.self.items c.in_ok-push.ensures.items c.in_ok-push-2.ensures.items c.more.invariant.tree
      (λ ws rs left r. one_statement c.in_ok-stmt.ensures.tree r);
  reads = c.more.invariant.reads ⟫ one_more (sym c.more-test.ensures) ⟫ calling right c.in_ok-stmt.ensures.reads refl;
}

pub more-smaller : goal.more-smaller
more-smaller c = statement_shorter c.in_ok-stmt.ensures.tree

pub returns-clause-tree : goal.returns-clause-tree
returns-clause-tree c = statements_done c.more.stmts.items c.args.events.now.items c.more.events.items c.more.invariant.tree

pub returns-clause-reads : goal.returns-clause-reads
returns-clause-reads c = c.more.invariant.reads ⟫ no_more (sym c.more-test.ensures)
