use Rattle.std.proofs.Common.{refl, ap, sym, Err, [], ◌∷◌}
use Rattle.rb_grammar.proofs.Following.{◌⟫◌, ◌⟫|◌, same}
use Rattle.rb_grammar.proofs.Steps.{calling, calling_stops, passed}
use Rattle.rb_grammar.specs.Forms.{Non, Many}
use Rattle.v_syntax.specs.Grammar.{grammar}
use Rattle.v_syntax.specs.Grammar as rules
use Rattle.v_parser.specs.Reading.{after_decls, one_decl}
use Rattle.v_parser.proofs.Firsts.{right}
use Rattle.v_parser.proofs.Loops.{decls_begun, decls_more, decls_done, decl_shorter, one_more, no_more}
use Rattle.v_parser.proofs.cursor.Parser.decls.Goals as goal

pub more-init : goal.more-init
more-init c = record {
  tree = rw c.new-decls.ensures.items (decls_begun c.args.self.now c.args.declared.now.items);
  reads = same grammar after_decls (Many (Non rules.Decl) ∷ []) c.args.self.now;
}

pub returns-in_err-decl-clause-stops : goal.returns-in_err-decl-clause-stops
returns-in_err-decl-clause-stops c = λ h. c.more.invariant.reads ⟫ one_more (sym c.more-test.ensures) ⟫| calling_stops right (c.in_err-decl.ensures.stops (ap Err (passed _ _ c.from_residual.ensures.1 h))) refl

pub more-preserved : goal.more-preserved
more-preserved c = record {
  tree = decls_more c.in_ok-decl.decl c.in_ok-decl.place c.more.decls.items c.push.new.self.items c.args.declared.now.items c.more.declared.items c.push-in-more.new.self.items c.in_ok-push.ensures.items c.in_ok-push-2.ensures.items c.more.invariant.tree
      (λ ws rs left r. one_decl c.in_ok-decl.ensures.tree r);
  reads = c.more.invariant.reads ⟫ one_more (sym c.more-test.ensures) ⟫ calling right c.in_ok-decl.ensures.reads refl;
}

pub more-smaller : goal.more-smaller
more-smaller c = decl_shorter c.in_ok-decl.ensures.tree

pub returns-clause-tree : goal.returns-clause-tree
returns-clause-tree c = decls_done c.more.decls.items c.args.declared.now.items c.more.declared.items c.more.invariant.tree

pub returns-clause-reads : goal.returns-clause-reads
returns-clause-reads c = c.more.invariant.reads ⟫ no_more (sym c.more-test.ensures)
