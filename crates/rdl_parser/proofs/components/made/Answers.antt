use Rattle.std.proofs.Common.{refl, ap, length, arith, Err}
use Rattle.rb_grammar.proofs.Following.{◌⟫◌, ◌⟫|◌}
use Rattle.rb_grammar.proofs.Steps.{taking, halting, passed}
use Rattle.rdl_expressions.proofs.Firsts.{right}
use Rattle.rb_grammar.proofs.Factoring.{reading, reading_stops}
use Rattle.rb_grammar.proofs.Returning.{then_reads, then_shorter}
use Rattle.rdl_parser.proofs.components.made.Goals as goal

pub returns-in_err-alias-clause-stops : goal.returns-in_err-alias-clause-stops
returns-in_err-alias-clause-stops c = λ h. reading_stops right _ (c.in_err-alias.ensures.stops (ap Err (passed _ _ c.from_residual.ensures.1 h))) refl

pub returns-in_err-of-clause-stops : goal.returns-in_err-of-clause-stops
returns-in_err-of-clause-stops c = λ h. reading right _ c.in_ok-alias.ensures.reads refl ⟫| halting right c.in_err-of.ensures.err refl

pub returns-clause-tree : goal.returns-clause-tree
returns-clause-tree c = λ ts s. c.made_from.ensures.tree _ _ _ s c.in_ok-alias.ensures.tree c.in_ok-of.ensures.ok

pub returns-clause-shorter : goal.returns-clause-shorter
returns-clause-shorter c = then_shorter _ _ _ _ (omega (arith, ap length c.in_ok-of.ensures.ok.1.list, c.in_ok-alias.ensures.reads.on)) c.made_from.ensures.shorter

pub returns-clause-reads : goal.returns-clause-reads
returns-clause-reads c = then_reads _ _ (reading right _ c.in_ok-alias.ensures.reads refl ⟫ taking right c.in_ok-of.ensures.ok.1 refl) c.made_from.ensures.reads

pub returns-clause-stops : goal.returns-clause-stops
returns-clause-stops c = λ h. reading right _ c.in_ok-alias.ensures.reads refl ⟫ taking right c.in_ok-of.ensures.ok.1 refl ⟫| c.made_from.ensures.stops h
