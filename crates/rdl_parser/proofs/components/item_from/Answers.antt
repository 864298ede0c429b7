use Rattle.std.proofs.Common.{sym}
use Rattle.rb_grammar.proofs.Following.{◌⟫|◌}
use Rattle.rdl_tree.specs.Tree as tree
use Rattle.rb_grammar.proofs.Returning.{then_reads}
use Rattle.rdl_parser.proofs.Items.{local_step, dynamic_step, made_step}
use Rattle.rdl_parser.proofs.components.item_from.Goals as goal

pub returns-in-Made-clause-tree : goal.returns-in-Made-clause-tree
returns-in-Made-clause-tree c = λ ts n. c.made_from.ensures.tree _ _ _ tree.none tree.none n

pub returns-in-Made-clause-reads : goal.returns-in-Made-clause-reads
returns-in-Made-clause-reads c = then_reads _ _ (made_step _ (sym c.in-Made.ensures)) c.made_from.ensures.reads

pub returns-in-Made-clause-stops : goal.returns-in-Made-clause-stops
returns-in-Made-clause-stops c = λ h. made_step _ (sym c.in-Made.ensures) ⟫| c.made_from.ensures.stops h

pub returns-in-Local-clause-tree : goal.returns-in-Local-clause-tree
returns-in-Local-clause-tree c = c.local_from.ensures.tree

pub returns-in-Local-clause-reads : goal.returns-in-Local-clause-reads
returns-in-Local-clause-reads c = then_reads _ _ (local_step _ (sym c.in-Local.ensures)) c.local_from.ensures.reads

pub returns-in-Local-clause-stops : goal.returns-in-Local-clause-stops
returns-in-Local-clause-stops c = λ h. local_step _ (sym c.in-Local.ensures) ⟫| c.local_from.ensures.stops h

pub returns-in-Dynamic-clause-tree : goal.returns-in-Dynamic-clause-tree
returns-in-Dynamic-clause-tree c = c.dynamic_from.ensures.tree

pub returns-in-Dynamic-clause-reads : goal.returns-in-Dynamic-clause-reads
returns-in-Dynamic-clause-reads c = then_reads _ _ (dynamic_step _ (sym c.in-Dynamic.ensures)) c.dynamic_from.ensures.reads

pub returns-in-Dynamic-clause-stops : goal.returns-in-Dynamic-clause-stops
returns-in-Dynamic-clause-stops c = λ h. dynamic_step _ (sym c.in-Dynamic.ensures) ⟫| c.dynamic_from.ensures.stops h
