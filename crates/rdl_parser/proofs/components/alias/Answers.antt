use Rattle.std.proofs.Common.{refl}
use Rattle.rb_grammar.proofs.Following.{◌⟫◌, ◌⟫|◌}
use Rattle.rb_grammar.proofs.Steps.{taking, missing, halting}
use Rattle.rdl_tree.specs.Tree as tree
use Rattle.rdl_expressions.proofs.Firsts.{right}
use Rattle.rdl_parser.proofs.components.alias.Goals as goal

pub returns-in_default-clause-tree : goal.returns-in_default-clause-tree
returns-in_default-clause-tree c = rw c.in_default.ensures.list tree.none

pub returns-in_default-clause-reads : goal.returns-in_default-clause-reads
returns-in_default-clause-reads c = missing right c.in_default.ensures refl

pub returns-in_err-name-clause-stops : goal.returns-in_err-name-clause-stops
returns-in_err-name-clause-stops c = λ h. taking right c.in-Some.ensures refl ⟫| halting right c.in_err-name.ensures.err refl

pub returns-clause-tree : goal.returns-clause-tree
returns-clause-tree c = tree.some c.in-Some.ensures c.in_ok-name.ensures.ok

pub returns-clause-reads : goal.returns-clause-reads
returns-clause-reads c = taking right c.in-Some.ensures refl ⟫ taking right c.in_ok-name.ensures.ok.1 refl
