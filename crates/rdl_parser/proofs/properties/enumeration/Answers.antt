use Rattle.std.proofs.Common.{◌≡◌, refl, ap, Err}
use Rattle.rb_grammar.specs.declared.stop.Stop.TheVariants.{Syntax}
use Rattle.rb_grammar.proofs.Following.{◌⟫◌, ◌⟫|◌}
use Rattle.rb_grammar.proofs.Steps.{taking, halting}
use Rattle.rdl_tree.specs.Tree as tree
use Rattle.rdl_expressions.proofs.Firsts.{right}
use Rattle.rb_grammar.proofs.Factoring.{splitting}
use Rattle.rdl_parser.proofs.properties.enumeration.Goals as goal

pub returns-in_err-name-clause-stops : goal.returns-in_err-name-clause-stops
returns-in_err-name-clause-stops c = λ h. splitting ⟫| halting right c.in_err-name.ensures.err refl

pub returns-in_err-_open-clause-stops : goal.returns-in_err-_open-clause-stops
returns-in_err-_open-clause-stops c = λ h. splitting ⟫ taking right c.in_ok-name.ensures.ok.1 refl ⟫| halting right c.in_err-_open.ensures.err refl

pub returns-in-Err-clause-stops : goal.returns-in-Err-clause-stops
returns-in-Err-clause-stops c = λ h. let e : c.in-Err.stop ≡ Syntax = cc in splitting ⟫ taking right c.in_ok-name.ensures.ok.1 refl ⟫ taking right c.in_ok-_open.ensures.ok refl ⟫| c.in-Err.ensures.stops (ap Err e)

pub returns-in-Ok-clause-tree : goal.returns-in-Ok-clause-tree
returns-in-Ok-clause-tree c = λ t ts i. let e = c.in-Ok.ensures.tree in tree.enum i c.in_ok-name.ensures.ok c.in_ok-_open.ensures.ok e.each e.closes e.ends

pub returns-in-Ok-clause-reads : goal.returns-in-Ok-clause-reads
returns-in-Ok-clause-reads c = splitting ⟫ taking right c.in_ok-name.ensures.ok.1 refl ⟫ taking right c.in_ok-_open.ensures.ok refl ⟫ c.in-Ok.ensures.reads
