use Rattle.std.proofs.Common.{take}
use Rattle.rdl_children.specs.Children.{AddsGiven}
use Rattle.rdl_children.proofs.given.add_given.Given as goal

abbrev pub invariant-loop-one : goal.invariant-loop-one
invariant-loop-one l = AddsGiven l.site l.alias (take l.one-index l.given) l.initial.list.items l.list.items
