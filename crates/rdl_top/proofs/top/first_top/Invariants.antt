use Rattle.std.proofs.Common.{◌≡◌, Some, take, drop}
use Rattle.rdl_tree.specs.declared.item.Source.{Source}
use Rattle.rdl_values.specs.Bodies.{standing, standing_from}
use Rattle.rdl_values.specs.Top.{top_at}
use Rattle.rdl_values.specs.Values.{nearest}
use Rattle.rdl_top.proofs.top.first_top.Given as goal

abbrev pub invariant-loop-position : goal.invariant-loop-position
invariant-loop-position l = (s : Source) → s.items.now ≡ l.items → nearest (top_at (Some l.wanted) s) (standing l.items) ≡ nearest (top_at (Some l.wanted) s) (standing_from (take l.position l.items) (drop l.position l.items))
