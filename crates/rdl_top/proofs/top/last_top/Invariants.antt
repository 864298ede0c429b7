use Rattle.std.proofs.Common.{◌≡◌, None, take, reverse}
use Rattle.rdl_tree.specs.declared.item.Source.{Source}
use Rattle.rdl_values.specs.Bodies.{standing}
use Rattle.rdl_values.specs.Top.{top_at}
use Rattle.rdl_values.specs.Values.{nearest}
use Rattle.rdl_top.specs.Topped.{Means}
use Rattle.rdl_top.proofs.top.last_top.Given as goal

abbrev pub invariant-loop-position : goal.invariant-loop-position
invariant-loop-position l = (s : Source) → s.items.now ≡ l.items → Means s l.items l.top (nearest (top_at None s) (reverse (standing (take l.position l.items))))
