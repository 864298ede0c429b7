use Rattle.std.proofs.Common.{List, take}
use Rattle.rdl_values.specs.Bodies.{Body}
use Rattle.rdl_children.specs.ItemUses.{IsBodyScene}
use Rattle.rdl_children.proofs.Listing.{DoneItems}
use Rattle.rdl_children.proofs.body.judge_items.Given as goal

abbrev pub invariant-loop-position : goal.invariant-loop-position
invariant-loop-position l = (above : List Body) (b : Body) → IsBodyScene l.scene l.items b → DoneItems l.scene above b (take l.position l.items) l.earlier l.initial.failures l.failures l.list.items
