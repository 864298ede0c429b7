use Rattle.std.proofs.Common.{◌≡◌, ◌+◌, List, ◌++◌, drop}
use Rattle.rdl_tree.specs.declared.node.Elab.{Elab}
use Rattle.rdl_addr.specs.Bits.{Bits}
use Rattle.rdl_rules.specs.Words.{slots_from}
use Rattle.rdl_fields.specs.Views.{AreViewsOf}
use Rattle.rdl_block_words.proofs.slot.slots.Given as goal

-- the slots so far and those of the views that are left are all
abbrev pub invariant-loop-view : goal.invariant-loop-view
invariant-loop-view l = record {
  at : l.number ≡ l.first_view + l.view-index;
  whole : (e : Elab) (bs : List Bits) → AreViewsOf e l.views bs → l.items.items ++ slots_from (l.first_view + l.view-index) l.base l.width (drop l.view-index bs) ≡ slots_from l.first_view l.base l.width bs;
}
