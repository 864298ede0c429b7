-- What is known of a tree when its items are listed.
use Rattle.std.specs.Prelude.{◌≡◌}
use Rattle.rdl_values.specs.Elaboration.{IsClean}
use Rattle.rdl_nodes.specs.Rows.{AreRows}
use Rattle.rdl_ref_items.specs.InterruptOutputs.{AreInterruptOutputs}
use Rattle.rdl_block_numbers.specs.Numbers.{AreOwn}
use Rattle.rdl_block_lists.specs.declared.items.Listed.{Listed}

-- The tree is clean, and these are its references, its rows, its marks, and the numbers of its nodes.
pub record IsListed (k : Listed) : Type 0 where
  pub clean : IsClean k.props.now
  pub refs_ : k.refs.now ≡ k.props.now
  pub rows_ : AreRows k.props.now k.rows.now
  pub marks_ : AreInterruptOutputs k.props.now k.marks.now
  pub own_ : AreOwn k.props.now k.own.now
