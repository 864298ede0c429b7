-- Lists of nodes.
use Rattle.std.specs.Prelude.{ℕ, List, slice_index_or}
use Rattle.rtl_net.specs.declared.node.Id.{Id}

-- the node at a place of the list
abbrev pub at : List Id → ℕ → Id
at ids i = slice_index_or ids i (record { 0 = 0 })
