-- What a node of a use has.
use Rattle.std.specs.Prelude.{◌≡◌, ℕ, true, List, Some, Ok}
use Rattle.rdl_values.specs.Instances.{Instance}
use Rattle.rdl_values.specs.NoNode.{no_node}
use Rattle.rdl_values.specs.Parameters.{bound_of}
use Rattle.rdl_values.specs.Parts.{is_empty}
use Rattle.rdl_values.specs.Paths.{path_in}
use Rattle.rdl_values.specs.Uses.{Seen}

-- The node is an element of the use, which fails nothing after which it would give none.
pub record IsGivenBy (s : Seen) (n : Instance) : Type 0 where
  pub clean : is_empty (no_node s) ≡ true
  pub use_is : n.use_ ≡ s.use_
  pub closure_is : s.use_.closure ≡ Some n.closure
  pub bound_is : bound_of s.use_ n.closure ≡ Ok n.bound
  pub above_is : n.above ≡ s.above
  pub index : List ℕ
  pub path_is : n.path ≡ path_in s.parent (record { name = s.use_.name.text.now; index = index })
