-- The paths of nodes.
use Rattle.std.specs.Prelude.{ℕ, ◌+◌, List, [], ◌∷◌, ◌++◌, length, map, flat_map, decimal}
use Rattle.std.specs.List.{join_with_byte}
use Rattle.rdl_tree.specs.declared.item.Kind.{Kind}

-- A step of a path: a name, and the indices of an element of an array, first dimension first.
pub record Step : Type 0 where
  pub name : List ℕ
  pub index : List ℕ

-- The path of a node: of a signal at the root, or from the top down. So a signal and a node under the top never share one.
pub data Path : Type 0 where
  of_signal : Step → Path
  below_top : List Step → Path

abbrev pub steps_of : Path → List Step
steps_of (of_signal s) = s ∷ []
steps_of (below_top ss) = ss

-- Where a use stands: nowhere, as that of the top; at the root; or in the body of a node of a kind.
pub data Parent : Type 0 where
  nowhere : Parent
  at_root : Parent
  in_node : Path → Kind → Parent

-- the path of an element of a use that stands here; in a signal stands none
abbrev pub path_in : Parent → Step → Path
path_in nowhere s = below_top []
path_in at_root s = of_signal s
path_in (in_node (of_signal t) k) s = of_signal t
path_in (in_node (below_top ss) k) s = below_top (ss ++ (s ∷ []))

-- the steps that its text is made of: of a signal at the root its name, else those below the top
abbrev pub steps_in : Parent → Step → List Step
steps_in nowhere s = []
steps_in at_root s = s ∷ []
steps_in (in_node p k) s = steps_of p ++ (s ∷ [])

-- how many names lead from the root to a use that stands here, its own and the top's among them
abbrev pub depth_in : Parent → ℕ
depth_in nowhere = 1
depth_in at_root = 1
depth_in (in_node (of_signal t) k) = 2
depth_in (in_node (below_top ss) k) = length ss + 2

abbrev pub words_of : Step → List (List ℕ)
words_of s = s.name ∷ map decimal s.index

-- names and indices, joined by '$'
abbrev pub joined : List Step → List ℕ
joined ss = join_with_byte 36 (flat_map words_of ss)

-- the path text of a node
abbrev pub path_text : Path → List ℕ
path_text p = joined (steps_of p)
