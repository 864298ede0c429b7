-- The lists of a block, in node order, and the number of a node in one.
use Rattle.std.specs.Prelude.{ℕ, ◌+◌, not, List, [], ◌∷◌, length, flat_map, filter}
use Rattle.std.specs.List.{position_or_len}
use Rattle.rdl_tree.specs.declared.item.Kind.TheVariants as kind
use Rattle.rdl_values.specs.Instances.{Instance}
use Rattle.rdl_layers.specs.Assignments.{same_path}
use Rattle.rdl_layers.specs.Fields.{is_a, fields_of, is_alias}

-- the position of a node in a list
abbrev pub number_of : Instance → List Instance → ℕ
number_of n ns = position_or_len (λ m. same_path m.path n.path) ns

abbrev pub all_signals : List Instance → List Instance
all_signals all = filter (is_a kind.Signal) all

abbrev pub registers : List Instance → List Instance
registers all = filter (is_a kind.Reg) all

-- the registers that are no aliases
abbrev pub primaries : List Instance → List Instance
primaries all = filter (λ r. not (is_alias r)) (registers all)

-- the fields of a block: an alias has none of its own
abbrev pub all_fields : List Instance → List Instance
all_fields all = flat_map fields_of (primaries all)

-- A register, its number among all, and that of its first view: every field of a register is a view.
pub record Numbered (A : Type 0) : Type 0 where
  pub register : A
  pub number : ℕ
  pub first_view : ℕ

-- registers from these numbers on
abbrev pub numbered_from : {A : Type 0} → (A → Instance) → ℕ → ℕ → List A → List (Numbered A)
numbered_from node number view [] = []
numbered_from node number view (r ∷ rs) = record { register = r; number = number; first_view = view } ∷ numbered_from node (number + 1) (view + length (fields_of (node r))) rs

-- all registers, in whatever they are listed
abbrev pub numbered : {A : Type 0} → (A → Instance) → List A → List (Numbered A)
numbered node rs = numbered_from node 0 0 rs
