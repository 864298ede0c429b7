-- What a source says of the entries of its enumerations: the strings of their `name` and `desc` (SystemRDL 2.0, clause 6).
use Rattle.std.specs.Prelude.{ℕ, Bool, ◌==◌, List, [], ◌∷◌, ◌++◌, bytes_eq, codes, find, flat_map, map, Option, None, Some, option_and_then}
use Rattle.std.specs.Option.{option_map_or}
use Rattle.block_effects.specs.Notes.{Said}
use Rattle.rdl_tree.specs.declared.expr.Expr.TheVariants as expr
use Rattle.rdl_tree.specs.declared.item.Assigned.{Assigned}
use Rattle.rdl_tree.specs.declared.item.Assigned.TheVariants as given
use Rattle.rdl_tree.specs.declared.item.Def.{Row_of-Item, end_of-Item, more_of-Item}
use Rattle.rdl_tree.specs.declared.item.Entry.{Entry}
use Rattle.rdl_tree.specs.declared.item.Item.{Item, Def', EnumDef, Made, Default, Local, Dynamic}
use Rattle.rdl_tree.specs.declared.item.Set.{Set}
use Rattle.rdl_tree.specs.declared.item.Source.{Source}

-- the bytes between the quotes of a string; nothing is said by a value that is computed
abbrev pub string_in : Option Assigned → Option (List ℕ)
string_in (Some (given.Expr (expr.Str s p))) = Some s.now
string_in _ = None

abbrev pub is_of : (property : List ℕ) → Set → Bool
is_of p s = bytes_eq s.prop.text.now p

-- that of the assignment of a property
abbrev pub string_of : (property : List ℕ) → List Set → Option (List ℕ)
string_of p sets = option_and_then (λ s. string_in s.value) (find (is_of p) sets)

abbrev pub entry_said : Entry → Said
entry_said e = record { name = string_of (codes "name") e.sets.now; desc = string_of (codes "desc") e.sets.now }

abbrev mutual
  -- the enumerations of an item, with the places of their names, in the order of the text: those in a definition's body too
  pub enums_of : Item → List (ℕ × List Entry)
  enums_of (Def' k n ps p shape rows insts place) = enums_in rows
  enums_of (EnumDef n es) = (n.place.0, es.now) ∷ []
  enums_of (Made a n is) = []
  enums_of (Default s) = []
  enums_of (Local s) = []
  enums_of (Dynamic p s) = []

  pub enums_in : {m : _} → Row_of-Item m → List (ℕ × List Entry)
  enums_in end_of-Item = []
  enums_in (more_of-Item i rest) = enums_of i ++ enums_in rest

-- the one among these whose name stands at a place
abbrev pub enum_at : List (ℕ × List Entry) → ℕ → Option (ℕ × List Entry)
enum_at es p = find (λ e. e.0 == p) es

-- what is said of the entries of the enumeration whose name stands at a place
abbrev pub entries_said : Source → ℕ → List Said
entries_said s p = option_map_or (λ e. map entry_said e.1) (enum_at (flat_map enums_of s.items.now) p) []
