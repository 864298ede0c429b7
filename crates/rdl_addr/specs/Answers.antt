-- What the calls of this crate answer.
use Rattle.std.specs.Prelude.{◌≡◌, ℕ, Bool, true, not, ◌&&◌, [], Some, Result, Ok, Err, slice_get, Contains}
use Rattle.std.specs.List.{list_any}
use Rattle.rdl_tree.specs.declared.item.Kind.TheVariants as kind
use Rattle.rdl_tree.specs.declared.node.Elab.{Elab}
use Rattle.rdl_values.specs.Elaborated.{top_name, nodes_of}
use Rattle.rdl_values.specs.Instances.{Instance, with_below, most_names}
use Rattle.rdl_values.specs.Verdict.{Fails, IsListOf, IsRefusal}
use Rattle.rdl_layers.specs.Fields.{is_a, is_container}
use Rattle.rdl_failures.specs.declared.error.PhaseError.{PhaseError}
use Rattle.rdl_failures.specs.declared.error.PhaseError.TheVariants as error
use Rattle.rdl_addr.specs.Bits.{Bits, bits_of}
use Rattle.rdl_addr.specs.Layout.{Placed, layout, has_address}
use Rattle.rdl_addr.specs.Rules.{fails_ab}

-- the failures of the rules on addresses and bits, of a tree of instances
abbrev pub places_fail : Elab → Fails
places_fail e = fails_ab (Some (top_name e)) e.source.now

-- no rule on addresses and bits fails
abbrev pub IsPlaced : Elab → Type 0
IsPlaced e = IsListOf (places_fail e) []

-- `place`: the map of the tree where no rule on addresses and bits fails, else the list of all failures. Want of memory may be
-- answered anywhere, and is where an address would pass 2^128. A map is seen as the tree that it is of.
abbrev pub AnswersAB : Elab → Result Elab PhaseError → Type 0
AnswersAB e (Ok of) = IsPlaced e × (of ≡ e)
AnswersAB e (Err (error.Faults list)) = IsRefusal (places_fail e) list.items
AnswersAB e (Err error.NoMemory) = Unit {0}

-- no container at or below the node is without a register
abbrev pub is_filled : Instance → Bool
is_filled n = not (list_any (λ m. is_container m && not (list_any (is_a kind.Reg) (with_below most_names m))) (with_below most_names n))

-- The node of this number is a register or a container that holds registers in all its containers: it has an address and a size.
abbrev pub HasAddressAt : Elab → ℕ → Type 0
HasAddressAt e k = (n : Instance) × (slice_get (nodes_of e) k ≡ Some n) × (has_address n ≡ true) × (is_filled n ≡ true)

-- the node of this number, where it stands
abbrev pub PlacedAt : Elab → ℕ → Placed → Type 0
PlacedAt e k p = (slice_get (nodes_of e) k ≡ Some p.node) × Contains (layout (Some (top_name e)) e.source.now) p

-- `Map::address`, in bytes
abbrev pub IsAddressAt : Elab → ℕ → ℕ → Type 0
IsAddressAt e k address = (p : Placed) × PlacedAt e k p × (p.address ≡ address)

-- `Map::size`, in bytes
abbrev pub IsSizeAt : Elab → ℕ → ℕ → Type 0
IsSizeAt e k size = (p : Placed) × PlacedAt e k p × (p.size ≡ size)

-- the node of this number is a field
abbrev pub IsFieldAt : Elab → ℕ → Type 0
IsFieldAt e k = (n : Instance) × (slice_get (nodes_of e) k ≡ Some n) × (is_a kind.Field n ≡ true)

-- `Map::bits`: the high and the low bit of a field in its register
abbrev pub AreBitsAt : Elab → ℕ → ℕ × ℕ → Type 0
AreBitsAt e k bits = (r : Instance) × (b : Bits) × Contains (nodes_of e) r × Contains (bits_of r) b × (slice_get (nodes_of e) k ≡ Some b.node) × ((b.high, b.low) ≡ bits)
