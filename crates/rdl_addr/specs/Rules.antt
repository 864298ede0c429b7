-- Which rules on addresses and bits fail where.
use Rattle.std.specs.Prelude.{ℕ, zero, suc, ◌+◌, ◌/◌, ◌%◌, ◌^◌, Bool, true, false, not, ◌&&◌, ◌||◌, List, [], ◌∷◌, ◌++◌, length, nat_lt, nat_le, ◌==◌, cond, map, flat_map, filter, Option, option_to_list, Contains}
use Rattle.std.specs.List.{list_any}
use Rattle.rdl_base.specs.declared.fault.Fault.{Fault}
use Rattle.rdl_base.specs.declared.keyword.Keyword.TheVariants as word
use Rattle.rb_base.specs.declared.place.Place.{Place}
use Rattle.rdl_base.specs.declared.rule.Rule.TheVariants as rules
use Rattle.rdl_tree.specs.declared.item.Kind.TheVariants as kind
use Rattle.rdl_tree.specs.declared.item.Source.{Source}
use Rattle.rdl_props.specs.declared.prop.Prop.TheVariants as prop
use Rattle.rdl_values.specs.Verdict.{Fails}
use Rattle.rdl_values.specs.Bodies.{standing}
use Rattle.rdl_values.specs.Uses.{when, at_}
use Rattle.rdl_values.specs.Instances.{Instance, top_of, nodes, most_names}
use Rattle.rdl_layers.specs.Settings.{Meaning, named, setting}
use Rattle.rdl_layers.specs.Phase4.{number_at, numbers_of}
use Rattle.rdl_layers.specs.Fields.{is_a, fields_of, reads, writes, has_on_read}
use Rattle.rdl_addr.specs.Layout.{Mode, regalign, Group, stride, groups, mode_in, Placed, layout}
use Rattle.rdl_addr.specs.Bits.{Bits, bits_of}

abbrev pub registers : Option (List ℕ) → Source → List Placed
registers wanted s = filter (λ p. is_a kind.Reg p.node) (layout wanted s)

-- the instances of every container, each under its mode
abbrev pub with_groups : ℕ → Mode → Instance → List (Mode × Group)
with_groups zero mode n = []
with_groups (suc k) mode n = flat_map (λ g. (mode_in mode n, g) ∷ flat_map (with_groups k (mode_in mode n)) (g.first ∷ g.others)) (groups k mode n)

unfoldable pub all_groups : Option (List ℕ) → Source → List (Mode × Group)
all_groups wanted s = flat_map (with_groups most_names regalign) (top_of wanted s)

-- A1: an array of two elements or more whose stride is below an element's size
abbrev pub small_stride : Mode × Group → List Fault
small_stride g = when (nat_lt 0 (length g.1.others) && nat_lt (stride g.0 g.1) g.1.size) (at_ rules.A1 g.1.first.use_.name.place)

-- A2: '%= 0'
abbrev pub no_alignment : Instance → List Fault
no_alignment n = when (list_any (λ m. m == 0) (numbers_of n (option_to_list n.use_.form.align))) (at_ rules.A2 n.use_.name.place)

-- A3: a register's address is no multiple of its access width
abbrev pub misaligned : Placed → List Fault
misaligned p = when (not (p.address % (number_at p.node prop.Accesswidth / 8) == 0)) (at_ rules.A3 p.node.use_.name.place)

-- A4: a register ends above 2^32
abbrev pub too_large : Placed → List Fault
too_large p = when (nat_lt (2 ^ 32) (p.address + p.size)) (at_ rules.A4 p.node.use_.name.place)

-- A5: its bytes meet those of a register before it, unless one is only read and the other only written in its place

-- software reads some field of it, and writes none
abbrev pub is_read_only : Instance → Bool
is_read_only r = list_any reads (fields_of r) && not (list_any writes (fields_of r))

-- software writes some field of it, and no read gives or does anything
abbrev pub is_write_only : Instance → Bool
is_write_only r = list_any writes (fields_of r) && not (list_any (λ f. reads f || has_on_read f) (fields_of r))

-- what software does with a register that may share its address
pub data Side : Type 0 where
  reads_alone : Side
  writes_alone : Side
  other : Side

-- Where a register stands, and what counts for sharing it.
pub record Footprint : Type 0 where
  pub address : ℕ
  pub size : ℕ
  pub regwidth : ℕ
  pub accesswidth : ℕ
  pub side : Side

abbrev pub side_of : Instance → Side
side_of r = cond (is_read_only r) reads_alone (cond (is_write_only r) writes_alone other)

abbrev pub footprint : Placed → Footprint
footprint p = record { address = p.address; size = p.size; regwidth = number_at p.node prop.Regwidth; accesswidth = number_at p.node prop.Accesswidth; side = side_of p.node }

abbrev pub are_opposite : Side → Side → Bool
are_opposite reads_alone writes_alone = true
are_opposite writes_alone reads_alone = true
are_opposite _ _ = false

abbrev pub have_one_shape : Footprint → Footprint → Bool
have_one_shape f g = f.address == g.address && f.regwidth == g.regwidth && f.accesswidth == g.accesswidth

abbrev pub may_share_address : Footprint → Footprint → Bool
may_share_address f g = have_one_shape f g && are_opposite f.side g.side

abbrev pub meets : Footprint → Footprint → Bool
meets f g = nat_lt f.address (g.address + g.size) && nat_lt g.address (f.address + f.size)

abbrev pub clashes_with : Footprint → Footprint → Bool
clashes_with f g = meets f g && not (may_share_address f g)

-- the places of those that one before them clashes with
abbrev pub overlaps_of : List (Place × Footprint) → List Fault
overlaps_of fs = flat_map (λ f. when (list_any (λ g. clashes_with f.1.1 g.1) f.0) (at_ rules.A5 f.1.0)) (standing fs)

abbrev pub overlaps : List Placed → List Fault
overlaps ps = overlaps_of (map (λ p. (p.node.use_.name.place, footprint p)) ps)

-- A6: more registers than the limit
abbrev pub most_registers : ℕ
most_registers = 8192

abbrev pub too_many : List Instance → List Placed → List Fault
too_many top ps = flat_map (λ n. when (nat_lt most_registers (length ps)) (at_ rules.A6 n.use_.name.place)) top

-- B1: a field's high bit is outside its register
abbrev pub is_outside : Instance → Bits → Bool
is_outside r b = nat_le (number_at r prop.Regwidth) b.high

-- B2: a bit is shared with a field before it, unless software only reads the one and only writes the other
abbrev pub only_reads : Meaning → Bool
only_reads (named word.R) = true
only_reads _ = false

abbrev pub only_writes : Meaning → Bool
only_writes (named word.W) = true
only_writes (named word.W1) = true
only_writes _ = false

abbrev pub may_share_bits : Meaning → Meaning → Bool
may_share_bits a b = (only_reads a && only_writes b) || (only_writes a && only_reads b)

abbrev pub clashes : Bits → Bits → Bool
clashes b c = nat_le b.low c.high && nat_le c.low b.high && not (may_share_bits (setting b.node prop.Sw) (setting c.node prop.Sw))

abbrev pub of_bits : Instance → List Bits × Bits → List Fault
of_bits r b =
    when (is_outside r b.1) (at_ rules.B1 b.1.node.use_.name.place)
    ++ when (list_any (clashes b.1) b.0) (at_ rules.B2 b.1.node.use_.name.place)

-- all failures of the A and B rules
unfoldable pub failures_ab : Option (List ℕ) → Source → List Fault
failures_ab wanted s =
    flat_map small_stride (all_groups wanted s)
    ++ flat_map no_alignment (nodes wanted s)
    ++ flat_map misaligned (registers wanted s)
    ++ flat_map too_large (registers wanted s)
    ++ overlaps (registers wanted s)
    ++ too_many (top_of wanted s) (registers wanted s)
    ++ flat_map (λ r. flat_map (of_bits r) (standing (bits_of r))) (filter (is_a kind.Reg) (nodes wanted s))

abbrev pub fails_ab : Option (List ℕ) → Source → Fails
fails_ab wanted s r p = Contains (failures_ab wanted s) (at_ r p)
