-- Where registers and containers stand (SystemRDL 2.0, 5.1.2.2.2 and 13.4; the table of the three modes is this project's).
use Rattle.std.specs.Prelude.{ℕ, zero, suc, ◌+◌, ◌*◌, ◌/◌, max, Bool, true, false, cond, List, [], ◌∷◌, length, nat_lt, map, flat_map, filter, Option, option_to_list}
use Rattle.rdl_base.specs.declared.keyword.Keyword.{Keyword}
use Rattle.rdl_base.specs.declared.keyword.Keyword.TheVariants as word
use Rattle.rdl_tree.specs.declared.expr.Expr.{Expr}
use Rattle.rdl_tree.specs.declared.item.Kind.{Kind}
use Rattle.rdl_tree.specs.declared.item.Kind.TheVariants as kind
use Rattle.rdl_tree.specs.declared.item.Source.{Source}
use Rattle.rdl_props.specs.declared.prop.Prop.TheVariants as prop
use Rattle.rdl_values.specs.Instances.{Instance, kind_of, children, given_by, seen_in, top_of, most_names}
use Rattle.rdl_layers.specs.Settings.{Meaning, named, setting}
use Rattle.rdl_layers.specs.Phase4.{number_at, numbers_of, first_or}
use Rattle.rdl_layers.specs.Fields.{is_a}
use Rattle.rdl_addr.specs.Rounding.{multiple_from, up}

-- How the children of a container are placed.
pub data Mode : Type 0 where
  compact : Mode
  regalign : Mode
  fullalign : Mode

abbrev pub mode_named : Keyword → Mode
mode_named word.Compact = compact
mode_named word.Fullalign = fullalign
mode_named _ = regalign

abbrev pub mode_set : Meaning → Mode
mode_set (named w) = mode_named w
mode_set _ = regalign

-- the mode in a container's body: that of the nearest addrmap
abbrev pub mode_in : Mode → Instance → Mode
mode_in outer n = go (kind_of n)
  where
    go : Kind → Mode
    go kind.Addrmap = mode_set (setting n prop.Addressing)
    go _ = outer

-- registers and containers have addresses
abbrev pub has_address : Instance → Bool
has_address n = go (kind_of n)
  where
    go : Kind → Bool
    go kind.Field = false
    go kind.Signal = false
    go _ = true

abbrev pub greatest : List ℕ → ℕ
greatest [] = 0
greatest (n ∷ ns) = max n (greatest ns)

-- The elements of one instance, in row order; the greatest of their sizes, in bytes, and of their compact alignments.
pub record Group : Type 0 where
  pub first : Instance
  pub others : List Instance
  pub size : ℕ
  pub access : ℕ

abbrev pub group : (Instance → ℕ) → (Instance → ℕ) → List Instance → List Group
group size access [] = []
group size access (n ∷ ns) = record { first = n; others = ns; size = greatest (map size (n ∷ ns)); access = greatest (map access (n ∷ ns)) } ∷ []

abbrev pub grouped : (Instance → ℕ) → (Instance → ℕ) → List (List Instance) → List Group
grouped size access elements = flat_map (group size access) elements

-- a part of the instance's text, where it has one
abbrev pub given : Group → Option Expr → List ℕ
given g e = numbers_of g.first (option_to_list e)

abbrev pub is_array : Group → Bool
is_array g = nat_lt 0 (length g.first.use_.dims)

abbrev pub default_stride : Mode → Group → ℕ
default_stride compact g = multiple_from g.access g.size
default_stride _ g = up g.size

-- from one element to the next
abbrev pub stride : Mode → Group → ℕ
stride mode g = first_or (given g g.first.use_.form.stride) (default_stride mode g)

-- from its first byte to its last
abbrev pub span : Mode → Group → ℕ
span mode g = length g.others * stride mode g + g.size

-- what a start without '@' and '%=' is a multiple of
abbrev pub alignment : Mode → Group → ℕ
alignment compact g = g.access
alignment regalign g = up g.size
alignment fullalign g = cond (is_array g) (up (span fullalign g)) (up g.size)

-- where an instance stands in its parent, the previous sibling's end given
abbrev pub start : Mode → ℕ → Group → ℕ
start mode end g = go (given g g.first.use_.form.at) (given g g.first.use_.form.align)
  where
    go : List ℕ → List ℕ → ℕ
    go (x ∷ xs) ms = x
    go [] (m ∷ ms) = multiple_from (max m 1) end
    go [] [] = multiple_from (alignment mode g) end

abbrev pub end : Mode → ℕ → Group → ℕ
end mode before g = start mode before g + span mode g

-- each instance of a body with its start; before the first stands nothing
abbrev pub starts : Mode → ℕ → List Group → List (Group × ℕ)
starts mode before [] = []
starts mode before (g ∷ gs) = (g, start mode before g) ∷ starts mode (end mode before g) gs

abbrev pub elements_from : ℕ → ℕ → List Instance → List (Instance × ℕ)
elements_from at step [] = []
elements_from at step (n ∷ ns) = (n, at) ∷ elements_from (at + step) step ns

-- each element with its offset from its parent's start
abbrev pub offsets : Mode → List Group → List (Instance × ℕ)
offsets mode gs = flat_map (λ g. elements_from g.1 (stride mode g.0) (g.0.first ∷ g.0.others)) (starts mode 0 gs)

-- the greatest end of a child
abbrev pub greatest_end : Mode → List Group → ℕ
greatest_end mode gs = greatest (map (λ g. g.1 + span mode g.0) (starts mode 0 gs))

-- the elements of each instance of a body that has an address
abbrev pub instances : Instance → List (List Instance)
instances n = map (λ s. filter has_address (given_by s)) (seen_in n)

-- Sizes and alignments, of nodes with no more than so many levels below them.

-- the access width of a register, and the greatest inside a container, in bytes
abbrev pub access_of : ℕ → Instance → ℕ
access_of zero n = 1
access_of (suc k) n = cond (is_a kind.Reg n) (number_at n prop.Accesswidth / 8) (max 1 (greatest (map (access_of k) (filter has_address (children n)))))

abbrev pub size_of : ℕ → Mode → Instance → ℕ
size_of zero mode n = 0
size_of (suc k) mode n = cond (is_a kind.Reg n) (number_at n prop.Regwidth / 8) (greatest_end (mode_in mode n) (grouped (size_of k (mode_in mode n)) (access_of k) (instances n)))

-- the instances in a container's body
abbrev pub groups : ℕ → Mode → Instance → List Group
groups k mode n = grouped (size_of k (mode_in mode n)) (access_of k) (instances n)

-- A register or container, its address and its size, in bytes.
pub record Placed : Type 0 where
  pub node : Instance
  pub address : ℕ
  pub size : ℕ

-- a node at an address, and what stands in it, in node order
abbrev pub placed_from : ℕ → Mode → ℕ → Instance → List Placed
placed_from zero mode at n = []
placed_from (suc k) mode at n = record { node = n; address = at; size = size_of (suc k) mode n } ∷ cond (is_a kind.Reg n) [] (flat_map (λ c. placed_from k (mode_in mode n) (at + c.1) c.0) (offsets (mode_in mode n) (groups k mode n)))

-- all registers and containers, in node order; the top stands at 0
unfoldable pub layout : Option (List ℕ) → Source → List Placed
layout wanted s = flat_map (placed_from most_names regalign 0) (top_of wanted s)
