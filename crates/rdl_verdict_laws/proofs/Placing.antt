-- Where registers, containers and fields stand, apart from addresses of memory.
use Rattle.std.proofs.Common.{◌≡◌, ℕ, zero, suc, ◌+◌, ◌-◌, ◌*◌, ◌/◌, max, nat_lt, cond, refl, sym, ap, ◌∙◌, List, [], ◌∷◌, map, flat_map, filter, Option}
use Rattle.std.proofs.lemmas.List.{length-map}
use Rattle.rdl_tree.specs.declared.expr.Expr.{Expr}
use Rattle.rdl_tree.specs.declared.item.Kind.{Kind}
use Rattle.rdl_tree.specs.declared.item.Kind.TheVariants as kind
use Rattle.rdl_tree.specs.declared.item.Source.{Source}
use Rattle.rdl_verdict_laws.specs.Plain.{plain_expr, plain_source}
use Rattle.std.specs.Prelude.{option_map}
use Rattle.plain_lemmas.proofs.Bools.{cond-map as cond_map}
use Rattle.rdl_props.specs.declared.prop.Prop.TheVariants as prop
use Rattle.rdl_values.specs.Instances.{Instance, given_by, seen_in, children, kind_of, top_of, most_names}
use Rattle.rdl_values.specs.Uses.{Seen}
use Rattle.rdl_verdict_laws.specs.PlainInstances.{plain_seen, plain_instance}
use Rattle.rdl_verdict_laws.proofs.Lists.{map_id, map_to, flat_under, filter_under}
use Rattle.rdl_verdict_laws.proofs.Instances.{given-plain, seen_in-plain, children-plain, top-plain}
use Rattle.rdl_layers.specs.Fields.{is_a, fields_of}
use Rattle.rdl_layers.specs.Phase4.{range_of, first_or, width_of}
use Rattle.rdl_layers.specs.Settings.{setting}
use Rattle.rdl_verdict_laws.proofs.Meanings.{tested}
use Rattle.rdl_verdict_laws.proofs.Fields.{tests, fields-plain, number_at-plain, number_of_one-plain, range-plain, width-plain}
use Rattle.rdl_layout.specs.Rounding.{up, multiple_from}
use Rattle.rdl_addr.specs.Bits.{Bits, bits_at, bits_from, bits_of}
use Rattle.rdl_addr.specs.Layout.{Mode, compact, regalign, fullalign, mode_set, mode_in, has_address, greatest, Group, group, grouped, given, is_array, default_stride, stride, span, alignment, start, end, starts, elements_from, offsets, greatest_end, instances, access_of, size_of, groups, Placed, placed_from, layout}
use Rattle.rdl_verdict_laws.specs.PlainPlaces.{plain_bits, plain_group, plain_start, plain_offset, plain_placed}

-- Bits.

abbrev bits_by : ℕ → Instance → ℕ → List (ℕ × ℕ) → Bits
bits_by next n w (r ∷ rs) = record { node = n; high = r.0; low = r.1 }
bits_by next n w [] = record { node = n; high = next + w - 1; low = next }

bits_by-plain : (next : ℕ) (n : Instance) (w : ℕ) (rs : List (ℕ × ℕ)) → bits_by next (plain_instance n) w rs ≡ plain_bits (bits_by next n w rs)
bits_by-plain next n w (r ∷ rs) = refl
bits_by-plain next n w [] = refl

is_bits_by : (next : ℕ) (n : Instance) → bits_at next n ≡ bits_by next n (width_of n) (range_of n)
is_bits_by next n = refl

bits_at-plain : (next : ℕ) (n : Instance) → bits_at next (plain_instance n) ≡ plain_bits (bits_at next n)
bits_at-plain next n = is_bits_by next (plain_instance n) ∙ (λ i. bits_by next (plain_instance n) (width-plain n i) (range-plain n i)) ∙ bits_by-plain next n (width_of n) (range_of n) ∙ ap plain_bits (sym (is_bits_by next n))

bits_from-plain : (next : ℕ) (ns : List Instance) → bits_from next (map plain_instance ns) ≡ map plain_bits (bits_from next ns)
bits_from-plain next [] = refl
bits_from-plain next (n ∷ ns) = (λ i. bits_at-plain next n i ∷ bits_from ((bits_at-plain next n i).high + 1) (map plain_instance ns)) ∙ ap (λ bs. plain_bits (bits_at next n) ∷ bs) (bits_from-plain ((bits_at next n).high + 1) ns)

pub bits-plain : (n : Instance) → bits_of (plain_instance n) ≡ map plain_bits (bits_of n)
bits-plain n = ap (bits_from 0) (fields-plain n) ∙ bits_from-plain 0 (fields_of n)

-- Modes.

abbrev mode_by : Mode → Mode → Kind → Mode
mode_by outer set kind.Addrmap = set
mode_by outer set _ = outer

is_mode_by : (outer : Mode) (n : Instance) → mode_in outer n ≡ mode_by outer (mode_set (setting n prop.Addressing)) (kind_of n)
is_mode_by outer n = refl

pub mode-plain : (outer : Mode) (n : Instance) → mode_in outer (plain_instance n) ≡ mode_in outer n
mode-plain outer n = is_mode_by outer (plain_instance n) ∙ ap (λ m. mode_by outer m (kind_of n)) (tests mode_set (tested mode_set (λ n s. refl) (λ p n s q. refl)) n prop.Addressing) ∙ sym (is_mode_by outer n)

-- Groups.

module _ (size size' access access' : Instance → ℕ) (s : (n : Instance) → size (plain_instance n) ≡ size' n) (a : (n : Instance) → access (plain_instance n) ≡ access' n) where
  numbers_same : (f f' : Instance → ℕ) → ((n : Instance) → f (plain_instance n) ≡ f' n) → (ns : List Instance) → map f (map plain_instance ns) ≡ map f' ns
  numbers_same f f' h [] = refl
  numbers_same f f' h (n ∷ ns) = λ i. h n i ∷ numbers_same f f' h ns i

  group-plain : (ns : List Instance) → group size access (map plain_instance ns) ≡ map plain_group (group size' access' ns)
  group-plain [] = refl
  group-plain (n ∷ ns) = λ i. record { first = plain_instance n; others = map plain_instance ns; size = greatest (numbers_same size size' s (n ∷ ns) i); access = greatest (numbers_same access access' a (n ∷ ns) i) } ∷ []

  pub grouped-plain : (xs : List (List Instance)) → grouped size access (map (map plain_instance) xs) ≡ map plain_group (grouped size' access' xs)
  grouped-plain xs = flat_under (group size access) (group size' access') (map plain_instance) plain_group group-plain xs

given_one-plain : (g : Group) (e : Option Expr) → given (plain_group g) (option_map plain_expr e) ≡ given g e
given_one-plain g e = number_of_one-plain g.first e

array-plain : (g : Group) → is_array (plain_group g) ≡ is_array g
array-plain g = ap (nat_lt 0) (length-map g.first.use_.dims plain_expr)

default_stride-plain : (m : Mode) (g : Group) → default_stride m (plain_group g) ≡ default_stride m g
default_stride-plain compact g = refl
default_stride-plain regalign g = refl
default_stride-plain fullalign g = refl

pub stride-plain : (m : Mode) (g : Group) → stride m (plain_group g) ≡ stride m g
stride-plain m g = λ i. first_or (given_one-plain g g.first.use_.form.stride i) (default_stride-plain m g i)

pub span-plain : (m : Mode) (g : Group) → span m (plain_group g) ≡ span m g
span-plain m g = λ i. length-map g.others plain_instance i * stride-plain m g i + g.size

alignment-plain : (m : Mode) (g : Group) → alignment m (plain_group g) ≡ alignment m g
alignment-plain compact g = refl
alignment-plain regalign g = refl
alignment-plain fullalign g = λ i. cond (array-plain g i) (up (span-plain fullalign g i)) (up g.size)

abbrev start_by : ℕ → ℕ → List ℕ → List ℕ → ℕ
start_by end align (x ∷ xs) ms = x
start_by end align [] (m ∷ ms) = multiple_from (max m 1) end
start_by end align [] [] = multiple_from align end

is_start_by : (m : Mode) (end : ℕ) (g : Group) → start m end g ≡ start_by end (alignment m g) (given g g.first.use_.form.at) (given g g.first.use_.form.align)
is_start_by m end g = refl

start-plain : (m : Mode) (end : ℕ) (g : Group) → start m end (plain_group g) ≡ start m end g
start-plain m end g = is_start_by m end (plain_group g) ∙ (λ i. start_by end (alignment-plain m g i) (given_one-plain g g.first.use_.form.at i) (given_one-plain g g.first.use_.form.align i)) ∙ sym (is_start_by m end g)

end-plain : (m : Mode) (before : ℕ) (g : Group) → end m before (plain_group g) ≡ end m before g
end-plain m before g = λ i. start-plain m before g i + span-plain m g i

starts-plain : (m : Mode) (before : ℕ) (gs : List Group) → starts m before (map plain_group gs) ≡ map plain_start (starts m before gs)
starts-plain m before [] = refl
starts-plain m before (g ∷ gs) = (λ i. (plain_group g, start-plain m before g i) ∷ starts m (end-plain m before g i) (map plain_group gs)) ∙ ap (λ xs. (plain_group g, start m before g) ∷ xs) (starts-plain m (end m before g) gs)

elements-plain : (at step : ℕ) (ns : List Instance) → elements_from at step (map plain_instance ns) ≡ map plain_offset (elements_from at step ns)
elements-plain at step [] = refl
elements-plain at step (n ∷ ns) = ap (λ xs. (plain_instance n, at) ∷ xs) (elements-plain (at + step) step ns)

pub offsets-plain : (m : Mode) (gs : List Group) → offsets m (map plain_group gs) ≡ map plain_offset (offsets m gs)
offsets-plain m gs =
    let f : Group × ℕ → List (Instance × ℕ) = λ g. elements_from g.1 (stride m g.0) (g.0.first ∷ g.0.others) in
    ap (flat_map f) (starts-plain m 0 gs)
    ∙ flat_under f f plain_start plain_offset (λ g. ap (λ k. elements_from g.1 k (map plain_instance (g.0.first ∷ g.0.others))) (stride-plain m g.0) ∙ elements-plain g.1 (stride m g.0) (g.0.first ∷ g.0.others)) (starts m 0 gs)

pub greatest_end-plain : (m : Mode) (gs : List Group) → greatest_end m (map plain_group gs) ≡ greatest_end m gs
greatest_end-plain m gs =
    let f : Group × ℕ → ℕ = λ g. g.1 + span m g.0 in
    ap (λ xs. greatest (map f xs)) (starts-plain m 0 gs) ∙ ap greatest (map_id f plain_start (λ g. ap (λ k. g.1 + k) (span-plain m g.0)) (starts m 0 gs))

pub instances-plain : (n : Instance) → instances (plain_instance n) ≡ map (map plain_instance) (instances n)
instances-plain n =
    let f : Seen → List Instance = λ s. filter has_address (given_by s) in
    ap (map f) (seen_in-plain n) ∙ map_to f f plain_seen (map plain_instance) (λ s. ap (filter has_address) (given-plain s) ∙ filter_under has_address has_address plain_instance (λ n. refl) (given_by s)) (seen_in n)

-- Sizes.

pub access-plain : (k : ℕ) (n : Instance) → access_of k (plain_instance n) ≡ access_of k n
access-plain zero n = refl
access-plain (suc k) n =
    let inner : List Instance = filter has_address (children n) in
    λ i. cond (is_a kind.Reg n) (number_at-plain n prop.Accesswidth i / 8) (max 1 (greatest ((ap (λ ns. map (access_of k) (filter has_address ns)) (children-plain n) ∙ ap (map (access_of k)) (filter_under has_address has_address plain_instance (λ n. refl) (children n)) ∙ map_id (access_of k) plain_instance (access-plain k) inner) i)))

pub size-plain : (k : ℕ) (m : Mode) (n : Instance) → size_of k m (plain_instance n) ≡ size_of k m n
size-plain zero m n = refl
size-plain (suc k) m n =
    let inner : Mode = mode_in m n in
    let f : Mode → List (List Instance) → ℕ = λ z xs. greatest_end z (grouped (size_of k z) (access_of k) xs) in
    λ i. cond (is_a kind.Reg n) (number_at-plain n prop.Regwidth i / 8)
    (((λ j. f (mode-plain m n j) (instances-plain n j)) ∙ ap (greatest_end inner) (grouped-plain (size_of k inner) (size_of k inner) (access_of k) (access_of k) (size-plain k inner) (access-plain k) (instances n)) ∙ greatest_end-plain inner (grouped (size_of k inner) (access_of k) (instances n))) i)

pub groups-plain : (k : ℕ) (m : Mode) (n : Instance) → groups k m (plain_instance n) ≡ map plain_group (groups k m n)
groups-plain k m n =
    let inner : Mode = mode_in m n in
    (λ j. grouped (size_of k (mode-plain m n j)) (access_of k) (instances-plain n j)) ∙ grouped-plain (size_of k inner) (size_of k inner) (access_of k) (access_of k) (size-plain k inner) (access-plain k) (instances n)

placed-plain : (k : ℕ) (m : Mode) (at : ℕ) (n : Instance) → placed_from k m at (plain_instance n) ≡ map plain_placed (placed_from k m at n)
placed-plain zero m at n = refl
placed-plain (suc k) m at n =
    let inner : Mode = mode_in m n in
    let f : Mode → Instance × ℕ → List Placed = λ z c. placed_from k z (at + c.1) c.0 in
    let below : flat_map (f (mode_in m (plain_instance n))) (offsets (mode_in m (plain_instance n)) (groups k m (plain_instance n))) ≡ map plain_placed (flat_map (f inner) (offsets inner (groups k m n))) =
    (λ j. flat_map (f (mode-plain m n j)) (offsets (mode-plain m n j) (groups-plain k m n j))) ∙ ap (flat_map (f inner)) (offsets-plain inner (groups k m n))
    ∙ flat_under (f inner) (f inner) plain_offset plain_placed (λ c. placed-plain k inner (at + c.1) c.0) (offsets inner (groups k m n)) in
    λ i. record { node = plain_instance n; address = at; size = size-plain (suc k) m n i } ∷ (ap (cond (is_a kind.Reg n) []) below ∙ cond_map (map plain_placed) (is_a kind.Reg n) [] (flat_map (f inner) (offsets inner (groups k m n)))) i

pub layout-plain : (w : Option (List ℕ)) (s : Source) → layout w (plain_source s) ≡ map plain_placed (layout w s)
unfolding layout
layout-plain w s = ap (flat_map (placed_from most_names regalign 0)) (top-plain w s) ∙ flat_under (placed_from most_names regalign 0) (placed_from most_names regalign 0) plain_instance plain_placed (placed-plain most_names regalign 0) (top_of w s)
