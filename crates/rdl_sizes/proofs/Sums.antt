-- What is computed of the parts of a body is what the definitions say of its groups.
use Rattle.std.specs.List.{list_any}
use Rattle.std.proofs.Common.{◌≡◌, ◌∙◌, ℕ, ◌+◌, ◌==◌, ◌&&◌, max, nat_lt, List, [], ◌∷◌, ◌++◌, length, map, flat_map, filter, refl, sym, ap, arith}
use Rattle.std.proofs.lemmas.List.{map-append}
use Rattle.rdl_base.specs.declared.fault.Fault.{Fault}
use Rattle.rdl_base.specs.declared.rule.Rule.TheVariants as rules
use Rattle.rdl_values.specs.Faults.{at_, when}
use Rattle.rdl_values.specs.Instances.{Instance, given_by}
use Rattle.rdl_values.specs.Uses.{Seen}
use Rattle.rdl_layout.specs.declared.part.Mode.{Mode}
use Rattle.rdl_layout.specs.declared.part.Part.{Part}
use Rattle.rdl_layout.specs.Parts as parts
use Rattle.rdl_addr.specs.Layout as layout
use Rattle.rdl_addr.specs.Layout.{Group, elements_from, greatest, group, grouped, has_address}
use Rattle.rdl_addr.specs.Parts.{ArePartsOf, mode_of}
use Rattle.rdl_addr.specs.Rules as rule
use Rattle.rdl_addr.proofs.Covers.{filter-append, placed_groups}
use Rattle.rdl_addr.proofs.Grouped.{ending, starting, strides}
use Rattle.rdl_sizes.specs.declared.lot.Lot.{Lot}
use Rattle.rdl_sizes.specs.Elements.{element_starts, elements}
use Rattle.rdl_sizes.specs.Lots.{AreLotsOf, IsLotOf, greatest_access, lot_faults, parts_in}
use Rattle.plain_lemmas.proofs.Numbers.{max_assoc as max-assoc}

pub parts-are : (ls : List Lot) (gs : List Group) → AreLotsOf ls gs → ArePartsOf (parts_in ls) gs
parts-are [] [] h = tt
parts-are [] (g ∷ gs) h = absurd h
parts-are (l ∷ ls) [] h = absurd h
parts-are (l ∷ ls) (g ∷ gs) h = (h.0.part_, parts-are ls gs h.1)

-- A1 and A2

abbrev pub group_faults : layout.Mode → Group → List Fault
group_faults m g = rule.small_stride (m, g) ++ rule.no_alignment g.first

one-fault : (m : Mode) (l : Lot) (g : Group) → IsLotOf l g → lot_faults m l ≡ group_faults (mode_of m) g
one-fault m l g is =
    let p = is.part_ in
    λ i. when (nat_lt 0 (p.count i) && nat_lt (strides l.part g p m i) (p.bytes i)) (at_ rules.A1 (is.place_ i)) ++ when (list_any (λ n. n == 0) (p.align_ i)) (at_ rules.A2 (is.place_ i))

pub same-faults : (m : Mode) (ls : List Lot) (gs : List Group) → AreLotsOf ls gs → flat_map (lot_faults m) ls ≡ flat_map (group_faults (mode_of m)) gs
same-faults m [] [] h = refl
same-faults m [] (g ∷ gs) h = absurd h
same-faults m (l ∷ ls) [] h = absurd h
same-faults m (l ∷ ls) (g ∷ gs) h = λ i. one-fault m l g h.0 i ++ same-faults m ls gs h.1 i

-- where elements start

elements-are : (at step : ℕ) (ns : List Instance) → elements at step (length ns) ≡ map (λ c. c.1) (elements_from at step ns)
elements-are at step [] = refl
elements-are at step (n ∷ ns) = ap (λ xs. at ∷ xs) (elements-are (at + step) step ns)

pub starts-are : (m : Mode) (before : ℕ) (ps : List Part) (gs : List Group) → ArePartsOf ps gs → element_starts m ps (parts.starts m before ps) ≡ map (λ c. c.1) (placed_groups (mode_of m) before gs)
starts-are m before [] [] h = refl
starts-are m before [] (g ∷ gs) h = absurd h
starts-are m before (p ∷ ps) [] h = absurd h
starts-are m before (p ∷ ps) (g ∷ gs) h =
    let is = h.0 in
    let many : p.others + 1 ≡ length (g.first ∷ g.others) = (let c = is.count in omega (arith, c)) in
    let here : elements (parts.start m before p) (parts.stride m p) (p.others + 1) ≡ map (λ c. c.1) (elements_from (layout.start (mode_of m) before g) (layout.stride (mode_of m) g) (g.first ∷ g.others)) =
    (λ i. elements (starting p g is m before i) (strides p g is m i) (many i)) ∙ elements-are (layout.start (mode_of m) before g) (layout.stride (mode_of m) g) (g.first ∷ g.others) in
    let rest = ap (λ b. element_starts m ps (parts.starts m b ps)) (ending p g is m before) ∙ starts-are m (layout.end (mode_of m) before g) ps gs h.1 in
    (λ i. here i ++ rest i) ∙ sym (map-append (λ c. c.1) (elements_from (layout.start (mode_of m) before g) (layout.stride (mode_of m) g) (g.first ∷ g.others)) (placed_groups (mode_of m) (layout.end (mode_of m) before g) gs))

-- the greatest access width

greatest-append : (xs ys : List ℕ) → greatest (xs ++ ys) ≡ max (greatest xs) (greatest ys)
greatest-append [] ys = omega arith
greatest-append (x ∷ xs) ys = ap (max x) (greatest-append xs ys) ∙ sym (max-assoc x (greatest xs) (greatest ys))

pub widths-are : (ls : List Lot) (gs : List Group) → AreLotsOf ls gs → greatest_access ls ≡ greatest (map (λ g. g.access) gs)
widths-are [] [] h = refl
widths-are [] (g ∷ gs) h = absurd h
widths-are (l ∷ ls) [] h = absurd h
widths-are (l ∷ ls) (g ∷ gs) h = λ i. max (h.0.part_.width i) (widths-are ls gs h.1 i)

module _ (size access : Instance → ℕ) where
  one-group : (ns : List Instance) → greatest (map (λ g. g.access) (group size access ns)) ≡ greatest (map access ns)
  one-group [] = refl
  one-group (n ∷ ns) = omega arith

  pub all-groups : (ss : List Seen) → greatest (map (λ g. g.access) (grouped size access (map (λ s. filter has_address (given_by s)) ss))) ≡ greatest (map access (filter has_address (flat_map given_by ss)))
  all-groups [] = refl
  all-groups (s ∷ ss) =
      let here = filter has_address (given_by s) in
      let rest = grouped size access (map (λ s. filter has_address (given_by s)) ss) in
      ap greatest (map-append (λ g. g.access) (group size access here) rest)
      ∙ (greatest-append (map (λ g. g.access) (group size access here)) (map (λ g. g.access) rest)
      ∙ ((λ i. max (one-group here i) (all-groups ss i))
      ∙ (sym (greatest-append (map access here) (map access (filter has_address (flat_map given_by ss))))
      ∙ (ap greatest (sym (map-append access here (filter has_address (flat_map given_by ss))))
      ∙ ap (λ ns. greatest (map access ns)) (sym (filter-append (given_by s) (flat_map given_by ss)))))))
