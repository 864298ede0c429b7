-- The failures of addresses and bits do not depend on addresses of memory.
use Rattle.std.specs.List.{list_any}
use Rattle.std.proofs.Common.{◌≡◌, ℕ, zero, suc, ◌/◌, ◌%◌, ◌==◌, nat_lt, nat_le, Bool, not, ◌&&◌, ◌||◌, cond, refl, ap, ◌∙◌, List, ◌∷◌, ◌++◌, map, flat_map, filter, length, Option}
use Rattle.std.proofs.lemmas.List.{length-map}
use Rattle.rdl_base.specs.declared.fault.Fault.{Fault}
use Rattle.rdl_base.specs.declared.rule.Rule.TheVariants as rules
use Rattle.rdl_tree.specs.declared.item.Kind.TheVariants as kind
use Rattle.rdl_tree.specs.declared.item.Source.{Source}
use Rattle.rdl_verdict_laws.specs.Plain.{plain_source}
use Rattle.rdl_props.specs.declared.prop.Prop.TheVariants as prop
use Rattle.rdl_values.specs.Bodies.{standing}
use Rattle.rdl_values.specs.Faults.{at_, when}
use Rattle.rdl_values.specs.Instances.{Instance, top_of, nodes, most_names}
use Rattle.rdl_verdict_laws.specs.PlainInstances.{plain_instance}
use Rattle.rdl_verdict_laws.proofs.Lists.{map_id, flat_id, flat_under, flat_same, filter_under, any_same, both, standing_under}
use Rattle.rdl_verdict_laws.proofs.Instances.{top-plain, nodes-plain}
use Rattle.rdl_layers.specs.Fields.{is_a, fields_of, reads, writes, has_on_read}
use Rattle.rdl_layers.specs.Forms.{Meaning}
use Rattle.rdl_layers.specs.Settings.{setting}
use Rattle.rdl_verdict_laws.specs.PlainSettings.{plain_meaning}
use Rattle.rdl_verdict_laws.proofs.Meanings.{tested}
use Rattle.rdl_verdict_laws.proofs.Settings.{setting-plain}
use Rattle.rdl_verdict_laws.proofs.Fields.{fields-plain, reads-plain, writes-plain, on_read-plain, number_at-plain, number_of_one-plain}
use Rattle.rdl_addr.specs.Bits.{Bits, bits_of}
use Rattle.rdl_addr.specs.Layout.{Mode, regalign, mode_in, Group, groups, Placed, layout}
use Rattle.rdl_addr.specs.Rules.{registers, with_groups, all_groups, small_stride, no_alignment, misaligned, too_large, is_read_only, is_write_only, reads_alone, writes_alone, other, footprint, overlaps_of, overlaps, most_registers, too_many, only_reads, only_writes, may_share_bits, clashes, of_bits, failures_ab}
use Rattle.rdl_verdict_laws.specs.PlainPlaces.{plain_bits, plain_group, plain_placed}
use Rattle.rdl_verdict_laws.proofs.Placing.{bits-plain, mode-plain, stride-plain, groups-plain, layout-plain}

pub registers-plain : (w : Option (List ℕ)) (s : Source) → registers w (plain_source s) ≡ map plain_placed (registers w s)
registers-plain w s = ap (filter (λ (p : Placed). is_a kind.Reg p.node)) (layout-plain w s) ∙ filter_under (λ (p : Placed). is_a kind.Reg p.node) (λ (p : Placed). is_a kind.Reg p.node) plain_placed (λ p. refl) (layout w s)

abbrev plain_mode : Mode × Group → Mode × Group
plain_mode g = (g.0, plain_group g.1)

with-plain : (k : ℕ) (m : Mode) (n : Instance) → with_groups k m (plain_instance n) ≡ map plain_mode (with_groups k m n)
with-plain zero m n = refl
with-plain (suc k) m n =
    let inner : Mode = mode_in m n in
    let f : Mode → Group → List (Mode × Group) = λ z g. (z, g) ∷ flat_map (with_groups k z) (g.first ∷ g.others) in
    (λ i. flat_map (f (mode-plain m n i)) (groups-plain k m n i))
    ∙ flat_under (f inner) (f inner) plain_group plain_mode (λ g. ap (λ xs. (inner, plain_group g) ∷ xs) (flat_under (with_groups k inner) (with_groups k inner) plain_instance plain_mode (with-plain k inner) (g.first ∷ g.others))) (groups k m n)

all-plain : (w : Option (List ℕ)) (s : Source) → all_groups w (plain_source s) ≡ map plain_mode (all_groups w s)
unfolding all_groups
all-plain w s = ap (flat_map (with_groups most_names regalign)) (top-plain w s) ∙ flat_under (with_groups most_names regalign) (with_groups most_names regalign) plain_instance plain_mode (with-plain most_names regalign) (top_of w s)

small-plain : (g : Mode × Group) → small_stride (plain_mode g) ≡ small_stride g
small-plain g = λ i. when (nat_lt 0 (length-map g.1.others plain_instance i) && nat_lt (stride-plain g.0 g.1 i) g.1.size) (at_ rules.A1 g.1.first.use_.name.place)

alignment-plain : (n : Instance) → no_alignment (plain_instance n) ≡ no_alignment n
alignment-plain n = ap (λ ms. when (list_any (λ (m : ℕ). m == 0) ms) (at_ rules.A2 n.use_.name.place)) (number_of_one-plain n n.use_.form.align)

misaligned-plain : (p : Placed) → misaligned (plain_placed p) ≡ misaligned p
misaligned-plain p = ap (λ k. when (not (p.address % (k / 8) == 0)) (at_ rules.A3 p.node.use_.name.place)) (number_at-plain p.node prop.Accesswidth)

any-plain : (p : Instance → Bool) → ((n : Instance) → p (plain_instance n) ≡ p n) → (r : Instance) → list_any p (fields_of (plain_instance r)) ≡ list_any p (fields_of r)
any-plain p h r = ap (list_any p) (fields-plain r) ∙ any_same p p plain_instance h (fields_of r)

pub read_only-plain : (r : Instance) → is_read_only (plain_instance r) ≡ is_read_only r
read_only-plain r = λ i. any-plain reads reads-plain r i && not (any-plain writes writes-plain r i)

pub write_only-plain : (r : Instance) → is_write_only (plain_instance r) ≡ is_write_only r
write_only-plain r = λ i. any-plain writes writes-plain r i && not (any-plain (λ f. reads f || has_on_read f) (λ f j. reads-plain f j || on_read-plain f j) r i)

footprint-plain : (p : Placed) → footprint (plain_placed p) ≡ footprint p
footprint-plain p = λ i. record { address = p.address; size = p.size; regwidth = number_at-plain p.node prop.Regwidth i; accesswidth = number_at-plain p.node prop.Accesswidth i; side = cond (read_only-plain p.node i) reads_alone (cond (write_only-plain p.node i) writes_alone other) }

overlaps-plain : (ps : List Placed) → overlaps (map plain_placed ps) ≡ overlaps ps
overlaps-plain ps = ap overlaps_of (map_id (λ (p : Placed). (p.node.use_.name.place, footprint p)) plain_placed (λ p i. (p.node.use_.name.place, footprint-plain p i)) ps)

many-plain : (ns : List Instance) (ps : List Placed) → too_many (map plain_instance ns) (map plain_placed ps) ≡ too_many ns ps
many-plain ns ps =
    ap (λ k. flat_map (λ (n : Instance). when (nat_lt most_registers k) (at_ rules.A6 n.use_.name.place)) (map plain_instance ns)) (length-map ps plain_placed)
    ∙ flat_id (λ (n : Instance). when (nat_lt most_registers (length ps)) (at_ rules.A6 n.use_.name.place)) plain_instance (λ n. refl) ns

only_reads-plain : (m : Meaning) → only_reads (plain_meaning m) ≡ only_reads m
only_reads-plain = tested only_reads (λ n s. refl) (λ p n s q. refl)

only_writes-plain : (m : Meaning) → only_writes (plain_meaning m) ≡ only_writes m
only_writes-plain = tested only_writes (λ n s. refl) (λ p n s q. refl)

share-plain : (a b : Meaning) → may_share_bits (plain_meaning a) (plain_meaning b) ≡ may_share_bits a b
share-plain a b = λ i. (only_reads-plain a i && only_writes-plain b i) || (only_writes-plain a i && only_reads-plain b i)

clashes-plain : (b c : Bits) → clashes (plain_bits b) (plain_bits c) ≡ clashes b c
clashes-plain b c =
    ap (λ t. nat_le b.low c.high && nat_le c.low b.high && not t) ((λ i. may_share_bits (setting-plain b.node prop.Sw i) (setting-plain c.node prop.Sw i)) ∙ share-plain (setting b.node prop.Sw) (setting c.node prop.Sw))

of_bits-plain : (r : Instance) (x : List Bits × Bits) → of_bits (plain_instance r) (both plain_bits x) ≡ of_bits r x
of_bits-plain r x = λ i.
    when (nat_le (number_at-plain r prop.Regwidth i) x.1.high) (at_ rules.B1 x.1.node.use_.name.place)
    ++ when (any_same (clashes (plain_bits x.1)) (clashes x.1) plain_bits (clashes-plain x.1) x.0 i) (at_ rules.B2 x.1.node.use_.name.place)

register_bits-plain : (r : Instance) → flat_map (of_bits (plain_instance r)) (standing (bits_of (plain_instance r))) ≡ flat_map (of_bits r) (standing (bits_of r))
register_bits-plain r =
    ap (λ bs. flat_map (of_bits (plain_instance r)) (standing bs)) (bits-plain r) ∙ ap (flat_map (of_bits (plain_instance r))) (standing_under plain_bits (bits_of r))
    ∙ flat_same (of_bits (plain_instance r)) (of_bits r) (both plain_bits) (of_bits-plain r) (standing (bits_of r))

pub failures_ab-plain : (w : Option (List ℕ)) (s : Source) → failures_ab w (plain_source s) ≡ failures_ab w s
unfolding failures_ab
failures_ab-plain w s =
    let f : Instance → List Fault = λ r. flat_map (of_bits r) (standing (bits_of r)) in
    λ i.
    (ap (flat_map small_stride) (all-plain w s) ∙ flat_id small_stride plain_mode small-plain (all_groups w s)) i
    ++ (ap (flat_map no_alignment) (nodes-plain w s) ∙ flat_id no_alignment plain_instance alignment-plain (nodes w s)) i
    ++ (ap (flat_map misaligned) (registers-plain w s) ∙ flat_id misaligned plain_placed misaligned-plain (registers w s)) i
    ++ (ap (flat_map too_large) (registers-plain w s) ∙ flat_id too_large plain_placed (λ p. refl) (registers w s)) i
    ++ (ap overlaps (registers-plain w s) ∙ overlaps-plain (registers w s)) i
    ++ ((λ j. too_many (top-plain w s j) (registers-plain w s j)) ∙ many-plain (top_of w s) (registers w s)) i
    ++ (ap (λ ns. flat_map f (filter (is_a kind.Reg) ns)) (nodes-plain w s) ∙ ap (flat_map f) (filter_under (is_a kind.Reg) (is_a kind.Reg) plain_instance (λ n. refl) (nodes w s)) ∙ flat_id f plain_instance register_bits-plain (filter (is_a kind.Reg) (nodes w s))) i
