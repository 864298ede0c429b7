-- The failures of the bits of registers.
use Rattle.std.proofs.Common.{◌≡◌, ◌∙◌, ◌↔◌, Bool, true, false, cond, List, [], ◌∷◌, ◌++◌, length, map, flat_map, filter, take, Contains, Some, refl, ap, subst}
use Rattle.rdl_base.specs.declared.fault.Fault.{Fault}
use Rattle.rdl_tree.specs.declared.item.Kind.TheVariants as kind
use Rattle.rdl_tree.specs.declared.node.Elab.{Elab}
use Rattle.rdl_values.specs.Bodies.{standing}
use Rattle.rdl_values.specs.Elaborated.{top_name}
use Rattle.rdl_values.specs.Instances.{Instance}
use Rattle.rdl_values.specs.Lineages.{Lineage, lineages_of}
use Rattle.rdl_nodes.proofs.Lineages.{all_nodes}
use Rattle.rdl_layers.specs.Fields.{is_a}
use Rattle.rdl_addr.specs.Bits.{bits_of}
use Rattle.rdl_addr.specs.Rules.{of_bits}
use Rattle.rdl_bits.specs.declared.table.BitTable.{BitTable}
use Rattle.rdl_bits.specs.Tabled.{AreBits, bit_faults}
use Rattle.rdl_bits.specs.Judged.{failures_of_bits}

whole : (xs : List Lineage) → take (length xs) xs ≡ xs
whole [] = refl
whole (x ∷ xs) = ap (λ ys. x ∷ ys) (whole xs)

abbrev of_register : Instance → List Fault
of_register r = flat_map (of_bits r) (standing (bits_of r))

opened : (n : Instance) → bit_faults n ≡ cond (is_a kind.Reg n) (of_register n) []
unfolding bit_faults
opened n = refl

of-all : (ls : List Lineage) → flat_map (λ l. bit_faults l.node) ls ≡ flat_map of_register (filter (is_a kind.Reg) (map (λ l. l.node) ls))
of-all [] = refl
of-all (l ∷ ls) = ap (λ xs. xs ++ flat_map (λ l. bit_faults l.node) ls) (opened l.node) ∙ go (is_a kind.Reg l.node) (of-all ls)
  where
    go : (b : Bool) → flat_map (λ l. bit_faults l.node) ls ≡ flat_map of_register (filter (is_a kind.Reg) (map (λ l. l.node) ls))
        → cond b (of_register l.node) [] ++ flat_map (λ l. bit_faults l.node) ls ≡ flat_map of_register (cond b (l.node ∷ filter (is_a kind.Reg) (map (λ l. l.node) ls)) (filter (is_a kind.Reg) (map (λ l. l.node) ls)))
    go true e = ap (λ xs. of_register l.node ++ xs) e
    go false e = e

same-list : (e : Elab) → flat_map (λ l. bit_faults l.node) (take (length (lineages_of e)) (lineages_of e)) ≡ failures_of_bits e
unfolding failures_of_bits
same-list e =
    ap (flat_map (λ l. bit_faults l.node)) (whole (lineages_of e))
    ∙ (of-all (lineages_of e) ∙ ap (λ ns. flat_map of_register (filter (is_a kind.Reg) ns)) (all_nodes (Some (top_name e)) e.source.now))

pub bits-judged : (e : Elab) (t : BitTable) → AreBits e t → (f : Fault) → Contains t.faults.items f ↔ Contains (failures_of_bits e) f
bits-judged e t h f = subst (λ xs. Contains t.faults.items f ↔ Contains xs f) (same-list e) (h.failures f)
