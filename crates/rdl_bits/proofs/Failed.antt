-- The failures of registers, by their numbers, are those of the layout.
use Rattle.std.proofs.Common.{◌≡◌, ◌∙◌, ℕ, ◌++◌, List, [], ◌∷◌, length, flat_map, nat_lt, Some, refl, sym, ap}
use Rattle.rdl_base.specs.declared.fault.Fault.{Fault}
use Rattle.rdl_base.specs.declared.rule.Rule.TheVariants as rule
use Rattle.rdl_tree.specs.declared.node.Elab.{Elab}
use Rattle.rdl_tree.specs.declared.node.Node.{Node, out-Node}
use Rattle.rdl_values.specs.Elaborated.{AreTreesOf, IsTreeOf, more, node, none, top_name}
use Rattle.rdl_values.specs.Elaboration.{IsClean}
use Rattle.rdl_values.specs.Faults.{at_, when}
use Rattle.rdl_values.specs.Instances.{Instance, top_of}
use Rattle.rdl_layout.specs.Registers as registers
use Rattle.rdl_layout.specs.declared.register.Register.{Register}
use Rattle.rdl_addr.specs.Layout.{Placed}
use Rattle.rdl_addr.specs.Rules.{misaligned, overlaps, too_large, too_many}
use Rattle.rdl_addr.proofs.Registering.{all-misaligned, all-too-large, as-many, overlapping}
use Rattle.rdl_bits.specs.Failing.{failures_of_addresses, registers_of}
use Rattle.rdl_bits.specs.Found.{AreRegisters}

no-behind : (xs : List Fault) → xs ++ [] ≡ xs
no-behind [] = refl
no-behind (x ∷ xs) = ap (λ l. x ∷ l) (no-behind xs)

head-place : {beside : List Node} {at after : ℕ} (r : Node) (n : Instance) → IsTreeOf beside at r n after → n.use_.name.place ≡ (out-Node r).place
head-place r n (node e says ts) = sym says.place

-- the top stands where its node says
one-top : {beside : List Node} {at after : ℕ} (r : Node) (ns : List Instance) (ps : List Placed) → AreTreesOf beside at (r ∷ []) ns after → too_many ns ps ≡ when (nat_lt 8192 (length ps)) (at_ rule.A6 (out-Node r).place)
one-top r ns ps (more {n = n} t rest) = of-rest n rest (head-place r n t)
  where
    of-rest : {beside : List Node} {at after : ℕ} (n : Instance) {ms : List Instance} → AreTreesOf beside at [] ms after → n.use_.name.place ≡ (out-Node r).place → too_many (n ∷ ms) ps ≡ when (nat_lt 8192 (length ps)) (at_ rule.A6 (out-Node r).place)
    of-rest n none q = no-behind _ ∙ ap (λ p. when (nat_lt 8192 (length ps)) (at_ rule.A6 p)) q

pub failed : (e tree : Elab) → IsClean e → tree ≡ e → (rs : List Register) → AreRegisters e rs → (fs : List Fault) → (seen : List Register) → seen ≡ rs → fs ≡ registers.faults (out-Node tree.top.now).place seen → fs ≡ failures_of_addresses e
unfolding failures_of_addresses
failed e tree clean same rs are fs seen read is =
    let ps = registers_of e in
    let w = Some (top_name e) in
    is
    ∙ ((λ i. registers.faults (out-Node (same i).top.now).place (read i))
    ∙ ((λ i. overlapping rs ps are.are i ++ all-misaligned rs ps are.are i ++ all-too-large rs ps are.are i ++ when (nat_lt 8192 (as-many rs ps are.are i)) (at_ rule.A6 (out-Node e.top.now).place))
    ∙ ap (λ l. overlaps ps ++ flat_map misaligned ps ++ flat_map too_large ps ++ l) (sym (one-top e.top.now (top_of w e.source.now) ps clean.elaborated.tree.top))))
