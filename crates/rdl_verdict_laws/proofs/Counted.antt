-- The lists of a block and the numbers in them, apart from addresses.
use Rattle.std.proofs.Common.{◌≡◌, ℕ, ◌+◌, not, cond, refl, ap, ◌∙◌, List, [], ◌∷◌, map, flat_map, filter, length}
use Rattle.std.proofs.lemmas.List.{length-map}
use Rattle.rdl_tree.specs.declared.item.Kind.TheVariants as kind
use Rattle.rdl_values.specs.Instances.{Instance}
use Rattle.rdl_verdict_laws.specs.PlainInstances.{plain_instance}
use Rattle.rdl_verdict_laws.proofs.Lists.{flat_under, filter_under}
use Rattle.rdl_layers.specs.Assignments.{same_path}
use Rattle.rdl_layers.specs.Fields.{is_a, is_alias, fields_of}
use Rattle.rdl_verdict_laws.proofs.Fields.{alias-plain, fields-plain}
use Rattle.rdl_rules.specs.Numbers.{number_of, all_signals, registers, primaries, all_fields, numbered_from, numbered}
use Rattle.rdl_verdict_laws.specs.PlainRegisters.{plain_numbered}

pub number-plain : (n : Instance) (ns : List Instance) → number_of (plain_instance n) (map plain_instance ns) ≡ number_of n ns
number-plain n [] = refl
number-plain n (m ∷ ns) = ap (λ k. cond (not (same_path m.path n.path)) (1 + k) 0) (number-plain n ns)

pub signals-plain : (all : List Instance) → all_signals (map plain_instance all) ≡ map plain_instance (all_signals all)
signals-plain all = filter_under (is_a kind.Signal) (is_a kind.Signal) plain_instance (λ n. refl) all

pub registers-plain : (all : List Instance) → registers (map plain_instance all) ≡ map plain_instance (registers all)
registers-plain all = filter_under (is_a kind.Reg) (is_a kind.Reg) plain_instance (λ n. refl) all

primaries-plain : (all : List Instance) → primaries (map plain_instance all) ≡ map plain_instance (primaries all)
primaries-plain all =
    ap (filter (λ (r : Instance). not (is_alias r))) (registers-plain all)
    ∙ filter_under (λ (r : Instance). not (is_alias r)) (λ (r : Instance). not (is_alias r)) plain_instance (λ r. ap not (alias-plain r)) (registers all)

pub all_fields-plain : (all : List Instance) → all_fields (map plain_instance all) ≡ map plain_instance (all_fields all)
all_fields-plain all = ap (flat_map fields_of) (primaries-plain all) ∙ flat_under fields_of fields_of plain_instance plain_instance fields-plain (primaries all)

module _ {A : Type 0} (g : A → A) (node : A → Instance) (same : (a : A) → node (g a) ≡ plain_instance (node a)) where
  from-plain : (number view : ℕ) (rs : List A) → numbered_from node number view (map g rs) ≡ map (plain_numbered g) (numbered_from node number view rs)
  from-plain number view [] = refl
  from-plain number view (r ∷ rs) =
      let size : length (fields_of (node (g r))) ≡ length (fields_of (node r)) = ap (λ n. length (fields_of n)) (same r) ∙ ap length (fields-plain (node r)) ∙ length-map (fields_of (node r)) plain_instance in
      (λ i. record { register = g r; number = number; first_view = view } ∷ numbered_from node (number + 1) (view + size i) (map g rs))
      ∙ ap (λ xs. record { register = g r; number = number; first_view = view } ∷ xs) (from-plain (number + 1) (view + length (fields_of (node r))) rs)

  pub numbered-plain : (rs : List A) → numbered node (map g rs) ≡ map (plain_numbered g) (numbered node rs)
  numbered-plain rs = from-plain 0 0 rs
