-- What is known of a tree before it is known whether a rule fails.
use Rattle.std.specs.Prelude.{◌≡◌, ◌↔◌, ℕ, Some, Contains, length}
use Rattle.rdl_base.specs.declared.fault.Fault.{Fault}
use Rattle.rdl_tree.specs.declared.node.Elab.{Elab}
use Rattle.rdl_values.specs.Elaborated.{nodes_of, top_name}
use Rattle.rdl_addr.specs.Answers.{AreBitsAt, HasAddressAt, IsAddressAt, IsFieldAt, IsPlaced, IsSizeAt}
use Rattle.rdl_addr.specs.Rules.{failures_ab}
use Rattle.rdl_addr.specs.Areas.{bits_at, area_at}
use Rattle.rdl_place.specs.declared.tables.Laid.{Laid}

-- All that fails, and where nothing does, the places and the bits.
pub record IsKnown (e : Elab) (x : Laid) : Type 0 where
  pub failures : (f : Fault) → Contains x.faults.items f ↔ Contains (failures_ab (Some (top_name e)) e.source.now) f
  pub all_placed : length x.areas.items ≡ length (nodes_of e)
  pub addresses : IsPlaced e → (k : ℕ) → HasAddressAt e k → IsAddressAt e k (area_at x.areas.items k).address
  pub sizes : IsPlaced e → (k : ℕ) → HasAddressAt e k → IsSizeAt e k (area_at x.areas.items k).size
  pub all_fields : length x.bits.items ≡ length (nodes_of e)
  pub fields : IsPlaced e → (k : ℕ) → IsFieldAt e k → AreBitsAt e k (bits_at x.bits.items k)
