-- The tenants of all positions, in a map.
use Rattle.std.specs.Prelude.{ℕ, Option}
use Rattle.std.specs.BTreeMap.{get}
use Rattle.std.specs.Ordering.{nat_cmp}
use Rattle.rdl_layout.specs.declared.extent.Tenant.{Tenant}
use Rattle.rdl_layout.specs.declared.ground.Ground.{Ground}

-- who has the position
abbrev pub tenant_at : Ground → ℕ → Option Tenant
tenant_at g p = get nat_cmp g.tenants p
