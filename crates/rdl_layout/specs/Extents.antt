-- Extents of positions, and which of them clash.
use Rattle.std.specs.Prelude.{ℕ, ◌+◌, Bool, true, false, not, ◌&&◌, cond, List, [], ◌∷◌, nat_lt, nat_le, ◌==◌, Option, None, Some}
use Rattle.std.specs.List.{list_any}
use Rattle.rdl_layout.specs.declared.extent.Side.{Side}
use Rattle.rdl_layout.specs.declared.extent.Side.TheVariants.{Reads, Writes, Other}
use Rattle.rdl_layout.specs.declared.extent.Form.{Form}
use Rattle.rdl_layout.specs.declared.extent.Tenant.{Tenant}
use Rattle.rdl_layout.specs.declared.extent.Extent.{Extent}

-- software only reads the one, and only writes the other
abbrev pub is_opposite : Side → Side → Bool
is_opposite Reads Writes = true
is_opposite Writes Reads = true
is_opposite _ _ = false

abbrev pub is_same_side : Side → Side → Bool
is_same_side Reads Reads = true
is_same_side Writes Writes = true
is_same_side Other Other = true
is_same_side _ _ = false

abbrev pub has_form : Form → Form → Bool
has_form f g = f.address == g.address && f.regwidth == g.regwidth && f.accesswidth == g.accesswidth

-- they may share positions
abbrev pub may_share : Tenant → Tenant → Bool
may_share t u = has_form t.form u.form && is_opposite t.side u.side

-- both may share positions with the same tenants
abbrev pub is_alike : Tenant → Tenant → Bool
is_alike t u = has_form t.form u.form && is_same_side t.side u.side

-- some position is in both
abbrev pub touch : Extent → Extent → Bool
touch e f = nat_lt e.first (f.first + f.length) && nat_lt f.first (e.first + e.length)

-- and they may not share it
abbrev pub clash : Extent → Extent → Bool
clash e f = touch e f && not (may_share e.tenant f.tenant)

-- an extent clashes with one of these
abbrev pub clashes_with_any : List Extent → Extent → Bool
clashes_with_any es e = list_any (clash e) es

-- one position

abbrev pub covers : Extent → ℕ → Bool
covers e p = nat_le e.first p && nat_lt p (e.first + e.length)

-- the tenants of a position, as one: all alike, or one that shares with none
abbrev pub joined : Option Tenant → Tenant → Tenant
joined None u = u
joined (Some t) u = cond (is_alike t u) t (record { form = t.form; side = Other })

-- with one extent more
abbrev pub stepped : ℕ → Option Tenant → Extent → Option Tenant
stepped p t e = cond (covers e p) (Some (joined t e.tenant)) t

-- with all these
abbrev pub tenancy_from : ℕ → Option Tenant → List Extent → Option Tenant
tenancy_from p t [] = t
tenancy_from p t (e ∷ es) = tenancy_from p (stepped p t e) es

abbrev pub tenancy : ℕ → List Extent → Option Tenant
tenancy p es = tenancy_from p None es

-- a tenant may not share with the one that is there
abbrev pub bars : Tenant → Option Tenant → Bool
bars t None = false
bars t (Some u) = not (may_share t u)
