-- Places apart from where the parts of their tree lie in memory.
use Rattle.std.specs.Prelude.{ℕ, map}
use Rattle.rdl_values.specs.Instances.{Instance}
use Rattle.rdl_verdict_laws.specs.PlainInstances.{plain_instance}
use Rattle.rdl_addr.specs.Bits.{Bits}
use Rattle.rdl_addr.specs.Layout.{Group, Placed}

abbrev pub plain_bits : Bits → Bits
plain_bits b = record { node = plain_instance b.node; high = b.high; low = b.low }

abbrev pub plain_group : Group → Group
plain_group g = record { first = plain_instance g.first; others = map plain_instance g.others; size = g.size; access = g.access }

abbrev pub plain_start : Group × ℕ → Group × ℕ
plain_start g = (plain_group g.0, g.1)

abbrev pub plain_offset : Instance × ℕ → Instance × ℕ
plain_offset n = (plain_instance n.0, n.1)

abbrev pub plain_placed : Placed → Placed
plain_placed p = record { node = plain_instance p.node; address = p.address; size = p.size }
