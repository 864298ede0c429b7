-- The order of failures.
use Rattle.std.specs.Ordering.{nat_cmp, on, then_cmp}
use Rattle.std.specs.declared.cmp.Ordering.{Ordering}
use Rattle.rdl_base.specs.declared.fault.Fault.{Fault}
use Rattle.rdl_base.specs.Rules.{row}

-- by place, and at one place by rule
abbrev pub fault_cmp : Fault → Fault → Ordering
fault_cmp = then_cmp (on (λ fault. fault.place.0) nat_cmp) (on (λ fault. (row fault.rule).number) nat_cmp)
