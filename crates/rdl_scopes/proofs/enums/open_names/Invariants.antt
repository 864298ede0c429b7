use Rattle.std.proofs.Common.{◌≡◌, flat_map, take}
use Rattle.rdl_values.specs.Bodies.{Body, around, standing}
use Rattle.rdl_failures.specs.Noted.{with_all}
use Rattle.rdl_failures.specs.Shown.{IsAlike}
use Rattle.rdl_scopes.specs.Closed.{AreClosedOf}
use Rattle.rdl_scopes.specs.Opened.{bodies, state_of}
use Rattle.rdl_scopes.proofs.ByItem.{IsOpenedTo, enum_fails}
use Rattle.rdl_scopes.proofs.enums.open_names.Given as goal

abbrev pub invariant-loop-at : goal.invariant-loop-at
invariant-loop-at l = record {
  opened : IsOpenedTo l.fn.table.bound (take l.at l.items) l.outer (state_of l.opening);
  closed : AreClosedOf l.closed l.items l.failures;
  noted : (b : Body) → b.items ≡ l.items → b.names.bound ≡ l.fn.table.bound → IsAlike (bodies l.outer) (around b.outer) → l.failures ≡ with_all (flat_map (enum_fails b) (standing (take l.at l.items))) l.initial.failures;
}
