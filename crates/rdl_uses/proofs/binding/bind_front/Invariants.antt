use Rattle.std.proofs.Common.{◌≡◌, ◌≤◌, ◌-◌, ℕ}
use Rattle.rdl_values.specs.Bodies.{Closure}
use Rattle.rdl_values.specs.Parameters.{Bound}
use Rattle.rdl_values.specs.Uses.{Use}
use Rattle.rdl_values.specs.Over.{IsOver}
use Rattle.rdl_values.specs.Overlaid.{IsWalked, plain_of}
use Rattle.rdl_uses.specs.Arguments.{AreDue}
use Rattle.rdl_uses.specs.Binding.{IsSite}
use Rattle.rdl_uses.proofs.binding.bind_front.Given as goal

abbrev pub invariant-loop-at : goal.invariant-loop-at
invariant-loop-at l = record {
  clean : l.failures ≡ l.initial.failures;
  within : l.from ≤ l.upto;
  walked : (u : Use) (c : Closure) → c.def.params.now ≡ l.params → IsSite l.arguments l.outside l.inside l.place u c → (k : ℕ) × (t : Bound) × IsOver l.seen (plain_of l.params) k t × IsWalked u c.scope l.params l.from t × AreDue l.params t l.due l.from;
}

abbrev pub decreases-loop-at : goal.decreases-loop-at
decreases-loop-at l = l.upto - l.from
