use Rattle.std.proofs.Common.{◌≡◌, ℕ, drop, unwrap_or}
use Rattle.rdl_values.specs.Values.{Around}
use Rattle.rdl_failures.specs.Shown.{IsShown}
use Rattle.rdl_layers.specs.Phase4.{first_or}
use Rattle.rdl_addr.specs.TextReadings.{numbers_in}
use Rattle.rdl_bits.proofs.settings.first_number.Given as goal

abbrev pub invariant-loop-at : goal.invariant-loop-at
invariant-loop-at l = (around : Around) → IsShown l.visible around → (d : ℕ) → first_or (numbers_in around (drop l.at l.exprs)) d ≡ unwrap_or l.first d
