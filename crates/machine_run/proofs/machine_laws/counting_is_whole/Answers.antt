use Rattle.std.proofs.Common.{refl}
use Rattle.machine_run.proofs.Wholes.{overflow_where, no_overflow_where, underflow_where, no_underflow_where, counts_to_high, counts_to_low, counts_below, counts_modulo, counts_exactly}
use Rattle.machine_run.proofs.machine_laws.counting_is_whole.Goals as goal

pub returns-clause-overflow : goal.returns-clause-overflow
returns-clause-overflow c = overflow_where

pub returns-clause-no_overflow : goal.returns-clause-no_overflow
returns-clause-no_overflow c = no_overflow_where

pub returns-clause-no_underflow : goal.returns-clause-no_underflow
returns-clause-no_underflow c = no_underflow_where

pub returns-clause-underflow : goal.returns-clause-underflow
returns-clause-underflow c = underflow_where

pub returns-clause-high : goal.returns-clause-high
returns-clause-high c = counts_to_high

pub returns-clause-low : goal.returns-clause-low
returns-clause-low c = counts_to_low

pub returns-clause-below : goal.returns-clause-below
returns-clause-below c = counts_below

pub returns-clause-wraps : goal.returns-clause-wraps
returns-clause-wraps c = counts_modulo

pub returns-clause-exact : goal.returns-clause-exact
returns-clause-exact c = counts_exactly

pub returns-clause-table : goal.returns-clause-table
returns-clause-table c = (
  record { value = refl; over = refl; under = refl },
  record { value = refl; over = refl; under = refl },
  record { value = refl; over = refl; under = refl },
  record { value = refl; over = refl; under = refl },
  record { value = refl; over = refl; under = refl },
  record { value = refl; over = refl; under = refl },
)
