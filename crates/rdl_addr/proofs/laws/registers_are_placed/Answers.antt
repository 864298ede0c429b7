use Rattle.rdl_addr.proofs.Registering.{all-misaligned, all-too-large, as-many, overlapping}
use Rattle.rdl_addr.proofs.laws.registers_are_placed.Goals as goal

pub returns-clause-overlaps : goal.returns-clause-overlaps
returns-clause-overlaps c = overlapping

pub returns-clause-misaligned : goal.returns-clause-misaligned
returns-clause-misaligned c = all-misaligned

pub returns-clause-too_large : goal.returns-clause-too_large
returns-clause-too_large c = all-too-large

pub returns-clause-many : goal.returns-clause-many
returns-clause-many c = as-many
