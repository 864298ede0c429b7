use Rattle.rdl_sound_laws.proofs.Standing.{all-listed, all-wide}
use Rattle.rdl_sound_laws.proofs.listing.items_are_listed.Goals as goal

pub returns-clause-listed : goal.returns-clause-listed
returns-clause-listed c = all-listed

pub returns-clause-wide : goal.returns-clause-wide
returns-clause-wide c = all-wide
