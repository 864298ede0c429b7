use Rattle.rdl_sound_laws.proofs.Found.{field-at, register-at, signal-at}
use Rattle.rdl_sound_laws.proofs.listing.nodes_are_listed.Goals as goal

pub returns-clause-signals_ : goal.returns-clause-signals_
returns-clause-signals_ c = signal-at

pub returns-clause-registers_ : goal.returns-clause-registers_
returns-clause-registers_ c = register-at

pub returns-clause-fields_ : goal.returns-clause-fields_
returns-clause-fields_ c = field-at
