use Rattle.rdl_sound_laws.proofs.Texts.{differ, spelled}
use Rattle.rdl_sound_laws.proofs.path_texts.path_texts_differ.Goals as goal

pub returns-clause-differ : goal.returns-clause-differ
returns-clause-differ c = differ

pub returns-clause-spelled : goal.returns-clause-spelled
returns-clause-spelled c = spelled
