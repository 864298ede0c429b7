use Rattle.rdl_sound_laws.proofs.Names.{field_paths, named, reg_paths, signal_paths, signals_sound, view_paths}
use Rattle.rdl_sound_laws.proofs.sound_names.names_are_sound.Goals as goal

pub returns-clause-named : goal.returns-clause-named
returns-clause-named c = named

pub returns-clause-signals_ : goal.returns-clause-signals_
returns-clause-signals_ c = λ e waits b clean words settled is. signals_sound e waits b clean words is settled

pub returns-clause-signal_paths : goal.returns-clause-signal_paths
returns-clause-signal_paths c = signal_paths

pub returns-clause-field_paths : goal.returns-clause-field_paths
returns-clause-field_paths c = field_paths

pub returns-clause-view_paths : goal.returns-clause-view_paths
returns-clause-view_paths c = view_paths

pub returns-clause-reg_paths : goal.returns-clause-reg_paths
returns-clause-reg_paths c = reg_paths
