use Rattle.rdl_block_laws.proofs.SoundReferences.{all-refer, all-reset, in-registers}
use Rattle.rdl_block_laws.proofs.sound_references.references_are_sound.Goals as goal

pub returns-clause-refer : goal.returns-clause-refer
returns-clause-refer c = λ e waits b none block. all-refer e waits b none block

pub returns-clause-in_register : goal.returns-clause-in_register
returns-clause-in_register c = in-registers

pub returns-clause-reset_signal : goal.returns-clause-reset_signal
returns-clause-reset_signal c = λ e waits b bound none block. all-reset e waits b none block bound
