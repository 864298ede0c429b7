use Rattle.rdl_block_laws.proofs.Gates.{all-bits, all-fed}
use Rattle.rdl_block_laws.proofs.sound_references.gates_are_sound.Goals as goal

pub returns-clause-fed : goal.returns-clause-fed
returns-clause-fed c = λ e waits b bound block. all-fed e waits b block bound

pub returns-clause-bit : goal.returns-clause-bit
returns-clause-bit c = λ e waits b none block. all-bits e waits b block none
