use Rattle.drive_run.proofs.Agreeing.{one}
use Rattle.drive_run.proofs.laws.one_transcript.Goals as goal

pub returns : goal.returns
returns c = one
