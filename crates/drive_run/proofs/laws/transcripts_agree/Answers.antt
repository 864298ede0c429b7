use Rattle.drive_run.proofs.Agreeing.{agree}
use Rattle.drive_run.proofs.laws.transcripts_agree.Goals as goal

pub returns : goal.returns
returns c = agree
