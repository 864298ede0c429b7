use Rattle.drive_lang.proofs.Keeping.{keeps}
use Rattle.drive_lang.proofs.order_laws.lines_keep_the_protocol.Goals as goal

pub returns : goal.returns
returns c = keeps
