use Rattle.drive_lang.proofs.OneByOne.{first, meant}
use Rattle.drive_lang.proofs.laws.scripts_are.Goals as goal

pub returns-clause-meant : goal.returns-clause-meant
returns-clause-meant c = meant

pub returns-clause-first : goal.returns-clause-first
returns-clause-first c = first
