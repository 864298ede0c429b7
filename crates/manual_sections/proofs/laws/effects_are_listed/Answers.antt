use Rattle.manual_sections.proofs.Listed.{all-listed}
use Rattle.manual_sections.proofs.laws.effects_are_listed.Goals as goal

pub returns : goal.returns
returns c = all-listed
