use Rattle.rdl_values.proofs.Primary.{primaries_stand}
use Rattle.rdl_values.proofs.laws.primaries_stand.Goals as goal

pub returns : goal.returns
returns c = primaries_stand
