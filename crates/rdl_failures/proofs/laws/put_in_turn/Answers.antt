use Rattle.rdl_failures.proofs.Sets.{with_all-append}
use Rattle.rdl_failures.proofs.laws.put_in_turn.Goals as goal

pub returns : goal.returns
returns c = with_all-append
