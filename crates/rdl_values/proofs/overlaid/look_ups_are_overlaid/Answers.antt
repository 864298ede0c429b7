use Rattle.rdl_values.proofs.Overlays.{named_over}
use Rattle.rdl_values.proofs.overlaid.look_ups_are_overlaid.Goals as goal

pub returns : goal.returns
returns c = named_over
