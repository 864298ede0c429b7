use Rattle.rb_model.proofs.InputPins.{pin_by_place}
use Rattle.rb_model.proofs.laws.pins_are_by_place.Goals as goal

pub returns : goal.returns
returns c = pin_by_place
