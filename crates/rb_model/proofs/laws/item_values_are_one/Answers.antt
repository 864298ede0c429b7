use Rattle.rb_model.proofs.ItemValues.{are_one}
use Rattle.rb_model.proofs.laws.item_values_are_one.Goals as goal

pub returns : goal.returns
returns c = are_one
