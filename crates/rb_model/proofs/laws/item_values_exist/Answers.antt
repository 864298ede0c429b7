use Rattle.rb_model.proofs.ItemValues.{item_value, are_values}
use Rattle.rb_model.proofs.laws.item_values_exist.Goals as goal

pub returns : goal.returns
returns c b n sound = (item_value b n, are_values b n sound)
