use Rattle.rb_model.proofs.Runs.{order_free}
use Rattle.rb_model.proofs.laws.order_is_free.Goals as goal

pub returns : goal.returns
returns c = order_free
