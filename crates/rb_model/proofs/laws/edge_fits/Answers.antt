use Rattle.rb_model.specs.Run.{now, pins_of}
use Rattle.rb_model.proofs.ValueWidths.{pins_fit, values_fit}
use Rattle.rb_model.proofs.EdgeWidths.{now_fits, after_fits, outs_fit}
use Rattle.rb_model.proofs.laws.edge_fits.Goals as goal

pub returns-clause-items : goal.returns-clause-items
returns-clause-items c b sound m fits x pins = values_fit b sound (now b (pins_of b x) m) (now_fits b sound (pins_of b x) m fits) (pins_fit b sound x pins)

pub returns-clause-outputs : goal.returns-clause-outputs
returns-clause-outputs c = outs_fit

pub returns-clause-kept : goal.returns-clause-kept
returns-clause-kept c = after_fits
