use Rattle.std.proofs.Common.{◌++◌, map}
use Rattle.rb_model.specs.Kept.{kept_pins}
use Rattle.rb_model.specs.Ports.{ports}
use Rattle.rb_model.proofs.Apart.{distinct-from}
use Rattle.rb_model.proofs.PortNames.{all_names_apart}
use Rattle.rb_model.proofs.laws.names_differ.Goals as goal

pub returns : goal.returns
returns c b sound = distinct-from (map (λ p. p.name) (ports b) ++ map (λ p. p.name) (kept_pins b)) (all_names_apart b sound)
