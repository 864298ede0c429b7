use Rattle.std.proofs.Common.{◌++◌, map}
use Rattle.rb_model.specs.Front.{register_pins}
use Rattle.rb_model.proofs.Apart.{distinct-from}
use Rattle.axi_model.specs.Ports.{axi_ports}
use Rattle.axi_model.specs.Axi.{axi}
use Rattle.axi_model.proofs.Names.{all_apart}
use Rattle.axi_model.proofs.laws.axi_names_differ.Goals as goal

pub returns : goal.returns
returns c b sound = distinct-from (map (λ p. p.name) (axi_ports b) ++ map (λ p. p.name) (register_pins (axi b))) (all_apart b sound)
