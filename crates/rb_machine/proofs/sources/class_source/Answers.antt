use Rattle.std.proofs.Common.{◌∙◌, ap, false, refl}
use Rattle.std.specs.Option.{option_map_or}
use Rattle.rb_model.specs.Kept.{is_storage}
use Rattle.rb_machine.proofs.sources.class_source.Goals as goal

pub returns-in-Storage : goal.returns-in-Storage
returns-in-Storage c b planned here = record {
  is = refl;
  stores = ap (λ o. option_map_or (λ f. is_storage f.class) o false) here ∙ ap is_storage c.in-Storage.is;
}

pub returns-in-Wire : goal.returns-in-Wire
returns-in-Wire c b planned here = c.wire_source.ensures b planned here c.in-Wire.is
