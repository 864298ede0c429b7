use Rattle.std.proofs.Common.{refl}
use Rattle.rdl_encodings.proofs.Found.{of_names}
use Rattle.rdl_encodings.proofs.body.BodyEnums.of.Goals as goal

pub returns : goal.returns
returns c = of_names (record { places = c.in_ok-places.places; list = c.args.enums }) c.args.enums.now c.in_ok-places.ensures refl
