use Rattle.rdl_facts.proofs.Meant.{of_names}
use Rattle.rdl_facts.proofs.body.BodyEnums.of.Goals as goal

pub returns : goal.returns
returns c = of_names (record { places = c.in_ok-places.places; greatest = c.in_ok-greatest.greatest }) c.args.enums.now c.in_ok-places.ensures c.in_ok-greatest.ensures
