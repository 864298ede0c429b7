use Rattle.rdl_encodings.proofs.Knowing.{known_more}
use Rattle.rdl_encodings.proofs.known.Known.put.Goals as goal

pub returns : goal.returns
returns c = known_more c.args.self.now (record { numbers = c.insert.new.self }) c.args.body c.args.within c.args.number c.in_ok-insert.ensures.updates.0
