use Rattle.rdl_values.proofs.ReadBy.{one_more}
use Rattle.rdl_values.proofs.readers.Readers.put.Goals as goal

pub returns : goal.returns
returns c = one_more c.args.self.now (record { set = c.insert.new.self }) c.args.read c.args.reader c.in_ok-insert.ensures.updates.0
