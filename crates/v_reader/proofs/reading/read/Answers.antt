use Rattle.v_reader.proofs.Results.{within, few, accepts, refuses}
use Rattle.v_reader.proofs.reading.read.Goals as goal

pub returns-clause-within : goal.returns-clause-within
returns-clause-within c = within c.args.bytes.now c.judged-result.result c.judged-result.ensures.err

pub returns-clause-few : goal.returns-clause-few
returns-clause-few c = few c.args.bytes.now c.judged-result.result c.judged-result.ensures.ok

pub returns-clause-accepts : goal.returns-clause-accepts
returns-clause-accepts c = accepts c.args.bytes.now c.judged-result.result c.judged-result.ensures.err

pub returns-clause-refuses : goal.returns-clause-refuses
returns-clause-refuses c = refuses c.args.bytes.now c.judged-result.result c.judged-result.ensures.ok c.judged-result.ensures.err
