use Rattle.std.proofs.Common.{◌≤◌, length}
use Rattle.std.proofs.lemmas.Result.{IfErr-weaker}
use Rattle.vcd_reader.specs.Reading.{place_number}
use Rattle.vcd_reader.proofs.Within.{inside_of}
use Rattle.vcd_reader.proofs.reading.read.Goals as goal

pub returns-clause-inside : goal.returns-clause-inside
returns-clause-inside c = IfErr-weaker c.judged-result.result _ (λ e. place_number e ≤ length c.args.bytes.now) (inside_of c.args.bytes.now) c.judged-result.ensures.problem
