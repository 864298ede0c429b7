use Rattle.std.proofs.Common.{refl}
use Rattle.vcd_reader.proofs.Taking.{code_goes}
use Rattle.vcd_reader.proofs.said.Said.code.Goals as goal

pub returns-clause-on : goal.returns-clause-on
returns-clause-on c = λ k h.
    code_goes c.args.self.now.variables c.add_code.new.self c.args.self.now.rows c.args.word.text.now c.in_ok-again.again k h.variables h.rows h.given (h.early refl) c.in_ok-again.ensures c.if-again.false
