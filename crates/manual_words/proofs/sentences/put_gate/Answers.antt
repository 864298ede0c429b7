use Rattle.std.proofs.Common.{ap, sym}
use Rattle.html_text.proofs.Wrote.{of_bytes}
use Rattle.manual_words.specs.Sentences as spec
use Rattle.manual_words.proofs.sentences.put_gate.Goals as goal

pub returns-in-Always : goal.returns-in-Always
returns-in-Always g c = of_bytes (ap (λ x. spec.gate_text c.args.sight.now x c.args.high.now c.args.low.now c.args.path.now) (sym c.in-Always.is)) c.put.ensures

pub returns-in-High : goal.returns-in-High
returns-in-High g c = of_bytes (ap (λ x. spec.gate_text c.args.sight.now x c.args.high.now c.args.low.now c.args.path.now) (sym c.in-High.is)) c.put_while.ensures

pub returns-in-Low : goal.returns-in-Low
returns-in-Low g c = of_bytes (ap (λ x. spec.gate_text c.args.sight.now x c.args.high.now c.args.low.now c.args.path.now) (sym c.in-Low.is)) c.put_while-in-Low.ensures
