use Rattle.std.proofs.Common.{ap, sym}
use Rattle.html_text.proofs.Wrote.{of_bytes}
use Rattle.manual_words.specs.Sentences as spec
use Rattle.manual_words.proofs.sentences.put_reset_signal.Goals as goal

pub returns-in-None : goal.returns-in-None
returns-in-None g c = of_bytes (ap (λ x. spec.reset_signal c.args.sight.now x) (sym c.in-None.is)) c.put.ensures

pub returns-in-Some : goal.returns-in-Some
returns-in-Some g c = of_bytes (ap (λ x. spec.reset_signal c.args.sight.now x) (sym c.in-Some.is)) c.put_signal_item.ensures
