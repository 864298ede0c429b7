use Rattle.std.proofs.Common.{ap, sym}
use Rattle.html_text.proofs.Wrote.{of_bytes}
use Rattle.manual_words.specs.Sentences as spec
use Rattle.manual_words.proofs.sentences.put_latch.Goals as goal

pub returns-in-Off : goal.returns-in-Off
returns-in-Off g c = of_bytes (ap (λ x. spec.latch_words x) (sym c.in-Off.is)) c.put.ensures

pub returns-in-Bits : goal.returns-in-Bits
returns-in-Bits g c = of_bytes (ap (λ x. spec.latch_words x) (sym c.in-Bits.is)) c.put_event.ensures

pub returns-in-Whole : goal.returns-in-Whole
returns-in-Whole g c = of_bytes (ap (λ x. spec.latch_words x) (sym c.in-Whole.is)) c.put_event-in-Whole.ensures

pub returns-in-Plain : goal.returns-in-Plain
returns-in-Plain g c = of_bytes (ap (λ x. spec.latch_words x) (sym c.in-Plain.is)) c.put-in-Plain.ensures
