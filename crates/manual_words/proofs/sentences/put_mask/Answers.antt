use Rattle.std.proofs.Common.{ap, sym}
use Rattle.html_text.proofs.Wrote.{of_bytes}
use Rattle.manual_words.specs.Sentences as spec
use Rattle.manual_words.proofs.sentences.put_mask.Goals as goal

pub returns-in-Off : goal.returns-in-Off
returns-in-Off g c = of_bytes (ap (λ x. spec.mask_text c.args.sight.now x) (sym c.in-Off.is)) c.put.ensures

pub returns-in-Enable : goal.returns-in-Enable
returns-in-Enable g c = of_bytes (ap (λ x. spec.mask_text c.args.sight.now x) (sym c.in-Enable.is)) c.put_with_item.ensures

pub returns-in-Mask : goal.returns-in-Mask
returns-in-Mask g c = of_bytes (ap (λ x. spec.mask_text c.args.sight.now x) (sym c.in-Mask.is)) c.put_with_item-in-Mask.ensures
