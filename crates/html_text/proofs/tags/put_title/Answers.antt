use Rattle.std.proofs.Common.{ap, option_copied, sym}
use Rattle.html_text.specs.Tags as spec
use Rattle.html_text.proofs.Wrote.{of_bytes}
use Rattle.html_text.proofs.tags.put_title.Goals as goal

pub returns : goal.returns
returns g c = of_bytes (ap (λ t. spec.title (option_copied t)) (sym c.in-Some.is)) c.put_within.ensures
