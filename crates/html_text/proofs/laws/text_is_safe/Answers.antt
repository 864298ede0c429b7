use Rattle.html_text.proofs.Safe.{text_is_safe}
use Rattle.html_text.proofs.laws.text_is_safe.Goals as goal

pub returns : goal.returns
returns c = text_is_safe
