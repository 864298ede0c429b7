use Rattle.std.proofs.Common.{◌≡◌, ◌∙◌, ℕ, List}
use Rattle.rdl_documents.proofs.heading.kept.Goals as goal

pub returns : goal.returns
returns c = λ wanted text j. record { tree = c.args.judged.elab.source.now; described = j.described; encodings = c.in_ok-encodings.ensures ∙ j.encodings }
