use Rattle.std.proofs.Common.{◌≡◌, ◌∙◌, ℕ, List}
use Rattle.rdl_documents.proofs.manual.kept.Goals as goal

pub notes_of-requires-clause-clean : goal.notes_of-requires-clause-clean
notes_of-requires-clause-clean c = c.requires.1.1.clean

pub notes_of-requires-clause-props : goal.notes_of-requires-clause-props
notes_of-requires-clause-props c = c.requires.1.1.props

pub returns : goal.returns
returns c = λ wanted text j. record {
  tree = c.args.judged.elab.source.now;
  described = j.described;
  notes = c.in_ok-kept.ensures ∙ c.in_ok-notes.ensures wanted j.tree j.encodings;
  encodings = c.in_ok-encodings.ensures ∙ j.encodings;
}
