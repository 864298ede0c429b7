-- What `settle` answers.
use Rattle.std.specs.Prelude.{◌≡◌, Result, Ok, Err}
use Rattle.rdl_tree.specs.declared.node.Elab.{Elab}
use Rattle.rdl_values.specs.Elaborated.{nodes_of}
use Rattle.rdl_layers.specs.Answers.{Answers4, IsSettled}
use Rattle.rdl_failures.specs.declared.error.PhaseError.{PhaseError}
use Rattle.rdl_rules.specs.Facts.{AreFacts}
use Rattle.rdl_rules.specs.Numbers.{all_fields}
use Rattle.rdl_rules.specs.declared.settled.Settled.{Settled}
use Rattle.rdl_encodings.specs.Encoded.{encodings_of}

-- No rule on settings fails; the settings are seen as the tree that they are of, the facts are those of its fields and signals, and the
-- enumerations those that the fields of its block are encoded by.
pub record IsSettledAs (e : Elab) (s : Settled) : Type 0 where
  pub settled : IsSettled e
  pub of_tree : s.props ≡ e
  pub facts : AreFacts e s.facts.items
  pub encodings : s.encodings ≡ encodings_of (all_fields (nodes_of e))

-- `settle`: the settings and facts of the tree where no rule on settings fails, else the list of all failures. Want of memory may be
-- answered anywhere.
abbrev pub Settles : Elab → Result Settled PhaseError → Type 0
Settles e (Ok s) = IsSettledAs e s
Settles e (Err error) = Answers4 e (Err error)
