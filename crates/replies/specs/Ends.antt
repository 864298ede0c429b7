-- What a run does to its sinks.
use Rattle.std.specs.Prelude.{ℕ, ◌⊎◌, List, []}
use Rattle.rb_edge.specs.Count.{Rose}
use Rattle.rb_edge.specs.Sink.{Told, Takes, TakesPart}
use Rattle.replies.specs.declared.status.Status.{Status}
use Rattle.replies.specs.declared.status.Status.TheVariants.{WriteFault, NoMemory}
use Rattle.replies.specs.Outcome.{Texts}

-- a sink over a call: what it told and how often it had failed, before and after
pub record Passage : Type 0 where
  pub old : Told
  pub new : Told
  pub before : ℕ
  pub after : ℕ

abbrev pub passage : {K : Type 0} → (K → Told) → (K → ℕ) → K → K → Passage
passage told faults old new = record { old = told old; new = told new; before = faults old; after = faults new }

-- the sink took the whole text and no more
abbrev pub TookAll : Passage → List ℕ → Type 0
TookAll sink text = Takes sink.old sink.new text

-- the sink failed and took only the first bytes of the text
abbrev pub FailedWithin : Passage → List ℕ → Type 0
FailedWithin sink text = TakesPart sink.old sink.new text × Rose sink.before sink.after

-- the text for err is written first: it is cut short, or it is whole and the one for out is cut short
abbrev pub IsCutShort : Passage → Passage → Texts → Type 0
IsCutShort err out texts = (FailedWithin err texts.err × TookAll out []) ⊎ (TookAll err texts.err × FailedWithin out texts.out)

-- What a run does with the sinks for each status, where an outcome is a fact of a status and its texts.
abbrev pub Ends : (Status → Texts → Type 0) → Passage → Passage → Status → Type 0
Ends outcome err out NoMemory = TookAll err [] × TookAll out []
Ends outcome err out WriteFault = (status : Status) × (texts : Texts) × outcome status texts × IsCutShort err out texts
Ends outcome err out status = (texts : Texts) × outcome status texts × TookAll err texts.err × TookAll out texts.out
