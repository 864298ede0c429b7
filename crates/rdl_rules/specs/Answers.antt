-- What the calls of this crate answer.
use Rattle.std.specs.Prelude.{[], Some, Result, Ok, Err}
use Rattle.rb_model.specs.declared.block.Block.{Block}
use Rattle.rb_model.specs.Sound.{IsSound}
use Rattle.rdl_tree.specs.declared.node.Elab.{Elab}
use Rattle.rdl_values.specs.Elaborated.{top_name, HasWords}
use Rattle.rdl_values.specs.Elaboration.{IsClean}
use Rattle.rdl_values.specs.Verdict.{Fails, IsListOf, IsRefusal}
use Rattle.rdl_layers.specs.Answers.{IsSettled}
use Rattle.rdl_addr.specs.Answers.{IsPlaced}
use Rattle.rdl_refs.specs.Answers.{IsBound}
use Rattle.rdl_failures.specs.declared.error.PhaseError.{PhaseError}
use Rattle.rdl_failures.specs.declared.error.PhaseError.TheVariants as error
use Rattle.rdl_rules.specs.Block.{IsBlockOf}
use Rattle.rdl_rules.specs.Phase6.{fails6}
use Rattle.rdl_rules.specs.Phase7.{fails7}

-- the failures of the rules on meaning, of a tree of instances
abbrev pub meaning_fails : Elab → Fails
meaning_fails e = fails6 (Some (top_name e)) e.source.now

-- the failures of the rule on access widths, of a tree of instances
abbrev pub access_fails : Elab → Fails
access_fails e = fails7 (Some (top_name e)) e.source.now

-- What `check` asks of its tree: no phase before it has a failure, and the names of instances are words.
pub record IsReady (e : Elab) : Type 0 where
  pub clean : IsClean e
  pub words : HasWords (Some (top_name e)) e.source.now
  pub settled : IsSettled e
  pub placed : IsPlaced e
  pub bound : IsBound e

-- What `check` gives where no rule on meaning fails: the block of the source, without wait states, which is sound.
pub record IsBlockFor (e : Elab) (b : Block) : Type 0 where
  pub clean : IsListOf (meaning_fails e) []
  pub block : IsBlockOf (Some (top_name e)) e.source.now 0 b
  pub sound : IsSound b

-- `check`: the block where no rule on meaning fails, else the list of all failures. Want of memory may be answered anywhere.
abbrev pub Answers6 : Elab → Result Block PhaseError → Type 0
Answers6 e (Ok b) = IsBlockFor e b
Answers6 e (Err (error.Faults list)) = IsRefusal (meaning_fails e) list.items
Answers6 e (Err error.NoMemory) = Unit {0}
