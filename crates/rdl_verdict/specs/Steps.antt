-- What the steps of `judge` answer.
use Rattle.std.specs.Prelude.{◌≡◌, ◌≢◌, ℕ, List, [], ◌∷◌, Option, Some}
use Rattle.rdl_base.specs.declared.fault.Fault.{Fault}
use Rattle.rdl_tree.specs.declared.node.Elab.{Elab}
use Rattle.rdl_parser.specs.Verdicts.{Reads}
use Rattle.rdl_values.specs.Elaborated.{HasWords, top_name}
use Rattle.rdl_values.specs.Elaboration.{Elaborates, IsClean}
use Rattle.rdl_values.specs.Top.{top_use_of}
use Rattle.rdl_values.specs.Verdict.{Fails, FirstOf, IsListOf, IsRefusal}
use Rattle.rb_model.specs.declared.block.Block.{Block}
use Rattle.rdl_layers.specs.Answers.{IsSettled}
use Rattle.rdl_addr.specs.Answers.{IsPlaced}
use Rattle.rdl_refs.specs.Answers.{IsBound}
use Rattle.rb_model.specs.Apart.{IsApart}
use Rattle.rdl_check.specs.Trees.{HaveOneForm}
use Rattle.rdl_rules.specs.Answers.{IsBlockFor, meaning_fails}
use Rattle.rdl_rules.specs.Phase5.{fails5}
use Rattle.rdl_verdict.specs.Verdict.{meanings, places, settings}
use Rattle.rdl_verdict.specs.declared.error.JudgeError.{JudgeError}
use Rattle.rdl_verdict.specs.declared.error.JudgeError.TheVariants as error

-- the error has this one failure
abbrev pub HasOne : Fault → JudgeError → Type 0
HasOne fault (error.Faults list) = list.items ≡ fault ∷ []
HasOne fault error.NoMemory = Unit {0}

-- the error has all failures of a phase, of which there are some
abbrev pub HasAll : Fails → JudgeError → Type 0
HasAll P (error.Faults list) = IsRefusal P list.items
HasAll P error.NoMemory = Unit {0}

-- the failures of layout and targets, of a tree of instances
abbrev pub stands_fail : Elab → Fails
stands_fail e = fails5 (Some (top_name e)) e.source.now

-- The tree of a text whose instances break no rule.
pub record IsGrown (wanted : Option (List ℕ)) (text : List ℕ) (e : Elab) : Type 0 where
  pub reads : Reads text e.source.now.items.now
  pub tree : Elaborates wanted e.source.now e
  pub top : top_use_of wanted e.source.now ≡ top_use_of (Some (top_name e)) e.source.now
  pub clean : IsClean e
  pub words : HasWords (Some (top_name e)) e.source.now
  pub forms : HaveOneForm e

-- No later phase has a failure, and the block is the tree's.
pub record IsClear (e : Elab) (b : Block) : Type 0 where
  pub settled : IsSettled e
  pub placed : IsPlaced e
  pub bound : IsBound e
  pub block : IsBlockFor e b
  pub apart : IsApart b

-- No later phase has a failure.
pub record IsFaultless (e : Elab) : Type 0 where
  pub settled : IsSettled e
  pub placed : IsPlaced e
  pub bound : IsBound e
  pub none : IsListOf (meaning_fails e) []

-- the error is that of the first phase behind the instances that has a failure
pub record IsLate (e : Elab) (list : List Fault) : Type 0 where
  pub first : FirstOf (settings (Some (top_name e)) e.source.now ∷ places (Some (top_name e)) e.source.now ∷ meanings (Some (top_name e)) e.source.now ∷ []) list
  pub some : list ≢ []

abbrev pub FailsLate : Elab → JudgeError → Type 0
FailsLate e (error.Faults list) = IsLate e list.items
FailsLate e error.NoMemory = Unit {0}
