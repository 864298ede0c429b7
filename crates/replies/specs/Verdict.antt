-- Which rules a source breaks, and where.
use Rattle.std.specs.Prelude.{ℕ, List, [], ◌∷◌, Option}
use Rattle.rdl_base.specs.declared.fault.Fault.{Fault}
use Rattle.rb_base.specs.declared.place.Place.{Place}
use Rattle.rdl_base.specs.declared.rule.Rule.{Rule}
use Rattle.rb_model.specs.declared.block.Block.{Block}
use Rattle.rb_model.specs.Apart.{IsApart}
use Rattle.rb_model.specs.Sound.{IsSound}
use Rattle.rdl_tree.specs.declared.item.Source.{Source}
use Rattle.rdl_values.specs.Verdict.{FirstOf}
use Rattle.rdl_parser.specs.Verdicts.{Reads}
use Rattle.rdl_rules.specs.Block.{IsBlockOf}
use Rattle.rdl_verdict.specs.Verdict.{tree_phases}
pub use Rattle.rdl_verdict.specs.Verdict.{IsVerdict, tree}

-- The first failure of a verdict.
pub record IsFirst (IsVerdictOf : List Fault → Type 0) (place : Place) (rule : Rule) : Type 0 where
  pub others : List Fault
  pub verdict : IsVerdictOf (record { place = place; rule = rule } ∷ others)

-- The first failure of a source, where the definition of a name is wanted as its top.
abbrev pub FailsFirst : Option (List ℕ) → List ℕ → Place → Rule → Type 0
FailsFirst top source place rule = IsFirst (IsVerdict top source) place rule

-- the source breaks no rule: its verdict is empty
abbrev pub BreaksNone : Option (List ℕ) → List ℕ → Type 0
BreaksNone top source = IsVerdict top source []

-- The text reads as this tree, which breaks no rule and describes this sound block, with so many wait states.
pub record IsDescribedWith (top : Option (List ℕ)) (source : List ℕ) (s : Source) (waits : ℕ) (b : Block) : Type 0 where
  pub reads : Reads source s.items.now
  pub clean : FirstOf (tree_phases top s) []
  pub block : IsBlockOf top s waits b
  pub sound : IsSound b
  pub apart : IsApart b
