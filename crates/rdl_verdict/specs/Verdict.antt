-- The verdict of a source: the failures of the first of six phases that has any.
use Rattle.std.specs.Prelude.{◌≢◌, ◌⊎◌, ℕ, List, [], ◌∷◌, Option}
use Rattle.rdl_base.specs.declared.fault.Fault.{Fault}
use Rattle.rb_base.specs.declared.place.Place.{Place}
use Rattle.rdl_base.specs.declared.rule.Rule.{Rule}
use Rattle.rdl_base.specs.declared.rule.Rule.TheVariants.{S2}
use Rattle.rb_model.specs.declared.block.Block.{Block}
use Rattle.rb_model.specs.Apart.{IsApart}
use Rattle.rb_model.specs.Sound.{IsSound}
use Rattle.rdl_tree.specs.declared.item.Source.{Source}
use Rattle.rdl_values.specs.Elaboration.{instances}
use Rattle.rdl_values.specs.Verdict.{FirstOf, IsListOf, Phase}
use Rattle.rdl_parser.specs.Verdicts.{HasError, Reads}
use Rattle.rdl_parser.specs.declared.error.ParseError.TheVariants as error
use Rattle.rdl_layers.specs.Phase4.{fails4}
use Rattle.rdl_rules.specs.Block.{IsBlockOf}
use Rattle.rdl_rules.specs.Phase5.{fails5}
use Rattle.rdl_rules.specs.Phase6.{fails6}
use Rattle.rdl_rules.specs.Phase7.{fails7}

-- settings: all failures
abbrev pub settings : Option (List ℕ) → Source → Phase
settings wanted s list = IsListOf (fails4 wanted s) list

-- layout and targets: all failures of addresses, bits and references
abbrev pub places : Option (List ℕ) → Source → Phase
places wanted s list = IsListOf (fails5 wanted s) list

-- meaning: all failures
abbrev pub meanings : Option (List ℕ) → Source → Phase
meanings wanted s list = IsListOf (fails6 wanted s) list

-- the phases that judge the tree of a source, where the definition of a name is wanted as the top, or the last one
abbrev pub tree_phases : Option (List ℕ) → Source → List Phase
tree_phases wanted s = instances wanted s ∷ settings wanted s ∷ places wanted s ∷ meanings wanted s ∷ []

-- The verdict of a text: the first failure of its lexemes, or else of its grammar, alone; or else that of the tree that it reads as.
pub data IsVerdict (wanted : Option (List ℕ)) (text : List ℕ) : List Fault → Type 0 where
  lexeme : {fault : Fault} → HasError text (error.Lex fault) → IsVerdict wanted text (fault ∷ [])
  grammar : {place : Place} {rule : Rule} → HasError text (error.Syntax place rule) → IsVerdict wanted text (record { place = place; rule = rule } ∷ [])
  depth : {place : Place} → HasError text (error.TooDeep place) → IsVerdict wanted text (record { place = place; rule = S2 } ∷ [])
  tree : (s : Source) {list : List Fault} → Reads text s.items.now → FirstOf (tree_phases wanted s) list → IsVerdict wanted text list

-- access widths: all failures, of a source behind a bus of 32 data bits alone
abbrev pub accesses : Option (List ℕ) → Source → Phase
accesses wanted s list = IsListOf (fails7 wanted s) list

-- The verdict of a source behind an AXI4-Lite slave port: that of the source, or else, where it breaks no rule, all failures of the
-- access widths.
abbrev pub IsAxiVerdict : Option (List ℕ) → List ℕ → List Fault → Type 0
IsAxiVerdict wanted text list = (IsVerdict wanted text list × (list ≢ []))
    ⊎ ((s : Source) × Reads text s.items.now × FirstOf (tree_phases wanted s) [] × accesses wanted s list)

-- The text reads as this tree, which breaks no rule and describes this block, without wait states.
pub record IsDescribed (wanted : Option (List ℕ)) (text : List ℕ) (s : Source) (b : Block) : Type 0 where
  pub reads : Reads text s.items.now
  pub clean : FirstOf (tree_phases wanted s) []
  pub block : IsBlockOf wanted s 0 b
  pub sound : IsSound b
  pub apart : IsApart b
