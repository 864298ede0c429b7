-- What the answers to `compile`, `axi`, `map`, `header`, `manual` and `check` promise.
use Rattle.std.specs.Prelude.{ℕ, IsTrue, List, [], ◌∷◌, map, Option, ⊤}
use Rattle.rb_base.specs.declared.place.Place.{Place}
use Rattle.rdl_base.specs.declared.rule.Rule.{Rule}
use Rattle.c_header.specs.Enumerators.{all_macros}
use Rattle.c_header.specs.Header.{header}
use Rattle.html_manual.specs.Page.{page}
use Rattle.rdl_encodings.specs.Encoded.{source_encodings}
use Rattle.rdl_notes.specs.Notes.{notes_of}
use Rattle.rb_edge.specs.Shelf.{Files, Holds}
use Rattle.rb_model.specs.declared.block.Block.{Block}
use Rattle.rb_model.specs.Agreement.{Agrees}
use Rattle.rb_model.specs.Run.{apb}
use Rattle.axi_model.specs.Axi.{axi}
use Rattle.rdl_base.specs.declared.fault.Fault.{Fault}
use Rattle.rdl_tree.specs.declared.item.Source.{Source}
use Rattle.report_text.specs.Lines.{address_lines}
use Rattle.v_design.specs.WellFormed.{distinct}
use Rattle.verdict_text.specs.Lines.{rule_line}
use Rattle.replies.specs.Outcome.{AreVerdicts, all_failures, all_fine}
use Rattle.rdl_verdict.specs.Verdict.{IsAxiVerdict}
use Rattle.replies.specs.Verdict.{IsDescribedWith, IsFirst, IsVerdict}
use Rattle.replies.specs.Ends.{Passage, TookAll}

-- Done: the source breaks no rule and describes a sound register block, and what was written is one module that gives the
-- outputs of that block's machine with so many wait states, from any start and for any pins that keep the protocol. Nothing
-- stands on err.
pub record IsRight (contents : Option Files) (waits : ℕ) (top : Option (List ℕ)) (file : List ℕ) (err out : Passage) : Type 0 where
  pub source : List ℕ
  pub tree : Source
  pub block : Block
  pub text : List ℕ
  pub held : Holds contents file source
  pub clean : IsVerdict top source []
  pub described : IsDescribedWith top source tree waits block
  pub agrees : Agrees text (apb block)
  pub written : TookAll out text
  pub quiet : TookAll err []

-- Done by `axi`: the same behind an AXI4-Lite slave port, for any pins at all. Each register of the source is accessed 32 bits at once.
pub record IsFrontRight (contents : Option Files) (top : Option (List ℕ)) (file : List ℕ) (err out : Passage) : Type 0 where
  pub source : List ℕ
  pub tree : Source
  pub block : Block
  pub text : List ℕ
  pub held : Holds contents file source
  pub clean : IsAxiVerdict top source []
  pub described : IsDescribedWith top source tree 0 block
  pub agrees : Agrees text (axi block)
  pub written : TookAll out text
  pub quiet : TookAll err []

-- What was written on err is the line of the first failure of the source's verdict. Nothing stands on out.
pub record IsToldFirst (contents : Option Files) (IsVerdictOf : List ℕ → List Fault → Type 0) (file : List ℕ) (err out : Passage) : Type 0 where
  pub source : List ℕ
  pub place : Place
  pub rule : Rule
  pub held : Holds contents file source
  pub fails : IsFirst (IsVerdictOf source) place rule
  pub told : TookAll err (rule_line file source place rule)
  pub quiet : TookAll out []

-- Refused: the source breaks a rule, and the line is that of the first failure.
abbrev pub IsToldFailure : Option Files → Option (List ℕ) → (file : List ℕ) → (err out : Passage) → Type 0
IsToldFailure contents top file err out = IsToldFirst contents (IsVerdict top) file err out

-- Refused by `axi`: the source breaks a rule, or else a register of it isn't accessed 32 bits at once.
abbrev pub IsToldForAxi : Option Files → Option (List ℕ) → (file : List ℕ) → (err out : Passage) → Type 0
IsToldForAxi contents top file err out = IsToldFirst contents (IsAxiVerdict top) file err out

-- Done by `map`: the source breaks no rule, and what was written is the address table of the block that it describes.
pub record IsTable (contents : Option Files) (top : Option (List ℕ)) (file : List ℕ) (err out : Passage) : Type 0 where
  pub source : List ℕ
  pub tree : Source
  pub block : Block
  pub held : Holds contents file source
  pub described : IsDescribedWith top source tree 0 block
  pub written : TookAll out (address_lines block)
  pub quiet : TookAll err []

-- Done by `header`: the source breaks no rule, and what was written is the C header of the block that it describes and of the enumerations
-- by which its fields are encoded, of which no two macros have one name.
pub record IsHeader (contents : Option Files) (top : Option (List ℕ)) (file : List ℕ) (err out : Passage) : Type 0 where
  pub source : List ℕ
  pub tree : Source
  pub block : Block
  pub held : Holds contents file source
  pub described : IsDescribedWith top source tree 0 block
  pub written : TookAll out (header block (source_encodings top tree))
  pub differ : IsTrue (distinct (map (λ m. m.name) (all_macros block (source_encodings top tree).list)))
  pub quiet : TookAll err []

-- Done by `manual`: the source breaks no rule, and what was written is the manual page of the block that it describes, with the texts of
-- its parts' `name` and `desc` and the enumerations by which its fields are encoded.
pub record IsManual (contents : Option Files) (top : Option (List ℕ)) (file : List ℕ) (err out : Passage) : Type 0 where
  pub source : List ℕ
  pub tree : Source
  pub block : Block
  pub held : Holds contents file source
  pub described : IsDescribedWith top source tree 0 block
  pub written : TookAll out (page block (notes_of top tree) (source_encodings top tree))
  pub quiet : TookAll err []

-- each file holds its source
abbrev pub AreHeld : Option Files → (files sources : List (List ℕ)) → Type 0
AreHeld contents [] [] = ⊤
AreHeld contents (file ∷ files) (source ∷ sources) = Holds contents file source × AreHeld contents files sources
AreHeld contents _ _ = ⊥

-- Done or Refused by `check`: what was written on err is the verdicts of all files, and on out a line for each that breaks no rule.
pub record AreToldVerdicts (contents : Option Files) (top : Option (List ℕ)) (files : List (List ℕ)) (err out : Passage) : Type 0 where
  pub sources : List (List ℕ)
  pub lists : List (List Fault)
  pub held : AreHeld contents files sources
  pub verdicts : AreVerdicts top sources lists
  pub told : TookAll err (all_failures files sources lists)
  pub fine : TookAll out (all_fine files lists)
