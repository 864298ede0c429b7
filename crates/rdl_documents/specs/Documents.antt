-- What headers and manuals are made of.
use Rattle.std.specs.Prelude.{◌≡◌, ℕ, List, Option, Result, Ok, Err}
use Rattle.rdl_tree.specs.declared.item.Source.{Source}
use Rattle.rdl_encodings.specs.Encoded.{source_encodings}
use Rattle.rdl_notes.specs.Notes.{notes_of}
use Rattle.rdl_verdict.specs.Answers.{Refuses}
use Rattle.rdl_verdict.specs.Verdict.{IsDescribed}
use Rattle.rdl_verdict.specs.declared.error.JudgeError.{JudgeError}
use Rattle.rdl_documents.specs.declared.heading.Heading.{Heading}
use Rattle.rdl_documents.specs.declared.manual.Contents.{Contents}

-- A source that breaks no rule: its block, and the enumerations by which the fields of its block are encoded.
pub record IsHeading (wanted : Option (List ℕ)) (text : List ℕ) (h : Heading) : Type 0 where
  pub tree : Source
  pub described : IsDescribed wanted text tree h.block
  pub encodings : h.encodings ≡ source_encodings wanted tree

-- The same, with what it says of the parts of its block.
pub record IsTold (wanted : Option (List ℕ)) (text : List ℕ) (c : Contents) : Type 0 where
  pub tree : Source
  pub described : IsDescribed wanted text tree c.block
  pub notes : c.notes ≡ notes_of wanted tree
  pub encodings : c.encodings ≡ source_encodings wanted tree

-- `heading_of`. Want of memory may be answered anywhere.
abbrev pub Heads : Option (List ℕ) → List ℕ → Result Heading JudgeError → Type 0
Heads wanted text (Ok h) = IsHeading wanted text h
Heads wanted text (Err e) = Refuses wanted text e

-- `contents_of`. Want of memory may be answered anywhere.
abbrev pub Tells : Option (List ℕ) → List ℕ → Result Contents JudgeError → Type 0
Tells wanted text (Ok c) = IsTold wanted text c
Tells wanted text (Err e) = Refuses wanted text e
