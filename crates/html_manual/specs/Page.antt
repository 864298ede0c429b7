-- The page (HTML Living Standard, clause 4; the layout is this project's).
use Rattle.std.specs.Prelude.{ℕ, false, List, [], ◌++◌, codes, decimal, flat_map}
use Rattle.std.specs.List.{enumerate_from}
use Rattle.encodings.specs.Encodings.{Enumerations}
use Rattle.rb_model.specs.declared.block.Block.{Block}
use Rattle.rb_model.specs.declared.block.Signal.{Signal}
use Rattle.rb_model.specs.Ports.{signal_name}
use Rattle.block_effects.specs.Notes.{AllSaid, Said}
use Rattle.html_text.specs.Tags.{code, paragraph, title}
use Rattle.manual_words.specs.Names.{Sight}
use Rattle.manual_sections.specs.Rows.{said_at}
use Rattle.manual_sections.specs.Sections.{addresses, sections}
use Rattle.manual_sections.specs.declared.units.WordUnit.{WordUnit}
use Rattle.manual_units.specs.Marks.{field_marks, reg_marks}
use Rattle.manual_units.specs.Units.{lots, units}
use Rattle.manual_units.specs.declared.lots.Lot.{Lot}
use Rattle.html_manual.specs.declared.tables.Tables.{Tables}
use Rattle.html_manual.specs.Enumerations.{enumerations}
use Rattle.html_manual.specs.Groups.{groups, texts}
use Rattle.html_manual.specs.Interrupts.{interrupts, tables}
use Rattle.html_manual.specs.Style.{style}

-- Signals.

abbrev pub signal_cells : ℕ → Signal → List ℕ
signal_cells k g = codes "<tr><td class=\"f\" id=\"signal::" ++ decimal k ++ codes "\">" ++ code (signal_name g) ++ codes "</td><td class=\"n\">" ++ decimal g.width ++ codes "</td><td class=\"m\">"

abbrev pub signal_row : List Said → ℕ × Signal → List ℕ
signal_row notes g = signal_cells g.0 g.1 ++ texts (said_at notes g.0) ++ codes "</td></tr>\n"

abbrev pub signals_head : List ℕ
signals_head = codes "<h2>Signals</h2>\n<div class=\"wide\">\n<table>\n<tr><th scope=\"col\">Pin</th><th scope=\"col\">Bits</th><th scope=\"col\">Meaning</th></tr>\n<tr><td class=\"f\"><code>PRESETn</code></td><td class=\"n\">1</td><td class=\"m\">Resets every field that names no other reset; low, asynchronous.</td></tr>\n"

abbrev pub signals : List Said → List Signal → List ℕ
signals notes gs = signals_head ++ flat_map (signal_row notes) (enumerate_from 0 gs) ++ codes "</table>\n</div>\n"

-- The head.

abbrev pub title_line : (name : List ℕ) → List ℕ
title_line name = codes "<!DOCTYPE html>\n<html lang=\"en\">\n<head>\n<meta charset=\"utf-8\">\n<meta name=\"viewport\" content=\"width=device-width, initial-scale=1\">\n<title>Registers of " ++ name ++ codes "</title>\n<style>\n"

abbrev pub style_lines : List ℕ
style_lines = style ++ codes "</style>\n</head>\n<body>\n"

abbrev pub top_heading : (name : List ℕ) → List ℕ
top_heading name = codes "<h1>Registers of <code>" ++ name ++ codes "</code></h1>\n"

abbrev pub head : (name : List ℕ) → List ℕ
head name = title_line name ++ style_lines ++ top_heading name

abbrev pub top_texts : Said → List ℕ
top_texts said = title said.name ++ paragraph said.desc

-- The page.

-- what is looked up while it is written
pub record Plan : Type 0 where
  pub units : List WordUnit
  pub fields : List (List ℕ)
  pub regs : List (List ℕ)
  pub tables : Tables

abbrev pub plan_of : Block → List Lot → Plan
plan_of b ls = record { units = units b ls; fields = field_marks b ls; regs = reg_marks b ls; tables = tables b }

abbrev pub plan : Block → AllSaid → Enumerations → Plan
plan b n es = plan_of b (lots b n es)

-- what is seen from no word
abbrev pub far_sight : Block → Enumerations → Plan → Sight
far_sight b es p = record { block = b; own = []; named = false; fields = p.fields; regs = p.regs; encodings = es }

abbrev pub registers : Block → AllSaid → Enumerations → Plan → List ℕ
registers b n es p = addresses b n.regs es p.fields p.regs p.units ++ sections b n es p.fields p.regs p.units

abbrev pub outputs : Block → AllSaid → Enumerations → Plan → List ℕ
outputs b n es p = interrupts (far_sight b es p) p.tables ++ signals n.signals b.signals

unfoldable pub planned_page : Block → AllSaid → Enumerations → Plan → List ℕ
planned_page b n es p = head b.name ++ top_texts n.top ++ registers b n es p ++ groups (far_sight b es p) n.groups ++ outputs b n es p ++ enumerations (far_sight b es p) n.enums ++ codes "</body>\n</html>\n"

abbrev pub page : Block → AllSaid → Enumerations → List ℕ
page b n es = planned_page b n es (plan b n es)

-- what is written, once it is planned
pub record Planned : Type 0 where
  pub block : Block
  pub notes : AllSaid
  pub encodings : Enumerations
  pub plan : Plan

abbrev pub text_of : Planned → List ℕ
text_of m = planned_page m.block m.notes m.encodings m.plan
