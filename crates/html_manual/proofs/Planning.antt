-- What is looked up while the page is written.
use Rattle.std.proofs.Common.{◌≡◌, ◌∙◌, ℕ, List, ap}
use Rattle.encodings.specs.Encodings.{Enumerations}
use Rattle.rb_model.specs.declared.block.Block.{Block}
use Rattle.block_effects.specs.Notes.{AllSaid}
use Rattle.manual_sections.specs.declared.units.WordUnit.{WordUnit}
use Rattle.manual_units.specs.Marks.{field_marks, reg_marks}
use Rattle.manual_units.specs.Units.{lots, units}
use Rattle.manual_units.specs.declared.lots.Lot.{Lot}
use Rattle.html_manual.specs.declared.tables.Tables.{Tables}
use Rattle.html_manual.specs.Interrupts.{tables}
use Rattle.html_manual.specs.Page.{page, plan, planned_page}

-- the lots that each call was given are those of the block
pub same_text : (b : Block) (n : AllSaid) (es : Enumerations) (for_fields for_regs for_units : List Lot) (fields regs : List (List ℕ)) (us : List WordUnit) (ts : Tables)
    → for_fields ≡ lots b n es → fields ≡ field_marks b for_fields → for_regs ≡ lots b n es → regs ≡ reg_marks b for_regs → for_units ≡ lots b n es → us ≡ units b for_units → ts ≡ tables b
    → planned_page b n es (record { units = us; fields = fields; regs = regs; tables = ts }) ≡ page b n es
same_text b n es for_fields for_regs for_units fields regs us ts e fs f rs g us_are ts_are =
    let p : fields ≡ (plan b n es).fields = fs ∙ ap (field_marks b) e in
    let q : regs ≡ (plan b n es).regs = rs ∙ ap (reg_marks b) f in
    let r : us ≡ (plan b n es).units = us_are ∙ ap (units b) g in
    λ i. planned_page b n es (record { units = r i; fields = p i; regs = q i; tables = ts_are i })
