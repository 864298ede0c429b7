-- Which items the parts of a block refer to.
use Rattle.std.specs.Prelude.{ℕ, Bool, if◌then◌else◌, Option, Some, None, List, [], ◌∷◌, ◌++◌}
use Rattle.rb_model.specs.declared.kinds.RefItem.{RefItem}
use Rattle.rb_model.specs.declared.kinds.RefItem.TheVariants as item
use Rattle.rb_model.specs.declared.kinds.Count.{Count}
use Rattle.rb_model.specs.declared.kinds.Level.{Level}
use Rattle.rb_model.specs.declared.block.Field.{Field}
use Rattle.rb_model.specs.References.{feed_refs, gate_refs, mask_refs, level_refs, count_refs}
use Rattle.block_plan.specs.Lines.{has_line, line_mask}

abbrev pub listed : Option RefItem → List RefItem
listed None = []
listed (Some i) = i ∷ []

abbrev pub limit_refs : Option Level → List RefItem
limit_refs None = []
limit_refs (Some l) = level_refs l

-- the levels at which a counter saturates
abbrev pub limits_refs : Option Count → List RefItem
limits_refs None = []
limits_refs (Some c) = limit_refs c.high ++ limit_refs c.low

-- the items that hardware's steps on a field refer to
abbrev pub hardware_refs : Field → List RefItem
hardware_refs f = feed_refs f.source ++ gate_refs f.gate ++ count_refs f.count ++ limits_refs f.count ++ feed_refs f.set ++ feed_refs f.clear ++ mask_refs f.keep

-- what a field needs: its value, and what hardware's steps refer to
abbrev pub field_needs : ℕ → Field → List RefItem
field_needs k f = item.Field k ∷ hardware_refs f

-- the line of a register
abbrev pub line_item : Bool → ℕ → RefItem
line_item halt r = if halt then item.Halt r else item.Intr r

-- what an interrupt of a register has for its line
abbrev pub member_refs : Bool → ℕ × Field → List RefItem
member_refs halt f = if has_line halt f.1 then item.Field f.0 ∷ mask_refs (line_mask halt f.1) else []
