-- The lines of a register's interrupts (SystemRDL 2.0, 9.9).
use Rattle.std.specs.Prelude.{Bool, not, ◌||◌, if◌then◌else◌}
use Rattle.rb_model.specs.declared.kinds.Mask.{Mask}
use Rattle.rb_model.specs.declared.block.Field.{Field}
use Rattle.rb_model.specs.Items.{is_on}

-- the mask of an interrupt for the line halt, or for intr
abbrev pub line_mask : Bool → Field → Mask
line_mask halt f = if halt then f.halt else f.enable

-- an interrupt counts for the line; for halt only one that has a mask for it does
abbrev pub has_line : Bool → Field → Bool
has_line halt f = not halt || is_on f.halt
