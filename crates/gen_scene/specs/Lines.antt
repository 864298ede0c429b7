-- The lines of a register's interrupts.
use Rattle.std.specs.Prelude.{◌≡◌, ℕ, Bool, true, false, ◌&&◌, if◌then◌else◌, nat_lt, Option, Some, None, ◌∷◌, slice_get}
use Rattle.std.specs.Option.{option_map}
use Rattle.gen_events.specs.declared.lines.Masked.{Masked}
use Rattle.rtl_net.specs.Net.{Net}
use Rattle.rb_model.specs.declared.kinds.RefItem.TheVariants as item
use Rattle.rb_model.specs.declared.kinds.Mask.{Mask}
use Rattle.rb_model.specs.declared.kinds.Mask.TheVariants as mask
use Rattle.rb_model.specs.declared.block.Block.{Block}
use Rattle.rb_model.specs.declared.block.Field.{Field}
use Rattle.rb_model.specs.Effects.{counting}
use Rattle.rb_model.specs.Items.{ItemValues, mask_value}
use Rattle.rb_model.specs.Kept.{of_field}
use Rattle.rb_model.specs.References.{mask_refs}
use Rattle.block_plan.specs.Plan.{is_member}
use Rattle.block_plan.specs.Lines.{has_line, line_mask}
use Rattle.gen_scene.specs.declared.scene.Scene.{Scene}
use Rattle.gen_scene.specs.Fields.{HasNodes, item_node, mask_node}

abbrev pub is_inverted : Mask → Bool
is_inverted mask.Off = false
is_inverted (mask.Enable i) = false
is_inverted (mask.Mask i) = true

-- field k raises its register's line
abbrev pub raised : Block → ItemValues → Bool → ℕ → Bool
raised b v halt k = of_field b k false (λ f. has_line halt f && nat_lt 0 (counting (line_mask halt f) f.width (v (item.Field k)) (mask_value v (line_mask halt f))))

-- the interrupts of a register and their masks have their nodes
pub record HasLine (net : Net) (s : Scene) (halt : Bool) (r : ℕ) : Type 0 where
  pub each : (k : ℕ) (f : Field) → slice_get s.base.now.block.now.fields k ≡ Some f → is_member r (k, f) ≡ true → has_line halt f ≡ true → HasNodes net s (item.Field k ∷ mask_refs (line_mask halt f))

-- the bits of interrupt k that count for its register's line, as they are looked up
abbrev pub line_bits : Scene → Bool → ℕ → Field → Option Masked
line_bits s halt k f = if has_line halt f
    then option_map (λ id. record { value = id; mask = mask_node s (line_mask halt f); inverted = is_inverted (line_mask halt f) }) (item_node s (item.Field k))
    else None
