use Rattle.std.proofs.Common.{◌≡◌, ◌<◌, ℕ, false, slice_get, get_or}
use Rattle.std.specs.Option.{option_map_or}
use Rattle.rb_machine.specs.Table.{values_of}
use Rattle.rb_machine.specs.Scene.{raises_line}
use Rattle.rb_machine.proofs.scene.EdgeState.is_raised.Given as goal

abbrev pub invariant-loop-number : goal.invariant-loop-number
invariant-loop-number l = (h : ℕ) → h < l.number-index
    → option_map_or (λ f. raises_line (values_of l.table) l.halt l.reg (get_or l.number-items h 0, f)) (slice_get l.self.block.now.fields (get_or l.number-items h 0)) false ≡ false
