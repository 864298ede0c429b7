-- Of a field's views its own, which stands in no alias.
use Rattle.std.specs.Prelude.{◌≡◌, ℕ, false, Some, List, ◌++◌, codes, slice_get, map}
use Rattle.rb_base.specs.declared.ports.Dir.TheVariants.{Out}
use Rattle.rb_base.specs.declared.ports.Port.{Port}
use Rattle.rb_base.specs.declared.ports.Pin.{Pin}
use Rattle.rb_model.specs.declared.block.Field.{Field}
use Rattle.rb_model.specs.declared.block.View.{View}
use Rattle.rb_model.specs.Kept.{when}
use Rattle.rb_model.specs.declared.kinds.Shown.{Shown}
use Rattle.rb_model.specs.Ports.{shown_word, is_pin, pin, gate_pins, view_pins, count_pins}

-- the pins of a field, whose own view is this
abbrev pub own_pins : Field → View → List Pin
own_pins f v = when (is_pin f.source) (pin (codes "in$" ++ f.path) f.width)
    ++ gate_pins f.gate (codes "we$") (codes "wel$") f.path
    ++ view_pins v
    ++ when (is_pin f.set) (pin (codes "hwset$" ++ f.path) 1)
    ++ when (is_pin f.clear) (pin (codes "hwclr$" ++ f.path) 1)
    ++ count_pins f.count f.path

-- the ports of what a field shows beside its value
abbrev pub shown_ports : (path : List ℕ) → List Shown → List Port
shown_ports path ss = map (λ s. record { dir = Out; name = shown_word s ++ path; width = 1 }) ss

-- the ports of its outputs
abbrev pub outlet_ports : Field → List Port
outlet_ports f = when f.hw_reads (record { dir = Out; name = codes "out$" ++ f.path; width = f.width }) ++ shown_ports f.path f.shown

-- view j is the own view of field k
pub record IsOwnView (views : List View) (k j : ℕ) : Type 0 where
  pub view : View
  pub here : slice_get views j ≡ Some view
  pub of : view.field ≡ k
  pub alone : view.alias ≡ false
