-- What a field of a block finds at an edge.
use Rattle.std.specs.Prelude.{◌≡◌, ℕ, List, ◌++◌, codes, slice_index}
use Rattle.rb_model.specs.declared.kinds.Gate.{Gate}
use Rattle.rb_model.specs.declared.kinds.Gate.TheVariants as gate
use Rattle.rb_model.specs.Kept.{Val, Last, Done}
use Rattle.rb_model.specs.Items.{Now}
use Rattle.rb_machine.specs.declared.sight.FieldNow.{FieldNow}

-- the pin of a gate, if it has one, has this number
abbrev pub GateSees : Now → Gate → (high low path : List ℕ) → ℕ → Type 0
GateSees n gate.Always high low path x = Unit {0}
GateSees n (gate.High from) high low path x = n.pins (high ++ path) ≡ x
GateSees n (gate.Low from) high low path x = n.pins (low ++ path) ≡ x

-- field k finds this at an edge
pub record Sees (n : Now) (k : ℕ) (f : FieldNow) : Type 0 where
  pub source : n.pins (codes "in$" ++ f.field.now.path) ≡ slice_index f.pins.now f.places.now.source
  pub gate : GateSees n f.field.now.gate (codes "we$") (codes "wel$") f.field.now.path (slice_index f.pins.now f.places.now.gate)
  pub set : n.pins (codes "hwset$" ++ f.field.now.path) ≡ slice_index f.pins.now f.places.now.set
  pub clear : n.pins (codes "hwclr$" ++ f.field.now.path) ≡ slice_index f.pins.now f.places.now.clear
  pub up_pulse : n.pins (codes "incr$" ++ f.field.now.path) ≡ slice_index f.pins.now f.places.now.up.pulse
  pub up_amount : n.pins (codes "incrvalue$" ++ f.field.now.path) ≡ slice_index f.pins.now f.places.now.up.amount
  pub down_pulse : n.pins (codes "decr$" ++ f.field.now.path) ≡ slice_index f.pins.now f.places.now.down.pulse
  pub down_amount : n.pins (codes "decrvalue$" ++ f.field.now.path) ≡ slice_index f.pins.now f.places.now.down.amount
  pub value : n.kept (Val k) ≡ f.state.value
  pub last : n.kept (Last k) ≡ f.state.last
  pub done : n.kept (Done k) ≡ f.state.done
