-- What holds of the input pins that a block's behaviour has.
use Rattle.std.specs.Prelude.{ℕ, List, ◌++◌, codes}
use Rattle.rb_base.specs.declared.ports.Pin.{Pin}
use Rattle.rb_model.specs.declared.kinds.Feed.{Feed}
use Rattle.rb_model.specs.declared.kinds.Feed.TheVariants as feed
use Rattle.rb_model.specs.declared.kinds.Gate.{Gate}
use Rattle.rb_model.specs.declared.kinds.Gate.TheVariants as gate
use Rattle.rb_model.specs.declared.kinds.Amount.{Amount}
use Rattle.rb_model.specs.declared.kinds.Amount.TheVariants as amount
use Rattle.rb_model.specs.declared.block.View.{View}
use Rattle.rb_model.specs.Ports.{pin}

-- Q holds of the pin that this is, if it is one

abbrev pub FeedHas : (Pin → Type 0) → Feed → List ℕ → ℕ → Type 0
FeedHas Q feed.Off name w = Unit {0}
FeedHas Q feed.Pin name w = Q (pin name w)
FeedHas Q (feed.Item i) name w = Unit {0}

abbrev pub GateHas : (Pin → Type 0) → Gate → (high low path : List ℕ) → Type 0
GateHas Q gate.Always high low path = Unit {0}
GateHas Q (gate.High from) high low path = FeedHas Q from (high ++ path) 1
GateHas Q (gate.Low from) high low path = FeedHas Q from (low ++ path) 1

abbrev pub AmountHas : (Pin → Type 0) → Amount → List ℕ → Type 0
AmountHas Q (amount.Number n) name = Unit {0}
AmountHas Q (amount.Item i) name = Unit {0}
AmountHas Q (amount.Pin w) name = Q (pin name w)

abbrev pub ViewHas : (Pin → Type 0) → View → Type 0
ViewHas Q v = GateHas Q v.gate (codes "swwe$") (codes "swwel$") v.path
