use Rattle.std.proofs.Common.{◌≡◌, ℕ, ◌<◌, List, [], Option, Some, None, length, IfSome, sym, ◌∙◌}
use Rattle.rb_base.specs.declared.ports.Pin.{Pin}
use Rattle.stim_csv.specs.PinTable.{place_of}
use Rattle.stim_csv.proofs.Positions.{place_below}
use Rattle.stim_csv.proofs.header.place_in.Goals as goal

within : (pins : List Pin) (name : List ℕ) (o : Option ℕ) → o ≡ place_of pins name → IfSome o (λ place. place < length pins)
within pins name None e = tt
within pins name (Some place) e = (place_below pins name place (record { name = []; width = 0 }) (sym e)).0

pub returns-clause-within : goal.returns-clause-within
returns-clause-within c = within c.args.pins.now c.args.name.now c.copied.result (c.copied.ensures ∙ (c.get.ensures.value ∙ c.requires c.args.name.now))
