-- Numbers within the widths of pins.
use Rattle.std.specs.List.{AllByRecursion, AllZip}
use Rattle.std.specs.Prelude.{ℕ, ◌<◌, ◌^◌, List}
use Rattle.rb_base.specs.declared.ports.Pin.{Pin}
use Rattle.rtl_net.specs.Value.{At, Values}
use Rattle.rtl_net.specs.Net.{Net, Settles}
use Rattle.rtl_net.specs.Run.{outputs, registers}

-- the numbers fit these pins, one for each
abbrev pub FitsPins : List Pin → List ℕ → Type 0
FitsPins ps xs = AllZip (λ p x. x < 2 ^ p.width) ps xs

-- each of these vectors fits the pins
abbrev pub AllFit : List Pin → List (List ℕ) → Type 0
AllFit ps vectors = AllByRecursion (FitsPins ps) vectors

-- each of these pins has a value within its width
abbrev pub ValuesFit : Values → List Pin → Type 0
ValuesFit v ps = AllByRecursion (λ p. v p.name < 2 ^ p.width) ps

-- at an edge all is within its width: the nodes' values, the outputs, and the contents after the edge
pub record EdgeFits (net : Net) (at : At) (outs : List ℕ) (after : Values) : Type 0 where
  pub settles : Settles net at
  pub outs_fit : FitsPins (outputs net) outs
  pub contents : ValuesFit after (registers net)
