-- Numbers within the widths of pins.
use Rattle.std.specs.List.{AllByRecursion, AllZip}
use Rattle.std.specs.Prelude.{ℕ, ◌<◌, ◌^◌, List, ◌++◌, map}
use Rattle.rb_base.specs.declared.ports.Pin.{Pin}
use Rattle.v_design.specs.Expr.{Values}
use Rattle.v_design.specs.Design.{Module, inputs, outputs, registers, decl_pin}

-- the numbers fit these pins, one for each
abbrev pub FitsPins : List Pin → List ℕ → Type 0
FitsPins ps xs = AllZip (λ p x. x < 2 ^ p.width) ps xs

-- each of these vectors fits the pins
abbrev pub AllFit : List Pin → List (List ℕ) → Type 0
AllFit ps vectors = AllByRecursion (FitsPins ps) vectors

-- each of these pins has a value within its width
abbrev pub ValuesFit : Values → List Pin → Type 0
ValuesFit v ps = AllByRecursion (λ p. v p.name < 2 ^ p.width) ps

-- the registers' contents are within their widths
abbrev pub ContentsFit : Module → Values → Type 0
ContentsFit m contents = ValuesFit contents (registers m)

-- the declared nets that have a value at an edge: all but a clock that is an input
abbrev pub valued_nets : Module → List Pin
valued_nets m = inputs m ++ outputs m ++ map decl_pin m.decls

-- at an edge all is within its width: the nets' values, the outputs, and the contents after the edge
pub record EdgeFits (m : Module) (v : Values) (outs : List ℕ) (after : Values) : Type 0 where
  pub values : ValuesFit v (valued_nets m)
  pub outs_fit : FitsPins (outputs m) outs
  pub contents : ContentsFit m after
