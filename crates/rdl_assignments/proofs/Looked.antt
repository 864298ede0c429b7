-- What a value tells of the parameter that was looked up.
use Rattle.std.proofs.Common.{◌≡◌, Option, None, Some, Ok, Err, refl}
use Rattle.rdl_base.specs.declared.fault.Fault.{Fault}
use Rattle.rdl_base.specs.declared.rule.Rule.{Rule}
use Rattle.rb_base.specs.declared.place.Place.{Place}
use Rattle.rdl_tree.specs.declared.expr.Path.{Path}
use Rattle.rdl_tree.specs.declared.expr.Name.{Name}
use Rattle.rdl_props.specs.declared.form.Form.{Form}
use Rattle.rdl_values.specs.Values.{Val, or_fails}
use Rattle.rdl_values.specs.Bodies.{Scope}
use Rattle.rdl_layers.specs.Meanings.{parameter_or_reference}
use Rattle.rdl_layers.specs.Forms.{from_value}
use Rattle.rdl_base.specs.declared.rule.Rule.TheVariants as rules

pub parameter_found : (f : Form) (scope : Scope) (at : Place) (p : Path) (item : Option Name) (o : Option Val) (r : Rule) (place : Place) (v : Val) → Ok v ≡ or_fails o r place → or_fails (from_value f v) rules.P6 at ≡ parameter_or_reference f scope at p item o
parameter_found f scope at p item None r place v e = cc
parameter_found f scope at p item (Some w) r place v e = let same : v ≡ w = cc in λ i. or_fails (from_value f (same i)) rules.P6 at

pub parameter_missing : (f : Form) (scope : Scope) (at : Place) (p : Path) (item : Option Name) (o : Option Val) (r : Rule) (place : Place) (x : Fault) → Err x ≡ or_fails o r place → parameter_or_reference f scope at p item None ≡ parameter_or_reference f scope at p item o
parameter_missing f scope at p item None r place x e = refl
parameter_missing f scope at p item (Some w) r place x e = cc
