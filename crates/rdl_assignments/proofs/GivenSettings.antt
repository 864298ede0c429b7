-- An expression that is no path.
use Rattle.std.proofs.Common.{◌≡◌, Option, refl}
use Rattle.rb_base.specs.declared.place.Place.{Place}
use Rattle.rdl_base.specs.declared.rule.Rule.TheVariants as rules
use Rattle.rdl_tree.specs.declared.expr.Expr.{Expr, Number, Flag, Str, Ref, EntryOf, Not', Binary', Pick'}
use Rattle.rdl_tree.specs.declared.expr.Expr.TheVariants as expr
use Rattle.rdl_tree.specs.declared.expr.Path.{Path}
use Rattle.rdl_tree.specs.declared.expr.Name.{Name}
use Rattle.rdl_props.specs.declared.form.Form.{Form}
use Rattle.rdl_values.specs.Bodies.{Scope, around}
use Rattle.rdl_values.specs.Values.{or_fails, then, value_of}
use Rattle.rdl_layers.specs.Forms.{from_value}
use Rattle.rdl_layers.specs.Meanings.{from_expr}

pub constant_expr : (f : Form) (scope : Scope) (at : Place) (e : Expr) → ((p : Path) (item : Option Name) → e ≡ expr.Ref p item → ⊥) → (then (value_of (around scope) e) λ v. or_fails (from_value f v) rules.P6 at) ≡ from_expr f scope at e
constant_expr f scope at (Number n p) other = refl
constant_expr f scope at (Flag b p) other = refl
constant_expr f scope at (Str s p) other = refl
constant_expr f scope at (Ref path item) other = absurd (other path item refl)
constant_expr f scope at (EntryOf e n) other = refl
constant_expr f scope at (Not' q e p) other = refl
constant_expr f scope at (Binary' o q a r b p) other = refl
constant_expr f scope at (Pick' q c r a s b p) other = refl
