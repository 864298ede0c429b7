-- The instance's own value.
use Rattle.std.proofs.Common.{◌≡◌, ◌∙◌, [], map, flat_map, append-nil, None, Some, option_to_list, ap}
use Rattle.rdl_props.specs.declared.prop.Prop.TheVariants as prop
use Rattle.rdl_tree.specs.declared.expr.Expr.{Expr}
use Rattle.rdl_values.specs.Bodies.{around}
use Rattle.rdl_values.specs.Uses.{Use}
use Rattle.rdl_values.specs.Values.{number_of}
use Rattle.rdl_layers.specs.Forms.{number}
use Rattle.rdl_layers.specs.Settings.{applied, from_instance, given}
use Rattle.rdl_layers.specs.declared.rank.Rank.TheVariants as rank

pub reset-given : (u : Use) (e : Expr) → u.form.reset ≡ Some e → from_instance u ≡ map (λ k. applied rank.Instance prop.Reset (number k)) (given (number_of (around u.scope) e))
reset-given u e h = ap (λ o. flat_map (λ x. map (λ k. applied rank.Instance prop.Reset (number k)) (given (number_of (around u.scope) x))) (option_to_list o)) h ∙ append-nil (map (λ k. applied rank.Instance prop.Reset (number k)) (given (number_of (around u.scope) e)))

pub reset-none : (u : Use) → u.form.reset ≡ None → from_instance u ≡ []
reset-none u h = ap (λ o. flat_map (λ x. map (λ k. applied rank.Instance prop.Reset (number k)) (given (number_of (around u.scope) x))) (option_to_list o)) h
