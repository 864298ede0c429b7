-- What the text of an instance gives.
use Rattle.std.specs.Prelude.{◌≡◌, ℕ, List, [], ◌∷◌, length, nat_lt, flat_map, Option, option_copied, option_to_list}
use Rattle.rdl_tree.specs.declared.expr.Expr.{Expr}
use Rattle.rdl_tree.specs.declared.item.Inst.{Inst}
use Rattle.rdl_values.specs.Values.{Around, number_of}
use Rattle.rdl_layers.specs.Settings.{given}
use Rattle.rdl_layout.specs.declared.part.Part.{Part}

-- the numbers of some expressions, of those that have one
abbrev pub numbers_in : Around → List Expr → List ℕ
numbers_in env es = flat_map (λ e. given (number_of env e)) es

-- two numbers, as the high and the low bit
abbrev pub as_range : List ℕ → List (ℕ × ℕ)
as_range (high ∷ low ∷ []) = (high, low) ∷ []
as_range _ = []

-- a range, in a list of one, or none
abbrev pub range_in : Around → Option (Expr × Expr) → List (ℕ × ℕ)
range_in env r = as_range (numbers_in env (flat_map (λ p. p.0 ∷ p.1 ∷ []) (option_to_list r)))

-- The part has what this text gives, whose expressions see this.
pub record IsGiven (p : Part) (env : Around) (i : Inst) : Type 0 where
  pub at_ : option_to_list p.at ≡ numbers_in env (option_to_list (option_copied i.at))
  pub stride_ : option_to_list p.stride ≡ numbers_in env (option_to_list (option_copied i.stride))
  pub align_ : option_to_list p.align ≡ numbers_in env (option_to_list (option_copied i.align))
  pub array : p.is_array ≡ nat_lt 0 (length i.dims.now)
