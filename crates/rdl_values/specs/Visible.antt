-- What an expression may name: the parameters and the enums of the bodies round it (SystemRDL 2.0, 5.1.4).
use Rattle.std.specs.Option.{option_or}
use Rattle.std.specs.Prelude.{ℕ, ◌&&◌, List, [], ◌∷◌, nat_lt, bytes_eq, find, Option, None, Some, option_map, Ok}
use Rattle.rdl_base.specs.declared.rule.Rule.TheVariants as rules
use Rattle.rdl_tree.specs.declared.expr.Name.{Name}
use Rattle.rdl_values.specs.Constants.{Val, number, Outcome, then, or_fails}

-- An enum of a body: where its name stands, and its entries in order.
pub record EnumOf : Type 0 where
  pub name : List ℕ
  pub place : ℕ
  pub entries : List (List ℕ × ℕ)

-- What one body has: its definition's parameters, and its enums.
pub record Names : Type 0 where
  pub bound : List (List ℕ × Val)
  pub enums : List EnumOf

-- The bodies round an expression, the nearest first.
abbrev pub Around : Type 0
Around = List Names

-- what the nearest body that has one gives
abbrev pub nearest : {A B : Type 0} → (A → Option B) → List A → Option B
nearest f [] = None
nearest f (x ∷ xs) = option_or (f x) (nearest f xs)

-- what stands under a name, where two have it the first
abbrev pub entry_named : {A : Type 0} → List ℕ → List (List ℕ × A) → Option A
entry_named n xs = option_map (λ x. x.1) (find (λ x. bytes_eq x.0 n) xs)

-- A parameter is visible in the whole body of its definition, and the nearest of a name is meant.
abbrev pub parameter : Around → List ℕ → Option Val
parameter around n = nearest (λ names. entry_named n names.bound) around

abbrev pub parameter_of : Around → Option Name → Option Val
parameter_of around None = None
parameter_of around (Some n) = parameter around n.text.now

-- the first enum of a body that a name means: one of that name that stands before it
abbrev pub enum_before : Name → Names → Option EnumOf
enum_before n names = find (λ e. bytes_eq e.name n.text.now && nat_lt e.place n.place.0) names.enums

-- An enum is visible to what stands behind it, and the nearest of a name is meant.
abbrev pub visible_enum : Around → Name → Option EnumOf
visible_enum around n = nearest (enum_before n) around

-- an entry's number: V1 at the enum's name where it is not visible, and at the entry's name where the enum lacks it
abbrev pub entry_value : Around → Name → Name → Outcome Val
entry_value around e n = then (or_fails (visible_enum around e) rules.V1 e.place) λ v. then (or_fails (entry_named n.text.now v.entries) rules.V1 n.place) λ k. Ok (number k)
