-- What decides the properties of a node, in the code and in the definitions.
use Rattle.std.specs.Prelude.{◌≡◌, ℕ, List, [], ◌∷◌, find, Option, None, Some}
use Rattle.std.specs.List.{AllByRecursion, list_any}
use Rattle.rdl_props.specs.Same.{same_prop}
use Rattle.rdl_props.specs.declared.prop.Prop.{Prop}
use Rattle.rdl_values.specs.Instances.{Instance}
use Rattle.rdl_layers.specs.Ranks.{is_related}
use Rattle.rdl_layers.specs.Meanings.{Assignment}
use Rattle.rdl_layers.specs.Says.{IsScopeNumber, Says}
use Rattle.rdl_layers.specs.Settings.{Applied, gives}
use Rattle.rdl_layers.specs.declared.rank.Rank.{Rank}
use Rattle.rdl_layers.specs.declared.props.PropSetting.{PropSetting}

-- An entry says which property an assignment gives what.
pub record IsEntry (all : List Instance) (e : PropSetting) (a : Applied) : Type 0 where
  pub prop : a.candidate.prop ≡ e.prop
  pub says : Says all e.setting a.value

-- both are there, and say the same, or neither is
abbrev pub Tells : List Instance → Option PropSetting → Option Applied → Type 0
Tells all None None = Unit {0}
Tells all (Some e) (Some a) = IsEntry all e a
Tells all _ _ = ⊥

-- For each property the first related entry tells of the first related assignment, and there is an entry of it where it is assigned.
pub record AreEntries (all : List Instance) (es : List PropSetting) (xs : List Applied) : Type 0 where
  pub assigned : (p : Prop) → list_any (λ e. same_prop p e.prop) es ≡ list_any (λ a. same_prop p a.candidate.prop) xs
  pub first : (p : Prop) → Tells all (find (λ e. is_related p e.prop) es) (find (λ a. is_related p a.candidate.prop) xs)

-- The entry is the one that an assignment gives at this rank.
pub record GivesEntry (all : List Instance) (e : PropSetting) (r : Rank) (a : Assignment) : Type 0 where
  pub one : Applied
  pub gives_one : gives r a ≡ one ∷ []
  pub entry : IsEntry all e one

-- the assignments stand in the body of this number
abbrev pub AreIn : List Instance → ℕ → List Assignment → Type 0
AreIn all body as' = AllByRecursion (λ a. IsScopeNumber all a.scope body) as'
