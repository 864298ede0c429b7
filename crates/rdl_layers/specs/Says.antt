-- What the code's settings say.
use Rattle.std.specs.Prelude.{◌≡◌, ℕ, List, [], ◌∷◌, length, Option, None, Some, slice_get}
use Rattle.rdl_values.specs.Bodies.{Path, Scope}
use Rattle.rdl_values.specs.Instances.{Instance}
use Rattle.rdl_layers.specs.declared.setting.Setting.{Setting}
use Rattle.rdl_layers.specs.declared.setting.Setting.TheVariants as set
use Rattle.rdl_layers.specs.Forms.{Meaning, unset, flag, number, text, named, intr, hard, enum_of, reference}

-- The number of a body: its node's position in the order of nodes, and the count of nodes for the root's.
abbrev pub IsBodyNumber : List Instance → Option Path → ℕ → Type 0
IsBodyNumber all None k = k ≡ length all
IsBodyNumber all (Some p) k = (n : Instance) × (slice_get all k ≡ Some n) × (n.path ≡ p)

-- the number of the nearest body round a text
abbrev pub IsScopeNumber : List Instance → Scope → ℕ → Type 0
IsScopeNumber all [] k = k ≡ length all
IsScopeNumber all (l ∷ outer) k = IsBodyNumber all l.node k

-- A setting of the code says what a property is set to; its scope is the number of the body in which the assignment's text stands.
abbrev pub Says : List Instance → Setting → Meaning → Type 0
Says all set.Unset unset = Unit {0}
Says all (set.Flag a) (flag b) = a ≡ b
Says all (set.Number m) (number n) = m ≡ n
Says all (set.Str s) (text t) = s.now ≡ t
Says all (set.Word v) (named w) = v ≡ w
Says all (set.Intr d) (intr e) = d ≡ e
Says all (set.Hard a) (hard b) = a ≡ b
Says all (set.EnumOf m k) (enum_of n scope) = (m.now ≡ n) × IsScopeNumber all scope k
Says all (set.Ref p i k at) (reference path item scope place) = (p.now ≡ path) × (i.now ≡ item) × IsScopeNumber all scope k × (at ≡ place)
Says all _ _ = ⊥
