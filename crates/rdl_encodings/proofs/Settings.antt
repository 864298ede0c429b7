-- Enumerations that settings name.
use Rattle.std.proofs.Common.{◌≡◌, ◌∙◌, ℕ, zero, suc, ◌+◌, ◌<◌, ◌≤◌, ◌⊎◌, inl, inr, false, List, [], ◌∷◌, length, Option, None, Some, Vec, slice_get, refl, sym, ap, arith}
use Rattle.std.specs.Borrow.{Bor}
use Rattle.std.specs.Global.{Global}
use Rattle.rdl_props.specs.declared.prop.Prop.TheVariants as prop
use Rattle.rdl_tree.specs.declared.expr.Name.{Name}
use Rattle.rdl_values.specs.Bodies.{Scope, around}
use Rattle.rdl_values.specs.Instances.{Instance}
use Rattle.rdl_values.specs.Values.{EnumOf, visible_enum}
use Rattle.rdl_layers.specs.Says.{IsScopeNumber, Says}
use Rattle.rdl_layers.specs.Settings.{Meaning, enum_of, setting}
use Rattle.rdl_layers.specs.Tables.{entries_at, setting_in}
use Rattle.rdl_layers.specs.declared.props.PropSetting.{PropSetting}
use Rattle.rdl_layers.specs.declared.setting.Setting.{Setting}
use Rattle.rdl_layers.specs.declared.setting.Setting.TheVariants as set
use Rattle.rdl_encodings.specs.Encoded.{encoded_by}
use Rattle.rdl_encodings.specs.Meant.{names_enum}
use Rattle.plain_lemmas.proofs.Numbers.{below_next-swapped as either}

-- the enumeration that a setting names
abbrev named-by : Meaning → Option EnumOf
named-by (enum_of n scope) = visible_enum (around scope) n
named-by _ = None

by-setting : (n : Instance) → named-by (setting n prop.Encode) ≡ encoded_by n
by-setting n = refl

pub encoded-as : (n : Instance) (name : Name) (scope : Scope) → setting n prop.Encode ≡ enum_of name scope → encoded_by n ≡ visible_enum (around scope) name
encoded-as n name scope is = sym (by-setting n) ∙ ap named-by is

-- a setting that names an enumeration, and what it says
pub record IsNamed (all : List Instance) (name : Name) (k : ℕ) (m : Meaning) : Type 0 where
  pub scope : Scope
  pub is : m ≡ enum_of name scope
  pub number : IsScopeNumber all scope k

pub enum_said : (all : List Instance) (name : Bor Name) (k : ℕ) (m : Meaning) → Says all (set.EnumOf name k) m → IsNamed all name.now k m
enum_said all name k (enum_of n scope) h = record { scope = scope; is = ap (λ x. enum_of x scope) (sym h.0); number = h.1 }
enum_said all name k m h = absurd h

none-said : (all : List Instance) (s : Setting) (m : Meaning) → ((name : Bor Name) (k : ℕ) → s ≡ set.EnumOf name k → ⊥) → Says all s m → named-by m ≡ None
none-said all (set.EnumOf name k) m other h = absurd (other name k refl)
none-said all s (enum_of name scope) other h = absurd h
none-said all s m other h = refl

pub no_enum : (all : List Instance) (n : Instance) (s : Setting) → ((name : Bor Name) (k : ℕ) → s ≡ set.EnumOf name k → ⊥) → Says all s (setting n prop.Encode) → encoded_by n ≡ None
no_enum all n s other h = sym (by-setting n) ∙ none-said all s (setting n prop.Encode) other h

-- The entries of the node of a number.

pub entries-read : (es : List (Vec PropSetting Global)) (k : ℕ) (v : Vec PropSetting Global) → slice_get es k ≡ Some v → entries_at es k ≡ v.items
entries-read [] k v h = cc h
entries-read (w ∷ es) zero v h = let same : w ≡ v = cc h in ap (λ (x : Vec PropSetting Global). x.items) same
entries-read (w ∷ es) (suc k) v h = entries-read es k v h

entries-past : (es : List (Vec PropSetting Global)) (k : ℕ) → length es ≤ k → entries_at es k ≡ []
entries-past [] k l = refl
entries-past (w ∷ es) zero l = absurd (omega (arith, l))
entries-past (w ∷ es) (suc k) l = entries-past es k (omega (arith, l))

-- The first of these don't set it to a name.
abbrev pub NameNone : List (Vec PropSetting Global) → ℕ → Type 0
NameNone es i = (k : ℕ) → k < i → names_enum (setting_in prop.Encode (entries_at es k)) ≡ false

pub name_none_more : (es : List (Vec PropSetting Global)) (i : ℕ) (v : Vec PropSetting Global) → slice_get es i ≡ Some v → names_enum (setting_in prop.Encode v.items) ≡ false → NameNone es i → NameNone es (i + 1)
name_none_more es i v here none before k l = go (either i k (omega (arith, l)))
  where
    go : (k < i) ⊎ (k ≡ i) → names_enum (setting_in prop.Encode (entries_at es k)) ≡ false
    go (inl low) = before k low
    go (inr e) = ap (λ j. names_enum (setting_in prop.Encode (entries_at es j))) e ∙ (ap (λ xs. names_enum (setting_in prop.Encode xs)) (entries-read es i v here) ∙ none)

pub name_none_all : (es : List (Vec PropSetting Global)) (i : ℕ) → length es ≤ i → NameNone es i → (k : ℕ) → names_enum (setting_in prop.Encode (entries_at es k)) ≡ false
name_none_all es i l before k = go (least (length es) k)
  where
    least : (m n : ℕ) → (n < m) ⊎ (m ≤ n)
    least zero n = inr (omega arith)
    least (suc m) zero = inl (omega arith)
    least (suc m) (suc n) = more (least m n)
      where
        more : (n < m) ⊎ (m ≤ n) → (suc n < suc m) ⊎ (suc m ≤ suc n)
        more (inl a) = inl (omega (arith, a))
        more (inr a) = inr (omega (arith, a))

    go : (k < length es) ⊎ (length es ≤ k) → names_enum (setting_in prop.Encode (entries_at es k)) ≡ false
    go (inl low) = before k (omega (arith, low, l))
    go (inr past) = ap (λ xs. names_enum (setting_in prop.Encode xs)) (entries-past es k past)
