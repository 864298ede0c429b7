-- Entries that a field can't hold.
use Rattle.std.proofs.Common.{◌≡◌, ◌∙◌, ℕ, ◌^◌, Bool, true, false, ◌||◌, List, flat_map, nat_le, Option, None, Some, option_to_list, refl, sym, ap, append-nil}
use Rattle.std.specs.Borrow.{Bor}
use Rattle.std.specs.List.{list_any}
use Rattle.rdl_props.specs.declared.prop.Prop.TheVariants as prop
use Rattle.rdl_tree.specs.declared.expr.Name.{Name}
use Rattle.rdl_values.specs.Bodies.{Scope, around}
use Rattle.rdl_values.specs.Instances.{Instance}
use Rattle.rdl_values.specs.Values.{EnumOf, visible_enum}
use Rattle.rdl_layers.specs.Phase4.{width_of}
use Rattle.rdl_layers.specs.Says.{IsScopeNumber, Says}
use Rattle.rdl_layers.specs.Settings.{Meaning, enum_of, setting}
use Rattle.rdl_layers.specs.declared.setting.Setting.{Setting}
use Rattle.rdl_layers.specs.declared.setting.Setting.TheVariants as set
use Rattle.rdl_rules.specs.FieldRules.{encode_too_wide, has_wide_entry}
use Rattle.rdl_facts.specs.Greatest.{IsGreatest, reaches}
use Rattle.rdl_facts.specs.Table.{entries_meant}

-- an entry of the enumeration that the setting names is one
abbrev wide-in : Instance → Meaning → Bool
wide-in f (enum_of n scope) = list_any (has_wide_entry (width_of f)) (option_to_list (visible_enum (around scope) n))
wide-in f _ = false

by-setting : (n : Instance) → wide-in n (setting n prop.Encode) ≡ encode_too_wide n
by-setting n = refl

or-false : (b : Bool) → b || false ≡ b
or-false true = refl
or-false false = refl

any-entry : (m : ℕ) (o : Option EnumOf) → list_any (λ x. nat_le m x.1) (flat_map (λ (e : EnumOf). e.entries) (option_to_list o)) ≡ list_any (λ (e : EnumOf). list_any (λ x. nat_le m x.1) e.entries) (option_to_list o)
any-entry m None = refl
any-entry m (Some e) = ap (list_any (λ (x : List ℕ × ℕ). nat_le m x.1)) (append-nil e.entries) ∙ sym (or-false (list_any (λ x. nat_le m x.1) e.entries))

pub of_enum : (n : Instance) (w : ℕ) (g : Option ℕ) (name : Name) (scope : Scope) → setting n prop.Encode ≡ enum_of name scope → width_of n ≡ w → IsGreatest g (entries_meant (around scope) name) → reaches g (2 ^ w) ≡ encode_too_wide n
of_enum n w g name scope is width greatest =
    sym (greatest.reached (2 ^ w)) ∙ any-entry (2 ^ w) (visible_enum (around scope) name)
    ∙ ap (λ v. list_any (has_wide_entry v) (option_to_list (visible_enum (around scope) name))) (sym width)
    ∙ sym (ap (wide-in n) is) ∙ by-setting n

-- a setting that names an enumeration, and what it says
pub record IsNamed (all : List Instance) (name : Name) (k : ℕ) (m : Meaning) : Type 0 where
  pub scope : Scope
  pub is : m ≡ enum_of name scope
  pub number : IsScopeNumber all scope k

pub enum_said : (all : List Instance) (name : Bor Name) (k : ℕ) (m : Meaning) → Says all (set.EnumOf name k) m → IsNamed all name.now k m
enum_said all name k (enum_of n scope) h = record { scope = scope; is = ap (λ x. enum_of x scope) (sym h.0); number = h.1 }
enum_said all name k m h = absurd h

none-said : (all : List Instance) (n : Instance) (s : Setting) (m : Meaning) → ((name : Bor Name) (k : ℕ) → s ≡ set.EnumOf name k → ⊥) → Says all s m → false ≡ wide-in n m
none-said all n (set.EnumOf name k) m other h = absurd (other name k refl)
none-said all n s (enum_of name scope) other h = absurd h
none-said all n s m other h = refl

pub no_enum : (all : List Instance) (n : Instance) (s : Setting) → ((name : Bor Name) (k : ℕ) → s ≡ set.EnumOf name k → ⊥) → Says all s (setting n prop.Encode) → false ≡ encode_too_wide n
no_enum all n s other h = none-said all n s (setting n prop.Encode) other h ∙ by-setting n
