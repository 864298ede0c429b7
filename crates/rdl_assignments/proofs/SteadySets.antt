-- Settings that fail alike in all bodies of a text.
use Rattle.std.proofs.Common.{◌≡◌, ◌∙◌, Bool, true, false, cond, List, [], ◌∷◌, ◌++◌, flat_map, option_map, Option, None, Some, Ok, Err, refl, sym, ap}
use Rattle.std.specs.List.{AllByRecursion}
use Rattle.rb_base.specs.declared.place.Place.{Place}
use Rattle.rb_base.specs.declared.trigger.Trigger.{Trigger}
use Rattle.rdl_base.specs.declared.rule.Rule.TheVariants as rules
use Rattle.rdl_tree.specs.declared.expr.Expr.{Expr}
use Rattle.rdl_tree.specs.declared.expr.Expr.TheVariants as expr
use Rattle.rdl_tree.specs.declared.expr.Path.{Path}
use Rattle.rdl_tree.specs.declared.expr.Step.{Step}
use Rattle.rdl_tree.specs.declared.expr.Name.{Name}
use Rattle.rdl_tree.specs.declared.item.Assigned.{Assigned}
use Rattle.rdl_tree.specs.declared.item.Set.{Set}
use Rattle.rdl_props.specs.Table.{takes_of}
use Rattle.rdl_props.specs.declared.form.Form.{Form}
use Rattle.rdl_props.specs.declared.form.Form.TheVariants as form
use Rattle.rdl_props.specs.declared.prop.Prop.{Prop}
use Rattle.rdl_values.specs.Bodies.{Scope, around}
use Rattle.rdl_values.specs.Faults.{failures}
use Rattle.rdl_values.specs.Uses.{values}
use Rattle.rdl_values.specs.Views.{steps_of}
use Rattle.rdl_values.specs.Values.{Around, EnumOf, Outcome, as_number, bare_name, fails, number_of, or_fails, parameter_of, start, then, visible_enum}
use Rattle.rdl_layers.specs.Forms.{Meaning, enum_of, from_value, reference, takes_reference}
use Rattle.rdl_layers.specs.Meanings.{enum_named, from_expr, from_given, from_path, from_trigger, parameter_or_reference}
use Rattle.rdl_assignments.specs.Steady.{AreNamedAs, IsSteady, IsSteadyGiven, IsSteadySet, enums_of}
use Rattle.rdl_assignments.proofs.GivenSettings.{constant_expr}
use Rattle.rdl_assignments.proofs.NamedAlike.{enum_alike}

-- Numbers.

module _ (same : Bool) (v : Around) where
  number-alike : (e : Expr) → IsSteady same v e → (u w : Around) → AreNamedAs same v u → AreNamedAs same v w → number_of u e ≡ number_of w e
  number-alike e h u w a b = ap (λ o. then o λ x. or_fails (as_number x) rules.V2 (start e)) (h u w a b)

  pub values_alike : (es : List Expr) → AllByRecursion (IsSteady same v) es → (u w : Around) → AreNamedAs same v u → AreNamedAs same v w → values u es ≡ values w es
  values_alike [] h u w a b = refl
  values_alike (e ∷ es) h u w a b = λ j. then (number-alike e h.0 u w a b j) λ n. then (values_alike es h.1 u w a b j) λ ns. Ok (n ∷ ns)

  all-append : (xs ys : List Expr) → AllByRecursion (IsSteady same v) xs → AllByRecursion (IsSteady same v) ys → AllByRecursion (IsSteady same v) (xs ++ ys)
  all-append [] ys h k = k
  all-append (x ∷ xs) ys h k = (h.0, all-append xs ys h.1 k)

  -- the indices of a step
  abbrev pub IsSteadyStep : Step → Type 0
  IsSteadyStep t = AllByRecursion (IsSteady same v) t.index.now

  pub all_indices : (ts : List Step) → AllByRecursion IsSteadyStep ts → AllByRecursion (IsSteady same v) (flat_map (λ t. t.index.now) ts)
  all_indices [] h = tt
  all_indices (t ∷ ts) h = all-append t.index.now (flat_map (λ s. s.index.now) ts) h.0 (all_indices ts h.1)

-- Paths.

-- a reference fails alike
reference-alike : (b : Bool) (place : Place) (x y : Meaning) → failures (cond b (Ok x) (fails rules.P6 place)) ≡ failures (cond b (Ok y) (fails rules.P6 place))
reference-alike true place x y = refl
reference-alike false place x y = refl

no-parameter : (f : Form) (u w : Scope) (place : Place) (path : Path) (item : Option Name) → parameter_of (around u) (bare_name path item) ≡ None → parameter_of (around w) (bare_name path item) ≡ None
    → failures (parameter_or_reference f u place path item (parameter_of (around u) (bare_name path item))) ≡ failures (parameter_or_reference f w place path item (parameter_of (around w) (bare_name path item)))
no-parameter f u w place path item h k =
    ap (λ o. failures (parameter_or_reference f u place path item o)) h ∙ reference-alike (takes_reference f) place (reference path item u place) (reference path item w place)
    ∙ ap (λ o. failures (parameter_or_reference f w place path item o)) (sym k)

pub path_alike : (f : Form) → (f ≡ form.Side → ⊥) → (f ≡ form.EnumName → ⊥) → (u w : Scope) (place : Place) (path : Path) (item : Option Name) → parameter_of (around u) (bare_name path item) ≡ None → parameter_of (around w) (bare_name path item) ≡ None
    → failures (from_path f u place path item) ≡ failures (from_path f w place path item)
path_alike form.Str ns ne = no-parameter form.Str
path_alike form.Flag ns ne = no-parameter form.Flag
path_alike form.TrueOnly ns ne = no-parameter form.TrueOnly
path_alike form.Number ns ne = no-parameter form.Number
path_alike form.FlagNumber ns ne = no-parameter form.FlagNumber
path_alike form.Refer ns ne = no-parameter form.Refer
path_alike form.FlagRefer ns ne = no-parameter form.FlagRefer
path_alike form.NumberRefer ns ne = no-parameter form.NumberRefer
path_alike form.FlagNumberRefer ns ne = no-parameter form.FlagNumberRefer
path_alike form.AddressingWord ns ne = no-parameter form.AddressingWord
path_alike form.SwWord ns ne = no-parameter form.SwWord
path_alike form.HwWord ns ne = no-parameter form.HwWord
path_alike form.WriteWord ns ne = no-parameter form.WriteWord
path_alike form.ReadWord ns ne = no-parameter form.ReadWord
path_alike form.Intr ns ne = no-parameter form.Intr
path_alike form.Side ns ne = absurd (ns refl)
path_alike form.EnumName ns ne = absurd (ne refl)

pub named_alike : (u w : Scope) (place : Place) → enums_of (around u) ≡ enums_of (around w) → (n : Name) → failures (enum_named u place n) ≡ failures (enum_named w place n)
named_alike u w place same n = fails-alike (visible_enum (around u) n) ∙ ap (λ o. failures (or_fails (option_map (λ e. enum_of n w) o) rules.P8 place)) (enum_alike (around u) (around w) n same)
  where
    fails-alike : (o : Option EnumOf) → failures (or_fails (option_map (λ e. enum_of n u) o) rules.P8 place) ≡ failures (or_fails (option_map (λ e. enum_of n w) o) rules.P8 place)
    fails-alike None = refl
    fails-alike (Some e) = refl

-- an enumeration's name fails alike where the enumerations are the same
pub enum_name_alike : (u w : Scope) (place : Place) (path : Path) (item : Option Name) → ((n : Name) → failures (enum_named u place n) ≡ failures (enum_named w place n)) → failures (from_path form.EnumName u place path item) ≡ failures (from_path form.EnumName w place path item)
enum_name_alike u w place path item h = go (bare_name path item)
  where
    go : (o : Option Name) → failures (then (or_fails o rules.P6 place) λ n. enum_named u place n) ≡ failures (then (or_fails o rules.P6 place) λ n. enum_named w place n)
    go None = refl
    go (Some n) = h n

-- Values.

after-alike : {A B : Type 0} (o p : Outcome A) (f g : A → Outcome B) → o ≡ p → ((x : A) → failures (f x) ≡ failures (g x)) → failures (then o f) ≡ failures (then p g)
after-alike {A = A} {B = B} o p f g e h = go o ∙ ap (λ q. failures (then q g)) e
  where
    go : (q : Outcome A) → failures (then q f) ≡ failures (then q g)
    go (Ok x) = h x
    go (Err k) = refl

pub ref_alike : (f : Form) (u w : Scope) (place : Place) (path : Path) (item : Option Name) → values (around u) (flat_map (λ t. t.index.now) (steps_of path)) ≡ values (around w) (flat_map (λ t. t.index.now) (steps_of path))
    → failures (from_path f u place path item) ≡ failures (from_path f w place path item) → failures (from_expr f u place (expr.Ref path item)) ≡ failures (from_expr f w place (expr.Ref path item))
ref_alike f u w place path item e h =
    let is = flat_map (λ t. t.index.now) (steps_of path) in
    after-alike (values (around u) is) (values (around w) is) (λ ns. from_path f u place path item) (λ ns. from_path f w place path item) e (λ ns. h)

pub value_alike : (f : Form) (place : Place) (e : Expr) → ((p : Path) (item : Option Name) → e ≡ expr.Ref p item → ⊥) → (same : Bool) (v : Around) → IsSteady same v e → (u w : Scope) → AreNamedAs same v (around u) → AreNamedAs same v (around w)
    → failures (from_expr f u place e) ≡ failures (from_expr f w place e)
value_alike f place e other same v h u w a b =
    ap failures (sym (constant_expr f u place e other) ∙ ap (λ o. then o λ x. or_fails (from_value f x) rules.P6 place) (h (around u) (around w) a b) ∙ constant_expr f w place e other)

abbrev given-as : Form → Scope → Place → Option Assigned → Option Trigger → Outcome Meaning
given-as f v place g None = from_given f v place g
given-as f v place g (Some e) = from_trigger f place e g

pub set_alike : (same : Bool) (v : Around) (p : Prop) (s : Set) → IsSteadyGiven same v (takes_of p) s.value → IsSteadySet same v p s
set_alike same v p s h u w a b = go s.trigger
  where
    go : (o : Option Trigger) → failures (given-as (takes_of p) u s.place s.value o) ≡ failures (given-as (takes_of p) w s.place s.value o)
    go None = h s.place u w a b
    go (Some e) = refl
