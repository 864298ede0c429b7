-- What an assignment gives, apart from addresses.
use Rattle.std.specs.Option.{option_and_then}
use Rattle.std.specs.Prelude.{bytes_eq, codes}
use Rattle.std.proofs.Common.{◌≡◌, Bool, true, false, cond, refl, sym, ap, ◌∙◌, List, flat_map, Option, Some, None, option_map, Ok, Err}
use Rattle.rb_base.specs.declared.trigger.Trigger.{Trigger}
use Rattle.rdl_base.specs.declared.keyword.Keyword.{Keyword}
use Rattle.rb_base.specs.declared.place.Place.{Place}
use Rattle.rdl_base.specs.declared.rule.Rule.{Rule}
use Rattle.rdl_base.specs.declared.rule.Rule.TheVariants as rules
use Rattle.rdl_tree.specs.declared.expr.Expr.{Expr, Ref}
use Rattle.rdl_tree.specs.declared.expr.Name.{Name}
use Rattle.rdl_tree.specs.declared.expr.Path.{Path}
use Rattle.rdl_tree.specs.declared.expr.Step.{Step}
use Rattle.rdl_tree.specs.declared.item.Assigned.{Assigned}
use Rattle.rdl_tree.specs.declared.item.Assigned.TheVariants as given
use Rattle.rdl_verdict_laws.specs.Plain.{plain_name, plain_expr, plain_path, plain_step, plain_given}
use Rattle.rdl_props.specs.declared.form.Form.{Form}
use Rattle.rdl_props.specs.declared.form.Form.TheVariants as form
use Rattle.rdl_props.specs.declared.prop.Prop.{Prop}
use Rattle.rdl_props.specs.Table.{takes_of}
use Rattle.rdl_values.specs.Bodies.{Scope, around}
use Rattle.rdl_values.specs.Uses.{values}
use Rattle.rdl_values.specs.Values.{Val, Around, Outcome, then, or_fails, as_number, as_flag, as_text, value_of, bare_name, parameter_of, visible_enum, EnumOf}
use Rattle.rdl_values.specs.Values as val
use Rattle.rdl_values.specs.Views.{steps_of}
use Rattle.rdl_verdict_laws.specs.PlainInstances.{plain_scope}
use Rattle.rdl_verdict_laws.proofs.Lists.{flat_under}
use Rattle.rdl_verdict_laws.proofs.Values.{steps-plain, bare_name-plain, parameter-plain, value-plain, values-plain}
use Rattle.rdl_verdict_laws.proofs.Bodies.{around-plain}
use Rattle.rdl_layers.specs.Forms.{Meaning, unset, flag, number, text, named, intr, hard, enum_of, reference, only_true, level_if, flag_or_number, from_value, from_word, addressing_word, sw_word, hw_word, write_word, read_word, takes_reference, side}
use Rattle.rdl_layers.specs.Meanings.{Assignment, enum_named, parameter_or_reference, from_path, from_expr, from_given, from_trigger, meaning_as, meaning}
use Rattle.rdl_verdict_laws.specs.PlainSettings.{plain_meaning, plain_outcome, plain_assignment}

-- Constants and words have no addresses.

clean_map : {A : Type 0} (g : A → Meaning) (h : (a : A) → plain_meaning (g a) ≡ g a) (o : Option A) → option_map plain_meaning (option_map g o) ≡ option_map g o
clean_map g h None = refl
clean_map g h (Some a) = ap Some (h a)

level_clean : (b : Bool) → plain_meaning (level_if b) ≡ level_if b
level_clean true = refl
level_clean false = refl

true_clean : (o : Option Bool) → option_map plain_meaning (option_and_then only_true o) ≡ option_and_then only_true o
true_clean None = refl
true_clean (Some true) = refl
true_clean (Some false) = refl

both_clean : (v : Val) → option_map plain_meaning (flag_or_number v) ≡ flag_or_number v
both_clean (val.number n) = refl
both_clean (val.flag b) = refl
both_clean (val.text s) = refl

value_clean : (f : Form) (v : Val) → option_map plain_meaning (from_value f v) ≡ from_value f v
value_clean form.Str v = clean_map text (λ a. refl) (as_text v)
value_clean form.Flag v = clean_map flag (λ a. refl) (as_flag v)
value_clean form.TrueOnly v = true_clean (as_flag v)
value_clean form.Number v = clean_map number (λ a. refl) (as_number v)
value_clean form.FlagNumber v = both_clean v
value_clean form.FlagRefer v = clean_map flag (λ a. refl) (as_flag v)
value_clean form.NumberRefer v = clean_map number (λ a. refl) (as_number v)
value_clean form.FlagNumberRefer v = both_clean v
value_clean form.Intr v = clean_map level_if level_clean (as_flag v)
value_clean _ v = refl

word_clean : (f : Form) (w : Keyword) → option_map plain_meaning (from_word f w) ≡ from_word f w
word_clean form.AddressingWord w = clean_map named (λ a. refl) (addressing_word w)
word_clean form.SwWord w = clean_map named (λ a. refl) (sw_word w)
word_clean form.HwWord w = clean_map named (λ a. refl) (hw_word w)
word_clean form.WriteWord w = clean_map named (λ a. refl) (write_word w)
word_clean form.ReadWord w = clean_map named (λ a. refl) (read_word w)
word_clean _ w = refl

cond_clean : (b : Bool) (x y : Option Meaning) → option_map plain_meaning x ≡ x → option_map plain_meaning y ≡ y → option_map plain_meaning (cond b x y) ≡ cond b x y
cond_clean true x y h k = h
cond_clean false x y h k = k

side_clean : (o : Option Name) → option_and_then side (option_map plain_name o) ≡ option_map plain_meaning (option_and_then side o)
side_clean None = refl
side_clean (Some n) =
    let hw : Option Meaning = cond (bytes_eq n.text.now (codes "hw")) (Some (hard true)) None in
    sym (cond_clean (bytes_eq n.text.now (codes "sw")) (Some (hard false)) hw refl (cond_clean (bytes_eq n.text.now (codes "hw")) (Some (hard true)) None refl refl))

-- Steps of an outcome.

or_plain : (o : Option Meaning) (r : Rule) (p : Place) → or_fails (option_map plain_meaning o) r p ≡ plain_outcome (or_fails o r p)
or_plain None r p = refl
or_plain (Some m) r p = refl

or_clean : (o : Option Meaning) (r : Rule) (p : Place) → option_map plain_meaning o ≡ o → or_fails o r p ≡ plain_outcome (or_fails o r p)
or_clean o r p h = ap (λ z. or_fails z r p) (sym h) ∙ or_plain o r p

then_plain : {A : Type 0} (x : Outcome A) (f g : A → Outcome Meaning) → ((a : A) → f a ≡ plain_outcome (g a)) → then x f ≡ plain_outcome (then x g)
then_plain (Ok a) f g h = h a
then_plain (Err e) f g h = refl

-- Paths.

map_enum : (n : Name) (s : Scope) (e : Option EnumOf) → option_map (λ (e : EnumOf). enum_of (plain_name n) (plain_scope s)) e ≡ option_map plain_meaning (option_map (λ (e : EnumOf). enum_of n s) e)
map_enum n s None = refl
map_enum n s (Some e) = refl

enum-plain : (s : Scope) (place : Place) (n : Name) → enum_named (plain_scope s) place (plain_name n) ≡ plain_outcome (enum_named s place n)
enum-plain s place n =
    (λ i. or_fails (option_map (λ (e : EnumOf). enum_of (plain_name n) (plain_scope s)) (visible_enum (around-plain s i) n)) rules.P8 place)
    ∙ ap (λ o. or_fails o rules.P8 place) (map_enum n s (visible_enum (around s) n)) ∙ or_plain (option_map (λ (e : EnumOf). enum_of n s) (visible_enum (around s) n)) rules.P8 place

refers-plain : (b : Bool) (p : Path) (item : Option Name) (s : Scope) (place : Place) → cond b (Ok (reference (plain_path p) (option_map plain_name item) (plain_scope s) place)) (or_fails None rules.P6 place) ≡ plain_outcome (cond b (Ok (reference p item s place)) (or_fails None rules.P6 place))
refers-plain true p item s place = refl
refers-plain false p item s place = refl

reference-plain : (f : Form) (s : Scope) (place : Place) (p : Path) (item : Option Name) (v : Option Val) → parameter_or_reference f (plain_scope s) place (plain_path p) (option_map plain_name item) v ≡ plain_outcome (parameter_or_reference f s place p item v)
reference-plain f s place p item (Some v) = or_clean (from_value f v) rules.P6 place (value_clean f v)
reference-plain f s place p item None = refers-plain (takes_reference f) p item s place

named-plain : (s : Scope) (place : Place) (o : Option Name) → then (or_fails (option_map plain_name o) rules.P6 place) (λ n. enum_named (plain_scope s) place n) ≡ plain_outcome (then (or_fails o rules.P6 place) (λ n. enum_named s place n))
named-plain s place None = refl
named-plain s place (Some n) = enum-plain s place n

path_of-plain : (s : Scope) (p : Path) (item : Option Name) → parameter_of (around (plain_scope s)) (bare_name (plain_path p) (option_map plain_name item)) ≡ parameter_of (around s) (bare_name p item)
path_of-plain s p item = (λ i. parameter_of (around-plain s i) (bare_name-plain p item i)) ∙ parameter-plain (around s) (bare_name p item)

any-plain : (f : Form) (s : Scope) (place : Place) (p : Path) (item : Option Name)
    → parameter_or_reference f (plain_scope s) place (plain_path p) (option_map plain_name item) (parameter_of (around (plain_scope s)) (bare_name (plain_path p) (option_map plain_name item))) ≡ plain_outcome (parameter_or_reference f s place p item (parameter_of (around s) (bare_name p item)))
any-plain f s place p item = ap (parameter_or_reference f (plain_scope s) place (plain_path p) (option_map plain_name item)) (path_of-plain s p item) ∙ reference-plain f s place p item (parameter_of (around s) (bare_name p item))

from_path-plain : (f : Form) (s : Scope) (place : Place) (p : Path) (item : Option Name) → from_path f (plain_scope s) place (plain_path p) (option_map plain_name item) ≡ plain_outcome (from_path f s place p item)
from_path-plain form.Side s place p item =
    ap (λ o. or_fails (option_and_then side o) rules.P6 place) (bare_name-plain p item) ∙ ap (λ o. or_fails o rules.P6 place) (side_clean (bare_name p item)) ∙ or_plain (option_and_then side (bare_name p item)) rules.P6 place
from_path-plain form.EnumName s place p item = ap (λ o. then (or_fails o rules.P6 place) (λ n. enum_named (plain_scope s) place n)) (bare_name-plain p item) ∙ named-plain s place (bare_name p item)
from_path-plain f s place p item = any-plain f s place p item

-- Values.

value-given : (f : Form) (s : Scope) (place : Place) (e : Expr) → then (value_of (around (plain_scope s)) (plain_expr e)) (λ v. or_fails (from_value f v) rules.P6 place) ≡ plain_outcome (then (value_of (around s) e) (λ v. or_fails (from_value f v) rules.P6 place))
value-given f s place e =
    ap (λ o. then o (λ v. or_fails (from_value f v) rules.P6 place)) (ap (λ r. value_of r (plain_expr e)) (around-plain s) ∙ value-plain (around s) e)
    ∙ then_plain (value_of (around s) e) (λ v. or_fails (from_value f v) rules.P6 place) (λ v. or_fails (from_value f v) rules.P6 place) (λ v. or_clean (from_value f v) rules.P6 place (value_clean f v))

abbrev index : Step → List Expr
index t = t.index.now

pub indices-plain : (r : Around) (p : Path) → values r (flat_map index (steps_of (plain_path p))) ≡ values r (flat_map index (steps_of p))
indices-plain r p = ap (λ ss. values r (flat_map index ss)) (steps-plain p) ∙ ap (values r) (flat_under index index plain_step plain_expr (λ t. refl) (steps_of p)) ∙ values-plain r (flat_map index (steps_of p))

from_expr-plain : (f : Form) (s : Scope) (place : Place) (e : Expr) → from_expr f (plain_scope s) place (plain_expr e) ≡ plain_outcome (from_expr f s place e)
from_expr-plain f s place (Ref path item) =
    ap (λ o. then o (λ is. from_path f (plain_scope s) place (plain_path path) (option_map plain_name item))) (ap (λ r. values r (flat_map index (steps_of (plain_path path)))) (around-plain s) ∙ indices-plain (around s) path)
    ∙ then_plain (values (around s) (flat_map index (steps_of path))) (λ is. from_path f (plain_scope s) place (plain_path path) (option_map plain_name item)) (λ is. from_path f s place path item) (λ is. from_path-plain f s place path item)
from_expr-plain f s place e = value-given f s place e

given-plain : (f : Form) (s : Scope) (place : Place) (v : Option Assigned) → from_given f (plain_scope s) place (option_map plain_given v) ≡ plain_outcome (from_given f s place v)
given-plain f s place None = or_clean (from_value f (val.flag true)) rules.P6 place (value_clean f (val.flag true))
given-plain f s place (Some (given.Word w)) = or_clean (from_word f w) rules.P6 place (word_clean f w)
given-plain f s place (Some (given.Expr e)) = from_expr-plain f s place e

trigger-plain : (f : Form) (place : Place) (e : Trigger) (v : Option Assigned) → from_trigger f place e (option_map plain_given v) ≡ plain_outcome (from_trigger f place e v)
trigger-plain form.Intr place e None = refl
trigger-plain form.Intr place e (Some g) = refl
trigger-plain _ place e v = refl

as_of : (f : Form) (n : Name) (trigger : Option Trigger) (v : Option Assigned) (place : Place) (s : Scope) → meaning_as f (plain_assignment (record { set_ = record { prop = n; trigger = trigger; value = v; place = place }; scope = s })) ≡ plain_outcome (meaning_as f (record { set_ = record { prop = n; trigger = trigger; value = v; place = place }; scope = s }))
as_of f n None v place s = given-plain f s place v
as_of f n (Some e) v place s = trigger-plain f place e v

pub meaning-plain : (p : Prop) (a : Assignment) → meaning p (plain_assignment a) ≡ plain_outcome (meaning p a)
meaning-plain p a = as_of (takes_of p) a.set_.prop a.set_.trigger a.set_.value a.set_.place a.scope

-- a test that looks at no reference and no enum
pub tested : {A : Type 0} (f : Meaning → A) (h : (n : Name) (s : Scope) → f (enum_of (plain_name n) (plain_scope s)) ≡ f (enum_of n s)) (k : (p : Path) (n : Option Name) (s : Scope) (q : Place) → f (reference (plain_path p) (option_map plain_name n) (plain_scope s) q) ≡ f (reference p n s q))
    (m : Meaning) → f (plain_meaning m) ≡ f m
tested f h k (enum_of n s) = h n s
tested f h k (reference p n s q) = k p n s q
tested f h k unset = refl
tested f h k (flag b) = refl
tested f h k (number n) = refl
tested f h k (text s) = refl
tested f h k (named w) = refl
tested f h k (intr e) = refl
tested f h k (hard b) = refl
