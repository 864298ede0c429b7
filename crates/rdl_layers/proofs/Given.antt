-- What an assignment gives is looked up from where the assignment stands.
use Rattle.std.proofs.Common.{◌≡◌, bytes_eq, codes, Bool, true, false, cond, List, [], map, flat_map, Option, None, Some, option_map, option_and_then, option_to_list, Ok, Err, refl}
use Rattle.std.specs.List.{AllByRecursion}
use Rattle.rb_base.specs.declared.trigger.Trigger.{Trigger}
use Rattle.rdl_base.specs.declared.keyword.Keyword.{Keyword}
use Rattle.rb_base.specs.declared.place.Place.{Place}
use Rattle.rdl_base.specs.declared.rule.Rule.{Rule}
use Rattle.rdl_base.specs.declared.rule.Rule.TheVariants as rules
use Rattle.rdl_tree.specs.declared.expr.Expr.{Expr, Number, Flag, Str, Ref, EntryOf, Not', Binary', Pick'}
use Rattle.rdl_tree.specs.declared.expr.Name.{Name}
use Rattle.rdl_tree.specs.declared.expr.Path.{Path}
use Rattle.rdl_tree.specs.declared.item.Assigned.{Assigned}
use Rattle.rdl_tree.specs.declared.item.Assigned.TheVariants as given_
use Rattle.rdl_props.specs.declared.form.Form.{Form}
use Rattle.rdl_props.specs.declared.form.Form.TheVariants as form
use Rattle.rdl_props.specs.declared.prop.Prop.{Prop}
use Rattle.rdl_props.specs.Table.{takes_of}
use Rattle.rdl_values.specs.Bodies.{Body, Scope, around}
use Rattle.rdl_values.specs.Uses.{values}
use Rattle.rdl_values.specs.Values.{Val, EnumOf, visible_enum, Outcome, fails, then, or_fails, value_of, bare_name, parameter_of}
use Rattle.rdl_values.specs.Values as val
use Rattle.rdl_values.specs.Views.{steps_of}
use Rattle.plain_lemmas.proofs.Lists.{each-append}
use Rattle.rdl_layers.specs.declared.rank.Rank.{Rank}
use Rattle.rdl_layers.specs.Forms.{Meaning, hard, named, enum_of, reference, from_value, from_word, addressing_word, sw_word, hw_word, write_word, read_word, takes_reference, side, level_if, only_true}
use Rattle.rdl_layers.specs.Meanings.{Assignment, prop_of, meaning, meaning_as, from_given, from_expr, from_trigger, from_path, parameter_or_reference, enum_named}
use Rattle.rdl_layers.specs.Settings.{Applied, applied, given, gives}
use Rattle.rdl_layers.specs.Scoped.{IsScoped, IsWithin}

-- Constants and words are looked up nowhere.

abbrev IfScoped : List Body → Option Meaning → Type 0
IfScoped bs None = Unit {0}
IfScoped bs (Some m) = IsScoped bs m

truth : (bs : List Body) (b : Bool) → IfScoped bs (only_true b)
truth bs true = tt
truth bs false = tt

level : (bs : List Body) (b : Bool) → IsScoped bs (level_if b)
level bs true = tt
level bs false = tt

constant : (bs : List Body) (f : Form) (v : Val) → IfScoped bs (from_value f v)
constant bs form.Str (val.number n) = tt
constant bs form.Str (val.flag b) = tt
constant bs form.Str (val.text s) = tt
constant bs form.Flag (val.number n) = tt
constant bs form.Flag (val.flag b) = tt
constant bs form.Flag (val.text s) = tt
constant bs form.TrueOnly (val.number n) = truth bs _
constant bs form.TrueOnly (val.flag b) = truth bs b
constant bs form.TrueOnly (val.text s) = tt
constant bs form.Number (val.number n) = tt
constant bs form.Number (val.flag b) = tt
constant bs form.Number (val.text s) = tt
constant bs form.FlagNumber (val.number n) = tt
constant bs form.FlagNumber (val.flag b) = tt
constant bs form.FlagNumber (val.text s) = tt
constant bs form.FlagRefer (val.number n) = tt
constant bs form.FlagRefer (val.flag b) = tt
constant bs form.FlagRefer (val.text s) = tt
constant bs form.NumberRefer (val.number n) = tt
constant bs form.NumberRefer (val.flag b) = tt
constant bs form.NumberRefer (val.text s) = tt
constant bs form.FlagNumberRefer (val.number n) = tt
constant bs form.FlagNumberRefer (val.flag b) = tt
constant bs form.FlagNumberRefer (val.text s) = tt
constant bs form.Intr (val.number n) = level bs _
constant bs form.Intr (val.flag b) = level bs b
constant bs form.Intr (val.text s) = tt
constant bs _ v = tt

plain : (bs : List Body) (o : Option Keyword) → IfScoped bs (option_map named o)
plain bs None = tt
plain bs (Some w) = tt

a-word : (bs : List Body) (f : Form) (w : Keyword) → IfScoped bs (from_word f w)
a-word bs form.AddressingWord w = plain bs (addressing_word w)
a-word bs form.SwWord w = plain bs (sw_word w)
a-word bs form.HwWord w = plain bs (hw_word w)
a-word bs form.WriteWord w = plain bs (write_word w)
a-word bs form.ReadWord w = plain bs (read_word w)
a-word bs _ w = tt

a-side : (bs : List Body) (o : Option Name) → IfScoped bs (option_and_then side o)
a-side bs None = tt
a-side bs (Some n) = by (bytes_eq n.text.now (codes "sw")) (bytes_eq n.text.now (codes "hw"))
  where
    by : (a b : Bool) → IfScoped bs (cond a (Some (hard false)) (cond b (Some (hard true)) None))
    by true b = tt
    by false true = tt
    by false false = tt

-- Assignments.

abbrev pub OkScoped : List Body → Outcome Meaning → Type 0
OkScoped bs (Err e) = Unit {0}
OkScoped bs (Ok m) = IsScoped bs m

or-scoped : (bs : List Body) (o : Option Meaning) (r : Rule) (p : Place) → IfScoped bs o → OkScoped bs (or_fails o r p)
or-scoped bs None r p h = tt
or-scoped bs (Some m) r p h = h

then-scoped : {A : Type 0} (bs : List Body) (o : Outcome A) (g : A → Outcome Meaning) → ((x : A) → OkScoped bs (g x)) → OkScoped bs (then o g)
then-scoped bs (Ok x) g h = h x
then-scoped bs (Err e) g h = tt

module _ (bs : List Body) (scope : Scope) (within : IsWithin bs scope) where
  from-parameter : (f : Form) (place : Place) (p : Path) (item : Option Name) (o : Option Val) → OkScoped bs (parameter_or_reference f scope place p item o)
  from-parameter f place p item (Some v) = or-scoped bs (from_value f v) rules.P6 place (constant bs f v)
  from-parameter f place p item None = go (takes_reference f)
    where
      go : (b : Bool) → OkScoped bs (cond b (Ok (reference p item scope place)) (fails rules.P6 place))
      go true = within
      go false = tt

  from-name : (place : Place) (n : Name) → OkScoped bs (enum_named scope place n)
  from-name place n = or-scoped bs (option_map (λ e. enum_of n scope) (visible_enum (around scope) n)) rules.P8 place (go (visible_enum (around scope) n))
    where
      go : (o : Option EnumOf) → IfScoped bs (option_map (λ e. enum_of n scope) o)
      go None = tt
      go (Some e) = within

  a-path : (f : Form) (place : Place) (p : Path) (item : Option Name) → OkScoped bs (from_path f scope place p item)
  a-path form.Side place p item = or-scoped bs (option_and_then side (bare_name p item)) rules.P6 place (a-side bs (bare_name p item))
  a-path form.EnumName place p item = then-scoped bs (or_fails (bare_name p item) rules.P6 place) (λ n. enum_named scope place n) (from-name place)
  a-path f place p item = from-parameter f place p item (parameter_of (around scope) (bare_name p item))

  a-value : (f : Form) (place : Place) (e : Expr) → OkScoped bs (then (value_of (around scope) e) (λ v. or_fails (from_value f v) rules.P6 place))
  a-value f place e = then-scoped bs (value_of (around scope) e) (λ v. or_fails (from_value f v) rules.P6 place) (λ v. or-scoped bs (from_value f v) rules.P6 place (constant bs f v))

  an-expr : (f : Form) (place : Place) (e : Expr) → OkScoped bs (from_expr f scope place e)
  an-expr f place (Ref p item) = then-scoped bs (values (around scope) (flat_map (λ t. t.index.now) (steps_of p))) (λ is. from_path f scope place p item) (λ is. a-path f place p item)
  an-expr f place (Number n p) = a-value f place (Number n p)
  an-expr f place (Flag b p) = a-value f place (Flag b p)
  an-expr f place (Str s p) = a-value f place (Str s p)
  an-expr f place (EntryOf e n) = a-value f place (EntryOf e n)
  an-expr f place (Not' q e p) = a-value f place (Not' q e p)
  an-expr f place (Binary' o q a r b p) = a-value f place (Binary' o q a r b p)
  an-expr f place (Pick' q c r a s b p) = a-value f place (Pick' q c r a s b p)

  a-given : (f : Form) (place : Place) (o : Option Assigned) → OkScoped bs (from_given f scope place o)
  a-given f place None = or-scoped bs (from_value f (val.flag true)) rules.P6 place (constant bs f (val.flag true))
  a-given f place (Some (given_.Word w)) = or-scoped bs (from_word f w) rules.P6 place (a-word bs f w)
  a-given f place (Some (given_.Expr e)) = an-expr f place e

a-trigger : (bs : List Body) (f : Form) (place : Place) (e : Trigger) (o : Option Assigned) → OkScoped bs (from_trigger f place e o)
a-trigger bs form.Intr place e None = tt
a-trigger bs form.Intr place e (Some g) = tt
a-trigger bs _ place e o = tt

a-meaning : (bs : List Body) (p : Prop) (a : Assignment) → IsWithin bs a.scope → OkScoped bs (meaning p a)
a-meaning bs p a h = go a.set_.trigger refl
  where
    go : (o : Option Trigger) → a.set_.trigger ≡ o → OkScoped bs (meaning_as (takes_of p) a)
    go None e = rw e (a-given bs a.scope h (takes_of p) a.set_.place a.set_.value)
    go (Some x) e = rw e (a-trigger bs (takes_of p) a.set_.place x a.set_.value)

abbrev pub HasScope : List Body → Applied → Type 0
HasScope bs a = IsScoped bs a.value

pub gives-scoped : (bs : List Body) (r : Rank) (a : Assignment) → IsWithin bs a.scope → AllByRecursion (HasScope bs) (gives r a)
gives-scoped bs r a h = go (prop_of a)
  where
    one : (p : Prop) (o : Outcome Meaning) → OkScoped bs o → AllByRecursion (HasScope bs) (map (applied r p) (given o))
    one p (Ok m) k = (k, tt)
    one p (Err e) k = tt

    go : (o : Option Prop) → AllByRecursion (HasScope bs) (flat_map (λ p. map (applied r p) (given (meaning p a))) (option_to_list o))
    go None = tt
    go (Some p) = each-append (HasScope bs) (map (applied r p) (given (meaning p a))) [] (one p (meaning p a) (a-meaning bs p a h)) tt
