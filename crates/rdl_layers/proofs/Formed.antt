-- A setting has the form that its row takes.
use Rattle.std.proofs.Common.{◌≡◌, ℕ, ◌+◌, length, bytes_eq, codes, Bool, true, false, not, ◌&&◌, cond, is_some, List, [], ◌∷◌, ◌++◌, map, flat_map, filter, find, Option, None, Some, option_map, option_and_then, option_to_list, Ok, Err, refl, sym, subst, ◌∙◌}
use Rattle.std.specs.List.{AllByRecursion}
use Rattle.rb_base.specs.declared.trigger.Trigger.{Trigger}
use Rattle.rdl_base.specs.declared.keyword.Keyword.{Keyword}
use Rattle.rdl_base.specs.declared.keyword.Keyword.TheVariants as word
use Rattle.rb_base.specs.declared.place.Place.{Place}
use Rattle.rdl_base.specs.declared.rule.Rule.{Rule}
use Rattle.rdl_base.specs.declared.rule.Rule.TheVariants as rules
use Rattle.rdl_tree.specs.declared.expr.Expr.{Expr, Number, Flag, Str, Ref, EntryOf, Not', Binary', Pick'}
use Rattle.rdl_tree.specs.declared.expr.Name.{Name}
use Rattle.rdl_tree.specs.declared.expr.Path.{Path}
use Rattle.rdl_tree.specs.declared.item.Assigned.{Assigned}
use Rattle.rdl_tree.specs.declared.item.Assigned.TheVariants as given_
use Rattle.rdl_props.specs.declared.form.Form.{Form}
use Rattle.rdl_props.specs.declared.form.Form.TheVariants as form
use Rattle.rdl_props.specs.declared.prop.Prop.{Prop}
use Rattle.rdl_props.specs.declared.prop.Prop.TheVariants as prop
use Rattle.rdl_props.specs.Same.{same_prop}
use Rattle.rdl_props.specs.Table.{props, reference_props, takes_of, default_of, group_of}
use Rattle.rdl_values.specs.Bodies.{Scope, standing, around}
use Rattle.rdl_values.specs.Instances.{Instance, body}
use Rattle.rdl_values.specs.Uses.{Use, values}
use Rattle.rdl_values.specs.Values.{Val, EnumOf, visible_enum, Outcome, fails, then, or_fails, value_of, bare_name, parameter_of, number_of}
use Rattle.rdl_values.specs.Values as val
use Rattle.rdl_values.specs.Views.{steps_of}
use Rattle.rdl_values.proofs.Given.{each-map}
use Rattle.plain_lemmas.proofs.Lists.{each-append, each-filter}
use Rattle.rdl_layers.specs.declared.rank.Rank.{Rank}
use Rattle.rdl_layers.specs.declared.rank.Rank.TheVariants as rank
use Rattle.rdl_layers.specs.Assignments.{Nested, locals, defaults_before, dynamics, targets, is_among}
use Rattle.rdl_layers.specs.Judged.{failures_of, failures_of_dynamic, legal_on, anywhere, sound}
use Rattle.rdl_layers.specs.Formed.{IsOfForm}
use denote.Enum.Bare.{same_true}
use Rattle.rdl_props.specs.contracts.prop.Prop as of_prop
use Rattle.rdl_layers.specs.Forms.{Meaning, hard, unset, named, enum_of, reference, from_value, from_word, addressing_word, sw_word, hw_word, write_word, read_word, takes_reference, side, level_if, only_true}
use Rattle.rdl_layers.specs.Meanings.{Assignment, prop_of, meaning, meaning_as, from_given, from_expr, from_trigger, from_path, parameter_or_reference, enum_named}
use Rattle.rdl_layers.specs.Settings.{Applied, applied, given, gives, from_above, from_instance, from_body, from_defaults, applied_to, is_false, settled, settled_if, deciding_of, meaning_of_default, setting_or, setting}

-- Constants.

abbrev Formed : Form → Option Meaning → Type 0
Formed f None = Unit {0}
Formed f (Some m) = IsOfForm f m

true_formed : (b : Bool) → Formed form.TrueOnly (only_true b)
true_formed true = refl
true_formed false = tt

level_formed : (b : Bool) → IsOfForm form.Intr (level_if b)
level_formed true = tt
level_formed false = refl

value_formed : (f : Form) (v : Val) → Formed f (from_value f v)
value_formed form.Str (val.number n) = tt
value_formed form.Str (val.flag b) = tt
value_formed form.Str (val.text s) = tt
value_formed form.Flag (val.number n) = tt
value_formed form.Flag (val.flag b) = tt
value_formed form.Flag (val.text s) = tt
value_formed form.TrueOnly (val.number n) = true_formed _
value_formed form.TrueOnly (val.flag b) = true_formed b
value_formed form.TrueOnly (val.text s) = tt
value_formed form.Number (val.number n) = tt
value_formed form.Number (val.flag b) = tt
value_formed form.Number (val.text s) = tt
value_formed form.FlagNumber (val.number n) = tt
value_formed form.FlagNumber (val.flag b) = tt
value_formed form.FlagNumber (val.text s) = tt
value_formed form.FlagRefer (val.number n) = tt
value_formed form.FlagRefer (val.flag b) = tt
value_formed form.FlagRefer (val.text s) = tt
value_formed form.NumberRefer (val.number n) = tt
value_formed form.NumberRefer (val.flag b) = tt
value_formed form.NumberRefer (val.text s) = tt
value_formed form.FlagNumberRefer (val.number n) = tt
value_formed form.FlagNumberRefer (val.flag b) = tt
value_formed form.FlagNumberRefer (val.text s) = tt
value_formed form.Intr (val.number n) = level_formed _
value_formed form.Intr (val.flag b) = level_formed b
value_formed form.Intr (val.text s) = tt
value_formed _ v = tt

-- Words.

addressing_formed : (w : Keyword) → Formed form.AddressingWord (option_map named (addressing_word w))
addressing_formed word.Compact = refl
addressing_formed word.Regalign = refl
addressing_formed word.Fullalign = refl
addressing_formed _ = tt

hw_formed : (w : Keyword) → Formed form.HwWord (option_map named (hw_word w))
hw_formed word.Rw = refl
hw_formed word.Wr = refl
hw_formed word.R = refl
hw_formed word.W = refl
hw_formed word.Na = refl
hw_formed _ = tt

sw_formed : (w : Keyword) → Formed form.SwWord (option_map named (sw_word w))
sw_formed word.Rw1 = refl
sw_formed word.W1 = refl
sw_formed word.Rw = refl
sw_formed word.Wr = refl
sw_formed word.R = refl
sw_formed word.W = refl
sw_formed word.Na = refl
sw_formed _ = tt

write_formed : (w : Keyword) → Formed form.WriteWord (option_map named (write_word w))
write_formed word.Woset = refl
write_formed word.Woclr = refl
write_formed word.Wot = refl
write_formed word.Wzs = refl
write_formed word.Wzc = refl
write_formed word.Wzt = refl
write_formed word.Wclr = refl
write_formed word.Wset = refl
write_formed _ = tt

read_formed : (w : Keyword) → Formed form.ReadWord (option_map named (read_word w))
read_formed word.Rclr = refl
read_formed word.Rset = refl
read_formed _ = tt

word_formed : (f : Form) (w : Keyword) → Formed f (from_word f w)
word_formed form.AddressingWord w = addressing_formed w
word_formed form.SwWord w = sw_formed w
word_formed form.HwWord w = hw_formed w
word_formed form.WriteWord w = write_formed w
word_formed form.ReadWord w = read_formed w
word_formed _ w = tt

-- Assignments.

abbrev Given_formed : Form → Outcome Meaning → Type 0
Given_formed f (Err e) = Unit {0}
Given_formed f (Ok m) = IsOfForm f m

or_formed : (f : Form) (o : Option Meaning) (r : Rule) (p : Place) → Formed f o → Given_formed f (or_fails o r p)
or_formed f None r p h = tt
or_formed f (Some m) r p h = h

then_formed : {A : Type 0} (f : Form) (o : Outcome A) (g : A → Outcome Meaning) → ((x : A) → Given_formed f (g x)) → Given_formed f (then o g)
then_formed f (Ok x) g h = h x
then_formed f (Err e) g h = tt

reference_formed : (f : Form) (p : Path) (item : Option Name) (scope : Scope) (place : Place) → takes_reference f ≡ true → IsOfForm f (reference p item scope place)
reference_formed form.Refer p item scope place e = tt
reference_formed form.FlagRefer p item scope place e = tt
reference_formed form.NumberRefer p item scope place e = tt
reference_formed form.FlagNumberRefer p item scope place e = tt
reference_formed _ p item scope place e = cc

parameter_formed : (f : Form) (scope : Scope) (place : Place) (p : Path) (item : Option Name) (o : Option Val) → Given_formed f (parameter_or_reference f scope place p item o)
parameter_formed f scope place p item (Some v) = or_formed f (from_value f v) rules.P6 place (value_formed f v)
parameter_formed f scope place p item None = go (takes_reference f) refl
  where
    go : (b : Bool) → takes_reference f ≡ b → Given_formed f (cond b (Ok (reference p item scope place)) (fails rules.P6 place))
    go true e = reference_formed f p item scope place e
    go false e = tt

side_formed : (o : Option Name) → Formed form.Side (option_and_then side o)
side_formed None = tt
side_formed (Some n) = by (bytes_eq n.text.now (codes "sw")) (bytes_eq n.text.now (codes "hw"))
  where
    by : (a b : Bool) → Formed form.Side (cond a (Some (hard false)) (cond b (Some (hard true)) None))
    by true b = tt
    by false true = tt
    by false false = tt

path_formed : (f : Form) (scope : Scope) (place : Place) (p : Path) (item : Option Name) → Given_formed f (from_path f scope place p item)
path_formed form.Side scope place p item = or_formed form.Side (option_and_then side (bare_name p item)) rules.P6 place (side_formed (bare_name p item))
path_formed form.EnumName scope place p item = then_formed form.EnumName (or_fails (bare_name p item) rules.P6 place) (λ n. enum_named scope place n) (λ n. or_formed form.EnumName (option_map (λ e. enum_of n scope) (visible_enum (around scope) n)) rules.P8 place (enum_formed n (visible_enum (around scope) n)))
  where
    enum_formed : (n : Name) (o : Option EnumOf) → Formed form.EnumName (option_map (λ e. enum_of n scope) o)
    enum_formed n None = tt
    enum_formed n (Some e) = tt
path_formed f scope place p item = parameter_formed f scope place p item (parameter_of (around scope) (bare_name p item))

expr_formed : (f : Form) (scope : Scope) (place : Place) (e : Expr) → Given_formed f (from_expr f scope place e)
expr_formed f scope place (Ref p item) = then_formed f (values (around scope) (flat_map (λ t. t.index.now) (steps_of p))) (λ is. from_path f scope place p item) (λ is. path_formed f scope place p item)
expr_formed f scope place (Number n p) = then_formed f (value_of (around scope) (Number n p)) (λ v. or_fails (from_value f v) rules.P6 place) (λ v. or_formed f (from_value f v) rules.P6 place (value_formed f v))
expr_formed f scope place (Flag b p) = then_formed f (value_of (around scope) (Flag b p)) (λ v. or_fails (from_value f v) rules.P6 place) (λ v. or_formed f (from_value f v) rules.P6 place (value_formed f v))
expr_formed f scope place (Str s p) = then_formed f (value_of (around scope) (Str s p)) (λ v. or_fails (from_value f v) rules.P6 place) (λ v. or_formed f (from_value f v) rules.P6 place (value_formed f v))
expr_formed f scope place (EntryOf e n) = then_formed f (value_of (around scope) (EntryOf e n)) (λ v. or_fails (from_value f v) rules.P6 place) (λ v. or_formed f (from_value f v) rules.P6 place (value_formed f v))
expr_formed f scope place (Not' q e p) = then_formed f (value_of (around scope) (Not' q e p)) (λ v. or_fails (from_value f v) rules.P6 place) (λ v. or_formed f (from_value f v) rules.P6 place (value_formed f v))
expr_formed f scope place (Binary' o q a r b p) = then_formed f (value_of (around scope) (Binary' o q a r b p)) (λ v. or_fails (from_value f v) rules.P6 place) (λ v. or_formed f (from_value f v) rules.P6 place (value_formed f v))
expr_formed f scope place (Pick' q c r a s b p) = then_formed f (value_of (around scope) (Pick' q c r a s b p)) (λ v. or_fails (from_value f v) rules.P6 place) (λ v. or_formed f (from_value f v) rules.P6 place (value_formed f v))

given_formed : (f : Form) (scope : Scope) (place : Place) (o : Option Assigned) → Given_formed f (from_given f scope place o)
given_formed f scope place None = or_formed f (from_value f (val.flag true)) rules.P6 place (value_formed f (val.flag true))
given_formed f scope place (Some (given_.Word w)) = or_formed f (from_word f w) rules.P6 place (word_formed f w)
given_formed f scope place (Some (given_.Expr e)) = expr_formed f scope place e

trigger_formed : (f : Form) (place : Place) (e : Trigger) (o : Option Assigned) → Given_formed f (from_trigger f place e o)
trigger_formed form.Intr place e None = tt
trigger_formed form.Intr place e (Some g) = tt
trigger_formed _ place e o = tt

meaning_formed : (p : Prop) (a : Assignment) → Given_formed (takes_of p) (meaning p a)
meaning_formed p a = go a.set_.trigger refl
  where
    go : (o : Option Trigger) → a.set_.trigger ≡ o → Given_formed (takes_of p) (meaning_as (takes_of p) a)
    go None e = rw e (given_formed (takes_of p) a.scope a.set_.place a.set_.value)
    go (Some x) e = rw e (trigger_formed (takes_of p) a.set_.place x a.set_.value)

-- All that applies to a node.

abbrev HasForm : Applied → Type 0
HasForm a = IsOfForm (takes_of a.candidate.prop) a.value

gives_formed : (r : Rank) (a : Assignment) → AllByRecursion HasForm (gives r a)
gives_formed r a = go (prop_of a)
  where
    one : (p : Prop) (o : Outcome Meaning) → Given_formed (takes_of p) o → AllByRecursion HasForm (map (applied r p) (given o))
    one p (Ok m) h = (h, tt)
    one p (Err e) h = tt

    go : (o : Option Prop) → AllByRecursion HasForm (flat_map (λ p. map (applied r p) (given (meaning p a))) (option_to_list o))
    go None = tt
    go (Some p) = each-append HasForm (map (applied r p) (given (meaning p a))) [] (one p (meaning p a) (meaning_formed p a)) tt

pub each-all : {X Y : Type 0} (P : Y → Type 0) (f : X → List Y) (xs : List X) → ((x : X) → AllByRecursion P (f x)) → AllByRecursion P (flat_map f xs)
each-all P f [] h = tt
each-all P f (x ∷ xs) h = each-append P (f x) (flat_map f xs) (h x) (each-all P f xs h)

instance_formed : (u : Use) → AllByRecursion HasForm (from_instance u)
instance_formed u = each-all HasForm _ (option_to_list u.form.reset) (λ e. each-map HasForm _ (given (number_of (around u.scope) e)) (λ k. tt))

defaults_formed : (n : Instance) (k : ℕ) (scope : Scope) → AllByRecursion HasForm (from_defaults n k scope)
defaults_formed n k [] = tt
defaults_formed n k (l ∷ outer) =
    each-append HasForm (filter (λ a. legal_on n a.candidate.prop) (flat_map (gives (rank.Default k)) (sound (failures_of anywhere) (defaults_before l outer)))) (from_defaults n (k + 1) outer)
    (each-filter HasForm (λ a. legal_on n a.candidate.prop) (flat_map (gives (rank.Default k)) (sound (failures_of anywhere) (defaults_before l outer))) (each-all HasForm (gives (rank.Default k)) (sound (failures_of anywhere) (defaults_before l outer)) (gives_formed (rank.Default k))))
    (defaults_formed n (k + 1) outer)

above_formed : (n : Instance) (b : Nested) → AllByRecursion HasForm (from_above n b)
above_formed n b = each-all HasForm (λ d. gives (rank.Dynamic (length b.0)) d.assigns) (filter (λ d. is_among (targets b d) n) (sound (failures_of_dynamic b) (dynamics b.1))) (λ d. gives_formed (rank.Dynamic (length b.0)) d.assigns)

pub applied_formed : (n : Instance) → AllByRecursion HasForm (applied_to n)
applied_formed n =
    let above = each-all HasForm (from_above n) (standing n.above) (above_formed n) in
    let own = each-append HasForm (flat_map (from_above n) (standing n.above)) (from_instance n.use_) above (instance_formed n.use_) in
    let inside = each-all HasForm (gives rank.Body) (sound (failures_of (legal_on n)) (locals (body n))) (gives_formed rank.Body) in
    let three = each-append HasForm (flat_map (from_above n) (standing n.above) ++ from_instance n.use_) (from_body n) own inside in
    each-append HasForm (flat_map (from_above n) (standing n.above) ++ from_instance n.use_ ++ from_body n) (from_defaults n 0 n.closure.scope) three (defaults_formed n 0 n.closure.scope)

default_formed : (p : Prop) → IsOfForm (takes_of p) (meaning_of_default (default_of p))
default_formed prop.Addressing = refl
default_formed prop.Sw = refl
default_formed prop.Hw = refl
default_formed prop.Lsb0 = refl
default_formed prop.Littleendian = refl
default_formed _ = tt

found_formed : (f : Applied → Bool) (xs : List Applied) (a : Applied) → AllByRecursion HasForm xs → find f xs ≡ Some a → HasForm a
found_formed f [] a h e = cc
found_formed f (x ∷ xs) a h e = go (f x) refl (found_formed f xs a h.1)
  where
    found_here : Option Applied → Type 0
    found_here None = Unit {0}
    found_here (Some y) = HasForm y

    go : (b : Bool) → f x ≡ b → (find f xs ≡ Some a → HasForm a) → HasForm a
    go true q rest = let here : Some x ≡ Some a = sym (rw q refl) ∙ e in subst found_here here h.0
    go false q rest = let later : find f xs ≡ Some a = sym (rw q refl) ∙ e in rest later

same_prop-is : (p q : Prop) → same_prop p q ≡ true → p ≡ q
same_prop-is p q e = same_true of_prop.the_type tt p q e

settled_formed : (p : Prop) (a : Applied) → HasForm a → IsOfForm (takes_of p) (settled p a)
settled_formed p a h = go (same_prop p a.candidate.prop) refl (not (is_some (group_of p) && is_false a.value))
  where
    go : (s : Bool) → same_prop p a.candidate.prop ≡ s → (t : Bool) → IsOfForm (takes_of p) (cond (s && t) a.value unset)
    go true e true = subst (λ q. IsOfForm (takes_of q) a.value) (sym (same_prop-is p a.candidate.prop e)) h
    go true e false = tt
    go false e t = tt

setting_or_formed : (default : Meaning) (n : Instance) (p : Prop) → IsOfForm (takes_of p) default → IsOfForm (takes_of p) (setting_or default n p)
setting_or_formed default n p h = go (deciding_of p all) refl
  where
    all : List Applied
    all = applied_to n ++ (applied rank.Table p default ∷ [])

    formed : AllByRecursion HasForm all
    formed = each-append HasForm (applied_to n) (applied rank.Table p default ∷ []) (applied_formed n) (h, tt)

    go : (o : Option Applied) → deciding_of p all ≡ o → IsOfForm (takes_of p) (settled_if p o)
    go None e = tt
    go (Some a) e = settled_formed p a (found_formed _ all a formed e)

pub setting_formed : (n : Instance) (p : Prop) → IsOfForm (takes_of p) (setting n p)
unfolding setting
setting_formed n prop.Accesswidth = setting_or_formed (setting_or (meaning_of_default (default_of prop.Regwidth)) n prop.Regwidth) n prop.Accesswidth (setting_or_formed (meaning_of_default (default_of prop.Regwidth)) n prop.Regwidth (default_formed prop.Regwidth))
setting_formed n p = setting_or_formed (meaning_of_default (default_of p)) n p (default_formed p)

-- References.

no_reference : (f : Form) (p : Path) (item : Option Name) (scope : Scope) (place : Place) → takes_reference f ≡ false → IsOfForm f (reference p item scope place) → ⊥
no_reference form.Refer p item scope place e h = cc
no_reference form.FlagRefer p item scope place e h = cc
no_reference form.NumberRefer p item scope place e h = cc
no_reference form.FlagNumberRefer p item scope place e h = cc
no_reference f p item scope place e h = h

pub never_reference : (n : Instance) (p : Prop) (q : Path) (item : Option Name) (scope : Scope) (place : Place) → takes_reference (takes_of p) ≡ false → setting n p ≡ reference q item scope place → ⊥
never_reference n p q item scope place e s = no_reference (takes_of p) q item scope place e (subst (IsOfForm (takes_of p)) s (setting_formed n p))

pub references_listed : filter (λ p. takes_reference (takes_of p)) props ≡ reference_props
unfolding props reference_props
references_listed = refl
