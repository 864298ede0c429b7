-- The enumeration that a property of a plain node is set to is visible in bodies that are plain.
use Rattle.std.proofs.Common.{◌≡◌, ◌∙◌, ℕ, ◌+◌, length, Bool, true, false, not, ◌&&◌, cond, is_some, List, [], ◌∷◌, ◌++◌, map, flat_map, filter, find, Option, None, Some, option_map, option_to_list, Ok, Err, refl, sym, subst}
use Rattle.std.specs.List.{AllByRecursion}
use Rattle.std.specs.Option.{option_or}
use Rattle.plain_lemmas.proofs.Lists.{each-append, each-filter, each-flat_map, each-imp, each-mapped}
use Rattle.rb_base.specs.declared.place.Place.{Place}
use Rattle.rb_base.specs.declared.trigger.Trigger.{Trigger}
use Rattle.rdl_base.specs.declared.fault.Fault.{Fault}
use Rattle.rdl_base.specs.declared.rule.Rule.TheVariants as rules
use Rattle.rdl_tree.specs.declared.expr.Expr.{Expr, Number, Flag, Str, Ref, EntryOf, Not', Binary', Pick'}
use Rattle.rdl_tree.specs.declared.expr.Name.{Name}
use Rattle.rdl_tree.specs.declared.expr.Path.{Path}
use Rattle.rdl_tree.specs.declared.item.Assigned.{Assigned}
use Rattle.rdl_tree.specs.declared.item.Assigned.TheVariants as given_
use Rattle.rdl_tree.specs.declared.item.Item.{Item}
use Rattle.rdl_props.specs.declared.form.Form.TheVariants as form
use Rattle.rdl_props.specs.declared.prop.Prop.{Prop}
use Rattle.rdl_props.specs.declared.prop.Prop.TheVariants as prop
use Rattle.rdl_props.specs.contracts.prop.Prop as of_prop
use Rattle.rdl_props.specs.Same.{same_prop}
use Rattle.rdl_props.specs.Table.{default_of, group_of, takes_of}
use denote.Enum.Bare.{same_true}
use Rattle.rdl_values.specs.Bodies.{Body, Layer, Scope, around, standing, standing_from}
use Rattle.rdl_values.specs.Instances.{Instance, body}
use Rattle.rdl_values.specs.Uses.{Use, values}
use Rattle.rdl_values.specs.Values.{EnumOf, Outcome, Val, bare_name, number_of, or_fails, then, value_of, visible_enum}
use Rattle.rdl_values.specs.Visible.{enum_before}
use Rattle.rdl_values.specs.Views as view
use Rattle.rdl_values.specs.Views.{ItemIs, item_is, steps_of}
use Rattle.rdl_values.proofs.Given.{each-map}
use Rattle.rdl_layers.specs.declared.rank.Rank.{Rank}
use Rattle.rdl_layers.specs.declared.rank.Rank.TheVariants as rank
use Rattle.rdl_layers.specs.Assignments.{Dynamic, Nested, default_in, defaults_before, dynamic_in, dynamics, is_among, local_in, locals, targets}
use Rattle.rdl_layers.specs.Forms.{Meaning, unset, number, named, enum_of, from_value}
use Rattle.rdl_layers.specs.Judged.{anywhere, failures_of, failures_of_dynamic, legal_on, sound}
use Rattle.rdl_layers.specs.Meanings.{Assignment, enum_named, from_expr, from_given, from_path, from_trigger, meaning, meaning_as, prop_of}
use Rattle.rdl_layers.specs.Settings.{Applied, applied, applied_to, deciding_of, from_above, from_body, from_defaults, from_instance, given, gives, is_false, meaning_of_default, setting, settled, settled_if}
use Rattle.rdl_verdict_laws.proofs.EntryNames.{IsPlainEnum}
use Rattle.rdl_verdict_laws.proofs.EnumScopes.{IsPlainBody, IsPlainLayer, IsPlainNode, IsPlainScope, Stands, plain-at, stand}

-- What an assignment means.

-- the enumeration that is named is looked up in plain bodies
abbrev pub IsPlainMeaning : Meaning → Type 0
IsPlainMeaning (enum_of n scope) = IsPlainScope scope
IsPlainMeaning _ = Unit {0}

abbrev IsPlainOutcome : Outcome Meaning → Type 0
IsPlainOutcome (Ok m) = IsPlainMeaning m
IsPlainOutcome (Err f) = Unit {0}

then-plain : {A : Type 0} (o : Outcome A) (f : A → Outcome Meaning) → ((x : A) → IsPlainOutcome (f x)) → IsPlainOutcome (then o f)
then-plain (Ok x) f h = h x
then-plain (Err e) f h = tt

module _ (scope : Scope) (place : Place) (plain : IsPlainScope scope) where
  path-plain : (p : Path) (item : Option Name) → IsPlainOutcome (from_path form.EnumName scope place p item)
  path-plain p item = then-plain (or_fails (bare_name p item) rules.P6 place) (λ n. enum_named scope place n) (λ n. go n (visible_enum (around scope) n))
    where
      go : (n : Name) (o : Option EnumOf) → IsPlainOutcome (or_fails (option_map (λ e. enum_of n scope) o) rules.P8 place)
      go n None = tt
      go n (Some e) = plain

  no-value : (o : Outcome Val) → IsPlainOutcome (then o λ v. or_fails (from_value form.EnumName v) rules.P6 place)
  no-value o = then-plain o (λ v. or_fails (from_value form.EnumName v) rules.P6 place) (λ v. tt)

  expr-plain : (e : Expr) → IsPlainOutcome (from_expr form.EnumName scope place e)
  expr-plain (Ref p item) = then-plain (values (around scope) (flat_map (λ t. t.index.now) (steps_of p))) (λ is. from_path form.EnumName scope place p item) (λ is. path-plain p item)
  expr-plain (Number n p) = no-value (value_of (around scope) (Number n p))
  expr-plain (Flag b p) = no-value (value_of (around scope) (Flag b p))
  expr-plain (Str s p) = no-value (value_of (around scope) (Str s p))
  expr-plain (EntryOf e n) = no-value (value_of (around scope) (EntryOf e n))
  expr-plain (Not' q e p) = no-value (value_of (around scope) (Not' q e p))
  expr-plain (Binary' o q a r b p) = no-value (value_of (around scope) (Binary' o q a r b p))
  expr-plain (Pick' q c r a s b p) = no-value (value_of (around scope) (Pick' q c r a s b p))

  given-plain : (o : Option Assigned) → IsPlainOutcome (from_given form.EnumName scope place o)
  given-plain None = tt
  given-plain (Some (given_.Word w)) = tt
  given-plain (Some (given_.Expr e)) = expr-plain e

meaning-plain : (a : Assignment) → IsPlainScope a.scope → IsPlainOutcome (meaning_as form.EnumName a)
meaning-plain a h = go a.set_.trigger refl
  where
    triggered : (e : Trigger) (o : Option Assigned) → IsPlainOutcome (from_trigger form.EnumName a.set_.place e o)
    triggered e None = tt
    triggered e (Some g) = tt

    go : (o : Option Trigger) → a.set_.trigger ≡ o → IsPlainOutcome (meaning_as form.EnumName a)
    go None e = rw e (given-plain a.scope a.set_.place h a.set_.value)
    go (Some x) e = rw e (triggered x a.set_.value)

-- All that applies to a node.

abbrev IsPlainApplied : Applied → Type 0
IsPlainApplied a = takes_of a.candidate.prop ≡ form.EnumName → IsPlainMeaning a.value

abbrev IsPlainAssignment : Assignment → Type 0
IsPlainAssignment a = IsPlainScope a.scope

gives-plain : (r : Rank) (a : Assignment) → IsPlainAssignment a → AllByRecursion IsPlainApplied (gives r a)
gives-plain r a h = go (prop_of a)
  where
    one : (p : Prop) (o : Outcome Meaning) → (takes_of p ≡ form.EnumName → IsPlainOutcome o) → AllByRecursion IsPlainApplied (map (applied r p) (given o))
    one p (Ok m) f = (f, tt)
    one p (Err e) f = tt

    go : (o : Option Prop) → AllByRecursion IsPlainApplied (flat_map (λ p. map (applied r p) (given (meaning p a))) (option_to_list o))
    go None = tt
    go (Some p) = each-append IsPlainApplied (map (applied r p) (given (meaning p a))) [] (one p (meaning p a) (λ e. subst (λ f. IsPlainOutcome (meaning_as f a)) (sym e) (meaning-plain a h))) tt

all-give : (r : Rank) (as' : List Assignment) → AllByRecursion IsPlainAssignment as' → AllByRecursion IsPlainApplied (flat_map (gives r) as')
all-give r as' h = each-flat_map IsPlainApplied (gives r) as' (each-imp IsPlainAssignment (λ a. AllByRecursion IsPlainApplied (gives r a)) as' (gives-plain r) h)

-- what is left of some is of them
standing-each : {X : Type 0} (P : X → Type 0) (before xs : List X) → AllByRecursion P xs → AllByRecursion (λ x. P x.1) (standing_from before xs)
standing-each P before [] h = tt
standing-each P before (x ∷ xs) h = (h.0, standing-each P (before ++ (x ∷ [])) xs h.1)

sound-each : {X : Type 0} (P : X → Type 0) (f : List X × X → List Fault) (xs : List X) → AllByRecursion P xs → AllByRecursion P (sound f xs)
sound-each P f xs h = each-mapped (λ x. P x.1) P (λ x. x.1) _ (λ x p. p) (each-filter (λ x. P x.1) _ (standing xs) (standing-each P [] xs h))

-- The assignments of a body.

module _ (b : Body) (plain : IsPlainBody b) where
  local-plain : (i : List Item × Item) → Stands i → AllByRecursion IsPlainAssignment (local_in b i)
  local-plain i h = go (item_is i.1) refl
    where
      go : (v : ItemIs) → item_is i.1 ≡ v → AllByRecursion IsPlainAssignment (local_in b i)
      go (view.local s) e = rw e (plain-at b i.0 plain h.0, tt)
      go (view.definition d) e = rw e tt
      go (view.enumeration n es) e = rw e tt
      go (view.made a of is) e = rw e tt
      go (view.default_ s) e = rw e tt
      go (view.dynamic p s) e = rw e tt

  locals-plain : AllByRecursion IsPlainAssignment (locals b)
  locals-plain = each-flat_map IsPlainAssignment (local_in b) (standing b.items) (each-imp Stands (λ i. AllByRecursion IsPlainAssignment (local_in b i)) (standing b.items) local-plain (stand b.items plain.items))

  dynamic-plain : (i : List Item × Item) → Stands i → AllByRecursion (λ d. IsPlainAssignment d.assigns) (dynamic_in b i)
  dynamic-plain i h = go (item_is i.1) refl
    where
      go : (v : ItemIs) → item_is i.1 ≡ v → AllByRecursion (λ d. IsPlainAssignment d.assigns) (dynamic_in b i)
      go (view.dynamic p s) e = rw e (plain-at b i.0 plain h.0, tt)
      go (view.definition d) e = rw e tt
      go (view.enumeration n es) e = rw e tt
      go (view.made a of is) e = rw e tt
      go (view.default_ s) e = rw e tt
      go (view.local s) e = rw e tt

  dynamics-plain : AllByRecursion (λ d. IsPlainAssignment d.assigns) (dynamics b)
  dynamics-plain = each-flat_map (λ d. IsPlainAssignment d.assigns) (dynamic_in b) (standing b.items) (each-imp Stands (λ i. AllByRecursion (λ d. IsPlainAssignment d.assigns) (dynamic_in b i)) (standing b.items) dynamic-plain (stand b.items plain.items))

module _ (l : Layer) (outer : Scope) (plain : IsPlainLayer l) (rest : IsPlainScope outer) where
  default-plain : (i : List Item × Item) → Stands i → AllByRecursion IsPlainAssignment (default_in l outer i)
  default-plain i h = go (item_is i.1) refl
    where
      go : (v : ItemIs) → item_is i.1 ≡ v → AllByRecursion IsPlainAssignment (default_in l outer i)
      go (view.default_ s) e = rw e ((record { names = plain.names; before = h.0 }, rest), tt)
      go (view.definition d) e = rw e tt
      go (view.enumeration n es) e = rw e tt
      go (view.made a of is) e = rw e tt
      go (view.local s) e = rw e tt
      go (view.dynamic p s) e = rw e tt

  defaults-plain : AllByRecursion IsPlainAssignment (defaults_before l outer)
  defaults-plain = each-flat_map IsPlainAssignment (default_in l outer) (standing l.before) (each-imp Stands (λ i. AllByRecursion IsPlainAssignment (default_in l outer i)) (standing l.before) default-plain (stand l.before plain.before))

-- The layers.

from-defaults : (n : Instance) (k : ℕ) (scope : Scope) → IsPlainScope scope → AllByRecursion IsPlainApplied (from_defaults n k scope)
from-defaults n k [] h = tt
from-defaults n k (l ∷ outer) h =
    let own = flat_map (gives (rank.Default k)) (sound (failures_of anywhere) (defaults_before l outer)) in
    each-append IsPlainApplied (filter (λ a. legal_on n a.candidate.prop) own) (from_defaults n (k + 1) outer)
    (each-filter IsPlainApplied (λ a. legal_on n a.candidate.prop) own (all-give (rank.Default k) (sound (failures_of anywhere) (defaults_before l outer)) (sound-each IsPlainAssignment (failures_of anywhere) (defaults_before l outer) (defaults-plain l outer h.0 h.1))))
    (from-defaults n (k + 1) outer h.1)

from-above : (n : Instance) (b : Nested) → IsPlainBody b.1 → AllByRecursion IsPlainApplied (from_above n b)
from-above n b h =
    let all = sound (failures_of_dynamic b) (dynamics b.1) in
    let led = filter (λ d. is_among (targets b d) n) all in
    let each = each-filter (λ d. IsPlainAssignment d.assigns) (λ d. is_among (targets b d) n) all (sound-each (λ d. IsPlainAssignment d.assigns) (failures_of_dynamic b) (dynamics b.1) (dynamics-plain b.1 h)) in
    each-flat_map IsPlainApplied (λ d. gives (rank.Dynamic (length b.0)) d.assigns) led (each-imp (λ d. IsPlainAssignment d.assigns) (λ d. AllByRecursion IsPlainApplied (gives (rank.Dynamic (length b.0)) d.assigns)) led (λ d. gives-plain (rank.Dynamic (length b.0)) d.assigns) each)

from-instance : (u : Use) → AllByRecursion IsPlainApplied (from_instance u)
from-instance u = go u.form.reset
  where
    go : (o : Option Expr) → AllByRecursion IsPlainApplied (flat_map (λ e. map (λ k. applied rank.Instance prop.Reset (number k)) (given (number_of (around u.scope) e))) (option_to_list o))
    go None = tt
    go (Some e) = each-append IsPlainApplied (map (λ k. applied rank.Instance prop.Reset (number k)) (given (number_of (around u.scope) e))) [] (each-map IsPlainApplied (λ k. applied rank.Instance prop.Reset (number k)) (given (number_of (around u.scope) e)) (λ k. λ t. tt)) tt

applied-plain : (n : Instance) → IsPlainNode n → AllByRecursion IsPlainApplied (applied_to n)
applied-plain n h =
    let up = standing-each IsPlainBody [] n.above h.above in
    let above = each-flat_map IsPlainApplied (from_above n) (standing n.above) (each-imp (λ b. IsPlainBody b.1) (λ b. AllByRecursion IsPlainApplied (from_above n b)) (standing n.above) (from-above n) up) in
    let own = each-append IsPlainApplied (flat_map (from_above n) (standing n.above)) (from_instance n.use_) above (from-instance n.use_) in
    let inside = all-give rank.Body (sound (failures_of (legal_on n)) (locals (body n))) (sound-each IsPlainAssignment (failures_of (legal_on n)) (locals (body n)) (locals-plain (body n) h.inside)) in
    let three = each-append IsPlainApplied (flat_map (from_above n) (standing n.above) ++ from_instance n.use_) (from_body n) own inside in
    each-append IsPlainApplied (flat_map (from_above n) (standing n.above) ++ from_instance n.use_ ++ from_body n) (from_defaults n 0 n.closure.scope) three (from-defaults n 0 n.closure.scope h.inside.outer)

found-plain : (f : Applied → Bool) (xs : List Applied) (a : Applied) → AllByRecursion IsPlainApplied xs → find f xs ≡ Some a → IsPlainApplied a
found-plain f [] a h e = cc
found-plain f (x ∷ xs) a h e = go (f x) refl (found-plain f xs a h.1)
  where
    here : Option Applied → Type 0
    here None = Unit {0}
    here (Some y) = IsPlainApplied y

    go : (b : Bool) → f x ≡ b → (find f xs ≡ Some a → IsPlainApplied a) → IsPlainApplied a
    go true q rest = let one : Some x ≡ Some a = sym (rw q refl) ∙ e in subst here one h.0
    go false q rest = let later : find f xs ≡ Some a = sym (rw q refl) ∙ e in rest later

settled-plain : (a : Applied) → IsPlainApplied a → IsPlainMeaning (settled prop.Encode a)
settled-plain a h = go (same_prop prop.Encode a.candidate.prop) refl (not (is_some (group_of prop.Encode) && is_false a.value))
  where
    go : (s : Bool) → same_prop prop.Encode a.candidate.prop ≡ s → (t : Bool) → IsPlainMeaning (cond (s && t) a.value unset)
    go true e true = h (subst (λ q. takes_of q ≡ form.EnumName) (same_true of_prop.the_type tt prop.Encode a.candidate.prop e) refl)
    go true e false = tt
    go false e t = tt

pub encode-plain : (n : Instance) → IsPlainNode n → IsPlainMeaning (setting n prop.Encode)
unfolding setting
encode-plain n h = go (deciding_of prop.Encode all) refl
  where
    all : List Applied
    all = applied_to n ++ (applied rank.Table prop.Encode (meaning_of_default (default_of prop.Encode)) ∷ [])

    each : AllByRecursion IsPlainApplied all
    each = each-append IsPlainApplied (applied_to n) (applied rank.Table prop.Encode (meaning_of_default (default_of prop.Encode)) ∷ []) (applied-plain n h) ((λ t. tt), tt)

    go : (o : Option Applied) → deciding_of prop.Encode all ≡ o → IsPlainMeaning (settled_if prop.Encode o)
    go None e = tt
    go (Some a) e = settled-plain a (found-plain _ all a each e)

-- A visible enumeration.

found-enum : (f : EnumOf → Bool) (es : List EnumOf) (e : EnumOf) → AllByRecursion IsPlainEnum es → find f es ≡ Some e → IsPlainEnum e
found-enum f [] e h q = cc
found-enum f (x ∷ es) e h q = go (f x) refl (found-enum f es e h.1)
  where
    here : Option EnumOf → Type 0
    here None = Unit {0}
    here (Some y) = IsPlainEnum y

    go : (b : Bool) → f x ≡ b → (find f es ≡ Some e → IsPlainEnum e) → IsPlainEnum e
    go true p rest = let one : Some x ≡ Some e = sym (rw p refl) ∙ q in subst here one h.0
    go false p rest = let later : find f es ≡ Some e = sym (rw p refl) ∙ q in rest later

pub visible-plain : (scope : Scope) (n : Name) (e : EnumOf) → IsPlainScope scope → visible_enum (around scope) n ≡ Some e → IsPlainEnum e
visible-plain [] n e h q = cc
visible-plain (l ∷ outer) n e h q = go (enum_before n l.names) refl (visible-plain outer n e h.1) q
  where
    here : Option EnumOf → Type 0
    here None = Unit {0}
    here (Some y) = IsPlainEnum y

    go : (o : Option EnumOf) → enum_before n l.names ≡ o → (visible_enum (around outer) n ≡ Some e → IsPlainEnum e) → option_or o (visible_enum (around outer) n) ≡ Some e → IsPlainEnum e
    go None p rest k = rest k
    go (Some x) p rest k = subst here k (found-enum _ l.names.enums x h.0.names p)
