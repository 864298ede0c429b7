-- What is assigned to a node is legal on it.
use Rattle.std.proofs.Common.{◌≡◌, ◌∙◌, ℕ, ◌+◌, length, Bool, true, false, not, ◌&&◌, ◌||◌, cond, is_some, List, [], ◌∷◌, ◌++◌, map, flat_map, filter, find, Option, None, Some, option_to_list, Ok, Err, refl, sym, subst}
use Rattle.std.specs.List.{AllByRecursion, list_any}
use Rattle.rdl_base.specs.declared.fault.Fault.{Fault}
use Rattle.rb_base.specs.declared.place.Place.{Place}
use Rattle.rdl_base.specs.declared.rule.Rule.TheVariants as rules
use Rattle.rdl_tree.specs.Kinds.{same_kind}
use Rattle.rdl_props.specs.Same.{same_prop}
use Rattle.rdl_props.specs.Table.{Default, default_of, group_of, row, takes_of}
use Rattle.rdl_props.specs.Table as table
use Rattle.rdl_props.specs.declared.prop.Prop.{Prop}
use Rattle.rdl_props.specs.declared.prop.Prop.TheVariants as prop
use denote.Enum.Bare.{same_true}
use Rattle.plain_lemmas.proofs.Lists.{each-append, each-filter, each-flat_map, each-imp, filter-each as passes}
use Rattle.rdl_props.specs.contracts.prop.Prop as of_prop
use Rattle.rdl_tree.specs.declared.expr.Name.{Name}
use Rattle.rdl_tree.specs.declared.expr.Path.{Path}
use Rattle.rdl_tree.specs.declared.expr.Step as tree
use Rattle.rdl_tree.specs.declared.item.Kind.{Kind}
use Rattle.rdl_tree.specs.declared.item.Kind.TheVariants as kind
use Rattle.rdl_tree.specs.declared.item.Source.{Source}
use Rattle.rdl_values.specs.Bodies.{Scope, around, standing}
use Rattle.rdl_values.specs.Faults.{at_, when}
use Rattle.rdl_values.specs.Instances.{Instance, body, children, kind_of, nodes}
use Rattle.rdl_values.specs.Parts.{is_empty}
use Rattle.rdl_values.specs.Values.{Outcome, number_of}
use Rattle.rdl_values.proofs.Given.{each-map, none_in}
use Rattle.rdl_nodes.proofs.Members.{In, each-in}
use Rattle.rdl_refs.proofs.OneTarget.{is_same_path}
use Rattle.rdl_layers.specs.declared.rank.Rank.{Rank}
use Rattle.rdl_layers.specs.declared.rank.Rank.TheVariants as rank
use Rattle.rdl_layers.specs.Assignments.{Dynamic, defaults_before, dynamics, is_among, is_step, led_down, locals, same_path, targets}
use Rattle.rdl_layers.specs.Forms.{Meaning, unset, reference, takes_reference}
use Rattle.rdl_layers.specs.Judged.{anywhere, bad_indices, bad_value, failures_of, failures_of_dynamic, illegal, legal_on, no_target, sound, taken, unknown}
use Rattle.rdl_layers.specs.Meanings.{Assignment, meaning, prop_of}
use Rattle.rdl_layers.specs.Settings.{Applied, applied, applied_to, deciding_of, from_above, from_body, from_defaults, from_instance, given, gives, is_false, meaning_of_default, setting, setting_or, settled, settled_if}
use Rattle.rdl_layers.proofs.Formed.{each-all}
use Rattle.rdl_layers.specs.Nested.{nested}
use Rattle.rdl_sound_laws.proofs.Closed.{above-of-nodes, all-closed, nodes-in, one-node}

-- Lists.

-- a sound one fails nothing behind some
abbrev IsSound : {X : Type 0} → (List X × X → List Fault) → X → Type 0
IsSound {X = X} f x = (earlier : List X) × (is_empty (f (earlier, x)) ≡ true)

sound-each : {X : Type 0} (f : List X × X → List Fault) (xs : List X) → AllByRecursion (IsSound f) (sound f xs)
sound-each {X = X} f xs = taken (filter (λ x. is_empty (f x)) (standing xs)) (passes (λ x. is_empty (f x)) (standing xs))
  where
    taken : (ys : List (List X × X)) → AllByRecursion (λ y. is_empty (f y) ≡ true) ys → AllByRecursion (IsSound f) (map (λ y. y.1) ys)
    taken [] h = tt
    taken (y ∷ ys) h = ((y.0, h.0), taken ys h.1)

-- An assignment that is legal gives legal ones.

abbrev IsLegal : Instance → Applied → Type 0
IsLegal n a = legal_on n a.candidate.prop ≡ true

gives-legal : (n : Instance) (r : Rank) (a : Assignment) → is_empty (illegal (legal_on n) a) ≡ true → AllByRecursion (IsLegal n) (gives r a)
gives-legal n r a h = go (prop_of a) h
  where
    legal : (p : Prop) → (b : Bool) → legal_on n p ≡ b → is_empty (when (not b) (at_ rules.P3 a.set_.place) ++ []) ≡ true → legal_on n p ≡ true
    legal p true e k = e
    legal p false e k = cc

    one : (p : Prop) (o : Outcome Meaning) → legal_on n p ≡ true → AllByRecursion (IsLegal n) (map (applied r p) (given o))
    one p (Ok m) k = (k, tt)
    one p (Err e) k = tt

    go : (o : Option Prop) → is_empty (flat_map (λ p. when (not (legal_on n p)) (at_ rules.P3 a.set_.place)) (option_to_list o)) ≡ true → AllByRecursion (IsLegal n) (flat_map (λ p. map (applied r p) (given (meaning p a))) (option_to_list o))
    go None k = tt
    go (Some p) k = each-append (IsLegal n) (map (applied r p) (given (meaning p a))) [] (one p (meaning p a) (legal p (legal_on n p) refl k)) tt

-- The layers.

-- a reference is legal on the node
abbrev HasLegal : Instance → Applied → Type 0
HasLegal n a = (q : Path) (item : Option Name) (scope : Scope) (place : Place) → a.value ≡ reference q item scope place → IsLegal n a

weaken : (n : Instance) (xs : List Applied) → AllByRecursion (IsLegal n) xs → AllByRecursion (HasLegal n) xs
weaken n xs h = each-imp (IsLegal n) (HasLegal n) xs (λ a k q item scope place e. k) h

body-legal : (n : Instance) → AllByRecursion (HasLegal n) (from_body n)
body-legal n = weaken n (from_body n) (each-flat_map (IsLegal n) (gives rank.Body) (sound (failures_of (legal_on n)) (locals (body n)))
    (each-imp (IsSound (failures_of (legal_on n))) (λ a. AllByRecursion (IsLegal n) (gives rank.Body a)) (sound (failures_of (legal_on n)) (locals (body n))) of (sound-each (failures_of (legal_on n)) (locals (body n)))))
  where
    of : (a : Assignment) → IsSound (failures_of (legal_on n)) a → AllByRecursion (IsLegal n) (gives rank.Body a)
    of a h =
        let p = none_in (unknown a ++ illegal (legal_on n) a ++ bad_value a) (taken h.0 a) h.1 in
        let q = none_in (unknown a ++ illegal (legal_on n) a) (bad_value a) p.0 in
        gives-legal n rank.Body a (none_in (unknown a) (illegal (legal_on n) a) q.0).1

defaults-legal : (n : Instance) (k : ℕ) (scope : Scope) → AllByRecursion (HasLegal n) (from_defaults n k scope)
defaults-legal n k [] = tt
defaults-legal n k (l ∷ outer) =
    each-append (HasLegal n) (filter (λ a. legal_on n a.candidate.prop) (flat_map (gives (rank.Default k)) (sound (failures_of anywhere) (defaults_before l outer)))) (from_defaults n (k + 1) outer)
    (weaken n _ (passes (λ a. legal_on n a.candidate.prop) (flat_map (gives (rank.Default k)) (sound (failures_of anywhere) (defaults_before l outer)))))
    (defaults-legal n (k + 1) outer)

instance-legal : (n : Instance) → AllByRecursion (HasLegal n) (from_instance n.use_)
instance-legal n = each-all (HasLegal n) _ (option_to_list n.use_.form.reset) (λ e. each-map (HasLegal n) _ (given (number_of (around n.use_.scope) e)) (λ k q item scope place x. cc x))

-- Dynamic assignments: the node is one of the targets, on each of which the assignment is legal.

module _ (ns : List Instance) (closed : (m : Instance) → In ns m → AllByRecursion (In ns) (children m)) where
  led-in : (test : tree.Step → Instance → Bool) (ms : List Instance) (ts : List tree.Step) → AllByRecursion (In ns) ms → AllByRecursion (In ns) (led_down children test ms ts)
  led-in test ms [] h = tt
  led-in test ms (t ∷ []) h = each-filter (In ns) (test t) ms h
  led-in test ms (t ∷ u ∷ ts) h = led-in test (flat_map children (filter (test t) ms)) (u ∷ ts) (each-flat_map (In ns) children (filter (test t) ms) (each-imp (In ns) (λ m. AllByRecursion (In ns) (children m)) (filter (test t) ms) closed (each-filter (In ns) (test t) ms h)))

  targets-in : (a : Instance) → In ns a → (d : Dynamic) → AllByRecursion (In ns) (targets (nested a) d)
  targets-in a i d = led-in (is_step (around d.assigns.scope)) (children a) d.steps (closed a i)

each-empty : (f : Instance → List Fault) (ms : List Instance) → is_empty (flat_map f ms) ≡ true → AllByRecursion (λ m. is_empty (f m) ≡ true) ms
each-empty f [] h = tt
each-empty f (m ∷ ms) h = let p = none_in (f m) (flat_map f ms) h in (p.0, each-empty f ms p.1)

at-target : (n : Instance) (a : Assignment) (ms : List Instance) → AllByRecursion (λ m. m.path ≡ n.path → m ≡ n) ms → AllByRecursion (λ m. is_empty (illegal (legal_on m) a) ≡ true) ms → list_any (λ m. same_path m.path n.path) ms ≡ true → is_empty (illegal (legal_on n) a) ≡ true
at-target n a [] one h e = cc
at-target n a (m ∷ ms) one h e = go (same_path m.path n.path) refl e (at-target n a ms one.1 h.1)
  where
    go : (b : Bool) → same_path m.path n.path ≡ b → (b || list_any (λ x. same_path x.path n.path) ms) ≡ true → (list_any (λ x. same_path x.path n.path) ms ≡ true → is_empty (illegal (legal_on n) a) ≡ true) → is_empty (illegal (legal_on n) a) ≡ true
    go true p k rest = subst (λ x. is_empty (illegal (legal_on x) a) ≡ true) (one.0 (is_same_path m.path n.path p)) h.0
    go false p k rest = rest k

both-filter : {X : Type 0} (P : X → Type 0) (f : X → Bool) (xs : List X) → AllByRecursion P xs → AllByRecursion (λ x. P x × (f x ≡ true)) (filter f xs)
both-filter P f [] h = tt
both-filter P f (x ∷ xs) h = go (f x) refl (both-filter P f xs h.1)
  where
    go : (b : Bool) → f x ≡ b → AllByRecursion (λ y. P y × (f y ≡ true)) (filter f xs) → AllByRecursion (λ y. P y × (f y ≡ true)) (cond b (x ∷ filter f xs) (filter f xs))
    go true e k = ((h.0, e), k)
    go false e k = k

above-legal : (wanted : Option (List ℕ)) (s : Source) (n a : Instance) → In (nodes wanted s) n → In (nodes wanted s) a → AllByRecursion (HasLegal n) (from_above n (nested a))
above-legal wanted s n a i j = weaken n (from_above n (nested a)) (each-flat_map (IsLegal n) (λ d. gives (rank.Dynamic (length a.above)) d.assigns) (filter (λ d. is_among (targets (nested a) d) n) (sound (failures_of_dynamic (nested a)) (dynamics (body a))))
    (each-imp (λ d. IsSound (failures_of_dynamic (nested a)) d × (is_among (targets (nested a) d) n ≡ true)) (λ d. AllByRecursion (IsLegal n) (gives (rank.Dynamic (length a.above)) d.assigns)) (filter (λ d. is_among (targets (nested a) d) n) (sound (failures_of_dynamic (nested a)) (dynamics (body a)))) of
    (both-filter (IsSound (failures_of_dynamic (nested a))) (λ d. is_among (targets (nested a) d) n) (sound (failures_of_dynamic (nested a)) (dynamics (body a))) (sound-each (failures_of_dynamic (nested a)) (dynamics (body a))))))
  where
    closed : (m : Instance) → In (nodes wanted s) m → AllByRecursion (In (nodes wanted s)) (children m)
    closed m k = each-in (λ x. AllByRecursion (In (nodes wanted s)) (children x)) (nodes wanted s) m (all-closed wanted s) k

    of : (d : Dynamic) → IsSound (failures_of_dynamic (nested a)) d × (is_among (targets (nested a) d) n ≡ true) → AllByRecursion (IsLegal n) (gives (rank.Dynamic (length a.above)) d.assigns)
    of d h =
        let ills = flat_map (λ m. illegal (legal_on m) d.assigns) (targets (nested a) d) in
        let p = none_in (unknown d.assigns ++ bad_indices d ++ no_target (nested a) d ++ ills ++ bad_value d.assigns) _ h.0.1 in
        let q = none_in (unknown d.assigns ++ bad_indices d ++ no_target (nested a) d ++ ills) (bad_value d.assigns) p.0 in
        let r = none_in (unknown d.assigns ++ bad_indices d ++ no_target (nested a) d) ills q.0 in
        let one = each-imp (In (nodes wanted s)) (λ m. m.path ≡ n.path → m ≡ n) (targets (nested a) d) (λ m k e. one-node wanted s m n k i e) (targets-in (nodes wanted s) closed a j d) in
        gives-legal n (rank.Dynamic (length a.above)) d.assigns (at-target n d.assigns (targets (nested a) d) one (each-empty (λ m. illegal (legal_on m) d.assigns) (targets (nested a) d) r.1) h.1)

applied-legal : (wanted : Option (List ℕ)) (s : Source) (n : Instance) → In (nodes wanted s) n → AllByRecursion (HasLegal n) (applied_to n)
applied-legal wanted s n i =
    let above = each-flat_map (HasLegal n) (from_above n) (standing n.above) (each-imp (λ b. (a : Instance) × In (nodes wanted s) a × (b ≡ nested a)) (λ b. AllByRecursion (HasLegal n) (from_above n b)) (standing n.above) (λ b h. subst (λ x. AllByRecursion (HasLegal n) (from_above n x)) (sym h.2) (above-legal wanted s n h.0 i h.1)) (each-in (λ x. AllByRecursion (λ b. (a : Instance) × In (nodes wanted s) a × (b ≡ nested a)) (standing x.above)) (nodes wanted s) n (above-of-nodes wanted s) i)) in
    let two = each-append (HasLegal n) (flat_map (from_above n) (standing n.above)) (from_instance n.use_) above (instance-legal n) in
    let three = each-append (HasLegal n) (flat_map (from_above n) (standing n.above) ++ from_instance n.use_) (from_body n) two (body-legal n) in
    each-append (HasLegal n) (flat_map (from_above n) (standing n.above) ++ from_instance n.use_ ++ from_body n) (from_defaults n 0 n.closure.scope) three (defaults-legal n 0 n.closure.scope)

-- Settings.

-- a setting that is a reference is legal there, where its property takes one
abbrev Legal : Instance → Prop → Meaning → Type 0
Legal n p m = (q : Path) (item : Option Name) (scope : Scope) (place : Place) → m ≡ reference q item scope place → legal_on n p ≡ true

never : (n : Instance) (p : Prop) (d : Default) → Legal n p (meaning_of_default d)
never n p table.unset q item scope place e = cc e
never n p (table.flag b) q item scope place e = cc e
never n p (table.number k) q item scope place e = cc e
never n p (table.named w) q item scope place e = cc e
never n p (table.hard b) q item scope place e = cc e

found-legal : (n : Instance) (f : Applied → Bool) (xs : List Applied) (a : Applied) → AllByRecursion (HasLegal n) xs → find f xs ≡ Some a → HasLegal n a
found-legal n f [] a h e = cc
found-legal n f (x ∷ xs) a h e = go (f x) refl (found-legal n f xs a h.1)
  where
    Here : Option Applied → Type 0
    Here None = Unit {0}
    Here (Some y) = HasLegal n y

    go : (b : Bool) → f x ≡ b → (find f xs ≡ Some a → HasLegal n a) → HasLegal n a
    go true q rest = let here : Some x ≡ Some a = sym (rw q refl) ∙ e in subst Here here h.0
    go false q rest = let later : find f xs ≡ Some a = sym (rw q refl) ∙ e in rest later

settled-legal : (n : Instance) (p : Prop) (a : Applied) → HasLegal n a → Legal n p (settled p a)
settled-legal n p a h = go (same_prop p a.candidate.prop) refl (not (is_some (group_of p) && is_false a.value))
  where
    go : (c : Bool) → same_prop p a.candidate.prop ≡ c → (t : Bool) → Legal n p (cond (c && t) a.value unset)
    go true e true q item scope place k = subst (λ x. legal_on n x ≡ true) (sym (same_true of_prop.the_type tt p a.candidate.prop e)) (h q item scope place k)
    go true e false q item scope place k = cc k
    go false e t q item scope place k = cc k

or-legal : (default : Meaning) (n : Instance) (p : Prop) → AllByRecursion (HasLegal n) (applied_to n) → Legal n p default → ((q : Path) (item : Option Name) (scope : Scope) (place : Place) → default ≡ reference q item scope place → ⊥) → Legal n p (setting_or default n p)
or-legal default n p h d never-so = go (deciding_of p all) refl
  where
    all : List Applied
    all = applied_to n ++ (applied rank.Table p default ∷ [])

    each : AllByRecursion (HasLegal n) all
    each = each-append (HasLegal n) (applied_to n) (applied rank.Table p default ∷ []) h ((λ q item scope place e. absurd (never-so q item scope place e)), tt)

    go : (o : Option Applied) → deciding_of p all ≡ o → Legal n p (settled_if p o)
    go None e = λ q item scope place k. cc k
    go (Some a) e = settled-legal n p a (found-legal n _ all a each e)

no-default : (d : Default) (q : Path) (item : Option Name) (scope : Scope) (place : Place) → meaning_of_default d ≡ reference q item scope place → ⊥
no-default table.unset q item scope place e = cc e
no-default (table.flag b) q item scope place e = cc e
no-default (table.number k) q item scope place e = cc e
no-default (table.named w) q item scope place e = cc e
no-default (table.hard b) q item scope place e = cc e

-- The properties that take references are legal on fields alone.

on-fields : (p : Prop) → takes_reference (takes_of p) ≡ true → (row p).on ≡ kind.Field ∷ []
on-fields prop.Resetsignal e = refl
on-fields prop.Swwe e = refl
on-fields prop.Swwel e = refl
on-fields prop.We e = refl
on-fields prop.Wel e = refl
on-fields prop.Next e = refl
on-fields prop.Hwset e = refl
on-fields prop.Hwclr e = refl
on-fields prop.Hwenable e = refl
on-fields prop.Hwmask e = refl
on-fields prop.Incr e = refl
on-fields prop.Decr e = refl
on-fields prop.Incrvalue e = refl
on-fields prop.Decrvalue e = refl
on-fields prop.Incrsaturate e = refl
on-fields prop.Decrsaturate e = refl
on-fields prop.Incrthreshold e = refl
on-fields prop.Decrthreshold e = refl
on-fields prop.Enable e = refl
on-fields prop.Mask e = refl
on-fields prop.Haltenable e = refl
on-fields prop.Haltmask e = refl
on-fields _ e = cc

is-field : (k : Kind) → list_any (same_kind k) (kind.Field ∷ []) ≡ true → k ≡ kind.Field
is-field kind.Field e = refl
is-field kind.Addrmap e = cc e
is-field kind.Regfile e = cc e
is-field kind.Reg e = cc e
is-field kind.Signal e = cc e

field-of : (n : Instance) (p : Prop) → takes_reference (takes_of p) ≡ true → legal_on n p ≡ true → kind_of n ≡ kind.Field
field-of n p t l = is-field (kind_of n) (subst (λ on. list_any (same_kind (kind_of n)) on ≡ true) (on-fields p t) l)

-- no other property has a reference
abbrev NoOther : Instance → Type 0
NoOther n = (p : Prop) (q : Path) (item : Option Name) (scope : Scope) (place : Place) → takes_reference (takes_of p) ≡ false → setting n p ≡ reference q item scope place → ⊥

on-field : (n : Instance) → AllByRecursion (HasLegal n) (applied_to n) → NoOther n → (p : Prop) (q : Path) (item : Option Name) (scope : Scope) (place : Place) → setting n p ≡ reference q item scope place → kind_of n ≡ kind.Field
unfolding setting
on-field n h other prop.Accesswidth q item scope place e = absurd (other prop.Accesswidth q item scope place refl e)
on-field n h other p q item scope place e = go (takes_reference (takes_of p)) refl
  where
    go : (b : Bool) → takes_reference (takes_of p) ≡ b → kind_of n ≡ kind.Field
    go false t = absurd (other p q item scope place t e)
    go true t = field-of n p t (or-legal (meaning_of_default (default_of p)) n p h (never n p (default_of p)) (no-default (default_of p)) q item scope place e)

pub all-on-fields : (wanted : Option (List ℕ)) (s : Source) → ((n : Instance) → NoOther n) → AllByRecursion (λ n. (p : Prop) (q : Path) (item : Option Name) (scope : Scope) (place : Place) → setting n p ≡ reference q item scope place → kind_of n ≡ kind.Field) (nodes wanted s)
all-on-fields wanted s other = each-imp (In (nodes wanted s)) _ (nodes wanted s) (λ n i p q item scope place e. on-field n (applied-legal wanted s n i) (other n) p q item scope place e) (nodes-in wanted s)
