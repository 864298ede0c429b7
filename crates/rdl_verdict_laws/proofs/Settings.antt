-- Which assignments fail, and what they set, apart from addresses.
use Rattle.std.specs.List.{list_any}
use Rattle.std.proofs.Common.{◌≡◌, ℕ, ◌+◌, Bool, not, ◌&&◌, cond, refl, sym, ap, ◌∙◌, List, [], ◌∷◌, ◌++◌, map, flat_map, filter, length, Option, Some, None, option_map, option_to_list, Ok, Err, is_some}
use Rattle.std.proofs.lemmas.List.{map-append, length-map}
use Rattle.plain_lemmas.proofs.Bools.{cond-map as cond_map}
use Rattle.rdl_base.specs.declared.fault.Fault.{Fault}
use Rattle.rdl_base.specs.declared.rule.Rule.TheVariants as rules
use Rattle.rdl_tree.specs.declared.expr.Expr.{Expr}
use Rattle.rdl_tree.specs.declared.expr.Step.{Step}
use Rattle.rdl_verdict_laws.specs.Plain.{plain_expr, plain_step}
use Rattle.rdl_props.specs.declared.prop.Prop.{Prop}
use Rattle.rdl_props.specs.declared.prop.Prop.TheVariants as prop
use Rattle.rdl_props.specs.Table.{Default, default_of, group_of}
use Rattle.rdl_props.specs.Table as table
use Rattle.rdl_props.specs.Same.{same_prop}
use Rattle.rdl_values.specs.Bodies.{Scope, around, standing}
use Rattle.rdl_values.specs.Faults.{at_, when, failures}
use Rattle.rdl_values.specs.Instances.{Instance, body}
use Rattle.rdl_values.specs.Parts.{is_empty}
use Rattle.rdl_values.specs.Uses.{Use}
use Rattle.rdl_values.specs.Values.{Around, Outcome, number_of}
use Rattle.rdl_verdict_laws.specs.PlainInstances.{plain_scope, plain_body, plain_use, plain_instance}
use Rattle.rdl_verdict_laws.proofs.Lists.{map_id, flat_id, flat_under, flat_same, filter_under, find_under, any_same, list_of, both, standing_under}
use Rattle.rdl_verdict_laws.proofs.Values.{number-plain}
use Rattle.rdl_verdict_laws.proofs.Bodies.{around-plain}
use Rattle.rdl_verdict_laws.proofs.Uses.{empty-plain}
use Rattle.rdl_verdict_laws.proofs.Instances.{body-plain}
use Rattle.rdl_layers.specs.declared.rank.Rank.{Rank}
use Rattle.rdl_layers.specs.declared.rank.Rank.TheVariants as rank
use Rattle.rdl_layers.specs.Assignments.{Dynamic, Nested, dynamics, targets, is_among, meet, locals, defaults_before}
use Rattle.rdl_layers.specs.Forms.{Meaning, unset, number}
use Rattle.rdl_layers.specs.Judged.{unknown, illegal, bad_value, props_of, against, taken, failures_of, anywhere, legal_on, bad_indices, no_target, failures_of_dynamic, all_failures, sound}
use Rattle.rdl_layers.specs.Meanings.{Assignment, prop_of, meaning}
use Rattle.rdl_layers.specs.Ranks.{decides}
use Rattle.rdl_layers.specs.Settings.{Applied, applied, given, gives, from_above, from_instance, from_body, from_defaults, applied_to, is_assigned, is_false, settled, settled_if, deciding_of, meaning_of_default, setting_or, setting}
use Rattle.rdl_verdict_laws.specs.PlainSettings.{plain_meaning, plain_outcome, plain_assignment, plain_dynamic, plain_nested, plain_applied}
use Rattle.rdl_verdict_laws.proofs.Meanings.{meaning-plain, tested}
use Rattle.rdl_verdict_laws.proofs.Assignments.{locals-plain, before-plain, dynamics-plain, targets-plain, among-plain, meet-plain}

-- Failures.

fails-plain : (o : Outcome Meaning) → failures (plain_outcome o) ≡ failures o
fails-plain (Ok m) = refl
fails-plain (Err f) = refl

bad_value-plain : (a : Assignment) → bad_value (plain_assignment a) ≡ bad_value a
bad_value-plain a = go (option_to_list (prop_of a))
  where
    go : (ps : List Prop) → flat_map (λ p. failures (meaning p (plain_assignment a))) ps ≡ flat_map (λ p. failures (meaning p a)) ps
    go [] = refl
    go (p ∷ ps) = λ i. (ap failures (meaning-plain p a) ∙ fails-plain (meaning p a)) i ++ go ps i

props-plain : (xs : List Assignment) → props_of (map plain_assignment xs) ≡ props_of xs
props-plain xs = flat_id (λ (a : Assignment). option_to_list (prop_of a)) plain_assignment (λ a. refl) xs

taken-plain : (xs : List Assignment) (a : Assignment) → taken (map plain_assignment xs) (plain_assignment a) ≡ taken xs a
taken-plain xs a = ap (λ ps. flat_map (against ps a.set_.place) (option_to_list (prop_of a))) (props-plain xs)

pub failures-plain : (legal : Prop → Bool) (x : List Assignment × Assignment) → failures_of legal (both plain_assignment x) ≡ failures_of legal x
failures-plain legal x = λ i. unknown x.1 ++ illegal legal x.1 ++ bad_value-plain x.1 i ++ taken-plain x.0 x.1 i

bad_indices-plain : (d : Dynamic) → bad_indices (plain_dynamic d) ≡ bad_indices d
bad_indices-plain d =
    let f : Around → Step → List Fault = λ r t. flat_map (λ e. failures (number_of r e)) t.index.now in
    (λ i. flat_map (f (around-plain d.assigns.scope i)) (map plain_step d.steps))
    ∙ flat_id (f (around d.assigns.scope)) plain_step (λ t. flat_id (λ (e : Expr). failures (number_of (around d.assigns.scope) e)) plain_expr (λ e. ap failures (number-plain (around d.assigns.scope) e)) t.index.now) d.steps

no_target-plain : (b : Nested) (d : Dynamic) → no_target (plain_nested b) (plain_dynamic d) ≡ no_target b d
no_target-plain b d = λ i. when (is_empty (bad_indices-plain d i) && (ap is_empty (targets-plain b d) ∙ empty-plain plain_instance (targets b d)) i) (at_ rules.P7 d.assigns.set_.place)

assigns-plain : (ds : List Dynamic) → map (λ (e : Dynamic). e.assigns) (map plain_dynamic ds) ≡ map plain_assignment (map (λ (e : Dynamic). e.assigns) ds)
assigns-plain [] = refl
assigns-plain (d ∷ ds) = ap (λ xs. plain_assignment d.assigns ∷ xs) (assigns-plain ds)

pub dynamic-plain : (b : Nested) (x : List Dynamic × Dynamic) → failures_of_dynamic (plain_nested b) (both plain_dynamic x) ≡ failures_of_dynamic b x
dynamic-plain b x =
    let f : Instance → List Fault = λ n. illegal (legal_on n) x.1.assigns in
    let met = filter_under (meet (plain_nested b) (plain_dynamic x.1)) (meet b x.1) plain_dynamic (meet-plain b x.1) x.0 in
    λ i.
    unknown x.1.assigns
    ++ bad_indices-plain x.1 i
    ++ no_target-plain b x.1 i
    ++ (ap (flat_map f) (targets-plain b x.1) ∙ flat_id f plain_instance (λ n. refl) (targets b x.1)) i
    ++ bad_value-plain x.1.assigns i
    ++ (ap (λ ds. taken (map (λ (e : Dynamic). e.assigns) ds) (plain_assignment x.1.assigns)) met ∙ ap (λ xs. taken xs (plain_assignment x.1.assigns)) (assigns-plain (filter (meet b x.1) x.0)) ∙ taken-plain (map (λ (e : Dynamic). e.assigns) (filter (meet b x.1) x.0)) x.1.assigns) i

module _ {A : Type 0} (g : A → A) (f h : List A × A → List Fault) (same : (x : List A × A) → f (both g x) ≡ h x) where
  pub all-plain : (xs : List A) → all_failures f (map g xs) ≡ all_failures h xs
  all-plain xs = ap (flat_map f) (standing_under g xs) ∙ flat_same f h (both g) same (standing xs)

  last-plain : (xs : List (List A × A)) → map (λ (x : List A × A). x.1) (map (both g) xs) ≡ map g (map (λ (x : List A × A). x.1) xs)
  last-plain [] = refl
  last-plain (x ∷ xs) = ap (λ ys. g x.1 ∷ ys) (last-plain xs)

  pub sound-plain : (xs : List A) → sound f (map g xs) ≡ map g (sound h xs)
  sound-plain xs =
      let p : List A × A → Bool = λ x. is_empty (f x) in
      let q : List A × A → Bool = λ x. is_empty (h x) in
      ap (λ ys. map (λ (x : List A × A). x.1) (filter p ys)) (standing_under g xs) ∙ ap (map (λ (x : List A × A). x.1)) (filter_under p q (both g) (λ x. ap is_empty (same x)) (standing xs)) ∙ last-plain (filter q (standing xs))

-- Settings.

applied-plain : (r : Rank) (p : Prop) (o : Outcome Meaning) → map (applied r p) (given (plain_outcome o)) ≡ map plain_applied (map (applied r p) (given o))
applied-plain r p (Ok m) = refl
applied-plain r p (Err f) = refl

gives-plain : (r : Rank) (a : Assignment) → gives r (plain_assignment a) ≡ map plain_applied (gives r a)
gives-plain r a = go (option_to_list (prop_of a))
  where
    go : (ps : List Prop) → flat_map (λ p. map (applied r p) (given (meaning p (plain_assignment a)))) ps ≡ map plain_applied (flat_map (λ p. map (applied r p) (given (meaning p a))) ps)
    go [] = refl
    go (p ∷ ps) = (λ i. (ap (λ o. map (applied r p) (given o)) (meaning-plain p a) ∙ applied-plain r p (meaning p a)) i ++ go ps i) ∙ sym (map-append plain_applied (map (applied r p) (given (meaning p a))) (flat_map (λ p. map (applied r p) (given (meaning p a))) ps))

above-plain : (n : Instance) (b : Nested) → from_above (plain_instance n) (plain_nested b) ≡ map plain_applied (from_above n b)
above-plain n b =
    let f : ℕ → Dynamic → List Applied = λ k d. gives (rank.Dynamic k) d.assigns in
    let p : Dynamic → Bool = λ d. is_among (targets (plain_nested b) d) (plain_instance n) in
    let q : Dynamic → Bool = λ d. is_among (targets b d) n in
    (λ i. flat_map (f (length-map b.0 plain_body i)) (filter p (sound (failures_of_dynamic (plain_nested b)) (dynamics-plain b.1 i))))
    ∙ ap (λ ds. flat_map (f (length b.0)) (filter p ds)) (sound-plain plain_dynamic (failures_of_dynamic (plain_nested b)) (failures_of_dynamic b) (dynamic-plain b) (dynamics b.1))
    ∙ ap (flat_map (f (length b.0))) (filter_under p q plain_dynamic (λ d. ap (λ ns. is_among ns (plain_instance n)) (targets-plain b d) ∙ among-plain (targets b d) n) (sound (failures_of_dynamic b) (dynamics b.1)))
    ∙ flat_under (f (length b.0)) (f (length b.0)) plain_dynamic plain_applied (λ d. gives-plain (rank.Dynamic (length b.0)) d.assigns) (filter q (sound (failures_of_dynamic b) (dynamics b.1)))

reset-clean : (o : Outcome ℕ) → map (λ k. applied rank.Instance prop.Reset (number k)) (given o) ≡ map plain_applied (map (λ k. applied rank.Instance prop.Reset (number k)) (given o))
reset-clean (Ok k) = refl
reset-clean (Err f) = refl

instance-plain : (u : Use) → from_instance (plain_use u) ≡ map plain_applied (from_instance u)
instance-plain u =
    let f : Around → Expr → List Applied = λ r e. map (λ k. applied rank.Instance prop.Reset (number k)) (given (number_of r e)) in
    (λ i. flat_map (f (around-plain u.scope i)) (list_of plain_expr u.form.reset i))
    ∙ flat_under (f (around u.scope)) (f (around u.scope)) plain_expr plain_applied (λ e. ap (λ o. map (λ k. applied rank.Instance prop.Reset (number k)) (given o)) (number-plain (around u.scope) e) ∙ reset-clean (number_of (around u.scope) e)) (option_to_list u.form.reset)

body_gives-plain : (n : Instance) → from_body (plain_instance n) ≡ map plain_applied (from_body n)
body_gives-plain n =
    ap (λ b. flat_map (gives rank.Body) (sound (failures_of (legal_on n)) (locals b))) (body-plain n)
    ∙ ap (λ xs. flat_map (gives rank.Body) (sound (failures_of (legal_on n)) xs)) (locals-plain (body n))
    ∙ ap (flat_map (gives rank.Body)) (sound-plain plain_assignment (failures_of (legal_on n)) (failures_of (legal_on n)) (failures-plain (legal_on n)) (locals (body n)))
    ∙ flat_under (gives rank.Body) (gives rank.Body) plain_assignment plain_applied (gives-plain rank.Body) (sound (failures_of (legal_on n)) (locals (body n)))

defaults_given-plain : (n : Instance) (k : ℕ) (s : Scope) → from_defaults (plain_instance n) k (plain_scope s) ≡ map plain_applied (from_defaults n k s)
defaults_given-plain n k [] = refl
defaults_given-plain n k (l ∷ outer) =
    let p : Applied → Bool = λ a. legal_on n a.candidate.prop in
    let f : Assignment → List Applied = gives (rank.Default k) in
    let xs = sound (failures_of anywhere) (defaults_before l outer) in
    (λ i. (ap (λ ys. filter p (flat_map f (sound (failures_of anywhere) ys))) (before-plain l outer)
    ∙ ap (λ ys. filter p (flat_map f ys)) (sound-plain plain_assignment (failures_of anywhere) (failures_of anywhere) (failures-plain anywhere) (defaults_before l outer))
    ∙ ap (filter p) (flat_under f f plain_assignment plain_applied (gives-plain (rank.Default k)) xs)
    ∙ filter_under p p plain_applied (λ a. refl) (flat_map f xs)) i ++ defaults_given-plain n (k + 1) outer i)
    ∙ sym (map-append plain_applied (filter p (flat_map f xs)) (from_defaults n (k + 1) outer))

pub applied_to-plain : (n : Instance) → applied_to (plain_instance n) ≡ map plain_applied (applied_to n)
applied_to-plain n =
    let a = flat_map (from_above n) (standing n.above) in
    let b = from_instance n.use_ in
    let c = from_body n in
    let d = from_defaults n 0 n.closure.scope in
    (λ i. (ap (flat_map (from_above (plain_instance n))) (standing_under plain_body n.above) ∙ flat_under (from_above (plain_instance n)) (from_above n) (both plain_body) plain_applied (above-plain n) (standing n.above)) i
    ++ instance-plain n.use_ i ++ body_gives-plain n i ++ defaults_given-plain n 0 n.closure.scope i)
    ∙ (λ i. sym (map-append plain_applied a b) i ++ map plain_applied c ++ map plain_applied d)
    ∙ (λ i. sym (map-append plain_applied (a ++ b) c) i ++ map plain_applied d)
    ∙ sym (map-append plain_applied (a ++ b ++ c) d)

pub assigned-plain : (n : Instance) (p : Prop) → is_assigned (plain_instance n) p ≡ is_assigned n p
assigned-plain n p = ap (list_any (λ (a : Applied). same_prop p a.candidate.prop)) (applied_to-plain n) ∙ any_same (λ (a : Applied). same_prop p a.candidate.prop) (λ (a : Applied). same_prop p a.candidate.prop) plain_applied (λ a. refl) (applied_to n)

false-plain : (m : Meaning) → is_false (plain_meaning m) ≡ is_false m
false-plain = tested is_false (λ n s. refl) (λ p n s q. refl)

settled-plain : (p : Prop) (a : Applied) → settled p (plain_applied a) ≡ plain_meaning (settled p a)
settled-plain p a =
    (λ i. cond (same_prop p a.candidate.prop && not (is_some (group_of p) && false-plain a.value i)) (plain_meaning a.value) unset)
    ∙ cond_map plain_meaning (same_prop p a.candidate.prop && not (is_some (group_of p) && is_false a.value)) a.value unset

if-plain : (p : Prop) (a : Option Applied) → settled_if p (option_map plain_applied a) ≡ plain_meaning (settled_if p a)
if-plain p None = refl
if-plain p (Some a) = settled-plain p a

deciding-plain : (p : Prop) (all : List Applied) → deciding_of p (map plain_applied all) ≡ option_map plain_applied (deciding_of p all)
deciding-plain p all =
    find_under (λ (a : Applied). decides p (map (λ (b : Applied). b.candidate) (map plain_applied all)) a.candidate) (λ (a : Applied). decides p (map (λ (b : Applied). b.candidate) all) a.candidate) plain_applied
    (λ a. ap (λ cs. decides p cs a.candidate) (map_id (λ (b : Applied). b.candidate) plain_applied (λ b. refl) all)) all

or-plain : (m : Meaning) (n : Instance) (p : Prop) → setting_or (plain_meaning m) (plain_instance n) p ≡ plain_meaning (setting_or m n p)
or-plain m n p =
    let last : Applied = applied rank.Table p m in
    ap (λ xs. settled_if p (deciding_of p (xs ++ (plain_applied last ∷ [])))) (applied_to-plain n)
    ∙ ap (λ xs. settled_if p (deciding_of p xs)) (sym (map-append plain_applied (applied_to n) (last ∷ [])))
    ∙ ap (settled_if p) (deciding-plain p (applied_to n ++ (last ∷ []))) ∙ if-plain p (deciding_of p (applied_to n ++ (last ∷ [])))

default_clean : (d : Default) → plain_meaning (meaning_of_default d) ≡ meaning_of_default d
default_clean table.unset = refl
default_clean (table.flag b) = refl
default_clean (table.number n) = refl
default_clean (table.named w) = refl
default_clean (table.hard b) = refl

by_default : (n : Instance) (p : Prop) → setting_or (meaning_of_default (default_of p)) (plain_instance n) p ≡ plain_meaning (setting_or (meaning_of_default (default_of p)) n p)
by_default n p = ap (λ m. setting_or m (plain_instance n) p) (sym (default_clean (default_of p))) ∙ or-plain (meaning_of_default (default_of p)) n p

pub setting-plain : (n : Instance) (p : Prop) → setting (plain_instance n) p ≡ plain_meaning (setting n p)
unfolding setting
setting-plain n prop.Accesswidth =
    ap (λ m. setting_or m (plain_instance n) prop.Accesswidth) (by_default n prop.Regwidth) ∙ or-plain (setting_or (meaning_of_default (default_of prop.Regwidth)) n prop.Regwidth) n prop.Accesswidth
setting-plain n p = by_default n p
