-- Where references lead to items, a resetsignal names a signal.
use Rattle.std.proofs.Common.{◌≡◌, ◌∙◌, inl, inr, ℕ, Bool, true, false, not, ◌&&◌, List, [], ◌∷◌, ◌++◌, flat_map, slice_get, Option, Some, refl, sym, ap, subst}
use Rattle.std.specs.List.{list_any}
use Rattle.plain_lemmas.proofs.Bools.{or-false, true-of_not as not-false}
use Rattle.rdl_base.specs.declared.fault.Fault.{Fault}
use Rattle.rb_base.specs.declared.place.Place.{Place}
use Rattle.rdl_base.specs.declared.rule.Rule.TheVariants as rules
use Rattle.rdl_tree.specs.declared.expr.Name.{Name}
use Rattle.rdl_tree.specs.declared.item.Kind.TheVariants as kinds
use Rattle.rdl_tree.specs.declared.node.Elab.{Elab}
use Rattle.rdl_props.specs.Table.{reference_props}
use Rattle.rdl_props.specs.declared.prop.Prop.{Prop}
use Rattle.rdl_props.specs.declared.prop.Prop.TheVariants as prop
use Rattle.rdl_values.specs.Elaborated.{nodes_of, top_name}
use Rattle.rdl_values.specs.Faults.{at_, when}
use Rattle.rdl_values.specs.Instances.{Instance, is_empty}
use Rattle.rdl_values.specs.Lineages.{Lineage, lineages_of}
use Rattle.rdl_values.proofs.Sorted.{none_fails}
use Rattle.rdl_layers.specs.Fields.{is_a}
use Rattle.rdl_layers.specs.Settings.{Meaning, enum_of, flag, hard, intr, named, number, reference, setting, text, unset}
use Rattle.rdl_refs.specs.Answers.{IsBound}
use Rattle.rdl_refs.specs.Items.{Item, bad_reference, failures_r, is_wanted, item_named, target}
use Rattle.rdl_refs.specs.Leads.{led_to}
use Rattle.rdl_nodes.proofs.Members.{In, place-in}

left-nil : (xs ys : List Fault) → xs ++ ys ≡ [] → xs ≡ []
left-nil [] ys e = refl
left-nil (x ∷ xs) ys e = cc e

right-nil : (xs ys : List Fault) → xs ++ ys ≡ [] → ys ≡ []
right-nil [] ys e = e
right-nil (x ∷ xs) ys e = cc e

flat-nil : {X : Type 0} (f : X → List Fault) (xs : List X) (x : X) → flat_map f xs ≡ [] → In xs x → f x ≡ []
flat-nil f [] x e h = absurd h
flat-nil f (y ∷ ys) x e (inl q) = subst (λ z. f z ≡ []) q (left-nil (f y) (flat_map f ys) e)
flat-nil f (y ∷ ys) x e (inr h) = flat-nil f ys x (right-nil (f y) (flat_map f ys) e) h

when-nil : (b : Bool) (f : Fault) → when b f ≡ [] → b ≡ false
when-nil true f e = cc e
when-nil false f e = refl

wanted : (ls : List Lineage) (item : Option Name) (i : Item) (place : Place) → flat_map (item_named item) ls ≡ i ∷ []
    → when (is_empty ls) (at_ rules.R1 place) ++ when (not (is_empty ls) && not (list_any (is_wanted prop.Resetsignal) (flat_map (item_named item) ls))) (at_ rules.R2 place) ≡ [] → is_a kinds.Signal i.node ≡ true
wanted [] item i place e h = cc e
wanted (l ∷ ls) item i place e h =
    let all = list_any (is_wanted prop.Resetsignal) (flat_map (item_named item) (l ∷ ls)) in
    let some : all ≡ true = not-false all (when-nil (not all) (at_ rules.R2 place) h) in
    sym (or-false (is_a kinds.Signal i.node)) ∙ (sym (ap (list_any (is_wanted prop.Resetsignal)) e) ∙ some)

of-meaning : (all : List Lineage) (m : Meaning) (i : Item) → target all m ≡ i ∷ [] → bad_reference all prop.Resetsignal m ≡ [] → is_a kinds.Signal i.node ≡ true
of-meaning all (reference path item scope place) i e h = wanted (led_to all path scope) item i place e h
of-meaning all unset i e h = cc e
of-meaning all (flag b) i e h = cc e
of-meaning all (number n) i e h = cc e
of-meaning all (text t) i e h = cc e
of-meaning all (named w) i e h = cc e
of-meaning all (intr k) i e h = cc e
of-meaning all (hard b) i e h = cc e
of-meaning all (enum_of n scope) i e h = cc e

first-prop : In reference_props prop.Resetsignal
unfolding reference_props
first-prop = inl refl

none-bad : (e : Elab) → IsBound e → flat_map (λ n. flat_map (λ p. bad_reference (lineages_of e) p (setting n p)) reference_props) (nodes_of e) ≡ []
unfolding failures_r
none-bad e bound = none_fails (failures_r (Some (top_name e)) e.source.now) bound

pub names-signal : (e : Elab) → IsBound e → (k : ℕ) (n : Instance) → slice_get (nodes_of e) k ≡ Some n → (i : Item) → target (lineages_of e) (setting n prop.Resetsignal) ≡ i ∷ [] → is_a kinds.Signal i.node ≡ true
names-signal e bound k n at i t =
    let of_n = flat-nil (λ (m : Instance). flat_map (λ p. bad_reference (lineages_of e) p (setting m p)) reference_props) (nodes_of e) n (none-bad e bound) (place-in (nodes_of e) k n at) in
    of-meaning (lineages_of e) (setting n prop.Resetsignal) i t (flat-nil (λ (p : Prop). bad_reference (lineages_of e) p (setting n p)) reference_props prop.Resetsignal of_n first-prop)
