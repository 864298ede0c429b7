-- No rule but R7 itself gives failures of R7.
use Rattle.std.proofs.Common.{◌≡◌, ◌⊎◌, inl, inr, ℕ, Bool, true, false, not, ◌&&◌, ◌||◌, ◌==◌, nat_lt, cond, List, [], ◌∷◌, ◌++◌, length, flat_map, filter, Option, sym, subst}
use Rattle.std.specs.List.{list_any}
use Rattle.rdl_base.specs.declared.fault.Fault.{Fault}
use Rattle.rb_base.specs.declared.place.Place.{Place}
use Rattle.rdl_base.specs.declared.rule.Rule.{Rule}
use Rattle.rdl_base.specs.declared.rule.Rule.TheVariants as rules
use Rattle.rdl_tree.specs.declared.item.Kind.TheVariants as kind
use Rattle.rdl_tree.specs.declared.item.Source.{Source}
use Rattle.rdl_props.specs.Table.{reference_props}
use Rattle.rdl_props.specs.declared.prop.Prop.{Prop}
use Rattle.rdl_props.specs.declared.prop.Prop.TheVariants as prop
use Rattle.rdl_values.specs.Bodies.{standing}
use Rattle.rdl_values.specs.Instances.{Instance, children, is_empty, most_names, nodes, signals, top_of, with_below}
use Rattle.rdl_values.specs.Lineages.{Lineage, lineages}
use Rattle.rdl_values.specs.Uses.{at_, when}
use Rattle.rdl_layers.specs.Fields.{fields_of, has, has_on_read, has_on_write, has_one_of, hardware_writes, is_a, is_alias, is_alias_of, is_container, is_counter, is_given, is_interrupt, is_once, reads, views, writes}
use Rattle.rdl_layers.specs.Phase4.{width_of}
use Rattle.rdl_layers.specs.Settings.{Meaning, enum_of, flag, hard, intr, named, number, reference, setting, text, unset}
use Rattle.rdl_addr.specs.Bits.{Bits, bits_of}
use Rattle.rdl_refs.specs.Follows.{is_in_alias, is_missing}
use Rattle.rdl_refs.specs.Items.{Item, target}
use Rattle.rdl_rules.specs.FieldRules.{at_node, bad_pulse, counter_parts, encode_too_wide, is_unread, not_interrupt, of_primary, of_view, spans_words, too_wide, two_of, without_reset}
use Rattle.rdl_rules.specs.Fields.{is_field_reset}
use Rattle.rdl_rules.specs.Numbers.{registers}
use Rattle.rdl_rules.specs.Phase6.{failures6}
use Rattle.rdl_rules.specs.ReferenceRules.{bad_item, bad_target, fit_of, fits, item_width, of_references, second_reset, wide_reset}
use Rattle.rdl_rules.specs.RegisterRules.{against_primary, differs, empty_container, is_same_bits, most_fields, of_register}
use Rattle.rdl_nodes.proofs.Members.{In, flat-in, in-either}

-- none of these failures is one of R7
pub record Free (fs : List Fault) : Type 0 where
  pub free : (f : Fault) → In fs f → f.rule ≡ rules.R7 → ⊥

none : Free []
none = record { free = λ f h e. h }

cat : {xs ys : List Fault} → Free xs → Free ys → Free (xs ++ ys)
cat {xs = xs} {ys = ys} a b = record { free = λ f h. by f (in-either xs ys f h) }
  where
    by : (f : Fault) → In xs f ⊎ In ys f → f.rule ≡ rules.R7 → ⊥
    by f (inl h) e = a.free f h e
    by f (inr h) e = b.free f h e

flat : {X : Type 0} (g : X → List Fault) (xs : List X) → ((x : X) → Free (g x)) → Free (flat_map g xs)
flat g xs each = record { free = λ f h e. let q = flat-in g xs f h in (each q.0).free f q.2 e }

one : (r : Rule) (p : Place) (b : Bool) → (r ≡ rules.R7 → ⊥) → Free (when b (at_ r p))
one r p true h = record { free = λ f i e. by f i e }
  where
    by : (f : Fault) → In (at_ r p ∷ []) f → f.rule ≡ rules.R7 → ⊥
    by f (inl q) e = h (subst (λ (g : Fault). g.rule ≡ rules.R7) (sym q) e)
    by f (inr i) e = i
one r p false h = none

node : (r : Rule) (n : Instance) (b : Bool) → (r ≡ rules.R7 → ⊥) → Free (at_node r n b)
node r n b h = one r n.use_.name.place b h

either : (b : Bool) {xs ys : List Fault} → Free xs → Free ys → Free (cond b xs ys)
either true a b = a
either false a b = b

view-free : (r : Instance) (b : Bits) → Free (of_view r b)
view-free r b =
    cat (cat (cat (node rules.F2 b.node (spans_words r b) (λ e. cc)) (node rules.F3 b.node (has_on_write b.node && not (writes b.node)) (λ e. cc))) (node rules.F4 b.node (has_on_read b.node && not (reads b.node)) (λ e. cc)))
    (node rules.F13 b.node (encode_too_wide b.node) (λ e. cc))

primary-free : (f : Instance) → Free (of_primary f)
primary-free f =
    cat (cat (cat (cat (cat (cat (node rules.F1 f (is_unread (setting f prop.Sw) && is_unread (setting f prop.Hw)) (λ e. cc)) (node rules.F5 f (not (hardware_writes f) && has_one_of (prop.Next ∷ prop.We ∷ prop.Wel ∷ prop.Intr ∷ []) f) (λ e. cc))) (node rules.F6 f (not (is_counter f) && has_one_of counter_parts f) (λ e. cc)))
    (node rules.F7 f (two_of (is_counter f ∷ is_interrupt f ∷ has prop.Singlepulse f ∷ [])) (λ e. cc))) (node rules.F8 f (not_interrupt f) (λ e. cc))) (node rules.F9 f (bad_pulse f) (λ e. cc))) (node rules.F10 f (too_wide f) (λ e. cc))

once-free : (f v : Instance) → Free (without_reset f v)
once-free f v = node rules.F11 v (is_once v && not (is_given (setting f prop.Reset))) (λ e. cc)

against-free : (a r : Instance) → Free (against_primary a r)
against-free a r = cat (node rules.F12 a (differs r a prop.Regwidth || differs r a prop.Accesswidth) (λ e. cc)) (flat _ (bits_of a) (λ b. node rules.F12 b.node (not (list_any (is_same_bits b) (bits_of r))) (λ e. cc)))

register-free : (all : List Instance) (r : Instance) → Free (of_register all r)
register-free all r =
    cat (cat (flat (of_view r) (bits_of r) (view-free r)) (either (is_alias r) (flat (against_primary r) (filter (λ p. is_alias_of p r) (registers all)) (against-free r)) (flat _ (fields_of r) (λ f. cat (primary-free f) (flat (without_reset f) (views all r f) (once-free f))))))
    (node rules.F14 r (is_empty (fields_of r)) (λ e. cc))

container-free : (n : Instance) → Free (empty_container n)
container-free n = node rules.F14 n (is_container n && not (list_any (is_a kind.Reg) (with_below most_names n))) (λ e. cc)

item-free : (n : Instance) (p : Prop) (m : Meaning) (i : Item) → Free (bad_item n p m i)
item-free n p (reference path item scope place) i = cat (cat (one rules.R3 place (not (fits (fit_of p) (width_of n) (item_width i))) (λ e. cc)) (one rules.R4 place (is_missing i) (λ e. cc))) (one rules.R5 place (is_in_alias i) (λ e. cc))
item-free n p unset i = none
item-free n p (flag b) i = none
item-free n p (number k) i = none
item-free n p (text s) i = none
item-free n p (named w) i = none
item-free n p (intr k) i = none
item-free n p (hard b) i = none
item-free n p (enum_of k scope) i = none

wide-free : (all : List Lineage) (n : Instance) → Free (wide_reset all n)
wide-free all n = cat (node rules.R6 n (is_field_reset n && not (width_of n == 1)) (λ e. cc)) (flat _ (target all (setting n prop.Resetsignal)) (λ i. node rules.R6 i.node (not (width_of i.node == 1)) (λ e. cc)))

references-free : (all : List Lineage) (n : Instance) → Free (of_references all n)
references-free all n = cat (flat (bad_target all n) reference_props (λ p. flat (bad_item n p (setting n p)) (target all (setting n p)) (item-free n p (setting n p)))) (wide-free all n)

second-free : (ns : List Instance) → Free (second_reset ns)
second-free ns = flat _ (standing ns) (λ n. node rules.R8 n.1 (list_any is_field_reset n.0 && is_field_reset n.1) (λ e. cc))

pub all-free : (w : Option (List ℕ)) (s : Source) → Free (failures6 w s)
unfolding failures6
all-free w s =
    cat (cat (cat (cat (cat (flat (of_register (nodes w s)) (registers (nodes w s)) (register-free (nodes w s))) (flat empty_container (nodes w s) container-free)) (flat _ (top_of w s) (λ n. node rules.F15 n (nat_lt most_fields (length (filter (is_a kind.Field) (nodes w s)))) (λ e. cc))))
    (flat (of_references (lineages w s)) (nodes w s) (references-free (lineages w s)))) (flat (λ n. second_reset (children n)) (nodes w s) (λ n. second-free (children n)))) (second-free (signals s))
