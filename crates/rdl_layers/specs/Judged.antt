-- Which rules an assignment fails: the V rules in its value and in the indices of its target, and P1 to P8. Where P1 or P2
-- stands no row says what the value is, so neither it nor P3 to P6 is judged.
use Rattle.std.specs.Prelude.{Bool, true, false, not, ◌&&◌, List, ◌++◌, map, flat_map, filter, is_none, option_to_list}
use Rattle.std.specs.List.{list_any}
use Rattle.rb_base.specs.declared.place.Place.{Place}
use Rattle.rdl_base.specs.declared.fault.Fault.{Fault}
use Rattle.rdl_base.specs.declared.rule.Rule.{Rule}
use Rattle.rdl_base.specs.declared.rule.Rule.TheVariants as rules
use Rattle.rdl_props.specs.declared.prop.Prop.{Prop}
use Rattle.rdl_props.specs.declared.prop.Prop.TheVariants as prop
use Rattle.rdl_props.specs.Table.{is_left_out, is_legal}
use Rattle.rdl_values.specs.Values.{number_of}
use Rattle.rdl_values.specs.Bodies.{around, standing}
use Rattle.rdl_values.specs.Uses.{when, at_, failures}
use Rattle.rdl_values.specs.Instances.{Instance, kind_of, is_empty}
use Rattle.rdl_props.specs.Same.{same_prop}
use Rattle.rdl_layers.specs.Ranks.{is_related}
use Rattle.rdl_layers.specs.Meanings.{Assignment, prop_of, meaning}
use Rattle.rdl_layers.specs.Assignments.{Dynamic, Nested, targets, meet}

-- P1, P2: a name that is no property here
abbrev pub unknown : Assignment → List Fault
unknown a = when (is_none (prop_of a)) (at_ (go (is_left_out a.set_.prop.text.now)) a.set_.place)
  where
    go : Bool → Rule
    go true = rules.P2
    go false = rules.P1

-- P3
abbrev pub illegal : (Prop → Bool) → Assignment → List Fault
illegal legal a = flat_map (λ p. when (not (legal p)) (at_ rules.P3 a.set_.place)) (option_to_list (prop_of a))

-- The first failure of the value by a V rule; else P6 or P8.
abbrev pub bad_value : Assignment → List Fault
bad_value a = flat_map (λ p. failures (meaning p a)) (option_to_list (prop_of a))

-- the properties that these assign
abbrev pub props_of : List Assignment → List Prop
props_of as' = flat_map (λ a. option_to_list (prop_of a)) as'

-- P4 and P5: the same property, or one that excludes it, is assigned before
abbrev pub against : List Prop → Place → Prop → List Fault
against earlier place p =
    when (list_any (same_prop p) earlier) (at_ rules.P4 place)
    ++ when (list_any (λ q. is_related p q && not (same_prop p q)) earlier) (at_ rules.P5 place)

-- P4 and P5 against these assignments before it
abbrev pub taken : List Assignment → Assignment → List Fault
taken earlier a = flat_map (against (props_of earlier) a.set_.place) (option_to_list (prop_of a))

-- An assignment behind those of its body and layer, where these properties are legal.
abbrev pub failures_of : (Prop → Bool) → List Assignment × Assignment → List Fault
failures_of legal a = unknown a.1 ++ illegal legal a.1 ++ bad_value a.1 ++ taken a.0 a.1

-- legal on every kind: a default fails P3 nowhere
abbrev pub anywhere : Prop → Bool
anywhere p = true

-- the property is legal on the node's kind
abbrev pub legal_on : Instance → Prop → Bool
legal_on n p = is_legal p (kind_of n)

-- an enum's entry takes a name and a description
abbrev pub legal_on_entry : Prop → Bool
legal_on_entry prop.Name = true
legal_on_entry prop.Desc = true
legal_on_entry _ = false

-- Dynamic assignments.

-- each index of the target is a value of its own
abbrev pub bad_indices : Dynamic → List Fault
bad_indices d = flat_map (λ t. flat_map (λ e. failures (number_of (around d.assigns.scope) e)) t.index.now) d.steps

-- P7: the target leads to no node, or gives some of an array's indices and not all
abbrev pub no_target : Nested → Dynamic → List Fault
no_target b d = when (is_empty (bad_indices d) && is_empty (targets b d)) (at_ rules.P7 d.assigns.set_.place)

-- A dynamic assignment behind those of its body. P4 and P5 ask for a common node.
abbrev pub failures_of_dynamic : Nested → List Dynamic × Dynamic → List Fault
failures_of_dynamic b d =
    unknown d.1.assigns
    ++ bad_indices d.1
    ++ no_target b d.1
    ++ flat_map (λ n. illegal (legal_on n) d.1.assigns) (targets b d.1)
    ++ bad_value d.1.assigns
    ++ taken (map (λ e. e.assigns) (filter (meet b d.1) d.0)) d.1.assigns

-- Layers as a whole.

-- every failure, each assignment judged behind those before it
abbrev pub all_failures : {A : Type 0} → (List A × A → List Fault) → List A → List Fault
all_failures f xs = flat_map f (standing xs)

-- the assignments that fail no rule
abbrev pub sound : {A : Type 0} → (List A × A → List Fault) → List A → List A
sound f xs = map (λ x. x.1) (filter (λ x. is_empty (f x)) (standing xs))
