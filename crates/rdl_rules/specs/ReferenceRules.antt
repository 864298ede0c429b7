-- The rules on what references mean, and on reset signals.
use Rattle.std.specs.Prelude.{ℕ, Bool, not, ◌&&◌, List, [], ◌++◌, nat_lt, ◌==◌, flat_map}
use Rattle.std.specs.List.{list_any}
use Rattle.rdl_base.specs.declared.fault.Fault.{Fault}
use Rattle.rdl_base.specs.declared.rule.Rule.TheVariants as rules
use Rattle.rdl_props.specs.declared.prop.Prop.{Prop}
use Rattle.rdl_props.specs.declared.prop.Prop.TheVariants as prop
use Rattle.rdl_values.specs.Bodies.{standing}
use Rattle.rdl_values.specs.Uses.{when, at_}
use Rattle.rdl_values.specs.Instances.{Instance}
use Rattle.rdl_values.specs.Lineages.{Lineage}
use Rattle.rdl_layers.specs.Settings.{Meaning, reference, setting}
use Rattle.rdl_layers.specs.Phase4.{width_of}
use Rattle.rdl_refs.specs.declared.item.What.{What}
use Rattle.rdl_refs.specs.declared.item.What.TheVariants as what
use Rattle.rdl_props.specs.Table.{reference_props}
use Rattle.rdl_refs.specs.Items.{Item, target}
use Rattle.rdl_refs.specs.Follows.{is_missing, is_in_alias}
use Rattle.rdl_rules.specs.Fields.{is_field_reset}
use Rattle.rdl_rules.specs.FieldRules.{at_node}

-- in bits
abbrev pub item_width : Item → ℕ
item_width i = go i.what
  where
    go : What → ℕ
    go what.Value = width_of i.node
    go _ = 1

-- Which widths a reference may have in a property of a field w bits wide: just w, just 1, or up to w.
pub data Fit : Type 0 where
  whole : Fit
  single : Fit
  within : Fit

abbrev pub fit_of : Prop → Fit
fit_of prop.Next = whole
fit_of prop.Hwenable = whole
fit_of prop.Hwmask = whole
fit_of prop.Enable = whole
fit_of prop.Mask = whole
fit_of prop.Haltenable = whole
fit_of prop.Haltmask = whole
fit_of prop.We = single
fit_of prop.Wel = single
fit_of prop.Swwe = single
fit_of prop.Swwel = single
fit_of prop.Hwset = single
fit_of prop.Hwclr = single
fit_of prop.Incr = single
fit_of prop.Decr = single
fit_of _ = within

abbrev pub fits : Fit → ℕ → ℕ → Bool
fits whole w n = n == w
fits single w n = n == 1
fits within w n = not (nat_lt w n)

-- R3 to R5, of the setting of a property that names an item
abbrev pub bad_item : Instance → Prop → Meaning → Item → List Fault
bad_item n p (reference path item scope place) i =
    when (not (fits (fit_of p) (width_of n) (item_width i))) (at_ rules.R3 place)
    ++ when (is_missing i) (at_ rules.R4 place)
    ++ when (is_in_alias i) (at_ rules.R5 place)
bad_item n p _ i = []

abbrev pub bad_target : List Lineage → Instance → Prop → List Fault
bad_target all n p = flat_map (bad_item n p (setting n p)) (target all (setting n p))

-- R6: a signal that resets, wider than one bit
abbrev pub wide_reset : List Lineage → Instance → List Fault
wide_reset all n =
    at_node rules.R6 n (is_field_reset n && not (width_of n == 1))
    ++ flat_map (λ i. at_node rules.R6 i.node (not (width_of i.node == 1))) (target all (setting n prop.Resetsignal))

-- R8: a second signal with field_reset among the instances of one body
abbrev pub second_reset : List Instance → List Fault
second_reset ns = flat_map (λ n. at_node rules.R8 n.1 (list_any is_field_reset n.0 && is_field_reset n.1)) (standing ns)

abbrev pub of_references : List Lineage → Instance → List Fault
of_references all n = flat_map (bad_target all n) reference_props ++ wide_reset all n
