-- Settings and failures of the settings phase, worked out by hand and computed.
use Rattle.std.proofs.Common.{◌≡◌, ℕ, Bool, true, false, List, [], ◌∷◌, refl, map, flat_map, filter, length, Option, None, Some, codes}
use Rattle.std.specs.Fmt.{digits}
use Rattle.rb_base.specs.declared.trigger.Trigger.TheVariants as trigger
use Rattle.rdl_base.specs.declared.fault.Fault.{Fault}
use Rattle.rdl_base.specs.declared.keyword.Keyword.TheVariants as word
use Rattle.rb_base.specs.declared.place.Place.{Place}
use Rattle.rdl_base.specs.declared.rule.Rule.TheVariants as rules
use Rattle.rdl_tree.specs.declared.expr.Name.{Name}
use Rattle.rdl_tree.specs.declared.expr.Path.{roll-Path}
use Rattle.rdl_tree.specs.declared.item.Kind.{Kind}
use Rattle.rdl_tree.specs.declared.item.Kind.TheVariants as kind
use Rattle.rdl_tree.specs.declared.item.Source.{Source}
use Rattle.rdl_props.specs.Table.{reference_props, props, left_out_names}
use Rattle.rdl_props.specs.declared.prop.Prop.{Prop}
use Rattle.rdl_props.specs.declared.prop.Prop.TheVariants as prop
use Rattle.rdl_values.specs.Uses.{at_}
use Rattle.rdl_values.specs.Views.{steps_of}
use Rattle.rdl_values.specs.Instances.{Instance, nodes}
use Rattle.std.specs.List.{position_or_len}
use Rattle.rdl_values.specs.Bodies.{Path, Scope}
use Rattle.rdl_layers.specs.Assignments.{same_path}
use Rattle.rdl_layers.specs.Forms.{Meaning, unset, flag, number, text, named, intr, hard, reference}
use Rattle.rdl_layers.specs.Settings.{setting, is_assigned}
use Rattle.rdl_layers.specs.Fields.{is_a, fields_of, views, is_wire, is_storage}
use Rattle.rdl_layers.specs.Phase4.{failures4, width_of}
use Rattle.rdl_verdict_laws.proofs.SettingsSources.{enum_in_itself, outermost_decides, dynamic_beats_body, nearest_default_decides, root_default, default_behind, default_by_text, default_of_another_kind, instance_value, default_of_parameters, false_signal_members, false_field_members, another_member, short_names, short_and_long, sides, numbers_and_booleans, words, interrupts, accesswidths, references, default_reference, parameters_and_references, enums, elements, two_dimensions, element_twice, bodies_apart, assigned_twice, exclusive, taken_thrice, defaults_twice, unknown_properties, illegal, bad_values, not_a_reference, failing_values, failing_index, failing_value_counts, enum_names, enum_entries, register_widths, widths_left_out, widths_by_occurrence, field_widths, widths_by_default, widths_by_table, classes, alias_views}
use Rattle.rdl_values.specs.Verdict.{in_order}
use Rattle.rdl_verdict_laws.proofs.WorkedTrees.{at}

-- the failures of the settings phase, by place and row
abbrev verdict : Source → List Fault
verdict s = in_order (failures4 None s)

-- the nodes of a kind
abbrev those : Kind → Source → List Instance
those k s = filter (is_a k) (nodes None s)

-- the settings of a property on the nodes of a kind, in order
abbrev settings : Kind → Prop → Source → List Meaning
settings k p s = map (λ n. setting n p) (those k s)

-- the number of the nearest body round a text
abbrev body_number : List Instance → Option Path → ℕ
body_number all None = length all
body_number all (Some p) = position_or_len (λ n. same_path n.path p) all

abbrev scope_number : List Instance → Scope → ℕ
scope_number all [] = length all
scope_number all (l ∷ outer) = body_number all l.node

-- a reference: the names of its path and item, the number of its scope, and its place
pub record Shown : Type 0 where
  pub names : List (List ℕ)
  pub item : List (List ℕ)
  pub scope : ℕ
  pub place : Place

abbrev item_names : Option Name → List (List ℕ)
item_names None = []
item_names (Some n) = n.text.now ∷ []

abbrev shown : Source → Meaning → List Shown
shown s (reference path item scope place) = record { names = map (λ t. t.name.text.now) (steps_of path); item = item_names item; scope = scope_number (nodes None s) scope; place = place } ∷ []
shown s _ = []

-- a test of each field, with its views
abbrev classes_of : (List Instance → Instance → Bool) → Source → List Bool
classes_of p s = flat_map (λ r. map (λ f. p (views (nodes None s) r f) f) (fields_of r)) (those kind.Reg s)

-- no rule fails where assignments of several bodies meet at a field
outermost_decides_is_clean : verdict outermost_decides ≡ []
unfolding nodes setting failures4 digits props reference_props left_out_names roll-Path denote.Hole.Carrier.roll Rattle.rdl_tree.specs.declared.expr.Expr.TheBlock.hidden-the_row-Step-1 denote.Hole.Carrier.hidden Rattle.rdl_tree.specs.declared.item.Item.TheBlock.hidden-the_row-Item-0
outermost_decides_is_clean = refl

-- of dynamic assignments the outermost decides, and a default where there is no other
outermost_decides_sw : settings kind.Field prop.Sw outermost_decides ≡ named word.W ∷ named word.R ∷ []
unfolding nodes setting failures4 digits props reference_props left_out_names roll-Path denote.Hole.Carrier.roll Rattle.rdl_tree.specs.declared.expr.Expr.TheBlock.hidden-the_row-Step-1 denote.Hole.Carrier.hidden Rattle.rdl_tree.specs.declared.item.Item.TheBlock.hidden-the_row-Item-0
outermost_decides_sw = refl

-- each property is settled for itself
outermost_decides_hw : settings kind.Field prop.Hw outermost_decides ≡ named word.R ∷ named word.W ∷ []
unfolding nodes setting failures4 digits props reference_props left_out_names roll-Path denote.Hole.Carrier.roll Rattle.rdl_tree.specs.declared.expr.Expr.TheBlock.hidden-the_row-Step-1 denote.Hole.Carrier.hidden Rattle.rdl_tree.specs.declared.item.Item.TheBlock.hidden-the_row-Item-0
outermost_decides_hw = refl

-- a dynamic assignment may assign what the body does
dynamic_beats_body_is_clean : verdict dynamic_beats_body ≡ []
unfolding nodes setting failures4 digits props reference_props left_out_names roll-Path denote.Hole.Carrier.roll Rattle.rdl_tree.specs.declared.expr.Expr.TheBlock.hidden-the_row-Step-1 denote.Hole.Carrier.hidden Rattle.rdl_tree.specs.declared.item.Item.TheBlock.hidden-the_row-Item-0
dynamic_beats_body_is_clean = refl

-- a dynamic assignment decides before the body
dynamic_beats_body_sw : settings kind.Field prop.Sw dynamic_beats_body ≡ named word.W ∷ named word.R ∷ []
unfolding nodes setting failures4 digits props reference_props left_out_names roll-Path denote.Hole.Carrier.roll Rattle.rdl_tree.specs.declared.expr.Expr.TheBlock.hidden-the_row-Step-1 denote.Hole.Carrier.hidden Rattle.rdl_tree.specs.declared.item.Item.TheBlock.hidden-the_row-Item-0
dynamic_beats_body_sw = refl

-- no rule fails
nearest_default_decides_is_clean : verdict nearest_default_decides ≡ []
unfolding nodes setting failures4 digits props reference_props left_out_names roll-Path denote.Hole.Carrier.roll Rattle.rdl_tree.specs.declared.expr.Expr.TheBlock.hidden-the_row-Step-1 denote.Hole.Carrier.hidden Rattle.rdl_tree.specs.declared.item.Item.TheBlock.hidden-the_row-Item-0
nearest_default_decides_is_clean = refl

-- the nearest default decides, and the body before it
nearest_default_decides_sw : settings kind.Field prop.Sw nearest_default_decides ≡ named word.W ∷ named word.Rw ∷ []
unfolding nodes setting failures4 digits props reference_props left_out_names roll-Path denote.Hole.Carrier.roll Rattle.rdl_tree.specs.declared.expr.Expr.TheBlock.hidden-the_row-Step-1 denote.Hole.Carrier.hidden Rattle.rdl_tree.specs.declared.item.Item.TheBlock.hidden-the_row-Item-0
nearest_default_decides_sw = refl

-- a farther default decides where no nearer one stands
nearest_default_decides_hw : settings kind.Field prop.Hw nearest_default_decides ≡ named word.R ∷ named word.R ∷ []
unfolding nodes setting failures4 digits props reference_props left_out_names roll-Path denote.Hole.Carrier.roll Rattle.rdl_tree.specs.declared.expr.Expr.TheBlock.hidden-the_row-Step-1 denote.Hole.Carrier.hidden Rattle.rdl_tree.specs.declared.item.Item.TheBlock.hidden-the_row-Item-0
nearest_default_decides_hw = refl

-- a default at the root reaches every body behind it
root_default_sw : settings kind.Field prop.Sw root_default ≡ named word.W1 ∷ []
unfolding nodes setting failures4 digits props reference_props left_out_names roll-Path denote.Hole.Carrier.roll Rattle.rdl_tree.specs.declared.expr.Expr.TheBlock.hidden-the_row-Step-1 denote.Hole.Carrier.hidden Rattle.rdl_tree.specs.declared.item.Item.TheBlock.hidden-the_row-Item-0
root_default_sw = refl

-- no rule fails
default_behind_is_clean : verdict default_behind ≡ []
unfolding nodes setting failures4 digits props reference_props left_out_names roll-Path denote.Hole.Carrier.roll Rattle.rdl_tree.specs.declared.expr.Expr.TheBlock.hidden-the_row-Step-1 denote.Hole.Carrier.hidden Rattle.rdl_tree.specs.declared.item.Item.TheBlock.hidden-the_row-Item-0
default_behind_is_clean = refl

-- a default that stands behind the definition has no effect
default_behind_sw : settings kind.Field prop.Sw default_behind ≡ named word.Rw ∷ named word.R ∷ []
unfolding nodes setting failures4 digits props reference_props left_out_names roll-Path denote.Hole.Carrier.roll Rattle.rdl_tree.specs.declared.expr.Expr.TheBlock.hidden-the_row-Step-1 denote.Hole.Carrier.hidden Rattle.rdl_tree.specs.declared.item.Item.TheBlock.hidden-the_row-Item-0
default_behind_sw = refl

-- nor one behind the register that the field is in
default_behind_hw : settings kind.Field prop.Hw default_behind ≡ named word.Rw ∷ named word.Rw ∷ []
unfolding nodes setting failures4 digits props reference_props left_out_names roll-Path denote.Hole.Carrier.roll Rattle.rdl_tree.specs.declared.expr.Expr.TheBlock.hidden-the_row-Step-1 denote.Hole.Carrier.hidden Rattle.rdl_tree.specs.declared.item.Item.TheBlock.hidden-the_row-Item-0
default_behind_hw = refl

-- no rule fails
default_by_text_is_clean : verdict default_by_text ≡ []
unfolding nodes setting failures4 digits props reference_props left_out_names roll-Path denote.Hole.Carrier.roll Rattle.rdl_tree.specs.declared.expr.Expr.TheBlock.hidden-the_row-Step-1 denote.Hole.Carrier.hidden Rattle.rdl_tree.specs.declared.item.Item.TheBlock.hidden-the_row-Item-0
default_by_text_is_clean = refl

-- a default reaches a named type by where its text stands, not where it is used
default_by_text_sw : settings kind.Field prop.Sw default_by_text ≡ named word.R ∷ named word.W ∷ []
unfolding nodes setting failures4 digits props reference_props left_out_names roll-Path denote.Hole.Carrier.roll Rattle.rdl_tree.specs.declared.expr.Expr.TheBlock.hidden-the_row-Step-1 denote.Hole.Carrier.hidden Rattle.rdl_tree.specs.declared.item.Item.TheBlock.hidden-the_row-Item-0
default_by_text_sw = refl

-- a default fails nowhere for the kinds that it meets
default_of_another_kind_is_clean : verdict default_of_another_kind ≡ []
unfolding nodes setting failures4 digits props reference_props left_out_names roll-Path denote.Hole.Carrier.roll Rattle.rdl_tree.specs.declared.expr.Expr.TheBlock.hidden-the_row-Step-1 denote.Hole.Carrier.hidden Rattle.rdl_tree.specs.declared.item.Item.TheBlock.hidden-the_row-Item-0
default_of_another_kind_is_clean = refl

-- and has no effect where its property is not legal
default_of_another_kind_regwidth : settings kind.Field prop.Regwidth default_of_another_kind ≡ number 32 ∷ []
unfolding nodes setting failures4 digits props reference_props left_out_names roll-Path denote.Hole.Carrier.roll Rattle.rdl_tree.specs.declared.expr.Expr.TheBlock.hidden-the_row-Step-1 denote.Hole.Carrier.hidden Rattle.rdl_tree.specs.declared.item.Item.TheBlock.hidden-the_row-Item-0
default_of_another_kind_regwidth = refl

-- but does where it is
default_of_its_kind : settings kind.Reg prop.Regwidth default_of_another_kind ≡ number 8 ∷ []
unfolding nodes setting failures4 digits props reference_props left_out_names roll-Path denote.Hole.Carrier.roll Rattle.rdl_tree.specs.declared.expr.Expr.TheBlock.hidden-the_row-Step-1 denote.Hole.Carrier.hidden Rattle.rdl_tree.specs.declared.item.Item.TheBlock.hidden-the_row-Item-0
default_of_its_kind = refl

-- an instance's own value is no second assignment
instance_value_is_clean : verdict instance_value ≡ []
unfolding nodes setting failures4 digits props reference_props left_out_names roll-Path denote.Hole.Carrier.roll Rattle.rdl_tree.specs.declared.expr.Expr.TheBlock.hidden-the_row-Step-1 denote.Hole.Carrier.hidden Rattle.rdl_tree.specs.declared.item.Item.TheBlock.hidden-the_row-Item-0
instance_value_is_clean = refl

-- an instance's own value decides before the body and after a dynamic assignment
instance_value_reset : settings kind.Field prop.Reset instance_value ≡ number 2 ∷ number 1 ∷ number 3 ∷ number 9 ∷ number 1 ∷ []
unfolding nodes setting failures4 digits props reference_props left_out_names roll-Path denote.Hole.Carrier.roll Rattle.rdl_tree.specs.declared.expr.Expr.TheBlock.hidden-the_row-Step-1 denote.Hole.Carrier.hidden Rattle.rdl_tree.specs.declared.item.Item.TheBlock.hidden-the_row-Item-0
instance_value_reset = refl

-- no rule fails
default_of_parameters_is_clean : verdict default_of_parameters ≡ []
unfolding nodes setting failures4 digits props reference_props left_out_names roll-Path denote.Hole.Carrier.roll Rattle.rdl_tree.specs.declared.expr.Expr.TheBlock.hidden-the_row-Step-1 denote.Hole.Carrier.hidden Rattle.rdl_tree.specs.declared.item.Item.TheBlock.hidden-the_row-Item-0
default_of_parameters_is_clean = refl

-- a default has its value in the body that it stands in
default_of_parameters_regwidth : settings kind.Reg prop.Regwidth default_of_parameters ≡ number 8 ∷ number 16 ∷ []
unfolding nodes setting failures4 digits props reference_props left_out_names roll-Path denote.Hole.Carrier.roll Rattle.rdl_tree.specs.declared.expr.Expr.TheBlock.hidden-the_row-Step-1 denote.Hole.Carrier.hidden Rattle.rdl_tree.specs.declared.item.Item.TheBlock.hidden-the_row-Item-0
default_of_parameters_regwidth = refl

-- no rule fails
false_signal_members_is_clean : verdict false_signal_members ≡ []
unfolding nodes setting failures4 digits props reference_props left_out_names roll-Path denote.Hole.Carrier.roll Rattle.rdl_tree.specs.declared.expr.Expr.TheBlock.hidden-the_row-Step-1 denote.Hole.Carrier.hidden Rattle.rdl_tree.specs.declared.item.Item.TheBlock.hidden-the_row-Item-0
false_signal_members_is_clean = refl

-- a false member leaves its group unset, and the table stands where nothing is assigned
false_signal_members_sync : settings kind.Signal prop.Sync false_signal_members ≡ unset ∷ unset ∷ unset ∷ flag true ∷ flag true ∷ []
unfolding nodes setting failures4 digits props reference_props left_out_names roll-Path denote.Hole.Carrier.roll Rattle.rdl_tree.specs.declared.expr.Expr.TheBlock.hidden-the_row-Step-1 denote.Hole.Carrier.hidden Rattle.rdl_tree.specs.declared.item.Item.TheBlock.hidden-the_row-Item-0
false_signal_members_sync = refl

-- async is what makes a signal asynchronous
false_signal_members_async : settings kind.Signal prop.Async false_signal_members ≡ unset ∷ unset ∷ flag true ∷ unset ∷ unset ∷ []
unfolding nodes setting failures4 digits props reference_props left_out_names roll-Path denote.Hole.Carrier.roll Rattle.rdl_tree.specs.declared.expr.Expr.TheBlock.hidden-the_row-Step-1 denote.Hole.Carrier.hidden Rattle.rdl_tree.specs.declared.item.Item.TheBlock.hidden-the_row-Item-0
false_signal_members_async = refl

-- a false activehigh leaves the polarity unset
false_signal_members_activehigh : settings kind.Signal prop.Activehigh false_signal_members ≡ flag true ∷ flag true ∷ flag true ∷ unset ∷ flag true ∷ []
unfolding nodes setting failures4 digits props reference_props left_out_names roll-Path denote.Hole.Carrier.roll Rattle.rdl_tree.specs.declared.expr.Expr.TheBlock.hidden-the_row-Step-1 denote.Hole.Carrier.hidden Rattle.rdl_tree.specs.declared.item.Item.TheBlock.hidden-the_row-Item-0
false_signal_members_activehigh = refl

-- and makes no signal active low
false_signal_members_activelow : settings kind.Signal prop.Activelow false_signal_members ≡ unset ∷ unset ∷ unset ∷ unset ∷ unset ∷ []
unfolding nodes setting failures4 digits props reference_props left_out_names roll-Path denote.Hole.Carrier.roll Rattle.rdl_tree.specs.declared.expr.Expr.TheBlock.hidden-the_row-Step-1 denote.Hole.Carrier.hidden Rattle.rdl_tree.specs.declared.item.Item.TheBlock.hidden-the_row-Item-0
false_signal_members_activelow = refl

-- no rule fails
false_field_members_is_clean : verdict false_field_members ≡ []
unfolding nodes setting failures4 digits props reference_props left_out_names roll-Path denote.Hole.Carrier.roll Rattle.rdl_tree.specs.declared.expr.Expr.TheBlock.hidden-the_row-Step-1 denote.Hole.Carrier.hidden Rattle.rdl_tree.specs.declared.item.Item.TheBlock.hidden-the_row-Item-0
false_field_members_is_clean = refl

-- a false member settles its group to none for all layers behind it
false_field_members_woset : settings kind.Field prop.Woset false_field_members ≡ unset ∷ flag true ∷ flag true ∷ []
unfolding nodes setting failures4 digits props reference_props left_out_names roll-Path denote.Hole.Carrier.roll Rattle.rdl_tree.specs.declared.expr.Expr.TheBlock.hidden-the_row-Step-1 denote.Hole.Carrier.hidden Rattle.rdl_tree.specs.declared.item.Item.TheBlock.hidden-the_row-Item-0
false_field_members_woset = refl

-- and is itself unset
false_field_members_woclr : settings kind.Field prop.Woclr false_field_members ≡ unset ∷ unset ∷ unset ∷ []
unfolding nodes setting failures4 digits props reference_props left_out_names roll-Path denote.Hole.Carrier.roll Rattle.rdl_tree.specs.declared.expr.Expr.TheBlock.hidden-the_row-Step-1 denote.Hole.Carrier.hidden Rattle.rdl_tree.specs.declared.item.Item.TheBlock.hidden-the_row-Item-0
false_field_members_woclr = refl

-- a number is read as a boolean first, where the row has no numbers
false_field_members_swwe : settings kind.Field prop.Swwe false_field_members ≡ unset ∷ flag true ∷ flag true ∷ []
unfolding nodes setting failures4 digits props reference_props left_out_names roll-Path denote.Hole.Carrier.roll Rattle.rdl_tree.specs.declared.expr.Expr.TheBlock.hidden-the_row-Step-1 denote.Hole.Carrier.hidden Rattle.rdl_tree.specs.declared.item.Item.TheBlock.hidden-the_row-Item-0
false_field_members_swwe = refl

-- false is the number 0 where the row has numbers, and no false member
false_field_members_incrvalue : settings kind.Field prop.Incrvalue false_field_members ≡ unset ∷ number 0 ∷ unset ∷ []
unfolding nodes setting failures4 digits props reference_props left_out_names roll-Path denote.Hole.Carrier.roll Rattle.rdl_tree.specs.declared.expr.Expr.TheBlock.hidden-the_row-Step-1 denote.Hole.Carrier.hidden Rattle.rdl_tree.specs.declared.item.Item.TheBlock.hidden-the_row-Item-0
false_field_members_incrvalue = refl

-- a property of no group is false
false_field_members_intr : settings kind.Field prop.Intr false_field_members ≡ unset ∷ unset ∷ flag false ∷ []
unfolding nodes setting failures4 digits props reference_props left_out_names roll-Path denote.Hole.Carrier.roll Rattle.rdl_tree.specs.declared.expr.Expr.TheBlock.hidden-the_row-Step-1 denote.Hole.Carrier.hidden Rattle.rdl_tree.specs.declared.item.Item.TheBlock.hidden-the_row-Item-0
false_field_members_intr = refl

-- as a counter is
false_field_members_counter : settings kind.Field prop.Counter false_field_members ≡ flag false ∷ flag false ∷ flag false ∷ []
unfolding nodes setting failures4 digits props reference_props left_out_names roll-Path denote.Hole.Carrier.roll Rattle.rdl_tree.specs.declared.expr.Expr.TheBlock.hidden-the_row-Step-1 denote.Hole.Carrier.hidden Rattle.rdl_tree.specs.declared.item.Item.TheBlock.hidden-the_row-Item-0
false_field_members_counter = refl

-- sticky is of a group
false_field_members_sticky : settings kind.Field prop.Sticky false_field_members ≡ unset ∷ unset ∷ unset ∷ []
unfolding nodes setting failures4 digits props reference_props left_out_names roll-Path denote.Hole.Carrier.roll Rattle.rdl_tree.specs.declared.expr.Expr.TheBlock.hidden-the_row-Step-1 denote.Hole.Carrier.hidden Rattle.rdl_tree.specs.declared.item.Item.TheBlock.hidden-the_row-Item-0
false_field_members_sticky = refl

-- a false member is assigned all the same
false_field_members_assigned : map (λ n. is_assigned n prop.Sticky) (those kind.Field false_field_members) ≡ false ∷ false ∷ true ∷ []
unfolding nodes setting failures4 digits props reference_props left_out_names roll-Path denote.Hole.Carrier.roll Rattle.rdl_tree.specs.declared.expr.Expr.TheBlock.hidden-the_row-Step-1 denote.Hole.Carrier.hidden Rattle.rdl_tree.specs.declared.item.Item.TheBlock.hidden-the_row-Item-0
false_field_members_assigned = refl

-- no rule fails
another_member_is_clean : verdict another_member ≡ []
unfolding nodes setting failures4 digits props reference_props left_out_names roll-Path denote.Hole.Carrier.roll Rattle.rdl_tree.specs.declared.expr.Expr.TheBlock.hidden-the_row-Step-1 denote.Hole.Carrier.hidden Rattle.rdl_tree.specs.declared.item.Item.TheBlock.hidden-the_row-Item-0
another_member_is_clean = refl

-- another member of the group leaves a property unset
another_member_onwrite : settings kind.Field prop.Onwrite another_member ≡ unset ∷ named word.Woclr ∷ named word.Woclr ∷ []
unfolding nodes setting failures4 digits props reference_props left_out_names roll-Path denote.Hole.Carrier.roll Rattle.rdl_tree.specs.declared.expr.Expr.TheBlock.hidden-the_row-Step-1 denote.Hole.Carrier.hidden Rattle.rdl_tree.specs.declared.item.Item.TheBlock.hidden-the_row-Item-0
another_member_onwrite = refl

-- which is then the one that is set
another_member_woset : settings kind.Field prop.Woset another_member ≡ flag true ∷ unset ∷ unset ∷ []
unfolding nodes setting failures4 digits props reference_props left_out_names roll-Path denote.Hole.Carrier.roll Rattle.rdl_tree.specs.declared.expr.Expr.TheBlock.hidden-the_row-Step-1 denote.Hole.Carrier.hidden Rattle.rdl_tree.specs.declared.item.Item.TheBlock.hidden-the_row-Item-0
another_member_woset = refl

-- across layers too
another_member_onread : settings kind.Field prop.Onread another_member ≡ named word.Rclr ∷ named word.Rclr ∷ unset ∷ []
unfolding nodes setting failures4 digits props reference_props left_out_names roll-Path denote.Hole.Carrier.roll Rattle.rdl_tree.specs.declared.expr.Expr.TheBlock.hidden-the_row-Step-1 denote.Hole.Carrier.hidden Rattle.rdl_tree.specs.declared.item.Item.TheBlock.hidden-the_row-Item-0
another_member_onread = refl

-- the deciding member is set
another_member_rclr : settings kind.Field prop.Rclr another_member ≡ unset ∷ unset ∷ flag true ∷ []
unfolding nodes setting failures4 digits props reference_props left_out_names roll-Path denote.Hole.Carrier.roll Rattle.rdl_tree.specs.declared.expr.Expr.TheBlock.hidden-the_row-Step-1 denote.Hole.Carrier.hidden Rattle.rdl_tree.specs.declared.item.Item.TheBlock.hidden-the_row-Item-0
another_member_rclr = refl

-- and a member that it overrides is not
another_member_rset : settings kind.Field prop.Rset another_member ≡ unset ∷ unset ∷ unset ∷ []
unfolding nodes setting failures4 digits props reference_props left_out_names roll-Path denote.Hole.Carrier.roll Rattle.rdl_tree.specs.declared.expr.Expr.TheBlock.hidden-the_row-Step-1 denote.Hole.Carrier.hidden Rattle.rdl_tree.specs.declared.item.Item.TheBlock.hidden-the_row-Item-0
another_member_rset = refl

-- no rule fails
short_names_is_clean : verdict short_names ≡ []
unfolding nodes setting failures4 digits props reference_props left_out_names roll-Path denote.Hole.Carrier.roll Rattle.rdl_tree.specs.declared.expr.Expr.TheBlock.hidden-the_row-Step-1 denote.Hole.Carrier.hidden Rattle.rdl_tree.specs.declared.item.Item.TheBlock.hidden-the_row-Item-0
short_names_is_clean = refl

-- saturate is incrsaturate
short_names_incrsaturate : settings kind.Field prop.Incrsaturate short_names ≡ number 5 ∷ []
unfolding nodes setting failures4 digits props reference_props left_out_names roll-Path denote.Hole.Carrier.roll Rattle.rdl_tree.specs.declared.expr.Expr.TheBlock.hidden-the_row-Step-1 denote.Hole.Carrier.hidden Rattle.rdl_tree.specs.declared.item.Item.TheBlock.hidden-the_row-Item-0
short_names_incrsaturate = refl

-- threshold is incrthreshold, and without a value true
short_names_incrthreshold : settings kind.Field prop.Incrthreshold short_names ≡ flag true ∷ []
unfolding nodes setting failures4 digits props reference_props left_out_names roll-Path denote.Hole.Carrier.roll Rattle.rdl_tree.specs.declared.expr.Expr.TheBlock.hidden-the_row-Step-1 denote.Hole.Carrier.hidden Rattle.rdl_tree.specs.declared.item.Item.TheBlock.hidden-the_row-Item-0
short_names_incrthreshold = refl

-- a short name and its long one are one property
short_and_long_fails : verdict short_and_long ≡ at_ rules.P4 (at 49) ∷ []
unfolding nodes setting failures4 digits props reference_props left_out_names roll-Path denote.Hole.Carrier.roll Rattle.rdl_tree.specs.declared.expr.Expr.TheBlock.hidden-the_row-Step-1 denote.Hole.Carrier.hidden Rattle.rdl_tree.specs.declared.item.Item.TheBlock.hidden-the_row-Item-0
short_and_long_fails = refl

-- a side is a bare name, whatever parameters are visible
sides_is_clean : verdict sides ≡ []
unfolding nodes setting failures4 digits props reference_props left_out_names roll-Path denote.Hole.Carrier.roll Rattle.rdl_tree.specs.declared.expr.Expr.TheBlock.hidden-the_row-Step-1 denote.Hole.Carrier.hidden Rattle.rdl_tree.specs.declared.item.Item.TheBlock.hidden-the_row-Item-0
sides_is_clean = refl

-- hw is the hardware side
sides_precedence : settings kind.Field prop.Precedence sides ≡ hard true ∷ hard false ∷ hard false ∷ []
unfolding nodes setting failures4 digits props reference_props left_out_names roll-Path denote.Hole.Carrier.roll Rattle.rdl_tree.specs.declared.expr.Expr.TheBlock.hidden-the_row-Step-1 denote.Hole.Carrier.hidden Rattle.rdl_tree.specs.declared.item.Item.TheBlock.hidden-the_row-Item-0
sides_precedence = refl

-- no rule fails
numbers_and_booleans_is_clean : verdict numbers_and_booleans ≡ []
unfolding nodes setting failures4 digits props reference_props left_out_names roll-Path denote.Hole.Carrier.roll Rattle.rdl_tree.specs.declared.expr.Expr.TheBlock.hidden-the_row-Step-1 denote.Hole.Carrier.hidden Rattle.rdl_tree.specs.declared.item.Item.TheBlock.hidden-the_row-Item-0
numbers_and_booleans_is_clean = refl

-- a row of booleans reads a number as one
numbers_and_booleans_counter : settings kind.Field prop.Counter numbers_and_booleans ≡ flag true ∷ flag true ∷ []
unfolding nodes setting failures4 digits props reference_props left_out_names roll-Path denote.Hole.Carrier.roll Rattle.rdl_tree.specs.declared.expr.Expr.TheBlock.hidden-the_row-Step-1 denote.Hole.Carrier.hidden Rattle.rdl_tree.specs.declared.item.Item.TheBlock.hidden-the_row-Item-0
numbers_and_booleans_counter = refl

-- 0 is false
numbers_and_booleans_anded : settings kind.Field prop.Anded numbers_and_booleans ≡ flag false ∷ flag false ∷ []
unfolding nodes setting failures4 digits props reference_props left_out_names roll-Path denote.Hole.Carrier.roll Rattle.rdl_tree.specs.declared.expr.Expr.TheBlock.hidden-the_row-Step-1 denote.Hole.Carrier.hidden Rattle.rdl_tree.specs.declared.item.Item.TheBlock.hidden-the_row-Item-0
numbers_and_booleans_anded = refl

-- a row of numbers reads true as 1
numbers_and_booleans_incrwidth : settings kind.Field prop.Incrwidth numbers_and_booleans ≡ number 1 ∷ unset ∷ []
unfolding nodes setting failures4 digits props reference_props left_out_names roll-Path denote.Hole.Carrier.roll Rattle.rdl_tree.specs.declared.expr.Expr.TheBlock.hidden-the_row-Step-1 denote.Hole.Carrier.hidden Rattle.rdl_tree.specs.declared.item.Item.TheBlock.hidden-the_row-Item-0
numbers_and_booleans_incrwidth = refl

-- a row of booleans and numbers keeps a number
numbers_and_booleans_donttest : settings kind.Field prop.DontTest numbers_and_booleans ≡ number 3 ∷ unset ∷ []
unfolding nodes setting failures4 digits props reference_props left_out_names roll-Path denote.Hole.Carrier.roll Rattle.rdl_tree.specs.declared.expr.Expr.TheBlock.hidden-the_row-Step-1 denote.Hole.Carrier.hidden Rattle.rdl_tree.specs.declared.item.Item.TheBlock.hidden-the_row-Item-0
numbers_and_booleans_donttest = refl

-- and a boolean
numbers_and_booleans_dontcompare : settings kind.Field prop.DontCompare numbers_and_booleans ≡ flag false ∷ unset ∷ []
unfolding nodes setting failures4 digits props reference_props left_out_names roll-Path denote.Hole.Carrier.roll Rattle.rdl_tree.specs.declared.expr.Expr.TheBlock.hidden-the_row-Step-1 denote.Hole.Carrier.hidden Rattle.rdl_tree.specs.declared.item.Item.TheBlock.hidden-the_row-Item-0
numbers_and_booleans_dontcompare = refl

-- a threshold keeps its number
numbers_and_booleans_decrthreshold : settings kind.Field prop.Decrthreshold numbers_and_booleans ≡ number 7 ∷ unset ∷ []
unfolding nodes setting failures4 digits props reference_props left_out_names roll-Path denote.Hole.Carrier.roll Rattle.rdl_tree.specs.declared.expr.Expr.TheBlock.hidden-the_row-Step-1 denote.Hole.Carrier.hidden Rattle.rdl_tree.specs.declared.item.Item.TheBlock.hidden-the_row-Item-0
numbers_and_booleans_decrthreshold = refl

-- no value is true, which is 1 for a number
numbers_and_booleans_incrvalue : settings kind.Field prop.Incrvalue numbers_and_booleans ≡ unset ∷ number 1 ∷ []
unfolding nodes setting failures4 digits props reference_props left_out_names roll-Path denote.Hole.Carrier.roll Rattle.rdl_tree.specs.declared.expr.Expr.TheBlock.hidden-the_row-Step-1 denote.Hole.Carrier.hidden Rattle.rdl_tree.specs.declared.item.Item.TheBlock.hidden-the_row-Item-0
numbers_and_booleans_incrvalue = refl

-- and true where booleans are taken
numbers_and_booleans_incrsaturate : settings kind.Field prop.Incrsaturate numbers_and_booleans ≡ unset ∷ flag true ∷ []
unfolding nodes setting failures4 digits props reference_props left_out_names roll-Path denote.Hole.Carrier.roll Rattle.rdl_tree.specs.declared.expr.Expr.TheBlock.hidden-the_row-Step-1 denote.Hole.Carrier.hidden Rattle.rdl_tree.specs.declared.item.Item.TheBlock.hidden-the_row-Item-0
numbers_and_booleans_incrsaturate = refl

-- or false
numbers_and_booleans_decrsaturate : settings kind.Field prop.Decrsaturate numbers_and_booleans ≡ unset ∷ flag false ∷ []
unfolding nodes setting failures4 digits props reference_props left_out_names roll-Path denote.Hole.Carrier.roll Rattle.rdl_tree.specs.declared.expr.Expr.TheBlock.hidden-the_row-Step-1 denote.Hole.Carrier.hidden Rattle.rdl_tree.specs.declared.item.Item.TheBlock.hidden-the_row-Item-0
numbers_and_booleans_decrsaturate = refl

-- no rule fails
words_is_clean : verdict words ≡ []
unfolding nodes setting failures4 digits props reference_props left_out_names roll-Path denote.Hole.Carrier.roll Rattle.rdl_tree.specs.declared.expr.Expr.TheBlock.hidden-the_row-Step-1 denote.Hole.Carrier.hidden Rattle.rdl_tree.specs.declared.item.Item.TheBlock.hidden-the_row-Item-0
words_is_clean = refl

-- wr is rw
words_sw : settings kind.Field prop.Sw words ≡ named word.Rw ∷ named word.Rw1 ∷ []
unfolding nodes setting failures4 digits props reference_props left_out_names roll-Path denote.Hole.Carrier.roll Rattle.rdl_tree.specs.declared.expr.Expr.TheBlock.hidden-the_row-Step-1 denote.Hole.Carrier.hidden Rattle.rdl_tree.specs.declared.item.Item.TheBlock.hidden-the_row-Item-0
words_sw = refl

-- for hardware too
words_hw : settings kind.Field prop.Hw words ≡ named word.Rw ∷ named word.Na ∷ []
unfolding nodes setting failures4 digits props reference_props left_out_names roll-Path denote.Hole.Carrier.roll Rattle.rdl_tree.specs.declared.expr.Expr.TheBlock.hidden-the_row-Step-1 denote.Hole.Carrier.hidden Rattle.rdl_tree.specs.declared.item.Item.TheBlock.hidden-the_row-Item-0
words_hw = refl

-- a word of a write
words_onwrite : settings kind.Field prop.Onwrite words ≡ named word.Wzt ∷ unset ∷ []
unfolding nodes setting failures4 digits props reference_props left_out_names roll-Path denote.Hole.Carrier.roll Rattle.rdl_tree.specs.declared.expr.Expr.TheBlock.hidden-the_row-Step-1 denote.Hole.Carrier.hidden Rattle.rdl_tree.specs.declared.item.Item.TheBlock.hidden-the_row-Item-0
words_onwrite = refl

-- a word of a read
words_onread : settings kind.Field prop.Onread words ≡ named word.Rset ∷ unset ∷ []
unfolding nodes setting failures4 digits props reference_props left_out_names roll-Path denote.Hole.Carrier.roll Rattle.rdl_tree.specs.declared.expr.Expr.TheBlock.hidden-the_row-Step-1 denote.Hole.Carrier.hidden Rattle.rdl_tree.specs.declared.item.Item.TheBlock.hidden-the_row-Item-0
words_onread = refl

-- a string
words_name : settings kind.Field prop.Name words ≡ unset ∷ text (codes "a b") ∷ []
unfolding nodes setting failures4 digits props reference_props left_out_names roll-Path denote.Hole.Carrier.roll Rattle.rdl_tree.specs.declared.expr.Expr.TheBlock.hidden-the_row-Step-1 denote.Hole.Carrier.hidden Rattle.rdl_tree.specs.declared.item.Item.TheBlock.hidden-the_row-Item-0
words_name = refl

-- a word of addressing
words_addressing : settings kind.Addrmap prop.Addressing words ≡ named word.Compact ∷ []
unfolding nodes setting failures4 digits props reference_props left_out_names roll-Path denote.Hole.Carrier.roll Rattle.rdl_tree.specs.declared.expr.Expr.TheBlock.hidden-the_row-Step-1 denote.Hole.Carrier.hidden Rattle.rdl_tree.specs.declared.item.Item.TheBlock.hidden-the_row-Item-0
words_addressing = refl

-- lsb0 is true by the table
words_lsb0 : settings kind.Addrmap prop.Lsb0 words ≡ flag true ∷ []
unfolding nodes setting failures4 digits props reference_props left_out_names roll-Path denote.Hole.Carrier.roll Rattle.rdl_tree.specs.declared.expr.Expr.TheBlock.hidden-the_row-Step-1 denote.Hole.Carrier.hidden Rattle.rdl_tree.specs.declared.item.Item.TheBlock.hidden-the_row-Item-0
words_lsb0 = refl

-- no rule fails
interrupts_is_clean : verdict interrupts ≡ []
unfolding nodes setting failures4 digits props reference_props left_out_names roll-Path denote.Hole.Carrier.roll Rattle.rdl_tree.specs.declared.expr.Expr.TheBlock.hidden-the_row-Step-1 denote.Hole.Carrier.hidden Rattle.rdl_tree.specs.declared.item.Item.TheBlock.hidden-the_row-Item-0
interrupts_is_clean = refl

-- an interrupt without a trigger word is one of level
interrupts_intr : settings kind.Field prop.Intr interrupts ≡ intr trigger.Level ∷ intr trigger.Posedge ∷ intr trigger.Level ∷ intr trigger.Nonsticky ∷ intr trigger.Level ∷ intr trigger.Bothedge ∷ intr trigger.Negedge ∷ []
unfolding nodes setting failures4 digits props reference_props left_out_names roll-Path denote.Hole.Carrier.roll Rattle.rdl_tree.specs.declared.expr.Expr.TheBlock.hidden-the_row-Step-1 denote.Hole.Carrier.hidden Rattle.rdl_tree.specs.declared.item.Item.TheBlock.hidden-the_row-Item-0
interrupts_intr = refl

-- no rule fails
accesswidths_is_clean : verdict accesswidths ≡ []
unfolding nodes setting failures4 digits props reference_props left_out_names roll-Path denote.Hole.Carrier.roll Rattle.rdl_tree.specs.declared.expr.Expr.TheBlock.hidden-the_row-Step-1 denote.Hole.Carrier.hidden Rattle.rdl_tree.specs.declared.item.Item.TheBlock.hidden-the_row-Item-0
accesswidths_is_clean = refl

-- accesswidth is the regwidth where nothing assigns it
accesswidths_accesswidth : settings kind.Reg prop.Accesswidth accesswidths ≡ number 16 ∷ number 32 ∷ number 32 ∷ []
unfolding nodes setting failures4 digits props reference_props left_out_names roll-Path denote.Hole.Carrier.roll Rattle.rdl_tree.specs.declared.expr.Expr.TheBlock.hidden-the_row-Step-1 denote.Hole.Carrier.hidden Rattle.rdl_tree.specs.declared.item.Item.TheBlock.hidden-the_row-Item-0
accesswidths_accesswidth = refl

-- a reference may name what stands later, and no such node is a failure here
references_is_clean : verdict references ≡ []
unfolding nodes setting failures4 digits props reference_props left_out_names roll-Path denote.Hole.Carrier.roll Rattle.rdl_tree.specs.declared.expr.Expr.TheBlock.hidden-the_row-Step-1 denote.Hole.Carrier.hidden Rattle.rdl_tree.specs.declared.item.Item.TheBlock.hidden-the_row-Item-0
references_is_clean = refl

-- a reference is its path, in the bodies round its text, here that of the register
references_next : flat_map (shown references) (settings kind.Field prop.Next references) ≡ record { names = codes "g" ∷ []; item = []; scope = 3; place = at 83 } ∷ []
unfolding nodes setting failures4 digits props reference_props left_out_names roll-Path denote.Hole.Carrier.roll Rattle.rdl_tree.specs.declared.expr.Expr.TheBlock.hidden-the_row-Step-1 denote.Hole.Carrier.hidden Rattle.rdl_tree.specs.declared.item.Item.TheBlock.hidden-the_row-Item-0
references_next = refl

-- an item is named behind it
references_item : flat_map (shown references) (settings kind.Field prop.Incrsaturate references) ≡ record { names = codes "f" ∷ []; item = codes "ored" ∷ []; scope = 3; place = at 109 } ∷ []
unfolding nodes setting failures4 digits props reference_props left_out_names roll-Path denote.Hole.Carrier.roll Rattle.rdl_tree.specs.declared.expr.Expr.TheBlock.hidden-the_row-Step-1 denote.Hole.Carrier.hidden Rattle.rdl_tree.specs.declared.item.Item.TheBlock.hidden-the_row-Item-0
references_item = refl

-- no rule fails
default_reference_is_clean : verdict default_reference ≡ []
unfolding nodes setting failures4 digits props reference_props left_out_names roll-Path denote.Hole.Carrier.roll Rattle.rdl_tree.specs.declared.expr.Expr.TheBlock.hidden-the_row-Step-1 denote.Hole.Carrier.hidden Rattle.rdl_tree.specs.declared.item.Item.TheBlock.hidden-the_row-Item-0
default_reference_is_clean = refl

-- the scope of a default at the root is the count of nodes
default_reference_scope : flat_map (shown default_reference) (settings kind.Field prop.Hwclr default_reference) ≡ record { names = codes "s" ∷ []; item = []; scope = 5; place = at 13 } ∷ []
unfolding nodes setting failures4 digits props reference_props left_out_names roll-Path denote.Hole.Carrier.roll Rattle.rdl_tree.specs.declared.expr.Expr.TheBlock.hidden-the_row-Step-1 denote.Hole.Carrier.hidden Rattle.rdl_tree.specs.declared.item.Item.TheBlock.hidden-the_row-Item-0
default_reference_scope = refl

-- no rule fails
parameters_and_references_is_clean : verdict parameters_and_references ≡ []
unfolding nodes setting failures4 digits props reference_props left_out_names roll-Path denote.Hole.Carrier.roll Rattle.rdl_tree.specs.declared.expr.Expr.TheBlock.hidden-the_row-Step-1 denote.Hole.Carrier.hidden Rattle.rdl_tree.specs.declared.item.Item.TheBlock.hidden-the_row-Item-0
parameters_and_references_is_clean = refl

-- a bare name that names a parameter is its value
parameters_and_references_incrvalue : settings kind.Field prop.Incrvalue parameters_and_references ≡ number 3 ∷ []
unfolding nodes setting failures4 digits props reference_props left_out_names roll-Path denote.Hole.Carrier.roll Rattle.rdl_tree.specs.declared.expr.Expr.TheBlock.hidden-the_row-Step-1 denote.Hole.Carrier.hidden Rattle.rdl_tree.specs.declared.item.Item.TheBlock.hidden-the_row-Item-0
parameters_and_references_incrvalue = refl

-- also where a reference might stand
parameters_and_references_hwset : settings kind.Field prop.Hwset parameters_and_references ≡ flag false ∷ []
unfolding nodes setting failures4 digits props reference_props left_out_names roll-Path denote.Hole.Carrier.roll Rattle.rdl_tree.specs.declared.expr.Expr.TheBlock.hidden-the_row-Step-1 denote.Hole.Carrier.hidden Rattle.rdl_tree.specs.declared.item.Item.TheBlock.hidden-the_row-Item-0
parameters_and_references_hwset = refl

-- any other name is a reference
parameters_and_references_other : flat_map (shown parameters_and_references) (settings kind.Field prop.Decrvalue parameters_and_references) ≡ record { names = codes "V" ∷ []; item = []; scope = 2; place = at 108 } ∷ []
unfolding nodes setting failures4 digits props reference_props left_out_names roll-Path denote.Hole.Carrier.roll Rattle.rdl_tree.specs.declared.expr.Expr.TheBlock.hidden-the_row-Step-1 denote.Hole.Carrier.hidden Rattle.rdl_tree.specs.declared.item.Item.TheBlock.hidden-the_row-Item-0
parameters_and_references_other = refl

-- an enum's name is a bare name, whatever parameters are visible
enums_is_clean : verdict enums ≡ []
unfolding nodes setting failures4 digits props reference_props left_out_names roll-Path denote.Hole.Carrier.roll Rattle.rdl_tree.specs.declared.expr.Expr.TheBlock.hidden-the_row-Step-1 denote.Hole.Carrier.hidden Rattle.rdl_tree.specs.declared.item.Item.TheBlock.hidden-the_row-Item-0
enums_is_clean = refl

-- assignments to two elements assign nothing twice
elements_is_clean : verdict elements ≡ []
unfolding nodes setting failures4 digits props reference_props left_out_names roll-Path denote.Hole.Carrier.roll Rattle.rdl_tree.specs.declared.expr.Expr.TheBlock.hidden-the_row-Step-1 denote.Hole.Carrier.hidden Rattle.rdl_tree.specs.declared.item.Item.TheBlock.hidden-the_row-Item-0
elements_is_clean = refl

-- without an index a target means every element
elements_sw : settings kind.Field prop.Sw elements ≡ named word.R ∷ named word.R ∷ named word.R ∷ named word.W ∷ []
unfolding nodes setting failures4 digits props reference_props left_out_names roll-Path denote.Hole.Carrier.roll Rattle.rdl_tree.specs.declared.expr.Expr.TheBlock.hidden-the_row-Step-1 denote.Hole.Carrier.hidden Rattle.rdl_tree.specs.declared.item.Item.TheBlock.hidden-the_row-Item-0
elements_sw = refl

-- with one it means that element
elements_hw : settings kind.Field prop.Hw elements ≡ named word.Rw ∷ named word.Rw ∷ named word.R ∷ named word.Rw ∷ []
unfolding nodes setting failures4 digits props reference_props left_out_names roll-Path denote.Hole.Carrier.roll Rattle.rdl_tree.specs.declared.expr.Expr.TheBlock.hidden-the_row-Step-1 denote.Hole.Carrier.hidden Rattle.rdl_tree.specs.declared.item.Item.TheBlock.hidden-the_row-Item-0
elements_hw = refl

-- some indices, one too large, too many, an unknown name, an index of no array, and an instance of another body lead to no node
two_dimensions_fails : verdict two_dimensions ≡ at_ rules.P7 (at 110) ∷ at_ rules.P7 (at 126) ∷ at_ rules.P7 (at 145) ∷ at_ rules.P7 (at 167) ∷ at_ rules.P7 (at 180) ∷ at_ rules.P7 (at 196) ∷ []
unfolding nodes setting failures4 digits props reference_props left_out_names roll-Path denote.Hole.Carrier.roll Rattle.rdl_tree.specs.declared.expr.Expr.TheBlock.hidden-the_row-Step-1 denote.Hole.Carrier.hidden Rattle.rdl_tree.specs.declared.item.Item.TheBlock.hidden-the_row-Item-0
two_dimensions_fails = refl

-- the first name of a target is an instance, and its indices are values
two_dimensions_sw : settings kind.Field prop.Sw two_dimensions ≡ named word.Rw ∷ named word.Rw ∷ named word.R ∷ named word.Rw ∷ []
unfolding nodes setting failures4 digits props reference_props left_out_names roll-Path denote.Hole.Carrier.roll Rattle.rdl_tree.specs.declared.expr.Expr.TheBlock.hidden-the_row-Step-1 denote.Hole.Carrier.hidden Rattle.rdl_tree.specs.declared.item.Item.TheBlock.hidden-the_row-Item-0
two_dimensions_sw = refl

-- a target that shares a node with an earlier one assigns twice, and is left out for all its nodes
element_twice_fails : verdict element_twice ≡ at_ rules.P4 (at 59) ∷ []
unfolding nodes setting failures4 digits props reference_props left_out_names roll-Path denote.Hole.Carrier.roll Rattle.rdl_tree.specs.declared.expr.Expr.TheBlock.hidden-the_row-Step-1 denote.Hole.Carrier.hidden Rattle.rdl_tree.specs.declared.item.Item.TheBlock.hidden-the_row-Item-0
element_twice_fails = refl

-- so the other element has no setting by it
element_twice_regwidth : settings kind.Reg prop.Regwidth element_twice ≡ number 16 ∷ number 32 ∷ []
unfolding nodes setting failures4 digits props reference_props left_out_names roll-Path denote.Hole.Carrier.roll Rattle.rdl_tree.specs.declared.expr.Expr.TheBlock.hidden-the_row-Step-1 denote.Hole.Carrier.hidden Rattle.rdl_tree.specs.declared.item.Item.TheBlock.hidden-the_row-Item-0
element_twice_regwidth = refl

-- members of a group exclude each other within one body alone
bodies_apart_fails : verdict bodies_apart ≡ at_ rules.P5 (at 94) ∷ []
unfolding nodes setting failures4 digits props reference_props left_out_names roll-Path denote.Hole.Carrier.roll Rattle.rdl_tree.specs.declared.expr.Expr.TheBlock.hidden-the_row-Step-1 denote.Hole.Carrier.hidden Rattle.rdl_tree.specs.declared.item.Item.TheBlock.hidden-the_row-Item-0
bodies_apart_fails = refl

-- and the outermost decides
bodies_apart_woset : settings kind.Field prop.Woset bodies_apart ≡ flag true ∷ []
unfolding nodes setting failures4 digits props reference_props left_out_names roll-Path denote.Hole.Carrier.roll Rattle.rdl_tree.specs.declared.expr.Expr.TheBlock.hidden-the_row-Step-1 denote.Hole.Carrier.hidden Rattle.rdl_tree.specs.declared.item.Item.TheBlock.hidden-the_row-Item-0
bodies_apart_woset = refl

-- P4: the later assignment of a property
assigned_twice_fails : verdict assigned_twice ≡ at_ rules.P4 (at 34) ∷ []
unfolding nodes setting failures4 digits props reference_props left_out_names roll-Path denote.Hole.Carrier.roll Rattle.rdl_tree.specs.declared.expr.Expr.TheBlock.hidden-the_row-Step-1 denote.Hole.Carrier.hidden Rattle.rdl_tree.specs.declared.item.Item.TheBlock.hidden-the_row-Item-0
assigned_twice_fails = refl

-- the later one is left out
assigned_twice_sw : settings kind.Field prop.Sw assigned_twice ≡ named word.R ∷ []
unfolding nodes setting failures4 digits props reference_props left_out_names roll-Path denote.Hole.Carrier.roll Rattle.rdl_tree.specs.declared.expr.Expr.TheBlock.hidden-the_row-Step-1 denote.Hole.Carrier.hidden Rattle.rdl_tree.specs.declared.item.Item.TheBlock.hidden-the_row-Item-0
assigned_twice_sw = refl

-- P5: the later member of a group
exclusive_fails : verdict exclusive ≡ at_ rules.P5 (at 33) ∷ []
unfolding nodes setting failures4 digits props reference_props left_out_names roll-Path denote.Hole.Carrier.roll Rattle.rdl_tree.specs.declared.expr.Expr.TheBlock.hidden-the_row-Step-1 denote.Hole.Carrier.hidden Rattle.rdl_tree.specs.declared.item.Item.TheBlock.hidden-the_row-Item-0
exclusive_fails = refl

-- the third assignment is both a second one and an excluded one
taken_thrice_fails : verdict taken_thrice ≡ at_ rules.P5 (at 33) ∷ at_ rules.P4 (at 40) ∷ at_ rules.P5 (at 40) ∷ at_ rules.P5 (at 47) ∷ []
unfolding nodes setting failures4 digits props reference_props left_out_names roll-Path denote.Hole.Carrier.roll Rattle.rdl_tree.specs.declared.expr.Expr.TheBlock.hidden-the_row-Step-1 denote.Hole.Carrier.hidden Rattle.rdl_tree.specs.declared.item.Item.TheBlock.hidden-the_row-Item-0
taken_thrice_fails = refl

-- P4 and P5 for defaults, with definitions between them, whether or not one follows
defaults_twice_fails : verdict defaults_twice ≡ at_ rules.P4 (at 66) ∷ at_ rules.P5 (at 82) ∷ []
unfolding nodes setting failures4 digits props reference_props left_out_names roll-Path denote.Hole.Carrier.roll Rattle.rdl_tree.specs.declared.expr.Expr.TheBlock.hidden-the_row-Step-1 denote.Hole.Carrier.hidden Rattle.rdl_tree.specs.declared.item.Item.TheBlock.hidden-the_row-Item-0
defaults_twice_fails = refl

-- the first holds
defaults_twice_sw : settings kind.Field prop.Sw defaults_twice ≡ named word.R ∷ []
unfolding nodes setting failures4 digits props reference_props left_out_names roll-Path denote.Hole.Carrier.roll Rattle.rdl_tree.specs.declared.expr.Expr.TheBlock.hidden-the_row-Step-1 denote.Hole.Carrier.hidden Rattle.rdl_tree.specs.declared.item.Item.TheBlock.hidden-the_row-Item-0
defaults_twice_sw = refl

-- P1 and P2: the value is not judged, the target is
unknown_properties_fails : verdict unknown_properties ≡ at_ rules.P1 (at 18) ∷ at_ rules.P2 (at 31) ∷ at_ rules.P1 (at 48) ∷ at_ rules.P2 (at 71) ∷ at_ rules.P1 (at 110) ∷ at_ rules.P1 (at 131) ∷ at_ rules.V4 (at 134) ∷ at_ rules.P1 (at 152) ∷ at_ rules.P7 (at 152) ∷ at_ rules.P2 (at 164) ∷ at_ rules.P1 (at 178) ∷ []
unfolding nodes setting failures4 digits props reference_props left_out_names roll-Path denote.Hole.Carrier.roll Rattle.rdl_tree.specs.declared.expr.Expr.TheBlock.hidden-the_row-Step-1 denote.Hole.Carrier.hidden Rattle.rdl_tree.specs.declared.item.Item.TheBlock.hidden-the_row-Item-0
unknown_properties_fails = refl

-- P3 stands beside the failure of the value, and never at a default
illegal_fails : verdict illegal ≡ at_ rules.P3 (at 27) ∷ at_ rules.P3 (at 41) ∷ at_ rules.P3 (at 55) ∷ at_ rules.P3 (at 77) ∷ at_ rules.V4 (at 89) ∷ at_ rules.P3 (at 103) ∷ at_ rules.P3 (at 114) ∷ at_ rules.P6 (at 114) ∷ at_ rules.P3 (at 156) ∷ []
unfolding nodes setting failures4 digits props reference_props left_out_names roll-Path denote.Hole.Carrier.roll Rattle.rdl_tree.specs.declared.expr.Expr.TheBlock.hidden-the_row-Step-1 denote.Hole.Carrier.hidden Rattle.rdl_tree.specs.declared.item.Item.TheBlock.hidden-the_row-Item-0
illegal_fails = refl

-- P6: values of forms that the rows do not take
bad_values_fails : verdict bad_values ≡ at_ rules.P6 (at 12) ∷ at_ rules.P6 (at 26) ∷ at_ rules.P6 (at 44) ∷ at_ rules.P6 (at 67) ∷ at_ rules.P6 (at 77) ∷ at_ rules.P6 (at 83) ∷ at_ rules.P6 (at 107) ∷ at_ rules.P6 (at 118) ∷ at_ rules.P6 (at 128) ∷ at_ rules.P6 (at 144) ∷ at_ rules.P6 (at 173) ∷ at_ rules.P6 (at 179) ∷ at_ rules.P6 (at 191) ∷ at_ rules.P6 (at 202) ∷ at_ rules.P6 (at 219) ∷ at_ rules.P6 (at 244) ∷ at_ rules.P6 (at 252) ∷ at_ rules.P6 (at 263) ∷ at_ rules.P6 (at 275) ∷ at_ rules.P6 (at 287) ∷ at_ rules.P6 (at 308) ∷ at_ rules.P6 (at 324) ∷ at_ rules.P6 (at 339) ∷ at_ rules.P6 (at 352) ∷ at_ rules.P6 (at 365) ∷ []
unfolding nodes setting failures4 digits props reference_props left_out_names roll-Path denote.Hole.Carrier.roll Rattle.rdl_tree.specs.declared.expr.Expr.TheBlock.hidden-the_row-Step-1 denote.Hole.Carrier.hidden Rattle.rdl_tree.specs.declared.item.Item.TheBlock.hidden-the_row-Item-0
bad_values_fails = refl

-- a parameter is no reference, and a parameter with an index is one
not_a_reference_fails : verdict not_a_reference ≡ at_ rules.P6 (at 52) ∷ at_ rules.P6 (at 62) ∷ []
unfolding nodes setting failures4 digits props reference_props left_out_names roll-Path denote.Hole.Carrier.roll Rattle.rdl_tree.specs.declared.expr.Expr.TheBlock.hidden-the_row-Step-1 denote.Hole.Carrier.hidden Rattle.rdl_tree.specs.declared.item.Item.TheBlock.hidden-the_row-Item-0
not_a_reference_fails = refl

-- V: the first failure of a value, which P6 then does not judge; each index of a target
failing_values_fails : verdict failing_values ≡ at_ rules.V4 (at 30) ∷ at_ rules.V1 (at 51) ∷ at_ rules.V3 (at 68) ∷ at_ rules.V4 (at 87) ∷ at_ rules.V1 (at 100) ∷ at_ rules.V2 (at 128) ∷ at_ rules.V4 (at 151) ∷ at_ rules.V2 (at 170) ∷ at_ rules.V4 (at 186) ∷ at_ rules.V1 (at 219) ∷ at_ rules.P6 (at 245) ∷ at_ rules.V4 (at 248) ∷ at_ rules.V2 (at 267) ∷ []
unfolding nodes setting failures4 digits props reference_props left_out_names roll-Path denote.Hole.Carrier.roll Rattle.rdl_tree.specs.declared.expr.Expr.TheBlock.hidden-the_row-Step-1 denote.Hole.Carrier.hidden Rattle.rdl_tree.specs.declared.item.Item.TheBlock.hidden-the_row-Item-0
failing_values_fails = refl

-- an index that fails takes an assignment out of P3 to P5 and P7, for those behind it too
failing_index_fails : verdict failing_index ≡ at_ rules.V4 (at 57) ∷ at_ rules.V4 (at 75) ∷ at_ rules.P4 (at 96) ∷ []
unfolding nodes setting failures4 digits props reference_props left_out_names roll-Path denote.Hole.Carrier.roll Rattle.rdl_tree.specs.declared.expr.Expr.TheBlock.hidden-the_row-Step-1 denote.Hole.Carrier.hidden Rattle.rdl_tree.specs.declared.item.Item.TheBlock.hidden-the_row-Item-0
failing_index_fails = refl

-- an assignment whose value fails is still the first of two
failing_value_counts_fails : verdict failing_value_counts ≡ at_ rules.V4 (at 32) ∷ at_ rules.P4 (at 36) ∷ at_ rules.P6 (at 44) ∷ at_ rules.P5 (at 57) ∷ []
unfolding nodes setting failures4 digits props reference_props left_out_names roll-Path denote.Hole.Carrier.roll Rattle.rdl_tree.specs.declared.expr.Expr.TheBlock.hidden-the_row-Step-1 denote.Hole.Carrier.hidden Rattle.rdl_tree.specs.declared.item.Item.TheBlock.hidden-the_row-Item-0
failing_value_counts_fails = refl

-- and neither of them counts
failing_value_counts_sw : settings kind.Field prop.Sw failing_value_counts ≡ named word.Rw ∷ []
unfolding nodes setting failures4 digits props reference_props left_out_names roll-Path denote.Hole.Carrier.roll Rattle.rdl_tree.specs.declared.expr.Expr.TheBlock.hidden-the_row-Step-1 denote.Hole.Carrier.hidden Rattle.rdl_tree.specs.declared.item.Item.TheBlock.hidden-the_row-Item-0
failing_value_counts_sw = refl

-- P8: an enum is visible behind its name alone
enum_names_fails : verdict enum_names ≡ at_ rules.P8 (at 26) ∷ at_ rules.P8 (at 99) ∷ []
unfolding nodes setting failures4 digits props reference_props left_out_names roll-Path denote.Hole.Carrier.roll Rattle.rdl_tree.specs.declared.expr.Expr.TheBlock.hidden-the_row-Step-1 denote.Hole.Carrier.hidden Rattle.rdl_tree.specs.declared.item.Item.TheBlock.hidden-the_row-Item-0
enum_names_fails = refl

-- an enum's entry takes a name and a description
enum_entries_fails : verdict enum_entries ≡ at_ rules.P3 (at 60) ∷ at_ rules.P6 (at 68) ∷ at_ rules.P4 (at 97) ∷ at_ rules.P1 (at 109) ∷ at_ rules.P3 (at 116) ∷ at_ rules.P8 (at 116) ∷ at_ rules.P2 (at 128) ∷ at_ rules.P4 (at 134) ∷ at_ rules.P6 (at 134) ∷ []
unfolding nodes setting failures4 digits props reference_props left_out_names roll-Path denote.Hole.Carrier.roll Rattle.rdl_tree.specs.declared.expr.Expr.TheBlock.hidden-the_row-Step-1 denote.Hole.Carrier.hidden Rattle.rdl_tree.specs.declared.item.Item.TheBlock.hidden-the_row-Item-0
enum_entries_fails = refl

-- P9 and P10: an accesswidth that nothing assigns follows a bad regwidth
register_widths_fails : verdict register_widths ≡ at_ rules.P9 (at 46) ∷ at_ rules.P10 (at 46) ∷ at_ rules.P10 (at 84) ∷ at_ rules.P10 (at 140) ∷ at_ rules.P10 (at 196) ∷ at_ rules.P9 (at 246) ∷ at_ rules.P10 (at 246) ∷ []
unfolding nodes setting failures4 digits props reference_props left_out_names roll-Path denote.Hole.Carrier.roll Rattle.rdl_tree.specs.declared.expr.Expr.TheBlock.hidden-the_row-Step-1 denote.Hole.Carrier.hidden Rattle.rdl_tree.specs.declared.item.Item.TheBlock.hidden-the_row-Item-0
register_widths_fails = refl

-- P9 to P11 look at the assignments that fail no other rule
widths_left_out_fails : verdict widths_left_out ≡ at_ rules.P4 (at 32) ∷ at_ rules.V4 (at 81) ∷ at_ rules.P6 (at 108) ∷ at_ rules.P4 (at 166) ∷ at_ rules.P10 (at 211) ∷ []
unfolding nodes setting failures4 digits props reference_props left_out_names roll-Path denote.Hole.Carrier.roll Rattle.rdl_tree.specs.declared.expr.Expr.TheBlock.hidden-the_row-Step-1 denote.Hole.Carrier.hidden Rattle.rdl_tree.specs.declared.item.Item.TheBlock.hidden-the_row-Item-0
widths_left_out_fails = refl

-- an assignment is judged in the body of each node anew
widths_by_occurrence_fails : verdict widths_by_occurrence ≡ at_ rules.P4 (at 72) ∷ at_ rules.V4 (at 94) ∷ at_ rules.P9 (at 125) ∷ at_ rules.P10 (at 125) ∷ []
unfolding nodes setting failures4 digits props reference_props left_out_names roll-Path denote.Hole.Carrier.roll Rattle.rdl_tree.specs.declared.expr.Expr.TheBlock.hidden-the_row-Step-1 denote.Hole.Carrier.hidden Rattle.rdl_tree.specs.declared.item.Item.TheBlock.hidden-the_row-Item-0
widths_by_occurrence_fails = refl

-- P11: a width of 0 or above 64, a range upside down, and a bracket that the property contradicts
field_widths_fails : verdict field_widths ≡ at_ rules.P11 (at 60) ∷ at_ rules.P11 (at 75) ∷ at_ rules.P11 (at 107) ∷ at_ rules.P11 (at 141) ∷ at_ rules.P11 (at 202) ∷ []
unfolding nodes setting failures4 digits props reference_props left_out_names roll-Path denote.Hole.Carrier.roll Rattle.rdl_tree.specs.declared.expr.Expr.TheBlock.hidden-the_row-Step-1 denote.Hole.Carrier.hidden Rattle.rdl_tree.specs.declared.item.Item.TheBlock.hidden-the_row-Item-0
field_widths_fails = refl

-- the width of a field
field_widths_are : map width_of (those kind.Field field_widths) ≡ 0 ∷ 65 ∷ 64 ∷ 0 ∷ 8 ∷ 4 ∷ 0 ∷ 3 ∷ 1 ∷ []
unfolding nodes setting failures4 digits props reference_props left_out_names roll-Path denote.Hole.Carrier.roll Rattle.rdl_tree.specs.declared.expr.Expr.TheBlock.hidden-the_row-Step-1 denote.Hole.Carrier.hidden Rattle.rdl_tree.specs.declared.item.Item.TheBlock.hidden-the_row-Item-0
field_widths_are = refl

-- a width of a default counts
widths_by_default_fails : verdict widths_by_default ≡ at_ rules.P11 (at 71) ∷ at_ rules.P11 (at 151) ∷ []
unfolding nodes setting failures4 digits props reference_props left_out_names roll-Path denote.Hole.Carrier.roll Rattle.rdl_tree.specs.declared.expr.Expr.TheBlock.hidden-the_row-Step-1 denote.Hole.Carrier.hidden Rattle.rdl_tree.specs.declared.item.Item.TheBlock.hidden-the_row-Item-0
widths_by_default_fails = refl

-- the table's own does not
widths_by_table_fails : verdict widths_by_table ≡ at_ rules.P11 (at 64) ∷ at_ rules.P11 (at 99) ∷ []
unfolding nodes setting failures4 digits props reference_props left_out_names roll-Path denote.Hole.Carrier.roll Rattle.rdl_tree.specs.declared.expr.Expr.TheBlock.hidden-the_row-Step-1 denote.Hole.Carrier.hidden Rattle.rdl_tree.specs.declared.item.Item.TheBlock.hidden-the_row-Item-0
widths_by_table_fails = refl

-- no rule fails
classes_is_clean : verdict classes ≡ []
unfolding nodes setting failures4 digits props reference_props left_out_names roll-Path denote.Hole.Carrier.roll Rattle.rdl_tree.specs.declared.expr.Expr.TheBlock.hidden-the_row-Step-1 denote.Hole.Carrier.hidden Rattle.rdl_tree.specs.declared.item.Item.TheBlock.hidden-the_row-Item-0
classes_is_clean = refl

-- a wire passes its pin on: b, the nonsticky interrupt k, and n, in which nothing is set
classes_wires : classes_of is_wire classes ≡ false ∷ true ∷ false ∷ false ∷ false ∷ false ∷ false ∷ false ∷ false ∷ true ∷ false ∷ false ∷ true ∷ false ∷ []
unfolding nodes setting failures4 digits props reference_props left_out_names roll-Path denote.Hole.Carrier.roll Rattle.rdl_tree.specs.declared.expr.Expr.TheBlock.hidden-the_row-Step-1 denote.Hole.Carrier.hidden Rattle.rdl_tree.specs.declared.item.Item.TheBlock.hidden-the_row-Item-0
classes_wires = refl

-- all others but the constant c are storage
classes_storage : classes_of is_storage classes ≡ true ∷ false ∷ false ∷ true ∷ true ∷ true ∷ true ∷ true ∷ true ∷ false ∷ true ∷ true ∷ false ∷ true ∷ []
unfolding nodes setting failures4 digits props reference_props left_out_names roll-Path denote.Hole.Carrier.roll Rattle.rdl_tree.specs.declared.expr.Expr.TheBlock.hidden-the_row-Step-1 denote.Hole.Carrier.hidden Rattle.rdl_tree.specs.declared.item.Item.TheBlock.hidden-the_row-Item-0
classes_storage = refl

-- no rule fails
alias_views_is_clean : verdict alias_views ≡ []
unfolding nodes setting failures4 digits props reference_props left_out_names roll-Path denote.Hole.Carrier.roll Rattle.rdl_tree.specs.declared.expr.Expr.TheBlock.hidden-the_row-Step-1 denote.Hole.Carrier.hidden Rattle.rdl_tree.specs.declared.item.Item.TheBlock.hidden-the_row-Item-0
alias_views_is_clean = refl

-- a register's field has the field of its name in each alias as a view
alias_views_counts : flat_map (λ r. map (λ f. length (views (nodes None alias_views) r f)) (fields_of r)) (those kind.Reg alias_views) ≡ 2 ∷ 2 ∷ 2 ∷ 2 ∷ 1 ∷ 1 ∷ 1 ∷ 1 ∷ 1 ∷ 1 ∷ []
unfolding nodes setting failures4 digits props reference_props left_out_names roll-Path denote.Hole.Carrier.roll Rattle.rdl_tree.specs.declared.expr.Expr.TheBlock.hidden-the_row-Step-1 denote.Hole.Carrier.hidden Rattle.rdl_tree.specs.declared.item.Item.TheBlock.hidden-the_row-Item-0
alias_views_counts = refl

-- what an alias's view does to the field makes it storage, and other properties of the alias do not
alias_views_storage : flat_map (λ r. map (λ f. is_storage (views (nodes None alias_views) r f) f) (fields_of r)) (those kind.Reg alias_views) ≡ true ∷ false ∷ true ∷ false ∷ true ∷ true ∷ true ∷ true ∷ false ∷ false ∷ []
unfolding nodes setting failures4 digits props reference_props left_out_names roll-Path denote.Hole.Carrier.roll Rattle.rdl_tree.specs.declared.expr.Expr.TheBlock.hidden-the_row-Step-1 denote.Hole.Carrier.hidden Rattle.rdl_tree.specs.declared.item.Item.TheBlock.hidden-the_row-Item-0
alias_views_storage = refl

-- an enumeration is not visible in its own entries
enum_in_itself_fails : verdict enum_in_itself ≡ at_ rules.V1 (at 24) ∷ []
unfolding nodes setting failures4 digits props reference_props left_out_names roll-Path denote.Hole.Carrier.roll Rattle.rdl_tree.specs.declared.expr.Expr.TheBlock.hidden-the_row-Step-1 denote.Hole.Carrier.hidden Rattle.rdl_tree.specs.declared.item.Item.TheBlock.hidden-the_row-Item-0
enum_in_itself_fails = refl
