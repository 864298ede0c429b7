-- What the definitions give for the rules on meaning.
use Rattle.std.proofs.Common.{◌≡◌, [], ◌∷◌, refl, None}
use Rattle.std.specs.Fmt.{digits}
use Rattle.rdl_base.specs.declared.rule.Rule.TheVariants as rules
use Rattle.rdl_tree.specs.declared.expr.Path.{roll-Path}
use Rattle.rdl_props.specs.Table.{reference_props, props}
use Rattle.rdl_values.specs.Uses.{at_}
use Rattle.rdl_rules.specs.Phase6.{failures6}
use Rattle.rdl_verdict_laws.proofs.WorkedTrees.{at}
use Rattle.rdl_verdict_laws.proofs.ReferencesSources.{alias_items, signal_in_an_alias}
use Rattle.rdl_verdict_laws.proofs.MeaningSources.{field_rules, reference_rules, alias_of_its_fields, alias_of_others, written_once_in_an_alias}
use Rattle.rdl_values.specs.Instances.{nodes}
use Rattle.rdl_values.specs.Lineages.{lineages}
use Rattle.rdl_layers.specs.Settings.{setting}
use Rattle.rdl_refs.specs.Items.{items}
use Rattle.rdl_refs.specs.Leads.{led_to}
use Rattle.rdl_addr.specs.Layout.{layout}

-- each rule on fields fails at its field; what is written once and read by nobody is accepted, as is a field that only a read takes from two words
each_field_rule : failures6 None field_rules ≡ at_ rules.F3 (at 130) ∷ at_ rules.F4 (at 161) ∷ at_ rules.F1 (at 67) ∷ at_ rules.F5 (at 195) ∷ at_ rules.F6 (at 230) ∷ at_ rules.F7 (at 270) ∷ at_ rules.F8 (at 313) ∷ at_ rules.F8 (at 362) ∷ at_ rules.F8 (at 398) ∷ at_ rules.F9 (at 441) ∷ at_ rules.F10 (at 467) ∷ at_ rules.F11 (at 501) ∷ at_ rules.F10 (at 552) ∷ at_ rules.F2 (at 601) ∷ at_ rules.F13 (at 676) ∷ at_ rules.F14 (at 696) ∷ at_ rules.F14 (at 726) ∷ []
unfolding nodes lineages setting items led_to layout failures6 digits props reference_props roll-Path denote.Hole.Carrier.roll Rattle.rdl_tree.specs.declared.expr.Expr.TheBlock.hidden-the_row-Step-1 denote.Hole.Carrier.hidden Rattle.rdl_tree.specs.declared.item.Item.TheBlock.hidden-the_row-Item-0
each_field_rule = refl

-- a number of bits that does not fit, an item that is missing, a wide reset signal, a second reset signal
each_reference_rule : failures6 None reference_rules ≡ at_ rules.R6 (at 55) ∷ at_ rules.R3 (at 136) ∷ at_ rules.R3 (at 161) ∷ at_ rules.R3 (at 213) ∷ at_ rules.R3 (at 306) ∷ at_ rules.R6 (at 24) ∷ at_ rules.R4 (at 339) ∷ at_ rules.R4 (at 360) ∷ at_ rules.R8 (at 86) ∷ []
unfolding nodes lineages setting items led_to layout failures6 digits props reference_props roll-Path denote.Hole.Carrier.roll Rattle.rdl_tree.specs.declared.expr.Expr.TheBlock.hidden-the_row-Step-1 denote.Hole.Carrier.hidden Rattle.rdl_tree.specs.declared.item.Item.TheBlock.hidden-the_row-Item-0
each_reference_rule = refl

-- an alias of fields at the same bits breaks no rule
alias_agrees : failures6 None alias_of_its_fields ≡ []
unfolding nodes lineages setting items led_to layout failures6 digits props reference_props roll-Path denote.Hole.Carrier.roll Rattle.rdl_tree.specs.declared.expr.Expr.TheBlock.hidden-the_row-Step-1 denote.Hole.Carrier.hidden Rattle.rdl_tree.specs.declared.item.Item.TheBlock.hidden-the_row-Item-0
alias_agrees = refl

-- one of another access width, with a narrower field, fails twice
alias_differs : failures6 None alias_of_others ≡ at_ rules.F12 (at 147) ∷ at_ rules.F12 (at 123) ∷ []
unfolding nodes lineages setting items led_to layout failures6 digits props reference_props roll-Path denote.Hole.Carrier.roll Rattle.rdl_tree.specs.declared.expr.Expr.TheBlock.hidden-the_row-Step-1 denote.Hole.Carrier.hidden Rattle.rdl_tree.specs.declared.item.Item.TheBlock.hidden-the_row-Item-0
alias_differs = refl

-- a view that is written once needs a reset value of the primary
alias_written_once : failures6 None written_once_in_an_alias ≡ at_ rules.F11 (at 74) ∷ []
unfolding nodes lineages setting items led_to layout failures6 digits props reference_props roll-Path denote.Hole.Carrier.roll Rattle.rdl_tree.specs.declared.expr.Expr.TheBlock.hidden-the_row-Step-1 denote.Hole.Carrier.hidden Rattle.rdl_tree.specs.declared.item.Item.TheBlock.hidden-the_row-Item-0
alias_written_once = refl

-- a reference into an alias fails, beside a missing item
references_into_an_alias : failures6 None alias_items ≡ at_ rules.F12 (at 132) ∷ at_ rules.R4 (at 234) ∷ at_ rules.R4 (at 188) ∷ at_ rules.R5 (at 188) ∷ at_ rules.R5 (at 208) ∷ []
unfolding nodes lineages setting items led_to layout failures6 digits props reference_props roll-Path denote.Hole.Carrier.roll Rattle.rdl_tree.specs.declared.expr.Expr.TheBlock.hidden-the_row-Step-1 denote.Hole.Carrier.hidden Rattle.rdl_tree.specs.declared.item.Item.TheBlock.hidden-the_row-Item-0
references_into_an_alias = refl

-- a signal in an alias is a node of its own, and may be named
signal_in_an_alias_is_named : failures6 None signal_in_an_alias ≡ []
unfolding nodes lineages setting items led_to layout failures6 digits props reference_props roll-Path denote.Hole.Carrier.roll Rattle.rdl_tree.specs.declared.expr.Expr.TheBlock.hidden-the_row-Step-1 denote.Hole.Carrier.hidden Rattle.rdl_tree.specs.declared.item.Item.TheBlock.hidden-the_row-Item-0
signal_in_an_alias_is_named = refl
