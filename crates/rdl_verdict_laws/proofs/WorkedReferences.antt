-- What the definitions give for references.
use Rattle.std.proofs.Common.{get_or, slice_get, Some, ◌≡◌, ℕ, zero, suc, ◌<◌, Bool, true, false, List, [], ◌∷◌, refl, map, None, codes, arith}
use Rattle.std.specs.Fmt.{digits}
use Rattle.rdl_base.specs.declared.rule.Rule.TheVariants as rules
use Rattle.rdl_tree.specs.declared.expr.Path.{roll-Path}
use Rattle.rdl_tree.specs.declared.item.Kind.TheVariants as kind
use Rattle.rdl_tree.specs.declared.item.Source.{Source}
use Rattle.rdl_props.specs.declared.prop.Prop.{Prop}
use Rattle.rdl_props.specs.declared.prop.Prop.TheVariants as prop
use Rattle.rdl_props.specs.Table.{reference_props, props}
use Rattle.rdl_values.specs.Bodies.{below_top}
use Rattle.rdl_values.specs.Uses.{at_, path_text}
use Rattle.rdl_values.specs.Instances.{Instance, nodes}
use Rattle.rdl_values.specs.Lineages.{Lineage, alone, lineages}
use Rattle.rdl_values.specs.Top.{top_use}
use Rattle.rdl_layers.specs.Settings.{setting}
use Rattle.rdl_refs.specs.declared.item.What.{What}
use Rattle.rdl_refs.specs.declared.item.What.TheVariants as what
use Rattle.rdl_refs.specs.Follows.{edges_of, refers_to, FailsR7, is_missing, is_in_alias}
use Rattle.rdl_refs.specs.Items.{items, Item, item_of, items_of, target, failures_r}
use Rattle.rdl_verdict_laws.proofs.WorkedTrees.{at, name, component}
use Rattle.rdl_verdict_laws.proofs.ReferencesSources.{two_fields, two_counters, many_references, nearest_name, many_items, alias_items}
use Rattle.rdl_refs.specs.Graph.{Edges, Refers, GoesOn, IsCircle}
use Rattle.rdl_refs.specs.Leads.{led_to}

-- what stands for a node at a position that has none
abbrev nobody : Instance
nobody = record { above = []; path = below_top []; use_ = top_use [] (component kind.Addrmap None [] 0 [] None) (name [] 0); closure = record { def = component kind.Addrmap None [] 0 [] None; scope = [] }; bound = [] }

abbrev node_at : Source → ℕ → Instance
node_at s k = get_or (nodes None s) k nobody

abbrev lineage_at : Source → ℕ → Lineage
lineage_at s k = get_or (lineages None s) k (alone nobody)

-- an item by its node's path and what it is
abbrev shown : Item → List ℕ × What
shown i = (path_text i.node.path, i.what)

-- the item that a property of the node at a position names
abbrev named_at : Source → ℕ → Prop → List Item
named_at s k p = target (lineages None s) (setting (node_at s k) p)

abbrev shown_at : Source → ℕ → Prop → List (List ℕ × What)
shown_at s k p = map shown (named_at s k p)

-- what the items of the node at a position refer to
abbrev made_at : Source → ℕ → List (List (List ℕ × What))
made_at s k = map (λ i. map shown (refers_to (lineages None s) i)) (items_of (lineage_at s k))

-- a name is looked up outwards, at the root last
signal_at_the_root : shown_at many_references 4 prop.Next ≡ (codes "s", what.Value) ∷ []
unfolding nodes lineages setting items led_to failures_r edges_of digits props reference_props roll-Path denote.Hole.Carrier.roll Rattle.rdl_tree.specs.declared.expr.Expr.TheBlock.hidden-the_row-Step-1 denote.Hole.Carrier.hidden Rattle.rdl_tree.specs.declared.item.Item.TheBlock.hidden-the_row-Item-0
signal_at_the_root = refl

-- in an array of registers a name means the field beside it
field_of_the_same_element : shown_at many_references 9 prop.Next ≡ (codes "v$1$f", what.Value) ∷ []
unfolding nodes lineages setting items led_to failures_r edges_of digits props reference_props roll-Path denote.Hole.Carrier.roll Rattle.rdl_tree.specs.declared.expr.Expr.TheBlock.hidden-the_row-Step-1 denote.Hole.Carrier.hidden Rattle.rdl_tree.specs.declared.item.Item.TheBlock.hidden-the_row-Item-0
field_of_the_same_element = refl

-- all indices are given
field_of_an_element : shown_at many_references 11 prop.Next ≡ (codes "v$1$f", what.Value) ∷ []
unfolding nodes lineages setting items led_to failures_r edges_of digits props reference_props roll-Path denote.Hole.Carrier.roll Rattle.rdl_tree.specs.declared.expr.Expr.TheBlock.hidden-the_row-Step-1 denote.Hole.Carrier.hidden Rattle.rdl_tree.specs.declared.item.Item.TheBlock.hidden-the_row-Item-0
field_of_an_element = refl

-- the word behind the arrow names an item
item_of_a_field : shown_at many_references 11 prop.We ≡ (codes "v$0$g", what.Ored) ∷ []
unfolding nodes lineages setting items led_to failures_r edges_of digits props reference_props roll-Path denote.Hole.Carrier.roll Rattle.rdl_tree.specs.declared.expr.Expr.TheBlock.hidden-the_row-Step-1 denote.Hole.Carrier.hidden Rattle.rdl_tree.specs.declared.item.Item.TheBlock.hidden-the_row-Item-0
item_of_a_field = refl

-- a reset signal that is a field; the name of the map itself; an index left out; a word that names no item
bad_references : failures_r None many_references ≡ at_ rules.R2 (at 317) ∷ at_ rules.R1 (at 254) ∷ at_ rules.R1 (at 239) ∷ at_ rules.R2 (at 288) ∷ []
unfolding nodes lineages setting items led_to failures_r edges_of digits props reference_props roll-Path denote.Hole.Carrier.roll Rattle.rdl_tree.specs.declared.expr.Expr.TheBlock.hidden-the_row-Step-1 denote.Hole.Carrier.hidden Rattle.rdl_tree.specs.declared.item.Item.TheBlock.hidden-the_row-Item-0
bad_references = refl

-- the nearest body with the name decides
outer_name_hidden : shown_at nearest_name 7 prop.Next ≡ (codes "u$a$f", what.Value) ∷ []
unfolding nodes lineages setting items led_to failures_r edges_of digits props reference_props roll-Path denote.Hole.Carrier.roll Rattle.rdl_tree.specs.declared.expr.Expr.TheBlock.hidden-the_row-Step-1 denote.Hole.Carrier.hidden Rattle.rdl_tree.specs.declared.item.Item.TheBlock.hidden-the_row-Item-0
outer_name_hidden = refl

-- and where it leads nowhere no body further out is asked
no_way_back : failures_r None nearest_name ≡ at_ rules.R1 (at 179) ∷ []
unfolding nodes lineages setting items led_to failures_r edges_of digits props reference_props roll-Path denote.Hole.Carrier.roll Rattle.rdl_tree.specs.declared.expr.Expr.TheBlock.hidden-the_row-Step-1 denote.Hole.Carrier.hidden Rattle.rdl_tree.specs.declared.item.Item.TheBlock.hidden-the_row-Item-0
no_way_back = refl

-- a register's intr refers to its interrupt fields and their enables, its halt to those with a halt mask
interrupt_refers : made_at many_items 1 ≡ ((codes "a$ev", what.Value) ∷ (codes "a$en", what.Value) ∷ (codes "a$lv", what.Value) ∷ []) ∷ ((codes "a$ev", what.Value) ∷ (codes "a$en", what.Value) ∷ []) ∷ []
unfolding nodes lineages setting items led_to failures_r edges_of digits props reference_props roll-Path denote.Hole.Carrier.roll Rattle.rdl_tree.specs.declared.expr.Expr.TheBlock.hidden-the_row-Step-1 denote.Hole.Carrier.hidden Rattle.rdl_tree.specs.declared.item.Item.TheBlock.hidden-the_row-Item-0
interrupt_refers = refl

-- a wire refers to what its next names; an item that it lacks to nothing
wire_refers : made_at many_items 4 ≡ ((codes "a$en", what.Xored) ∷ []) ∷ ((codes "a$lv", what.Value) ∷ []) ∷ ((codes "a$lv", what.Value) ∷ []) ∷ ((codes "a$lv", what.Value) ∷ []) ∷ [] ∷ [] ∷ [] ∷ [] ∷ [] ∷ [] ∷ []
unfolding nodes lineages setting items led_to failures_r edges_of digits props reference_props roll-Path denote.Hole.Carrier.roll Rattle.rdl_tree.specs.declared.expr.Expr.TheBlock.hidden-the_row-Step-1 denote.Hole.Carrier.hidden Rattle.rdl_tree.specs.declared.item.Item.TheBlock.hidden-the_row-Item-0
wire_refers = refl

-- a counter's thresholds refer to its value, its overflow to what it counts by
counter_refers : made_at many_items 6 ≡ [] ∷ ((codes "a$c", what.Value) ∷ []) ∷ ((codes "a$c", what.Value) ∷ []) ∷ ((codes "a$c", what.Value) ∷ []) ∷ ((codes "a$c", what.Value) ∷ (codes "a$n", what.Value) ∷ []) ∷ ((codes "a$c", what.Value) ∷ []) ∷ ((codes "a$ev", what.Ored) ∷ (codes "a$n", what.Value) ∷ []) ∷ ((codes "a$ev", what.Ored) ∷ (codes "a$n", what.Value) ∷ []) ∷ [] ∷ [] ∷ []
unfolding nodes lineages setting items led_to failures_r edges_of digits props reference_props roll-Path denote.Hole.Carrier.roll Rattle.rdl_tree.specs.declared.expr.Expr.TheBlock.hidden-the_row-Step-1 denote.Hole.Carrier.hidden Rattle.rdl_tree.specs.declared.item.Item.TheBlock.hidden-the_row-Item-0
counter_refers = refl

-- the items of an alias refer to nothing
alias_refers_to_nothing : made_at alias_items 5 ≡ [] ∷ [] ∷ [] ∷ [] ∷ [] ∷ [] ∷ [] ∷ [] ∷ [] ∷ [] ∷ []
unfolding nodes lineages setting items led_to failures_r edges_of digits props reference_props roll-Path denote.Hole.Carrier.roll Rattle.rdl_tree.specs.declared.expr.Expr.TheBlock.hidden-the_row-Step-1 denote.Hole.Carrier.hidden Rattle.rdl_tree.specs.declared.item.Item.TheBlock.hidden-the_row-Item-0
alias_refers_to_nothing = refl

-- which items are missing, and which an alias has
abbrev judged_at : Prop → List (Bool × Bool)
judged_at p = map {B = Bool × Bool} (λ i. (is_missing i, is_in_alias i)) (named_at alias_items 7 p)

-- an alias is judged by its own settings, in which it has no interrupt
alias_without_interrupt : judged_at prop.Hwset ≡ (true, true) ∷ []
unfolding nodes lineages setting items led_to failures_r edges_of digits props reference_props roll-Path denote.Hole.Carrier.roll Rattle.rdl_tree.specs.declared.expr.Expr.TheBlock.hidden-the_row-Step-1 denote.Hole.Carrier.hidden Rattle.rdl_tree.specs.declared.item.Item.TheBlock.hidden-the_row-Item-0
alias_without_interrupt = refl

-- and here a counter
alias_with_counter : judged_at prop.Hwclr ≡ (false, true) ∷ []
unfolding nodes lineages setting items led_to failures_r edges_of digits props reference_props roll-Path denote.Hole.Carrier.roll Rattle.rdl_tree.specs.declared.expr.Expr.TheBlock.hidden-the_row-Step-1 denote.Hole.Carrier.hidden Rattle.rdl_tree.specs.declared.item.Item.TheBlock.hidden-the_row-Item-0
alias_with_counter = refl

-- a register without halt
register_without_halt : judged_at prop.We ≡ (true, false) ∷ []
unfolding nodes lineages setting items led_to failures_r edges_of digits props reference_props roll-Path denote.Hole.Carrier.roll Rattle.rdl_tree.specs.declared.expr.Expr.TheBlock.hidden-the_row-Step-1 denote.Hole.Carrier.hidden Rattle.rdl_tree.specs.declared.item.Item.TheBlock.hidden-the_row-Item-0
register_without_halt = refl

-- two items that refer to each other can be followed for ever
round : (edges : Edges) (a b : ℕ) → Refers edges a b → Refers edges b a → (k : ℕ) → GoesOn edges k a
round edges a b there back zero = tt
round edges a b there back (suc zero) = (b, there, tt)
round edges a b there back (suc (suc k)) = (b, there, (a, back, round edges a b there back k))

abbrev item_at : Source → ℕ → What → Item
item_at s k w = item_of (lineage_at s k) w

-- one item refers to another alone
one_edge : (edges : Edges) (a b : ℕ) → slice_get edges a ≡ Some (b ∷ []) → Refers edges a b
one_edge edges a b e = (b ∷ [], e, (0, omega arith, refl))

abbrev field_edges : Edges
field_edges = edges_of (lineages None two_fields)

abbrev counter_edges : Edges
counter_edges = edges_of (lineages None two_counters)

field_there : Refers field_edges 2 12
unfolding nodes lineages setting items led_to failures_r edges_of digits props reference_props roll-Path denote.Hole.Carrier.roll Rattle.rdl_tree.specs.declared.expr.Expr.TheBlock.hidden-the_row-Step-1 denote.Hole.Carrier.hidden Rattle.rdl_tree.specs.declared.item.Item.TheBlock.hidden-the_row-Item-0
field_there = one_edge field_edges 2 12 refl

field_back : Refers field_edges 12 2
unfolding nodes lineages setting items led_to failures_r edges_of digits props reference_props roll-Path denote.Hole.Carrier.roll Rattle.rdl_tree.specs.declared.expr.Expr.TheBlock.hidden-the_row-Step-1 denote.Hole.Carrier.hidden Rattle.rdl_tree.specs.declared.item.Item.TheBlock.hidden-the_row-Item-0
field_back = one_edge field_edges 12 2 refl

counter_there : Refers counter_edges 8 18
unfolding nodes lineages setting items led_to failures_r edges_of digits props reference_props roll-Path denote.Hole.Carrier.roll Rattle.rdl_tree.specs.declared.expr.Expr.TheBlock.hidden-the_row-Step-1 denote.Hole.Carrier.hidden Rattle.rdl_tree.specs.declared.item.Item.TheBlock.hidden-the_row-Item-0
counter_there = one_edge counter_edges 8 18 refl

counter_back : Refers counter_edges 18 8
unfolding nodes lineages setting items led_to failures_r edges_of digits props reference_props roll-Path denote.Hole.Carrier.roll Rattle.rdl_tree.specs.declared.expr.Expr.TheBlock.hidden-the_row-Step-1 denote.Hole.Carrier.hidden Rattle.rdl_tree.specs.declared.item.Item.TheBlock.hidden-the_row-Item-0
counter_back = one_edge counter_edges 18 8 refl

-- both ends of a circle fail
two_fields_first : FailsR7 (lineages None two_fields) (at 40)
unfolding nodes lineages setting items led_to failures_r edges_of digits props reference_props roll-Path denote.Hole.Carrier.roll Rattle.rdl_tree.specs.declared.expr.Expr.TheBlock.hidden-the_row-Step-1 denote.Hole.Carrier.hidden Rattle.rdl_tree.specs.declared.item.Item.TheBlock.hidden-the_row-Item-0
two_fields_first = (2, item_at two_fields 2 what.Value, refl, round field_edges 2 12 field_there field_back, refl)

two_fields_second : FailsR7 (lineages None two_fields) (at 68)
unfolding nodes lineages setting items led_to failures_r edges_of digits props reference_props roll-Path denote.Hole.Carrier.roll Rattle.rdl_tree.specs.declared.expr.Expr.TheBlock.hidden-the_row-Step-1 denote.Hole.Carrier.hidden Rattle.rdl_tree.specs.declared.item.Item.TheBlock.hidden-the_row-Item-0
two_fields_second = (12, item_at two_fields 3 what.Value, refl, round field_edges 12 2 field_back field_there, refl)

-- both ends of a circle fail
two_counters_first : FailsR7 (lineages None two_counters) (at 49)
unfolding nodes lineages setting items led_to failures_r edges_of digits props reference_props roll-Path denote.Hole.Carrier.roll Rattle.rdl_tree.specs.declared.expr.Expr.TheBlock.hidden-the_row-Step-1 denote.Hole.Carrier.hidden Rattle.rdl_tree.specs.declared.item.Item.TheBlock.hidden-the_row-Item-0
two_counters_first = (8, item_at two_counters 2 what.Overflow, refl, round counter_edges 8 18 counter_there counter_back, refl)

two_counters_second : FailsR7 (lineages None two_counters) (at 83)
unfolding nodes lineages setting items led_to failures_r edges_of digits props reference_props roll-Path denote.Hole.Carrier.roll Rattle.rdl_tree.specs.declared.expr.Expr.TheBlock.hidden-the_row-Step-1 denote.Hole.Carrier.hidden Rattle.rdl_tree.specs.declared.item.Item.TheBlock.hidden-the_row-Item-0
two_counters_second = (18, item_at two_counters 3 what.Overflow, refl, round counter_edges 18 8 counter_back counter_there, refl)

apart : (i j d : ℕ) → i < j → j < 2 → ¬ (get_or (2 ∷ 12 ∷ []) i d ≡ get_or (2 ∷ 12 ∷ []) j d)
apart zero zero d lt below e = absurd (omega (arith, lt))
apart zero (suc zero) d lt below e = absurd (omega (arith, e))
apart zero (suc (suc j)) d lt below e = absurd (omega (arith, below))
apart (suc i) zero d lt below e = absurd (omega (arith, lt))
apart (suc i) (suc zero) d lt below e = absurd (omega (arith, lt))
apart (suc i) (suc (suc j)) d lt below e = absurd (omega (arith, below))

-- the values of two fields that are each other's next are a circle of two items
circle_of_two : IsCircle field_edges 2 (12 ∷ [])
circle_of_two = record { differ = apart; round = (field_there, field_back) }
