-- What a reference may mean: a field, a signal, or an item of a field or register (SystemRDL 2.0, 9.4 to 9.10).
use Rattle.std.specs.Prelude.{ℕ, Bool, true, false, not, ◌&&◌, ◌||◌, cond, ◌==◌, List, [], ◌∷◌, ◌++◌, bytes_eq, map, flat_map, Option, None, Some, option_to_list, Contains, codes}
use Rattle.std.specs.List.{list_any}
use Rattle.rdl_base.specs.declared.fault.Fault.{Fault}
use Rattle.rdl_base.specs.declared.rule.Rule.TheVariants as rules
use Rattle.rdl_tree.specs.declared.expr.Name.{Name}
use Rattle.rdl_tree.specs.declared.item.Kind.{Kind}
use Rattle.rdl_tree.specs.declared.item.Kind.TheVariants as kind
use Rattle.rdl_tree.specs.declared.item.Source.{Source}
use Rattle.rdl_props.specs.declared.prop.Prop.{Prop}
use Rattle.rdl_props.specs.declared.prop.Prop.TheVariants as prop
use Rattle.rdl_props.specs.Table.{reference_props, find_prop}
use Rattle.rdl_values.specs.Verdict.{Fails}
use Rattle.rdl_values.specs.Uses.{when, at_}
use Rattle.rdl_values.specs.Instances.{Instance, kind_of, nodes, is_empty}
use Rattle.rdl_values.specs.Lineages.{Lineage, lineages}
use Rattle.rdl_layers.specs.Settings.{Meaning, reference, setting}
use Rattle.rdl_layers.specs.Fields.{is_a}
use Rattle.rdl_refs.specs.declared.item.What.{What}
use Rattle.rdl_refs.specs.declared.item.What.TheVariants as what
use Rattle.rdl_refs.specs.Leads.{led_to}

abbrev pub same_what : What → What → Bool
same_what a b = rank a == rank b
  where
    rank : What → ℕ
    rank what.Value = 0
    rank what.Anded = 1
    rank what.Ored = 2
    rank what.Xored = 3
    rank what.IncrThreshold = 4
    rank what.DecrThreshold = 5
    rank what.Overflow = 6
    rank what.Underflow = 7
    rank what.SwMod = 8
    rank what.SwAcc = 9
    rank what.Intr = 10
    rank what.Halt = 11

-- An item of a node, with the nodes that this stands in, the nearest first.
pub record Item : Type 0 where
  pub node : Instance
  pub ancestors : List Instance
  pub what : What

abbrev pub item_of : Lineage → What → Item
item_of n w = record { node = n.node; ancestors = n.ancestors; what = w }

abbrev pub of_field : List What
of_field = what.Value ∷ what.Anded ∷ what.Ored ∷ what.Xored ∷ what.IncrThreshold ∷ what.DecrThreshold ∷ what.Overflow ∷ what.Underflow ∷ what.SwMod ∷ what.SwAcc ∷ []

abbrev pub whats : Kind → List What
whats kind.Signal = what.Value ∷ []
whats kind.Field = of_field
whats kind.Reg = what.Intr ∷ what.Halt ∷ []
whats _ = []

abbrev pub items_of : Lineage → List Item
items_of n = map (item_of n) (whats (kind_of n.node))

-- every item, in node order; an item's number is its position here
unfoldable pub items : List Lineage → List Item
items all = flat_map items_of all

-- the word behind '->'

abbrev pub field_what : Prop → List What
field_what prop.Anded = what.Anded ∷ []
field_what prop.Ored = what.Ored ∷ []
field_what prop.Xored = what.Xored ∷ []
field_what prop.Incrthreshold = what.IncrThreshold ∷ []
field_what prop.Decrthreshold = what.DecrThreshold ∷ []
field_what prop.Overflow = what.Overflow ∷ []
field_what prop.Underflow = what.Underflow ∷ []
field_what prop.Swmod = what.SwMod ∷ []
field_what prop.Swacc = what.SwAcc ∷ []
field_what _ = []

abbrev pub reg_what : List ℕ → List What
reg_what n = cond (bytes_eq n (codes "intr")) (what.Intr ∷ []) (cond (bytes_eq n (codes "halt")) (what.Halt ∷ []) [])

abbrev pub what_named : Kind → Option Name → List What
what_named kind.Signal None = what.Value ∷ []
what_named kind.Field None = what.Value ∷ []
what_named kind.Field (Some n) = flat_map field_what (option_to_list (find_prop n.text.now))
what_named kind.Reg (Some n) = reg_what n.text.now
what_named _ _ = []

abbrev pub item_named : Option Name → Lineage → List Item
item_named item n = map (item_of n) (what_named (kind_of n.node) item)

-- the item that a setting names, in a list of one, or none
abbrev pub target : List Lineage → Meaning → List Item
target all (reference p item scope place) = flat_map (item_named item) (led_to all p scope)
target all _ = []

-- R1: a reference that leads to no node; R2: it leads to what can't be referred to, or a reset signal that is none

abbrev pub is_resetsignal : Prop → Bool
is_resetsignal prop.Resetsignal = true
is_resetsignal _ = false

abbrev pub is_wanted : Prop → Item → Bool
is_wanted p i = not (is_resetsignal p) || is_a kind.Signal i.node

abbrev pub bad_reference : List Lineage → Prop → Meaning → List Fault
bad_reference all p (reference path item scope place) =
    when (is_empty (led_to all path scope)) (at_ rules.R1 place)
    ++ when (not (is_empty (led_to all path scope)) && not (list_any (is_wanted p) (target all (reference path item scope place)))) (at_ rules.R2 place)
bad_reference all p _ = []

-- all failures of R1 and R2, of the settings that are references
unfoldable pub failures_r : Option (List ℕ) → Source → List Fault
failures_r wanted s = flat_map (λ n. flat_map (λ p. bad_reference (lineages wanted s) p (setting n p)) reference_props) (nodes wanted s)

abbrev pub fails_r : Option (List ℕ) → Source → Fails
fails_r wanted s r p = Contains (failures_r wanted s) (at_ r p)
