-- What the calls of this crate answer.
use Rattle.std.specs.Prelude.{◌≡◌, ℕ, List, [], ◌∷◌, Option, None, Some, Result, Ok, Err, slice_get}
use Rattle.rdl_base.specs.declared.fault.Fault.{Fault}
use Rattle.rdl_base.specs.declared.rule.Rule.TheVariants as rules
use Rattle.rdl_props.specs.declared.prop.Prop.{Prop}
use Rattle.rdl_tree.specs.declared.node.Elab.{Elab}
use Rattle.rdl_values.specs.Elaborated.{top_name, nodes_of}
use Rattle.rdl_values.specs.Instances.{Instance}
use Rattle.rdl_values.specs.Lineages.{Lineage, lineages_of}
use Rattle.rdl_values.specs.Verdict.{Fails, IsListOf, IsRefusal}
use Rattle.rdl_layers.specs.Settings.{setting}
use Rattle.rdl_failures.specs.declared.error.PhaseError.{PhaseError}
use Rattle.rdl_failures.specs.declared.error.PhaseError.TheVariants as error
use Rattle.rdl_refs.specs.declared.circle.OrderError.{OrderError}
use Rattle.rdl_refs.specs.declared.circle.OrderError.TheVariants as circle
use Rattle.rdl_refs.specs.declared.item.ItemOf.{ItemOf}
use Rattle.rdl_refs.specs.Follows.{FailsR7, edges_of, item_number}
use Rattle.rdl_refs.specs.Graph.{IsOrder, IsCircleOf}
use Rattle.rdl_refs.specs.Items.{Item, items, target, fails_r}

-- the failures of the rules on where references lead, of a tree of instances
abbrev pub references_fail : Elab → Fails
references_fail e = fails_r (Some (top_name e)) e.source.now

-- every reference leads to an item
abbrev pub IsBound : Elab → Type 0
IsBound e = IsListOf (references_fail e) []

-- `bind`: the references of the tree and the dependencies of its items where each reference leads to an item, else the list of all
-- failures. Want of memory may be answered anywhere. Both are seen as the tree that they are of.
abbrev pub AnswersR : Elab → Result (Elab × Elab) PhaseError → Type 0
AnswersR e (Ok of) = IsBound e × (of.0 ≡ e) × (of.1 ≡ e)
AnswersR e (Err (error.Faults list)) = IsRefusal (references_fail e) list.items
AnswersR e (Err error.NoMemory) = Unit {0}

-- an item by its node's number
abbrev pub IsItemOf : List Instance → ItemOf → Item → Type 0
IsItemOf all i j = (slice_get all i.node ≡ Some j.node) × (i.what ≡ j.what)

-- one by one
abbrev pub AreItemsOf : List Instance → List ItemOf → List Item → Type 0
AreItemsOf all [] [] = Unit {0}
AreItemsOf all (i ∷ is) (j ∷ js) = IsItemOf all i j × AreItemsOf all is js
AreItemsOf all _ _ = ⊥

-- `Refs::items`: all items, in the order of their numbers
abbrev pub AreItems : Elab → List ItemOf → Type 0
AreItems e is = AreItemsOf (nodes_of e) is (items (lineages_of e))

abbrev pub IsNumberOf : List Lineage → List Item → Option ℕ → Type 0
IsNumberOf all [] k = k ≡ None
IsNumberOf all (i ∷ is) k = k ≡ Some (item_number all i)

-- `Refs::target`: the number of the item that the setting of a property on the node of a number names, and none where the
-- setting is no reference
abbrev pub TargetAt : Elab → ℕ → Prop → Option ℕ → Type 0
TargetAt e k p item = (n : Instance) × (slice_get (nodes_of e) k ≡ Some n) × IsNumberOf (lineages_of e) (target (lineages_of e) (setting n p)) item

-- `order`: the numbers of all items, each behind those that it refers to, or a circle, where references can be followed for ever
abbrev pub Orders : Elab → Result (List ℕ) OrderError → Type 0
Orders e (Ok order) = IsOrder (edges_of (lineages_of e)) order
Orders e (Err (circle.Loop list)) = IsCircleOf (edges_of (lineages_of e)) list.items
Orders e (Err circle.NoMemory) = Unit {0}

-- `circling`: the failures of R7
abbrev pub AreCircling : Elab → List Fault → Type 0
AreCircling e list = IsListOf (λ r p. (r ≡ rules.R7) × FailsR7 (lineages_of e) p) list
