-- What the dynamic assignments of a body give to the nodes below it.
use Rattle.std.specs.Prelude.{◌≡◌, ◌<◌, ℕ, List, ◌++◌, length, filter, flat_map, Vec}
use Rattle.std.specs.Global.{Global}
use Rattle.rdl_base.specs.declared.fault.Fault.{Fault}
use Rattle.rdl_tree.specs.declared.expr.Path.{Path}
use Rattle.rdl_tree.specs.declared.item.Item.{Item}
use Rattle.rdl_tree.specs.declared.item.Set.{Set}
use Rattle.rdl_tree.specs.declared.node.Elab.{Elab}
use Rattle.rdl_values.specs.Bodies.{scope_at}
use Rattle.rdl_values.specs.Elaborated.{nodes_of}
use Rattle.rdl_values.specs.Instances.{Instance, body}
use Rattle.rdl_values.specs.Lineages.{lineages_of}
use Rattle.rdl_values.specs.Views.{steps_of}
use Rattle.rdl_nodes.specs.declared.table.Row.{Row}
use Rattle.rdl_failures.specs.Noted.{with_all}
use Rattle.rdl_layers.specs.Assignments.{Dynamic, Nested, is_among, targets}
use Rattle.rdl_layers.specs.Judged.{all_failures, failures_of_dynamic, sound}
use Rattle.rdl_layers.specs.Settings.{Applied, from_above, gives}
use Rattle.rdl_layers.specs.Tables.{entries_at}
use Rattle.rdl_layers.specs.declared.props.PropSetting.{PropSetting}
use Rattle.rdl_layers.specs.declared.rank.Rank.TheVariants as rank
use Rattle.rdl_layers.specs.Nested.{nested}
use Rattle.rdl_merge.specs.Merged.{AreEntries}
use Rattle.rdl_targets.specs.At.{IsAt}
use Rattle.rdl_dynamic.specs.Known.{AreKnown}
use Rattle.rdl_dynamic.specs.declared.known.Known.{Known}

-- an assignment of this text in the body of a node, behind these items
abbrev pub dynamic_of : Instance → List Item → Path → Set → Dynamic
dynamic_of n before p s = record { steps = steps_of p; assigns = record { set_ = s; scope = scope_at (body n) before } }

-- what some dynamic assignments of a body, as far as they are sound, give to a node
abbrev pub given_to : Nested → Instance → List Dynamic → List Applied
given_to b n ds = flat_map (λ d. gives (rank.Dynamic (length b.0)) d.assigns) (filter (λ d. is_among (targets b d) n) (sound (failures_of_dynamic b) ds))

-- what a body assigns to the nodes below was put behind the entries of each node
pub record ArePushed (e : Elab) (b : Nested) (old new : List (Vec PropSetting Global)) : Type 0 where
  pub same_length : length new ≡ length old
  pub pushed : (j : ℕ) (n : Instance) (xs : List Applied) → j < length old → IsAt (lineages_of e) j n → AreEntries (nodes_of e) (entries_at old j) xs → AreEntries (nodes_of e) (entries_at new j) (xs ++ from_above n b)

-- These dynamic assignments in the body of a node have been read: they are known, their failures were put in, and what they give was put
-- behind the entries of each node.
pub record IsGoing (e : Elab) (node : ℕ) (rows : List Row) (n : Instance) (known : Known) (first now : List (Vec PropSetting Global)) (before after : List Fault) (read : List Dynamic) : Type 0 where
  pub are_known : AreKnown e node rows (nested n) known read
  pub noted : after ≡ with_all (all_failures (failures_of_dynamic (nested n)) read) before
  pub same_length : length now ≡ length first
  pub pushed : (j : ℕ) (m : Instance) (xs : List Applied) → j < length first → IsAt (lineages_of e) j m → AreEntries (nodes_of e) (entries_at first j) xs → AreEntries (nodes_of e) (entries_at now j) (xs ++ given_to (nested n) m read)
