-- What was found of the nodes of a tree, one by one.
use Rattle.std.specs.Prelude.{◌≡◌, ◌≢◌, ◌<◌, ℕ, ◌==◌, Bool, false, not, List, ◌++◌, flat_map, length, map, Option, None, Some, Vec}
use Rattle.std.specs.Global.{Global}
use Rattle.rdl_base.specs.declared.fault.Fault.{Fault}
use Rattle.rdl_tree.specs.declared.node.Elab.{Elab}
use Rattle.rdl_values.specs.Elaborated.{nodes_of}
use Rattle.rdl_values.specs.Instances.{Instance, body}
use Rattle.rdl_values.specs.Lineages.{lineages_of}
use Rattle.rdl_failures.specs.Noted.{with_all}
use Rattle.rdl_layers.specs.Assignments.{dynamics}
use Rattle.rdl_layers.specs.Judged.{all_failures, failures_of_dynamic}
use Rattle.rdl_layers.specs.Phase4.{of_node}
use Rattle.rdl_layers.specs.Settings.{applied_to, from_above}
use Rattle.rdl_layers.specs.Tables.{entries_at}
use Rattle.rdl_layers.specs.declared.props.PropSetting.{PropSetting}
use Rattle.rdl_layers.specs.Nested.{nested}
use Rattle.rdl_dynamic.specs.Given.{ArePushed}
use Rattle.rdl_merge.specs.Merged.{AreEntries}
use Rattle.rdl_targets.specs.At.{IsAt}
use Rattle.rdl_open_settings.specs.Completed.{IsNode, IsScene}
use Rattle.rdl_open_settings.specs.Layered.{of_layers, of_nodes}
use Rattle.rdl_open_settings.specs.declared.layers.Layers.{Layers}
use Rattle.rdl_open_settings.specs.declared.table.LayerTable.{LayerTable}
use Rattle.rdl_failures.specs.declared.error.PhaseError.{PhaseError}
use Rattle.rdl_failures.specs.declared.error.PhaseError.TheVariants as error
use Rattle.rdl_nodes.specs.Rows.{AreRows}
use Rattle.rdl_open_bodies.specs.Spots.{IsOpenTree}
use Rattle.rdl_open_bodies.specs.declared.spots.OpenTree.{OpenTree}
use Rattle.rdl_open_bodies.specs.declared.spots.Spot.{Spot}
use Rattle.rdl_tree.specs.declared.node.Node.{Node}
use Rattle.rdl_values.specs.Bodies.{standing}
use Rattle.rdl_values.specs.Top.{root}
use Rattle.rdl_settle.specs.declared.settling.Gathered.{Gathered}

-- the failures of the dynamic assignments in the body of a node
abbrev pub of_dynamics : Instance → List Fault
of_dynamics n = all_failures (failures_of_dynamic (nested n)) (dynamics (body n))

-- whether what the assignments of a body give has dynamic ones
abbrev pub has_dynamics : Option Layers → Bool
has_dynamics None = false
has_dynamics (Some l) = not (length l.dynamics.value.items == 0)

-- The dynamic assignments in the body of a node were judged, and what they assign was put behind the entries of nodes.
pub record IsAssigned (e : Elab) (n : Instance) (old new : List (Vec PropSetting Global)) (before after : List Fault) : Type 0 where
  pub noted : after ≡ with_all (of_dynamics n) before
  pub pushed : ArePushed e (nested n) old new

-- So were those in the bodies of all of these: the entries of each node tell of what they assign to it, in turn.
pub record AreAssigned (e : Elab) (ns : List Instance) (es : List (Vec PropSetting Global)) (before after : List Fault) : Type 0 where
  pub all_nodes : length es ≡ e.count
  pub noted : after ≡ with_all (flat_map of_dynamics ns) before
  pub told : (j : ℕ) (m : Instance) → j < e.count → IsAt (lineages_of e) j m → AreEntries (nodes_of e) (entries_at es j) (flat_map (from_above m) (map nested ns))

-- The entries of each node tell of all that applies to it.
pub record AreCompleted (e : Elab) (es : List (Vec PropSetting Global)) (before after : List Fault) : Type 0 where
  pub all_nodes : length es ≡ e.count
  pub noted : after ≡ with_all (flat_map of_node (nodes_of e)) before
  pub told : (j : ℕ) (m : Instance) → j < e.count → IsAt (lineages_of e) j m → AreEntries (nodes_of e) (entries_at es j) (applied_to m)

-- The entries of the node of this number were completed, and nothing else changes.
pub record IsCompletedAt (tree : OpenTree) (layers : LayerTable) (count : ℕ) (r : Node) (o : Spot) (k : ℕ) (old new : List (Vec PropSetting Global)) (before after : List Fault) : Type 0 where
  pub same_length : length new ≡ length old
  pub others : (j : ℕ) → j ≢ k → entries_at new j ≡ entries_at old j
  pub here : (e : Elab) (n : Instance) → IsScene e tree layers count → IsNode e tree r o n → AreEntries (nodes_of e) (entries_at old k) (flat_map (from_above n) (standing n.above)) → AreEntries (nodes_of e) (entries_at new k) (applied_to n)
  pub noted : (e : Elab) (n : Instance) → IsScene e tree layers count → IsNode e tree r o n → AreEntries (nodes_of e) (entries_at old k) (flat_map (from_above n) (standing n.above)) → after ≡ with_all (of_node n) before

-- all failures of the phase, in another order
abbrev pub all_of : Elab → List Fault
all_of e = of_layers (root e.source.now) ++ of_nodes (nodes_of e) ++ flat_map of_dynamics (nodes_of e) ++ flat_map of_node (nodes_of e)

-- All failures of the phase were put in, and the entries of each node tell of all that applies to it.
pub record AreGathered (e : Elab) (es : List (Vec PropSetting Global)) (before after : List Fault) : Type 0 where
  pub all_nodes : length es ≡ e.count
  pub noted : after ≡ with_all (all_of e) before
  pub told : (j : ℕ) (m : Instance) → j < e.count → IsAt (lineages_of e) j m → AreEntries (nodes_of e) (entries_at es j) (applied_to m)

-- So it is of the nodes of the tree, which are listed, with the bodies that are open for them.
pub record IsGathered (e : Elab) (g : Gathered) (before after : List Fault) : Type 0 where
  pub rows_ : AreRows e g.rows.items
  pub open_ : IsOpenTree e g.tree
  pub all : AreGathered e g.entries.items before after

-- the error has these failures, or memory was refused
abbrev pub IsRefused : List Fault → PhaseError → Type 0
IsRefused fs (error.Faults list) = list.items ≡ fs
IsRefused fs error.NoMemory = Unit {0}
