-- What the assignments of a body give.
use Rattle.std.specs.Prelude.{◌≡◌, ℕ, nat_eq, List, [], ◌++◌, flat_map, Option, None, Some, slice_get}
use Rattle.std.specs.HashMap.{get}
use Rattle.std.specs.List.{AllByRecursion}
use Rattle.rdl_base.specs.declared.fault.Fault.{Fault}
use Rattle.rdl_props.specs.Table.{is_legal}
use Rattle.rdl_tree.specs.InOrder.{IsInOrder}
use Rattle.rdl_tree.specs.declared.item.Kind.{Kind}
use Rattle.rdl_tree.specs.declared.node.Elab.{Elab}
use Rattle.rdl_values.specs.Bodies as values
use Rattle.rdl_values.specs.Elaborated.{nodes_of}
use Rattle.rdl_values.specs.Instances.{Instance, body}
use Rattle.rdl_values.specs.Top.{root}
use Rattle.rdl_failures.specs.Noted.{Holds, with_all}
use Rattle.rdl_layers.specs.Assignments.{defaults, locals}
use Rattle.rdl_layers.specs.Phase4.{of_enums}
use Rattle.rdl_layers.specs.Judged.{all_failures, anywhere, failures_of, sound}
use Rattle.rdl_assignments.specs.Defaults.{AreDefaults}
use Rattle.rdl_assignments.specs.Layers.{AreGiven}
use Rattle.rdl_assignments.specs.declared.set.ValidAssignment.{ValidAssignment}
use Rattle.rdl_dynamic.specs.Written.{AreWritten}
use Rattle.rdl_bodies.specs.Kept.{AreDistinct}
use Rattle.rdl_bodies.specs.Sited.{IsOpenAs}
use Rattle.rdl_bodies.specs.declared.bodies.Bodies.{Bodies}
use Rattle.rdl_bodies.specs.declared.bodies.Body.{Body}
use Rattle.rdl_bodies.specs.Alike.{ShareTexts}
use Rattle.rdl_open_bodies.specs.Spots.{IsOpenAt}
use Rattle.rdl_open_bodies.specs.declared.spots.OpenTree.{OpenTree}
use Rattle.rdl_open_settings.specs.declared.layers.Layers.{Layers}
use Rattle.rdl_open_settings.specs.declared.table.LayerTable.{LayerTable}

-- the failures of the assignments of a body to its nodes, which are of a kind; the root's has none
abbrev pub of_kind : Option Kind → values.Body → List Fault
of_kind None b = []
of_kind (Some k) b = all_failures (failures_of (λ p. is_legal p k)) (locals b)

-- those, those of its defaults, and those of its enumerations' entries
abbrev pub of_layers : values.Body → List Fault
of_layers b = of_kind b.kind b ++ all_failures (failures_of anywhere) (defaults b) ++ of_enums b

-- Bodies of this number, whose parameters have different names, are open.
pub record CanJudge (t : Bodies) (k : ℕ) : Type 0 where
  pub in_order : (j : ℕ) (x : Body) → slice_get t.list.items j ≡ Some x → IsInOrder x.items.now
  pub texts : ShareTexts t
  pub shown : values.Body
  pub open_ : IsOpenAt t k shown
  pub distinct : AreDistinct [] shown.names.bound

-- So is this one.
pub record CanRead (t : Bodies) (x : Body) : Type 0 where
  pub in_order : IsInOrder x.items.now
  pub texts : ShareTexts t
  pub number : ℕ
  pub listed : slice_get t.list.items number ≡ Some x
  pub shown : values.Body
  pub open_ : IsOpenAs t x shown
  pub distinct : AreDistinct [] shown.names.bound

-- these are what the assignments of a body to its nodes give that fail no rule
abbrev pub AreLocals : Option Kind → List ValidAssignment → values.Body → Type 0
AreLocals None gs b = Unit {0}
AreLocals (Some k) gs b = AreGiven 0 gs (sound (failures_of (λ p. is_legal p k)) (locals b))

-- What the assignments of a body give, those to its nodes and its defaults, and its dynamic ones.
pub record IsLayersOf (l : Layers) (b : values.Body) : Type 0 where
  pub locals_are : AreLocals b.kind l.locals.items b
  pub defaults_are : AreDefaults l.defaults 0 b
  pub dynamics_are : AreWritten l.dynamics.value.items b.items

-- what is found under the number of a body
abbrev pub layers_at : LayerTable → ℕ → Option Layers
layers_at x k = get nat_eq x.list k

-- What is found under a number holds of each body that is open there.
pub record AreLayers (t : Bodies) (held : List Fault) (x : LayerTable) : Type 0 where
  pub known : (k : ℕ) (l : Layers) → layers_at x k ≡ Some l → (b : values.Body) → IsOpenAt t k b → Holds held (of_layers b) × IsLayersOf l b

-- The layers of the body of a number are found, and its failures were put in.
pub record IsKnown (t : Bodies) (old new : LayerTable) (before after : List Fault) (k : ℕ) (b : values.Body) : Type 0 where
  pub all : AreLayers t after new
  pub noted : after ≡ with_all (of_layers b) before
  pub found : Layers
  pub here : layers_at new k ≡ Some found
  pub kept : (j : ℕ) (l : Layers) → layers_at old j ≡ Some l → layers_at new j ≡ Some l

-- the body of a number has layers there
abbrev pub HasLayers : LayerTable → ℕ → Type 0
HasLayers x k = (l : Layers) × (layers_at x k ≡ Some l)

-- the failures of the layers of some nodes
abbrev pub of_nodes : List Instance → List Fault
of_nodes ns = flat_map (λ n. of_layers (body n)) ns

-- The layers of all bodies of a tree are found, and their failures were put in.
pub record AreLayersOf (e : Elab) (tree : OpenTree) (x : LayerTable) (before after : List Fault) : Type 0 where
  pub all : AreLayers tree.bodies after x
  pub noted : after ≡ with_all (of_layers (root e.source.now) ++ of_nodes (nodes_of e)) before
  pub root_ : HasLayers x 0
  pub nodes_ : AllByRecursion (λ o. HasLayers x o.body) tree.spots.items
