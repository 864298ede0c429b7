-- One dynamic assignment, behind those of its body.
use Rattle.std.specs.Prelude.{◌≡◌, ℕ, List, [], ◌∷◌, ◌++◌, map, filter, flat_map, is_some, IfSome}
use Rattle.rdl_base.specs.declared.fault.Fault.{Fault}
use Rattle.rdl_tree.specs.declared.expr.Path.{Path}
use Rattle.rdl_tree.specs.declared.item.Set.{Set}
use Rattle.rdl_tree.specs.declared.node.Elab.{Elab}
use Rattle.rdl_values.specs.Bodies.{around}
use Rattle.rdl_values.specs.Instances.{Instance, children}
use Rattle.rdl_values.specs.Lineages.{lineages_of}
use Rattle.rdl_values.specs.Views.{steps_of}
use Rattle.rdl_values.specs.declared.chain.Chain.{Chain}
use Rattle.rdl_nodes.specs.Rows.{AreRows}
use Rattle.rdl_nodes.specs.declared.table.Row.{Row}
use Rattle.rdl_failures.specs.Noted.{IsNoted}
use Rattle.rdl_failures.specs.Shown.{IsShown}
use Rattle.rdl_layers.specs.Assignments.{Dynamic, Nested, meet, members, targets}
use Rattle.rdl_layers.specs.Judged.{bad_value, failures_of_dynamic, illegal, legal_on, taken}
use Rattle.rdl_assignments.specs.Layers.{IsGiven}
use Rattle.rdl_targets.specs.At.{AreAt, IsAt}
use Rattle.rdl_targets.specs.Contents.{AreContents}
use Rattle.rdl_targets.specs.declared.contents.Contents.{Contents}
use Rattle.rdl_targets.specs.Trails as paths
use Rattle.rdl_dynamic.specs.Known.{AreKnown}
use Rattle.rdl_dynamic.specs.declared.dynamic.Led.{Led}
use Rattle.rdl_dynamic.specs.declared.known.Known.{Known}

-- what fails at the targets and of the value, where a property has the name
abbrev pub known_fails : Nested → List Dynamic → Dynamic → List Fault
known_fails b earlier d = flat_map (λ n. illegal (legal_on n) d.assigns) (targets b d) ++ bad_value d.assigns ++ taken (map (λ x. x.assigns) (filter (meet b d) earlier)) d.assigns

-- The assignment has this text, in the body of the node of this number, and stands behind the known ones.
pub record CanLead (e : Elab) (rows : List Row) (contents : Contents) (body : ℕ) (path : Path) (set_ : Set) (visible : Chain) (known : Known) (b : Nested) (earlier : List Dynamic) (d : Dynamic) : Type 0 where
  pub are_rows : AreRows e rows
  pub are_contents : AreContents e contents
  pub are_known : AreKnown e body rows b known earlier
  pub of : Instance
  pub here : IsAt (lineages_of e) body of
  pub inside : members b ≡ children of
  pub steps : d.steps ≡ steps_of path
  pub sets : d.assigns.set_ ≡ set_
  pub shown : IsShown visible (around d.assigns.scope)

-- It was judged: its failures were put in, it is known, and it is given where nothing fails.
pub record IsLed (e : Elab) (body : ℕ) (rows : List Row) (b : Nested) (earlier : List Dynamic) (d : Dynamic) (r : Led) (known : Known) (before after : List Fault) : Type 0 where
  pub noted : IsNoted (failures_of_dynamic b (earlier, d)) (is_some r.given) before after
  pub are_known : AreKnown e body rows b known (earlier ++ (d ∷ []))
  pub at : AreAt (lineages_of e) (paths.nodes_of known.trails r.path) (targets b d)
  pub given_ : IfSome r.given (λ g. IsGiven body g d.assigns)
