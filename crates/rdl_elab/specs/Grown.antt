-- Trees that were grown.
use Rattle.std.specs.Prelude.{◌≡◌, ◌≤◌, ℕ, zero, suc, List, [], ◌++◌, length, flat_map, find, bytes_eq, Option, None, Some, option_and_then}
use Rattle.std.specs.List.{AllByRecursion}
use Rattle.std.specs.Option.{option_copied}
use Rattle.rdl_tree.specs.declared.expr.Name.{Name}
use Rattle.rdl_tree.specs.declared.node.Node.{Node, out-Node}
use Rattle.rdl_values.specs.Bodies as values
use Rattle.rdl_values.specs.Elaborated.{AreTreesOf, IsTreeOf, index_of, number_named}
use Rattle.rdl_values.specs.Instances.{Instance, children, given_by, kind_of, most_nodes, seen_in}
use Rattle.rdl_values.specs.NoNode.{no_node}
use Rattle.rdl_values.specs.Paths.{in_node}
use Rattle.rdl_values.specs.Uses.{Seen, parent_of, seen}
use Rattle.rdl_uses.specs.Parts.{StandsAt}
use Rattle.rdl_uses.specs.declared.standing.Standing.{Standing}
use Rattle.rdl_bodies.specs.Kept.{Grows}
use Rattle.rdl_bodies.specs.declared.bodies.Bodies.{Bodies}
use Rattle.rdl_children.specs.Children.{AreChildren}
use Rattle.rdl_children.specs.declared.child.Child.{Child}
use Rattle.rdl_walk.specs.Walked.{Fits, FitsNode}
use Rattle.rdl_walk.specs.Walking.{AreWalking}
use Rattle.rdl_elab.specs.Envs.{AreEnvs}
use Rattle.rdl_elab.specs.declared.growing.Growing.{Growing}
use Rattle.rdl_elab.specs.declared.heads.Head.{Head}

-- Bodies and judgements are what they always are, and the environments are those of the first bodies.
pub record AreGrowing (g : Growing) : Type 0 where
  pub walking : AreWalking g.walk
  pub envs : AreEnvs g.walk.bodies.list.items g.envs.items

-- All is what it always is, and the bodies before stay.
pub record IsGrown (old new : Growing) : Type 0 where
  pub growing : AreGrowing new
  pub grown : Grows old.walk.bodies new.walk.bodies

-- Each use in the body of a node, and of those below it, gives its nodes, these are few, and none stands deeper than so many levels.
abbrev pub IsWhole : ℕ → Instance → Type 0
IsWhole zero n = children n ≡ []
IsWhole (suc k) n = AllByRecursion (λ s. no_node s ≡ []) (seen_in n) × (length (flat_map given_by (seen_in n)) ≤ most_nodes) × AllByRecursion (IsWhole k) (flat_map given_by (seen_in n))

-- so it is with the uses of a body
abbrev pub AreAllWhole : ℕ → List Seen → Type 0
AreAllWhole k ss = AllByRecursion (λ s. no_node s ≡ []) ss × (length (flat_map given_by ss) ≤ most_nodes) × AllByRecursion (IsWhole k) (flat_map given_by ss)

-- The head is that of the node.
pub record IsHeadOf (h : Head) (n : Instance) : Type 0 where
  pub name_is : n.use_.name ≡ h.name
  pub index_is : h.index.now ≡ index_of n.path
  pub inst_is : option_copied h.inst ≡ n.use_.inst

-- It is a tree of the node beside all nodes among which the primary has this number.
abbrev pub IsNodeFor : ℕ → Option ℕ → Node → Instance → ℕ → Type 0
IsNodeFor at alias r n after = (beside : List Node) → alias ≡ option_and_then (number_named beside) n.use_.alias → IsTreeOf beside at r n after

-- the primary is among these nodes, if one is named
abbrev pub IsNamedIn : List Node → Option Name → Type 0
IsNamedIn rs None = Unit {0}
IsNamedIn rs (Some n) = (r : Node) × (find (λ x. bytes_eq (out-Node x).name.now n.text.now) rs ≡ Some r)

-- The trees of these nodes were put behind others, among which the primary is, if they are aliases.
abbrev pub AddsNodes : ℕ → List Node → List Node → Option Name → List Instance → ℕ → Type 0
AddsNodes at old new alias ns after = IsNamedIn old alias → (added : List Node) × (new ≡ old ++ added) × ((more : List Node) → AreTreesOf (new ++ more) at added ns after)

-- These are the uses of a node's body that give nodes, and they stand there.
pub record CanGrowBelow (t : Bodies) (xs : List Child) (standing : Standing) (levels : ℕ) : Type 0 where
  pub node : Instance
  pub children_are : AreChildren t xs (seen_in node)
  pub stands : StandsAt standing (in_node node.path (kind_of node))
  pub fits : FitsNode node.path levels

-- These are the uses of a body that give nodes, and they stand there.
pub record CanGrowAll (t : Bodies) (xs : List Child) (standing : Standing) (levels : ℕ) : Type 0 where
  pub above : List values.Body
  pub text : values.Body
  pub children_are : AreChildren t xs (seen above text)
  pub stands : StandsAt standing (parent_of text)
  pub fits : Fits (parent_of text) levels
