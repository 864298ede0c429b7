-- Bodies round one another, by their numbers.
use Rattle.std.specs.Prelude.{◌≡◌, ℕ, List, [], ◌∷◌, cond, map, Option, None, Some, slice_index_or}
use Rattle.std.specs.List.{list_any}
use Rattle.rdl_tree.specs.declared.node.Elab.{Elab}
use Rattle.rdl_values.specs.Bodies.{Path, Scope, around}
use Rattle.rdl_values.specs.Elaborated.{nodes_of}
use Rattle.rdl_values.specs.Lineages.{Lineage, lineages_of}
use Rattle.rdl_values.specs.Seen.{around_of}
use Rattle.rdl_failures.specs.Shown.{IsShown}
use Rattle.rdl_layers.specs.Says.{IsBodyNumber}
use Rattle.rdl_refs.specs.Leads.{members_of}
use Rattle.rdl_members.specs.Found.{is_named}
use Rattle.rdl_resolve.specs.declared.leading.Viewpoint.{Viewpoint}

-- the number of the body next round that of a number, the root's where it is none's
abbrev pub outer_at : ℕ → List ℕ → ℕ → ℕ
outer_at root outers b = slice_index_or outers b root

-- the bodies have this number, and those next round each
abbrev pub IsChain : Elab → List ℕ → List (Option Path) → ℕ → Type 0
IsChain e outers [] b = Unit {0}
IsChain e outers (p ∷ ps) b = IsBodyNumber (nodes_of e) p b × IsChain e outers ps (outer_at e.count outers b)

-- the first of some bodies that has a node of a name
abbrev pub first_with : List Lineage → List ℕ → List (Option Path) → Option (Option Path)
first_with all name [] = None
first_with all name (p ∷ ps) = cond (list_any (λ l. is_named name l.node) (members_of all p)) (Some p) (first_with all name ps)

-- its number
abbrev pub IsNumberOf : Elab → Option (Option Path) → Option ℕ → Type 0
IsNumberOf e None r = r ≡ None
IsNumberOf e (Some p) r = (b : ℕ) × (r ≡ Some b) × IsBodyNumber (nodes_of e) p b

abbrev pub IsNearest : Elab → List ℕ → List (Option Path) → Option ℕ → Type 0
IsNearest e name ps r = IsNumberOf e (first_with (lineages_of e) name ps) r

-- What stands there is seen from these bodies.
pub record IsSeen (e : Elab) (f : Viewpoint) (scope : Scope) : Type 0 where
  pub chain : IsChain e f.outers.now (map (λ l. l.node) scope) f.body
  pub visible : around scope ≡ around_of f.env.now
  pub shown : IsShown f.visible (around scope)
  pub root_ : f.root ≡ e.count
