-- What is known of a body while its dynamic assignments are judged.
use Rattle.std.specs.Prelude.{◌≡◌, ℕ, Bool, true, false, not, ◌&&◌, List, Option, None, Some, slice_get}
use Rattle.std.specs.List.{list_all, list_any}
use Rattle.rdl_tree.specs.declared.node.Elab.{Elab}
use Rattle.rdl_tree.specs.declared.node.Node.{out-Node}
use Rattle.rdl_props.specs.Same.{same_prop}
use Rattle.rdl_props.specs.Table.{is_legal}
use Rattle.rdl_props.specs.declared.prop.Prop.{Prop}
use Rattle.rdl_values.specs.Lineages.{lineages_of}
use Rattle.rdl_values.specs.Parts.{is_empty}
use Rattle.rdl_nodes.specs.declared.table.Row.{Row}
use Rattle.rdl_layers.specs.Assignments.{Dynamic, Nested}
use Rattle.rdl_layers.specs.Ranks.{is_related}
use Rattle.rdl_targets.specs.Trails.{AreTrails, set_at}
use Rattle.rdl_targets.specs.declared.trails.Trails.{Trails}
use Rattle.rdl_dynamic.specs.Marks.{AreMarks, is_marked}
use Rattle.rdl_dynamic.specs.Seen.{marks_of}
use Rattle.rdl_dynamic.specs.declared.known.Known.{Known}
use Rattle.rdl_dynamic.specs.declared.marks.Marks.{Marks}
use Rattle.rdl_dynamic.specs.declared.seen.Seen.{Seen}

-- the property is legal on the kind of the node of a number
abbrev pub legal_at : List Row → Prop → ℕ → Bool
legal_at rows p k = go (slice_get rows k)
  where
    go : Option Row → Bool
    go None = true
    go (Some x) = is_legal p (out-Node x.node.now).kind

-- one that excludes the property is marked at the node of a number
abbrev pub has_rival : Marks → Prop → ℕ → Bool
has_rival m p k = is_marked m k (λ q. is_related p q && not (same_prop p q))

-- The property was assigned to all nodes that the path of a number leads to, of which there is one at least, and this is whether it is
-- legal on all.
pub record IsSeen (rows : List Row) (t : Trails) (m : Marks) (u : ℕ) (p : Prop) (ok : Bool) : Type 0 where
  pub ks : List ℕ
  pub is : set_at t u ≡ Some ks
  pub some : is_empty ks ≡ false
  pub marked : list_all (λ k. is_marked m k (same_prop p)) ks ≡ true
  pub kinds : list_all (legal_at rows p) ks ≡ ok

abbrev pub AreSeen : List Row → Trails → Marks → Seen → Type 0
AreSeen rows t m s = (ok : Bool) (u : ℕ) (p : Prop) → is_marked (marks_of ok s) u (same_prop p) ≡ true → IsSeen rows t m u p ok

-- this is whether one that excludes the property is marked at a node that the path of a number leads to
pub record IsRivalled (t : Trails) (m : Marks) (u : ℕ) (p : Prop) (ok : Bool) : Type 0 where
  pub ks : List ℕ
  pub is : set_at t u ≡ Some ks
  pub any : list_any (has_rival m p) ks ≡ ok

abbrev pub AreRivalled : Trails → Marks → Seen → Type 0
AreRivalled t m s = (ok : Bool) (u : ℕ) (p : Prop) → is_marked (marks_of ok s) u (same_prop p) ≡ true → IsRivalled t m u p ok

-- These dynamic assignments in the body of the node of a number have been judged.
pub record AreKnown (e : Elab) (node : ℕ) (rows : List Row) (b : Nested) (k : Known) (earlier : List Dynamic) : Type 0 where
  pub trails_ : AreTrails e node k.trails
  pub marks_ : AreMarks (lineages_of e) b k.marks earlier
  pub seen_ : AreSeen rows k.trails k.marks k.seen
  pub rivals_ : AreRivalled k.trails k.marks k.rivals
