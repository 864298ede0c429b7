-- The node of a row.
use Rattle.std.proofs.Common.{◌≡◌, ℕ, ◌<◌, List, ◌∷◌, length, get_or, Some, slice_get, sym, subst, arith}
use Rattle.rdl_tree.specs.declared.node.Elab.{Elab}
use Rattle.rdl_tree.specs.declared.node.Node.{Node, out-Node}
use Rattle.rdl_values.specs.Elaborated.{nodes_of}
use Rattle.rdl_values.specs.Elaboration.{IsClean}
use Rattle.rdl_values.specs.Instances.{Instance, children, kind_of}
use Rattle.rdl_values.specs.Lineages.{Lineage, child_of, lineages_of}
use Rattle.rdl_nodes.specs.declared.table.Row.{Row}
use Rattle.rdl_nodes.specs.Rows.{AreRows, IsRow}
use Rattle.rdl_nodes.proofs.Members.{get-within}
use Rattle.rdl_sizes.proofs.Facts.{count-is, node-at, row-at}
use Rattle.rdl_sizes.proofs.Turns.{inside-at, read-at}
use Rattle.rdl_encodings.specs.Standing.{IsRowOf}

-- The node of a number, which says its kind.
pub record IsNode (e : Elab) (r : Node) (n : Instance) : Type 0 where
  pub here : slice_get (nodes_of e) (out-Node r).id ≡ Some n
  pub low : (out-Node r).id < e.count
  pub kind_ : (out-Node r).kind ≡ kind_of n

stands-low : (e : Elab) → IsClean e → (k : ℕ) (l : Lineage) → slice_get (lineages_of e) k ≡ Some l → k < e.count
stands-low e clean k l here = let low = get-within (lineages_of e) k l here in let count = count-is e clean in omega (arith, low, count)

module _ (e : Elab) (clean : IsClean e) where
  -- a row, where it is read
  pub row-of : (rows : List Row) → AreRows e rows → (i : ℕ) (x : Row) → i < length rows → x ≡ get_or rows i x → (l : Lineage) × (slice_get (nodes_of e) i ≡ Some l.node) × IsRowOf e x l × IsNode e x.node.now l.node
  row-of rows are i x low read =
      let r = row-at e rows are i x (read-at rows i x low read) in
      let id = sym r.2.number in
      let here = subst (λ k. slice_get (lineages_of e) k ≡ Some r.0) id r.1 in (
        r.0,
        node-at e i r.0 r.1,
        record { here = here; row = subst (λ k. IsRow e (lineages_of e) k x r.0) id r.2 },
        record { here = node-at e (out-Node x.node.now).id r.0 here; low = stands-low e clean (out-Node x.node.now).id r.0 here; kind_ = r.2.says.kind },
      )

  -- a node in the body of one, where it is read
  pub child-at : (x : Row) (l : Lineage) → IsRowOf e x l → (i : ℕ) (r : Node) → i < length (out-Node x.node.now).children.now → r ≡ get_or (out-Node x.node.now).children.now i r → (c : Instance) × (slice_get (children l.node) i ≡ Some c) × IsNode e r c
  child-at x l h i r low read =
      let rs = (out-Node x.node.now).children.now in
      let m = inside-at (lineages_of e) (l.node ∷ l.ancestors) rs rs (children l.node) h.row.inside i r (read-at rs i r low read) in (
        m.0,
        m.1,
        record { here = node-at e (out-Node r).id (child_of l m.0) m.2.here; low = stands-low e clean (out-Node r).id (child_of l m.0) m.2.here; kind_ = m.2.says.kind },
      )
