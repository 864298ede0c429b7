-- The mode of a row more.
use Rattle.std.proofs.Common.{◌≡◌, ◌∙◌, ℕ, zero, suc, ◌+◌, ◌<◌, ◌⊎◌, inl, inr, List, [], ◌∷◌, ◌++◌, length, get_or, slice_get, Option, None, Some, refl, sym, ap, subst, arith, length-append}
use Rattle.rdl_tree.specs.declared.node.Elab.{Elab}
use Rattle.rdl_tree.specs.declared.node.Node.{out-Node}
use Rattle.rdl_props.specs.declared.prop.Prop.TheVariants as prop
use Rattle.rdl_values.specs.Elaborated.{nodes_of, top_name}
use Rattle.rdl_values.specs.Elaboration.{IsClean}
use Rattle.rdl_values.specs.Instances.{Instance, kind_of}
use Rattle.rdl_values.specs.Lineages.{Lineage, lineages_of}
use Rattle.rdl_layers.specs.Settings.{setting}
use Rattle.rdl_layout.specs.declared.part.Mode.{Mode}
use Rattle.rdl_addr.specs.Modes.{mode_by}
use Rattle.rdl_nodes.specs.declared.table.Row.{Row}
use Rattle.rdl_nodes.specs.Rows.{AreRows, IsParent, IsRow}
use Rattle.rdl_addr.specs.Layout.{mode_in}
use Rattle.rdl_addr.specs.Parts.{mode_of}
use Rattle.rdl_addr.proofs.Read.{one-mode}
use Rattle.rdl_nodes.proofs.Members.{get-made}
use Rattle.rdl_nodes.proofs.Order.{behind, once}
use Rattle.rdl_sizes.specs.Levels.{mode_under}
use Rattle.rdl_sizes.specs.Modes.{AreModes, IsBelow, mode_at, outer_at}
use Rattle.rdl_sizes.proofs.Facts.{count-is, node-at, row-at, rows-many}

-- the parent of a row stands before it
pub parent-before : (e : Elab) (i p : ℕ) (l : Lineage) → slice_get (lineages_of e) i ≡ Some l → IsParent (lineages_of e) (Some p) l.ancestors → p < i
parent-before e i p l here parent =
    let q = parent.0 in
    let b = behind (Some (top_name e)) e.source.now i l q.node q.ancestors here parent.2 in
    let same : b.0 ≡ p = once (Some (top_name e)) e.source.now b.0 p q b.2 parent.1 in
    let low = b.1 in
    omega (arith, low, same)

at-end : (ms : List Mode) (m : Mode) (k : ℕ) → k ≡ length ms → mode_at (ms ++ (m ∷ [])) k ≡ m
at-end [] m zero e = refl
at-end [] m (suc k) e = absurd (omega (arith, e))
at-end (x ∷ xs) m zero e = absurd (omega (arith, e))
at-end (x ∷ xs) m (suc k) e = at-end xs m k (omega (arith, e))

before-end : (ms : List Mode) (m : Mode) (k : ℕ) → k < length ms → mode_at (ms ++ (m ∷ [])) k ≡ mode_at ms k
before-end [] m k l = absurd (omega (arith, l))
before-end (x ∷ xs) m zero l = refl
before-end (x ∷ xs) m (suc k) l = before-end xs m k (omega (arith, l))

module _ (e : Elab) (rows : List Row) (are : AreRows e rows) (i : ℕ) (x : Row) (low : i < length rows) (read : x ≡ get_or rows i x) where
  row : (l : Lineage) × (slice_get (lineages_of e) i ≡ Some l) × IsRow e (lineages_of e) i x l
  row = row-at e rows are i x (get-made rows i x x low (sym read))

  pub id-is : (out-Node x.node.now).id ≡ i
  id-is = row.2.number

  pub parent-below : (n : ℕ) → n ≡ i → IsBelow n x.parent
  parent-below n s = subst (λ m. IsBelow m x.parent) (sym s) (go x.parent row.2.parent)
    where
      go : (o : Option ℕ) → IsParent (lineages_of e) o row.0.ancestors → IsBelow i o
      go None h = tt
      go (Some p) h = parent-before e i p row.0 row.1 h

  pub id-below : IsClean e → (out-Node x.node.now).id < e.count
  id-below clean = let n = id-is in let many = rows-many e rows are in let c = count-is e clean in omega (arith, n, many, c, low)

  module _ (ms : List Mode) (many : length ms ≡ i) (before : AreModes e ms) where
    outer-is : (o : Option ℕ) → IsParent (lineages_of e) o row.0.ancestors → mode_of (outer_at ms o) ≡ mode_under row.0.ancestors
    unfolding mode_under
    outer-is None h = ap mode_under (sym h)
    outer-is (Some p) h =
        let less = parent-before e i p row.0 row.1 h in
        before.of_each p h.0 (omega (arith, less, many)) h.1 ∙ ap mode_under (sym h.2)

    node_here : slice_get (nodes_of e) (out-Node x.node.now).id ≡ Some row.0.node
    node_here = subst (λ k. slice_get (nodes_of e) k ≡ Some row.0.node) (sym id-is) (node-at e i row.0 row.1)

    mine : (m : Mode) → ((n : Instance) → slice_get (nodes_of e) (out-Node x.node.now).id ≡ Some n → (out-Node x.node.now).kind ≡ kind_of n → m ≡ mode_by (outer_at ms x.parent) (out-Node x.node.now).kind (setting n prop.Addressing))
        → mode_of m ≡ mode_under (row.0.node ∷ row.0.ancestors)
    unfolding mode_under
    mine m given =
        ap mode_of (given row.0.node node_here row.2.says.kind)
        ∙ (ap (λ k. mode_of (mode_by (outer_at ms x.parent) k (setting row.0.node prop.Addressing))) row.2.says.kind
        ∙ (one-mode (outer_at ms x.parent) row.0.node ∙ ap (λ o. mode_in o row.0.node) (outer-is x.parent row.2.parent)))

    pub modes-more : (m : Mode) (new : List Mode) → new ≡ ms ++ (m ∷ [])
        → ((n : Instance) → slice_get (nodes_of e) (out-Node x.node.now).id ≡ Some n → (out-Node x.node.now).kind ≡ kind_of n → m ≡ mode_by (outer_at ms x.parent) (out-Node x.node.now).kind (setting n prop.Addressing))
        → AreModes e new
    modes-more m new pushed given = record { of_each = λ k l less here. by k l here (split k (let q = ap length pushed in let s = length-append ms (m ∷ []) in omega (arith, less, q, s, many))) }
      where
        split : (k : ℕ) → k < i + 1 → (k ≡ i) ⊎ (k < i)
        split k l = grind (arith, l)

        by : (k : ℕ) (l : Lineage) → slice_get (lineages_of e) k ≡ Some l → (k ≡ i) ⊎ (k < i) → mode_of (mode_at new k) ≡ mode_under (l.node ∷ l.ancestors)
        by k l here (inr less) = ap (λ q. mode_of (mode_at q k)) pushed ∙ (ap mode_of (before-end ms m k (omega (arith, less, many))) ∙ before.of_each k l (omega (arith, less, many)) here)
        by k l here (inl same) =
            let one : Some row.0 ≡ Some l = sym row.1 ∙ (ap (slice_get (lineages_of e)) (sym same) ∙ here) in
            let twin : row.0 ≡ l = cc one in
            ap (λ q. mode_of (mode_at q k)) pushed ∙ (ap mode_of (at-end ms m k (same ∙ sym many)) ∙ (mine m given ∙ ap (λ q. mode_under (q.node ∷ q.ancestors)) twin))

pub no-modes : (e : Elab) (ms : List Mode) → ms ≡ [] → AreModes e ms
no-modes e ms none = record { of_each = λ k l less here. absurd (let z = ap length none in omega (arith, less, z)) }
