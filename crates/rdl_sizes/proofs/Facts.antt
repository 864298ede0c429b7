-- What is known of a tree and of its rows.
use Rattle.std.proofs.Common.{◌≡◌, ◌∙◌, ℕ, zero, suc, ◌+◌, List, [], ◌∷◌, length, slice_get, Some, refl, sym, ap, subst, arith}
use Rattle.plain_lemmas.proofs.Lists.{length-map as length-mapped}
use Rattle.rdl_tree.specs.declared.node.Elab.{Elab}
use Rattle.rdl_values.specs.declared.chain.Chain.{Chain}
use Rattle.rdl_values.specs.Elaborated.{around_body, nodes_of, top_name}
use Rattle.rdl_values.specs.Elaboration.{IsClean}
use Rattle.rdl_values.specs.Instances.{Instance}
use Rattle.rdl_values.specs.Lineages.{Lineage, lineages_of, nodes_in}
use Rattle.rdl_values.proofs.Numbered.{counted}
use Rattle.rdl_nodes.proofs.Lineages.{all_nodes}
use Rattle.rdl_failures.specs.Shown.{IsShown}
use Rattle.rdl_layers.specs.NodeNames.{around_at, around_if}
use Rattle.rdl_nodes.specs.declared.table.Row.{Row}
use Rattle.rdl_nodes.specs.Rows.{AreRows, AreRowsFrom, IsRow}
use Rattle.rdl_nodes.proofs.Members.{get-map}

pub count-is : (e : Elab) → IsClean e → e.count ≡ length (lineages_of e)
count-is e c = counted (Some (top_name e)) e.source.now e c.elaborated.tree ∙ (ap length (sym (all_nodes (Some (top_name e)) e.source.now)) ∙ length-mapped (λ n. n.node) (lineages_of e))

pub nodes-many : (e : Elab) → length (nodes_of e) ≡ length (lineages_of e)
nodes-many e = ap length (sym (all_nodes (Some (top_name e)) e.source.now)) ∙ length-mapped (λ n. n.node) (lineages_of e)

-- the node of a number, without those that it stands in
pub node-at : (e : Elab) (k : ℕ) (l : Lineage) → slice_get (lineages_of e) k ≡ Some l → slice_get (nodes_of e) k ≡ Some l.node
node-at e k l h = subst (λ ns. slice_get ns k ≡ Some l.node) (all_nodes (Some (top_name e)) e.source.now) (get-map (λ n. n.node) (lineages_of e) k l h)

-- and with them
pub lineage-at : (e : Elab) (k : ℕ) (n : Instance) → slice_get (nodes_of e) k ≡ Some n → (l : Lineage) × (slice_get (lineages_of e) k ≡ Some l) × (l.node ≡ n)
lineage-at e k n h = go (lineages_of e) k (subst (λ ns. slice_get ns k ≡ Some n) (sym (all_nodes (Some (top_name e)) e.source.now)) h)
  where
    go : (ls : List Lineage) (k : ℕ) → slice_get (nodes_in ls) k ≡ Some n → (l : Lineage) × (slice_get ls k ≡ Some l) × (l.node ≡ n)
    go [] k h = cc h
    go (l ∷ ls) zero h = (l, refl, cc h)
    go (l ∷ ls) (suc k) h = go ls k h

-- what is visible by its number is what its body shows
pub shown-at : (e : Elab) (k : ℕ) (l : Lineage) (v : Chain) → slice_get (lineages_of e) k ≡ Some l → IsShown v (around_at e k) → IsShown v (around_body l.node)
shown-at e k l v h shown = subst (IsShown v) (ap (around_if e) (node-at e k l h)) shown

module _ (e : Elab) (all : List Lineage) where
  rows-long : (k : ℕ) (xs : List Row) (ls : List Lineage) → AreRowsFrom e all k xs ls → length xs ≡ length ls
  rows-long k [] [] h = refl
  rows-long k [] (l ∷ ls) h = absurd h
  rows-long k (x ∷ xs) [] h = absurd h
  rows-long k (x ∷ xs) (l ∷ ls) h = ap suc (rows-long (suc k) xs ls h.1)

  row-from : (k : ℕ) (xs : List Row) (ls : List Lineage) → AreRowsFrom e all k xs ls → (i : ℕ) (x : Row) → slice_get xs i ≡ Some x → (l : Lineage) × (slice_get ls i ≡ Some l) × IsRow e all (k + i) x l
  row-from k [] ls h i x q = cc q
  row-from k (y ∷ ys) [] h i x q = absurd h
  row-from k (y ∷ ys) (l ∷ ls) h zero x q = let s : y ≡ x = cc q in let n : k ≡ k + 0 = omega arith in (l, refl, subst (λ z. IsRow e all (k + 0) z l) s (subst (λ m. IsRow e all m y l) n h.0))
  row-from k (y ∷ ys) (l ∷ ls) h (suc i) x q = let r = row-from (suc k) ys ls h.1 i x q in let n : suc k + i ≡ k + suc i = omega arith in (r.0, r.1, subst (λ m. IsRow e all m x r.0) n r.2)

pub rows-many : (e : Elab) (rows : List Row) → AreRows e rows → length rows ≡ length (lineages_of e)
rows-many e rows h = rows-long e (lineages_of e) 0 rows (lineages_of e) h

pub row-at : (e : Elab) (rows : List Row) → AreRows e rows → (i : ℕ) (x : Row) → slice_get rows i ≡ Some x → (l : Lineage) × (slice_get (lineages_of e) i ≡ Some l) × IsRow e (lineages_of e) i x l
row-at e rows h i x q = let r = row-from e (lineages_of e) 0 rows (lineages_of e) h i x q in let n : 0 + i ≡ i = omega arith in (r.0, r.1, subst (λ m. IsRow e (lineages_of e) m x r.0) n r.2)
