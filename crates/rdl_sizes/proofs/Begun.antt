-- Tables of which nothing is known, and the row that is taken up next.
use Rattle.std.specs.List.{All}
use Rattle.std.proofs.Common.{◌≡◌, ◌∙◌, ℕ, zero, suc, ◌<◌, ◌≤◌, List, [], ◌∷◌, length, drop, flat_map, get_or, slice_get, replicate, Contains, Some, refl, sym, ap, subst, arith}
use Rattle.rdl_base.specs.declared.fault.Fault.{Fault}
use Rattle.rdl_tree.specs.declared.node.Elab.{Elab}
use Rattle.rdl_tree.specs.declared.node.Node.{out-Node}
use Rattle.rdl_values.specs.Lineages.{Lineage, lineages_of}
use Rattle.rdl_layout.specs.declared.part.Mode.{Mode}
use Rattle.rdl_nodes.specs.declared.table.Row.{Row}
use Rattle.rdl_nodes.specs.Rows.{AreRows, IsRow}
use Rattle.rdl_addr.specs.Parts.{mode_of}
use Rattle.rdl_nodes.proofs.Members.{any-default, get-made, get-within}
use Rattle.rdl_sizes.specs.declared.known.Measure.{Measure}
use Rattle.rdl_sizes.specs.declared.known.Sizes.{Sizes}
use Rattle.rdl_sizes.specs.Levels.{mode_under}
use Rattle.rdl_sizes.specs.Measuring.{IsUnknown}
use Rattle.rdl_sizes.specs.Modes.{AreModes}
use Rattle.rdl_sizes.specs.Sized.{AreSizesFrom, body_faults}
use Rattle.rdl_sizes.proofs.Facts.{row-at}
use Rattle.rdl_sizes.proofs.Turns.{drop-all}

pub copies-many : {X : Type 0} (n : ℕ) (x : X) → length (replicate n x) ≡ n
copies-many zero x = refl
copies-many (suc n) x = ap suc (copies-many n x)

all-wide : (n : ℕ) → All (λ m. 0 < m.access) (replicate {A = Measure} n (record { size = 0; access = 1 }))
all-wide zero k d l = absurd (omega (arith, l))
all-wide (suc n) zero d l = omega arith
all-wide (suc n) (suc k) d l = all-wide n k d (omega (arith, l))

beyond : (from k n : ℕ) → from ≤ k → k < n → from ≡ n → ⊥
beyond from k n a b c = omega (arith, a, b, c)

none-in : (f : Fault) → Contains [] f → ⊥
none-in f h = let l = h.1 in omega (arith, l)

pub nothing-known : (e : Elab) (s : Sizes) (count from : ℕ) → IsUnknown count s → count ≡ length (lineages_of e) → from ≡ length (lineages_of e) → AreSizesFrom e from s
nothing-known e s count from is many at = record {
  measured = ap length is.measures_ ∙ (copies-many count (record { size = 0; access = 1 }) ∙ many);
  positive = subst (All (λ m. 0 < m.access)) (sym is.measures_) (all-wide count);
  sizes = λ k l low here. absurd (beyond from k (length (lineages_of e)) low (get-within (lineages_of e) k l here) at);
  placed = ap length is.offsets_ ∙ (copies-many count 0 ∙ many);
  places = λ i k l c low here. absurd (beyond from i (length (lineages_of e)) low (get-within (lineages_of e) i l here) at);
  failures = λ f.
      let none : drop from (lineages_of e) ≡ [] = drop-all (lineages_of e) from (sym at) in (
        (λ h. absurd (none-in f (subst (λ xs. Contains xs f) is.faults_ h))),
        (λ h. absurd (none-in f (subst (λ xs. Contains (flat_map body_faults xs) f) none h))),
      );
}

-- a row with its lineage, and the mode in its body
pub next-row : (e : Elab) (rows : List Row) → AreRows e rows → (ms : List Mode) → length ms ≡ length rows → AreModes e ms → (i : ℕ) (x : Row) → i < length rows → x ≡ get_or rows i x → (d : Mode)
    → (l : Lineage) × (slice_get (lineages_of e) (out-Node x.node.now).id ≡ Some l) × IsRow e (lineages_of e) (out-Node x.node.now).id x l × (mode_of (get_or ms i d) ≡ mode_under (l.node ∷ l.ancestors))
next-row e rows are ms many modes i x low read d =
    let r = row-at e rows are i x (get-made rows i x x low (sym read)) in
    let id : i ≡ (out-Node x.node.now).id = sym r.2.number in
    let in_ms : i < length ms = omega (arith, low, many) in
    let mode : mode_of (get_or ms i d) ≡ mode_under (r.0.node ∷ r.0.ancestors) = ap mode_of (any-default ms i d _ in_ms) ∙ modes.of_each i r.0 in_ms r.1 in
    (r.0, subst (λ k. slice_get (lineages_of e) k ≡ Some r.0) id r.1, subst (λ k. IsRow e (lineages_of e) k x r.0) id r.2, mode)

pub number-is : (e : Elab) (rows : List Row) → AreRows e rows → (i : ℕ) (x : Row) → i < length rows → x ≡ get_or rows i x → (out-Node x.node.now).id ≡ i
number-is e rows are i x low read = (row-at e rows are i x (get-made rows i x x low (sym read))).2.number
