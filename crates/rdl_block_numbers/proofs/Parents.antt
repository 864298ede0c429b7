-- The nodes that others stand in, by their rows.
use Rattle.std.proofs.Common.{◌≡◌, ◌∙◌, ℕ, ◌+◌, List, [], ◌∷◌, ◌++◌, map, take, Option, None, Some, is_some, slice_get, sym, ap, arith}
use Rattle.std.proofs.lemmas.List.{map-append, take_more}
use Rattle.plain_lemmas.proofs.Lists.{none-beyond as past-end}
use Rattle.rdl_tree.specs.declared.node.Elab.{Elab}
use Rattle.rdl_values.specs.Instances.{Instance}
use Rattle.rdl_values.specs.Lineages.{Lineage, lineages_of}
use Rattle.rdl_nodes.specs.declared.table.Row.{Row}
use Rattle.rdl_nodes.specs.Rows.{AreRows, IsParent, IsRow}
use Rattle.rdl_nodes.proofs.Members.{get-read, get-within}
use Rattle.rdl_layers.specs.Fields.{is_alias}
use Rattle.rdl_sizes.proofs.Facts.{row-at, rows-many}
use Rattle.rdl_fields.specs.Primary.{TellsPrimary}

pub tells-alias : (e : Elab) (n : Instance) (o : Option ℕ) → TellsPrimary e n o → is_some o ≡ is_alias n
tells-alias e n None h = sym h
tells-alias e n (Some k) h = sym h.0

-- the row of a node that another stands in
pub record IsAbove (e : Elab) (p : ℕ) (up : List Instance) (x : Row) : Type 0 where
  pub line : Lineage
  pub here : slice_get (lineages_of e) p ≡ Some line
  pub row : IsRow e (lineages_of e) p x line
  pub up_is : up ≡ line.node ∷ line.ancestors

pub above : (e : Elab) (rows : List Row) → AreRows e rows → (p : ℕ) (up : List Instance) → IsParent (lineages_of e) (Some p) up → (x : Row) → slice_get rows p ≡ Some x → IsAbove e p up x
above e rows are p up parent x at =
    let r = row-at e rows are p x at in
    let same' : Some parent.0 ≡ Some r.0 = sym parent.1 ∙ r.1 in
    let same : parent.0 ≡ r.0 = cc same' in
    record { line = r.0; here = r.1; row = r.2; up_is = parent.2 ∙ ap (λ (l : Lineage). l.node ∷ l.ancestors) same }

pub has-row : (e : Elab) (rows : List Row) → AreRows e rows → (p : ℕ) (up : List Instance) → IsParent (lineages_of e) (Some p) up → slice_get rows p ≡ None → ⊥
has-row e rows are p up parent none =
    let many = rows-many e rows are in
    let low = get-within (lineages_of e) p parent.0 parent.1 in
    let past = past-end rows p none in
    omega (arith, many, low, past)

pub map-next : {X Y : Type 0} (f : X → Y) (xs : List X) (i : ℕ) (x : X) → slice_get xs i ≡ Some x → map f (take (i + 1) xs) ≡ map f (take i xs) ++ (f x ∷ [])
map-next f xs i x at =
    ap (map f) (take_more xs i x (get-within xs i x at) ∙ ap (λ y. take i xs ++ (y ∷ [])) (get-read xs i x x at))
    ∙ map-append f (take i xs) (x ∷ [])

pub first-up : (r : Instance) (up : List Instance) (q : Instance) (more : List Instance) → r ∷ up ≡ q ∷ more → r ≡ q
first-up r up q more e = cc e
