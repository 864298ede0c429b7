-- The nodes of rows, and the fields that a block has of them.
use Rattle.std.proofs.Common.{◌≡◌, ◌∙◌, ℕ, ◌+◌, ◌<◌, Bool, true, false, not, ◌&&◌, cond, List, [], ◌∷◌, ◌++◌, append-nil, filter, flat_map, take, length, get_or, Option, None, Some, is_some, slice_get, refl, sym, ap, subst}
use Rattle.std.proofs.lemmas.Grind.{flat_map-append}
use Rattle.std.proofs.lemmas.List.{take_more}
use Rattle.rdl_tree.specs.Kinds.{same_kind}
use Rattle.rdl_tree.specs.declared.item.Kind.{Kind}
use Rattle.rdl_tree.specs.declared.item.Kind.TheVariants as kind
use Rattle.rdl_tree.specs.declared.node.Elab.{Elab}
use Rattle.rdl_tree.specs.declared.node.Node.{Node, out-Node}
use Rattle.rdl_values.specs.Elaborated.{nodes_of}
use Rattle.rdl_values.specs.Instances.{Instance, children, kind_of}
use Rattle.rdl_values.specs.Lineages.{Lineage, child_of, lineages_of}
use Rattle.rdl_nodes.specs.declared.table.Row.{Row}
use Rattle.rdl_nodes.specs.Rows.{AreRows, IsRow}
use Rattle.rdl_nodes.proofs.Members.{get-read, get-within}
use Rattle.rdl_layers.specs.Fields.{fields_of, is_a, is_alias}
use Rattle.rdl_rules.specs.Numbers.{all_fields}
use Rattle.rdl_sizes.proofs.Facts.{node-at, row-at}
use Rattle.rdl_sizes.proofs.Turns.{inside-at, read-at}
use Rattle.rdl_fields.specs.Primary.{TellsPrimary}
use Rattle.rdl_encodings.specs.Standing.{IsRowOf, is_primary, own_fields}

-- The node of a number, which says its kind.
pub record IsNode (e : Elab) (r : Node) (n : Instance) : Type 0 where
  pub here : slice_get (nodes_of e) (out-Node r).id ≡ Some n
  pub kind_ : (out-Node r).kind ≡ kind_of n

module _ (e : Elab) where
  -- a row, where it is read
  pub row-of : (rows : List Row) → AreRows e rows → (i : ℕ) (x : Row) → i < length rows → x ≡ get_or rows i x → (l : Lineage) × (slice_get (nodes_of e) i ≡ Some l.node) × IsRowOf e x l
  row-of rows are i x low read =
      let r = row-at e rows are i x (read-at rows i x low read) in
      let id = sym r.2.number in
      (r.0, node-at e i r.0 r.1, record { here = subst (λ k. slice_get (lineages_of e) k ≡ Some r.0) id r.1; row = subst (λ k. IsRow e (lineages_of e) k x r.0) id r.2 })

  -- a node in the body of one, where it is read
  pub child-at : (x : Row) (l : Lineage) → IsRowOf e x l → (i : ℕ) (r : Node) → i < length (out-Node x.node.now).children.now → r ≡ get_or (out-Node x.node.now).children.now i r → (c : Instance) × (slice_get (children l.node) i ≡ Some c) × IsNode e r c
  child-at x l h i r low read =
      let rs = (out-Node x.node.now).children.now in
      let m = inside-at (lineages_of e) (l.node ∷ l.ancestors) rs rs (children l.node) h.row.inside i r (read-at rs i r low read) in
      (m.0, m.1, record { here = node-at e (out-Node r).id (child_of l m.0) m.2.here; kind_ = m.2.says.kind })

pub tells-alias : (e : Elab) (n : Instance) (o : Option ℕ) → TellsPrimary e n o → is_some o ≡ is_alias n
tells-alias e n None h = sym h
tells-alias e n (Some k) h = sym h.0

-- Lists made node by node.

pub put-none : (b : Bool) (ys old : List Instance) → b ≡ false → old ≡ old ++ cond b ys []
put-none b ys old t = sym (append-nil old) ∙ ap (λ c. old ++ cond c ys []) (sym t)

pub own-none : (n : Instance) (old : List Instance) → is_primary n ≡ false → old ≡ old ++ own_fields n
own-none n old t = put-none (is_primary n) (fields_of n) old t

pub own-all : (n : Instance) → is_primary n ≡ true → fields_of n ≡ own_fields n
own-all n t = ap (λ b. cond b (fields_of n) []) (sym t)

pub flat-next : (f : Instance → List Instance) (ns : List Instance) (i : ℕ) (n : Instance) → slice_get ns i ≡ Some n → flat_map f (take (i + 1) ns) ≡ flat_map f (take i ns) ++ f n
flat-next f ns i n at =
    ap (flat_map f) (take_more ns i n (get-within ns i n at) ∙ ap (λ y. take i ns ++ (y ∷ [])) (get-read ns i n n at))
    ∙ (flat_map-append f (take i ns) (n ∷ []) ∙ ap (λ xs. flat_map f (take i ns) ++ xs) (append-nil (f n)))

pub all-own : (ns : List Instance) → flat_map own_fields ns ≡ all_fields ns
all-own [] = refl
all-own (n ∷ ns) = go (is_a kind.Reg n) (all-own ns)
  where
    rest : List Instance
    rest = filter (λ r. not (is_alias r)) (filter (is_a kind.Reg) ns)

    first : (a : Bool) → cond (not a) (fields_of n) [] ++ flat_map fields_of rest ≡ flat_map fields_of (cond (not a) (n ∷ rest) rest)
    first true = refl
    first false = refl

    go : (r : Bool) → flat_map own_fields ns ≡ flat_map fields_of rest
        → cond (r && not (is_alias n)) (fields_of n) [] ++ flat_map own_fields ns ≡ flat_map fields_of (filter (λ r. not (is_alias r)) (cond r (n ∷ filter (is_a kind.Reg) ns) (filter (is_a kind.Reg) ns)))
    go false h = h
    go true h = ap (λ xs. cond (not (is_alias n)) (fields_of n) [] ++ xs) h ∙ first (is_alias n)

-- a kind is compared from either side
pub kind-turned : (k : Kind) → same_kind k kind.Field ≡ same_kind kind.Field k
kind-turned kind.Addrmap = refl
kind-turned kind.Regfile = refl
kind-turned kind.Reg = refl
kind-turned kind.Field = refl
kind-turned kind.Signal = refl

pub negated : (b : Bool) → false ≡ not b → b ≡ true
negated true e = refl
negated false e = cc e
