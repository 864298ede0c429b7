-- The field that a field of an alias is a view of is the one that it covers.
use Rattle.std.proofs.Common.{◌≡◌, ◌∙◌, inl, inr, ℕ, zero, suc, ◌<◌, ◌≤◌, Bool, true, false, ◌&&◌, List, [], ◌∷◌, filter, length, take, bytes_eq, Option, None, Some, is_some, option_and_then, option_to_list, slice_get, refl, sym, ap, subst, arith}
use Rattle.std.specs.List.{list_any}
use Rattle.std.specs.Cmp.Lexicographic.{bytes_decides}
use Rattle.std.proofs.lemmas.Bool.{and_parts, eq-eqb, eqb-true}
use Rattle.plain_lemmas.proofs.Bools.{and-false, or-false, same-both_ways as both-ways}
use Rattle.plain_lemmas.proofs.Lists.{bytes_eq-same as are-bytes}
use Rattle.rdl_tree.specs.declared.expr.Name.{Name}
use Rattle.rdl_tree.specs.declared.item.Kind.TheVariants as kind
use Rattle.rdl_tree.specs.declared.node.Elab.{Elab}
use Rattle.rdl_tree.specs.declared.node.Node.{out-Node}
use Rattle.rdl_tree.specs.Kinds.{same_kind}
use Rattle.rdl_values.specs.Elaborated.{index_of, nodes_of, top_name}
use Rattle.rdl_values.specs.Elaboration.{IsClean}
use Rattle.rdl_values.specs.Instances.{Instance, children}
use Rattle.rdl_values.specs.Lineages.{Lineage, child_of, lineages_of}
use Rattle.rdl_values.specs.Uses.{same_name}
use Rattle.rdl_layers.specs.Fields.{is_a, is_alias, is_alias_of, same_steps, steps_up}
use Rattle.rdl_nodes.specs.declared.table.Row.{Row}
use Rattle.rdl_nodes.specs.Rows.{AreRows, IsParent, IsRow}
use Rattle.rdl_fields.specs.Primary.{IsPrimaryOf, TellsPrimary}
use Rattle.rdl_fields.proofs.Lists.{filter-in, filter-true, in-filter}
use Rattle.rdl_nodes.proofs.Members.{In, get-within, place-in}
use Rattle.rdl_nodes.proofs.Order.{behind, once}
use Rattle.rdl_sizes.proofs.Facts.{count-is, lineage-at, node-at, nodes-many, row-at, rows-many}
use Rattle.rdl_members.specs.Found.{is_element, members_at}
use Rattle.rdl_members.proofs.Standing.{body-in, in-body, one-by-path}
use Rattle.rdl_members.specs.Covered.{IsKept, covers, is_at}
use Rattle.rdl_members.proofs.Sharing.{in-register, no-index}

same-bytes : (xs ys : List ℕ) → xs ≡ ys → bytes_eq xs ys ≡ true
same-bytes xs ys e = (bytes_decides xs ys).1 e

-- a node that names no register is an alias of none
pub no-alias-of : (r a : Instance) → is_alias a ≡ false → is_alias_of r a ≡ false
no-alias-of r a none = go a.use_.alias refl
  where
    go : (o : Option Name) → a.use_.alias ≡ o → is_alias_of r a ≡ false
    go None e = rw e (ap (λ b. b && same_steps (steps_up r.path) (steps_up a.path)) (and-false (is_a kind.Reg a)))
    go (Some n) e = let two : true ≡ false = ap is_some (sym e) ∙ none in cc two

at-only : (o : Option ℕ) (k : ℕ) → is_at o k ≡ true → o ≡ Some k
at-only None k h = cc h
at-only (Some j) k h = ap Some (eqb-true j k h)

only-at : (o : Option ℕ) (k : ℕ) → o ≡ Some k → is_at o k ≡ true
only-at o k h = ap (λ x. is_at x k) h ∙ eq-eqb k k refl

one-listed : {X : Type 0} (o : Option X) (x : X) → In (option_to_list o) x → o ≡ Some x
one-listed None x h = absurd h
one-listed (Some y) x (inl e) = ap Some e
one-listed (Some y) x (inr h) = absurd h

named-number : {X : Type 0} (xs : List X) (o : Option ℕ) (x : X) → option_and_then (slice_get xs) o ≡ Some x → (k : ℕ) × (o ≡ Some k) × (slice_get xs k ≡ Some x)
named-number xs None x h = cc h
named-number xs (Some k) x h = (k, refl, h)

one-in : {X : Type 0} (xs : List X) (x y : X) → xs ≡ x ∷ [] → In xs y → x ≡ y
one-in xs x y e h = by (subst (λ zs. In zs y) e h)
  where
    by : In (x ∷ []) y → x ≡ y
    by (inl q) = q
    by (inr i) = absurd i

above-is : (r f : Instance) (g : Lineage) (a : Instance) (up : List Instance) → g.ancestors ≡ a ∷ up → covers r f g ≡ (is_a kind.Field g.node && same_name g.node.use_.name f.use_.name && is_alias_of r a)
above-is r f g a up is = (λ j. is_a kind.Field g.node && same_name g.node.use_.name f.use_.name && (ap (λ xs. list_any (is_alias_of r) (take 1 xs)) is ∙ or-false (is_alias_of r a)) j)

pub no-cover-alias : (r f : Instance) (g : Lineage) (a : Instance) (up : List Instance) → g.ancestors ≡ a ∷ up → is_alias a ≡ false → covers r f g ≡ false
no-cover-alias r f g a up is none =
    above-is r f g a up is ∙ (λ j. is_a kind.Field g.node && same_name g.node.use_.name f.use_.name && no-alias-of r a none j) ∙ and-false (is_a kind.Field g.node && same_name g.node.use_.name f.use_.name)

module _ (e : Elab) (clean : IsClean e) (k : ℕ) (l : Lineage) (r : Instance) (kept : IsKept e k l r) where
  parent-at : (i : ℕ) × (i < k) × (slice_get (lineages_of e) i ≡ Some (record { node = r; ancestors = kept.above })) × In (children r) l.node
  parent-at = behind (Some (top_name e)) e.source.now k l r kept.above kept.here kept.parent

  r-in : In (nodes_of e) r
  r-in = place-in (nodes_of e) parent-at.0 r (node-at e parent-at.0 (record { node = r; ancestors = kept.above }) parent-at.2)

  r-reg : is_a kind.Reg r ≡ true
  r-reg = in-register r l.node parent-at.3 kept.is_field

  whole : child_of (record { node = r; ancestors = kept.above }) l.node ≡ l
  whole = (λ j. record { node = l.node; ancestors = sym kept.parent j })

  -- of a field of an alias: the number found is that of the field covered
  pub found-covers : (i : ℕ) (g : Lineage) → slice_get (lineages_of e) i ≡ Some g → (a : Instance) (up : List Instance) → g.ancestors ≡ a ∷ up → is_a kind.Field g.node ≡ true → (p : ℕ) (s : Instance) → IsPrimaryOf e a p s → (o : Option ℕ)
      → option_to_list (option_and_then (slice_get (lineages_of e)) o) ≡ filter (λ m. is_element g.node.use_.name.text.now (index_of g.node.path) m.node) (members_at (lineages_of e) p) → is_at o k ≡ covers r l.node g
  found-covers i g at a up is field p s primary o found = both-ways (is_at o k) (covers r l.node g) there back
    where
      passes : Lineage → Bool
      passes m = is_element g.node.use_.name.text.now (index_of g.node.path) m.node

      primary-at : (q : Lineage) × (slice_get (lineages_of e) p ≡ Some q) × (q.node ≡ s)
      primary-at = lineage-at e p s primary.here

      same-row : s ≡ r → primary-at.0 ≡ record { node = r; ancestors = kept.above }
      same-row q = one-by-path e p parent-at.0 primary-at.0 (record { node = r; ancestors = kept.above }) primary-at.1 parent-at.2 (ap (λ (n : Instance). n.path) (primary-at.2 ∙ q))

      there : is_at o k ≡ true → covers r l.node g ≡ true
      there t =
          let one : option_and_then (slice_get (lineages_of e)) o ≡ Some l = ap (option_and_then (slice_get (lineages_of e))) (at-only o k t) ∙ kept.here in
          let among : In (filter passes (members_at (lineages_of e) p)) l = subst (λ xs. In xs l) (ap option_to_list (sym one) ∙ found) (inl refl) in
          let parts = and_parts (bytes_eq l.node.use_.name.text.now g.node.use_.name.text.now) (bytes_eq (index_of l.node.path) (index_of g.node.path)) (filter-true passes (members_at (lineages_of e) p) l among) in
          let body = in-body e p primary-at.0 primary-at.1 l (filter-in passes (members_at (lineages_of e) p) l among) in
          let ups : r ∷ kept.above ≡ primary-at.0.node ∷ primary-at.0.ancestors = sym kept.parent ∙ ap (λ (m : Lineage). m.ancestors) body.1 in
          let node : r ≡ s = (let first : r ≡ primary-at.0.node = cc ups in first ∙ primary-at.2) in
          let alias : is_alias_of r a ≡ true = filter-true (λ x. is_alias_of x a) (filter (is_a kind.Reg) (nodes_of e)) r (subst (λ xs. In xs r) (sym primary.only) (inl (sym node))) in
          let name : same_name g.node.use_.name l.node.use_.name ≡ true = same-bytes g.node.use_.name.text.now l.node.use_.name.text.now (sym (are-bytes l.node.use_.name.text.now g.node.use_.name.text.now parts.0)) in
          above-is r l.node g a up is ∙ (λ j. field j && name j && alias j)

      back : covers r l.node g ≡ true → is_at o k ≡ true
      back t =
          let parts = and_parts (is_a kind.Field g.node && same_name g.node.use_.name l.node.use_.name) (is_alias_of r a) (sym (above-is r l.node g a up is) ∙ t) in
          let name = are-bytes g.node.use_.name.text.now l.node.use_.name.text.now (and_parts (is_a kind.Field g.node) (same_name g.node.use_.name l.node.use_.name) parts.0).1 in
          let node : s ≡ r = one-in (filter (λ x. is_alias_of x a) (filter (is_a kind.Reg) (nodes_of e))) s r primary.only (in-filter (λ x. is_alias_of x a) (filter (is_a kind.Reg) (nodes_of e)) r (in-filter (is_a kind.Reg) (nodes_of e) r r-in r-reg) parts.1) in
          let inside : In (children primary-at.0.node) l.node = subst (λ (n : Instance). In (children n) l.node) (sym (primary-at.2 ∙ node)) parent-at.3 in
          let member : In (members_at (lineages_of e) p) l = subst (In (members_at (lineages_of e) p)) (ap (λ m. child_of m l.node) (same-row node) ∙ whole) (body-in e p primary-at.0 primary-at.1 l.node inside) in
          let above = behind (Some (top_name e)) e.source.now i g a up at is in
          let index : index_of l.node.path ≡ index_of g.node.path = no-index e parent-at.0 (record { node = r; ancestors = kept.above }) parent-at.2 l.node parent-at.3 kept.is_field ∙ sym (no-index e above.0 (record { node = a; ancestors = up }) above.2 g.node above.3 field) in
          let pass : passes l ≡ true = (λ j. same-bytes l.node.use_.name.text.now g.node.use_.name.text.now (sym name) j && same-bytes (index_of l.node.path) (index_of g.node.path) index j) in
          let listed : In (option_to_list (option_and_then (slice_get (lineages_of e)) o)) l = subst (λ xs. In xs l) (sym found) (in-filter passes (members_at (lineages_of e) p) l member pass) in
          let number = named-number (lineages_of e) o l (one-listed (option_and_then (slice_get (lineages_of e)) o) l listed) in
          only-at o k (number.1 ∙ ap Some (once (Some (top_name e)) e.source.now number.0 k l number.2 kept.here))

-- Rows.

module _ (e : Elab) (rows : List Row) (are : AreRows e rows) (x : Row) (i : ℕ) (g : Lineage) (row : IsRow e (lineages_of e) i x g) (p : ℕ) (parent : x.parent ≡ Some p) where
  above : (q : Lineage) × (slice_get (lineages_of e) p ≡ Some q) × (g.ancestors ≡ q.node ∷ q.ancestors)
  above = subst (λ o. IsParent (lineages_of e) o g.ancestors) parent row.parent

  -- the node that a node stands in has a row
  pub never-out : slice_get rows p ≡ None → ⊥
  never-out none = go rows p (let l = get-within (lineages_of e) p above.0 above.1 in let m = rows-many e rows are in omega (arith, l, m)) none
    where
      go : (xs : List Row) (k : ℕ) → k < length xs → slice_get xs k ≡ None → ⊥
      go [] k l q = omega (arith, l)
      go (y ∷ ys) zero l q = cc q
      go (y ∷ ys) (suc k) l q = go ys k (omega (arith, l)) q

  module _ (y : Row) (here : slice_get rows p ≡ Some y) (o : Option ℕ) (tells : (k : ℕ) (l : Lineage) → slice_get (lineages_of e) k ≡ Some l → IsRow e (lineages_of e) k y l → TellsPrimary e l.node o) where
    told : TellsPrimary e above.0.node o
    told =
        let r = row-at e rows are p y here in
        let same : r.0 ≡ above.0 = (let q : Some r.0 ≡ Some above.0 = sym r.1 ∙ above.1 in cc q) in
        subst (λ (l : Lineage). TellsPrimary e l.node o) same (tells p r.0 r.1 r.2)

    pub no-primary : (r f : Instance) → o ≡ None → covers r f g ≡ false
    no-primary r f none = no-cover-alias r f g above.0.node above.0.ancestors above.2 (subst (TellsPrimary e above.0.node) none told)

    module _ (t : ℕ) (is : o ≡ Some t) where
      primary-told : (is_alias above.0.node ≡ true) × (s : Instance) × IsPrimaryOf e above.0.node t s
      primary-told = subst (TellsPrimary e above.0.node) is told

      pub primary-counted : IsClean e → t ≤ e.count
      primary-counted clean = let l = get-within (nodes_of e) t primary-told.1 primary-told.2.here in let c = count-is e clean in let m = nodes-many e in omega (arith, l, c, m)

      pub row-covers : IsClean e → slice_get (lineages_of e) i ≡ Some g → same_kind kind.Field (out-Node x.node.now).kind ≡ true → (k : ℕ) (l : Lineage) (r : Instance) → IsKept e k l r → (n : Option ℕ)
          → option_to_list (option_and_then (slice_get (lineages_of e)) n) ≡ filter (λ m. is_element (out-Node x.node.now).name.now (out-Node x.node.now).index.now m.node) (members_at (lineages_of e) t) → is_at n k ≡ covers r l.node g
      row-covers clean at field k l r kept n found =
          found-covers e clean k l r kept i g at above.0.node above.0.ancestors above.2 (ap (same_kind kind.Field) (sym row.says.kind) ∙ field) t primary-told.1 primary-told.2 n
          (found ∙ (λ j. filter (λ m. is_element (row.says.name j) (row.says.index j) m.node) (members_at (lineages_of e) t)))
