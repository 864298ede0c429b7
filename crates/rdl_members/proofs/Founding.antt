-- What the first rows say of the nodes in bodies.
use Rattle.std.proofs.Common.{◌≡◌, ◌∙◌, ℕ, ◌≤◌, ◌<◌, ◌&&◌, ◌||◌, inl, inr, Bool, true, false, List, [], ◌∷◌, bytes_eq, length, filter, Option, None, Some, is_some, option_and_then, option_map, option_to_list, slice_get, refl, sym, ap, subst, arith}
use Rattle.std.specs.List.{list_any}
use Rattle.std.specs.Cmp.Lexicographic.{bytes_decides}
use Rattle.plain_lemmas.proofs.Bools.{and-both as both-true}
use Rattle.plain_lemmas.proofs.Numbers.{eq-itself as number-itself}
use Rattle.rdl_tree.specs.declared.node.Elab.{Elab}
use Rattle.rdl_tree.specs.declared.node.Node.{out-Node}
use Rattle.rdl_values.specs.Elaborated.{index_of, top_name}
use Rattle.rdl_values.specs.Elaboration.{IsClean}
use Rattle.rdl_values.specs.Instances.{Instance, nodes}
use Rattle.rdl_values.specs.Lineages.{Lineage, lineages_of}
use Rattle.rdl_nodes.proofs.Lineages.{all_nodes}
use Rattle.rdl_nodes.specs.declared.table.Row.{Row}
use Rattle.rdl_nodes.specs.Rows.{AreRows}
use Rattle.rdl_nodes.proofs.Members.{In, get-read, get-within}
use Rattle.rdl_refs.proofs.OneTarget.{AtMost, Other, members, members_fine, of_nodes, one_passes, same_members, same_passing}
use Rattle.rdl_bits.proofs.Filtered.{in-kept, kept-in, kept-passes}
use Rattle.rdl_sizes.proofs.Facts.{count-is, row-at}
use Rattle.rdl_members.specs.Found.{AreMembersOf, is_element, is_named, members_at}
use Rattle.rdl_nodes.specs.Keyed.{Key}
use Rattle.rdl_node_lists.specs.Listed.{first_listed}
use Rattle.rdl_members.specs.Listed.{AreFirst, IsIndexed, body_in, element_key, first_row, has_key, key_is, name_key}
use Rattle.rdl_members.specs.declared.table.Members.{Members}
use Rattle.rdl_members.proofs.Firsts.{first-none, first-some, id_of}
use Rattle.rdl_nodes.proofs.Keyed.{keys-decide}
use Rattle.rdl_members.proofs.Standing.{body-row, row-body}

-- Lists of one at most.

one-only : {X : Type 0} (xs : List X) (x : X) → AtMost xs → In xs x → xs ≡ x ∷ []
one-only [] x a h = absurd h
one-only (y ∷ []) x a (inl e) = ap (λ z. z ∷ []) e
one-only (y ∷ []) x a (inr h) = absurd h
one-only (y ∷ z ∷ zs) x a h = absurd a

none-only : {X : Type 0} (xs : List X) → ((x : X) → In xs x → ⊥) → xs ≡ []
none-only [] h = refl
none-only (x ∷ xs) h = absurd (h x (inl refl))

any-here : {X : Type 0} (p : X → Bool) (xs : List X) (x : X) → In xs x → p x ≡ true → list_any p xs ≡ true
any-here p [] x h e = absurd h
any-here p (y ∷ ys) x (inl s) e = (λ i. (ap p s ∙ e) i || list_any p ys)
any-here p (y ∷ ys) x (inr h) e = go (p y) (any-here p ys x h e)
  where
    go : (b : Bool) → list_any p ys ≡ true → b || list_any p ys ≡ true
    go true q = refl
    go false q = q

any-nowhere : {X : Type 0} (p : X → Bool) (xs : List X) → ((x : X) → In xs x → p x ≡ false) → list_any p xs ≡ false
any-nowhere p [] h = refl
any-nowhere p (y ∷ ys) h = (λ i. h y (inl refl) i || any-nowhere p ys (λ x q. h x (inr q)) i)

-- of a body, one node at most has a name and indices
one-element : (e : Elab) (b : ℕ) (name index : List ℕ) → AtMost (filter (λ l. is_element name index l.node) (members_at (lineages_of e) b))
one-element e b name index =
    let w = Some (top_name e) in
    let s = e.source.now in
    let o = option_map (λ q. q.node.path) (slice_get (lineages_of e) b) in
    let few = one_passes Other (is_element name index) (members (nodes w s) o) (members_fine w s o).0 differ in
    of_nodes (filter (λ l. is_element name index l.node) (members_at (lineages_of e) b))
    (subst AtMost (sym (same_passing (is_element name index) (members_at (lineages_of e) b) ∙ ap (filter (is_element name index)) (same_members (lineages_of e) o ∙ ap (λ ns. members ns o) (all_nodes w s)))) few)
  where
    differ : (m n : Instance) → is_element name index m ≡ true → is_element name index n ≡ true → Other m n → ⊥
    differ m n x y other =
        let p = both-true (is_named name m) (bytes_eq (index_of m.path) index) x in
        let q = both-true (is_named name n) (bytes_eq (index_of n.path) index) y in
        other ((bytes_decides m.use_.name.text.now name).0 p.0 ∙ sym ((bytes_decides n.use_.name.text.now name).0 q.0)) ((bytes_decides (index_of m.path) index).0 p.1 ∙ sym ((bytes_decides (index_of n.path) index).0 q.1))

module _ (e : Elab) (clean : IsClean e) (rows : List Row) (are : AreRows e rows) (m : Members) (firsts : AreFirst e.count rows (first_listed m.elements) (first_listed m.names) m.most) (b : ℕ) (low : b ≤ e.count) where
  -- what a row of this body says of its node
  says-of : (i : ℕ) (x : Row) (l : Lineage) → slice_get rows i ≡ Some x → slice_get (lineages_of e) i ≡ Some l → ((out-Node x.node.now).name.now ≡ l.node.use_.name.text.now) × ((out-Node x.node.now).index.now ≡ index_of l.node.path)
  says-of i x l at here =
      let r = row-at e rows are i x at in
      let one : Some r.0 ≡ Some l = sym r.1 ∙ here in
      let same : r.0 ≡ l = cc one in
      (r.2.says.name ∙ ap (λ y. y.node.use_.name.text.now) same, r.2.says.index ∙ ap (λ y. index_of y.node.path) same)

  has-element : (i : ℕ) (x : Row) (l : Lineage) → slice_get rows i ≡ Some x → slice_get (lineages_of e) i ≡ Some l → body_in e.count x ≡ Some b → (name index : List ℕ)
      → has_key element_key e.count (record { body = b; name = name; index = index }) x ≡ is_element name index l.node
  has-element i x l at here body name index =
      let s = says-of i x l at here in
      ap (key_is element_key (record { body = b; name = name; index = index }) x) body ∙ (λ t. (number-itself b t && bytes_eq (s.0 t) name) && bytes_eq (s.1 t) index)

  has-name : (i : ℕ) (x : Row) (l : Lineage) → slice_get rows i ≡ Some x → slice_get (lineages_of e) i ≡ Some l → body_in e.count x ≡ Some b → (name : List ℕ)
      → has_key name_key e.count (record { body = b; name = name; index = [] }) x ≡ is_named name l.node
  has-name i x l at here body name =
      let s = says-of i x l at here in
      ap (key_is name_key (record { body = b; name = name; index = [] }) x) body ∙ ((λ t. (number-itself b t && bytes_eq (s.0 t) name) && true) ∙ and-true (is_named name l.node))
    where
      and-true : (t : Bool) → t && true ≡ t
      and-true true = refl
      and-true false = refl

  -- a row that has a key of this body is in it
  key-body : (key : ℕ → Row → Key) → ((c : ℕ) (x : Row) → (key c x).body ≡ c) → (k : Key) → k.body ≡ b → (x : Row) → has_key key e.count k x ≡ true → body_in e.count x ≡ Some b
  key-body key of-body k is x h = by (body_in e.count x) h
    where
      by : (o : Option ℕ) → key_is key k x o ≡ true → o ≡ Some b
      by None q = cc q
      by (Some c) q = ap Some (sym (of-body c x) ∙ (ap (λ j. j.body) (keys-decide (key c x) k q) ∙ is))

  -- the node of a row of this body, and where it stands
  module _ (i : ℕ) (x : Row) (at : slice_get rows i ≡ Some x) (body : body_in e.count x ≡ Some b) where
    of-row : (l : Lineage) × (slice_get (lineages_of e) i ≡ Some l) × (id_of x ≡ i)
    of-row = let r = row-at e rows are i x at in (r.0, r.1, r.2.number)

    among : In (members_at (lineages_of e) b) of-row.0
    among = row-body e clean rows are i x at of-row.0 of-row.1 b body

  found-element : (name index : List ℕ) → option_to_list (option_and_then (slice_get (lineages_of e)) (first_listed m.elements (record { body = b; name = name; index = index }))) ≡ filter (λ l. is_element name index l.node) (members_at (lineages_of e) b)
  found-element name index = by (first_listed m.elements key) (firsts.elements_ key)
    where
      key : Key
      key = record { body = b; name = name; index = index }

      kept : List Lineage
      kept = filter (λ l. is_element name index l.node) (members_at (lineages_of e) b)

      here : (r : ℕ) → (i : ℕ) × (x : Row) × (slice_get rows i ≡ Some x) × (has_key element_key e.count key x ≡ true) × (id_of x ≡ r) → option_to_list (slice_get (lineages_of e) r) ≡ kept
      here r (i, x, at, has, id) =
          let body = key-body element_key (λ c x. refl) key refl x has in
          let l = of-row i x at body in
          let passes : is_element name index l.0.node ≡ true = sym (has-element i x l.0 at l.1 body name index) ∙ has in
          let one = one-only kept l.0 (one-element e b name index) (in-kept (λ y. is_element name index y.node) (members_at (lineages_of e) b) l.0 (among i x at body) passes) in
          ap option_to_list (ap (slice_get (lineages_of e)) (sym id ∙ l.2) ∙ l.1) ∙ sym one

      nowhere : first_row (has_key element_key e.count key) rows ≡ None → (l : Lineage) → In kept l → ⊥
      nowhere none l h =
          let j = body-row e clean rows are b low l (kept-in (λ y. is_element name index y.node) (members_at (lineages_of e) b) l h) in
          let passes = kept-passes (λ y. is_element name index y.node) (members_at (lineages_of e) b) l h in
          let no = first-none (has_key element_key e.count key) rows none j.0 j.1 j.2 in
          let two : true ≡ false = sym passes ∙ (sym (has-element j.0 j.1 l j.2 j.3 j.4 name index) ∙ no) in
          cc two

      by : (o : Option ℕ) → o ≡ first_row (has_key element_key e.count key) rows → option_to_list (option_and_then (slice_get (lineages_of e)) o) ≡ kept
      by None q = sym (none-only kept (nowhere (sym q)))
      by (Some r) q = here r (first-some (has_key element_key e.count key) rows r (sym q))

  found-name : (name : List ℕ) → is_some (first_listed m.names (record { body = b; name = name; index = [] })) ≡ list_any (λ l. is_named name l.node) (members_at (lineages_of e) b)
  found-name name = by (first_listed m.names key) (firsts.names_ key)
    where
      key : Key
      key = record { body = b; name = name; index = [] }

      here : (r : ℕ) → (i : ℕ) × (x : Row) × (slice_get rows i ≡ Some x) × (has_key name_key e.count key x ≡ true) × (id_of x ≡ r) → list_any (λ l. is_named name l.node) (members_at (lineages_of e) b) ≡ true
      here r (i, x, at, has, id) =
          let body = key-body name_key (λ c x. refl) key refl x has in
          let l = of-row i x at body in
          any-here (λ l. is_named name l.node) (members_at (lineages_of e) b) l.0 (among i x at body) (sym (has-name i x l.0 at l.1 body name) ∙ has)

      nowhere : first_row (has_key name_key e.count key) rows ≡ None → (l : Lineage) → In (members_at (lineages_of e) b) l → is_named name l.node ≡ false
      nowhere none l h =
          let j = body-row e clean rows are b low l h in
          sym (has-name j.0 j.1 l j.2 j.3 j.4 name) ∙ first-none (has_key name_key e.count key) rows none j.0 j.1 j.2

      by : (o : Option ℕ) → o ≡ first_row (has_key name_key e.count key) rows → is_some o ≡ list_any (λ l. is_named name l.node) (members_at (lineages_of e) b)
      by None q = sym (any-nowhere (λ l. is_named name l.node) (members_at (lineages_of e) b) (nowhere (sym q)))
      by (Some r) q = sym (here r (first-some (has_key name_key e.count key) rows r (sym q)))

within : (e : Elab) (rows : List Row) → IsClean e → AreRows e rows → (m : Members) → AreFirst e.count rows (first_listed m.elements) (first_listed m.names) m.most → (key : Key) (k : ℕ) → first_listed m.elements key ≡ Some k → k < e.count
within e rows clean are m firsts key k h =
    let r = first-some (has_key element_key e.count key) rows k (sym (firsts.elements_ key) ∙ h) in
    let l = row-at e rows are r.0 r.1 r.2 in
    let low = get-within (lineages_of e) r.0 l.0 l.1 in
    let number : k ≡ r.0 = sym r.4 ∙ l.2.number in
    let many = count-is e clean in
    omega (arith, low, number, many)

-- a row of a key has its indices
few-indices : (e : Elab) (rows : List Row) (m : Members) → AreFirst e.count rows (first_listed m.elements) (first_listed m.names) m.most → (key : Key) (k : ℕ) → first_listed m.elements key ≡ Some k → length key.index ≤ m.most
few-indices e rows m firsts key k h =
    let r = first-some (has_key element_key e.count key) rows k (sym (firsts.elements_ key) ∙ h) in
    let few = firsts.indexed r.0 r.1 (get-within rows r.0 r.1 r.2) in
    subst (λ index. length index ≤ m.most) (has-index (body_in e.count r.1) r.1 r.3) (subst (IsIndexed m.most) (get-read rows r.0 r.1 r.1 r.2) few)
  where
    has-index : (o : Option ℕ) (x : Row) → key_is element_key key x o ≡ true → (out-Node x.node.now).index.now ≡ key.index
    has-index None x q = cc q
    has-index (Some c) x q = ap (λ j. j.index) (keys-decide (element_key c x) key q)

pub are-members : (e : Elab) → IsClean e → (rows : List Row) → AreRows e rows → (m : Members) → AreFirst e.count rows (first_listed m.elements) (first_listed m.names) m.most → AreMembersOf e m
are-members e clean rows are m firsts = record {
  found = λ b name index low. found-element e clean rows are m firsts b low name index;
  named = λ b name low. found-name e clean rows are m firsts b low name;
  stands = λ b name index k h. within e rows clean are m firsts (record { body = b; name = name; index = index }) k h;
  few = λ b name index k h. few-indices e rows m firsts (record { body = b; name = name; index = index }) k h;
}
