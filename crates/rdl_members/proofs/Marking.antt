-- One node more, and all nodes.
use Rattle.std.proofs.Common.{◌≡◌, ◌∙◌, inl, inr, ℕ, zero, suc, ◌+◌, ◌≤◌, Bool, true, false, ◌&&◌, ◌||◌, ◌==◌, drop, append-nil, ◌++◌, List, [], ◌∷◌, filter, flat_map, length, take, take_all, Option, None, Some, slice_get, slice_set, refl, sym, ap, subst, arith}
use Rattle.std.specs.List.{list_any}
use Rattle.std.proofs.lemmas.Bool.{and_parts, eqb-true, eqb-false}
use Rattle.std.proofs.lemmas.List.Folds.{list_any_more}
use Rattle.plain_lemmas.proofs.Bools.{or-assoc as or-joined, or-false, or-true, same-both_ways as both-ways}
use Rattle.rdl_tree.specs.declared.item.Kind.TheVariants as kind
use Rattle.rdl_tree.specs.declared.node.Elab.{Elab}
use Rattle.rdl_values.specs.Elaborated.{nodes_of, top_name}
use Rattle.rdl_values.specs.Instances.{Instance, children}
use Rattle.rdl_values.specs.Lineages.{Lineage, child_of, lineages_of}
use Rattle.rdl_values.specs.Uses.{same_name}
use Rattle.rdl_layers.specs.Fields.{aliases, fields_of, is_a, is_alias_of, views}
use Rattle.rdl_fields.proofs.Lists.{filter-in, filter-true, in-filter}
use Rattle.rdl_nodes.proofs.Members.{In, flat-in, get-read, get-within, in-flat, in-place, place-in}
use Rattle.rdl_nodes.proofs.Order.{behind}
use Rattle.rdl_sizes.proofs.Facts.{lineage-at, node-at}
use Rattle.rdl_bits.proofs.Descending.{listed-down}
use Rattle.rdl_members.specs.Covered.{AreOverViews, AreTests, IsKept, covers, is_at, marked}

any-in : {X : Type 0} (p : X → Bool) (xs : List X) → list_any p xs ≡ true → (x : X) × In xs x × (p x ≡ true)
any-in p [] h = cc h
any-in p (x ∷ xs) h = go (p x) refl h (λ g. any-in p xs g)
  where
    go : (b : Bool) → p x ≡ b → (b || list_any p xs) ≡ true → (list_any p xs ≡ true → (y : _) × In xs y × (p y ≡ true)) → (y : _) × In (x ∷ xs) y × (p y ≡ true)
    go true e g more = (x, inl refl, e)
    go false e g more = let r = more g in (r.0, inr r.1, r.2)

in-any : {X : Type 0} (p : X → Bool) (xs : List X) (x : X) → In xs x → p x ≡ true → list_any p xs ≡ true
in-any p [] x i h = absurd i
in-any p (y ∷ ys) x (inl e) h = ap (λ b. b || list_any p ys) (ap p e ∙ h)
in-any p (y ∷ ys) x (inr i) h = go (p y) (in-any p ys x i h)
  where
    go : (b : Bool) → list_any p ys ≡ true → (b || list_any p ys) ≡ true
    go true e = refl
    go false e = e

-- What is known of the marks when so many nodes have been gone through.
pub record AreMarked (e : Elab) (own : List Bool) (to : ℕ) (bs : List Bool) : Type 0 where
  pub many : length bs ≡ length own
  pub each : (test : Instance → Bool) → AreTests e test own → (k : ℕ) (l : Lineage) (r : Instance) → IsKept e k l r → slice_get bs k ≡ Some (test l.node || list_any (λ g. covers r l.node g && test g.node) (take to (lineages_of e)))

pub none-yet : (e : Elab) (own bs : List Bool) → bs ≡ own → AreMarked e own 0 bs
none-yet e own bs same = record {
  many = ap length same;
  each = λ test are k l r kept. ap (λ xs. slice_get xs k) same ∙ (are k l.node (node-at e k l kept.here) ∙ ap Some (sym (or-false (test l.node))));
}

set-length : (bs : List Bool) (j : ℕ) (b : Bool) → length (slice_set bs j b) ≡ length bs
set-length [] j b = refl
set-length (x ∷ xs) zero b = refl
set-length (x ∷ xs) (suc j) b = ap suc (set-length xs j b)

marked-length : (bs : List Bool) (o : Option ℕ) → length (marked bs o) ≡ length bs
marked-length bs None = refl
marked-length bs (Some j) = set-length bs j true

set-here : (bs : List Bool) (k : ℕ) (b : Bool) → slice_get bs k ≡ Some b → slice_get (slice_set bs k true) k ≡ Some true
set-here [] k b h = cc h
set-here (x ∷ xs) zero b h = refl
set-here (x ∷ xs) (suc k) b h = set-here xs k b h

set-elsewhere : (bs : List Bool) (j k : ℕ) → (j ≡ k → ⊥) → slice_get (slice_set bs j true) k ≡ slice_get bs k
set-elsewhere [] j k other = refl
set-elsewhere (x ∷ xs) zero zero other = absurd (other refl)
set-elsewhere (x ∷ xs) zero (suc k) other = refl
set-elsewhere (x ∷ xs) (suc j) zero other = refl
set-elsewhere (x ∷ xs) (suc j) (suc k) other = set-elsewhere xs j k (λ q. other (ap suc q))

set-at : (bs : List Bool) (j k : ℕ) (b : Bool) → slice_get bs k ≡ Some b → slice_get (slice_set bs j true) k ≡ Some (b || (j == k))
set-at bs j k b h = go (j == k) refl
  where
    go : (t : Bool) → (j == k) ≡ t → slice_get (slice_set bs j true) k ≡ Some (b || t)
    go true q = ap (λ n. slice_get (slice_set bs n true) k) (eqb-true j k q) ∙ (set-here bs k b h ∙ ap Some (sym (or-true b)))
    go false q = set-elsewhere bs j k (eqb-false j k q) ∙ (h ∙ ap Some (sym (or-false b)))

mark-at : (bs : List Bool) (o : Option ℕ) (k : ℕ) (b : Bool) → slice_get bs k ≡ Some b → slice_get (marked bs o) k ≡ Some (b || is_at o k)
mark-at bs None k b h = h ∙ ap Some (sym (or-false b))
mark-at bs (Some j) k b h = set-at bs j k b h

-- what is marked for a node: the field that it covers, where it has the property
abbrev pub Covers : Elab → Lineage → Bool → Option ℕ → Type 0
Covers e g b o = (k : ℕ) (l : Lineage) (r : Instance) → IsKept e k l r → is_at o k ≡ (covers r l.node g && b)

pub one-marked : (e : Elab) (own : List Bool) (at : ℕ) (g : Lineage) → slice_get (lineages_of e) at ≡ Some g → (bs : List Bool) → AreMarked e own at bs → (b : Bool) → slice_get own at ≡ Some b → (o : Option ℕ) → Covers e g b o → (new : List Bool) → new ≡ marked bs o → AreMarked e own (at + 1) new
one-marked e own at g here bs before b is o covers-it new put = record {
  many = ap length put ∙ (marked-length bs o ∙ before.many);
  each = λ test are k l r kept.
      let seen : Lineage → Bool = λ h. covers r l.node h && test h.node in
      let was = list_any seen (take at (lineages_of e)) in
      let own_is : test g.node ≡ b = (let q : Some (test g.node) ≡ Some b = sym (are at g.node (node-at e at g here)) ∙ is in cc q) in
      let next : list_any seen (take (at + 1) (lineages_of e)) ≡ was || seen g = list_any_more seen (lineages_of e) at g (get-within (lineages_of e) at g here) ∙ ap (λ h. was || seen h) (get-read (lineages_of e) at g g here) in
      let mine : seen g ≡ is_at o k = ap (λ c. covers r l.node g && c) own_is ∙ sym (covers-it k l r kept) in
      ap (λ xs. slice_get xs k) put
      ∙ (mark-at bs o k (test l.node || was) (before.each test are k l r kept)
      ∙ ap Some (or-joined (test l.node) was (is_at o k) ∙ ap (λ c. test l.node || c) (ap (λ c. was || c) (sym mine) ∙ sym next)));
}

-- All nodes.

module _ (e : Elab) (test : Instance → Bool) (r f : Instance) where
  abbrev in-alias : Instance → List Instance
  in-alias a = filter (λ g. same_name g.use_.name f.use_.name) (fields_of a)

  abbrev seen : Lineage → Bool
  seen g = covers r f g && test g.node

  one-above : (ups : List Instance) → list_any (is_alias_of r) (take 1 ups) ≡ true → (a : Instance) × (up : List Instance) × (ups ≡ a ∷ up) × (is_alias_of r a ≡ true)
  one-above [] h = cc h
  one-above (a ∷ up) h = (a, up, refl, sym (or-false (is_alias_of r a)) ∙ h)

  to-views : list_any seen (lineages_of e) ≡ true → list_any test (flat_map in-alias (aliases (nodes_of e) r)) ≡ true
  to-views h =
      let m = any-in seen (lineages_of e) h in
      let g = m.0 in
      let parts = and_parts (covers r f g) (test g.node) m.2 in
      let cover = and_parts (is_a kind.Field g.node && same_name g.node.use_.name f.use_.name) (list_any (is_alias_of r) (take 1 g.ancestors)) parts.0 in
      let first = and_parts (is_a kind.Field g.node) (same_name g.node.use_.name f.use_.name) cover.0 in
      let up = one-above g.ancestors cover.1 in
      let at = in-place (lineages_of e) g m.1 in
      let above = behind (Some (top_name e)) e.source.now at.0 g up.0 up.1 at.2 up.2 in
      let a_in : In (nodes_of e) up.0 = place-in (nodes_of e) above.0 up.0 (node-at e above.0 (record { node = up.0; ancestors = up.1 }) above.2) in
      in-any test (flat_map in-alias (aliases (nodes_of e) r)) g.node
      (in-flat in-alias (aliases (nodes_of e) r) up.0 g.node (in-filter (is_alias_of r) (nodes_of e) up.0 a_in up.3) (in-filter (λ x. same_name x.use_.name f.use_.name) (fields_of up.0) g.node (in-filter (is_a kind.Field) (children up.0) g.node above.3 first.0) first.1)) parts.1

  from-views : list_any test (flat_map in-alias (aliases (nodes_of e) r)) ≡ true → list_any seen (lineages_of e) ≡ true
  from-views h =
      let m = any-in test (flat_map in-alias (aliases (nodes_of e) r)) h in
      let v = m.0 in
      let q = flat-in in-alias (aliases (nodes_of e) r) v m.1 in
      let a = q.0 in
      let field = filter-in (λ x. same_name x.use_.name f.use_.name) (fields_of a) v q.2 in
      let name : same_name v.use_.name f.use_.name ≡ true = filter-true (λ x. same_name x.use_.name f.use_.name) (fields_of a) v q.2 in
      let is : is_a kind.Field v ≡ true = filter-true (is_a kind.Field) (children a) v field in
      let inside = filter-in (is_a kind.Field) (children a) v field in
      let at = in-place (nodes_of e) a (filter-in (is_alias_of r) (nodes_of e) a q.1) in
      let alias : is_alias_of r a ≡ true = filter-true (is_alias_of r) (nodes_of e) a q.1 in
      let l = lineage-at e at.0 a at.2 in
      let listed = listed-down (Some (top_name e)) e.source.now l.0 (place-in (lineages_of e) at.0 l.0 l.1) v (subst (λ n. In (children n) v) (sym l.2) inside) in
      let alias-l : list_any (is_alias_of r) (take 1 (l.0.node ∷ l.0.ancestors)) ≡ true = ap (λ n. is_alias_of r n || false) l.2 ∙ (or-false (is_alias_of r a) ∙ alias) in
      in-any seen (lineages_of e) (child_of l.0 v) listed (λ j. (is j && name j && alias-l j) && m.2 j)

  pub through-views : (test f || list_any seen (lineages_of e)) ≡ list_any test (views (nodes_of e) r f)
  through-views = ap (λ b. test f || b) (both-ways (list_any seen (lineages_of e)) (list_any test (flat_map in-alias (aliases (nodes_of e) r))) to-views from-views)

pub all-marked : (e : Elab) (own : List Bool) → length own ≡ e.count → (to : ℕ) → length (lineages_of e) ≤ to → (bs : List Bool) → AreMarked e own to bs → (test : Instance → Bool) → AreTests e test own → AreOverViews e test bs
all-marked e own sized to past bs h test are = record {
  many = h.many ∙ sized;
  each = λ k l r kept.
      h.each test are k l r kept ∙ ap Some (ap (λ xs. test l.node || list_any (λ g. covers r l.node g && test g.node) xs) (take_all to (lineages_of e) past) ∙ through-views e test r l.node);
}

-- Marks in a list that is written back.

drop-beyond : (xs : List Bool) (k : ℕ) → length xs ≤ k → drop k xs ≡ []
drop-beyond [] zero l = refl
drop-beyond [] (suc k) l = refl
drop-beyond (x ∷ xs) zero l = absurd (omega (arith, l))
drop-beyond (x ∷ xs) (suc k) l = drop-beyond xs k (omega (arith, l))

pub written-back : (n : ℕ) (old now new : List Bool) (o : Option ℕ) → n ≡ length old → now ≡ old → new ≡ marked now o → take n (new ++ drop (length new) old) ≡ marked old o
written-back n old now new o long value put =
    let is : new ≡ marked old o = put ∙ ap (λ bs. marked bs o) value in
    let many : length new ≡ length old = ap length is ∙ marked-length old o in
    ap (λ ys. take n (new ++ ys)) (drop-beyond old (length new) (omega (arith, many))) ∙ (ap (take n) (append-nil new) ∙ (take_all n new (omega (arith, many, long)) ∙ is))
