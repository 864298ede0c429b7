-- Names and indices that are listed under a number.
use Rattle.std.proofs.Common.{◌≡◌, ◌∙◌, ℕ, ◌+◌, ◌<◌, ◌≤◌, Bool, true, false, not, ◌&&◌, cond, List, [], ◌∷◌, ◌++◌, length, get_or, take, map, filter, flat_map, append-nil, Option, None, Some, is_some, option_to_list, slice_get, refl, sym, ap, subst}
use Rattle.std.proofs.lemmas.Grind.{flat_map-append}
use Rattle.std.proofs.lemmas.List.{take_all, take_more}
use Rattle.std.proofs.lemmas.List.Elements.{filter-append}
use Rattle.plain_lemmas.proofs.Bools.{and-both, and-true}
use Rattle.rdl_tree.specs.declared.node.Elab.{Elab}
use Rattle.rdl_tree.specs.declared.node.Node.{Node, out-Node}
use Rattle.rdl_values.specs.Elaborated.{Says}
use Rattle.rdl_values.specs.Instances.{Instance, children}
use Rattle.rdl_values.specs.Lineages.{lineages_of}
use Rattle.rdl_values.specs.Parts.{is_empty}
use Rattle.rdl_nodes.specs.Keyed.{Key, nodes_under, same_key}
use Rattle.rdl_nodes.specs.Rows.{AreRows}
use Rattle.rdl_nodes.specs.declared.node_index.NodeIndex.{NodeIndex}
use Rattle.rdl_nodes.specs.declared.table.Row.{Row}
use Rattle.rdl_nodes.proofs.Keyed.{keys-decide}
use Rattle.rdl_targets.specs.At.{AreAt, IsAt, id_of}
use Rattle.rdl_targets.specs.Contents.{element_key, is_element, is_named, name_key, passes, under}
use Rattle.rdl_targets.specs.Noted.{NotesAll, NotesNodes, inside, under_wanted}
use Rattle.rdl_targets.specs.declared.notes.Notes.{Notes}
use Rattle.rdl_targets.specs.declared.matching.Wanted.{Wanted}
use Rattle.rdl_targets.specs.declared.matching.Wanted.TheVariants as wants
use Rattle.rdl_targets.proofs.Contained.{element-same, inside-passing, named-same, under-append}
use Rattle.rdl_targets.proofs.Leading.{filter-none}
use Rattle.rdl_targets.proofs.Numbered.{at-append, no_row, row_at}

-- Lists without an element.

pub empty-append : {X : Type 0} (xs ys : List X) → is_empty (xs ++ ys) ≡ (is_empty xs && is_empty ys)
empty-append [] ys = refl
empty-append (x ∷ xs) ys = refl

pub empty-nil : {X : Type 0} (xs : List X) → is_empty xs ≡ true → xs ≡ []
empty-nil [] e = refl
empty-nil (x ∷ xs) e = cc e

pub first-none : {X : Type 0} (xs : List X) → slice_get xs 0 ≡ None → is_empty xs ≡ true
first-none [] e = refl
first-none (x ∷ xs) e = cc e

first-some : {X : Type 0} (xs : List X) → is_some (slice_get xs 0) ≡ true → is_empty xs ≡ false
first-some [] e = cc e
first-some (x ∷ xs) e = refl

empty-one : {X : Type 0} (b : Bool) (x : X) → is_empty (cond b (x ∷ []) []) ≡ not b
empty-one true x = refl
empty-one false x = refl

-- One more under a key.

pub there-already : (t : NodeIndex) (key : Key) → is_some (slice_get (nodes_under t key) 0) ≡ true → (k : Key) → is_empty (nodes_under t k) ≡ (is_empty (nodes_under t k) && not (same_key key k))
there-already t key some k = go (same_key key k) refl
  where
    go : (b : Bool) → same_key key k ≡ b → is_empty (nodes_under t k) ≡ (is_empty (nodes_under t k) && not b)
    go false e = sym (and-true (is_empty (nodes_under t k)))
    go true e =
        let none : is_empty (nodes_under t k) ≡ false = ap (λ j. is_empty (nodes_under t j)) (sym (keys-decide key k e)) ∙ first-some (nodes_under t key) some in
        none ∙ ap (λ b. b && false) (sym none)

pub put-there : (old new : NodeIndex) (key : Key) (x : ℕ) → ((k : Key) → nodes_under new k ≡ nodes_under old k ++ cond (same_key key k) (x ∷ []) []) → (k : Key) → is_empty (nodes_under new k) ≡ (is_empty (nodes_under old k) && not (same_key key k))
put-there old new key x put k = ap is_empty (put k) ∙ (empty-append (nodes_under old k) (cond (same_key key k) (x ∷ []) []) ∙ ap (λ b. is_empty (nodes_under old k) && b) (empty-one (same_key key k) x))

not-under : (key : ℕ → Node → Key) (k : Key) (b : ℕ) (r : Node) → not (same_key (key b r) k) ≡ is_empty (under key k b (r ∷ []))
not-under key k b r = go (same_key (key b r) k)
  where
    go : (c : Bool) → not c ≡ is_empty (map id_of (cond c (r ∷ []) []))
    go true = refl
    go false = refl

-- a node
pub one-noted : (b : ℕ) (r : Node) (old new : Notes) → ((k : Key) → is_empty (nodes_under new.names k) ≡ (is_empty (nodes_under old.names k) && not (same_key (name_key b r) k)))
    → ((k : Key) → is_empty (nodes_under new.elements k) ≡ (is_empty (nodes_under old.elements k) && not (same_key (element_key b r) k))) → NotesNodes b (r ∷ []) old new
one-noted b r old new names elements = record {
  names_ = λ k. names k ∙ ap (λ c. is_empty (nodes_under old.names k) && c) (not-under name_key k b r);
  elements_ = λ k. elements k ∙ ap (λ c. is_empty (nodes_under old.elements k) && c) (not-under element_key k b r);
}

-- Nodes one by one.

pub none-noted : (b : ℕ) (c : Notes) → NotesNodes b [] c c
none-noted b c = record { names_ = λ k. sym (and-true (is_empty (nodes_under c.names k))); elements_ = λ k. sym (and-true (is_empty (nodes_under c.elements k))) }

and-turn : (a b c : Bool) → ((a && b) && c) ≡ (a && (b && c))
and-turn true b c = refl
and-turn false b c = refl

pub both-noted : (b : ℕ) (rs ss : List Node) (old between new : Notes) → NotesNodes b rs old between → NotesNodes b ss between new → NotesNodes b (rs ++ ss) old new
both-noted b rs ss old between new h g = record {
  names_ = λ k. g.names_ k ∙ join name_key k (is_empty (nodes_under old.names k)) (is_empty (nodes_under between.names k)) (h.names_ k);
  elements_ = λ k. g.elements_ k ∙ join element_key k (is_empty (nodes_under old.elements k)) (is_empty (nodes_under between.elements k)) (h.elements_ k);
}
  where
    join : (key : ℕ → Node → Key) (k : Key) (x y : Bool) → y ≡ (x && is_empty (under key k b rs)) → (y && is_empty (under key k b ss)) ≡ (x && is_empty (under key k b (rs ++ ss)))
    join key k x y e = ap (λ c. c && is_empty (under key k b ss)) e ∙ (and-turn x (is_empty (under key k b rs)) (is_empty (under key k b ss)) ∙ ap (λ c. x && c) (sym (ap is_empty (under-append key k b rs ss) ∙ empty-append (under key k b rs) (under key k b ss))))

pub more-noted : (b : ℕ) (rs : List Node) (i : ℕ) (r : Node) (old between new : Notes) → i < length rs → r ≡ get_or rs i r → NotesNodes b (take i rs) old between → NotesNodes b (r ∷ []) between new → NotesNodes b (take (i + 1) rs) old new
more-noted b rs i r old between new l at h one = subst (λ ss. NotesNodes b ss old new) (ap (λ s. take i rs ++ (s ∷ [])) at ∙ sym (take_more rs i r l)) (both-noted b (take i rs) (r ∷ []) old between new h one)

pub all-noted : (b : ℕ) (rs : List Node) (i : ℕ) (old new : Notes) → length rs ≤ i → NotesNodes b (take i rs) old new → NotesNodes b rs old new
all-noted b rs i old new l h = subst (λ ss. NotesNodes b ss old new) (take_all i rs l) h

-- Bodies one by one.

inside-is : (rows : List Row) (k : ℕ) (o : Option Row) → slice_get rows k ≡ o → flat_map (inside rows) (k ∷ []) ≡ flat_map (λ (y : Row). (out-Node y.node.now).children.now) (option_to_list o)
inside-is rows k o e = append-nil (inside rows k) ∙ ap (λ p. flat_map (λ (y : Row). (out-Node y.node.now).children.now) (option_to_list p)) e

pub no-body : (b : ℕ) (rows : List Row) (k : ℕ) (c : Notes) → slice_get rows k ≡ None → NotesAll b rows (k ∷ []) c c
no-body b rows k c none = subst (λ rs. NotesNodes b rs c c) (sym (inside-is rows k None none)) (none-noted b c)

pub one-body : (b : ℕ) (rows : List Row) (k : ℕ) (x : Row) (old new : Notes) → slice_get rows k ≡ Some x → NotesNodes b (out-Node x.node.now).children.now old new → NotesAll b rows (k ∷ []) old new
one-body b rows k x old new some h = subst (λ rs. NotesNodes b rs old new) (sym (inside-is rows k (Some x) some ∙ append-nil (out-Node x.node.now).children.now)) h

pub more-bodies : (b : ℕ) (rows : List Row) (ks : List ℕ) (i d : ℕ) (old between new : Notes) → i < length ks → NotesAll b rows (take i ks) old between → NotesAll b rows (get_or ks i d ∷ []) between new → NotesAll b rows (take (i + 1) ks) old new
more-bodies b rows ks i d old between new l h one =
    subst (λ rs. NotesNodes b rs old new) (sym (ap (flat_map (inside rows)) (take_more ks i d l) ∙ flat_map-append (inside rows) (take i ks) (get_or ks i d ∷ [])))
    (both-noted b (flat_map (inside rows) (take i ks)) (flat_map (inside rows) (get_or ks i d ∷ [])) old between new h one)

pub all-bodies : (b : ℕ) (rows : List Row) (ks : List ℕ) (i : ℕ) (old new : Notes) → length ks ≤ i → NotesAll b rows (take i ks) old new → NotesAll b rows ks old new
all-bodies b rows ks i old new l h = subst (λ js. NotesAll b rows js old new) (take_all i ks l) h

-- What isn't listed stands in no body.

module _ (e : Elab) (rows : List Row) (are : AreRows e rows) (key : ℕ → Node → Key) (b : ℕ) (k : Key) (q : Instance → Bool) (same : (beside : List Node) (r : Node) (n : Instance) → Says beside r n → same_key (key b r) k ≡ q n) where
  in-body : (j : ℕ) (n : Instance) → IsAt (lineages_of e) j n → AreAt (lineages_of e) (under key k b (inside rows j)) (filter q (children n))
  in-body j n at = by (slice_get rows j) refl
    where
      by : (o : Option Row) → slice_get rows j ≡ o → AreAt (lineages_of e) (under key k b (inside rows j)) (filter q (children n))
      by None here = absurd (no_row e rows j n are here at)
      by (Some x) here =
          let r = row_at e rows j x n are here at in
          let found = inside-passing (lineages_of e) _ _ (out-Node x.node.now).children.now (children r.l.node) (λ s. same_key (key b s) k) q (λ s m says. same _ s m says) r.row.inside in
          subst (λ rs. AreAt (lineages_of e) (under key k b rs) (filter q (children n))) (sym (ap (λ o. flat_map (λ (y : Row). (out-Node y.node.now).children.now) (option_to_list o)) here ∙ append-nil (out-Node x.node.now).children.now))
          (subst (λ m. AreAt (lineages_of e) (under key k b (out-Node x.node.now).children.now) (filter q (children m))) r.is found)

  pub in-bodies : (js : List ℕ) (ns : List Instance) → AreAt (lineages_of e) js ns → AreAt (lineages_of e) (under key k b (flat_map (inside rows) js)) (filter q (flat_map children ns))
  in-bodies [] [] at = tt
  in-bodies (j ∷ js) (n ∷ ns) at =
      subst (λ ks. AreAt (lineages_of e) ks (filter q (flat_map children (n ∷ ns)))) (sym (under-append key k b (inside rows j) (flat_map (inside rows) js)))
      (subst (AreAt (lineages_of e) (under key k b (inside rows j) ++ under key k b (flat_map (inside rows) js))) (sym (filter-append q (children n) (flat_map children ns)))
      (at-append (lineages_of e) (under key k b (inside rows j)) (under key k b (flat_map (inside rows) js)) (filter q (children n)) (filter q (flat_map children ns)) (in-body j n at.0) (in-bodies js ns at.1)))
  in-bodies [] (n ∷ ns) at = absurd at
  in-bodies (j ∷ js) [] at = absurd at

  pub nowhere : (js : List ℕ) (ns : List Instance) → AreAt (lineages_of e) js ns → is_empty (under key k b (flat_map (inside rows) js)) ≡ true → [] ≡ filter q (flat_map children ns)
  nowhere js ns at none = by (under key k b (flat_map (inside rows) js)) (filter q (flat_map children ns)) (in-bodies js ns at) none
    where
      by : (ks : List ℕ) (ms : List Instance) → AreAt (lineages_of e) ks ms → is_empty ks ≡ true → [] ≡ ms
      by [] [] h z = refl
      by (j ∷ ks) ms h z = cc z
      by [] (m ∷ ms) h z = absurd h

pub tells-all : (e : Elab) (rows : List Row) (b : ℕ) (ks : List ℕ) (old new : Notes) (name : List ℕ) (w : Wanted) (ms : List Instance) → AreRows e rows → NotesAll b rows ks old new → slice_get (under_wanted new b name w) 0 ≡ None → AreAt (lineages_of e) ks ms
    → [] ≡ filter (passes w name) (flat_map children ms)
tells-all e rows b ks old new name wants.Any ms are h none at =
    let k : Key = record { body = b; name = name; index = [] } in
    nowhere e rows are name_key b k (is_named name) (λ beside r n says. named-same b name beside r n says) ks ms at
    (and-both (is_empty (nodes_under old.names k)) (is_empty (under name_key k b (flat_map (inside rows) ks))) (sym (h.names_ k) ∙ first-none (nodes_under new.names k) none)).1
tells-all e rows b ks old new name wants.None ms are h none at = sym (filter-none (flat_map children ms))
tells-all e rows b ks old new name (wants.These v) ms are h none at =
    let k : Key = record { body = b; name = name; index = v.items } in
    nowhere e rows are element_key b k (is_element name v.items) (λ beside r n says. element-same b name v.items beside r n says) ks ms at
    (and-both (is_empty (nodes_under old.elements k)) (is_empty (under element_key k b (flat_map (inside rows) ks))) (sym (h.elements_ k) ∙ first-none (nodes_under new.elements k) none)).1

-- what was listed still is
pub still-listed : (b : ℕ) (rs : List Node) (old new : Notes) (k : ℕ) (name : List ℕ) (w : Wanted) → NotesNodes b rs old new → slice_get (under_wanted new k name w) 0 ≡ None → slice_get (under_wanted old k name w) 0 ≡ None
still-listed b rs old new k name wants.Any h none = no-first (nodes_under old.names (record { body = k; name = name; index = [] })) (and-both _ _ (sym (h.names_ (record { body = k; name = name; index = [] })) ∙ first-none (nodes_under new.names (record { body = k; name = name; index = [] })) none)).0
  where
    no-first : (xs : List ℕ) → is_empty xs ≡ true → slice_get xs 0 ≡ None
    no-first [] e = refl
    no-first (x ∷ xs) e = cc e
still-listed b rs old new k name wants.None h none = refl
still-listed b rs old new k name (wants.These v) h none = no-first (nodes_under old.elements (record { body = k; name = name; index = v.items })) (and-both _ _ (sym (h.elements_ (record { body = k; name = name; index = v.items })) ∙ first-none (nodes_under new.elements (record { body = k; name = name; index = v.items })) none)).0
  where
    no-first : (xs : List ℕ) → is_empty xs ≡ true → slice_get xs 0 ≡ None
    no-first [] e = refl
    no-first (x ∷ xs) e = cc e
