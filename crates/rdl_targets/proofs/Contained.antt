-- The nodes that are put into bodies, under their keys.
use Rattle.std.proofs.Common.{◌≡◌, ◌∙◌, ℕ, zero, suc, ◌+◌, ◌<◌, ◌≤◌, ◌==◌, Bool, true, false, ◌&&◌, cond, bytes_eq, List, [], ◌∷◌, ◌++◌, length, get_or, take, map, filter, flat_map, append-nil, append_assoc, Option, None, Some, option_map, slice_get, refl, sym, ap, subst, arith}
use Rattle.std.proofs.lemmas.Bool.Decides.{nat_tests}
use Rattle.std.proofs.lemmas.Grind.{flat_map-append}
use Rattle.std.proofs.lemmas.List.{map-append, take_all, take_more}
use Rattle.std.proofs.lemmas.List.Elements.{filter-append}
use Rattle.plain_lemmas.proofs.Bools.{and-true}
use Rattle.plain_lemmas.proofs.Lists.{bytes_eq-swap as bytes-turn}
use Rattle.plain_lemmas.proofs.Numbers.{eq-itself as itself}
use Rattle.rdl_tree.specs.declared.node.Elab.{Elab}
use Rattle.rdl_tree.specs.declared.node.Node.{Node, out-Node}
use Rattle.rdl_values.specs.Elaborated.{Says}
use Rattle.rdl_values.specs.Instances.{Instance, children}
use Rattle.rdl_values.specs.Lineages.{Lineage, lineages_of}
use Rattle.rdl_nodes.specs.Rows.{AreInside, AreRows, AreRowsFrom}
use Rattle.rdl_nodes.specs.declared.table.Row.{Row}
use Rattle.rdl_nodes.specs.Keyed.{Key, same_key}
use Rattle.rdl_node_lists.specs.Keys.{held_under}
use Rattle.rdl_node_lists.specs.Listed.{listed_under}
use Rattle.rdl_node_lists.specs.declared.held.By.TheVariants as by
use Rattle.rdl_node_lists.specs.declared.held.Held.{Held}
use Rattle.rdl_node_lists.proofs.Adding.{one-added}
use Rattle.rdl_targets.specs.At.{AreAt, IsAt, id_of}
use Rattle.rdl_targets.specs.Contents.{AddsNodes, AreContents, element_key, is_element, is_named, name_key, under}
use Rattle.rdl_targets.specs.declared.contents.Contents.{Contents}
use Rattle.rdl_targets.proofs.Numbered.{no_row, row_at}

-- One by one.

pub under-append : (key : ℕ → Node → Key) (k : Key) (b : ℕ) (rs ss : List Node) → under key k b (rs ++ ss) ≡ under key k b rs ++ under key k b ss
under-append key k b rs ss =
    ap (map id_of) (filter-append (λ r. same_key (key b r) k) rs ss) ∙ map-append id_of (filter (λ r. same_key (key b r) k) rs) (filter (λ r. same_key (key b r) k) ss)

-- what a table of keys is once nodes are put in
abbrev Puts : (ℕ → Node → Key) → ℕ → List Node → (Key → List ℕ) → (Key → List ℕ) → Type 0
Puts key b rs old new = (k : Key) → new k ≡ old k ++ under key k b rs

puts-none : (key : ℕ → Node → Key) (b : ℕ) (old : Key → List ℕ) → Puts key b [] old old
puts-none key b old k = sym (append-nil (old k))

puts-more : (key : ℕ → Node → Key) (b : ℕ) (rs : List Node) (r : Node) (old between new : Key → List ℕ) → Puts key b rs old between → Puts key b (r ∷ []) between new → Puts key b (rs ++ (r ∷ [])) old new
puts-more key b rs r old between new h one k = one k ∙ ap (λ xs. xs ++ under key k b (r ∷ [])) (h k) ∙ append_assoc (old k) (under key k b rs) (under key k b (r ∷ [])) ∙ ap (λ xs. old k ++ xs) (sym (under-append key k b rs (r ∷ [])))

pub none_put : (b : ℕ) (hs : List Held) → AddsNodes b [] hs hs
none_put b hs = record { names_ = puts-none name_key b (held_under by.Name hs); elements_ = puts-none element_key b (held_under by.Element hs) }

pub more_put : (b : ℕ) (rs : List Node) (i : ℕ) (r : Node) (old between new : List Held) → i < length rs → r ≡ get_or rs i r → AddsNodes b (take i rs) old between → AddsNodes b (r ∷ []) between new → AddsNodes b (take (i + 1) rs) old new
more_put b rs i r old between new l at h one = subst (λ ss. AddsNodes b ss old new) (ap (λ s. take i rs ++ (s ∷ [])) at ∙ sym (take_more rs i r l)) (record {
  names_ = puts-more name_key b (take i rs) r (held_under by.Name old) (held_under by.Name between) (held_under by.Name new) h.names_ one.names_;
  elements_ = puts-more element_key b (take i rs) r (held_under by.Element old) (held_under by.Element between) (held_under by.Element new) h.elements_ one.elements_;
})

pub all_put : (b : ℕ) (rs : List Node) (i : ℕ) (old new : List Held) → length rs ≤ i → AddsNodes b (take i rs) old new → AddsNodes b rs old new
all_put b rs i old new l h = subst (λ ss. AddsNodes b ss old new) (take_all i rs l) h

-- Body by body.

abbrev of-row : (ℕ → Node → Key) → Key → Row → List ℕ
of-row key k x = under key k (out-Node x.node.now).id (out-Node x.node.now).children.now

-- the nodes in the bodies that these rows say
pub record AreUnder (rows : List Row) (names elements : Key → List ℕ) : Type 0 where
  pub names_ : (k : Key) → names k ≡ flat_map (of-row name_key k) rows
  pub elements_ : (k : Key) → elements k ≡ flat_map (of-row element_key k) rows

abbrev pub AreHeld : List Row → List Held → Type 0
AreHeld rows hs = AreUnder rows (held_under by.Name hs) (held_under by.Element hs)

pub no_bodies : (hs : List Held) → hs ≡ [] → AreHeld [] hs
no_bodies hs none = record { names_ = λ k. ap (λ xs. held_under by.Name xs k) none; elements_ = λ k. ap (λ xs. held_under by.Element xs k) none }

row-more : (f : Row → List ℕ) (rows : List Row) (i : ℕ) (x : Row) (old new : List ℕ) → i < length rows → x ≡ get_or rows i x → old ≡ flat_map f (take i rows) → new ≡ old ++ f x → new ≡ flat_map f (take (i + 1) rows)
row-more f rows i x old new l at h put =
    put ∙ ap (λ xs. xs ++ f x) h ∙ ap (λ ys. flat_map f (take i rows) ++ ys) (sym (append-nil (f x))) ∙ sym (flat_map-append f (take i rows) (x ∷ []))
    ∙ ap (λ y. flat_map f (take i rows ++ (y ∷ []))) at ∙ ap (flat_map f) (sym (take_more rows i x l))

pub more_bodies : (rows : List Row) (i : ℕ) (x : Row) (old new : List Held) → i < length rows → x ≡ get_or rows i x → AreHeld (take i rows) old → AddsNodes (out-Node x.node.now).id (out-Node x.node.now).children.now old new → AreHeld (take (i + 1) rows) new
more_bodies rows i x old new l at h put = record {
  names_ = λ k. row-more (of-row name_key k) rows i x (held_under by.Name old k) (held_under by.Name new k) l at (h.names_ k) (put.names_ k);
  elements_ = λ k. row-more (of-row element_key k) rows i x (held_under by.Element old k) (held_under by.Element new k) l at (h.elements_ k) (put.elements_ k);
}

pub all_bodies : (rows : List Row) (i : ℕ) (hs : List Held) → length rows ≤ i → AreHeld (take i rows) hs → AreHeld rows hs
all_bodies rows i hs l h = subst (λ xs. AreHeld xs hs) (take_all i rows l) h

-- lists of the nodes have them
pub all_listed : (rows : List Row) (hs copied : List Held) (c : Contents) → copied ≡ hs → ((k : Key) → listed_under c.names k ≡ held_under by.Name copied k) → ((k : Key) → listed_under c.elements k ≡ held_under by.Element hs k)
    → AreHeld rows hs → AreUnder rows (listed_under c.names) (listed_under c.elements)
all_listed rows hs copied c same names elements h = record { names_ = λ k. names k ∙ ap (λ xs. held_under by.Name xs k) same ∙ h.names_ k; elements_ = λ k. elements k ∙ h.elements_ k }

-- a node more
pub one_put : (b : ℕ) (r : Node) (x : Held) (old new : List Held) → new ≡ old ++ (x ∷ []) → x.body ≡ b → x.node.now ≡ r → AddsNodes b (r ∷ []) old new
one_put b r x old new put body node = record {
  names_ = λ k. ap (λ xs. held_under by.Name xs k) put ∙ one-added by.Name old x k ∙ (λ i. held_under by.Name old k ++ cond (same_key (name_key (body i) (node i)) k) (id_of (node i) ∷ []) []) ∙ one name_key (held_under by.Name old k) k;
  elements_ = λ k. ap (λ xs. held_under by.Element xs k) put ∙ one-added by.Element old x k ∙ (λ i. held_under by.Element old k ++ cond (same_key (element_key (body i) (node i)) k) (id_of (node i) ∷ []) []) ∙ one element_key (held_under by.Element old k) k;
}
  where
    one : (key : ℕ → Node → Key) (ks : List ℕ) (k : Key) → ks ++ cond (same_key (key b r) k) (id_of r ∷ []) [] ≡ ks ++ under key k b (r ∷ [])
    one key ks k = ap (λ js. ks ++ js) (go (same_key (key b r) k))
      where
        go : (c : Bool) → cond c (id_of r ∷ []) [] ≡ map id_of (cond c (r ∷ []) [])
        go true = refl
        go false = refl

-- Only the row of a body says what is in it.

module _ (key : ℕ → Node → Key) (of-body : (b : ℕ) (r : Node) → (key b r).body ≡ b) (k : Key) where
  elsewhere : (b : ℕ) (rs : List Node) → (b == k.body) ≡ false → under key k b rs ≡ []
  elsewhere b [] e = refl
  elsewhere b (r ∷ rs) e = go (same_key (key b r) k) other (elsewhere b rs e)
    where
      other : same_key (key b r) k ≡ false
      other = ap (λ c. c && bytes_eq (key b r).name k.name && bytes_eq (key b r).index k.index) (ap (λ x. x == k.body) (of-body b r) ∙ e)

      go : (c : Bool) → c ≡ false → under key k b rs ≡ [] → map id_of (cond c (r ∷ filter (λ s. same_key (key b s) k) rs) (filter (λ s. same_key (key b s) k) rs)) ≡ []
      go true q h = cc q
      go false q h = h

  apart : (b at : ℕ) → b ≡ at → (at ≡ k.body → ⊥) → (b == k.body) ≡ false
  apart b at e d = subst (λ x. (x == k.body) ≡ false) (sym e) (by (at == k.body) refl)
    where
      by : (c : Bool) → (at == k.body) ≡ c → (at == k.body) ≡ false
      by false q = q
      by true q = absurd (d (same q))
        where
          same : (at == k.body) ≡ true → at ≡ k.body
          same p = grind (arith, nat_tests)

  none-later : (e : Elab) (all : List Lineage) (at : ℕ) (xs : List Row) (ls : List Lineage) → AreRowsFrom e all at xs ls → k.body < at → flat_map (of-row key k) xs ≡ []
  none-later e all at [] ls h l = refl
  none-later e all at (x ∷ xs) [] h l = absurd h
  none-later e all at (x ∷ xs) (m ∷ ls) h l =
      let here = elsewhere (out-Node x.node.now).id (out-Node x.node.now).children.now (apart (out-Node x.node.now).id at h.0.number (λ q. omega (arith, q, l))) in
      let later = none-later e all (suc at) xs ls h.1 (omega (arith, l)) in
      (λ i. here i ++ later i)

  only-row : (e : Elab) (all : List Lineage) (at : ℕ) (xs : List Row) (ls : List Lineage) (j : ℕ) (x : Row) → AreRowsFrom e all at xs ls → slice_get xs j ≡ Some x → at + j ≡ k.body → flat_map (of-row key k) xs ≡ of-row key k x
  only-row e all at [] ls j x h here same = cc here
  only-row e all at (y ∷ ys) [] j x h here same = absurd h
  only-row e all at (y ∷ ys) (m ∷ ls) zero x h here same =
      let one : y ≡ x = cc here in
      let later = none-later e all (suc at) ys ls h.1 (omega (arith, same)) in
      (λ i. of-row key k (one i) ++ later i) ∙ append-nil (of-row key k x)
  only-row e all at (y ∷ ys) (m ∷ ls) (suc j) x h here same =
      let first = elsewhere (out-Node y.node.now).id (out-Node y.node.now).children.now (apart (out-Node y.node.now).id at h.0.number (λ q. omega (arith, q, same))) in
      let rest = only-row e all (suc at) ys ls j x h.1 here (omega (arith, same)) in
      (λ i. first i ++ rest i)

-- The nodes of a body that pass a test.
pub inside-passing : (all : List Lineage) (above : List Instance) (beside rs : List Node) (ns : List Instance) (p : Node → Bool) (q : Instance → Bool) → ((r : Node) (n : Instance) → Says beside r n → p r ≡ q n) → AreInside all above beside rs ns
    → AreAt all (map id_of (filter p rs)) (filter q ns)
inside-passing all above beside [] [] p q same h = tt
inside-passing all above beside (r ∷ rs) (n ∷ ns) p q same h = go (p r) (q n) (same r n h.0.says) (ap (option_map (λ (l : Lineage). l.node)) h.0.here) (inside-passing all above beside rs ns p q same h.1)
  where
    go : (b c : Bool) → b ≡ c → IsAt all (id_of r) n → AreAt all (map id_of (filter p rs)) (filter q ns) → AreAt all (map id_of (cond b (r ∷ filter p rs) (filter p rs))) (cond c (n ∷ filter q ns) (filter q ns))
    go true true e at rest = (at, rest)
    go false false e at rest = rest
    go true false e at rest = cc e
    go false true e at rest = cc e
inside-passing all above beside [] (n ∷ ns) p q same h = absurd h
inside-passing all above beside (r ∷ rs) [] p q same h = absurd h

pub named-same : (k : ℕ) (name : List ℕ) (beside : List Node) (r : Node) (n : Instance) → Says beside r n → same_key (name_key k r) (record { body = k; name = name; index = [] }) ≡ is_named name n
named-same k name beside r n says =
    ap (λ c. c && bytes_eq (out-Node r).name.now name && true) (itself k) ∙ and-true (bytes_eq (out-Node r).name.now name) ∙ bytes-turn (out-Node r).name.now name ∙ ap (bytes_eq name) says.name

pub element-same : (k : ℕ) (name index : List ℕ) (beside : List Node) (r : Node) (n : Instance) → Says beside r n → same_key (element_key k r) (record { body = k; name = name; index = index }) ≡ is_element name index n
element-same k name index beside r n says =
    ap (λ c. c && bytes_eq (out-Node r).name.now name && bytes_eq (out-Node r).index.now index) (itself k)
    ∙ (λ i. (bytes-turn (out-Node r).name.now name ∙ ap (bytes_eq name) says.name) i && (bytes-turn (out-Node r).index.now index ∙ ap (bytes_eq index) says.index) i)

module _ (e : Elab) (rows : List Row) (c : Contents) (are : AreRows e rows) (h : AreUnder rows (listed_under c.names) (listed_under c.elements)) where
  found : (key : ℕ → Node → Key) → ((b : ℕ) (r : Node) → (key b r).body ≡ b) → (q : Instance → Bool) (k : Key) → ((beside : List Node) (r : Node) (n : Instance) → Says beside r n → same_key (key k.body r) k ≡ q n)
      → (n : Instance) → IsAt (lineages_of e) k.body n → AreAt (lineages_of e) (flat_map (of-row key k) rows) (filter q (children n))
  found key of-body q k same n at = by (slice_get rows k.body) refl
    where
      by : (o : Option Row) → slice_get rows k.body ≡ o → AreAt (lineages_of e) (flat_map (of-row key k) rows) (filter q (children n))
      by None here = absurd (no_row e rows k.body n are here at)
      by (Some x) here =
          let r = row_at e rows k.body x n are here at in
          let only = only-row key of-body k e (lineages_of e) 0 rows (lineages_of e) k.body x are here (omega arith) in
          let number : (out-Node x.node.now).id ≡ k.body = r.row.number in
          let inside = inside-passing (lineages_of e) _ _ (out-Node x.node.now).children.now (children r.l.node) (λ s. same_key (key k.body s) k) q (λ s m says. same _ s m says) r.row.inside in
          let there = subst (λ m. AreAt (lineages_of e) (under key k k.body (out-Node x.node.now).children.now) (filter q (children m))) r.is inside in
          subst (λ ks. AreAt (lineages_of e) ks (filter q (children n))) (ap (λ b. under key k b (out-Node x.node.now).children.now) (sym number) ∙ sym only) there

  pub are_contents : AreContents e c
  are_contents = record {
    named = λ k n name at. subst (λ ks. AreAt (lineages_of e) ks (filter (is_named name) (children n))) (sym (h.names_ (record { body = k; name = name; index = [] })))
        (found name_key (λ b r. refl) (is_named name) (record { body = k; name = name; index = [] }) (λ beside r m says. named-same k name beside r m says) n at);
    indexed = λ k n name index at. subst (λ ks. AreAt (lineages_of e) ks (filter (is_element name index) (children n))) (sym (h.elements_ (record { body = k; name = name; index = index })))
        (found element_key (λ b r. refl) (is_element name index) (record { body = k; name = name; index = index }) (λ beside r m says. element-same k name index beside r m says) n at);
  }
