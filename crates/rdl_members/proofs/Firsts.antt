-- The first row under a key.
use Rattle.std.proofs.Common.{◌≡◌, ◌∙◌, All, ℕ, zero, suc, ◌+◌, ◌≤◌, Bool, true, false, cond, List, [], ◌∷◌, ◌++◌, length, take, Option, None, Some, slice_get, refl, sym, ap, subst, arith}
use Rattle.std.specs.Option.{option_or}
use Rattle.std.proofs.lemmas.List.{take_more}
use Rattle.std.proofs.lemmas.List.Elements.{All-nil, All-push}
use Rattle.rdl_tree.specs.declared.node.Node.{out-Node}
use Rattle.rdl_nodes.specs.declared.table.Row.{Row}
use Rattle.rdl_nodes.proofs.Members.{get-read, get-within}
use Rattle.plain_lemmas.proofs.Lists.{append-none}
use Rattle.rdl_nodes.specs.Keyed.{Key, same_key}
use Rattle.rdl_node_lists.specs.Keys.{held_under, index_by, key_of}
use Rattle.rdl_node_lists.specs.Listed.{first_listed, listed_under}
use Rattle.rdl_node_lists.specs.declared.held.By.{By}
use Rattle.rdl_node_lists.specs.declared.held.By.TheVariants as by
use Rattle.rdl_node_lists.specs.declared.held.Held.{Held}
use Rattle.rdl_node_lists.proofs.Adding.{one-added}
use Rattle.rdl_members.specs.Listed.{AddsRow, AreFirst, IsIndexed, body_in, element_key, first_row, has_key, key_is, name_key}
use Rattle.rdl_members.specs.declared.table.Members.{Members}

abbrev pub id_of : Row → ℕ
id_of x = (out-Node x.node.now).id

first-append : (has : Row → Bool) (xs : List Row) (x : Row) → first_row has (xs ++ (x ∷ [])) ≡ option_or (first_row has xs) (cond (has x) (Some (id_of x)) None)
first-append has [] x = refl
first-append has (y ∷ ys) x = go (has y) (first-append has ys x)
  where
    go : (b : Bool) → first_row has (ys ++ (x ∷ [])) ≡ option_or (first_row has ys) (cond (has x) (Some (id_of x)) None)
        → cond b (Some (id_of y)) (first_row has (ys ++ (x ∷ []))) ≡ option_or (cond b (Some (id_of y)) (first_row has ys)) (cond (has x) (Some (id_of x)) None)
    go true h = refl
    go false h = h

pub first-some : (has : Row → Bool) (xs : List Row) (r : ℕ) → first_row has xs ≡ Some r → (i : ℕ) × (x : Row) × (slice_get xs i ≡ Some x) × (has x ≡ true) × (id_of x ≡ r)
first-some has [] r e = cc e
first-some has (x ∷ xs) r e = go (has x) refl e (λ h. first-some has xs r h)
  where
    go : (b : Bool) → has x ≡ b → cond b (Some (id_of x)) (first_row has xs) ≡ Some r → (first_row has xs ≡ Some r → (i : ℕ) × (y : Row) × (slice_get xs i ≡ Some y) × (has y ≡ true) × (id_of y ≡ r))
        → (i : ℕ) × (y : Row) × (slice_get (x ∷ xs) i ≡ Some y) × (has y ≡ true) × (id_of y ≡ r)
    go true q h rest = (0, x, refl, q, cc h)
    go false q h rest = let r = rest h in (suc r.0, r.1, r.2, r.3, r.4)

pub first-none : (has : Row → Bool) (xs : List Row) → first_row has xs ≡ None → (i : ℕ) (x : Row) → slice_get xs i ≡ Some x → has x ≡ false
first-none has [] e i x at = cc at
first-none has (y ∷ ys) e zero x at = let same : y ≡ x = cc at in ap has (sym same) ∙ go (has y) e
  where
    go : (b : Bool) → cond b (Some (id_of y)) (first_row has ys) ≡ None → b ≡ false
    go true q = cc q
    go false q = refl
first-none has (y ∷ ys) e (suc i) x at = first-none has ys (go (has y) e) i x at
  where
    go : (b : Bool) → cond b (Some (id_of y)) (first_row has ys) ≡ None → first_row has ys ≡ None
    go true q = cc q
    go false q = q

next-taken : (rows : List Row) (i : ℕ) (x : Row) → slice_get rows i ≡ Some x → take (i + 1) rows ≡ take i rows ++ (x ∷ [])
next-taken rows i x at = take_more rows i x (get-within rows i x at) ∙ ap (λ y. take i rows ++ (y ∷ [])) (get-read rows i x x at)

front-append : (ns : List ℕ) (b : Bool) (n : ℕ) → slice_get (ns ++ cond b (n ∷ []) []) 0 ≡ option_or (slice_get ns 0) (cond b (Some n) None)
front-append [] true n = refl
front-append [] false n = refl
front-append (m ∷ ns) b n = refl

-- the first nodes under each key
abbrev pub firsts_by : By → List Held → Key → Option ℕ
firsts_by b hs k = slice_get (held_under b hs k) 0

abbrev pub AreFirstOf : ℕ → List Row → List Held → ℕ → Type 0
AreFirstOf root rows hs most = AreFirst root rows (firsts_by by.Element hs) (firsts_by by.Name hs) most

-- a row more
first-also : (has : Row → Bool) (rows : List Row) (i : ℕ) (x : Row) (old new : List ℕ) → slice_get rows i ≡ Some x → slice_get old 0 ≡ first_row has (take i rows) → new ≡ old ++ cond (has x) (id_of x ∷ []) []
    → slice_get new 0 ≡ first_row has (take (i + 1) rows)
first-also has rows i x old new at before adds =
    ap (λ ns. slice_get ns 0) adds ∙ front-append old (has x) (id_of x) ∙ ap (λ o. option_or o (cond (has x) (Some (id_of x)) None)) before ∙ sym (first-append has (take i rows) x) ∙ ap (first_row has) (sym (next-taken rows i x at))

pub first-more : (root : ℕ) (rows : List Row) (i : ℕ) (x : Row) (old new : List Held) (most more : ℕ) → slice_get rows i ≡ Some x → AreFirstOf root (take i rows) old most → AddsRow root x old new → most ≤ more → IsIndexed more x
    → AreFirstOf root (take (i + 1) rows) new more
first-more root rows i x old new most more at before adds up few = record {
  elements_ = λ k. first-also (has_key element_key root k) rows i x (held_under by.Element old k) (held_under by.Element new k) at (before.elements_ k) (adds.elements_ k);
  names_ = λ k. first-also (has_key name_key root k) rows i x (held_under by.Name old k) (held_under by.Name new k) at (before.names_ k) (adds.names_ k);
  indexed = subst (All (IsIndexed more)) (sym (next-taken rows i x at)) (All-push (IsIndexed more) (take i rows) x (λ k d l. let low = before.indexed k d l in omega (arith, low, up)) few);
}

pub first-whole : (root : ℕ) (rows : List Row) (i : ℕ) (hs : List Held) (most : ℕ) → length rows ≡ i → AreFirstOf root (take i rows) hs most → AreFirstOf root rows hs most
first-whole root rows i hs most long h = subst (λ xs. AreFirstOf root xs hs most) (whole rows i long) h
  where
    whole : (xs : List Row) (i : ℕ) → length xs ≡ i → take i xs ≡ xs
    whole [] zero e = refl
    whole [] (suc i) e = absurd (omega (arith, e))
    whole (x ∷ xs) zero e = absurd (omega (arith, e))
    whole (x ∷ xs) (suc i) e = ap (λ ys. x ∷ ys) (whole xs i (omega (arith, e)))

pub none-yet : (root : ℕ) (hs : List Held) (most : ℕ) → hs ≡ [] → AreFirstOf root [] hs most
none-yet root hs most e = record { elements_ = λ k. ap (λ xs. firsts_by by.Element xs k) e; names_ = λ k. ap (λ xs. firsts_by by.Name xs k) e; indexed = All-nil (IsIndexed most) }

-- lists of the nodes have the same first ones
pub first-listed : (root : ℕ) (rows : List Row) (hs copied : List Held) (m : Members) → copied ≡ hs → ((k : Key) → listed_under m.elements k ≡ held_under by.Element hs k) → ((k : Key) → listed_under m.names k ≡ held_under by.Name copied k)
    → AreFirstOf root rows hs m.most → AreFirst root rows (first_listed m.elements) (first_listed m.names) m.most
first-listed root rows hs copied m same elements names h = record {
  elements_ = λ k. ap (λ ns. slice_get ns 0) (elements k) ∙ h.elements_ k;
  names_ = λ k. ap (λ ns. slice_get ns 0) (names k) ∙ (ap (λ xs. firsts_by by.Name xs k) same ∙ h.names_ k);
  indexed = h.indexed;
}

-- the node of a row more
pub row-added : (root : ℕ) (x : Row) (h : Held) (old new : List Held) → new ≡ old ++ (h ∷ []) → body_in root x ≡ Some h.body → h.node.now ≡ x.node.now → AddsRow root x old new
row-added root x h old new put body node = record {
  elements_ = λ k. ap (λ xs. held_under by.Element xs k) put ∙ (one-added by.Element old h k ∙ (λ t. held_under by.Element old k ++ cond (has by.Element element_key k (λ c. ap (λ r. same_key (record { body = c; name = (out-Node r).name.now; index = (out-Node r).index.now }) k) node) t) ((out-Node (node t)).id ∷ []) []));
  names_ = λ k. ap (λ xs. held_under by.Name xs k) put ∙ (one-added by.Name old h k ∙ (λ t. held_under by.Name old k ++ cond (has by.Name name_key k (λ c. ap (λ r. same_key (record { body = c; name = (out-Node r).name.now; index = [] }) k) node) t) ((out-Node (node t)).id ∷ []) []));
}
  where
    has : (b : By) (key : ℕ → Row → Key) (k : Key) → ((c : ℕ) → same_key (record { body = c; name = (out-Node h.node.now).name.now; index = index_by b h }) k ≡ same_key (key c x) k) → same_key (key_of b h) k ≡ has_key key root k x
    has b key k same = same h.body ∙ ap (key_is key k x) (sym body)

pub no-row-added : (root : ℕ) (x : Row) (hs : List Held) → body_in root x ≡ None → AddsRow root x hs hs
no-row-added root x hs none = record {
  elements_ = λ k. none-added by.Element element_key k;
  names_ = λ k. none-added by.Name name_key k;
}
  where
    none-added : (b : By) (key : ℕ → Row → Key) (k : Key) → held_under b hs k ≡ held_under b hs k ++ cond (has_key key root k x) (id_of x ∷ []) []
    none-added b key k = sym (append-none (held_under b hs k)) ∙ (λ t. held_under b hs k ++ cond (key_is key k x (sym none t)) (id_of x ∷ []) [])
