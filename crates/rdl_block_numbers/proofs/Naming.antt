-- Fields under their registers and names.
use Rattle.std.proofs.Common.{◌≡◌, ◌∙◌, ◌⊎◌, inl, inr, ℕ, zero, suc, ◌+◌, ◌<◌, ◌≤◌, Bool, true, false, ◌&&◌, ◌==◌, cond, bytes_eq, List, [], ◌∷◌, ◌++◌, filter, length, take, Option, None, Some, slice_get, slice_index, refl, sym, ap, arith}
use Rattle.std.specs.Option.{option_or}
use Rattle.plain_lemmas.proofs.Numbers.{eq-itself as number-itself, not-number}
use Rattle.plain_lemmas.proofs.Options.{option_or-none as or-none}
use Rattle.rdl_tree.specs.declared.item.Kind.{Kind}
use Rattle.rdl_tree.specs.declared.item.Kind.TheVariants as kind
use Rattle.rdl_tree.specs.declared.node.Elab.{Elab}
use Rattle.rdl_tree.specs.declared.node.Node.{Node, out-Node}
use Rattle.rdl_tree.specs.Kinds.{same_kind}
use Rattle.rdl_values.specs.Elaborated.{nodes_of}
use Rattle.rdl_values.specs.Elaboration.{IsClean}
use Rattle.rdl_values.specs.Instances.{Instance, children, kind_of}
use Rattle.rdl_values.specs.Lineages.{lineages_of}
use Rattle.rdl_nodes.specs.Rows.{AreInside, IsInside}
use Rattle.rdl_nodes.proofs.Members.{get-within}
use Rattle.rdl_layers.specs.Fields.{fields_of, is_a}
use Rattle.rdl_sizes.proofs.Facts.{count-is, node-at}
use Rattle.rdl_sizes.proofs.Turns.{as-many, inside-at}
use Rattle.rdl_fields.proofs.Lists.{filter-all, filter-next}
use Rattle.rdl_rules.specs.Numbers.{all_fields, all_signals, number_of, registers}
use Rattle.rdl_block_numbers.specs.declared.fields.Names.{Names}
use Rattle.rdl_block_numbers.specs.Named.{AreNamesTo, Key, added, first_named, named, number_under}
use Rattle.rdl_block_numbers.specs.Numbers.{AreOwn, own_number}

or-three : (a b c : Option ℕ) → option_or (option_or a b) c ≡ option_or a (option_or b c)
or-three None b c = refl
or-three (Some k) b c = refl

cond-or : (t : Bool) (a b : Option ℕ) → option_or (cond t a None) (cond t b None) ≡ cond t (option_or a b) None
cond-or true a b = refl
cond-or false a b = refl

first-join : (all : List Instance) (name : List ℕ) (xs ys : List Instance) → first_named all name (xs ++ ys) ≡ option_or (first_named all name xs) (first_named all name ys)
first-join all name [] ys = refl
first-join all name (x ∷ xs) ys = go (bytes_eq x.use_.name.text.now name) (first-join all name xs ys)
  where
    go : (b : Bool) → first_named all name (xs ++ ys) ≡ option_or (first_named all name xs) (first_named all name ys)
        → cond b (Some (number_of x all)) (first_named all name (xs ++ ys)) ≡ option_or (cond b (Some (number_of x all)) (first_named all name xs)) (first_named all name ys)
    go true h = refl
    go false h = h

pub index-of : (xs : List ℕ) (k x : ℕ) → slice_get xs k ≡ Some x → slice_index xs k ≡ x
index-of [] k x e = cc e
index-of (y ∷ ys) zero x e = cc e
index-of (y ∷ ys) (suc k) x e = index-of ys k x e

pub own-field : (ns : List Instance) (c : Instance) (k : Kind) → kind_of c ≡ k → same_kind kind.Field k ≡ true → own_number ns c ≡ number_of c (all_fields ns)
own-field ns c kind.Field e f = ap (λ k. number-by k) e
  where
    number-by : Kind → ℕ
    number-by kind.Signal = number_of c (all_signals ns)
    number-by kind.Field = number_of c (all_fields ns)
    number-by _ = number_of c (registers ns)
own-field ns c kind.Signal e f = cc f
own-field ns c kind.Reg e f = cc f
own-field ns c kind.Addrmap e f = cc f
own-field ns c kind.Regfile e f = cc f

-- what one node adds is what it is found by, where it is a field
adds-one : (e : Elab) (own : List ℕ) → AreOwn e own → (body : ℕ) (up : List Instance) (beside : List Node) (r : Node) (c : Instance) → IsInside (lineages_of e) up beside r c → (id-low : (out-Node r).id < e.count) → (k : Key)
    → added body r own k ≡ cond (body == k.body) (first_named (all_fields (nodes_of e)) k.name (cond (is_a kind.Field c) (c ∷ []) [])) None
adds-one e own are body up beside r c inside low k = (λ i. cond (same_kind kind.Field (inside.says.kind i) && (body == k.body && bytes_eq (inside.says.name i) k.name)) (Some (slice_index own (out-Node r).id)) None) ∙ go (same_kind kind.Field (kind_of c)) refl
  where
    here : slice_get (nodes_of e) (out-Node r).id ≡ Some c
    here = node-at e (out-Node r).id (record { node = c; ancestors = up }) inside.here

    value : same_kind kind.Field (kind_of c) ≡ true → slice_index own (out-Node r).id ≡ number_of c (all_fields (nodes_of e))
    value f = index-of own (out-Node r).id (own_number (nodes_of e) c) (are.each (out-Node r).id c low here) ∙ own-field (nodes_of e) c (kind_of c) refl f

    split : (s t : Bool) (v w : ℕ) → v ≡ w → cond (s && t) (Some v) None ≡ cond s (cond t (Some w) None) None
    split true true v w q = ap Some q
    split true false v w q = refl
    split false t v w q = refl

    nothing : Option ℕ
    nothing = None

    neither : (s : Bool) → nothing ≡ cond s nothing nothing
    neither true = refl
    neither false = refl

    go : (b : Bool) → same_kind kind.Field (kind_of c) ≡ b → cond (b && (body == k.body && bytes_eq c.use_.name.text.now k.name)) (Some (slice_index own (out-Node r).id)) None ≡ cond (body == k.body) (first_named (all_fields (nodes_of e)) k.name (cond b (c ∷ []) [])) None
    go true f = split (body == k.body) (bytes_eq c.use_.name.text.now k.name) (slice_index own (out-Node r).id) (number_of c (all_fields (nodes_of e))) (value f)
    go false f = neither (body == k.body)

-- of the first nodes in a body
abbrev pub named-to : List Instance → ℕ → Instance → ℕ → Key → Option ℕ
named-to ns body n i k = cond (body == k.body) (first_named (all_fields ns) k.name (filter (is_a kind.Field) (take i (children n)))) None

pub none-added : (ns : List Instance) (body : ℕ) (n : Instance) (t : Names) (k : Key) → number_under t k ≡ option_or (number_under t k) (named-to ns body n 0 k)
none-added ns body n t k = or-none (number_under t k) ∙ ap (option_or (number_under t k)) (go (body == k.body))
  where
    nothing : Option ℕ
    nothing = None

    go : (b : Bool) → nothing ≡ cond b (first_named (all_fields ns) k.name []) nothing
    go true = refl
    go false = refl

pub one-added : (e : Elab) → IsClean e → (own : List ℕ) → AreOwn e own → (body : ℕ) (up : List Instance) (n : Instance) (rs : List Node) → AreInside (lineages_of e) up rs rs (children n) → (i : ℕ) (r : Node) → slice_get rs i ≡ Some r → (first old new : Names) → (k : Key)
    → number_under old k ≡ option_or (number_under first k) (named-to (nodes_of e) body n i k) → number_under new k ≡ option_or (number_under old k) (added body r own k) → number_under new k ≡ option_or (number_under first k) (named-to (nodes_of e) body n (i + 1) k)
one-added e clean own are body up n rs inside i r at first old new k before adds =
    let c = inside-at (lineages_of e) up rs rs (children n) inside i r at in
    let low' = get-within (lineages_of e) (out-Node r).id (record { node = c.0; ancestors = up }) c.2.here in
    let low : (out-Node r).id < e.count = (let m = count-is e clean in omega (arith, low', m)) in
    let all = all_fields (nodes_of e) in
    let one = adds-one e own are body up rs r c.0 c.2 low k in
    adds
    ∙ ((λ j. option_or (before j) (one j))
    ∙ (or-three (number_under first k) (named-to (nodes_of e) body n i k) (cond (body == k.body) (first_named all k.name (cond (is_a kind.Field c.0) (c.0 ∷ []) [])) None)
    ∙ ap (option_or (number_under first k)) (
    cond-or (body == k.body) (first_named all k.name (filter (is_a kind.Field) (take i (children n)))) (first_named all k.name (cond (is_a kind.Field c.0) (c.0 ∷ []) []))
    ∙ ap (λ o. cond (body == k.body) o None) (sym (first-join all k.name (filter (is_a kind.Field) (take i (children n))) (cond (is_a kind.Field c.0) (c.0 ∷ []) [])) ∙ ap (first_named all k.name) (sym (filter-next (is_a kind.Field) (children n) i c.0 c.1)))
    )))

pub all-added : (e : Elab) (body : ℕ) (up : List Instance) (n : Instance) (rs : List Node) → AreInside (lineages_of e) up rs rs (children n) → (i : ℕ) → length rs ≤ i → (first new : Names) → (k : Key)
    → number_under new k ≡ option_or (number_under first k) (named-to (nodes_of e) body n i k) → number_under new k ≡ option_or (number_under first k) (named (nodes_of e) body n k)
all-added e body up n rs inside i past first new k h =
    let many = as-many (lineages_of e) up rs rs (children n) inside in
    h ∙ ap (λ fs. option_or (number_under first k) (cond (body == k.body) (first_named (all_fields (nodes_of e)) k.name fs) None)) (filter-all (is_a kind.Field) (children n) i (omega (arith, many, past)))

-- Those of one node more.

pub no-names : (e : Elab) (t : Names) → ((k : Key) → number_under t k ≡ None) → AreNamesTo e 0 t
no-names e t h = record { each = λ k n l. absurd (omega (arith, l)); others = λ k l. h k }

pub one-named : (e : Elab) (at : ℕ) (n : Instance) → slice_get (nodes_of e) at ≡ Some n → (old new : Names) → AreNamesTo e at old → ((k : Key) → number_under new k ≡ option_or (number_under old k) (named (nodes_of e) at n k)) → AreNamesTo e (at + 1) new
one-named e at n here old new before adds = record {
  each = λ k m l at-k. by k m at-k (split k l);
  others = λ k l. adds k ∙ ((λ i. option_or (before.others k (omega (arith, l)) i) (cond (not-number at k.body (λ q. omega (arith, q, l)) i) (first_named (all_fields (nodes_of e)) k.name (fields_of n)) None)));
}
  where
    split : (k : Key) → k.body < at + 1 → (k.body ≡ at) ⊎ (k.body < at)
    split k l = grind (arith, l)

    by : (k : Key) (m : Instance) → slice_get (nodes_of e) k.body ≡ Some m → (k.body ≡ at) ⊎ (k.body < at) → number_under new k ≡ first_named (all_fields (nodes_of e)) k.name (fields_of m)
    by k m at-k (inl q) =
        let same' : Some n ≡ Some m = sym here ∙ (ap (slice_get (nodes_of e)) (sym q) ∙ at-k) in
        let same : n ≡ m = cc same' in
        let itself : (at == k.body) ≡ true = ap (λ b. at == b) q ∙ number-itself at in
        adds k ∙ ((λ i. option_or (before.others k (omega (arith, q)) i) (cond (itself i) (first_named (all_fields (nodes_of e)) k.name (fields_of (same i))) None)))
    by k m at-k (inr low) =
        adds k ∙ ((λ i. option_or (before.each k m low at-k i) (cond (not-number at k.body (λ q. omega (arith, q, low)) i) (first_named (all_fields (nodes_of e)) k.name (fields_of n)) None))
        ∙ sym (or-none (first_named (all_fields (nodes_of e)) k.name (fields_of m))))
