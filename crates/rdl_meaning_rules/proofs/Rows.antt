-- Nodes, from the last one on.
use Rattle.std.proofs.Common.{◌≡◌, ◌∙◌, ℕ, ◌+◌, ◌<◌, ◌≤◌, ◌⊎◌, inl, inr, Bool, true, false, not, ◌&&◌, cond, List, [], ◌∷◌, ◌++◌, length, filter, flat_map, take, get_or, set, slice_get, Some, append-nil, length-append, refl, sym, ap, arith}
use Rattle.std.proofs.lemmas.Grind.{flat_map-append}
use Rattle.std.proofs.lemmas.List.{get_or-set_other, get_or-set_same, length-set, take_more}
use Rattle.rdl_base.specs.declared.fault.Fault.{Fault}
use Rattle.rb_base.specs.declared.place.Place.{Place}
use Rattle.rdl_base.specs.declared.rule.Rule.TheVariants as rules
use Rattle.rdl_tree.specs.declared.item.Kind.TheVariants as kinds
use Rattle.rdl_tree.specs.declared.node.Elab.{Elab}
use Rattle.rdl_tree.specs.declared.node.Node.{Node, out-Node}
use Rattle.rdl_values.specs.Elaborated.{AreTreesOf, Says, more, node, none, top_name}
use Rattle.rdl_values.specs.Faults.{at_, when}
use Rattle.rdl_values.specs.Instances.{Instance}
use Rattle.rdl_values.specs.Lineages.{Lineage, lineages_of}
use Rattle.rdl_failures.specs.Noted.{with_all}
use Rattle.rdl_failures.proofs.Sets.{with_all-append}
use Rattle.rdl_layers.specs.Fields.{is_a, is_container}
use Rattle.rdl_nodes.specs.Rows.{AreInside}
use Rattle.rdl_rules.specs.RegisterRules.{empty_container}
use Rattle.rdl_fields.proofs.Lists.{filter-next}
use Rattle.rdl_nodes.proofs.Members.{any-default, get-read, get-within}
use Rattle.rdl_sizes.proofs.Turns.{inside-at, read-at}
use Rattle.rdl_nodes.proofs.Order.{behind, once}
use Rattle.rdl_meaning_rules.specs.Filled.{AreFilledFrom, filled_at, holds_register}

-- a node stands behind the one in whose body it is
pub later : (e : Elab) (i k : ℕ) (l : Lineage) (c : Instance) → slice_get (lineages_of e) i ≡ Some l → slice_get (lineages_of e) k ≡ Some (record { node = c; ancestors = l.node ∷ l.ancestors }) → i < k
later e i k l c at here =
    let b = behind (Some (top_name e)) e.source.now k (record { node = c; ancestors = l.node ∷ l.ancestors }) l.node l.ancestors here refl in
    let same = once (Some (top_name e)) e.source.now b.0 i l b.2 at in
    let low = b.1 in omega (arith, low, same)

same-at : (e : Elab) (i k : ℕ) (l m : Lineage) → k ≡ i → slice_get (lineages_of e) i ≡ Some l → slice_get (lineages_of e) k ≡ Some m → m ≡ l
same-at e i k l m q a b = let p : Some m ≡ Some l = sym b ∙ (ap (slice_get (lineages_of e)) q ∙ a) in cc p

-- one node more
pub filled-more : (e : Elab) (i : ℕ) (l : Lineage) (old new : List Bool) (v : Bool) → slice_get (lineages_of e) i ≡ Some l → AreFilledFrom e (i + 1) old → v ≡ holds_register l.node → new ≡ set old i v → i < length old → AreFilledFrom e i new
filled-more e i l old new v at h is put low = record { many = ap length put ∙ (length-set old i v ∙ h.many); each = each }
  where
    split : (k : ℕ) → i ≤ k → (k ≡ i) ⊎ (i + 1 ≤ k)
    split k q = grind (arith, q)

    each : (k : ℕ) (m : Lineage) → i ≤ k → slice_get (lineages_of e) k ≡ Some m → filled_at new k ≡ holds_register m.node
    each k m q here = by (split k q)
      where
        by : (k ≡ i) ⊎ (i + 1 ≤ k) → filled_at new k ≡ holds_register m.node
        by (inl s) =
            ap (λ t. filled_at t k) put ∙ (ap (filled_at (set old i v)) s ∙ (get_or-set_same old i v false low ∙ (is ∙ ap (λ (n : Lineage). holds_register n.node) (sym (same-at e i k l m s at here)))))
        by (inr b) = ap (λ t. filled_at t k) put ∙ (get_or-set_other old i k v false (λ s. absurd (omega (arith, s, b))) ∙ h.each k m b here)

-- nothing is known behind the last node
pub none-filled : (e : Elab) (t : List Bool) (from : ℕ) → length t ≡ length (lineages_of e) → length (lineages_of e) ≤ from → AreFilledFrom e from t
none-filled e t from many past = record { many = many; each = λ k l q at. absurd (let low = get-within (lineages_of e) k l at in omega (arith, low, q, past)) }

-- what is known of the nodes in a body
pub known : (e : Elab) (k : ℕ) (l : Lineage) (t : List Bool) → slice_get (lineages_of e) k ≡ Some l → AreFilledFrom e (k + 1) t → (j : ℕ) (c : Instance) → slice_get (lineages_of e) j ≡ Some (record { node = c; ancestors = l.node ∷ l.ancestors }) → filled_at t j ≡ holds_register c
known e k l t at h j c here = let low = later e k j l c at here in h.each j (record { node = c; ancestors = l.node ∷ l.ancestors }) (omega (arith, low)) here

pub inside-below : (e : Elab) (up : List Instance) (rs : List Node) (ns : List Instance) → AreInside (lineages_of e) up rs rs ns → (i : ℕ) (d : Node) → i < length rs → (out-Node (get_or rs i d)).id < length (lineages_of e)
inside-below e up rs ns h i d low =
    let m = inside-at (lineages_of e) up rs rs ns h i (get_or rs i d) (read-at rs i (get_or rs i d) low (any-default rs i d (get_or rs i d) low)) in
    get-within (lineages_of e) (out-Node (get_or rs i d)).id (record { node = m.0; ancestors = up }) m.2.here

-- One more judged.

pub one-more : {X : Type 0} (f : X → List Fault) (xs : List X) (i : ℕ) (x : X) (s t u : List Fault) → slice_get xs i ≡ Some x → t ≡ with_all (flat_map f (take i xs)) s → u ≡ with_all (f x) t → u ≡ with_all (flat_map f (take (i + 1) xs)) s
one-more f xs i x s t u at before put =
    let low = get-within xs i x at in
    let last : take (i + 1) xs ≡ take i xs ++ (x ∷ []) = take_more xs i x low ∙ ap (λ y. take i xs ++ (y ∷ [])) (get-read xs i x x at) in
    put ∙ (ap (with_all (f x)) before
    ∙ (sym (with_all-append (flat_map f (take i xs)) (f x) s)
    ∙ ap (λ fs. with_all fs s) (ap (λ fs. flat_map f (take i xs) ++ fs) (sym (append-nil (f x))) ∙ (sym (flat_map-append f (take i xs) (x ∷ [])) ∙ ap (flat_map f) (sym last)))))

-- the failures of a container are those that its mark tells
pub container-fails : (n : Instance) (b : Bool) (at : Place) → n.use_.name.place ≡ at → b ≡ (is_container n && not (holds_register n)) → when b (at_ rules.F14 at) ≡ empty_container n
unfolding holds_register
container-fails n b at p e = (λ i. when (e i) (at_ rules.F14 (sym p i)))

-- how many fields there are among one node more
pub count-next : (ns : List Instance) (i : ℕ) (n : Instance) (b : Bool) → slice_get ns i ≡ Some n → is_a kinds.Field n ≡ b → length (filter (is_a kinds.Field) (take (i + 1) ns)) ≡ length (filter (is_a kinds.Field) (take i ns)) + cond b 1 0
count-next ns i n b at e =
    ap length (filter-next (is_a kinds.Field) ns i n at) ∙ (length-append (filter (is_a kinds.Field) (take i ns)) (cond (is_a kinds.Field n) (n ∷ []) []) ∙ ap (λ k. length (filter (is_a kinds.Field) (take i ns)) + k) (ap (λ t. length (cond t (n ∷ []) [])) e ∙ one b))
  where
    one : (b : Bool) → length (cond b (n ∷ []) []) ≡ cond b 1 0
    one true = refl
    one false = refl

-- the one top
pub one-top : {b : List Node} {at after : ℕ} {r : Node} {ns : List Instance} → AreTreesOf b at (r ∷ []) ns after → (n : Instance) × (ns ≡ n ∷ []) × Says b r n
one-top (more {n = n} (node i s ts) none) = (n, refl, s)

pub at-most-one : (b : Bool) → cond b 1 0 ≤ 1
at-most-one true = omega arith
at-most-one false = omega arith
