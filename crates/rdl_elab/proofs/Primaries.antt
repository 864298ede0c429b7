-- The primary of an alias is a node before it, where each use of the body gives its nodes.
use Rattle.std.proofs.Common.{◌≡◌, ◌∙◌, ◌⊎◌, inl, inr, ℕ, Bool, true, false, not, ◌&&◌, cond, bytes_eq, List, [], ◌∷◌, ◌++◌, map, flat_map, find, Option, None, Some, option_to_list, option_map, option_and_then, is_none, true≢false, Ok, Err, refl, sym, ap, subst, append_assoc, append-nil}
use Rattle.std.specs.List.{AllByRecursion, list_any}
use Rattle.std.specs.Option.{option_or}
use Rattle.std.proofs.lemmas.Bool.{and_parts}
use Rattle.std.proofs.lemmas.Grind.{flat_map-append}
use Rattle.std.proofs.lemmas.List.Folds.{find-append}
use Rattle.plain_lemmas.proofs.Bools.{true-of_not as not_false}
use Rattle.plain_lemmas.proofs.Lists.{cons-head as same-head, cons-tail as same-tail, nil-cons as not-empty}
use Rattle.rdl_base.specs.declared.rule.Rule.TheVariants as rules
use Rattle.rdl_tree.specs.declared.expr.Expr.{Expr}
use Rattle.rdl_tree.specs.declared.expr.Name.{Name}
use Rattle.rdl_tree.specs.declared.item.Kind.{Kind}
use Rattle.rdl_tree.specs.declared.item.Kind.TheVariants as kind
use Rattle.rdl_tree.specs.declared.node.Node.{Node, out-Node}
use Rattle.rdl_values.specs.Bodies.{Body, Closure, same_name, standing_from, around}
use Rattle.rdl_values.specs.Elaborated.{AreTreesOf, IsTreeOf, more, node, none, number_named}
use Rattle.rdl_values.specs.Faults.{at_, when, failures}
use Rattle.rdl_values.specs.Instances.{Instance, elements, given_by}
use Rattle.rdl_values.specs.NoNode.{no_node, name_twice, of_type, is_reg, is_single_reg, is_primary, has_primary, bad_alias}
use Rattle.rdl_values.specs.Parameters.{Bound, bound_of}
use Rattle.rdl_values.specs.Parts.{dims_of, is_unit, is_empty}
use Rattle.rdl_values.specs.Primary.{IsPrimaryNode, Somewhere}
use Rattle.rdl_values.specs.Uses.{Use, Seen, seen, uses, values, parent_of}
use Rattle.rdl_values.specs.Values.{Outcome}
use Rattle.rdl_values.proofs.Given.{none_in, when_none, of_visible, all_empty, judged_of}
use Rattle.rdl_elab.specs.Grown.{IsNamedIn}

-- Elements that are somewhere.

pub somewhere-left : {X : Type 0} (P : X → Type 0) (xs ys : List X) → Somewhere P xs → Somewhere P (xs ++ ys)
somewhere-left P (x ∷ xs) ys (inl h) = inl h
somewhere-left P (x ∷ xs) ys (inr h) = inr (somewhere-left P xs ys h)
somewhere-left P [] ys h = absurd h

pub somewhere-right : {X : Type 0} (P : X → Type 0) (xs ys : List X) → Somewhere P ys → Somewhere P (xs ++ ys)
somewhere-right P [] ys h = h
somewhere-right P (x ∷ xs) ys h = inr (somewhere-right P xs ys h)

pub somewhere-flat_map : {X Y : Type 0} (P : Y → Type 0) (f : X → List Y) (xs : List X) → Somewhere (λ x. Somewhere P (f x)) xs → Somewhere P (flat_map f xs)
somewhere-flat_map P f (x ∷ xs) (inl h) = somewhere-left P (f x) (flat_map f xs) h
somewhere-flat_map P f (x ∷ xs) (inr h) = somewhere-right P (f x) (flat_map f xs) (somewhere-flat_map P f xs h)
somewhere-flat_map P f [] h = absurd h

somewhere-with : {X : Type 0} (P Q R : X → Type 0) (xs : List X) → ((x : X) → P x → Q x → R x) → Somewhere P xs → AllByRecursion Q xs → Somewhere R xs
somewhere-with P Q R (x ∷ xs) f (inl h) g = inl (f x h g.0)
somewhere-with P Q R (x ∷ xs) f (inr h) g = inr (somewhere-with P Q R xs f h g.1)
somewhere-with P Q R [] f h g = h

somewhere-map : {X Y : Type 0} (P : X → Type 0) (Q : Y → Type 0) (f : X → Y) (xs : List X) → ((x : X) → P x → Q (f x)) → Somewhere P xs → Somewhere Q (map f xs)
somewhere-map P Q f (x ∷ xs) g (inl h) = inl (g x h)
somewhere-map P Q f (x ∷ xs) g (inr h) = inr (somewhere-map P Q f xs g h)
somewhere-map P Q f [] g h = h

found : (f : Use → Bool) (us : List Use) (v : Use) → find f us ≡ Some v → Somewhere (λ u. u ≡ v) us
found f [] v e = cc
found f (u ∷ us) v e = go (f u) refl (found f us v)
  where
    or_else : Option Use → Use
    or_else None = v
    or_else (Some w) = w

    go : (b : Bool) → f u ≡ b → (find f us ≡ Some v → Somewhere (λ w. w ≡ v) us) → (u ≡ v) ⊎ Somewhere (λ w. w ≡ v) us
    go true q k = let here : Some u ≡ Some v = sym (rw q refl) ∙ e in inl (ap or_else here)
    go false q k = let later : find f us ≡ Some v = sym (rw q refl) ∙ e in inr (k later)

passing : (f : Use → Bool) (us : List Use) (v : Use) → find f us ≡ Some v → f v ≡ true
passing f [] v e = cc
passing f (u ∷ us) v e = go (f u) refl (passing f us v)
  where
    or_else : Option Use → Use
    or_else None = v
    or_else (Some w) = w

    go : (b : Bool) → f u ≡ b → (find f us ≡ Some v → f v ≡ true) → f v ≡ true
    go true q k = let here : Some u ≡ Some v = sym (rw q refl) ∙ e in subst (λ w. f w ≡ true) (ap or_else here) q
    go false q k = let later : find f us ≡ Some v = sym (rw q refl) ∙ e in k later

-- A single register's use gives one node.

abbrev Found : Use → List Instance → Type 0
Found u ns = Somewhere (IsPrimaryNode u) ns

no_dims : (es : List Expr) → is_empty es ≡ true → es ≡ []
no_dims [] e = refl
no_dims (x ∷ es) e = cc

a_reg : (k : Kind) → is_reg k ≡ true → k ≡ kind.Reg
a_reg kind.Reg e = refl
a_reg _ e = cc

no_alias : (o : Option Name) → is_none o ≡ true → o ≡ None
no_alias None e = refl
no_alias (Some n) e = cc

any_one : (f : Closure → Bool) (c : Closure) → list_any f (c ∷ []) ≡ true → f c ≡ true
any_one f c e = go (f c) refl
  where
    go : (b : Bool) → f c ≡ b → f c ≡ true
    go true h = h
    go false h = let no : list_any f (c ∷ []) ≡ false = rw h refl in cc

closed : (u : Use) → is_single_reg u ≡ true → (is_empty u.dims ≡ true) × (list_any (λ c. is_reg c.def.kind) (option_to_list u.closure) ≡ true)
closed u e = let p = and_parts (is_empty u.dims && is_none u.form.range) (list_any (λ c. is_reg c.def.kind) (option_to_list u.closure)) e in ((and_parts (is_empty u.dims) (is_none u.form.range) p.0).0, p.1)

no_brackets : (u : Use) (k : Kind) → u.dims ≡ [] → dims_of u k ≡ Ok []
no_brackets u k e = go (is_unit k)
  where
    go : (b : Bool) → cond b (Ok []) (values (around u.scope) u.dims) ≡ Ok []
    go true = refl
    go false = ap (values (around u.scope)) e

given_is : (s : Seen) (c : Closure) → is_empty (no_node s) ≡ true → s.use_.closure ≡ Some c → given_by s ≡ elements s c (bound_of s.use_ c) (dims_of s.use_ c.def.kind) ++ []
given_is s c clean e =
    ap (λ b. cond b (flat_map (λ c. elements s c (bound_of s.use_ c) (dims_of s.use_ c.def.kind)) (option_to_list s.use_.closure)) []) clean
    ∙ ap (λ o. flat_map (λ c. elements s c (bound_of s.use_ c) (dims_of s.use_ c.def.kind)) (option_to_list o)) e

one_element : (s : Seen) (c : Closure) (o : Outcome Bound) → is_empty (failures o) ≡ true → c.def.kind ≡ kind.Reg → s.use_.alias ≡ None → Found s.use_ (elements s c o (Ok []))
one_element s c (Ok b) h k a = inl (record { use_is = refl; is_register = k; no_alias = a })
one_element s c (Err f) h k a = cc

one_node : (s : Seen) → is_empty (no_node s) ≡ true → is_primary s.use_ ≡ true → Found s.use_ (given_by s)
one_node s clean p = go s.use_.closure refl
  where
    parts : (is_none s.use_.alias ≡ true) × (is_single_reg s.use_ ≡ true)
    parts = and_parts (is_none s.use_.alias) (is_single_reg s.use_) p

    bare : s.use_.dims ≡ []
    bare = no_dims s.use_.dims (closed s.use_ parts.1).0

    single : list_any (λ c. is_reg c.def.kind) (option_to_list s.use_.closure) ≡ true
    single = (closed s.use_ parts.1).1

    go : (o : Option Closure) → s.use_.closure ≡ o → Found s.use_ (given_by s)
    go None e = absurd (true≢false (sym (subst (λ o. list_any (λ c. is_reg c.def.kind) (option_to_list o) ≡ true) e single)))
    go (Some c) e =
        let reg = a_reg c.def.kind (any_one (λ c. is_reg c.def.kind) c (subst (λ o. list_any (λ c. is_reg c.def.kind) (option_to_list o) ≡ true) e single)) in
        let judged = (all_empty [] (judged_of s c) (of_visible s c e clean)).1 in
        let element = one_element s c (bound_of s.use_ c) judged.1.1.0 reg (no_alias s.use_.alias parts.0) in
        let there = subst (λ d. Found s.use_ (elements s c (bound_of s.use_ c) d)) (sym (no_brackets s.use_ c.def.kind bare)) element in
        subst (Found s.use_) (sym (given_is s c clean e)) (somewhere-left (IsPrimaryNode s.use_) (elements s c (bound_of s.use_ c) (dims_of s.use_ c.def.kind)) [] there)

-- The primary of an alias.

no_type : (s : Seen) → s.use_.closure ≡ None → is_empty (no_node s) ≡ true → ⊥
no_type s e h =
    let p = none_in (name_twice s) (of_type s s.use_.closure) h in
    let q : is_empty (of_type s None) ≡ true = subst (λ o. is_empty (of_type s o) ≡ true) e p.1 in
    cc

named_primary : (s : Seen) → is_empty (no_node s) ≡ true → (n : Name) → s.use_.alias ≡ Some n → has_primary s.earlier n ≡ true
named_primary s clean n a = go s.use_.closure refl
  where
    judged_alias : (o : Option Name) → s.use_.alias ≡ o → is_empty (bad_alias s.earlier s.use_) ≡ true → is_empty (flat_map (λ n. when (not (has_primary s.earlier n && is_single_reg s.use_)) (at_ rules.E13 n.place)) (option_to_list o)) ≡ true
    judged_alias o e h = subst (λ o. is_empty (flat_map (λ n. when (not (has_primary s.earlier n && is_single_reg s.use_)) (at_ rules.E13 n.place)) (option_to_list o)) ≡ true) e h

    go : (o : Option Closure) → s.use_.closure ≡ o → has_primary s.earlier n ≡ true
    go None e = absurd (no_type s e clean)
    go (Some c) e =
        let judged = (all_empty [] (judged_of s c) (of_visible s c e clean)).1 in
        let one = (none_in (when (not (has_primary s.earlier n && is_single_reg s.use_)) (at_ rules.E13 n.place)) [] (judged_alias (Some n) a judged.1.1.1.1.1.1.1.0)).0 in
        (and_parts (has_primary s.earlier n) (is_single_reg s.use_) (not_false _ (when_none (not (has_primary s.earlier n && is_single_reg s.use_)) (at_ rules.E13 n.place) one))).0

-- Uses one behind the other.

abbrev seen_as : List Body → Body → List Use × Use → Seen
seen_as above b p = record { parent = parent_of b; above = above; earlier = p.0; use_ = p.1 }

earlier_from : (above : List Body) (b : Body) (before us : List Use) (xs : List Seen) (s : Seen) (ys : List Seen) → map (seen_as above b) (standing_from before us) ≡ xs ++ (s ∷ ys) → s.earlier ≡ before ++ map (λ x. x.use_) xs
earlier_from above b before [] [] s ys e = absurd (not-empty s ys e)
earlier_from above b before [] (x ∷ xs) s ys e = absurd (not-empty x (xs ++ (s ∷ ys)) e)
earlier_from above b before (u ∷ us) [] s ys e = sym (ap (λ x. x.earlier) (same-head (seen_as above b (before, u)) s (map (seen_as above b) (standing_from (before ++ (u ∷ [])) us)) ys e)) ∙ sym (append-nil before)
earlier_from above b before (u ∷ us) (x ∷ xs) s ys e =
    let rec = earlier_from above b (before ++ (u ∷ [])) us xs s ys (same-tail (seen_as above b (before, u)) x (map (seen_as above b) (standing_from (before ++ (u ∷ [])) us)) (xs ++ (s ∷ ys)) e) in
    let own = ap (λ x. x.use_) (same-head (seen_as above b (before, u)) x (map (seen_as above b) (standing_from (before ++ (u ∷ [])) us)) (xs ++ (s ∷ ys)) e) in
    rec ∙ append_assoc before (u ∷ []) (map (λ x. x.use_) xs) ∙ ap (λ v. before ++ (v ∷ map (λ x. x.use_) xs)) own

earlier_is : (above : List Body) (b : Body) (xs : List Seen) (s : Seen) (ys : List Seen) → seen above b ≡ xs ++ (s ∷ ys) → s.earlier ≡ map (λ x. x.use_) xs
earlier_is above b xs s ys e = earlier_from above b [] (uses b) xs s ys e

-- A node of the primary's name.

tree_name : {b : List Node} {at after : ℕ} {r : Node} {n : Instance} → IsTreeOf b at r n after → (out-Node r).name.now ≡ n.use_.name.text.now
tree_name (node i says ts) = says.name

abbrev IsCalled : List ℕ → Instance → Type 0
IsCalled t m = bytes_eq m.use_.name.text.now t ≡ true

abbrev IsFound : List ℕ → List Node → Type 0
IsFound t rs = (r : Node) × (find (λ x. bytes_eq (out-Node x).name.now t) rs ≡ Some r)

found_node : (t : List ℕ) {b rs : List Node} {ns : List Instance} {at after : ℕ} → AreTreesOf b at rs ns after → Somewhere (IsCalled t) ns → IsFound t rs
found_node t none f = absurd f
found_node t (more {r = r} {n = n} {rs = rs} {ns = ns} tr ts) f = go (bytes_eq (out-Node r).name.now t) refl f (found_node t ts)
  where
    go : (b : Bool) → bytes_eq (out-Node r).name.now t ≡ b → IsCalled t n ⊎ Somewhere (IsCalled t) ns → (Somewhere (IsCalled t) ns → IsFound t rs) → IsFound t (r ∷ rs)
    go true e f ih = (r, rw e refl)
    go false e (inl h) ih = absurd (true≢false (sym h ∙ sym (ap (λ x. bytes_eq x t) (tree_name tr)) ∙ e))
    go false e (inr h) ih = let k = ih h in (k.0, rw e k.1)

unmapped : (v : Use) (ds : List Seen) → Somewhere (λ u. u ≡ v) (map (λ d. d.use_) ds) → Somewhere (λ d. d.use_ ≡ v) ds
unmapped v [] h = absurd h
unmapped v (d ∷ ds) (inl h) = inl h
unmapped v (d ∷ ds) (inr h) = inr (unmapped v ds h)

somewhere-imp : {X : Type 0} (P Q : X → Type 0) (xs : List X) → ((x : X) → P x → Q x) → Somewhere P xs → Somewhere Q xs
somewhere-imp P Q [] f h = absurd h
somewhere-imp P Q (x ∷ xs) f (inl h) = inl (f x h)
somewhere-imp P Q (x ∷ xs) f (inr h) = inr (somewhere-imp P Q xs f h)

only : (v : Use) → list_any is_primary (v ∷ []) ≡ true → is_primary v ≡ true
only v e = by (is_primary v) refl
  where
    by : (t : Bool) → is_primary v ≡ t → is_primary v ≡ true
    by true h = h
    by false h = let no : list_any is_primary (v ∷ []) ≡ false = rw h refl in cc

-- one of these uses gives a node of the name
primary_stands : (ds : List Seen) (n : Name) → AllByRecursion (λ d. no_node d ≡ []) ds → has_primary (map (λ d. d.use_) ds) n ≡ true → Somewhere (IsCalled n.text.now) (flat_map given_by ds)
primary_stands ds n clean named = go (find (λ u. same_name u.name n) (map (λ d. d.use_) ds)) refl named
  where
    go : (o : Option Use) → find (λ u. same_name u.name n) (map (λ d. d.use_) ds) ≡ o → list_any is_primary (option_to_list o) ≡ true → Somewhere (IsCalled n.text.now) (flat_map given_by ds)
    go None e h = cc
    go (Some v) e h =
        let called : same_name v.name n ≡ true = passing (λ u. same_name u.name n) (map (λ d. d.use_) ds) v e in
        let there = unmapped v ds (found (λ u. same_name u.name n) (map (λ d. d.use_) ds) v e) in
        somewhere-flat_map (IsCalled n.text.now) given_by ds
        (somewhere-with (λ d. d.use_ ≡ v) (λ d. no_node d ≡ []) (λ d. Somewhere (IsCalled n.text.now) (given_by d)) ds
        (λ d q c. somewhere-imp (IsPrimaryNode d.use_) (IsCalled n.text.now) (given_by d) (λ m p. ap (λ u. bytes_eq u.name.text.now n.text.now) (p.use_is ∙ q) ∙ called) (one_node d (ap is_empty c) (ap is_primary q ∙ only v h)))
        there clean)

pub named_in : (above : List Body) (b : Body) (done failed : List Seen) (s : Seen) (rest : List Seen) {beside rs : List Node} {at after : ℕ} → seen above b ≡ (done ++ failed) ++ (s ∷ rest) → flat_map given_by failed ≡ []
    → AllByRecursion (λ d. no_node d ≡ []) (done ++ failed) → no_node s ≡ [] → AreTreesOf beside at rs (flat_map given_by done) after → IsNamedIn rs s.use_.alias
named_in above b done failed s rest {rs = rs} split nothing clean own trees = go s.use_.alias refl
  where
    nodes : flat_map given_by (done ++ failed) ≡ flat_map given_by done
    nodes = flat_map-append given_by done failed ∙ ap (λ ns. flat_map given_by done ++ ns) nothing ∙ append-nil (flat_map given_by done)

    go : (o : Option Name) → s.use_.alias ≡ o → IsNamedIn rs o
    go None e = tt
    go (Some n) e =
        let primary = subst (λ us. has_primary us n ≡ true) (earlier_is above b (done ++ failed) s rest split) (named_primary s (ap is_empty own) n e) in
        found_node n.text.now trees (subst (Somewhere (IsCalled n.text.now)) nodes (primary_stands (done ++ failed) n clean primary))

-- its number stays where nodes are put behind these
pub number_stays : (rs later : List Node) (a : Option Name) → IsNamedIn rs a → option_and_then (number_named rs) a ≡ option_and_then (number_named (rs ++ later)) a
number_stays rs later None h = refl
number_stays rs later (Some n) h =
    let p = λ (x : Node). bytes_eq (out-Node x).name.now n.text.now in
    ap (option_map (λ r. (out-Node r).id)) (h.1 ∙ sym (find-append p rs later ∙ ap (λ o. option_or o (find p later)) h.1))
