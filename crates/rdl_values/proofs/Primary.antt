-- The primary of an alias is a node, where each use of the body gives its nodes.
use Rattle.std.proofs.Common.{◌≡◌, ◌∙◌, ◌⊎◌, inl, inr, Bool, true, false, not, ◌&&◌, cond, List, [], ◌∷◌, ◌++◌, map, flat_map, find, Option, None, Some, option_to_list, is_none, true≢false, Ok, Err, refl, sym, ap, subst, append_assoc}
use Rattle.std.specs.List.{AllByRecursion, list_any}
use Rattle.std.proofs.lemmas.Bool.{and_parts}
use Rattle.rdl_base.specs.declared.rule.Rule.TheVariants as rules
use Rattle.rdl_tree.specs.declared.expr.Expr.{Expr}
use Rattle.rdl_tree.specs.declared.expr.Name.{Name}
use Rattle.rdl_tree.specs.declared.item.Kind.{Kind}
use Rattle.rdl_tree.specs.declared.item.Kind.TheVariants as kind
use Rattle.rdl_values.specs.Bodies.{Body, Closure, same_name, standing, standing_from, around}
use Rattle.rdl_values.specs.Faults.{at_, when, failures}
use Rattle.rdl_values.specs.Instances.{Instance, elements, given_by}
use Rattle.rdl_values.specs.NoNode.{no_node, name_twice, of_type, is_reg, is_single_reg, is_primary, has_primary, bad_alias}
use Rattle.rdl_values.specs.Parameters.{Bound, bound_of}
use Rattle.rdl_values.specs.Parts.{dims_of, is_unit, is_empty}
use Rattle.rdl_values.specs.Primary.{IsPrimaryNode, HasPrimary, Somewhere}
use Rattle.rdl_values.specs.Uses.{Use, Seen, seen, uses, values, parent_of}
use Rattle.rdl_values.specs.Values.{Outcome}
use Rattle.rdl_values.proofs.Given.{none_in, when_none, of_visible, all_empty, judged_of}
use Rattle.plain_lemmas.proofs.Bools.{true-of_not as not_false}

-- Elements that are somewhere.

pub somewhere-left : {X : Type 0} (P : X → Type 0) (xs ys : List X) → Somewhere P xs → Somewhere P (xs ++ ys)
somewhere-left P (x ∷ xs) ys (inl h) = inl h
somewhere-left P (x ∷ xs) ys (inr h) = inr (somewhere-left P xs ys h)
somewhere-left P [] ys h = absurd h

pub somewhere-right : {X : Type 0} (P : X → Type 0) (xs ys : List X) → Somewhere P ys → Somewhere P (xs ++ ys)
somewhere-right P [] ys h = h
somewhere-right P (x ∷ xs) ys h = inr (somewhere-right P xs ys h)

pub somewhere-flat_map : {X Y : Type 0} (P : Y → Type 0) (f : X → List Y) (xs : List X) → Somewhere (λ x. Somewhere P (f x)) xs → Somewhere P (flat_map f xs)
somewhere-flat_map P f (x ∷ xs) (inl h) = somewhere-left P (f x) (flat_map f xs) h
somewhere-flat_map P f (x ∷ xs) (inr h) = somewhere-right P (f x) (flat_map f xs) (somewhere-flat_map P f xs h)
somewhere-flat_map P f [] h = absurd h

somewhere-with : {X : Type 0} (P Q R : X → Type 0) (xs : List X) → ((x : X) → P x → Q x → R x) → Somewhere P xs → AllByRecursion Q xs → Somewhere R xs
somewhere-with P Q R (x ∷ xs) f (inl h) g = inl (f x h g.0)
somewhere-with P Q R (x ∷ xs) f (inr h) g = inr (somewhere-with P Q R xs f h g.1)
somewhere-with P Q R [] f h g = h

somewhere-map : {X Y : Type 0} (P : X → Type 0) (Q : Y → Type 0) (f : X → Y) (xs : List X) → ((x : X) → P x → Q (f x)) → Somewhere P xs → Somewhere Q (map f xs)
somewhere-map P Q f (x ∷ xs) g (inl h) = inl (g x h)
somewhere-map P Q f (x ∷ xs) g (inr h) = inr (somewhere-map P Q f xs g h)
somewhere-map P Q f [] g h = h

found : (f : Use → Bool) (us : List Use) (v : Use) → find f us ≡ Some v → Somewhere (λ u. u ≡ v) us
found f [] v e = cc
found f (u ∷ us) v e = go (f u) refl (found f us v)
  where
    or_else : Option Use → Use
    or_else None = v
    or_else (Some w) = w

    go : (b : Bool) → f u ≡ b → (find f us ≡ Some v → Somewhere (λ w. w ≡ v) us) → (u ≡ v) ⊎ Somewhere (λ w. w ≡ v) us
    go true q k = let here : Some u ≡ Some v = sym (rw q refl) ∙ e in inl (ap or_else here)
    go false q k = let later : find f us ≡ Some v = sym (rw q refl) ∙ e in inr (k later)

passing : (f : Use → Bool) (us : List Use) (v : Use) → find f us ≡ Some v → f v ≡ true
passing f [] v e = cc
passing f (u ∷ us) v e = go (f u) refl (passing f us v)
  where
    or_else : Option Use → Use
    or_else None = v
    or_else (Some w) = w

    go : (b : Bool) → f u ≡ b → (find f us ≡ Some v → f v ≡ true) → f v ≡ true
    go true q k = let here : Some u ≡ Some v = sym (rw q refl) ∙ e in subst (λ w. f w ≡ true) (ap or_else here) q
    go false q k = let later : find f us ≡ Some v = sym (rw q refl) ∙ e in k later

in_standing : (v : Use) (before us : List Use) → Somewhere (λ u. u ≡ v) us → Somewhere (λ p. p.1 ≡ v) (standing_from before us)
in_standing v before (u ∷ us) (inl h) = inl h
in_standing v before (u ∷ us) (inr h) = inr (in_standing v (before ++ (u ∷ [])) us h)
in_standing v before [] h = h

-- A single register's use gives one node.

abbrev Found : Use → List Instance → Type 0
Found u ns = Somewhere (IsPrimaryNode u) ns

no_dims : (es : List Expr) → is_empty es ≡ true → es ≡ []
no_dims [] e = refl
no_dims (x ∷ es) e = cc

a_reg : (k : Kind) → is_reg k ≡ true → k ≡ kind.Reg
a_reg kind.Reg e = refl
a_reg _ e = cc

no_alias : (o : Option Name) → is_none o ≡ true → o ≡ None
no_alias None e = refl
no_alias (Some n) e = cc

any_one : (f : Closure → Bool) (c : Closure) → list_any f (c ∷ []) ≡ true → f c ≡ true
any_one f c e = go (f c) refl
  where
    go : (b : Bool) → f c ≡ b → f c ≡ true
    go true h = h
    go false h = let no : list_any f (c ∷ []) ≡ false = rw h refl in cc

closed : (u : Use) → is_single_reg u ≡ true → (is_empty u.dims ≡ true) × (list_any (λ c. is_reg c.def.kind) (option_to_list u.closure) ≡ true)
closed u e = let p = and_parts (is_empty u.dims && is_none u.form.range) (list_any (λ c. is_reg c.def.kind) (option_to_list u.closure)) e in ((and_parts (is_empty u.dims) (is_none u.form.range) p.0).0, p.1)

no_brackets : (u : Use) (k : Kind) → u.dims ≡ [] → dims_of u k ≡ Ok []
no_brackets u k e = go (is_unit k)
  where
    go : (b : Bool) → cond b (Ok []) (values (around u.scope) u.dims) ≡ Ok []
    go true = refl
    go false = ap (values (around u.scope)) e

given_is : (s : Seen) (c : Closure) → is_empty (no_node s) ≡ true → s.use_.closure ≡ Some c → given_by s ≡ elements s c (bound_of s.use_ c) (dims_of s.use_ c.def.kind) ++ []
given_is s c clean e =
    ap (λ b. cond b (flat_map (λ c. elements s c (bound_of s.use_ c) (dims_of s.use_ c.def.kind)) (option_to_list s.use_.closure)) []) clean
    ∙ ap (λ o. flat_map (λ c. elements s c (bound_of s.use_ c) (dims_of s.use_ c.def.kind)) (option_to_list o)) e

one_element : (s : Seen) (c : Closure) (o : Outcome Bound) → is_empty (failures o) ≡ true → c.def.kind ≡ kind.Reg → s.use_.alias ≡ None → Found s.use_ (elements s c o (Ok []))
one_element s c (Ok b) h k a = inl (record { use_is = refl; is_register = k; no_alias = a })
one_element s c (Err f) h k a = cc

one_node : (s : Seen) → is_empty (no_node s) ≡ true → is_primary s.use_ ≡ true → Found s.use_ (given_by s)
one_node s clean p = go s.use_.closure refl
  where
    parts : (is_none s.use_.alias ≡ true) × (is_single_reg s.use_ ≡ true)
    parts = and_parts (is_none s.use_.alias) (is_single_reg s.use_) p

    bare : s.use_.dims ≡ []
    bare = no_dims s.use_.dims (closed s.use_ parts.1).0

    single : list_any (λ c. is_reg c.def.kind) (option_to_list s.use_.closure) ≡ true
    single = (closed s.use_ parts.1).1

    go : (o : Option Closure) → s.use_.closure ≡ o → Found s.use_ (given_by s)
    go None e = absurd (true≢false (sym (subst (λ o. list_any (λ c. is_reg c.def.kind) (option_to_list o) ≡ true) e single)))
    go (Some c) e =
        let reg = a_reg c.def.kind (any_one (λ c. is_reg c.def.kind) c (subst (λ o. list_any (λ c. is_reg c.def.kind) (option_to_list o) ≡ true) e single)) in
        let judged = (all_empty [] (judged_of s c) (of_visible s c e clean)).1 in
        let element = one_element s c (bound_of s.use_ c) judged.1.1.0 reg (no_alias s.use_.alias parts.0) in
        let there = subst (λ d. Found s.use_ (elements s c (bound_of s.use_ c) d)) (sym (no_brackets s.use_ c.def.kind bare)) element in
        subst (Found s.use_) (sym (given_is s c clean e)) (somewhere-left (IsPrimaryNode s.use_) (elements s c (bound_of s.use_ c) (dims_of s.use_ c.def.kind)) [] there)

-- The primary of an alias.

no_type : (s : Seen) → s.use_.closure ≡ None → is_empty (no_node s) ≡ true → ⊥
no_type s e h =
    let p = none_in (name_twice s) (of_type s s.use_.closure) h in
    let q : is_empty (of_type s None) ≡ true = subst (λ o. is_empty (of_type s o) ≡ true) e p.1 in
    cc

named_primary : (s : Seen) → is_empty (no_node s) ≡ true → (n : Name) → s.use_.alias ≡ Some n → has_primary s.earlier n ≡ true
named_primary s clean n a = go s.use_.closure refl
  where
    judged_alias : (o : Option Name) → s.use_.alias ≡ o → is_empty (bad_alias s.earlier s.use_) ≡ true → is_empty (flat_map (λ n. when (not (has_primary s.earlier n && is_single_reg s.use_)) (at_ rules.E13 n.place)) (option_to_list o)) ≡ true
    judged_alias o e h = subst (λ o. is_empty (flat_map (λ n. when (not (has_primary s.earlier n && is_single_reg s.use_)) (at_ rules.E13 n.place)) (option_to_list o)) ≡ true) e h

    go : (o : Option Closure) → s.use_.closure ≡ o → has_primary s.earlier n ≡ true
    go None e = absurd (no_type s e clean)
    go (Some c) e =
        let judged = (all_empty [] (judged_of s c) (of_visible s c e clean)).1 in
        let one = (none_in (when (not (has_primary s.earlier n && is_single_reg s.use_)) (at_ rules.E13 n.place)) [] (judged_alias (Some n) a judged.1.1.1.1.1.1.1.0)).0 in
        (and_parts (has_primary s.earlier n) (is_single_reg s.use_) (not_false _ (when_none (not (has_primary s.earlier n && is_single_reg s.use_)) (at_ rules.E13 n.place) one))).0

earlier_among : (us before later : List Use) → before ++ later ≡ us → AllByRecursion (λ p. (v : Use) → Somewhere (λ u. u ≡ v) p.0 → Somewhere (λ u. u ≡ v) us) (standing_from before later)
earlier_among us before [] e = tt
earlier_among us before (u ∷ later) e = (λ v h. subst (Somewhere (λ w. w ≡ v)) e (somewhere-left (λ w. w ≡ v) before (u ∷ later) h), earlier_among us (before ++ (u ∷ [])) later (append_assoc before (u ∷ []) later ∙ e))

unmapped : {X Y : Type 0} (P : Y → Type 0) (f : X → Y) (xs : List X) → AllByRecursion P (map f xs) → AllByRecursion (λ x. P (f x)) xs
unmapped P f [] h = tt
unmapped P f (x ∷ xs) h = (h.0, unmapped P f xs h.1)

both-map : {X Y : Type 0} (P Q : X → Type 0) (R : Y → Type 0) (f : X → Y) (xs : List X) → ((x : X) → P x → Q x → R (f x)) → AllByRecursion P xs → AllByRecursion Q xs → AllByRecursion R (map f xs)
both-map P Q R f [] g p q = tt
both-map P Q R f (x ∷ xs) g p q = (g x p.0 q.0, both-map P Q R f xs g p.1 q.1)

abbrev seen_as : List Body → Body → List Use × Use → Seen
seen_as above b p = record { parent = parent_of b; above = above; earlier = p.0; use_ = p.1 }

module _ (above : List Body) (b : Body) (clean : AllByRecursion (λ s. no_node s ≡ []) (seen above b)) where
  each_clean : AllByRecursion (λ p. no_node (seen_as above b p) ≡ []) (standing (uses b))
  each_clean = unmapped (λ s. no_node s ≡ []) (seen_as above b) (standing (uses b)) clean

  node_of : (v : Use) → is_primary v ≡ true → Somewhere (λ u. u ≡ v) (uses b) → Somewhere (IsPrimaryNode v) (flat_map given_by (seen above b))
  node_of v p h =
      somewhere-flat_map (IsPrimaryNode v) given_by (seen above b)
      (somewhere-map (λ q. Found v (given_by (seen_as above b q))) (λ s. Found v (given_by s)) (seen_as above b) (standing (uses b)) (λ q g. g)
      (somewhere-with (λ q. q.1 ≡ v) (λ q. no_node (seen_as above b q) ≡ []) (λ q. Found v (given_by (seen_as above b q))) (standing (uses b))
      (λ q e c. subst (λ u. Found u (given_by (seen_as above b q))) e (one_node (seen_as above b q) (ap is_empty c) (subst (λ u. is_primary u ≡ true) (sym e) p)))
      (in_standing v [] (uses b) h) each_clean))

  primary_of : (p : List Use × Use) → ((v : Use) → Somewhere (λ u. u ≡ v) p.0 → Somewhere (λ u. u ≡ v) (uses b)) → no_node (seen_as above b p) ≡ [] → (n : Name) → p.1.alias ≡ Some n → HasPrimary n (flat_map given_by (seen above b))
  primary_of p among c n a = go (find (λ u. same_name u.name n) p.0) refl
    where
      named : list_any is_primary (option_to_list (find (λ u. same_name u.name n) p.0)) ≡ true
      named = named_primary (seen_as above b p) (ap is_empty c) n a

      only : (v : Use) → list_any is_primary (v ∷ []) ≡ true → is_primary v ≡ true
      only v e = by (is_primary v) refl
        where
          by : (t : Bool) → is_primary v ≡ t → is_primary v ≡ true
          by true h = h
          by false h = let no : list_any is_primary (v ∷ []) ≡ false = rw h refl in cc

      go : (o : Option Use) → find (λ u. same_name u.name n) p.0 ≡ o → HasPrimary n (flat_map given_by (seen above b))
      go None e = let no : list_any is_primary [] ≡ true = subst (λ o. list_any is_primary (option_to_list o) ≡ true) e named in cc
      go (Some v) e =
          let is = only v (subst (λ o. list_any is_primary (option_to_list o) ≡ true) e named) in
          (v, passing (λ u. same_name u.name n) p.0 v e, node_of v is (among v (found (λ u. same_name u.name n) p.0 v e)))

  pub primaries_stand : AllByRecursion (λ s. (n : Name) → s.use_.alias ≡ Some n → HasPrimary n (flat_map given_by (seen above b))) (seen above b)
  primaries_stand = both-map (λ p. (v : Use) → Somewhere (λ u. u ≡ v) p.0 → Somewhere (λ u. u ≡ v) (uses b)) (λ p. no_node (seen_as above b p) ≡ []) _ (seen_as above b) (standing (uses b)) primary_of (earlier_among (uses b) [] (uses b) refl) each_clean
