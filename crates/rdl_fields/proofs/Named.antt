-- The uses of a body: of one name one alone gives nodes, and one that is no array gives one.
use Rattle.std.proofs.Common.{◌≡◌, ◌∙◌, ◌⊎◌, inl, inr, Bool, true, false, not, ◌&&◌, ◌||◌, cond, List, [], ◌∷◌, ◌++◌, flat_map, find, Option, None, Some, option_to_list, is_none, true≢false, Ok, Err, refl, sym, ap, subst}
use Rattle.std.specs.Cmp.Lexicographic.{bytes_decides}
use Rattle.std.specs.List.{AllByRecursion, list_any}
use Rattle.std.proofs.lemmas.Bool.{and_parts}
use Rattle.plain_lemmas.proofs.Bools.{or-true, true-of_not as not-false}
use Rattle.rdl_base.specs.declared.rule.Rule.TheVariants as rules
use Rattle.rdl_tree.specs.declared.expr.Expr.{Expr}
use Rattle.rdl_tree.specs.declared.expr.Name.{Name}
use Rattle.rdl_tree.specs.declared.item.Kind.{Kind}
use Rattle.rdl_tree.specs.declared.item.Kind.TheVariants as kind
use Rattle.rdl_values.specs.Bodies.{Body, Closure, around, same_name, standing, standing_from}
use Rattle.rdl_values.specs.Faults.{at_, when}
use Rattle.rdl_values.specs.Given.{IsGivenBy}
use Rattle.rdl_values.specs.Instances.{Instance, elements, given_by, kind_of}
use Rattle.rdl_values.specs.NoNode.{has_primary, is_primary, is_reg, is_single_reg, name_twice, no_node, of_type}
use Rattle.rdl_values.specs.Parameters.{Bound, bound_of}
use Rattle.rdl_values.specs.Parts.{dims_of, is_empty, is_unit}
use Rattle.rdl_values.specs.Paths.{path_in}
use Rattle.rdl_values.specs.Uses.{Seen, Use, parent_of, seen, uses, values}
use Rattle.rdl_values.specs.Values.{Outcome}
use Rattle.rdl_values.proofs.Given.{none_in, nothing_fails, when_none}
use Rattle.plain_lemmas.proofs.Lists.{each-flat_map}
use Rattle.rdl_nodes.proofs.Members.{In, in-either, in-left, map-in, in-map}

pub same-text : (m n : Name) → m.text.now ≡ n.text.now → same_name m n ≡ true
same-text m n e = (bytes_decides m.text.now n.text.now).1 e

pub text-same : (m n : Name) → same_name m n ≡ true → m.text.now ≡ n.text.now
text-same m n e = (bytes_decides m.text.now n.text.now).0 e

any-true : (f : Use → Bool) (us : List Use) (x : Use) → In us x → f x ≡ true → list_any f us ≡ true
any-true f [] x h t = absurd h
any-true f (u ∷ us) x (inl e) t = ap (λ b. b || list_any f us) (ap f e ∙ t)
any-true f (u ∷ us) x (inr h) t = ap (λ b. f u || b) (any-true f us x h t) ∙ or-true (f u)

-- no use before it has its name
abbrev Unnamed : List Use × Use → Type 0
Unnamed p = list_any (λ u. same_name u.name p.1.name) p.0 ≡ false

later-has : (before us : List Use) (p : List Use × Use) → In (standing_from before us) p → (x : Use) → In before x → In p.0 x
later-has before [] p h x i = absurd h
later-has before (u ∷ us) p (inl e) x i = subst (λ (q : List Use × Use). In q.0 x) e i
later-has before (u ∷ us) p (inr h) x i = later-has (before ++ (u ∷ [])) us p h x (in-left before (u ∷ []) x i)

last-in : (before : List Use) (u : Use) → In (before ++ (u ∷ [])) u
last-in [] u = inl refl
last-in (x ∷ before) u = inr (last-in before u)

clash : (before us : List Use) (u : Use) (q : List Use × Use) → In (standing_from (before ++ (u ∷ [])) us) q → Unnamed q → u.name.text.now ≡ q.1.name.text.now → ⊥
clash before us u q h free e = true≢false (sym (any-true (λ v. same_name v.name q.1.name) q.0 u (later-has (before ++ (u ∷ [])) us q h u (last-in before u)) (same-text u.name q.1.name e)) ∙ free)

one-named : (before us : List Use) (p q : List Use × Use) → In (standing_from before us) p → In (standing_from before us) q → Unnamed p → Unnamed q → p.1.name.text.now ≡ q.1.name.text.now → p ≡ q
one-named before [] p q h g a b e = absurd h
one-named before (u ∷ us) p q (inl i) (inl j) a b e = sym i ∙ j
one-named before (u ∷ us) p q (inl i) (inr g) a b e = absurd (clash before us u q g b (ap (λ (r : List Use × Use). r.1.name.text.now) i ∙ e))
one-named before (u ∷ us) p q (inr h) (inl j) a b e = absurd (clash before us u p h a (ap (λ (r : List Use × Use). r.1.name.text.now) j ∙ sym e))
one-named before (u ∷ us) p q (inr h) (inr g) a b e = one-named (before ++ (u ∷ [])) us p q h g a b e

abbrev pub seen_as : List Body → Body → List Use × Use → Seen
seen_as above b p = record { parent = parent_of b; above = above; earlier = p.0; use_ = p.1 }

unnamed : (s : Seen) → is_empty (no_node s) ≡ true → list_any (λ u. same_name u.name s.use_.name) s.earlier ≡ false
unnamed s h = when_none (list_any (λ u. same_name u.name s.use_.name) s.earlier) (at_ rules.E4 s.use_.name.place) (none_in (name_twice s) (of_type s s.use_.closure) h).0

module _ (above : List Body) (b : Body) where
  -- of one name one use alone gives nodes
  pub one-use : (s t : Seen) → In (seen above b) s → In (seen above b) t → is_empty (no_node s) ≡ true → is_empty (no_node t) ≡ true → s.use_.name.text.now ≡ t.use_.name.text.now → s ≡ t
  one-use s t h g a c e =
      let p = map-in (seen_as above b) (standing (uses b)) s h in
      let q = map-in (seen_as above b) (standing (uses b)) t g in
      let free_p : Unnamed p.0 = unnamed (seen_as above b p.0) (subst (λ (x : Seen). is_empty (no_node x) ≡ true) (sym p.2) a) in
      let free_q : Unnamed q.0 = unnamed (seen_as above b q.0) (subst (λ (x : Seen). is_empty (no_node x) ≡ true) (sym q.2) c) in
      let names : p.0.1.name.text.now ≡ q.0.1.name.text.now = ap (λ (x : Seen). x.use_.name.text.now) p.2 ∙ (e ∙ ap (λ (x : Seen). x.use_.name.text.now) (sym q.2)) in
      sym p.2 ∙ (ap (seen_as above b) (one-named [] (uses b) p.0 q.0 p.1 q.1 free_p free_q names) ∙ q.2)

  earlier-stands : (before us : List Use) (p : List Use × Use) (v : Use) → In (standing_from before us) p → In p.0 v → In before v ⊎ ((q : List Use × Use) × In (standing_from before us) q × (q.1 ≡ v))
  earlier-stands before [] p v h i = absurd h
  earlier-stands before (u ∷ us) p v (inl e) i = inl (subst (λ (q : List Use × Use). In q.0 v) (sym e) i)
  earlier-stands before (u ∷ us) p v (inr h) i = by (earlier-stands (before ++ (u ∷ [])) us p v h i)
    where
      last : In before v ⊎ In (u ∷ []) v → In before v ⊎ ((q : List Use × Use) × In (standing_from before (u ∷ us)) q × (q.1 ≡ v))
      last (inl j) = inl j
      last (inr (inl e)) = inr ((before, u), inl refl, e)
      last (inr (inr j)) = absurd j

      by : In (before ++ (u ∷ [])) v ⊎ ((q : List Use × Use) × In (standing_from (before ++ (u ∷ [])) us) q × (q.1 ≡ v)) → In before v ⊎ ((q : List Use × Use) × In (standing_from before (u ∷ us)) q × (q.1 ≡ v))
      by (inl j) = last (in-either before (u ∷ []) v j)
      by (inr f) = inr (f.0, inr f.1, f.2)

  -- a use before one stands in the body itself
  pub before-it : (s : Seen) (v : Use) → In (seen above b) s → In s.earlier v → (t : Seen) × In (seen above b) t × (t.use_ ≡ v)
  before-it s v h i =
      let p = map-in (seen_as above b) (standing (uses b)) s h in
      by (earlier-stands [] (uses b) p.0 v p.1 (subst (λ (x : Seen). In x.earlier v) (sym p.2) i))
    where
      by : In [] v ⊎ ((q : List Use × Use) × In (standing_from [] (uses b)) q × (q.1 ≡ v)) → (t : Seen) × In (seen above b) t × (t.use_ ≡ v)
      by (inl j) = absurd j
      by (inr f) = (seen_as above b f.0, in-map (seen_as above b) (standing (uses b)) f.0 f.1, f.2)

-- Aliases and their primaries, by the forms of their uses.

find-in : (f : Use → Bool) (us : List Use) (v : Use) → find f us ≡ Some v → In us v × (f v ≡ true)
find-in f [] v e = cc
find-in f (u ∷ us) v e = go (f u) refl (find-in f us v)
  where
    go : (b : Bool) → f u ≡ b → (find f us ≡ Some v → In us v × (f v ≡ true)) → In (u ∷ us) v × (f v ≡ true)
    go true q k = let here : Some u ≡ Some v = sym (rw q refl) ∙ e in let s : u ≡ v = cc here in (inl s, subst (λ w. f w ≡ true) s q)
    go false q k = let later : find f us ≡ Some v = sym (rw q refl) ∙ e in let r = k later in (inr r.0, r.1)

any-one : {X : Type 0} (f : X → Bool) (x : X) → list_any f (x ∷ []) ≡ true → f x ≡ true
any-one f x e = go (f x) refl
  where
    go : (b : Bool) → f x ≡ b → f x ≡ true
    go true h = h
    go false h = let no : list_any f (x ∷ []) ≡ false = rw h refl in cc

-- the first use of the name before it
found-primary : (earlier : List Use) (n : Name) → has_primary earlier n ≡ true → (v : Use) × In earlier v × (same_name v.name n ≡ true) × (is_primary v ≡ true)
found-primary earlier n h = go (find (λ u. same_name u.name n) earlier) refl
  where
    go : (o : Option Use) → find (λ u. same_name u.name n) earlier ≡ o → (v : Use) × In earlier v × (same_name v.name n ≡ true) × (is_primary v ≡ true)
    go None e = let no : list_any is_primary [] ≡ true = subst (λ o. list_any is_primary (option_to_list o) ≡ true) e h in cc
    go (Some v) e = let f = find-in (λ u. same_name u.name n) earlier v e in (v, f.0, f.1, any-one is_primary v (subst (λ o. list_any is_primary (option_to_list o) ≡ true) e h))

-- what rule E13 lets be
pub alias-form : (s : Seen) (n : Instance) → IsGivenBy s n → (m : Name) → n.use_.alias ≡ Some m → ((v : Use) × In s.earlier v × (same_name v.name m ≡ true) × (is_primary v ≡ true)) × (is_single_reg s.use_ ≡ true)
alias-form s n g m a =
    let named : s.use_.alias ≡ Some m = ap (λ (u : Use). u.alias) (sym g.use_is) ∙ a in
    let judged = (nothing_fails s n g).1.1.1.1.1.1.1.0 in
    let one : is_empty (flat_map (λ k. when (not (has_primary s.earlier k && is_single_reg s.use_)) (at_ rules.E13 k.place)) (m ∷ [])) ≡ true = subst (λ o. is_empty (flat_map (λ k. when (not (has_primary s.earlier k && is_single_reg s.use_)) (at_ rules.E13 k.place)) (option_to_list o)) ≡ true) named judged in
    let alone = (none_in (when (not (has_primary s.earlier m && is_single_reg s.use_)) (at_ rules.E13 m.place)) [] one).0 in
    let both = and_parts (has_primary s.earlier m) (is_single_reg s.use_) (not-false _ (when_none (not (has_primary s.earlier m && is_single_reg s.use_)) (at_ rules.E13 m.place) alone)) in
    (found-primary s.earlier m both.0, both.1)

a-reg : (k : Kind) → is_reg k ≡ true → k ≡ kind.Reg
a-reg kind.Reg e = refl
a-reg _ e = cc

-- a node of the use of a single register is a register
pub reg-node : (s : Seen) (n : Instance) → IsGivenBy s n → is_single_reg s.use_ ≡ true → kind_of n ≡ kind.Reg
reg-node s n g h =
    let some : list_any (λ (c : Closure). is_reg c.def.kind) (option_to_list s.use_.closure) ≡ true = (and_parts (is_empty s.use_.dims && is_none s.use_.form.range) (list_any (λ c. is_reg c.def.kind) (option_to_list s.use_.closure)) h).1 in
    a-reg (kind_of n) (any-one (λ (c : Closure). is_reg c.def.kind) n.closure (subst (λ o. list_any (λ (c : Closure). is_reg c.def.kind) (option_to_list o) ≡ true) g.closure_is some))

no-dims : (es : List Expr) → is_empty es ≡ true → es ≡ []
no-dims [] e = refl
no-dims (x ∷ es) e = cc

bare : (u : Use) → is_single_reg u ≡ true → u.dims ≡ []
bare u h =
    let p = and_parts (is_empty u.dims && is_none u.form.range) (list_any (λ c. is_reg c.def.kind) (option_to_list u.closure)) h in
    no-dims u.dims (and_parts (is_empty u.dims) (is_none u.form.range) p.0).0

-- it has no index
abbrev pub IsAlone : Seen → Instance → Type 0
IsAlone s c = c.path ≡ path_in s.parent (record { name = s.use_.name.text.now; index = [] })

pub one-path : (s : Seen) → is_single_reg s.use_ ≡ true → AllByRecursion (IsAlone s) (given_by s)
one-path s h = go (is_empty (no_node s))
  where
    no-brackets : (k : Kind) → dims_of s.use_ k ≡ Ok []
    no-brackets k = by (is_unit k)
      where
        by : (b : Bool) → cond b (Ok []) (values (around s.use_.scope) s.use_.dims) ≡ Ok []
        by true = refl
        by false = ap (values (around s.use_.scope)) (bare s.use_ h)

    each : (c : Closure) (o : Outcome Bound) → AllByRecursion (IsAlone s) (elements s c o (Ok []))
    each c (Ok b) = (refl, tt)
    each c (Err f) = tt

    closed : (o : Option Closure) → AllByRecursion (IsAlone s) (flat_map (λ c. elements s c (bound_of s.use_ c) (dims_of s.use_ c.def.kind)) (option_to_list o))
    closed None = tt
    closed (Some c) = each-flat_map (IsAlone s) (λ c. elements s c (bound_of s.use_ c) (dims_of s.use_ c.def.kind)) (c ∷ []) (subst (λ d. AllByRecursion (IsAlone s) (elements s c (bound_of s.use_ c) d)) (sym (no-brackets c.def.kind)) (each c (bound_of s.use_ c)), tt)

    go : (b : Bool) → AllByRecursion (IsAlone s) (cond b (flat_map (λ c. elements s c (bound_of s.use_ c) (dims_of s.use_ c.def.kind)) (option_to_list s.use_.closure)) [])
    go true = closed s.use_.closure
    go false = tt
