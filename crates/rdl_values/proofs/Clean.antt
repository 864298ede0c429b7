-- What follows where no rule on instances fails.
use Rattle.std.proofs.Common.{◌≡◌, ℕ, Bool, true, false, cond, List, [], ◌∷◌, ◌++◌, map, flat_map, take, drop, reverse, bytes_eq, ◌&&◌, Option, None, Some, option_to_list, option_and_then, Contains, ◌⊎◌, inl, inr, refl, sym, ap, subst, ◌∙◌}
use mathlib.Core.List.{reverse_aux}
use Rattle.std.specs.Cmp.Lexicographic.{bytes_decides}
use Rattle.std.specs.List.{AllByRecursion, list_any}
use Rattle.rdl_base.specs.declared.fault.Fault.{Fault}
use Rattle.rdl_base.specs.declared.rule.Rule.TheVariants as rules
use Rattle.rdl_tree.specs.declared.expr.Name.{Name}
use Rattle.rdl_tree.specs.declared.item.Def.{Def}
use Rattle.rdl_tree.specs.declared.item.Item.{Item}
use Rattle.rdl_tree.specs.declared.item.Source.{Source}
use Rattle.rdl_tree.specs.declared.node.Elab.{Elab}
use Rattle.rdl_values.specs.Bodies.{Body, Scope, same_name, scope_at, standing, standing_from, component_of}
use Rattle.rdl_values.specs.Elaborated.{AreTreesOf, node, more, top_name}
use Rattle.rdl_values.specs.Elaboration.{Elaborates}
use Rattle.rdl_values.specs.Faults.{at_, when}
use Rattle.rdl_values.specs.Given.{IsGivenBy}
use Rattle.rdl_values.specs.Instances.{Instance, signals, top_of, given_by, with_below, most_names, most_nodes, nodes, judged_nodes}
use Rattle.rdl_values.specs.NoNode.{no_node}
use Rattle.rdl_values.specs.Phase3.{no_top, bare_assignments, name_of, names_in, twice_defined, of_enums, of_use, of_judged, of_node, first_over, too_many_nodes, failures3}
use Rattle.rdl_values.specs.Top.{root, is_addrmap, top_use, is_wanted, top_named, top_at, top_use_of, top_seen}
use Rattle.rdl_values.specs.Uses.{Use, Seen, seen}
use Rattle.rdl_values.specs.Values.{nearest}
use Rattle.rdl_values.specs.Verdict.{IsListOf}
use Rattle.rdl_values.specs.Views as view
use Rattle.rdl_values.specs.Views.{ItemIs, item_is}
use Rattle.rdl_values.proofs.Given.{given-all}
use Rattle.plain_lemmas.proofs.Lists.{bytes_eq-itself as same_bytes, each-append, each-imp}
use Rattle.rdl_values.proofs.Sorted.{none_fails}
pub use Rattle.rdl_values.specs.Primary.{Somewhere}

-- Empty lists.

nil_left : (xs ys : List Fault) → xs ++ ys ≡ [] → xs ≡ []
nil_left [] ys e = refl
nil_left (x ∷ xs) ys e = cc

nil_right : (xs ys : List Fault) → xs ++ ys ≡ [] → ys ≡ []
nil_right [] ys e = e
nil_right (x ∷ xs) ys e = cc

nil_each : {X : Type 0} (f : X → List Fault) (xs : List X) → flat_map f xs ≡ [] → AllByRecursion (λ x. f x ≡ []) xs
nil_each f [] e = tt
nil_each f (x ∷ xs) e = (nil_left (f x) (flat_map f xs) e, nil_each f xs (nil_right (f x) (flat_map f xs) e))

when_nil : (t : Bool) (f : Fault) → when t f ≡ [] → t ≡ false
when_nil false f e = refl
when_nil true f e = cc

module _ (wanted : Option (List ℕ)) (s : Source) (clean : failures3 wanted s ≡ []) where
  abbrev a1 : List Fault
  a1 = no_top (top_use_of wanted s) ++ bare_assignments s

  abbrev a2 : List Fault
  a2 = a1 ++ flat_map of_use (map top_seen (option_to_list (top_use_of wanted s)))

  abbrev a3 : List Fault
  a3 = a2 ++ of_judged (seen [] (root s)) (root s)

  abbrev a4 : List Fault
  a4 = a3 ++ flat_map of_node (judged_nodes wanted s)

  all_nil : a4 ++ too_many_nodes wanted s ≡ []
  unfolding failures3
  all_nil = clean

  nil4 : a4 ≡ []
  nil4 = nil_left a4 (too_many_nodes wanted s) all_nil

  nil3 : a3 ≡ []
  nil3 = nil_left a3 (flat_map of_node (judged_nodes wanted s)) nil4

  nil2 : a2 ≡ []
  nil2 = nil_left a2 (of_judged (seen [] (root s)) (root s)) nil3

  nil1 : a1 ≡ []
  nil1 = nil_left a1 (flat_map of_use (map top_seen (option_to_list (top_use_of wanted s)))) nil2

  pub top_nil : no_top (top_use_of wanted s) ≡ []
  top_nil = nil_left (no_top (top_use_of wanted s)) (bare_assignments s) nil1

  pub root_nil : of_judged (seen [] (root s)) (root s) ≡ []
  root_nil = nil_right a2 (of_judged (seen [] (root s)) (root s)) nil3

  pub nodes_nil : AllByRecursion (λ n. of_node n ≡ []) (judged_nodes wanted s)
  nodes_nil = nil_each of_node (judged_nodes wanted s) (nil_right a3 (flat_map of_node (judged_nodes wanted s)) nil4)

  pub none_over : too_many_nodes wanted s ≡ []
  none_over = nil_right a4 (too_many_nodes wanted s) all_nil

-- Names that differ.

abbrev Later : List Name → List Name → Type 0
Later before ns = AllByRecursion (λ m. list_any (same_name m) before ≡ false) ns

abbrev twice_from : List Name → List Name → List Fault
twice_from before ns = flat_map (λ n. when (list_any (same_name n.1) n.0) (at_ rules.E2 n.1.place)) (standing_from before ns)

any_left : (f : Name → Bool) (xs ys : List Name) → list_any f (xs ++ ys) ≡ false → list_any f xs ≡ false
any_left f [] ys e = refl
any_left f (x ∷ xs) ys e = go (f x) refl (any_left f xs ys)
  where
    go : (b : Bool) → f x ≡ b → (list_any f (xs ++ ys) ≡ false → list_any f xs ≡ false) → list_any f (x ∷ xs) ≡ false
    go true h k = let no : list_any f (x ∷ xs ++ ys) ≡ true = rw h refl in cc
    go false h k = let rest : list_any f (xs ++ ys) ≡ false = sym (rw h refl) ∙ e in rw h (k rest)

any_last : (f : Name → Bool) (xs : List Name) (y : Name) → list_any f (xs ++ (y ∷ [])) ≡ false → f y ≡ false
any_last f [] y e = go (f y) refl
  where
    go : (b : Bool) → f y ≡ b → f y ≡ false
    go false h = h
    go true h = let no : list_any f (y ∷ []) ≡ true = rw h refl in cc
any_last f (x ∷ xs) y e = go (f x) refl (any_last f xs y)
  where
    go : (b : Bool) → f x ≡ b → (list_any f (xs ++ (y ∷ [])) ≡ false → f y ≡ false) → f y ≡ false
    go true h k = let no : list_any f (x ∷ xs ++ (y ∷ [])) ≡ true = rw h refl in cc
    go false h k = let rest : list_any f (xs ++ (y ∷ [])) ≡ false = sym (rw h refl) ∙ e in k rest

later_names : (before ns : List Name) → twice_from before ns ≡ [] → Later before ns
later_names before [] e = tt
later_names before (n ∷ ns) e =
    let rest = later_names (before ++ (n ∷ [])) ns (nil_right (when (list_any (same_name n) before) (at_ rules.E2 n.place)) (twice_from (before ++ (n ∷ [])) ns) e) in
    (when_nil _ _ (nil_left (when (list_any (same_name n) before) (at_ rules.E2 n.place)) (twice_from (before ++ (n ∷ [])) ns) e), each-imp _ _ ns (λ m h. any_left (same_name m) before (n ∷ []) h) rest)

-- each name differs from those behind it
abbrev pub NamesDiffer : List Name → Type 0
NamesDiffer [] = Unit {0}
NamesDiffer (n ∷ ns) = AllByRecursion (λ m. same_name m n ≡ false) ns × NamesDiffer ns

differ_from : (before ns : List Name) → twice_from before ns ≡ [] → NamesDiffer ns
differ_from before [] e = tt
differ_from before (n ∷ ns) e =
    let tail = nil_right (when (list_any (same_name n) before) (at_ rules.E2 n.place)) (twice_from (before ++ (n ∷ [])) ns) e in
    (each-imp _ _ ns (λ m h. any_last (same_name m) before n h) (later_names (before ++ (n ∷ [])) ns tail), differ_from (before ++ (n ∷ [])) ns tail)

-- the definitions of a body have different names where E2 fails nowhere
pub names_differ : (uses : List Seen) (b : Body) → of_judged uses b ≡ [] → NamesDiffer (names_in b.items)
names_differ uses b e = differ_from [] (names_in b.items) (nil_left (twice_defined b) (of_enums b) (nil_left (twice_defined b ++ of_enums b) (flat_map of_use uses) e))

-- a body's uses give their nodes where nothing fails in it
pub uses_clean : (us : List Seen) (b : Body) → of_judged us b ≡ [] → AllByRecursion (λ u. no_node u ≡ []) us
uses_clean us b e = each-imp (λ u. of_use u ≡ []) (λ u. no_node u ≡ []) us (λ u h. nil_left (no_node u) _ h) (nil_each of_use us (nil_right (twice_defined b ++ of_enums b) (flat_map of_use us) e))

-- The top's name decides which definition is the top.

unreversed_onto : {X : Type 0} (P : X → Type 0) (xs ys : List X) → Somewhere P (reverse_aux xs ys) → Somewhere P xs ⊎ Somewhere P ys
unreversed_onto P [] ys h = inr h
unreversed_onto P (x ∷ xs) ys h = go (unreversed_onto P xs (x ∷ ys) h)
  where
    go : Somewhere P xs ⊎ Somewhere P (x ∷ ys) → Somewhere P (x ∷ xs) ⊎ Somewhere P ys
    go (inl k) = inl (inr k)
    go (inr (inl k)) = inl (inl k)
    go (inr (inr k)) = inr k

pub unreversed : {X : Type 0} (P : X → Type 0) (xs : List X) → Somewhere P (reverse xs) → Somewhere P xs
unreversed P xs h = go (unreversed_onto P xs [] h)
  where
    go : Somewhere P xs ⊎ ⊥ → Somewhere P xs
    go (inl k) = k
    go (inr k) = absurd k

pub nearest_is : {X Y : Type 0} (f : X → Option Y) (xs : List X) (y : Y) → nearest f xs ≡ Some y → Somewhere (λ x. f x ≡ Some y) xs
nearest_is f [] y e = cc
nearest_is {Y = Y} f (x ∷ xs) y e = go (f x) refl (nearest_is f xs y)
  where
    go : (o : Option Y) → f x ≡ o → (nearest f xs ≡ Some y → Somewhere (λ x. f x ≡ Some y) xs) → (f x ≡ Some y) ⊎ Somewhere (λ x. f x ≡ Some y) xs
    go None h k = let rest : nearest f xs ≡ Some y = sym (rw h refl) ∙ e in inr (k rest)
    go (Some z) h k = let same : Some z ≡ Some y = sym (rw h refl) ∙ e in inl (h ∙ same)

somewhere-imp : {X : Type 0} (P Q : X → Type 0) (xs : List X) → ((x : X) → P x → Q x) → Somewhere P xs → Somewhere Q xs
somewhere-imp P Q (x ∷ xs) f (inl h) = inl (f x h)
somewhere-imp P Q (x ∷ xs) f (inr h) = inr (somewhere-imp P Q xs f h)
somewhere-imp P Q [] f h = h

-- the top that an item gives
abbrev top_by : Option (List ℕ) → Scope → ItemIs → Option Use
top_by wanted scope v = option_and_then (λ d. top_named wanted scope d d.name) (component_of v)

-- what a definition that is taken as the top has
pub record IsTaken (wanted : Option (List ℕ)) (scope : Scope) (v : ItemIs) (u : Use) : Type 0 where
  pub name : Name
  pub named : name_of v ≡ Some name
  pub use_name : u.name ≡ name
  pub by_name : top_by (Some name.text.now) scope v ≡ Some u
  pub wanted_is : (w : List ℕ) → wanted ≡ Some w → name.text.now ≡ w

some_is : (x u : Use) → Some x ≡ Some u → x ≡ u
some_is x u e = ap (λ o. or_else o x) e
  where
    or_else : Option Use → Use → Use
    or_else None y = y
    or_else (Some z) y = z

chosen : (a b : Bool) (x u : Use) → cond (a && b) (Some x) None ≡ Some u → (a ≡ true) × (b ≡ true) × (x ≡ u)
chosen true true x u e = (refl, refl, some_is x u e)
chosen true false x u e = cc
chosen false true x u e = cc
chosen false false x u e = cc

is_name : (w : List ℕ) (n : Name) → bytes_eq n.text.now w ≡ true → n.text.now ≡ w
is_name w n e = (bytes_decides n.text.now w).0 e

taken_def : (wanted : Option (List ℕ)) (scope : Scope) (d : Def) (u : Use) (o : Option Name) → d.name ≡ o → top_named wanted scope d o ≡ Some u → IsTaken wanted scope (view.definition d) u
taken_def wanted scope d u None h e = cc
taken_def wanted scope d u (Some n) h e =
    let c = chosen (is_addrmap d.kind) (is_wanted wanted n) (top_use scope d n) u e in
    record {
      name = n;
      named = h;
      use_name = sym (ap (λ x. x.name) c.2);
      by_name = by c.0 c.2;
      wanted_is = λ w q. is_name w n (subst (λ x. is_wanted x n ≡ true) q c.1);
    }
  where
    by : is_addrmap d.kind ≡ true → top_use scope d n ≡ u → top_by (Some n.text.now) scope (view.definition d) ≡ Some u
    by a e = ap (top_named (Some n.text.now) scope d) h ∙ rw (a, same_bytes n.text.now) (ap Some e)

taken : (wanted : Option (List ℕ)) (scope : Scope) (v : ItemIs) (u : Use) → top_by wanted scope v ≡ Some u → IsTaken wanted scope v u
taken wanted scope (view.definition d) u e = taken_def wanted scope d u d.name refl e
taken wanted scope (view.enumeration n es) u e = cc
taken wanted scope (view.made a n is) u e = cc
taken wanted scope (view.default_ set) u e = cc
taken wanted scope (view.local set) u e = cc
taken wanted scope (view.dynamic t set) u e = cc

-- a name among the definitions' names
named_differs : (n : Name) (v : ItemIs) (m : Name) (tail : List Name) → name_of v ≡ Some m → AllByRecursion (λ k. same_name k n ≡ false) (option_to_list (name_of v) ++ tail) → same_name m n ≡ false
named_differs n v m tail e h = (subst (λ o. AllByRecursion (λ k. same_name k n ≡ false) (option_to_list o ++ tail)) e h).0

names_left : (n : Name) (v : ItemIs) (tail : List Name) → AllByRecursion (λ k. same_name k n ≡ false) (option_to_list (name_of v) ++ tail) → AllByRecursion (λ k. same_name k n ≡ false) tail
names_left n v tail h = go (name_of v) h
  where
    go : (o : Option Name) → AllByRecursion (λ k. same_name k n ≡ false) (option_to_list o ++ tail) → AllByRecursion (λ k. same_name k n ≡ false) tail
    go None h = h
    go (Some m) h = h.1

module _ (s : Source) (w : List ℕ) (u : Use) where
  Gives : List Item × Item → Type 0
  Gives i = top_at (Some w) s i ≡ Some u

  -- no other definition of the name stands among these
  never_twice : (n : Name) (before is : List Item) → n.text.now ≡ w → AllByRecursion (λ k. same_name k n ≡ false) (names_in is) → Somewhere (λ i. top_at (Some w) s i ≡ Some u) (standing_from before is) → ⊥
  never_twice n before [] e h f = f
  never_twice n before (i ∷ is) e h (inl f) =
      let t = taken (Some w) (scope_at (root s) before) (item_is i) u f in
      let other = named_differs n (item_is i) t.name (names_in is) t.named h in
      let same : bytes_eq t.name.text.now n.text.now ≡ true = (bytes_decides t.name.text.now n.text.now).1 (t.wanted_is w refl ∙ sym e) in
      cc
  never_twice n before (i ∷ is) e h (inr f) = never_twice n (before ++ (i ∷ [])) is e (names_left n (item_is i) (names_in is) h) f

  rest_differ : (v : ItemIs) (tail : List Name) → NamesDiffer (option_to_list (name_of v) ++ tail) → NamesDiffer tail
  rest_differ v tail h = go (name_of v) h
    where
      go : (o : Option Name) → NamesDiffer (option_to_list o ++ tail) → NamesDiffer tail
      go None h = h
      go (Some m) h = h.1

  first_differs : (v : ItemIs) (n : Name) (tail : List Name) → name_of v ≡ Some n → NamesDiffer (option_to_list (name_of v) ++ tail) → AllByRecursion (λ k. same_name k n ≡ false) tail
  first_differs v n tail e h = (subst (λ o. NamesDiffer (option_to_list o ++ tail)) e h).0

  -- the first of the name is the one that is there
  first_found : (before is : List Item) → NamesDiffer (names_in is) → Somewhere (λ i. top_at (Some w) s i ≡ Some u) (standing_from before is) → nearest (top_at (Some w) s) (standing_from before is) ≡ Some u
  first_found before [] d f = absurd f
  first_found before (i ∷ is) d (inl f) = rw f refl
  first_found before (i ∷ is) d (inr f) = go (top_at (Some w) s (before, i)) refl (first_found (before ++ (i ∷ [])) is (rest_differ (item_is i) (names_in is) d) f)
    where
      go : (o : Option Use) → top_at (Some w) s (before, i) ≡ o → nearest (top_at (Some w) s) (standing_from (before ++ (i ∷ [])) is) ≡ Some u → nearest (top_at (Some w) s) (standing_from before (i ∷ is)) ≡ Some u
      go None h k = rw h k
      go (Some v) h k =
          let t = taken (Some w) (scope_at (root s) before) (item_is i) v h in
          absurd (never_twice t.name (before ++ (i ∷ [])) is (t.wanted_is w refl) (first_differs (item_is i) t.name (names_in is) t.named d) f)

by_its_name : (wanted : Option (List ℕ)) (s : Source) (u : Use) → NamesDiffer (names_in s.items.now) → top_use_of wanted s ≡ Some u → top_use_of (Some u.name.text.now) s ≡ Some u
by_its_name None s u d e = first_found s u.name.text.now u [] s.items.now d (somewhere-imp _ _ (standing s.items.now) named (unreversed _ (standing s.items.now) (nearest_is (top_at None s) (reverse (standing s.items.now)) u e)))
  where
    named : (i : List Item × Item) → top_at None s i ≡ Some u → top_at (Some u.name.text.now) s i ≡ Some u
    named i e = let t = taken None (scope_at (root s) i.0) (item_is i.1) u e in subst (λ n. top_at (Some n.text.now) s i ≡ Some u) (sym t.use_name) t.by_name
by_its_name (Some w) s u d e = by (nearest_is (top_at (Some w) s) (standing s.items.now) u e)
  where
    same : (xs : List (List Item × Item)) → Somewhere (λ i. top_at (Some w) s i ≡ Some u) xs → u.name.text.now ≡ w
    same [] f = absurd f
    same (i ∷ xs) (inl f) = let t = taken (Some w) (scope_at (root s) i.0) (item_is i.1) u f in ap (λ n. n.text.now) t.use_name ∙ t.wanted_is w refl
    same (i ∷ xs) (inr f) = same xs f

    by : Somewhere (λ i. top_at (Some w) s i ≡ Some u) (standing s.items.now) → top_use_of (Some u.name.text.now) s ≡ Some u
    by f = ap (λ x. top_use_of (Some x) s) (same (standing s.items.now) f) ∙ e

-- All that is said of a source is said by its top.

module _ (w v : Option (List ℕ)) (s : Source) (e : top_use_of w s ≡ top_use_of v s) where
  pub same_tops : top_of w s ≡ top_of v s
  same_tops i = flat_map (λ u. given_by (top_seen u)) (option_to_list (e i))

  pub same_nodes : nodes w s ≡ nodes v s
  unfolding nodes
  same_nodes i = signals s ++ flat_map (with_below most_names) (same_tops i)

  pub same_failures : failures3 w s ≡ failures3 v s
  unfolding failures3
  same_failures i = no_top (e i) ++ bare_assignments s ++ flat_map of_use (map top_seen (option_to_list (e i))) ++ of_judged (seen [] (root s)) (root s) ++ flat_map of_node (take most_nodes (same_nodes i)) ++ first_over (drop most_nodes (same_nodes i))

use_of_top : (wanted : Option (List ℕ)) (s : Source) (u : Use) → top_use_of wanted s ≡ Some u → AllByRecursion (λ n. n.use_ ≡ u) (top_of wanted s)
use_of_top wanted s u e = subst (λ o. AllByRecursion (λ n. n.use_ ≡ u) (flat_map (λ x. given_by (top_seen x)) (option_to_list o))) (sym e) (each-append (λ n. n.use_ ≡ u) (given_by (top_seen u)) [] (each-imp (IsGivenBy (top_seen u)) (λ n. n.use_ ≡ u) (given_by (top_seen u)) (λ n g. g.use_is) (given-all (top_seen u))) tt)

name_of_top : (e : Elab) (ns : List Instance) (u : Use) {at after : ℕ} → AreTreesOf [] at (e.top.now ∷ []) ns after → AllByRecursion (λ n. n.use_ ≡ u) ns → top_name e ≡ u.name.text.now
name_of_top e [] u t h = elim t [ ]
name_of_top e (n ∷ ns) u (more (node i says ts) rest) h = says.name ∙ ap (λ x. x.name.text.now) h.0

pub same_top : (wanted : Option (List ℕ)) (s : Source) (e : Elab) → Elaborates wanted s e → top_use_of wanted s ≡ top_use_of (Some (top_name e)) s
same_top wanted s e h = by (top_use_of wanted s) refl
  where
    clean : failures3 wanted s ≡ []
    clean = none_fails (failures3 wanted s) h.clean

    by : (o : Option Use) → top_use_of wanted s ≡ o → top_use_of wanted s ≡ top_use_of (Some (top_name e)) s
    by None q = let no : no_top None ≡ [] = subst (λ o. no_top o ≡ []) q (top_nil wanted s clean) in cc
    by (Some u) q =
        let named = name_of_top e (top_of wanted s) u h.tree.top (use_of_top wanted s u q) in
        let differ = names_differ (seen [] (root s)) (root s) (root_nil wanted s clean) in
        q ∙ sym (by_its_name wanted s u differ q) ∙ ap (λ x. top_use_of (Some x) s) (sym named)

pub by_top_name : (wanted : Option (List ℕ)) (s : Source) (e : Elab) → Elaborates wanted s e → Elaborates (Some (top_name e)) s e
by_top_name wanted s e h =
    let q = same_top wanted s e h in
    record {
      clean = subst (λ fs. IsListOf (λ rule place. Contains fs (at_ rule place)) []) (same_failures wanted (Some (top_name e)) s q) h.clean;
      tree = record { source = h.tree.source; between = h.tree.between; signals_ = h.tree.signals_; top = subst (λ ns. AreTreesOf [] h.tree.between (e.top.now ∷ []) ns e.count) (same_tops wanted (Some (top_name e)) s q) h.tree.top };
    }
