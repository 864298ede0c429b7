-- Paths of nodes differ.
use Rattle.std.proofs.Common.{◌≡◌, ◌≢◌, ◌⊎◌, inl, inr, ℕ, zero, suc, Bool, true, false, cond, List, [], ◌∷◌, ◌++◌, map, flat_map, reverse, bytes_eq, Option, None, Some, option_to_list, option_and_then, Ok, Err, refl, sym, ap, subst, ◌∙◌, append_assoc, append-nil, ◌&&◌}
use Rattle.std.specs.Cmp.Lexicographic.{bytes_decides}
use Rattle.std.specs.List.{AllByRecursion, AllPairs, list_any}
use Rattle.rdl_base.specs.declared.rule.Rule.TheVariants as rules
use Rattle.rdl_tree.specs.declared.expr.Name.{Name}
use Rattle.rdl_tree.specs.declared.item.Def.{Def}
use Rattle.rdl_tree.specs.declared.item.Item.{Item}
use Rattle.rdl_tree.specs.declared.item.Kind.{Kind}
use Rattle.rdl_tree.specs.declared.item.Source.{Source}
use Rattle.rdl_values.specs.Bodies.{Body, Closure, Path, Step, of_signal, below_top, around, same_name, standing, standing_from, component_of, scope_at}
use Rattle.rdl_values.specs.Faults.{at_}
use Rattle.rdl_values.specs.Given.{IsGivenBy}
use Rattle.rdl_values.specs.Instances.{Instance, kind_of, body, elements, given_by, children, signals, top_of, rows, with_below, nodes, most_names}
use Rattle.rdl_values.specs.NoNode.{no_node, name_twice, of_type}
use Rattle.rdl_values.specs.Parameters.{Bound, bound_of}
use Rattle.rdl_values.specs.Parts.{dims_of, is_empty, is_unit}
use Rattle.rdl_values.specs.Paths.{Parent, at_root, in_node, path_in}
use Rattle.rdl_values.specs.Primary.{Somewhere}
use Rattle.rdl_values.specs.Top.{root, is_addrmap, is_wanted, top_use, top_at, top_named, top_use_of, top_seen}
use Rattle.rdl_values.specs.Uses.{Use, Seen, seen, uses, parent_of, values}
use Rattle.rdl_values.specs.Values.{Outcome}
use Rattle.rdl_values.specs.Views.{item_is}
use Rattle.rdl_values.proofs.Clean.{nearest_is, unreversed}
use Rattle.rdl_values.proofs.Given.{none_in, when_none, given-all, children-given, signals-given, tops-given, IsChildOf, IsAtRoot}
use Rattle.plain_lemmas.proofs.Lists.{each-flat_map, each-imp}
use Rattle.rdl_nodes.proofs.Apart.{Apart, Across, pairs, all-of, across, apart-append, apart-flat_map, apart-map, apart-imp, apart-rows}

abbrev pub Differ : Instance → Instance → Type 0
Differ m n = m.path ≢ n.path

-- Names of uses that give nodes differ.

somewhere-left : {X : Type 0} (P : X → Type 0) (xs ys : List X) → Somewhere P xs → Somewhere P (xs ++ ys)
somewhere-left P (x ∷ xs) ys (inl h) = inl h
somewhere-left P (x ∷ xs) ys (inr h) = inr (somewhere-left P xs ys h)
somewhere-left P [] ys h = absurd h

somewhere-last : {X : Type 0} (xs : List X) (x : X) → Somewhere (λ y. y ≡ x) (xs ++ (x ∷ []))
somewhere-last [] x = inl refl
somewhere-last (y ∷ xs) x = inr (somewhere-last xs x)

-- a use stands among those before each later one
abbrev IsBefore : Use → List Use → Type 0
IsBefore u us = Somewhere (λ w. w ≡ u) us

behind : (u : Use) (before us : List Use) → IsBefore u before → AllByRecursion (λ q. IsBefore u q.0) (standing_from before us)
behind u before [] h = tt
behind u before (v ∷ us) h = (h, behind u (before ++ (v ∷ [])) us (somewhere-left (λ w. w ≡ u) before (v ∷ []) h))

standing_apart : (before us : List Use) → Apart (λ p q. IsBefore p.1 q.0) (standing_from before us)
standing_apart before [] = tt
standing_apart before (u ∷ us) = (behind u (before ++ (u ∷ [])) us (somewhere-last before u), standing_apart (before ++ (u ∷ [])) us)

not_any : (f : Use → Bool) (us : List Use) (u : Use) → list_any f us ≡ false → IsBefore u us → f u ≡ false
not_any f [] u e h = absurd h
not_any f (v ∷ us) u e h = go (f v) refl h (not_any f us u)
  where
    go : (b : Bool) → f v ≡ b → (v ≡ u) ⊎ IsBefore u us → (list_any f us ≡ false → IsBefore u us → f u ≡ false) → f u ≡ false
    go true q h k = let no : list_any f (v ∷ us) ≡ true = rw q refl in cc
    go false q (inl s) k = subst (λ w. f w ≡ false) s q
    go false q (inr s) k = let rest : list_any f us ≡ false = sym (rw q refl) ∙ e in k rest s

other_name : (s : Seen) (u : Use) → is_empty (no_node s) ≡ true → IsBefore u s.earlier → u.name.text.now ≢ s.use_.name.text.now
other_name s u clean h e =
    let once = when_none (list_any (λ w. same_name w.name s.use_.name) s.earlier) (at_ rules.E4 s.use_.name.place) (none_in (name_twice s) (of_type s s.use_.closure) clean).0 in
    let differs = not_any (λ w. same_name w.name s.use_.name) s.earlier u once h in
    let same : bytes_eq u.name.text.now s.use_.name.text.now ≡ true = (bytes_decides u.name.text.now s.use_.name.text.now).1 e in
    cc

abbrev seen_as : List Body → Body → List Use × Use → Seen
seen_as above b p = record { parent = parent_of b; above = above; earlier = p.0; use_ = p.1 }

-- Nodes of a body whose paths extend that of its node by a step.

module _ (p : Parent) (one : (s t : Step) → path_in p s ≡ path_in p t → s ≡ t) where
  across_uses : (u v : Seen) → u.parent ≡ p → v.parent ≡ p → IsBefore u.use_ v.earlier → Across Differ (given_by u) (given_by v)
  across_uses u v pu pv h = across (IsGivenBy u) (IsGivenBy v) Differ (given_by u) (given_by v) differ (given-all u) (given-all v)
    where
      differ : (m n : Instance) → IsGivenBy u m → IsGivenBy v n → Differ m n
      differ m n g k e =
          let left : m.path ≡ path_in p (record { name = u.use_.name.text.now; index = g.index }) = g.path_is ∙ ap (λ q. path_in q (record { name = u.use_.name.text.now; index = g.index })) pu in
          let right : n.path ≡ path_in p (record { name = v.use_.name.text.now; index = k.index }) = k.path_is ∙ ap (λ q. path_in q (record { name = v.use_.name.text.now; index = k.index })) pv in
          other_name v u.use_ k.clean h (ap (λ s. s.name) (one _ _ (sym left ∙ e ∙ right)))

  one_use : (u : Seen) → u.parent ≡ p → Apart Differ (given_by u)
  one_use u pu = clean (is_empty (no_node u))
    where
      listed : (c : Closure) (b : Outcome Bound) (d : Outcome (List ℕ)) → Apart Differ (elements u c b d)
      listed c (Ok bound) (Ok dims) = apart-map Differ _ (rows dims) (apart-imp (λ r. Unit {0}) (λ i j. i ≢ j) _ (rows dims) (λ i j x y n e. n (ap (λ s. s.index) (one (record { name = u.use_.name.text.now; index = i }) (record { name = u.use_.name.text.now; index = j }) (subst (λ q. path_in q (record { name = u.use_.name.text.now; index = i }) ≡ path_in q (record { name = u.use_.name.text.now; index = j })) pu e)))) (all-of _ (rows dims) (λ r. tt)) (apart-rows dims))
      listed c (Ok bound) (Err f) = tt
      listed c (Err f) d = tt

      closures : (o : Option Closure) → Apart Differ (flat_map (λ c. elements u c (bound_of u.use_ c) (dims_of u.use_ c.def.kind)) (option_to_list o))
      closures None = tt
      closures (Some c) = subst (Apart Differ) (sym (append-nil (elements u c (bound_of u.use_ c) (dims_of u.use_ c.def.kind)))) (listed c (bound_of u.use_ c) (dims_of u.use_ c.def.kind))

      clean : (b : Bool) → Apart Differ (cond b (flat_map (λ c. elements u c (bound_of u.use_ c) (dims_of u.use_ c.def.kind)) (option_to_list u.use_.closure)) [])
      clean true = closures u.use_.closure
      clean false = tt

  in_body : (above : List Body) (b : Body) → parent_of b ≡ p → Apart Differ (flat_map given_by (seen above b))
  in_body above b e = apart-flat_map Differ given_by (seen above b)
      (apart-map (λ u v. Across Differ (given_by u) (given_by v)) _ (standing (uses b)) (apart-imp (λ q. Unit {0}) (λ x y. IsBefore x.1 y.0) _ (standing (uses b)) (λ x y i j h. across_uses (seen_as above b x) (seen_as above b y) e e h) (all-of _ (standing (uses b)) (λ q. tt)) (standing_apart [] (uses b))))
      (mapped (λ u. Apart Differ (given_by u)) _ (standing (uses b)) (λ q. one_use (seen_as above b q) e))
    where
      mapped : {X Y : Type 0} (P : Y → Type 0) (f : X → Y) (xs : List X) → ((x : X) → P (f x)) → AllByRecursion P (map f xs)
      mapped P f [] h = tt
      mapped P f (x ∷ xs) h = (h x, mapped P f xs h)

-- Signals at the root.

abbrev signal_step : Path → Step
signal_step (of_signal t) = t
signal_step (below_top ss) = record { name = []; index = [] }

pub signals_apart : (s : Source) → Apart Differ (signals s)
signals_apart s = in_body at_root (λ t u e. ap signal_step e) [] (root s) refl

-- A node and those below it.

abbrev steps : Path → List Step
steps (of_signal t) = t ∷ []
steps (below_top ss) = ss

abbrev rest_of : List Step → List Step
rest_of [] = []
rest_of (s ∷ ss) = ss

abbrev first_of : Step → List Step → Step
first_of d [] = d
first_of d (s ∷ ss) = s

cancelled : (ss ts us : List Step) → ss ++ ts ≡ ss ++ us → ts ≡ us
cancelled [] ts us e = e
cancelled (s ∷ ss) ts us e = cancelled ss ts us (ap rest_of e)

same_first : (ss : List Step) (t u : Step) (ts us : List Step) → below_top (ss ++ (t ∷ ts)) ≡ below_top (ss ++ (u ∷ us)) → t ≡ u
same_first ss t u ts us e = ap (first_of t) (cancelled ss (t ∷ ts) (u ∷ us) (ap steps e))

-- the node is one by this step, and so is each below it
abbrev IsBelow : List Step → Step → Instance → Type 0
IsBelow ss t n = (ts : List Step) × (n.path ≡ below_top (ss ++ (t ∷ ts)))

abbrev pub IsChild : List Step → Instance → Type 0
IsChild ss n = (t : Step) × (n.path ≡ below_top (ss ++ (t ∷ [])))

a_child : (n c : Instance) (ss : List Step) → n.path ≡ below_top ss → IsChildOf n c → IsChild ss c
a_child n c ss e h =
    let step : Step = record { name = h.by.use_.name.text.now; index = h.given_.index } in
    (step, h.given_.path_is ∙ ap (λ q. path_in q step) h.in_body ∙ ap (λ q. path_in (in_node q (kind_of n)) step) e)

pub are_children : (n : Instance) (ss : List Step) → n.path ≡ below_top ss → AllByRecursion (IsChild ss) (children n)
are_children n ss e = each-imp (IsChildOf n) (IsChild ss) (children n) (λ c h. a_child n c ss e h) (children-given n)

pub children_apart : (n : Instance) (ss : List Step) → n.path ≡ below_top ss → Apart Differ (children n)
children_apart n ss e = in_body (in_node (below_top ss) (kind_of n)) (λ t u q. same_first ss t u [] [] q) _ (body n) (ap (λ p. in_node p (kind_of n)) e)

-- all have paths that begin with this one
abbrev pub IsUnder : List Step → Instance → Type 0
IsUnder ss n = (ts : List Step) × (n.path ≡ below_top (ss ++ ts))

pub under : (k : ℕ) (n : Instance) (ss : List Step) → n.path ≡ below_top ss → AllByRecursion (IsUnder ss) (with_below k n)
under zero n ss e = (([], e ∙ ap below_top (sym (append-nil ss))), tt)
under (suc k) n ss e = (([], e ∙ ap below_top (sym (append-nil ss))), each-flat_map (IsUnder ss) (with_below k) (children n) (each-imp (IsChild ss) (λ c. AllByRecursion (IsUnder ss) (with_below k c)) (children n) (λ c h. each-imp (IsUnder (ss ++ (h.0 ∷ []))) (IsUnder ss) (with_below k c) (λ m g. (h.0 ∷ g.0, g.1 ∙ ap below_top (append_assoc ss (h.0 ∷ []) g.0))) (under k c (ss ++ (h.0 ∷ [])) h.1)) (are_children n ss e)))

below_child : (k : ℕ) (c : Instance) (ss : List Step) (h : IsChild ss c) → AllByRecursion (IsBelow ss h.0) (with_below k c)
below_child k c ss h = each-imp (IsUnder (ss ++ (h.0 ∷ []))) (IsBelow ss h.0) (with_below k c) (λ m g. (g.0, g.1 ∙ ap below_top (append_assoc ss (h.0 ∷ []) g.0))) (under k c (ss ++ (h.0 ∷ [])) h.1)

longer : (ss : List Step) (t : Step) (ts : List Step) → ss ≢ ss ++ (t ∷ ts)
longer ss t ts e = nothing (cancelled ss [] (t ∷ ts) (append-nil ss ∙ e))
  where
    nothing : [] ≡ t ∷ ts → ⊥
    nothing e = cc

below_apart : (k : ℕ) (n : Instance) (ss : List Step) → n.path ≡ below_top ss → Apart Differ (with_below k n)
below_apart zero n ss e = (tt, tt)
below_apart (suc k) n ss e = (head, tail (λ c h. below_apart k c (ss ++ (h.0 ∷ [])) h.1))
  where
    head : AllByRecursion (Differ n) (flat_map (with_below k) (children n))
    head = each-flat_map (Differ n) (with_below k) (children n) (each-imp (IsChild ss) (λ c. AllByRecursion (Differ n) (with_below k c)) (children n) (λ c h. each-imp (IsBelow ss h.0) (Differ n) (with_below k c) (λ m g q. longer ss h.0 g.0 (ap steps (sym e ∙ q ∙ g.1))) (below_child k c ss h)) (are_children n ss e))

    subtrees : (c d : Instance) → IsChild ss c → IsChild ss d → Differ c d → Across Differ (with_below k c) (with_below k d)
    subtrees c d h g n = across (IsBelow ss h.0) (IsBelow ss g.0) Differ (with_below k c) (with_below k d) (λ x y p q e. n (h.1 ∙ ap (λ t. below_top (ss ++ (t ∷ []))) (same_first ss h.0 g.0 p.0 q.0 (sym p.1 ∙ e ∙ q.1)) ∙ sym g.1)) (below_child k c ss h) (below_child k d ss g)

    tail : ((c : Instance) → IsChild ss c → Apart Differ (with_below k c)) → Apart Differ (flat_map (with_below k) (children n))
    tail each = apart-flat_map Differ (with_below k) (children n) (apart-imp (IsChild ss) Differ _ (children n) subtrees (are_children n ss e) (children_apart n ss e)) (each-imp (IsChild ss) (λ c. Apart Differ (with_below k c)) (children n) each (are_children n ss e))

-- The top is one node.

abbrev AtMostOne : List Instance → Type 0
AtMostOne [] = Unit {0}
AtMostOne (n ∷ []) = Unit {0}
AtMostOne (m ∷ n ∷ ns) = ⊥

bare_top : (wanted : Option (List ℕ)) (s : Source) (i : List Item × Item) (u : Use) → top_at wanted s i ≡ Some u → u.dims ≡ []
bare_top wanted s i u e = go (component_of (item_is i.1)) e
  where
    Bare : Option Use → Type 0
    Bare None = Unit {0}
    Bare (Some v) = v.dims ≡ []

    chosen : (b : Bool) (d : Def) (n : Name) → Bare (cond b (Some (top_use (scope_at (root s) i.0) d n)) None)
    chosen true d n = refl
    chosen false d n = tt

    named : (d : Def) (o : Option Name) → Bare (top_named wanted (scope_at (root s) i.0) d o)
    named d None = tt
    named d (Some n) = chosen (is_addrmap d.kind && is_wanted wanted n) d n

    go : (o : Option Def) → option_and_then (λ d. top_named wanted (scope_at (root s) i.0) d d.name) o ≡ Some u → u.dims ≡ []
    go None q = cc
    go (Some d) q = subst Bare q (named d d.name)

some_bare : (wanted : Option (List ℕ)) (s : Source) (u : Use) (is : List (List Item × Item)) → Somewhere (λ i. top_at wanted s i ≡ Some u) is → u.dims ≡ []
some_bare wanted s u [] h = absurd h
some_bare wanted s u (i ∷ is) (inl h) = bare_top wanted s i u h
some_bare wanted s u (i ∷ is) (inr h) = some_bare wanted s u is h

top_bare : (wanted : Option (List ℕ)) (s : Source) (u : Use) → top_use_of wanted s ≡ Some u → u.dims ≡ []
top_bare None s u e = some_bare None s u (standing s.items.now) (unreversed (λ i. top_at None s i ≡ Some u) (standing s.items.now) (nearest_is (top_at None s) (reverse (standing s.items.now)) u e))
top_bare (Some w) s u e = some_bare (Some w) s u (standing s.items.now) (nearest_is (top_at (Some w) s) (standing s.items.now) u e)

no_brackets : (u : Use) (k : Kind) → u.dims ≡ [] → dims_of u k ≡ Ok []
no_brackets u k e = go (is_unit k)
  where
    go : (b : Bool) → cond b (Ok []) (values (around u.scope) u.dims) ≡ Ok []
    go true = refl
    go false = ap (values (around u.scope)) e

one_given : (s : Seen) → s.use_.dims ≡ [] → AtMostOne (given_by s)
one_given s e = clean (is_empty (no_node s))
  where
    listed : (c : Closure) (b : Outcome Bound) → AtMostOne (elements s c b (Ok []) ++ [])
    listed c (Ok b) = tt
    listed c (Err f) = tt

    closures : (o : Option Closure) → AtMostOne (flat_map (λ c. elements s c (bound_of s.use_ c) (dims_of s.use_ c.def.kind)) (option_to_list o))
    closures None = tt
    closures (Some c) = subst (λ d. AtMostOne (elements s c (bound_of s.use_ c) d ++ [])) (sym (no_brackets s.use_ c.def.kind e)) (listed c (bound_of s.use_ c))

    clean : (b : Bool) → AtMostOne (cond b (flat_map (λ c. elements s c (bound_of s.use_ c) (dims_of s.use_ c.def.kind)) (option_to_list s.use_.closure)) [])
    clean true = closures s.use_.closure
    clean false = tt

one_top : (wanted : Option (List ℕ)) (s : Source) → AtMostOne (top_of wanted s)
one_top wanted s = go (top_use_of wanted s) refl
  where
    go : (o : Option Use) → top_use_of wanted s ≡ o → AtMostOne (flat_map (λ u. given_by (top_seen u)) (option_to_list o))
    go None e = tt
    go (Some u) e = subst AtMostOne (sym (append-nil (given_by (top_seen u)))) (one_given (top_seen u) (top_bare wanted s u e))

alone : (R : Instance → Instance → Type 0) (ns : List Instance) → AtMostOne ns → Apart R ns
alone R [] h = tt
alone R (n ∷ []) h = (tt, tt)
alone R (m ∷ n ∷ ns) h = absurd h

-- All nodes.

abbrev IsSignal : Instance → Type 0
IsSignal n = (t : Step) × (n.path ≡ of_signal t)

are_signals : (s : Source) → AllByRecursion IsSignal (signals s)
are_signals s = each-imp IsAtRoot IsSignal (signals s) (λ n h. (record { name = h.by.use_.name.text.now; index = h.given_.index }, h.given_.path_is ∙ ap (λ p. path_in p (record { name = h.by.use_.name.text.now; index = h.given_.index })) h.in_body)) (signals-given s)

two_kinds : (t : Step) (ss : List Step) → of_signal t ≡ below_top ss → ⊥
two_kinds t ss e = cc

pub nodes_apart : (wanted : Option (List ℕ)) (s : Source) → Apart Differ (nodes wanted s)
unfolding nodes
nodes_apart wanted s = apart-append Differ (signals s) (flat_map (with_below most_names) (top_of wanted s)) (signals_apart s) tops signals_tops
  where
    tops : Apart Differ (flat_map (with_below most_names) (top_of wanted s))
    tops = apart-flat_map Differ (with_below most_names) (top_of wanted s) (alone _ (top_of wanted s) (one_top wanted s)) (each-imp (λ n. n.path ≡ below_top []) (λ n. Apart Differ (with_below most_names n)) (top_of wanted s) (λ n e. below_apart most_names n [] e) (tops-given wanted s))

    all_under : AllByRecursion (IsUnder []) (flat_map (with_below most_names) (top_of wanted s))
    all_under = each-flat_map (IsUnder []) (with_below most_names) (top_of wanted s) (each-imp (λ n. n.path ≡ below_top []) (λ n. AllByRecursion (IsUnder []) (with_below most_names n)) (top_of wanted s) (λ n e. under most_names n [] e) (tops-given wanted s))

    signals_tops : Across Differ (signals s) (flat_map (with_below most_names) (top_of wanted s))
    signals_tops = across IsSignal (IsUnder []) Differ (signals s) (flat_map (with_below most_names) (top_of wanted s)) (λ m n h g e. two_kinds h.0 g.0 (sym h.1 ∙ e ∙ g.1)) (are_signals s) all_under

pub paths_differ : (wanted : Option (List ℕ)) (s : Source) → AllPairs (λ m n. m.path ≢ n.path) (nodes wanted s)
paths_differ wanted s = pairs Differ (nodes wanted s) (nodes_apart wanted s)
