-- All bodies in turn: of a node and those below it, the bodies between assign to a node what all of them do.
use Rattle.std.proofs.Common.{◌≡◌, ◌≢◌, ℕ, zero, suc, true, List, [], ◌∷◌, ◌++◌, length, map, flat_map, Option, None, Some, option_to_list, refl, sym, ap, subst, ◌∙◌, arith, append_assoc, append-nil, length-append}
use Rattle.std.specs.List.{AllByRecursion}
use Rattle.std.proofs.lemmas.Grind.{flat_map-append}
use Rattle.std.proofs.lemmas.List.{map-append}
use Rattle.plain_lemmas.proofs.Lists.{each-append, each-both as both, each-flat_map, each-imp}
use Rattle.rdl_tree.specs.declared.item.Source.{Source}
use Rattle.rdl_values.specs.Bodies.{Body, Step, of_signal, below_top, standing, standing_from}
use Rattle.rdl_values.specs.Given.{IsGivenBy}
use Rattle.rdl_values.specs.Instances.{Instance, kind_of, body, given_by, children, seen_in, signals, top_of, with_below, nodes, most_names}
use Rattle.rdl_values.specs.NoNode.{is_signal, may_hold}
use Rattle.rdl_values.specs.Paths.{path_in}
use Rattle.rdl_values.specs.Top.{root, top_seen, top_use_of}
use Rattle.rdl_values.specs.Uses.{Use, Seen, seen, uses, parent_of}
use Rattle.rdl_values.proofs.Given.{IsAtRoot, each-map, given-all, held, signals-given, tops-given}
use Rattle.rdl_values.proofs.Numbered.{At, Deep, bottom}
use Rattle.rdl_nodes.proofs.Apart.{Apart}
use Rattle.rdl_nodes.proofs.Paths.{Differ, IsChild, IsUnder, are_children, children_apart, nodes_apart, under}
use Rattle.rdl_layers.specs.Settings.{Applied, from_above}
use Rattle.rdl_layers.specs.Nested.{nested}
use Rattle.rdl_layers.proofs.Spared.{Spares, spares-empty, spares-outside}

-- What the bodies of some nodes assign to a node.

abbrev told : Instance → List Instance → List Applied
told n ms = flat_map (from_above n) (map nested ms)

told-append : (n : Instance) (xs ys : List Instance) → told n (xs ++ ys) ≡ told n xs ++ told n ys
told-append n xs ys = ap (flat_map (from_above n)) (map-append nested xs ys) ∙ flat_map-append (from_above n) (map nested xs) (map nested ys)

told-none : (n : Instance) (ms : List Instance) → AllByRecursion (Spares n) ms → told n ms ≡ []
told-none n [] h = refl
told-none n (m ∷ ms) h = ap (λ xs. xs ++ told n ms) h.0 ∙ told-none n ms h.1

-- The node stands below these bodies, and the nodes assign to it what those between do.
record IsTold (up : List Body) (ms : List Instance) (n : Instance) : Type 0 where
  rest : List Body
  above : n.above ≡ up ++ rest
  same : told n ms ≡ flat_map (from_above n) (standing_from up rest)

-- Paths that part.

same-first : (ss : List Step) (t u : Step) (ts us : List Step) → ss ++ (t ∷ ts) ≡ ss ++ (u ∷ us) → t ≡ u
same-first [] t u ts us e = cc e
same-first (s ∷ ss) t u ts us e = let rest : ss ++ (t ∷ ts) ≡ ss ++ (u ∷ us) = cc e in same-first ss t u ts us rest

in-path : (ss ts : List Step) → below_top ss ≡ below_top ts → ss ≡ ts
in-path ss ts e = cc e

-- the node is one by this step, or stands below it
abbrev IsBelow : List Step → Step → Instance → Type 0
IsBelow ss t n = (ts : List Step) × (n.path ≡ below_top (ss ++ (t ∷ ts)))

-- it is one by another step
abbrev IsElsewhere : List Step → Step → Instance → Type 0
IsElsewhere ss t n = (u : Step) × (u ≢ t) × IsBelow ss u n

spares-across : (ss : List Step) (t u : Step) (n m : Instance) → t ≢ u → IsBelow ss t n → IsBelow ss u m → Spares n m
spares-across ss t u n m differ h g = spares-outside n m (ss ++ (u ∷ g.0)) g.1
    (λ v vs e. differ (sym (same-first ss u t (g.0 ++ (v ∷ vs)) h.0 (sym (append_assoc ss (u ∷ g.0) (v ∷ vs)) ∙ in-path _ _ (e ∙ h.1)))))

spares-above : (ss : List Step) (n m : Instance) → n.path ≡ below_top ss → IsUnder ss m → Spares n m
spares-above ss n m e h = spares-outside n m (ss ++ h.0) h.1 (λ t ts q. too-long t ts (in-path _ _ (q ∙ e)))
  where
    too-long : (t : Step) (ts : List Step) → (ss ++ h.0) ++ (t ∷ ts) ≡ ss → ⊥
    too-long t ts q =
        let all = ap length q in
        let ends = length-append (ss ++ h.0) (t ∷ ts) in
        let front = length-append ss h.0 in
        omega (arith, all, ends, front)

below-child : (k : ℕ) (c : Instance) (ss : List Step) (h : IsChild ss c) → AllByRecursion (IsBelow ss h.0) (with_below k c)
below-child k c ss h = each-imp (IsUnder (ss ++ (h.0 ∷ []))) (IsBelow ss h.0) (with_below k c) (λ m g. (g.0, g.1 ∙ ap below_top (append_assoc ss (h.0 ∷ []) g.0))) (under k c (ss ++ (h.0 ∷ [])) h.1)

-- Nodes of one body, and those below them.

elsewhere : (k : ℕ) (ss : List Step) (c : Instance) (h : IsChild ss c) (cs : List Instance) → AllByRecursion (IsChild ss) cs → AllByRecursion (Differ c) cs → AllByRecursion (IsElsewhere ss h.0) (flat_map (with_below k) cs)
elsewhere k ss c h cs each differ = each-flat_map (IsElsewhere ss h.0) (with_below k) cs (both (IsChild ss) (Differ c) (λ d. AllByRecursion (IsElsewhere ss h.0) (with_below k d)) cs by each differ)
  where
    by : (d : Instance) → IsChild ss d → Differ c d → AllByRecursion (IsElsewhere ss h.0) (with_below k d)
    by d g apart = each-imp (IsBelow ss g.0) (IsElsewhere ss h.0) (with_below k d) (λ m b. (g.0, (λ e. apart (h.1 ∙ ap (λ t. below_top (ss ++ (t ∷ []))) (sym e) ∙ sym g.1)), b)) (below-child k d ss g)

in-body : (k : ℕ) (ss : List Step) (up : List Body) (cs : List Instance) → AllByRecursion (IsChild ss) cs → Apart Differ cs → AllByRecursion (λ c. AllByRecursion (IsTold up (with_below k c)) (with_below k c)) cs
    → AllByRecursion (IsTold up (flat_map (with_below k) cs)) (flat_map (with_below k) cs)
in-body k ss up [] h apart each = tt
in-body k ss up (c ∷ cs) h apart each = each-append (IsTold up (with_below k c ++ more)) (with_below k c) more
    (both (IsBelow ss h.0.0) (IsTold up (with_below k c)) (IsTold up (with_below k c ++ more)) (with_below k c) left (below-child k c ss h.0) each.0)
    (both (IsElsewhere ss h.0.0) (IsTold up more) (IsTold up (with_below k c ++ more)) more right others (in-body k ss up cs h.1 apart.1 each.1))
  where
    more : List Instance
    more = flat_map (with_below k) cs

    others : AllByRecursion (IsElsewhere ss h.0.0) more
    others = elsewhere k ss c h.0 cs h.1 apart.0

    left : (n : Instance) → IsBelow ss h.0.0 n → IsTold up (with_below k c) n → IsTold up (with_below k c ++ more) n
    left n b t =
        let none : told n more ≡ [] = told-none n more (each-imp (IsElsewhere ss h.0.0) (Spares n) more (λ m e. spares-across ss h.0.0 e.0 n m (λ q. e.1 (sym q)) b e.2) others) in
        record { rest = t.rest; above = t.above; same = told-append n (with_below k c) more ∙ ap (λ xs. told n (with_below k c) ++ xs) none ∙ append-nil (told n (with_below k c)) ∙ t.same }

    right : (n : Instance) → IsElsewhere ss h.0.0 n → IsTold up more n → IsTold up (with_below k c ++ more) n
    right n e t =
        let none : told n (with_below k c) ≡ [] = told-none n (with_below k c) (each-imp (IsBelow ss h.0.0) (Spares n) (with_below k c) (λ m b. spares-across ss e.0 h.0.0 n m e.1 e.2 b) (below-child k c ss h.0)) in
        record { rest = t.rest; above = t.above; same = told-append n (with_below k c) more ∙ ap (λ xs. xs ++ told n more) none ∙ t.same }

-- a use of a body, as it is seen there
abbrev seen-as : List Body → Body → List Use × Use → Seen
seen-as above b u = record { parent = parent_of b; above = above; earlier = u.0; use_ = u.1 }

-- the nodes in a body stand below those round it and the body itself
children-above : (n : Instance) → AllByRecursion (λ c. c.above ≡ n.above ++ (body n ∷ [])) (children n)
children-above n = each-flat_map (λ c. c.above ≡ n.above ++ (body n ∷ [])) given_by (seen_in n)
    (each-map (λ s. AllByRecursion (λ c. c.above ≡ n.above ++ (body n ∷ [])) (given_by s)) (seen-as (n.above ++ (body n ∷ [])) (body n)) (standing (uses (body n))) of)
  where
    of : (u : List Use × Use) → AllByRecursion (λ c. c.above ≡ n.above ++ (body n ∷ [])) (given_by (seen-as (n.above ++ (body n ∷ [])) (body n) u))
    of u = let s : Seen = seen-as (n.above ++ (body n ∷ [])) (body n) u in each-imp (IsGivenBy s) (λ c. c.above ≡ n.above ++ (body n ∷ [])) (given_by s) (λ c g. g.above_is) (given-all s)

-- A node and those below it.

self : (n : Instance) (ms : List Instance) (ss : List Step) → n.path ≡ below_top ss → AllByRecursion (IsUnder ss) ms → IsTold n.above ms n
self n ms ss e h = record { rest = []; above = sym (append-nil n.above); same = told-none n ms (each-imp (IsUnder ss) (Spares n) ms (λ m u. spares-above ss n m e u) h) }

-- the nodes in a body, and those below them
lower : (k : ℕ) (n : Instance) (ss : List Step) → n.path ≡ below_top ss → ((c : Instance) (ts : List Step) → c.path ≡ below_top ts → AllByRecursion (IsTold c.above (with_below k c)) (with_below k c))
    → AllByRecursion (IsTold n.above (with_below (suc k) n)) (flat_map (with_below k) (children n))
lower k n ss e each = each-imp (IsTold up more) (IsTold n.above (n ∷ more)) more higher (in-body k ss up (children n) (are_children n ss e) (children_apart n ss e) subtrees)
  where
    up : List Body
    up = n.above ++ (body n ∷ [])

    more : List Instance
    more = flat_map (with_below k) (children n)

    subtrees : AllByRecursion (λ c. AllByRecursion (IsTold up (with_below k c)) (with_below k c)) (children n)
    subtrees = both (IsChild ss) (λ c. c.above ≡ up) (λ c. AllByRecursion (IsTold up (with_below k c)) (with_below k c)) (children n)
        (λ c h a. subst (λ x. AllByRecursion (IsTold x (with_below k c)) (with_below k c)) a (each c (ss ++ (h.0 ∷ [])) h.1)) (are_children n ss e) (children-above n)

    higher : (m : Instance) → IsTold up more m → IsTold n.above (n ∷ more) m
    higher m t = record { rest = body n ∷ t.rest; above = t.above ∙ append_assoc n.above (body n ∷ []) t.rest; same = ap (λ xs. from_above m (nested n) ++ xs) t.same }

tree : (k : ℕ) (n : Instance) (ss : List Step) → n.path ≡ below_top ss → AllByRecursion (IsTold n.above (with_below k n)) (with_below k n)
tree zero n ss e = (self n (n ∷ []) ss e (under zero n ss e), tt)
tree (suc k) n ss e = (self n (with_below (suc k) n) ss e (under (suc k) n ss e), lower k n ss e (λ c ts q. tree k c ts q))

-- All nodes.

signals-hold-nothing : (s : Source) → AllByRecursion (λ n. children n ≡ []) (signals s)
signals-hold-nothing s = each-imp IsAtRoot (λ n. children n ≡ []) (signals s) (λ n h. bottom n (deep n h)) (signals-given s)
  where
    deep : (n : Instance) → IsAtRoot n → Deep 0 n
    deep n h =
        let step : Step = record { name = h.by.use_.name.text.now; index = h.given_.index } in
        let path : n.path ≡ of_signal step = h.given_.path_is ∙ ap (λ p. path_in p step) h.in_body in
        let kind : is_signal (kind_of n) ≡ true = subst (λ p. may_hold p (kind_of n) ≡ true) h.in_body (held h.by n h.given_) in
        subst (λ p. At p 0 n) (sym path) kind

-- A signal at the root stands in no body of a node.
record IsAlone (n : Instance) : Type 0 where
  above : n.above ≡ []
  step : Step
  path : n.path ≡ of_signal step

signals-alone : (s : Source) → AllByRecursion IsAlone (signals s)
signals-alone s = each-flat_map IsAlone given_by (seen [] (root s))
    (each-map (λ u. AllByRecursion IsAlone (given_by u)) (seen-as [] (root s)) (standing (uses (root s))) of)
  where
    of : (u : List Use × Use) → AllByRecursion IsAlone (given_by (seen-as [] (root s) u))
    of u = let by : Seen = seen-as [] (root s) u in each-imp (IsGivenBy by) IsAlone (given_by by) (λ c g. record { above = g.above_is; step = record { name = u.1.name.text.now; index = g.index }; path = g.path_is }) (given-all by)

tops-above : (wanted : Option (List ℕ)) (s : Source) → AllByRecursion (λ n. n.above ≡ []) (top_of wanted s)
tops-above wanted s = each-flat_map (λ n. n.above ≡ []) _ (option_to_list (top_use_of wanted s)) (all (top_use_of wanted s))
  where
    all : (o : Option Use) → AllByRecursion (λ u. AllByRecursion (λ n. n.above ≡ []) (given_by (top_seen u))) (option_to_list o)
    all None = tt
    all (Some u) = (each-imp (IsGivenBy (top_seen u)) (λ n. n.above ≡ []) (given_by (top_seen u)) (λ n g. g.above_is) (given-all (top_seen u)), tt)

apart-right : (xs ys : List Instance) → Apart Differ (xs ++ ys) → Apart Differ ys
apart-right [] ys h = h
apart-right (x ∷ xs) ys h = apart-right xs ys h.1

each-right : (P : Instance → Type 0) (xs ys : List Instance) → AllByRecursion P (xs ++ ys) → AllByRecursion P ys
each-right P [] ys h = h
each-right P (x ∷ xs) ys h = each-right P xs ys h.1

-- two tops would have one path
one-top : (t u : Instance) (more : List Instance) → t.path ≡ below_top [] → u.path ≡ below_top [] → Apart Differ (flat_map (with_below most_names) (t ∷ u ∷ more)) → ⊥
one-top t u more p q h = (each-right (Differ t) (flat_map (with_below 31) (children t)) (flat_map (with_below most_names) (u ∷ more)) h.0).0 (p ∙ sym q)

tops-told : (tops : List Instance) → AllByRecursion (λ n. n.path ≡ below_top []) tops → AllByRecursion (λ n. n.above ≡ []) tops → Apart Differ (flat_map (with_below most_names) tops)
    → AllByRecursion (IsTold [] (flat_map (with_below most_names) tops)) (flat_map (with_below most_names) tops)
tops-told [] p a h = tt
tops-told (t ∷ []) p a h = subst (λ xs. AllByRecursion (IsTold [] xs) xs) (sym (append-nil (with_below most_names t))) (subst (λ up. AllByRecursion (IsTold up (with_below most_names t)) (with_below most_names t)) a.0 (tree most_names t [] p.0))
tops-told (t ∷ u ∷ more) p a h = absurd (one-top t u more p.0 p.1.0 h)

-- all bodies assign to a node what those above it do
abbrev IsTurn : List Instance → Instance → Type 0
IsTurn all n = told n all ≡ flat_map (from_above n) (standing n.above)

pub all-turns : (wanted : Option (List ℕ)) (s : Source) → AllByRecursion (IsTurn (nodes wanted s)) (nodes wanted s)
unfolding nodes
all-turns wanted s = each-append (IsTurn (signals s ++ tops)) (signals s) tops (each-imp IsAlone (IsTurn (signals s ++ tops)) (signals s) signal (signals-alone s)) (each-imp (IsTold [] tops) (IsTurn (signals s ++ tops)) tops below (tops-told (top_of wanted s) (tops-given wanted s) (tops-above wanted s) apart))
  where
    tops : List Instance
    tops = flat_map (with_below most_names) (top_of wanted s)

    whole : Apart Differ (nodes wanted s)
    whole = nodes_apart wanted s

    apart : Apart Differ tops
    apart = apart-right (signals s) tops whole

    by-signals : (n : Instance) → told n (signals s) ≡ []
    by-signals n = told-none n (signals s) (each-imp (λ m. children m ≡ []) (Spares n) (signals s) (λ m e. spares-empty n m e) (signals-hold-nothing s))

    all-under : AllByRecursion (IsUnder []) tops
    all-under = each-flat_map (IsUnder []) (with_below most_names) (top_of wanted s) (each-imp (λ n. n.path ≡ below_top []) (λ n. AllByRecursion (IsUnder []) (with_below most_names n)) (top_of wanted s) (λ n e. under most_names n [] e) (tops-given wanted s))

    signal : (n : Instance) → IsAlone n → IsTurn (signals s ++ tops) n
    signal n h =
        let none : told n tops ≡ [] = told-none n tops (each-imp (IsUnder []) (Spares n) tops (λ m u. spares-outside n m u.0 u.1 (λ t ts e. two-kinds (u.0 ++ (t ∷ ts)) h.step (e ∙ h.path))) all-under) in
        told-append n (signals s) tops ∙ ap (λ xs. xs ++ told n tops) (by-signals n) ∙ none ∙ sym (ap (λ up. flat_map (from_above n) (standing up)) h.above)
      where
        two-kinds : (ss : List Step) (t : Step) → below_top ss ≡ of_signal t → ⊥
        two-kinds ss t e = cc e

    below : (n : Instance) → IsTold [] tops n → IsTurn (signals s ++ tops) n
    below n t = told-append n (signals s) tops ∙ ap (λ xs. xs ++ told n tops) (by-signals n) ∙ t.same ∙ sym (ap (λ up. flat_map (from_above n) (standing up)) t.above)
