-- The nodes of a source with all that stands in them.
use Rattle.std.proofs.Common.{◌≡◌, ◌∙◌, ◌⊎◌, inl, inr, true, length, ℕ, zero, suc, ◌<◌, List, [], ◌∷◌, ◌++◌, flat_map, Option, None, Some, option_to_list, slice_get, refl, sym, ap, subst, arith}
use Rattle.std.specs.List.{AllByRecursion}
use Rattle.plain_lemmas.proofs.Lists.{each-append, each-both as all-both, each-flat as split-flat, each-flat_map, each-imp, each-right as right-part}
use Rattle.rdl_tree.specs.declared.item.Source.{Source}
use Rattle.rdl_values.specs.Bodies.{Body, Step, standing, standing_from}
use Rattle.rdl_values.specs.Given.{IsGivenBy}
use Rattle.rdl_values.specs.Instances.{Instance, body, children, given_by, most_names, nodes, root, seen_in, signals, top_of, with_below}
use Rattle.rdl_values.specs.NoNode.{is_signal, may_hold}
use Rattle.rdl_values.specs.Paths.{path_in}
use Rattle.rdl_values.specs.Bodies as bodies
use Rattle.rdl_values.specs.Instances.{kind_of}
use Rattle.rdl_values.specs.Top.{top_seen, top_use_of}
use Rattle.rdl_values.specs.Uses.{Seen, Use, parent_of, seen, uses}
use Rattle.rdl_values.proofs.Given.{IsAtRoot, each-map, given-all, held, signals-given}
use Rattle.rdl_values.proofs.Numbered.{At, Deep, bottom, lower, tops_deep}
use Rattle.rdl_nodes.proofs.Paths.{paths_differ}
use Rattle.rdl_nodes.proofs.Members.{In, get-read, get-within, in-left, in-place, in-right}
use Rattle.rdl_layers.specs.Assignments.{Nested}
use Rattle.rdl_layers.specs.Nested.{nested}

-- What stands in a node is listed with it.

abbrev Closed : List Instance → Instance → Type 0
Closed ns m = AllByRecursion (In ns) (children m)

-- each of a list is in it, and in more
each-itself : (ns : List Instance) → AllByRecursion (In ns) ns
each-itself ns = go [] ns
  where
    go : (before xs : List Instance) → AllByRecursion (In (before ++ xs)) xs
    go before [] = tt
    go before (x ∷ xs) = (in-right before (x ∷ xs) x (inl refl), subst (λ ys. AllByRecursion (In ys) xs) (back before x xs) (go (before ++ (x ∷ [])) xs))
      where
        back : (ys : List Instance) (y : Instance) (zs : List Instance) → (ys ++ (y ∷ [])) ++ zs ≡ ys ++ (y ∷ zs)
        back [] y zs = refl
        back (w ∷ ys) y zs = ap (λ l. w ∷ l) (back ys y zs)

head-in : (k : ℕ) (n : Instance) → In (with_below k n) n
head-in zero n = inl refl
head-in (suc k) n = inl refl

-- of nodes, each stands in the list of all below them
heads-in : (k : ℕ) (cs : List Instance) → AllByRecursion (In (flat_map (with_below k) cs)) cs
heads-in k [] = tt
heads-in k (c ∷ cs) = (in-left (with_below k c) (flat_map (with_below k) cs) c (head-in k c), each-imp (In (flat_map (with_below k) cs)) (In (with_below k c ++ flat_map (with_below k) cs)) cs (λ d i. in-right (with_below k c) (flat_map (with_below k) cs) d i) (heads-in k cs))

more-closed : (xs ys : List Instance) (m : Instance) → ((c : Instance) → In xs c → In ys c) → Closed xs m → Closed ys m
more-closed xs ys m f h = each-imp (In xs) (In ys) (children m) f h

many-closed : (k : ℕ) (cs : List Instance) → AllByRecursion (λ c. AllByRecursion (Closed (with_below k c)) (with_below k c)) cs → AllByRecursion (Closed (flat_map (with_below k) cs)) (flat_map (with_below k) cs)
many-closed k [] h = tt
many-closed k (c ∷ cs) h = each-append (Closed (with_below k c ++ flat_map (with_below k) cs)) (with_below k c) (flat_map (with_below k) cs)
    (each-imp (Closed (with_below k c)) (Closed (with_below k c ++ flat_map (with_below k) cs)) (with_below k c) (λ m. more-closed (with_below k c) (with_below k c ++ flat_map (with_below k) cs) m (λ d i. in-left (with_below k c) (flat_map (with_below k) cs) d i)) h.0)
    (each-imp (Closed (flat_map (with_below k) cs)) (Closed (with_below k c ++ flat_map (with_below k) cs)) (flat_map (with_below k) cs) (λ m. more-closed (flat_map (with_below k) cs) (with_below k c ++ flat_map (with_below k) cs) m (λ d i. in-right (with_below k c) (flat_map (with_below k) cs) d i)) (many-closed k cs h.1))

below-closed : (k : ℕ) (n : Instance) → Deep k n → AllByRecursion (Closed (with_below k n)) (with_below k n)
below-closed zero n d = (subst (AllByRecursion (In (n ∷ []))) (sym (bottom n d)) tt, tt)
below-closed (suc k) n d = (each-imp (In more) (In (n ∷ more)) (children n) (λ c i. inr i) (heads-in k (children n)), each-imp (Closed more) (Closed (n ∷ more)) more (λ m. more-closed more (n ∷ more) m (λ c i. inr i)) (many-closed k (children n) (each-imp (Deep k) (λ c. AllByRecursion (Closed (with_below k c)) (with_below k c)) (children n) (below-closed k) (lower k n d))))
  where
    more : List Instance
    more = flat_map (with_below k) (children n)

signals-empty : (s : Source) → AllByRecursion (λ n. children n ≡ []) (signals s)
signals-empty s = each-imp IsAtRoot (λ n. children n ≡ []) (signals s) (λ n h. bottom n (deep n h)) (signals-given s)
  where
    deep : (n : Instance) → IsAtRoot n → Deep 0 n
    deep n h =
        let step : Step = record { name = h.by.use_.name.text.now; index = h.given_.index } in
        let path : n.path ≡ bodies.of_signal step = h.given_.path_is ∙ ap (λ p. path_in p step) h.in_body in
        let kind : is_signal (kind_of n) ≡ true = subst (λ p. may_hold p (kind_of n) ≡ true) h.in_body (held h.by n h.given_) in
        subst (λ p. At p 0 n) (sym path) kind

pub all-closed : (wanted : Option (List ℕ)) (s : Source) → AllByRecursion (Closed (nodes wanted s)) (nodes wanted s)
unfolding nodes
all-closed wanted s = each-append (Closed (signals s ++ tops)) (signals s) tops
    (each-imp (λ n. children n ≡ []) (Closed (signals s ++ tops)) (signals s) (λ n e. subst (AllByRecursion (In (signals s ++ tops))) (sym e) tt) (signals-empty s))
    (each-imp (Closed tops) (Closed (signals s ++ tops)) tops (λ m. more-closed tops (signals s ++ tops) m (λ c i. in-right (signals s) tops c i))
    (many-closed most_names (top_of wanted s) (each-imp (Deep most_names) (λ n. AllByRecursion (Closed (with_below most_names n)) (with_below most_names n)) (top_of wanted s) (below-closed most_names) (tops_deep wanted s))))
  where
    tops : List Instance
    tops = flat_map (with_below most_names) (top_of wanted s)

-- Two nodes of one path are one.
pub one-node : (wanted : Option (List ℕ)) (s : Source) (m n : Instance) → In (nodes wanted s) m → In (nodes wanted s) n → m.path ≡ n.path → m ≡ n
one-node wanted s m n i j e = by (split p.0 q.0)
  where
    p : (k : ℕ) × (k < length (nodes wanted s)) × (slice_get (nodes wanted s) k ≡ Some m)
    p = in-place (nodes wanted s) m i

    q : (k : ℕ) × (k < length (nodes wanted s)) × (slice_get (nodes wanted s) k ≡ Some n)
    q = in-place (nodes wanted s) n j

    apart : (a b : ℕ) (x y : Instance) → slice_get (nodes wanted s) a ≡ Some x → slice_get (nodes wanted s) b ≡ Some y → a < b → x.path ≡ y.path → ⊥
    apart a b x y h g l same =
        let differ = paths_differ wanted s a b x l (get-within (nodes wanted s) b y g) in
        differ (ap (λ z. z.path) (get-read (nodes wanted s) a x x h) ∙ same ∙ sym (ap (λ z. z.path) (get-read (nodes wanted s) b x y g)))

    split : (a b : ℕ) → (a < b) ⊎ (b < a) ⊎ (a ≡ b)
    split a b = grind arith

    by : (p.0 < q.0) ⊎ (q.0 < p.0) ⊎ (p.0 ≡ q.0) → m ≡ n
    by (inl less) = absurd (apart p.0 q.0 m n p.2 q.2 less e)
    by (inr (inl more)) = absurd (apart q.0 p.0 n m q.2 p.2 more (sym e))
    by (inr (inr same)) = let here : Some m ≡ Some n = sym p.2 ∙ ap (slice_get (nodes wanted s)) same ∙ q.2 in cc

-- The bodies above a node are those of nodes.

abbrev pub IsOfNode : List Instance → Nested → Type 0
IsOfNode ns b = (a : Instance) × In ns a × (b ≡ nested a)

abbrev pub AreOfNodes : List Instance → Instance → Type 0
AreOfNodes ns n = AllByRecursion (IsOfNode ns) (standing n.above)

standing-last : (before xs : List Body) (x : Body) → standing_from before (xs ++ (x ∷ [])) ≡ standing_from before xs ++ ((before ++ xs, x) ∷ [])
standing-last before [] x = ap (λ b. (b, x) ∷ []) (sym (none before))
  where
    none : (ys : List Body) → ys ++ [] ≡ ys
    none [] = refl
    none (y ∷ ys) = ap (λ l. y ∷ l) (none ys)
standing-last before (y ∷ xs) x = ap (λ l. (before, y) ∷ l) (standing-last (before ++ (y ∷ [])) xs x ∙ ap (λ b. standing_from (before ++ (y ∷ [])) xs ++ ((b, x) ∷ [])) (assoc before y xs))
  where
    assoc : (ys : List Body) (z : Body) (zs : List Body) → (ys ++ (z ∷ [])) ++ zs ≡ ys ++ (z ∷ zs)
    assoc [] z zs = refl
    assoc (w ∷ ys) z zs = ap (λ l. w ∷ l) (assoc ys z zs)

in-body : (n : Instance) → AllByRecursion (λ c. c.above ≡ n.above ++ (body n ∷ [])) (children n)
in-body n = each-flat_map (λ c. c.above ≡ n.above ++ (body n ∷ [])) given_by (seen_in n)
    (each-map (λ s. AllByRecursion (λ c. c.above ≡ n.above ++ (body n ∷ [])) (given_by s)) (λ u. record { parent = parent_of (body n); above = n.above ++ (body n ∷ []); earlier = u.0; use_ = u.1 }) (standing (uses (body n))) of)
  where
    of : (u : List Use × Use) → AllByRecursion (λ c. c.above ≡ n.above ++ (body n ∷ [])) (given_by (record { parent = parent_of (body n); above = n.above ++ (body n ∷ []); earlier = u.0; use_ = u.1 }))
    of u = let by : Seen = record { parent = parent_of (body n); above = n.above ++ (body n ∷ []); earlier = u.0; use_ = u.1 } in each-imp (IsGivenBy by) (λ c. c.above ≡ n.above ++ (body n ∷ [])) (given_by by) (λ c g. g.above_is) (given-all by)

child-of : (ns : List Instance) (n c : Instance) → In ns n → AreOfNodes ns n → c.above ≡ n.above ++ (body n ∷ []) → AreOfNodes ns c
child-of ns n c i h e = subst (AllByRecursion (IsOfNode ns)) (sym (ap standing e ∙ standing-last [] n.above (body n))) (each-append (IsOfNode ns) (standing n.above) ((n.above, body n) ∷ []) h ((n, i, refl), tt))

below-of : (ns : List Instance) (k : ℕ) (n : Instance) → AreOfNodes ns n → AllByRecursion (In ns) (with_below k n) → AllByRecursion (AreOfNodes ns) (with_below k n)
below-of ns zero n h i = (h, tt)
below-of ns (suc k) n h i = (
  h,
  each-flat_map (AreOfNodes ns) (with_below k) (children n)
      (all-both (λ c. c.above ≡ n.above ++ (body n ∷ [])) (λ c. AllByRecursion (In ns) (with_below k c)) (λ c. AllByRecursion (AreOfNodes ns) (with_below k c)) (children n) (λ c e j. below-of ns k c (child-of ns n c i.0 h e) j) (in-body n) (split-flat (In ns) (with_below k) (children n) i.1)),
)

none-above : (ns : List Instance) (n : Instance) → n.above ≡ [] → AreOfNodes ns n
none-above ns n e = subst (λ up. AllByRecursion (IsOfNode ns) (standing up)) (sym e) tt

signals-of : (ns : List Instance) (s : Source) → AllByRecursion (AreOfNodes ns) (signals s)
signals-of ns s = each-flat_map (AreOfNodes ns) given_by (seen [] (root s)) (each-map (λ u. AllByRecursion (AreOfNodes ns) (given_by u)) (λ u. record { parent = parent_of (root s); above = []; earlier = u.0; use_ = u.1 }) (standing (uses (root s))) of)
  where
    of : (u : List Use × Use) → AllByRecursion (AreOfNodes ns) (given_by (record { parent = parent_of (root s); above = []; earlier = u.0; use_ = u.1 }))
    of u = let by : Seen = record { parent = parent_of (root s); above = []; earlier = u.0; use_ = u.1 } in each-imp (IsGivenBy by) (AreOfNodes ns) (given_by by) (λ c g. none-above ns c g.above_is) (given-all by)

tops-above : (wanted : Option (List ℕ)) (s : Source) → AllByRecursion (λ n. n.above ≡ []) (top_of wanted s)
tops-above wanted s = each-flat_map (λ n. n.above ≡ []) _ (option_to_list (top_use_of wanted s)) (all (top_use_of wanted s))
  where
    all : (o : Option Use) → AllByRecursion (λ u. AllByRecursion (λ n. n.above ≡ []) (given_by (top_seen u))) (option_to_list o)
    all None = tt
    all (Some u) = (each-imp (IsGivenBy (top_seen u)) (λ n. n.above ≡ []) (given_by (top_seen u)) (λ n g. g.above_is) (given-all (top_seen u)), tt)

pub above-of-nodes : (wanted : Option (List ℕ)) (s : Source) → AllByRecursion (AreOfNodes (nodes wanted s)) (nodes wanted s)
unfolding nodes
above-of-nodes wanted s = each-append (AreOfNodes all) (signals s) tops (signals-of all s)
    (each-flat_map (AreOfNodes all) (with_below most_names) (top_of wanted s) (all-both (λ n. n.above ≡ []) (λ n. AllByRecursion (In all) (with_below most_names n)) (λ n. AllByRecursion (AreOfNodes all) (with_below most_names n)) (top_of wanted s) (λ n e i. below-of all most_names n (none-above all n e) i) (tops-above wanted s) (split-flat (In all) (with_below most_names) (top_of wanted s) (right-part (In all) (signals s) tops (each-itself all)))))
  where
    tops : List Instance
    tops = flat_map (with_below most_names) (top_of wanted s)

    all : List Instance
    all = signals s ++ tops

pub nodes-in : (wanted : Option (List ℕ)) (s : Source) → AllByRecursion (In (nodes wanted s)) (nodes wanted s)
nodes-in wanted s = each-itself (nodes wanted s)
