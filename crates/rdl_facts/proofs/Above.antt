-- The bodies above a node are those of nodes, and no two nodes have one path.
use Rattle.std.proofs.Common.{◌≡◌, ◌∙◌, ℕ, zero, suc, ◌<◌, ◌⊎◌, inl, inr, List, [], ◌∷◌, ◌++◌, flat_map, Option, None, Some, option_to_list, slice_get, refl, sym, ap, subst, arith}
use Rattle.std.specs.List.{AllByRecursion}
use Rattle.rdl_tree.specs.declared.item.Source.{Source}
use Rattle.rdl_tree.specs.declared.node.Elab.{Elab}
use Rattle.rdl_values.specs.Bodies.{Body, standing}
use Rattle.rdl_values.specs.Elaborated.{nodes_of, top_name}
use Rattle.rdl_values.specs.Given.{IsGivenBy}
use Rattle.rdl_values.specs.Instances.{Instance, body, children, given_by, most_names, nodes, root, signals, top_of, with_below}
use Rattle.rdl_values.specs.Scopes.{IsAmong}
use Rattle.rdl_values.specs.Top.{top_seen, top_use_of}
use Rattle.rdl_values.specs.Uses.{Seen, Use, parent_of, seen, uses}
use Rattle.rdl_values.proofs.Given.{each-map, given-all}
use Rattle.plain_lemmas.proofs.Lists.{each-append, each-flat_map, each-imp}
use Rattle.rdl_nodes.proofs.Paths.{paths_differ}
use Rattle.rdl_nodes.proofs.Members.{In, each-in, get-read, get-within, in-flat, in-right}

-- Nodes keep the bodies that their use is seen in.

abbrev HasAbove : List Body → Instance → Type 0
HasAbove bs n = n.above ≡ bs

-- a use of a body, as it is seen there
abbrev seen-as : List Body → Body → List Use × Use → Seen
seen-as above b u = record { parent = parent_of b; above = above; earlier = u.0; use_ = u.1 }

given-above : (s : Seen) → AllByRecursion (HasAbove s.above) (given_by s)
given-above s = each-imp (IsGivenBy s) (HasAbove s.above) (given_by s) (λ c g. g.above_is) (given-all s)

body-above : (bs : List Body) (b : Body) → AllByRecursion (HasAbove bs) (flat_map given_by (seen bs b))
body-above bs b = each-flat_map (HasAbove bs) given_by (seen bs b) (each-map (λ s. AllByRecursion (HasAbove bs) (given_by s)) (seen-as bs b) (standing (uses b)) (λ u. given-above (seen-as bs b u)))

children-above : (n : Instance) → AllByRecursion (HasAbove (n.above ++ (body n ∷ []))) (children n)
children-above n = body-above (n.above ++ (body n ∷ [])) (body n)

tops-above : (wanted : Option (List ℕ)) (s : Source) → AllByRecursion (HasAbove []) (top_of wanted s)
tops-above wanted s = each-flat_map (HasAbove []) (λ u. given_by (top_seen u)) (option_to_list (top_use_of wanted s)) (all (top_use_of wanted s))
  where
    all : (o : Option Use) → AllByRecursion (λ u. AllByRecursion (HasAbove []) (given_by (top_seen u))) (option_to_list o)
    all None = tt
    all (Some u) = (given-above (top_seen u), tt)

-- Those of all nodes.

pub among-either : (xs ys : List Body) (b : Body) → IsAmong (xs ++ ys) b → IsAmong xs b ⊎ IsAmong ys b
among-either [] ys b h = inr h
among-either (x ∷ xs) ys b (inl e) = inl (inl e)
among-either (x ∷ xs) ys b (inr h) = go (among-either xs ys b h)
  where
    go : IsAmong xs b ⊎ IsAmong ys b → IsAmong (x ∷ xs) b ⊎ IsAmong ys b
    go (inl p) = inl (inr p)
    go (inr p) = inr p

each-with : (P Q : Instance → Type 0) (ns : List Instance) → ((n : Instance) → In ns n → Q n → P n) → AllByRecursion Q ns → AllByRecursion P ns
each-with P Q [] f h = tt
each-with P Q (n ∷ ns) f h = (f n (inl refl) h.0, each-with P Q ns (λ m i q. f m (inr i) q) h.1)

-- the body is that of one of these nodes
abbrev pub IsNodes : List Instance → Body → Type 0
IsNodes all b = (a : Instance) × In all a × (b ≡ body a)

module _ (all : List Instance) where
  -- so is each body above
  abbrev pub IsUnder : Instance → Type 0
  IsUnder n = (b : Body) → IsAmong n.above b → IsNodes all b

  under-none : (n : Instance) → HasAbove [] n → IsUnder n
  under-none n e b h = absurd (subst (λ bs. IsAmong bs b) e h)

  under-one : (n c : Instance) → In all n → IsUnder n → HasAbove (n.above ++ (body n ∷ [])) c → IsUnder c
  under-one n c among h e b i = go (among-either n.above (body n ∷ []) b (subst (λ bs. IsAmong bs b) e i))
    where
      go : IsAmong n.above b ⊎ IsAmong (body n ∷ []) b → IsNodes all b
      go (inl p) = h b p
      go (inr (inl q)) = (n, among, sym q)
      go (inr (inr q)) = absurd q

  under-below : (k : ℕ) (n : Instance) → IsUnder n → ((m : Instance) → In (with_below k n) m → In all m) → AllByRecursion IsUnder (with_below k n)
  under-below zero n h among = (h, tt)
  under-below (suc k) n h among = (
    h,
    each-flat_map IsUnder (with_below k) (children n)
        (each-with (λ c. AllByRecursion IsUnder (with_below k c)) (HasAbove (n.above ++ (body n ∷ []))) (children n)
        (λ c i e. under-below k c (under-one n c (among n (inl refl)) h e) (λ m j. among m (inr (in-flat (with_below k) (children n) c m i j)))) (children-above n)),
  )

under-all : (wanted : Option (List ℕ)) (s : Source) → AllByRecursion (IsUnder (nodes wanted s)) (nodes wanted s)
unfolding nodes
under-all wanted s =
    let all = signals s ++ flat_map (with_below most_names) (top_of wanted s) in
    each-append (IsUnder all) (signals s) (flat_map (with_below most_names) (top_of wanted s)) (each-imp (HasAbove []) (IsUnder all) (signals s) (under-none all) (body-above [] (root s)))
    (each-flat_map (IsUnder all) (with_below most_names) (top_of wanted s)
    (each-with (λ n. AllByRecursion (IsUnder all) (with_below most_names n)) (HasAbove []) (top_of wanted s)
    (λ n i e. under-below all most_names n (under-none all n e) (λ m j. in-right (signals s) (flat_map (with_below most_names) (top_of wanted s)) m (in-flat (with_below most_names) (top_of wanted s) n m i j))) (tops-above wanted s)))

pub above-nodes : (e : Elab) (n : Instance) → In (nodes_of e) n → (b : Body) → IsAmong n.above b → IsNodes (nodes_of e) b
above-nodes e n among = each-in (IsUnder (nodes_of e)) (nodes_of e) n (under-all (Some (top_name e)) e.source.now) among

-- Paths.

module _ (e : Elab) where
  not-before : (a b : ℕ) (x y : Instance) → slice_get (nodes_of e) a ≡ Some x → slice_get (nodes_of e) b ≡ Some y → x.path ≡ y.path → a < b → ⊥
  not-before a b x y p q path less =
      let ns = nodes_of e in
      let differ = paths_differ (Some (top_name e)) e.source.now a b y less (get-within ns b y q) in
      differ (ap (λ n. n.path) (get-read ns a y x p) ∙ (path ∙ sym (ap (λ n. n.path) (get-read ns b y y q))))

  pub one-by-path : (i j : ℕ) (m n : Instance) → slice_get (nodes_of e) i ≡ Some m → slice_get (nodes_of e) j ≡ Some n → m.path ≡ n.path → m ≡ n
  one-by-path i j m n at_i at_j path = by (split i j)
    where
      split : (a b : ℕ) → (a < b) ⊎ (b < a) ⊎ (a ≡ b)
      split a b = grind arith

      by : (i < j) ⊎ (j < i) ⊎ (i ≡ j) → m ≡ n
      by (inl l) = absurd (not-before i j m n at_i at_j path l)
      by (inr (inl l)) = absurd (not-before j i n m at_j at_i (sym path) l)
      by (inr (inr s)) = let both : Some m ≡ Some n = sym at_i ∙ ap (slice_get (nodes_of e)) s ∙ at_j in cc
