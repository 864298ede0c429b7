-- The nodes in a body, taken up from the last one on, are the elements of its instances.
use Rattle.std.proofs.Common.{◌≡◌, ◌∙◌, ℕ, zero, suc, ◌<◌, ◌==◌, ◌&&◌, Bool, true, false, cond, ◌⊎◌, inl, inr, List, [], ◌∷◌, ◌++◌, map, flat_map, filter, Option, None, Some, option_to_list, Ok, Err, refl, sym, ap, subst, arith}
use Rattle.std.specs.List.{AllByRecursion}
use Rattle.std.proofs.lemmas.Bool.Decides.{nat_tests}
use Rattle.rdl_tree.specs.declared.item.Kind.{Kind}
use Rattle.rdl_values.specs.Bodies.{Closure, Step, below_top}
use Rattle.rdl_values.specs.Elaborated.{index_of, last_index}
use Rattle.rdl_values.specs.Instances.{Instance, body, children, elements, given_by, kind_of, rows, seen_in, upto}
use Rattle.rdl_values.specs.NoNode.{no_node}
use Rattle.rdl_values.specs.Parameters.{Bound, bound_of}
use Rattle.rdl_values.specs.Parts.{dims_of, is_empty}
use Rattle.rdl_values.specs.Paths.{in_node, path_in}
use Rattle.rdl_values.specs.Uses.{Seen, parent_of}
use Rattle.rdl_values.specs.Values.{Outcome}
use Rattle.rdl_values.proofs.Given.{seen-parents}
use Rattle.plain_lemmas.proofs.Lists.{each-append, each-imp}
use Rattle.rdl_addr.specs.Layout.{group, grouped, has_address, instances}
use Rattle.rdl_sizes.specs.Bodies.{addressed, all_zero, is_first, runs, with_one}
use Rattle.rdl_sizes.proofs.Gathered.{placed-by-kind}

-- Rows of an array: the first is 0 throughout, and no other is.

abbrev IsLed : List (List ℕ) → Type 0
IsLed [] = Unit {0}
IsLed (r ∷ rs) = (all_zero r ≡ true) × AllByRecursion (λ x. all_zero x ≡ false) rs

upto-led : (m : ℕ) → (ks : List ℕ) × (upto (suc m) ≡ 0 ∷ ks) × AllByRecursion (λ k. 0 < k) ks
upto-led zero = ([], refl, tt)
upto-led (suc m) = let h = upto-led m in (h.0 ++ (suc m ∷ []), ap (λ xs. xs ++ (suc m ∷ [])) h.1, each-append (λ k. 0 < k) h.0 (suc m ∷ []) h.2 (omega arith, tt))

abbrev under : List (List ℕ) → ℕ → List (List ℕ)
under rs i = map (λ is. i ∷ is) rs

none-under : (ks : List ℕ) → flat_map (under []) ks ≡ []
none-under [] = refl
none-under (k ∷ ks) = none-under ks

first-under : (rs : List (List ℕ)) → AllByRecursion (λ x. all_zero x ≡ false) rs → AllByRecursion (λ x. all_zero x ≡ false) (under rs 0)
first-under [] h = tt
first-under (r ∷ rs) h = (h.0, first-under rs h.1)

later-under : (rs : List (List ℕ)) (k : ℕ) → 0 < k → AllByRecursion (λ x. all_zero x ≡ false) (under rs k)
later-under [] k l = tt
later-under (r ∷ rs) k l = ((let e : (k == 0) ≡ false = grind (arith, nat_tests) in ap (λ b. b && all_zero r) e), later-under rs k l)

all-later : (rs : List (List ℕ)) (ks : List ℕ) → AllByRecursion (λ k. 0 < k) ks → AllByRecursion (λ x. all_zero x ≡ false) (flat_map (under rs) ks)
all-later rs [] h = tt
all-later rs (k ∷ ks) h = each-append (λ x. all_zero x ≡ false) (under rs k) (flat_map (under rs) ks) (later-under rs k h.0) (all-later rs ks h.1)

led-under : (rs : List (List ℕ)) → IsLed rs → (ks : List ℕ) → AllByRecursion (λ k. 0 < k) ks → IsLed (flat_map (under rs) (0 ∷ ks))
led-under [] h ks p = subst IsLed (sym (none-under ks)) tt
led-under (r ∷ rs) h ks p = (h.0, each-append (λ x. all_zero x ≡ false) (under rs 0) (flat_map (under (r ∷ rs)) ks) (first-under rs h.1) (all-later (r ∷ rs) ks p))

led : (dims : List ℕ) → IsLed (rows dims)
led [] = (refl, tt)
led (zero ∷ ds) = tt
led (suc d ∷ ds) = let h = upto-led d in subst (λ ks. IsLed (flat_map (under (rows ds)) ks)) (sym h.1) (led-under (rows ds) (led ds) h.0 h.2)

-- The elements of a use.

abbrev Away : Instance → Type 0
Away n = has_address n ≡ false

abbrev Follows : Instance → Type 0
Follows n = (has_address n ≡ true) × (is_first n ≡ false)

-- none has an address, or all have one, and the first alone is a first one
abbrev IsWhole : List Instance → Type 0
IsWhole [] = Unit {0}
IsWhole (n ∷ ns) = (has_address n ≡ true) × (is_first n ≡ true) × AllByRecursion Follows ns

abbrev IsBlock : List Instance → Type 0
IsBlock ns = AllByRecursion Away ns ⊎ IsWhole ns

last-step : (ss : List Step) (t : Step) → last_index (ss ++ (t ∷ [])) ≡ t.index
last-step [] t = refl
last-step (s ∷ []) t = refl
last-step (s ∷ u ∷ ss) t = last-step (u ∷ ss) t

module _ (s : Seen) (ss : List Step) (k : Kind) (p : s.parent ≡ in_node (below_top ss) k) where
  abbrev element : Closure → Bound → List ℕ → Instance
  element c b is = record { above = s.above; path = path_in s.parent (record { name = s.use_.name.text.now; index = is }); use_ = s.use_; closure = c; bound = b }

  index-is : (is : List ℕ) → index_of (path_in s.parent (record { name = s.use_.name.text.now; index = is })) ≡ is
  index-is is = ap (λ q. index_of (path_in q (record { name = s.use_.name.text.now; index = is }))) p ∙ last-step ss (record { name = s.use_.name.text.now; index = is })

  all-away : (c : Closure) (b : Bound) (rs : List (List ℕ)) → addressed c.def.kind ≡ false → AllByRecursion Away (map (element c b) rs)
  all-away c b [] e = tt
  all-away c b (r ∷ rs) e = (placed-by-kind (element c b r) ∙ e, all-away c b rs e)

  all-follow : (c : Closure) (b : Bound) (rs : List (List ℕ)) → addressed c.def.kind ≡ true → AllByRecursion (λ x. all_zero x ≡ false) rs → AllByRecursion Follows (map (element c b) rs)
  all-follow c b [] e h = tt
  all-follow c b (r ∷ rs) e h = ((placed-by-kind (element c b r) ∙ e, ap all_zero (index-is r) ∙ h.0), all-follow c b rs e h.1)

  whole-rows : (c : Closure) (b : Bound) (rs : List (List ℕ)) → addressed c.def.kind ≡ true → IsLed rs → IsWhole (map (element c b) rs)
  whole-rows c b [] e h = tt
  whole-rows c b (r ∷ rs) e h = (placed-by-kind (element c b r) ∙ e, ap all_zero (index-is r) ∙ h.0, all-follow c b rs e h.1)

  of-elements : (c : Closure) (b : Outcome Bound) (d : Outcome (List ℕ)) → IsBlock (elements s c b d)
  of-elements c (Ok b) (Ok dims) = go (addressed c.def.kind) refl
    where
      go : (t : Bool) → addressed c.def.kind ≡ t → IsBlock (map (element c b) (rows dims))
      go false e = inl (all-away c b (rows dims) e)
      go true e = inr (whole-rows c b (rows dims) e (led dims))
  of-elements c (Ok b) (Err f) = inl tt
  of-elements c (Err f) d = inl tt

  no-more : (xs : List Instance) → xs ++ [] ≡ xs
  no-more [] = refl
  no-more (x ∷ xs) = ap (λ l. x ∷ l) (no-more xs)

  of-closures : (o : Option Closure) → IsBlock (flat_map (λ c. elements s c (bound_of s.use_ c) (dims_of s.use_ c.def.kind)) (option_to_list o))
  of-closures None = inl tt
  of-closures (Some c) = subst IsBlock (sym (no-more (elements s c (bound_of s.use_ c) (dims_of s.use_ c.def.kind)))) (of-elements c (bound_of s.use_ c) (dims_of s.use_ c.def.kind))

  of-use : IsBlock (given_by s)
  of-use = go (is_empty (no_node s))
    where
      go : (t : Bool) → IsBlock (cond t (flat_map (λ c. elements s c (bound_of s.use_ c) (dims_of s.use_ c.def.kind)) (option_to_list s.use_.closure)) [])
      go true = of-closures s.use_.closure
      go false = inl tt

-- Taken up one by one.

runs-away : (ns rest : List Instance) → AllByRecursion Away ns → runs (ns ++ rest) ≡ runs rest
runs-away [] rest h = refl
runs-away (n ∷ ns) rest h = ap (λ b. with_one b (is_first n) n (runs (ns ++ rest))) h.0 ∙ runs-away ns rest h.1

runs-follow : (ns rest : List Instance) → AllByRecursion Follows ns → runs (ns ++ rest) ≡ record { head = ns ++ (runs rest).head; whole = (runs rest).whole }
runs-follow [] rest h = refl
runs-follow (n ∷ ns) rest h = (λ i. with_one (h.0.0 i) (h.0.1 i) n (runs-follow ns rest h.1 i))

runs-whole : (n : Instance) (ns rest : List Instance) → IsWhole (n ∷ ns) → runs ((n ∷ ns) ++ rest) ≡ record { head = []; whole = (n ∷ (ns ++ (runs rest).head)) ∷ (runs rest).whole }
runs-whole n ns rest h = (λ i. with_one (h.0 i) (h.1 i) n (runs-follow ns rest h.2 i))

filter-away : (ns : List Instance) → AllByRecursion Away ns → filter has_address ns ≡ []
filter-away [] h = refl
filter-away (n ∷ ns) h = ap (λ b. cond b (n ∷ filter has_address ns) (filter has_address ns)) h.0 ∙ filter-away ns h.1

filter-follow : (ns : List Instance) → AllByRecursion Follows ns → filter has_address ns ≡ ns
filter-follow [] h = refl
filter-follow (n ∷ ns) h = ap (λ b. cond b (n ∷ filter has_address ns) (filter has_address ns)) h.0.0 ∙ ap (λ l. n ∷ l) (filter-follow ns h.1)

filter-whole : (n : Instance) (ns : List Instance) → IsWhole (n ∷ ns) → filter has_address (n ∷ ns) ≡ n ∷ ns
filter-whole n ns h = ap (λ b. cond b (n ∷ filter has_address ns) (filter has_address ns)) h.0 ∙ ap (λ l. n ∷ l) (filter-follow ns h.2)

module _ (size access : Instance → ℕ) where
  abbrev IsGrouped : List Seen → Type 0
  IsGrouped ss = ((runs (flat_map given_by ss)).head ≡ []) × (grouped size access (runs (flat_map given_by ss)).whole ≡ grouped size access (map (λ s. filter has_address (given_by s)) ss))

  one-block : (s : Seen) (ss : List Seen) → IsBlock (given_by s) → IsGrouped ss → IsGrouped (s ∷ ss)
  one-block s ss h more = by (given_by s) refl h
    where
      rest : List Instance
      rest = flat_map given_by ss

      by : (ns : List Instance) → given_by s ≡ ns → IsBlock ns → ((runs (ns ++ rest)).head ≡ []) × (grouped size access (runs (ns ++ rest)).whole ≡ group size access (filter has_address ns) ++ grouped size access (map (λ s. filter has_address (given_by s)) ss))
      by ns e (inl away) =
          let same = runs-away ns rest away in
          let none = filter-away ns away in
          (ap (λ r. r.head) same ∙ more.0, ap (λ r. grouped size access r.whole) same ∙ (more.1 ∙ ap (λ l. group size access l ++ grouped size access (map (λ s. filter has_address (given_by s)) ss)) (sym none)))
      by [] e (inr whole) = (more.0, more.1)
      by (n ∷ ns) e (inr whole) =
          let same = runs-whole n ns rest whole in
          let all = filter-whole n ns whole in
          let alone : ns ++ (runs rest).head ≡ ns = ap (λ l. ns ++ l) more.0 ∙ ended ns in (
            ap (λ r. r.head) same,
            ap (λ r. grouped size access r.whole) same ∙ ((λ i. group size access (n ∷ alone i) ++ more.1 i) ∙ ap (λ l. group size access l ++ grouped size access (map (λ s. filter has_address (given_by s)) ss)) (sym all)),
          )
        where
          ended : (xs : List Instance) → xs ++ [] ≡ xs
          ended [] = refl
          ended (x ∷ xs) = ap (λ l. x ∷ l) (ended xs)

  all-blocks : (ss : List Seen) → AllByRecursion (λ s. IsBlock (given_by s)) ss → IsGrouped ss
  all-blocks [] h = (refl, refl)
  all-blocks (s ∷ ss) h = one-block s ss h.0 (all-blocks ss h.1)

  empty-both : (xs ys : List Instance) → xs ++ ys ≡ [] → (xs ≡ []) × (ys ≡ [])
  empty-both [] ys e = (refl, e)
  empty-both (x ∷ xs) ys e = cc e

  pub none-grouped : (ss : List Seen) → flat_map given_by ss ≡ [] → grouped size access (map (λ s. filter has_address (given_by s)) ss) ≡ []
  none-grouped [] e = refl
  none-grouped (s ∷ ss) e =
      let both = empty-both (given_by s) (flat_map given_by ss) e in
      ap (λ ns. group size access (filter has_address ns) ++ grouped size access (map (λ s. filter has_address (given_by s)) ss)) both.0 ∙ none-grouped ss both.1

  pub runs-are : (n : Instance) (ss : List Step) → n.path ≡ below_top ss → grouped size access (runs (children n)).whole ≡ grouped size access (instances n)
  runs-are n ss e = (all-blocks (seen_in n) (each-imp (λ s. s.parent ≡ parent_of (body n)) (λ s. IsBlock (given_by s)) (seen_in n) (λ s p. of-use s ss (kind_of n) (p ∙ ap (λ q. in_node q (kind_of n)) e)) (seen-parents _ (body n)))).1
