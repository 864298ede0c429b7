-- The elements of a use, and where the uses in their bodies stand.
use Rattle.std.proofs.Common.{◌≡◌, ◌∙◌, ℕ, zero, suc, ◌+◌, ◌-◌, ◌*◌, ◌<◌, ◌≤◌, ◌==◌, Bool, true, false, not, ◌||◌, cond, nat_lt, List, [], ◌∷◌, ◌++◌, length, flat_map, map, decimal, min, Option, None, Some, option_to_list, Ok, Err, refl, sym, ap, subst, arith, append_assoc, append-nil}
use Rattle.std.specs.List.{join_with_byte, list_any}
use Rattle.std.proofs.lemmas.Grind.{flat_map-append}
use Rattle.std.proofs.lemmas.List.{length-append, map-append}
use Rattle.std.proofs.lemmas.Bool.{ltb-false}
use Rattle.rdl_base.specs.declared.fault.Fault.{Fault}
use Rattle.rdl_tree.specs.declared.item.Kind.{Kind}
use Rattle.rdl_values.specs.Bodies.{Closure, Path, Step, of_signal, below_top}
use Rattle.rdl_base.specs.declared.rule.Rule.TheVariants as rules
use Rattle.rdl_values.specs.Faults.{at_, failures, when}
use Rattle.rdl_values.specs.Instances.{Instance, elements, given_by, kind_of, rows, upto, with_below}
use Rattle.rdl_values.specs.NoNode.{no_node, name_twice, of_type, of_closure, bad_alias, may_hold, most_names}
use Rattle.rdl_values.specs.Parameters.{Bound, bad_arguments, bound_of}
use Rattle.rdl_values.specs.Parts.{bad_array, bad_parts, dims_of, has_zero, is_empty, is_long, is_unit, long_path, last_step, most_bytes}
use Rattle.rdl_values.specs.Paths.{Parent, nowhere, at_root, in_node, depth_in, joined, path_in, steps_in, steps_of, words_of}
use Rattle.rdl_values.specs.Rows.{product, row}
use Rattle.rdl_values.specs.Uses.{Seen}
use Rattle.rdl_values.specs.Values.{Outcome}
use Rattle.rdl_values.proofs.Given.{of_visible}
use Rattle.rdl_uses.specs.Parts.{HasPrefix, StandsAt}
use Rattle.rdl_uses.specs.declared.standing.Standing.{Standing}
use Rattle.rdl_walk.specs.Walked.{Fits, FitsNode, element_of}

-- The elements of a use that gives nodes, by their numbers.

pub given_elements : (s : Seen) (c : Closure) (bound : Bound) (dims : List ℕ) → is_empty (no_node s) ≡ true → s.use_.closure ≡ Some c → bound_of s.use_ c ≡ Ok bound → dims_of s.use_ c.def.kind ≡ Ok dims → rows dims ≡ map (row dims) (upto (product dims))
    → given_by s ≡ map (λ k. element_of s c bound (row dims k)) (upto (product dims))
given_elements s c bound dims clean closure values numbers by_number =
    ap (λ b. cond b (flat_map (λ c. elements s c (bound_of s.use_ c) (dims_of s.use_ c.def.kind)) (option_to_list s.use_.closure)) []) clean
    ∙ ap (λ o. flat_map (λ c. elements s c (bound_of s.use_ c) (dims_of s.use_ c.def.kind)) (option_to_list o)) closure
    ∙ append-nil (elements s c (bound_of s.use_ c) (dims_of s.use_ c.def.kind))
    ∙ ap (λ b. elements s c b (dims_of s.use_ c.def.kind)) values
    ∙ ap (elements s c (Ok bound)) numbers
    ∙ ap (map (element_of s c bound)) by_number
    ∙ twice (element_of s c bound) (row dims) (upto (product dims))
  where
    twice : {X Y Z : Type 0} (f : Y → Z) (g : X → Y) (xs : List X) → map f (map g xs) ≡ map (λ x. f (g x)) xs
    twice f g [] = refl
    twice f g (x ∷ xs) = ap (λ ys. f (g x) ∷ ys) (twice f g xs)

-- the first elements, and the nodes below them
abbrev pub visited : ℕ → (ℕ → Instance) → ℕ → List Instance
visited levels f k = flat_map (with_below levels) (map f (upto k))

pub visited_more : (levels : ℕ) (f : ℕ → Instance) (k : ℕ) → visited levels f (suc k) ≡ visited levels f k ++ with_below levels (f k)
visited_more levels f k =
    ap (flat_map (with_below levels)) (map-append f (upto k) (k ∷ [])) ∙ flat_map-append (with_below levels) (map f (upto k)) (f k ∷ []) ∙ ap (λ ns. visited levels f k ++ ns) (append-nil (with_below levels (f k)))

pub visited_length : (levels : ℕ) (f : ℕ → Instance) (k : ℕ) → k ≤ length (visited levels f k)
visited_length levels f zero = omega arith
visited_length levels f (suc k) =
    let rec = visited_length levels f k in
    let e = ap length (visited_more levels f k) ∙ length-append (visited levels f k) (with_below levels (f k)) in
    let one = some levels (f k) in
    omega (arith, rec, e, one)
  where
    some : (l : ℕ) (n : Instance) → 1 ≤ length (with_below l n)
    some zero n = omega arith
    some (suc l) n = omega arith

-- the elements from one on
upto-add : (m n : ℕ) → upto (m + n) ≡ upto m ++ map (λ k. m + k) (upto n)
upto-add m zero = let e : m + 0 ≡ m = omega arith in ap upto e ∙ sym (append-nil (upto m))
upto-add m (suc n) =
    let e : m + suc n ≡ suc (m + n) = omega arith in
    ap upto e ∙ ap (λ ks. ks ++ ((m + n) ∷ [])) (upto-add m n) ∙ append_assoc (upto m) (map (λ k. m + k) (upto n)) ((m + n) ∷ []) ∙ ap (λ ks. upto m ++ ks) (sym (map-append (λ k. m + k) (upto n) (n ∷ [])))

pub visited_rest : (levels : ℕ) (f : ℕ → Instance) (k n : ℕ) → visited levels f (k + n) ≡ visited levels f k ++ flat_map (with_below levels) (map f (map (λ j. k + j) (upto n)))
visited_rest levels f k n =
    ap (λ ks. flat_map (with_below levels) (map f ks)) (upto-add k n) ∙ ap (flat_map (with_below levels)) (map-append f (upto k) (map (λ j. k + j) (upto n))) ∙ flat_map-append (with_below levels) (map f (upto k)) (map f (map (λ j. k + j) (upto n)))

-- Where the uses in the body of an element stand.

words : List Step → List (List ℕ)
words ss = flat_map words_of ss

joined-words : (a : List ℕ) (vs : List (List ℕ)) (b : List ℕ) (ws : List (List ℕ)) → length (join_with_byte 36 ((a ∷ vs) ++ (b ∷ ws))) ≡ length (join_with_byte 36 (a ∷ vs)) + 1 + length (join_with_byte 36 (b ∷ ws))
joined-words a [] b ws = length-append a (36 ∷ join_with_byte 36 (b ∷ ws)) ∙ omega arith
joined-words a (v ∷ vs) b ws =
    let rec = joined-words v vs b ws in
    let x = length-append a (36 ∷ join_with_byte 36 (v ∷ vs ++ (b ∷ ws))) in
    let y = length-append a (36 ∷ join_with_byte 36 (v ∷ vs)) in
    omega (arith, rec, x, y)

-- a step more, behind others or first
joined-step : (s t : Step) (ss : List Step) → length (joined ((s ∷ ss) ++ (t ∷ []))) ≡ length (joined (s ∷ ss)) + 1 + length (joined (t ∷ []))
joined-step s t ss =
    ap (λ ws. length (join_with_byte 36 ws)) (flat_map-append words_of (s ∷ ss) (t ∷ []))
    ∙ joined-words s.name (map decimal s.index ++ flat_map words_of ss) t.name (map decimal t.index ++ [])

-- the uses in the body of an element
pub stands_in : (at below : Standing) (p : Parent) (levels : ℕ) (x : Step) (k : Kind) → StandsAt at p → Fits p levels → below.depth ≡ at.depth + 1 → below.prefix ≡ at.prefix + length (joined (x ∷ [])) + 1 → StandsAt below (in_node (path_in p x) k)
stands_in at below nowhere levels x k h f d q = absurd f
stands_in at below at_root levels x k h f d q =
    let e = h.depth in
    let l = h.prefix x in
    record { depth = omega (arith, d, e); prefix = λ s. let j = joined-step x s [] in omega (arith, j, q, l) }
stands_in at below (in_node (of_signal t) l) levels x k h f d q = absurd f
stands_in at below (in_node (below_top ss) l) levels x k h f d q =
    let e = h.depth in
    let n = length-append ss (x ∷ []) in
    record { depth = omega (arith, d, e, n); prefix = λ s. let j = step ss s in let a = h.prefix x in omega (arith, j, q, a) }
  where
    step : (ss : List Step) (s : Step) → length (joined ((ss ++ (x ∷ [])) ++ (s ∷ []))) ≡ length (joined (ss ++ (x ∷ []))) + 1 + length (joined (s ∷ []))
    step [] s = joined-step x s []
    step (y ∷ ss) s = joined-step y s (ss ++ (x ∷ []))

pub fits_in : (p : Parent) (levels : ℕ) (x : Step) → Fits p levels → FitsNode (path_in p x) levels
fits_in nowhere levels x f = absurd f
fits_in at_root levels x f = f
fits_in (in_node (of_signal t) k) levels x f = absurd f
fits_in (in_node (below_top ss) k) levels x f = tt

-- below a node that stands below the top
pub fits_body : (path : Path) (k : Kind) (levels : ℕ) → FitsNode path (suc levels) → Fits (in_node path k) levels
fits_body (of_signal s) k levels f = absurd (omega (arith, f))
fits_body (below_top ss) k levels f = tt

-- The text of the last element isn't long.

right : {X : Type 0} (xs ys : List X) → is_empty (xs ++ ys) ≡ true → is_empty ys ≡ true
right [] ys e = e
right (x ∷ xs) ys e = cc

left : {X : Type 0} (xs ys : List X) → is_empty (xs ++ ys) ≡ true → is_empty xs ≡ true
left [] ys e = refl
left (x ∷ xs) ys e = cc

when-clean : (b : Bool) (f : Fault) → is_empty (when b f) ≡ true → b ≡ false
when-clean true f e = cc
when-clean false f e = refl

not-zero : (d : ℕ) → (suc d == 0) ≡ false
not-zero d = grind arith

no-zero : (dims : List ℕ) (k : ℕ) → k < product dims → list_any (λ d. d == 0) dims ≡ false
no-zero [] k l = refl
no-zero (zero ∷ ds) k l = let e : 0 * product ds ≡ 0 = omega arith in absurd (omega (arith, l, e))
no-zero (suc d ∷ ds) k l = ap (λ b. b || list_any (λ n. n == 0) ds) (not-zero d) ∙ no-zero ds 0 (positive (suc d) (product ds) k l)
  where
    positive : (d p k : ℕ) → k < d * p → 0 < p
    positive d zero k l = let e : d * 0 ≡ 0 = omega arith in absurd (omega (arith, l, e))
    positive d (suc p) k l = omega arith

not-long : (s : Seen) (c : Closure) → s.use_.closure ≡ Some c → is_empty (no_node s) ≡ true → is_long s.parent s.use_ (dims_of s.use_ c.def.kind) ≡ false
not-long s c closure clean =
    let all = of_visible s c closure clean in
    let k = c.def.kind in
    let u = s.use_ in
    let front = when (not (may_hold s.parent k)) (at_ rules.E5 u.name.place) ++ bad_arguments u c ++ failures (bound_of u c) ++ bad_parts u ++ when (nat_lt most_names (depth_in s.parent)) (at_ rules.E8 u.name.place) ++ bad_array u k in
    let short = right front (long_path s.parent u k) (left (front ++ long_path s.parent u k) (bad_alias s.earlier u) all) in
    when-clean (is_long s.parent u (dims_of u k)) (at_ rules.E11 u.name.place) short

-- so the text of no element is
pub text_fits : (s : Seen) (c : Closure) (at : Standing) (dims index : List ℕ) (number : ℕ) → s.use_.closure ≡ Some c → is_empty (no_node s) ≡ true → dims_of s.use_ c.def.kind ≡ Ok dims → StandsAt at s.parent → number < product dims
    → ((name : List ℕ) → length (joined (record { name = name; index = index } ∷ [])) ≤ length (joined (record { name = name; index = map (λ d. d - 1) dims } ∷ []))) → at.prefix + length (joined (record { name = s.use_.name.text.now; index = index } ∷ [])) ≤ 900
text_fits s c at dims index number closure clean numbers stands within short =
    let last = last_step s.use_ dims in
    let no : cond (list_any (λ d. d == 0) dims) false (nat_lt most_bytes (length (joined (steps_in s.parent last)))) ≡ false = sym (ap (is_long s.parent s.use_) numbers) ∙ not-long s c closure clean in
    let few = ltb-false 900 (length (joined (steps_in s.parent last))) (sym (ap (λ b. cond b false (nat_lt most_bytes (length (joined (steps_in s.parent last))))) (no-zero dims number within)) ∙ no) in
    let whole = stands.prefix last in
    let own = short s.use_.name.text.now in
    omega (arith, few, whole, own)
