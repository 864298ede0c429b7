-- The texts of the paths of a tree's nodes.
use Rattle.std.proofs.Common.{◌≡◌, ◌∙◌, ℕ, zero, suc, ◌+◌, ◌*◌, ◌<◌, ◌≤◌, ◌^◌, Bool, true, false, cond, List, [], ◌∷◌, ◌++◌, length, map, flat_map, drop, Option, None, Some, option_to_list, Ok, Err, Contains, refl, sym, ap, subst, append-nil, arith}
use Rattle.std.specs.List.{AllByRecursion, list_all}
use Rattle.std.proofs.lemmas.List.{length-append, length-drop, length-map}
use Rattle.std.proofs.lemmas.List.Elements.{All-contains, All-from_recursion, recursion_from_All}
use Rattle.plain_lemmas.proofs.Lists.{each-append, each-flat_map, each-imp, each-left as part-left, each-right as part-right}
use Rattle.rdl_tree.specs.declared.item.Kind.{Kind}
use Rattle.rdl_tree.specs.declared.item.Source.{Source}
use Rattle.rdl_tree.specs.declared.node.Elab.{Elab}
use Rattle.rdl_tree.specs.Words.{IsWordName}
use Rattle.rdl_values.specs.Bodies.{Closure}
use Rattle.rdl_values.specs.Elaborated.{HasWords, nodes_of, top_name}
use Rattle.rdl_values.specs.Elaboration.{IsClean}
use Rattle.rdl_values.specs.Instances.{Instance, body, children, elements, given_by, kind_of, most_names, most_nodes, nodes, rows, seen_in, signals, top_of, upto, with_below}
use Rattle.rdl_values.specs.NoNode.{no_node}
use Rattle.rdl_values.specs.Parameters.{Bound, bound_of}
use Rattle.rdl_values.specs.Parts.{dims_of, is_empty}
use Rattle.rdl_values.specs.Paths.{Path, Step, at_root, below_top, in_node, of_signal, path_in, path_text, steps_of}
use Rattle.rdl_values.specs.Phase3.{failures3, first_over}
use Rattle.rdl_values.specs.Top.{root}
use Rattle.rdl_values.specs.Uses.{Seen, seen}
use Rattle.rdl_values.specs.Values.{Outcome}
use Rattle.rdl_values.proofs.Clean.{none_over}
use Rattle.rdl_values.proofs.Given.{seen-parents, tops-given}
use Rattle.rdl_values.proofs.Sorted.{none_fails}
use Rattle.rdl_refs.specs.Leads.{is_at_root}
use Rattle.v_design.specs.Lexemes.{is_name_byte}
use Rattle.rdl_sound_laws.proofs.Spelled.{IsSpelled, joined_bytes, joined_steps}

-- Indices are below the count of the elements.

abbrev AreBelow : ℕ → List ℕ → Type 0
AreBelow n is = AllByRecursion (λ i. i < n) is

below : (n : ℕ) → AllByRecursion (λ k. k < n) (upto n)
below zero = tt
below (suc n) = each-append (λ k. k < suc n) (upto n) (n ∷ []) (each-imp (λ k. k < n) (λ k. k < suc n) (upto n) (λ k l. omega (arith, l)) (below n)) (omega arith, tt)

below-more : (m n : ℕ) (is : List ℕ) → m ≤ n → AreBelow m is → AreBelow n is
below-more m n is l h = each-imp (λ i. i < m) (λ i. i < n) is (λ i b. omega (arith, l, b)) h

headed : (n i : ℕ) (rs : List (List ℕ)) → i < n → AllByRecursion (AreBelow n) rs → AllByRecursion (AreBelow n) (map (λ is. i ∷ is) rs)
headed n i [] l h = tt
headed n i (r ∷ rs) l h = ((l, h.0), headed n i rs l h.1)

blocks_size : (k : ℕ) (rs : List (List ℕ)) (is : List ℕ) → length rs ≡ k → length (flat_map (λ i. map (λ js. i ∷ js) rs) is) ≡ length is * k
blocks_size k rs [] e = omega arith
blocks_size k rs (i ∷ is) e =
    let rec = blocks_size k rs is e in
    let one = length-map rs (λ js. i ∷ js) in
    let both = length-append (map (λ js. i ∷ js) rs) (flat_map (λ i. map (λ js. i ∷ js) rs) is) in
    let more : (length is + 1) * k ≡ length is * k + k = omega arith in
    omega (arith, rec, one, both, e, more)

upto-size : (n : ℕ) → length (upto n) ≡ n
upto-size zero = refl
upto-size (suc n) = let rec = upto-size n in let s = length-append (upto n) (n ∷ []) in omega (arith, rec, s)

headed_if : (n i : ℕ) (rs : List (List ℕ)) → (0 < length rs → i < n) → AllByRecursion (AreBelow n) rs → AllByRecursion (AreBelow n) (map (λ is. i ∷ is) rs)
headed_if n i [] f h = tt
headed_if n i (r ∷ rs) f h = headed n i (r ∷ rs) (f (omega arith)) h

some_times : (d m n : ℕ) → 0 < m → d * m ≤ n → d ≤ n
some_times d zero n h l = absurd (omega (arith, h))
some_times d (suc m) n h l = let more : d * (m + 1) ≡ d * m + d = omega arith in omega (arith, l, more)

-- each index of the elements of an array is below their count, or there are none
rows_below : (dims : List ℕ) (n : ℕ) → length (rows dims) ≤ n → AllByRecursion (AreBelow n) (rows dims)
rows_below [] n l = (tt, tt)
rows_below (zero ∷ ds) n l = tt
rows_below (suc d ∷ ds) n l =
    let total : length (rows (suc d ∷ ds)) ≡ suc d * length (rows ds) = blocks_size (length (rows ds)) (rows ds) (upto (suc d)) refl ∙ ap (λ k. k * length (rows ds)) (upto-size (suc d)) in
    let split : suc d * length (rows ds) ≡ d * length (rows ds) + length (rows ds) = omega arith in
    let lows = rows_below ds n (omega (arith, total, split, l)) in
    each-flat_map (AreBelow n) (λ i. map (λ js. i ∷ js) (rows ds)) (upto (suc d)) (each-imp (λ i. i < suc d) (λ i. AllByRecursion (AreBelow n) (map (λ js. i ∷ js) (rows ds))) (upto (suc d)) (λ i b. headed_if n i (rows ds) (λ some. let w = some_times (suc d) (length (rows ds)) n some (omega (arith, total, l)) in omega (arith, b, w)) lows) (below (suc d)))

-- Nodes of a use, by their indices.

record IsFewth (s : Seen) (n : Instance) : Type 0 where
  index : List ℕ
  use_is : n.use_ ≡ s.use_
  path_is : n.path ≡ path_in s.parent (record { name = s.use_.name.text.now; index = index })
  small : AreBelow most_nodes index

fewth : (s : Seen) → length (given_by s) ≤ most_nodes → AllByRecursion (IsFewth s) (given_by s)
fewth s l = clean (is_empty (no_node s)) refl
  where
    listed : (c : Closure) (b : Outcome Bound) (d : Outcome (List ℕ)) → length (elements s c b d) ≤ most_nodes → AllByRecursion (IsFewth s) (elements s c b d)
    listed c (Ok bound) (Ok dims) few = one (rows dims) (rows_below dims most_nodes (subst (λ k. k ≤ most_nodes) (length-map (rows dims) _) few))
      where
        one : (rs : List (List ℕ)) → AllByRecursion (AreBelow most_nodes) rs → AllByRecursion (IsFewth s) (map (λ is. record { above = s.above; path = path_in s.parent (record { name = s.use_.name.text.now; index = is }); use_ = s.use_; closure = c; bound = bound }) rs)
        one [] h = tt
        one (r ∷ rs) h = (record { index = r; use_is = refl; path_is = refl; small = h.0 }, one rs h.1)
    listed c (Ok bound) (Err f) few = tt
    listed c (Err f) d few = tt

    closures : (o : Option Closure) → length (flat_map (λ c. elements s c (bound_of s.use_ c) (dims_of s.use_ c.def.kind)) (option_to_list o)) ≤ most_nodes → AllByRecursion (IsFewth s) (flat_map (λ c. elements s c (bound_of s.use_ c) (dims_of s.use_ c.def.kind)) (option_to_list o))
    closures None few = tt
    closures (Some c) few = let whole = append-nil (elements s c (bound_of s.use_ c) (dims_of s.use_ c.def.kind)) in subst (AllByRecursion (IsFewth s)) (sym whole) (listed c (bound_of s.use_ c) (dims_of s.use_ c.def.kind) (subst (λ ns. length ns ≤ most_nodes) whole few))

    clean : (b : Bool) → is_empty (no_node s) ≡ b → AllByRecursion (IsFewth s) (cond b (flat_map (λ c. elements s c (bound_of s.use_ c) (dims_of s.use_ c.def.kind)) (option_to_list s.use_.closure)) [])
    clean true e = closures s.use_.closure (subst (λ b. length (cond b (flat_map (λ c. elements s c (bound_of s.use_ c) (dims_of s.use_ c.def.kind)) (option_to_list s.use_.closure)) []) ≤ most_nodes) e l)
    clean false e = tt

all_fewth : (us : List Seen) → length (flat_map given_by us) ≤ most_nodes → AllByRecursion (λ u. AllByRecursion (IsFewth u) (given_by u)) us
all_fewth [] l = tt
all_fewth (u ∷ us) l = let both = length-append (given_by u) (flat_map given_by us) in (fewth u (omega (arith, both, l)), all_fewth us (omega (arith, both, l)))

-- Paths of words and small indices.

abbrev Has : Instance → Type 0
Has n = IsWordName n.use_.name

abbrev Spelled : Instance → Type 0
Spelled n = AllByRecursion IsSpelled (steps_of n.path)

step_spelled : (s : Seen) (n : Instance) (f : IsFewth s n) → Has n → IsSpelled (record { name = s.use_.name.text.now; index = f.index })
step_spelled s n f h = (subst (λ u. IsWordName u.name) f.use_is h, below-more most_nodes (2 ^ 64) f.index (omega arith) f.small)

-- a node in the body of a node under the top
record InBody (p : Path) (k : Kind) (c : Instance) : Type 0 where
  by : Seen
  in_ : by.parent ≡ in_node p k
  fewth_ : IsFewth by c

in_body : (n : Instance) → length (children n) ≤ most_nodes → AllByRecursion (InBody n.path (kind_of n)) (children n)
in_body n l = each-flat_map (InBody n.path (kind_of n)) given_by (seen_in n) (both (seen_in n) (seen-parents _ (body n)) (all_fewth (seen_in n) l))
  where
    both : (us : List Seen) → AllByRecursion (λ s. s.parent ≡ in_node n.path (kind_of n)) us → AllByRecursion (λ u. AllByRecursion (IsFewth u) (given_by u)) us → AllByRecursion (λ u. AllByRecursion (InBody n.path (kind_of n)) (given_by u)) us
    both [] p f = tt
    both (u ∷ us) p f = (each-imp (IsFewth u) (InBody n.path (kind_of n)) (given_by u) (λ c g. record { by = u; in_ = p.0; fewth_ = g }) f.0, both us p.1 f.1)

record Longer (ss : List Step) (c : Instance) : Type 0 where
  step : Step
  path_is : c.path ≡ below_top (ss ++ (step ∷ []))
  all : AllByRecursion IsSpelled (ss ++ (step ∷ []))

spelled_child : (n c : Instance) (ss : List Step) → n.path ≡ below_top ss → AllByRecursion IsSpelled ss → InBody n.path (kind_of n) c → Has c → Longer ss c
spelled_child n c ss e h g w =
    let step : Step = record { name = g.by.use_.name.text.now; index = g.fewth_.index } in
    let path : c.path ≡ below_top (ss ++ (step ∷ [])) = g.fewth_.path_is ∙ ap (λ q. path_in q step) g.in_ ∙ ap (λ q. path_in (in_node q (kind_of n)) step) e in
    record { step = step; path_is = path; all = each-append IsSpelled ss (step ∷ []) h (step_spelled g.by c g.fewth_ w, tt) }

head_of : (P : Instance → Type 0) (k : ℕ) (n : Instance) → AllByRecursion P (with_below k n) → P n
head_of P zero n h = h.0
head_of P (suc k) n h = h.0

some_below : (k : ℕ) (n : Instance) → 1 ≤ length (with_below k n)
some_below zero n = omega arith
some_below (suc k) n = omega arith

long : (k : ℕ) (ns : List Instance) → length ns ≤ length (flat_map (with_below k) ns)
long k [] = omega arith
long k (n ∷ ns) =
    let rec = long k ns in
    let first = some_below k n in
    let both = length-append (with_below k n) (flat_map (with_below k) ns) in
    omega (arith, rec, first, both)

-- all nodes of a subtree, where those of a child's are
module _ (k : ℕ) (under : (n : Instance) (ss : List Step) → n.path ≡ below_top ss → AllByRecursion IsSpelled ss → AllByRecursion Has (with_below k n) → length (with_below k n) ≤ most_nodes → AllByRecursion Spelled (with_below k n)) where
  inside : (n : Instance) (ss : List Step) → n.path ≡ below_top ss → AllByRecursion IsSpelled ss → (cs : List Instance) → AllByRecursion (InBody n.path (kind_of n)) cs → AllByRecursion Has (flat_map (with_below k) cs) → length (flat_map (with_below k) cs) ≤ most_nodes → AllByRecursion Spelled (flat_map (with_below k) cs)
  inside n ss e h [] g v m = tt
  inside n ss e h (c ∷ cs) g v m =
      let mine = part-left Has (with_below k c) (flat_map (with_below k) cs) v in
      let one = spelled_child n c ss e h g.0 (head_of Has k c mine) in
      let both = length-append (with_below k c) (flat_map (with_below k) cs) in
      each-append Spelled (with_below k c) (flat_map (with_below k) cs) (under c (ss ++ (one.step ∷ [])) one.path_is one.all mine (omega (arith, both, m))) (inside n ss e h cs g.1 (part-right Has (with_below k c) (flat_map (with_below k) cs) v) (omega (arith, both, m)))

spelled_below : (k : ℕ) (n : Instance) (ss : List Step) → n.path ≡ below_top ss → AllByRecursion IsSpelled ss → AllByRecursion Has (with_below k n) → length (with_below k n) ≤ most_nodes → AllByRecursion Spelled (with_below k n)
spelled_below zero n ss e h w l = (subst (λ p. AllByRecursion IsSpelled (steps_of p)) (sym e) h, tt)
spelled_below (suc k) n ss e h w l =
    let low = long k (children n) in
    (subst (λ p. AllByRecursion IsSpelled (steps_of p)) (sym e) h, inside k (λ c ts. spelled_below k c ts) n ss e h (children n) (in_body n (omega (arith, low, l))) w.1 (omega (arith, l)))

-- All nodes.

module _ (e : Elab) (clean : IsClean e) (words : HasWords (Some (top_name e)) e.source.now) where
  abbrev src : Source
  src = e.source.now

  abbrev wanted : Option (List ℕ)
  wanted = Some (top_name e)

  few : length (nodes_of e) ≤ most_nodes
  few = go (drop most_nodes (nodes_of e)) refl (none_over wanted src (none_fails (failures3 wanted src) clean.elaborated.clean))
    where
      go : (ns : List Instance) → drop most_nodes (nodes_of e) ≡ ns → first_over (drop most_nodes (nodes_of e)) ≡ [] → length (nodes_of e) ≤ most_nodes
      go [] q h = let size = sym (length-drop most_nodes (nodes_of e)) ∙ ap length q in omega (arith, size)
      go (n ∷ ns) q h = let no = sym (ap first_over q) ∙ h in cc

  abbrev below_all : List Instance
  below_all = flat_map (with_below most_names) (top_of wanted src)

  parts : nodes_of e ≡ signals src ++ below_all
  unfolding nodes
  parts = refl

  size : length (signals src) + length below_all ≤ most_nodes
  size = let both = ap length parts ∙ length-append (signals src) below_all in let l = few in omega (arith, both, l)

  has : AllByRecursion Has (signals src ++ below_all)
  has = subst (AllByRecursion Has) parts (recursion_from_All Has (nodes_of e) words)

  signals_spelled : AllByRecursion Spelled (signals src)
  signals_spelled = let l = size in all (seen [] (root src)) (seen-parents [] (root src)) (all_fewth (seen [] (root src)) (omega (arith, l))) (part-left Has (signals src) below_all has)
    where
      one : (u : Seen) (ns : List Instance) → u.parent ≡ at_root → AllByRecursion (IsFewth u) ns → AllByRecursion Has ns → AllByRecursion Spelled ns
      one u [] p f h = tt
      one u (n ∷ ns) p f h =
          let step : Step = record { name = u.use_.name.text.now; index = f.0.index } in
          let path : n.path ≡ of_signal step = f.0.path_is ∙ ap (λ q. path_in q step) p in
          (subst (λ q. AllByRecursion IsSpelled (steps_of q)) (sym path) (step_spelled u n f.0 h.0, tt), one u ns p f.1 h.1)

      all : (us : List Seen) → AllByRecursion (λ u. u.parent ≡ at_root) us → AllByRecursion (λ u. AllByRecursion (IsFewth u) (given_by u)) us → AllByRecursion Has (flat_map given_by us) → AllByRecursion Spelled (flat_map given_by us)
      all [] p f h = tt
      all (u ∷ us) p f h = each-append Spelled (given_by u) (flat_map given_by us) (one u (given_by u) p.0 f.0 (part-left Has (given_by u) (flat_map given_by us) h)) (all us p.1 f.1 (part-right Has (given_by u) (flat_map given_by us) h))

  tops_spelled : AllByRecursion Spelled below_all
  tops_spelled = let l = size in all (top_of wanted src) (tops-given wanted src) (part-right Has (signals src) below_all has) (omega (arith, l))
    where
      all : (ns : List Instance) → AllByRecursion (λ n. n.path ≡ below_top []) ns → AllByRecursion Has (flat_map (with_below most_names) ns) → length (flat_map (with_below most_names) ns) ≤ most_nodes → AllByRecursion Spelled (flat_map (with_below most_names) ns)
      all [] p h m = tt
      all (n ∷ ns) p h m =
          let both = length-append (with_below most_names n) (flat_map (with_below most_names) ns) in
          each-append Spelled (with_below most_names n) (flat_map (with_below most_names) ns) (spelled_below most_names n [] p.0 tt (part-left Has (with_below most_names n) (flat_map (with_below most_names) ns) h) (omega (arith, both, m))) (all ns p.1 (part-right Has (with_below most_names n) (flat_map (with_below most_names) ns) h) (omega (arith, both, m)))

  pub all_spelled : AllByRecursion Spelled (nodes_of e)
  all_spelled = subst (AllByRecursion Spelled) (sym parts) (each-append Spelled (signals src) below_all signals_spelled tops_spelled)

spelled_at : (e : Elab) → IsClean e → HasWords (Some (top_name e)) e.source.now → (n : Instance) → Contains (nodes_of e) n → Spelled n
spelled_at e clean words n c = All-contains Spelled (nodes_of e) n (All-from_recursion Spelled (nodes_of e) (all_spelled e clean words)) c

abbrev first_or : Step → List Step → Step
first_or s [] = s
first_or s (t ∷ ts) = t

one_text : (p q : Path) → AllByRecursion IsSpelled (steps_of p) → AllByRecursion IsSpelled (steps_of q) → is_at_root p ≡ is_at_root q → path_text p ≡ path_text q → p ≡ q
one_text (of_signal t) (of_signal u) h g e x = ap (λ us. of_signal (first_or t us)) (joined_steps (t ∷ []) (u ∷ []) h g x)
one_text (below_top ss) (below_top ts) h g e x = ap below_top (joined_steps ss ts h g x)
one_text (of_signal t) (below_top ts) h g e x = cc
one_text (below_top ss) (of_signal t) h g e x = cc

pub differ : (e : Elab) (m n : Instance) → IsClean e → HasWords (Some (top_name e)) e.source.now → Contains (nodes_of e) m → Contains (nodes_of e) n → is_at_root m.path ≡ is_at_root n.path → path_text m.path ≡ path_text n.path → m.path ≡ n.path
differ e m n clean words c d r t = one_text m.path n.path (spelled_at e clean words m c) (spelled_at e clean words n d) r t

pub spelled : (e : Elab) (n : Instance) → IsClean e → HasWords (Some (top_name e)) e.source.now → Contains (nodes_of e) n → list_all is_name_byte (path_text n.path) ≡ true
spelled e n clean words c = joined_bytes (steps_of n.path) (spelled_at e clean words n c)
