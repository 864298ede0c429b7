-- Where no rule on instances fails, each body gives its nodes, and these are few.
use Rattle.std.proofs.Common.{◌≡◌, ◌∙◌, ℕ, zero, suc, ◌+◌, ◌≤◌, true, List, [], ◌∷◌, ◌++◌, length, flat_map, drop, Option, refl, sym, ap, subst, arith}
use Rattle.std.specs.List.{AllByRecursion}
use Rattle.std.proofs.lemmas.List.{length-append, length-drop, take_all}
use Rattle.plain_lemmas.proofs.Lists.{each-imp, each-left, each-right}
use Rattle.rdl_tree.specs.declared.item.Source.{Source}
use Rattle.rdl_values.specs.Bodies.{of_signal}
use Rattle.rdl_values.specs.Instances.{Instance, body, children, kind_of, most_names, most_nodes, nodes, seen_in, signals, top_of, with_below}
use Rattle.rdl_values.specs.NoNode.{is_signal, may_hold}
use Rattle.rdl_values.specs.Paths.{path_in}
use Rattle.rdl_values.specs.Phase3.{failures3, first_over, of_node}
use Rattle.rdl_values.specs.Top.{root}
use Rattle.rdl_values.specs.Uses.{seen}
use Rattle.rdl_values.proofs.Clean.{nodes_nil, none_over, root_nil, uses_clean}
use Rattle.rdl_values.proofs.Given.{IsAtRoot, held, signals-given}
use Rattle.rdl_values.proofs.Numbered.{At, Deep, bottom, lower, tops_deep}
use Rattle.rdl_walk.proofs.Counting.{node_first}
use Rattle.rdl_elab.specs.Grown.{AreAllWhole, IsWhole}

-- Parts of lists.

-- A node and those below it.

long : (k : ℕ) (ns : List Instance) → length ns ≤ length (flat_map (with_below k) ns)
long k [] = omega arith
long k (n ∷ ns) =
    let rec = long k ns in
    let first = node_first k n in
    let size = ap length first.is in
    let both = length-append (with_below k n) (flat_map (with_below k) ns) in
    omega (arith, rec, size, both)

abbrev Cleans : List Instance → Type 0
Cleans ns = AllByRecursion (λ m. of_node m ≡ []) ns

wholes : (k : ℕ) → ((n : Instance) → Deep k n → Cleans (with_below k n) → length (with_below k n) ≤ most_nodes → IsWhole k n) → (ns : List Instance) → AllByRecursion (Deep k) ns → Cleans (flat_map (with_below k) ns) → length (flat_map (with_below k) ns) ≤ most_nodes → AllByRecursion (IsWhole k) ns
wholes k whole [] d c l = tt
wholes k whole (n ∷ ns) d c l =
    let both = length-append (with_below k n) (flat_map (with_below k) ns) in
    (whole n d.0 (each-left _ (with_below k n) (flat_map (with_below k) ns) c) (omega (arith, both, l)), wholes k whole ns d.1 (each-right _ (with_below k n) (flat_map (with_below k) ns) c) (omega (arith, both, l)))

whole : (k : ℕ) (n : Instance) → Deep k n → Cleans (with_below k n) → length (with_below k n) ≤ most_nodes → IsWhole k n
whole zero n d c l = bottom n d
whole (suc k) n d c l =
    let low = long k (children n) in
    (uses_clean (seen_in n) (body n) c.0, omega (arith, low, l), wholes k (whole k) (children n) (lower k n d) c.1 (omega (arith, l)))

-- A source.

module _ (wanted : Option (List ℕ)) (s : Source) (clean : failures3 wanted s ≡ []) where
  few : length (nodes wanted s) ≤ most_nodes
  few = go (drop most_nodes (nodes wanted s)) refl (none_over wanted s clean)
    where
      go : (ns : List Instance) → drop most_nodes (nodes wanted s) ≡ ns → first_over (drop most_nodes (nodes wanted s)) ≡ [] → length (nodes wanted s) ≤ most_nodes
      go [] e h = let size = sym (length-drop most_nodes (nodes wanted s)) ∙ ap length e in omega (arith, size)
      go (n ∷ ns) e h = let no = sym (ap first_over e) ∙ h in cc

  all_clean : Cleans (nodes wanted s)
  all_clean = subst Cleans (take_all most_nodes (nodes wanted s) few) (nodes_nil wanted s clean)

  abbrev below : List Instance
  below = flat_map (with_below most_names) (top_of wanted s)

  parts : nodes wanted s ≡ signals s ++ below
  unfolding nodes
  parts = refl

  size : length (signals s) + length below ≤ most_nodes
  size = let both = ap length parts ∙ length-append (signals s) below in let l = few in omega (arith, both, l)

  pub top_whole : AllByRecursion (IsWhole most_names) (top_of wanted s)
  top_whole = let l = size in wholes most_names (whole most_names) (top_of wanted s) (tops_deep wanted s) (each-right _ (signals s) below (subst Cleans parts all_clean)) (omega (arith, l))

  pub root_whole : AreAllWhole 0 (seen [] (root s))
  root_whole = let l = size in (uses_clean (seen [] (root s)) (root s) (root_nil wanted s clean), omega (arith, l), each-imp IsAtRoot (IsWhole 0) (signals s) (λ n h. bottom n (deep n h)) (signals-given s))
    where
      deep : (n : Instance) → IsAtRoot n → Deep 0 n
      deep n h =
          let path : n.path ≡ of_signal (record { name = h.by.use_.name.text.now; index = h.given_.index }) = h.given_.path_is ∙ ap (λ p. path_in p (record { name = h.by.use_.name.text.now; index = h.given_.index })) h.in_body in
          let kind : is_signal (kind_of n) ≡ true = subst (λ p. may_hold p (kind_of n) ≡ true) h.in_body (held h.by n h.given_) in
          subst (λ p. At p 0 n) (sym path) kind
