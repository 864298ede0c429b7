-- The number of the top.
use Rattle.std.proofs.Common.{◌≡◌, ◌∙◌, ℕ, ◌+◌, ◌<◌, true, List, [], ◌∷◌, ◌++◌, length, flat_map, Option, Some, slice_get, refl, sym, ap, subst, arith}
use Rattle.std.specs.List.{AllByRecursion}
use Rattle.plain_lemmas.proofs.Lists.{each-imp}
use Rattle.rdl_tree.specs.declared.item.Source.{Source}
use Rattle.rdl_tree.specs.declared.node.Elab.{Elab}
use Rattle.rdl_tree.specs.declared.node.Node.{Node, out-Node}
use Rattle.rdl_values.specs.Bodies.{of_signal}
use Rattle.rdl_values.specs.Elaborated.{AreTreesOf, IsElab, more, node, nodes_of, none, top_name}
use Rattle.rdl_values.specs.Elaboration.{IsClean}
use Rattle.rdl_values.specs.Instances.{Instance, children, kind_of, most_names, nodes, signals, top_of, with_below}
use Rattle.rdl_values.specs.NoNode.{is_signal, may_hold}
use Rattle.rdl_values.specs.Paths.{path_in}
use Rattle.rdl_values.proofs.Given.{IsAtRoot, held, signals-given}
use Rattle.rdl_values.proofs.Numbered.{At, Deep, bottom, counted}
use Rattle.rdl_nodes.proofs.Members.{get-within}

no-trees : {beside rs : List Node} {at after : ℕ} (ns : List Instance) → ns ≡ [] → AreTreesOf beside at rs ns after → at ≡ after
no-trees [] e none = refl
no-trees (n ∷ ns) e ts = cc

signals-deep : (s : Source) → AllByRecursion (Deep 0) (signals s)
signals-deep s = each-imp IsAtRoot (Deep 0) (signals s) (λ n h. of n h) (signals-given s)
  where
    of : (n : Instance) → IsAtRoot n → Deep 0 n
    of n h =
        let path : n.path ≡ of_signal (record { name = h.by.use_.name.text.now; index = h.given_.index }) = h.given_.path_is ∙ ap (λ p. path_in p (record { name = h.by.use_.name.text.now; index = h.given_.index })) h.in_body in
        let kind : is_signal (kind_of n) ≡ true = subst (λ p. may_hold p (kind_of n) ≡ true) h.in_body (held h.by n h.given_) in
        subst (λ p. At p 0 n) (sym path) kind

-- nodes with nothing in their bodies have numbers one by one
numbered : {beside rs : List Node} {at after : ℕ} {ns : List Instance} → AllByRecursion (Deep 0) ns → AreTreesOf beside at rs ns after → after ≡ at + length ns
numbered d none = omega arith
numbered d (more {n = n} (node i s ts) us) = let next = no-trees (children n) (bottom n d.0) ts in let rest = numbered d.1 us in omega (arith, next, rest)

get-behind : (xs ys : List Instance) (n : Instance) → slice_get (xs ++ (n ∷ ys)) (length xs) ≡ Some n
get-behind [] ys n = refl
get-behind (x ∷ xs) ys n = get-behind xs ys n

behind-signals : (wanted : Option (List ℕ)) (s : Source) (n : Instance) → top_of wanted s ≡ n ∷ [] → slice_get (nodes wanted s) (length (signals s)) ≡ Some n
unfolding nodes
behind-signals wanted s n is = ap (λ ns. slice_get (signals s ++ flat_map (with_below most_names) ns) (length (signals s))) is ∙ get-behind (signals s) (flat_map (with_below 31) (children n) ++ []) n

-- The instance that is the top, which stands at the number of its node.
pub record IsTop (e : Elab) : Type 0 where
  pub n : Instance
  pub is : top_of (Some (top_name e)) e.source.now ≡ n ∷ []
  pub here : slice_get (nodes_of e) (out-Node e.top.now).id ≡ Some n

pub top-here : (e : Elab) → IsClean e → IsTop e
top-here e clean = go (top_of w s) refl tree.top
  where
    s : Source
    s = e.source.now

    w : Option (List ℕ)
    w = Some (top_name e)

    tree : IsElab w s e
    tree = clean.elaborated.tree

    go : (ns : List Instance) → top_of w s ≡ ns → AreTreesOf [] tree.between (e.top.now ∷ []) ns e.count → IsTop e
    go [] q t = elim t [ ]
    go (n ∷ []) q (more (node i h ts) us) =
        let many = numbered (signals-deep s) tree.signals_ in
        let number : (out-Node e.top.now).id ≡ length (signals s) = i ∙ omega (arith, many) in
        record { n = n; is = q; here = ap (slice_get (nodes w s)) number ∙ behind-signals w s n q }
    go (n ∷ m ∷ ns) q (more t us) = elim us [ ]

pub top-low : (e p : Elab) → p ≡ e → IsClean e → (out-Node e.top.now).id < p.count
top-low e p same clean =
    let t = top-here e clean in
    let low = get-within (nodes_of e) (out-Node e.top.now).id t.n t.here in
    let many = counted (Some (top_name e)) e.source.now e clean.elaborated.tree in
    let count : p.count ≡ e.count = ap (λ x. x.count) same in
    omega (arith, low, many, count)
