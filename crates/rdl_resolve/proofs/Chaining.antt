-- The nearest body of a chain that has a name.
use Rattle.std.proofs.Common.{◌≡◌, ◌∙◌, ℕ, zero, suc, ◌+◌, ◌≤◌, ◌<◌, true, false, cond, List, [], ◌∷◌, drop, drop-cons, get_or, add-one, length, Option, None, Some, option_map, slice_get, refl, sym, ap, subst, arith}
use Rattle.std.specs.List.{list_any}
use Rattle.plain_lemmas.proofs.Lists.{get-beyond as none-at}
use Rattle.rdl_tree.specs.declared.node.Elab.{Elab}
use Rattle.rdl_values.specs.Bodies.{Path}
use Rattle.rdl_values.specs.Elaborated.{nodes_of}
use Rattle.rdl_values.specs.Lineages.{lineages_of}
use Rattle.rdl_layers.specs.Says.{IsBodyNumber}
use Rattle.rdl_nodes.proofs.Members.{get-within}
use Rattle.rdl_refs.specs.Leads.{members_of}
use Rattle.rdl_sizes.proofs.Facts.{lineage-at, nodes-many}
use Rattle.rdl_members.specs.Found.{is_named, members_at}
use Rattle.rdl_resolve.specs.Outward.{IsChain, IsNearest, IsNumberOf, first_with, outer_at}

-- the path of the body of a number
pub path-of : (e : Elab) (p : Option Path) (b : ℕ) → IsBodyNumber (nodes_of e) p b → option_map (λ q. q.node.path) (slice_get (lineages_of e) b) ≡ p
path-of e None b h =
    let many = nodes-many e in
    ap (option_map (λ q. q.node.path)) (none-at (lineages_of e) b (omega (arith, h, many)))
path-of e (Some p) b h =
    let l = lineage-at e b h.0 h.1 in
    ap (option_map (λ q. q.node.path)) l.1 ∙ ap Some (ap (λ n. n.path) l.2 ∙ h.2)

pub body-low : (e : Elab) → e.count ≡ length (lineages_of e) → (p : Option Path) (b : ℕ) → IsBodyNumber (nodes_of e) p b → b ≤ e.count
body-low e many None b h = let n = nodes-many e in omega (arith, h, many, n)
body-low e many (Some p) b h = let low = get-within (nodes_of e) b h.0 h.1 in let n = nodes-many e in omega (arith, low, many, n)

module _ (e : Elab) (many : e.count ≡ length (lineages_of e)) (outers name : List ℕ) (ps : List (Option Path)) (i body : ℕ) (low : i < length ps) (chain : IsChain e outers (drop i ps) body)
    (before : first_with (lineages_of e) name ps ≡ first_with (lineages_of e) name (drop i ps)) where
  first : Option Path
  first = get_or ps i None

  split : drop i ps ≡ get_or ps i None ∷ drop (suc i) ps
  split = drop-cons ps i None low

  chained : IsBodyNumber (nodes_of e) (get_or ps i None) body × IsChain e outers (drop (suc i) ps) (outer_at e.count outers body)
  chained = subst (λ qs. IsChain e outers qs body) split chain

  pub body-within : body ≤ e.count
  body-within = body-low e many (get_or ps i None) body chained.0

  here-named : list_any (λ l. is_named name l.node) (members_at (lineages_of e) body) ≡ list_any (λ l. is_named name l.node) (members_of (lineages_of e) (get_or ps i None))
  here-named = ap (λ o. list_any (λ l. is_named name l.node) (members_of (lineages_of e) o)) (path-of e (get_or ps i None) body chained.0)

  by-first : first_with (lineages_of e) name ps ≡ cond (list_any (λ l. is_named name l.node) (members_at (lineages_of e) body)) (Some (get_or ps i None)) (first_with (lineages_of e) name (drop (suc i) ps))
  by-first = before ∙ (ap (first_with (lineages_of e) name) split ∙ ap (λ b. cond b (Some (get_or ps i None)) (first_with (lineages_of e) name (drop (suc i) ps))) (sym here-named))

  pub found-here : list_any (λ l. is_named name l.node) (members_at (lineages_of e) body) ≡ true → IsNearest e name ps (Some body)
  found-here has =
      let is : first_with (lineages_of e) name ps ≡ Some (get_or ps i None) = by-first ∙ ap (λ b. cond b (Some (get_or ps i None)) (first_with (lineages_of e) name (drop (suc i) ps))) has in
      subst (λ o. IsNumberOf e o (Some body)) (sym is) (body, refl, chained.0)

  pub passed-here : list_any (λ l. is_named name l.node) (members_at (lineages_of e) body) ≡ false → IsChain e outers (drop (i + 1) ps) (outer_at e.count outers body) × (first_with (lineages_of e) name ps ≡ first_with (lineages_of e) name (drop (i + 1) ps))
  passed-here has = (
    subst (λ k. IsChain e outers (drop k ps) (outer_at e.count outers body)) (sym (add-one i)) chained.1,
    by-first ∙ (ap (λ b. cond b (Some (get_or ps i None)) (first_with (lineages_of e) name (drop (suc i) ps))) has ∙ ap (λ k. first_with (lineages_of e) name (drop k ps)) (sym (add-one i))),
  )

pub passed-all : (e : Elab) (name : List ℕ) (ps : List (Option Path)) (i : ℕ) → length ps ≤ i → first_with (lineages_of e) name ps ≡ first_with (lineages_of e) name (drop i ps) → IsNearest e name ps None
passed-all e name ps i past before = subst (λ o. IsNumberOf e o None) (sym (before ∙ ap (first_with (lineages_of e) name) (none-left ps i past))) refl
  where
    none-left : (ps : List (Option Path)) (i : ℕ) → length ps ≤ i → drop i ps ≡ []
    none-left [] zero l = refl
    none-left [] (suc i) l = refl
    none-left (p ∷ ps) zero l = absurd (omega (arith, l))
    none-left (p ∷ ps) (suc i) l = none-left ps i (omega (arith, l))
