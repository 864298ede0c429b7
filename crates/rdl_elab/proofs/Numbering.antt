-- Nodes by their names.
use Rattle.std.proofs.Common.{◌≡◌, ◌∙◌, ℕ, suc, ◌+◌, ◌-◌, Bool, true, false, cond, bytes_eq, List, [], ◌∷◌, ◌++◌, length, map, find, slice_get, Option, None, Some, option_map, option_and_then, refl, sym, ap, subst, arith}
use Rattle.std.specs.List.{position_from}
use Rattle.std.proofs.lemmas.List.{length-map, map-append}
use Rattle.rdl_tree.specs.declared.expr.Name.{Name}
use Rattle.rdl_tree.specs.declared.node.Node.{Node, out-Node}
use Rattle.rdl_values.specs.Elaborated.{number_named}
use Rattle.rdl_values.specs.Firsts.{AreFirsts, place_of}
use Rattle.rdl_values.specs.declared.firsts.Firsts.{Firsts}
use Rattle.rdl_values.proofs.Named.{IsPut, firsts_more}
use Rattle.plain_lemmas.proofs.Lists.{position_from-least as place-from}
use Rattle.rdl_elab.specs.Nodes.{name_of}

abbrev number_in : List Node → ℕ → Option ℕ
number_in rs k = option_map (λ r. (out-Node r).id) (slice_get rs k)

-- the number of the node at a place, counted from this one
abbrev number_from : ℕ → List Node → Option ℕ → Option ℕ
number_from i rs None = None
number_from i rs (Some k) = number_in rs (k - i)

number-at : (n : List ℕ) (i : ℕ) (rs : List Node) → option_map (λ r. (out-Node r).id) (find (λ r. bytes_eq (out-Node r).name.now n) rs) ≡ number_from i rs (position_from (λ m. bytes_eq m n) i (map name_of rs))
number-at n i [] = refl
number-at n i (r ∷ rs) = go (bytes_eq (out-Node r).name.now n) (number-at n (i + 1) rs)
  where
    places : Option ℕ
    places = position_from (λ m. bytes_eq m n) (i + 1) (map name_of rs)

    behind : (o : Option ℕ) → places ≡ o → number_from (i + 1) rs o ≡ number_from i (r ∷ rs) o
    behind None e = refl
    behind (Some k) e =
        let l = place-from (λ m. bytes_eq m n) (i + 1) (map name_of rs) k e in
        let next : k - i ≡ suc (k - (i + 1)) = omega (arith, l) in
        ap (number_in (r ∷ rs)) (sym next)

    go : (b : Bool) → option_map (λ x. (out-Node x).id) (find (λ x. bytes_eq (out-Node x).name.now n) rs) ≡ number_from (i + 1) rs places
        → option_map (λ x. (out-Node x).id) (cond b (Some r) (find (λ x. bytes_eq (out-Node x).name.now n) rs)) ≡ number_from i (r ∷ rs) (cond b (Some i) places)
    go true ih = let here : i - i ≡ 0 = omega arith in ap (number_in (r ∷ rs)) (sym here)
    go false ih = ih ∙ behind places refl

-- at the place that a table has
abbrev number_by : List Node → Option ℕ → Option ℕ
number_by rs None = None
number_by rs (Some k) = number_in rs k

pub number-by : (rs : List Node) (name : Option Name) (n : Name) (t : Firsts) (o : Option ℕ) → AreFirsts t (map name_of rs) → name ≡ Some n → o ≡ place_of t n.text.now → number_by rs o ≡ option_and_then (number_named rs) name
number-by rs name n t o h e q =
    ap (number_by rs) (q ∙ h.at n.text.now) ∙ first (position_from (λ m. bytes_eq m n.text.now) 0 (map name_of rs)) ∙ sym (number-at n.text.now 0 rs) ∙ sym (ap (option_and_then (number_named rs)) e)
  where
    first : (o : Option ℕ) → number_by rs o ≡ number_from 0 rs o
    first None = refl
    first (Some k) = let same : k - 0 ≡ k = omega arith in ap (number_in rs) (sym same)

-- one node more
pub siblings_more : (old new : Firsts) (rs qs : List Node) (r : Node) (place : ℕ) → AreFirsts old (map name_of rs) → place ≡ length rs → IsPut (name_of r) place old new → qs ≡ rs ++ (r ∷ []) → AreFirsts new (map name_of qs)
siblings_more old new rs qs r place h at put e =
    subst (AreFirsts new) (sym (ap (map name_of) e ∙ map-append name_of rs (r ∷ []))) (firsts_more old new (map name_of rs) (name_of r) place h (at ∙ sym (length-map rs name_of)) put)
