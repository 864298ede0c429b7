-- The list of nodes with their ancestors is the list of nodes.
use Rattle.std.proofs.Common.{◌≡◌, ◌∙◌, ℕ, zero, suc, List, [], ◌∷◌, ◌++◌, map, flat_map, Option, refl, ap}
use Rattle.std.proofs.lemmas.List.{map-append}
use Rattle.rdl_tree.specs.declared.item.Source.{Source}
use Rattle.rdl_values.specs.Instances.{Instance, children, signals, top_of, with_below, nodes, most_names}
use Rattle.rdl_values.specs.Lineages.{Lineage, alone, lineages_below, lineages, nodes_in}

signals_alone : (ns : List Instance) → nodes_in (map alone ns) ≡ ns
signals_alone [] = refl
signals_alone (n ∷ ns) = ap (λ xs. n ∷ xs) (signals_alone ns)

over : (f : Instance → List Lineage) (g : Instance → List Instance) → ((n : Instance) → nodes_in (f n) ≡ g n) → (ns : List Instance) → nodes_in (flat_map f ns) ≡ flat_map g ns
over f g h [] = refl
over f g h (n ∷ ns) = map-append (λ x. x.node) (f n) (flat_map f ns) ∙ ap (λ xs. xs ++ nodes_in (flat_map f ns)) (h n) ∙ ap (λ xs. g n ++ xs) (over f g h ns)

below : (k : ℕ) (ancestors : List Instance) (n : Instance) → nodes_in (lineages_below k ancestors n) ≡ with_below k n
below zero ancestors n = refl
below (suc k) ancestors n = ap (λ xs. n ∷ xs) (over (lineages_below k (n ∷ ancestors)) (with_below k) (λ c. below k (n ∷ ancestors) c) (children n))

pub all_nodes : (wanted : Option (List ℕ)) (s : Source) → nodes_in (lineages wanted s) ≡ nodes wanted s
unfolding lineages nodes
all_nodes wanted s =
    map-append (λ x. x.node) (map alone (signals s)) (flat_map (lineages_below most_names []) (top_of wanted s))
    ∙ ap (λ xs. xs ++ nodes_in (flat_map (lineages_below most_names []) (top_of wanted s))) (signals_alone (signals s))
    ∙ ap (λ xs. signals s ++ xs) (over (lineages_below most_names []) (with_below most_names) (λ n. below most_names [] n) (top_of wanted s))
