-- The texts of paths.
use Rattle.std.specs.Prelude.{◌≡◌, ℕ, ◌<◌, List, ◌∷◌, ◌++◌, length, flat_map, decimal, Option, None, Some, slice_get}
use Rattle.rdl_tree.specs.declared.node.Elab.{Elab}
use Rattle.rdl_values.specs.Elaborated.{nodes_of}
use Rattle.rdl_values.specs.Instances.{Instance}
use Rattle.rdl_values.specs.Uses.{path_text}
use Rattle.rdl_nodes.specs.declared.table.Row.{Row}

-- a name, and each index behind '$'
abbrev pub indexed : List ℕ → List ℕ
indexed index = flat_map (λ i. 36 ∷ decimal i) index

abbrev pub step_text : List ℕ → List ℕ → List ℕ
step_text name index = name ++ indexed index

-- behind a text and '$', if there is one
abbrev pub below : Option (List ℕ) → List ℕ → List ℕ → List ℕ
below None name index = step_text name index
below (Some front) name index = front ++ (36 ∷ step_text name index)

-- the text of the node of a number that itself stands in one
abbrev pub front_in : List Row → List (List ℕ) → ℕ → Option (List ℕ)
front_in rows ts p = go (slice_get rows p)
  where
    under : Option ℕ → Option (List ℕ)
    under None = None
    under (Some above) = slice_get ts p

    go : Option Row → Option (List ℕ)
    go None = None
    go (Some x) = under x.parent

-- Of the first nodes.
pub record AreTextsTo (e : Elab) (to : ℕ) (ts : List (List ℕ)) : Type 0 where
  pub many : length ts ≡ to
  pub each : (k : ℕ) (n : Instance) → k < to → slice_get (nodes_of e) k ≡ Some n → slice_get ts k ≡ Some (path_text n.path)

-- of all nodes
abbrev pub AreTexts : Elab → List (List ℕ) → Type 0
AreTexts e ts = AreTextsTo e e.count ts
