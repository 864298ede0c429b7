-- A node more in a list.
use Rattle.std.proofs.Common.{◌≡◌, ◌∙◌, Bool, true, false, cond, List, [], ◌∷◌, ◌++◌, filter, refl, ap}
use Rattle.plain_lemmas.proofs.Lists.{filter-append, map-append}
use Rattle.rdl_tree.specs.declared.node.Node.{out-Node}
use Rattle.rdl_nodes.specs.Keyed.{Key, same_key}
use Rattle.rdl_node_lists.specs.Keys.{held_under, key_of, numbers}
use Rattle.rdl_node_lists.specs.declared.held.By.{By}
use Rattle.rdl_node_lists.specs.declared.held.Held.{Held}

-- it is behind those under its key
pub one-added : (by : By) (hs : List Held) (h : Held) (k : Key) → held_under by (hs ++ (h ∷ [])) k ≡ held_under by hs k ++ cond (same_key (key_of by h) k) ((out-Node h.node.now).id ∷ []) []
one-added by hs h k = ap numbers (filter-append (λ x. same_key (key_of by x) k) hs (h ∷ [])) ∙ map-append (λ x. (out-Node x.node.now).id) (filter (λ x. same_key (key_of by x) k) hs) (cond (same_key (key_of by h) k) (h ∷ []) []) ∙ go (same_key (key_of by h) k)
  where
    go : (c : Bool) → held_under by hs k ++ numbers (cond c (h ∷ []) []) ≡ held_under by hs k ++ cond c ((out-Node h.node.now).id ∷ []) []
    go true = refl
    go false = refl
