-- The first of a list of rows under a key.
use Rattle.std.specs.Prelude.{◌≡◌, ◌≤◌, ℕ, Bool, false, cond, length, List, [], ◌∷◌, ◌++◌, Option, None, Some, All}
use Rattle.rdl_tree.specs.declared.item.Kind.{Kind}
use Rattle.rdl_tree.specs.declared.item.Kind.TheVariants as kind
use Rattle.rdl_tree.specs.declared.node.Node.{out-Node}
use Rattle.rdl_nodes.specs.declared.table.Row.{Row}
use Rattle.rdl_nodes.specs.Keyed.{Key, same_key}
use Rattle.rdl_node_lists.specs.Keys.{held_under}
use Rattle.rdl_node_lists.specs.declared.held.By.TheVariants as by
use Rattle.rdl_node_lists.specs.declared.held.Held.{Held}

-- the body of the node that it stands in, or the root's, where it is a signal
abbrev pub body_by : ℕ → Option ℕ → Kind → Option ℕ
body_by root (Some p) k = Some p
body_by root None kind.Signal = Some root
body_by root None k = None

abbrev pub body_in : ℕ → Row → Option ℕ
body_in root x = body_by root x.parent (out-Node x.node.now).kind

-- a row with its indices, or without them, has a key
abbrev pub element_key : ℕ → Row → Key
element_key b x = record { body = b; name = (out-Node x.node.now).name.now; index = (out-Node x.node.now).index.now }

abbrev pub name_key : ℕ → Row → Key
name_key b x = record { body = b; name = (out-Node x.node.now).name.now; index = [] }

abbrev pub key_is : (ℕ → Row → Key) → Key → Row → Option ℕ → Bool
key_is key k x None = false
key_is key k x (Some b) = same_key (key b x) k

abbrev pub has_key : (ℕ → Row → Key) → ℕ → Key → Row → Bool
has_key key root k x = key_is key k x (body_in root x)

-- the number of the first
abbrev pub first_row : (Row → Bool) → List Row → Option ℕ
first_row has [] = None
first_row has (x ∷ xs) = cond (has x) (Some (out-Node x.node.now).id) (first_row has xs)

-- a row has no more indices than this
abbrev pub IsIndexed : ℕ → Row → Type 0
IsIndexed most x = length (out-Node x.node.now).index.now ≤ most

-- A row is added under its keys.
pub record AddsRow (root : ℕ) (x : Row) (old new : List Held) : Type 0 where
  pub elements_ : (k : Key) → held_under by.Element new k ≡ held_under by.Element old k ++ cond (has_key element_key root k x) ((out-Node x.node.now).id ∷ []) []
  pub names_ : (k : Key) → held_under by.Name new k ≡ held_under by.Name old k ++ cond (has_key name_key root k x) ((out-Node x.node.now).id ∷ []) []

-- The first rows under each key, and a count of indices that none exceeds.
pub record AreFirst (root : ℕ) (rows : List Row) (elements names : Key → Option ℕ) (most : ℕ) : Type 0 where
  pub elements_ : (k : Key) → elements k ≡ first_row (has_key element_key root k) rows
  pub names_ : (k : Key) → names k ≡ first_row (has_key name_key root k) rows
  pub indexed : All (IsIndexed most) rows
