-- The assignments of a body: its own, its defaults, and its dynamic ones with the nodes that they lead to.
use Rattle.std.specs.Prelude.{ℕ, Bool, true, false, ◌&&◌, List, [], ◌∷◌, ◌++◌, bytes_eq, flat_map, filter, Ok, Err}
use Rattle.std.specs.List.{list_any}
use Rattle.rdl_tree.specs.declared.item.Item.{Item}
use Rattle.rdl_tree.specs.declared.expr.Expr.{Expr}
use Rattle.rdl_tree.specs.declared.expr.Step.{Step}
use Rattle.rdl_values.specs.Views as view
use Rattle.rdl_values.specs.Views.{ItemIs, item_is, steps_of}
use Rattle.rdl_values.specs.Values.{Around, Outcome}
use Rattle.rdl_values.specs.Bodies.{Path, of_signal, below_top, Layer, Scope, around, Body, scope_at, standing}
use Rattle.rdl_values.specs.Bodies as bodies
use Rattle.rdl_values.specs.Uses.{values, same_name}
use Rattle.rdl_values.specs.Elaborated.{index_of}
use Rattle.rdl_values.specs.Instances.{Instance, given_by, seen, children}
use Rattle.rdl_layers.specs.Meanings.{Assignment}

-- The assignments in a body to the node that it is of.

-- what an item of a body assigns to the body's node
abbrev pub local_in : Body → List Item × Item → List Assignment
local_in b i = go (item_is i.1)
  where
    go : ItemIs → List Assignment
    go (view.local s) = record { set_ = s; scope = scope_at b i.0 } ∷ []
    go _ = []

-- the assignments of a body to its node, in text order
abbrev pub locals : Body → List Assignment
locals b = flat_map (local_in b) (standing b.items)

-- Defaults.

-- what an item of a body is by default, as the bodies round it see it
abbrev pub default_in : Layer → Scope → List Item × Item → List Assignment
default_in l outer i = go (item_is i.1)
  where
    go : ItemIs → List Assignment
    go (view.default_ s) = record { set_ = s; scope = record l { before = i.0 } ∷ outer } ∷ []
    go _ = []

-- the defaults of a body that stand before a place in it
abbrev pub defaults_before : Layer → Scope → List Assignment
defaults_before l outer = flat_map (default_in l outer) (standing l.before)

-- all defaults of a body
abbrev pub defaults : Body → List Assignment
defaults b = defaults_before (record { node = b.node; before = b.items; names = b.names }) b.outer

-- Dynamic assignments.

pub record Dynamic : Type 0 where
  pub steps : List Step
  pub assigns : Assignment

-- what an item of a body assigns to nodes below
abbrev pub dynamic_in : Body → List Item × Item → List Dynamic
dynamic_in b i = go (item_is i.1)
  where
    go : ItemIs → List Dynamic
    go (view.dynamic p s) = record { steps = steps_of p; assigns = record { set_ = s; scope = scope_at b i.0 } } ∷ []
    go _ = []

-- the dynamic assignments of a body, in text order
abbrev pub dynamics : Body → List Dynamic
dynamics b = flat_map (dynamic_in b) (standing b.items)

-- The indices given are those of the element. Of an array an assignment may leave all out, which means every element, and a
-- reference none.
abbrev pub is_index : Outcome (List ℕ) → List ℕ → Bool
is_index (Ok ns) index = bytes_eq ns index
is_index (Err f) index = false

abbrev pub is_index_or_none : Around → List Expr → List ℕ → Bool
is_index_or_none env [] index = true
is_index_or_none env (e ∷ es) index = is_index (values env (e ∷ es)) index

-- the instance has the name of the step, and its indices, if any are given
abbrev pub is_step : Around → Step → Instance → Bool
is_step env t n = same_name t.name n.use_.name && is_index_or_none env t.index.now (index_of n.path)

-- the instance has the name of the step, and its indices
abbrev pub is_step_exactly : Around → Step → Instance → Bool
is_step_exactly env t n = same_name t.name n.use_.name && is_index (values env t.index.now) (index_of n.path)

-- what a path leads to from these nodes, each step by this test, where this lies in the body of each
abbrev pub led_down : {A : Type 0} → (A → List A) → (Step → A → Bool) → List A → List Step → List A
led_down inside is ns [] = []
led_down inside is ns (t ∷ []) = filter (is t) ns
led_down inside is ns (t ∷ u ∷ ts) = led_down inside is (flat_map inside (filter (is t) ns)) (u ∷ ts)

-- A body, behind those that it stands in, the top's first.
abbrev pub Nested : Type 0
Nested = List Body × Body

-- the instances of a body
abbrev pub members : Nested → List Instance
members b = flat_map given_by (seen (b.0 ++ (b.1 ∷ [])) b.1)

-- A target starts at an instance of its own body.
abbrev pub targets : Nested → Dynamic → List Instance
targets b d = led_down children (is_step (around d.assigns.scope)) (members b) d.steps

-- the same name and indices
abbrev pub same_step : bodies.Step → bodies.Step → Bool
same_step s t = bytes_eq s.name t.name && bytes_eq s.index t.index

abbrev pub same_steps : List bodies.Step → List bodies.Step → Bool
same_steps [] [] = true
same_steps (s ∷ ss) (t ∷ ts) = same_step s t && same_steps ss ts
same_steps _ _ = false

-- the same node
abbrev pub same_path : Path → Path → Bool
same_path (of_signal s) (of_signal t) = same_steps (s ∷ []) (t ∷ [])
same_path (below_top ss) (below_top ts) = same_steps ss ts
same_path _ _ = false

-- the node is one of these
abbrev pub is_among : List Instance → Instance → Bool
is_among ns n = list_any (λ m. same_path m.path n.path) ns

-- Two dynamic assignments of a body lead to a common node.
abbrev pub meet : Nested → Dynamic → Dynamic → Bool
meet b d e = list_any (is_among (targets b d)) (targets b e)
