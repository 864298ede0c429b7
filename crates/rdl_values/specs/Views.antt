-- What an item of a body is.
use Rattle.std.specs.Prelude.{◌≡◌, refl, List, [], ◌∷◌, Option}
use mathlib.Core.Path.{ap}
use Rattle.rdl_tree.specs.declared.item.Item.TheVariants as item
use Rattle.rdl_tree.specs.declared.item.Item.{Item, Def', EnumDef, Made, Default, Local, Dynamic}
use Rattle.rdl_tree.specs.declared.item.Def.{Def, Row_of-Item, end_of-Item, more_of-Item}
use Rattle.rdl_tree.specs.declared.item.Entry.{Entry}
use Rattle.rdl_tree.specs.declared.item.Insts.{Insts}
use Rattle.rdl_tree.specs.declared.expr.Name.{Name}
use Rattle.rdl_tree.specs.declared.expr.Path.{Path, Path', Row_of-Step, end_of-Step, more_of-Step, Row_of-Expr, end_of-Expr, more_of-Expr}
use Rattle.rdl_tree.specs.declared.expr.Expr.{Expr}
use Rattle.rdl_tree.specs.declared.expr.Step.{Step}
use Rattle.rdl_tree.specs.declared.item.Set.{Set}

pub data ItemIs : Type 0 where
  definition : Def → ItemIs
  enumeration : Name → List Entry → ItemIs
  made : Option Name → Name → Insts → ItemIs
  default_ : Set → ItemIs
  local : Set → ItemIs
  dynamic : Path → Set → ItemIs

abbrev pub listed : {m : _} → Row_of-Item m → List Item
listed end_of-Item = []
listed (more_of-Item i rest) = i ∷ listed rest

abbrev pub item_is : Item → ItemIs
item_is (Def' k n ps p shape rows insts place) = definition (record { kind = k; name = n; params = ps; items = record { ref_ptr = p.ref_ptr; now = listed rows }; insts = insts; place = place })
item_is (EnumDef n es) = enumeration n es.now
item_is (Made a of is) = made a of is
item_is (Default s) = default_ s
item_is (Local s) = local s
item_is (Dynamic p s) = dynamic p s

abbrev pub indices : {m : _} → Row_of-Expr m → List Expr
indices end_of-Expr = []
indices (more_of-Expr e rest) = e ∷ indices rest

abbrev pub steps_listed : {m : _} → Row_of-Step m → List Step
steps_listed end_of-Step = []
steps_listed (more_of-Step name p shape rows rest) = record { name = name; index = record { ref_ptr = p.ref_ptr; now = indices rows } } ∷ steps_listed rest

abbrev pub steps_of : Path → List Step
steps_of (Path' p shape rows) = steps_listed rows

-- The view of a definition is the definition.

abbrev items_in : ItemIs → List Item
items_in (definition d) = d.items.now
items_in _ = []

abbrev with_list : Def → List Item → Def
with_list d xs = record d { items = record { ref_ptr = d.items.ref_ptr; now = xs } }

listed-hidden : (d : Def) (xs : List Item) → items_in (item_is (item.Def (with_list d xs))) ≡ xs
unfolding denote.Hole.Carrier.hidden Rattle.rdl_tree.specs.declared.item.Item.TheBlock.hidden-the_row-Item-0
listed-hidden d [] = refl
listed-hidden d (x ∷ xs) = ap (λ ys. x ∷ ys) (listed-hidden d xs)

pub item_is-Def : (d : Def) → item_is (item.Def d) ≡ definition d
item_is-Def d = ap (λ xs. definition (with_list d xs)) (listed-hidden d d.items.now)
