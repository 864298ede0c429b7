-- The uses of definitions in a body.
use Rattle.std.specs.Prelude.{ℕ, List, [], ◌∷◌, map, flat_map, Option, None, Some, option_copied, option_to_list, Ok}
use Rattle.rb_base.specs.declared.place.Place.{Place}
use Rattle.rdl_tree.specs.declared.expr.Expr.{Expr}
use Rattle.rdl_tree.specs.declared.expr.Name.{Name}
use Rattle.rdl_tree.specs.declared.item.Arg.{Arg}
use Rattle.rdl_tree.specs.declared.item.Inst.{Inst}
use Rattle.rdl_tree.specs.declared.item.Insts.{Insts}
use Rattle.rdl_tree.specs.declared.item.Kind.{Kind}
use Rattle.rdl_values.specs.Bodies.{Path, Scope, Closure, Body, scope_at, standing, component}
use Rattle.rdl_values.specs.Paths.{Parent, at_root, in_node}
use Rattle.rdl_values.specs.Values.{Around, Outcome, then, number_of}
use Rattle.rdl_values.specs.Views as view
use Rattle.rdl_values.specs.Views.{ItemIs, item_is}
pub use Rattle.rdl_values.specs.Bodies.{same_name}
pub use Rattle.rdl_values.specs.Faults.{at_, when, failures}
pub use Rattle.rdl_values.specs.Paths.{path_text}

-- The parts of an instance's form behind its dimensions.
pub record Form : Type 0 where
  pub range : Option (Expr × Expr)
  pub reset : Option Expr
  pub at : Option Expr
  pub stride : Option Expr
  pub align : Option Expr

abbrev pub form_of : Inst → Form
form_of i = record { range = option_copied i.range; reset = option_copied i.reset; at = option_copied i.at; stride = option_copied i.stride; align = option_copied i.align }

-- One use of a definition, where its text stands. The top's has no instance, and no part of one but the name.
pub record Use : Type 0 where
  pub inst : Option Inst
  pub name : Name
  pub dims : List Expr
  pub form : Form
  pub args : List Arg
  pub alias : Option Name
  pub type_place : Place
  pub closure : Option Closure
  pub scope : Scope

-- the uses of one type, whose name stands at this place and means this
abbrev pub uses_of_insts : Scope → Option Name → Place → Option Closure → Insts → List Use
uses_of_insts scope alias place closure is = map (λ i. record { inst = Some i; name = i.name; dims = i.dims.now; form = form_of i; args = is.args.now; alias = alias; type_place = place; closure = closure; scope = scope }) is.list.now

abbrev pub uses_of_item : Scope → ItemIs → List Use
uses_of_item scope (view.definition d) = flat_map (uses_of_insts scope None d.place (Some (record { def = d; scope = scope }))) (option_to_list d.insts)
uses_of_item scope (view.made alias of insts) = uses_of_insts scope alias of.place (component of.text.now scope) insts
uses_of_item scope _ = []

-- the uses of a body, in text order
abbrev pub uses : Body → List Use
uses b = flat_map (λ i. uses_of_item (scope_at b i.0) (item_is i.1)) (standing b.items)

-- A use, where it stands, the bodies of the nodes round it, the top's first, and the uses before it in its body.
pub record Seen : Type 0 where
  pub parent : Parent
  pub above : List Body
  pub earlier : List Use
  pub use_ : Use

abbrev pub parent_of : Body → Parent
parent_of b = go b.node b.kind
  where
    go : Option Path → Option Kind → Parent
    go (Some p) (Some k) = in_node p k
    go _ _ = at_root

abbrev pub seen : List Body → Body → List Seen
seen above b = map (λ u. record { parent = parent_of b; above = above; earlier = u.0; use_ = u.1 }) (standing (uses b))

-- the numbers of some expressions, or the first failure
abbrev pub values : Around → List Expr → Outcome (List ℕ)
values env [] = Ok []
values env (e ∷ es) = then (number_of env e) λ n. then (values env es) λ ns. Ok (n ∷ ns)
