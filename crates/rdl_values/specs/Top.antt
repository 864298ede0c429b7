-- The root, and the top: the last named addrmap at the root, or the first of a name that is given.
use Rattle.std.specs.Prelude.{ℕ, Bool, true, false, ◌&&◌, cond, List, [], bytes_eq, reverse, Option, None, Some, option_and_then}
use Rattle.rdl_tree.specs.declared.expr.Name.{Name}
use Rattle.rdl_tree.specs.declared.item.Def.{Def}
use Rattle.rdl_tree.specs.declared.item.Item.{Item}
use Rattle.rdl_tree.specs.declared.item.Kind.{Kind}
use Rattle.rdl_tree.specs.declared.item.Kind.TheVariants as kind
use Rattle.rdl_tree.specs.declared.item.Source.{Source}
use Rattle.rdl_values.specs.Bodies.{Scope, Body, scope_at, component_of, standing}
use Rattle.rdl_values.specs.Enums.{names_of}
use Rattle.rdl_values.specs.Paths.{nowhere}
use Rattle.rdl_values.specs.Uses.{Use, Seen}
use Rattle.rdl_values.specs.Values.{nearest}
use Rattle.rdl_values.specs.Views.{item_is}

-- the body of the root
abbrev pub root : Source → Body
root s = record { node = None; kind = None; items = s.items.now; names = names_of [] [] s.items.now; outer = [] }

abbrev pub is_addrmap : Kind → Bool
is_addrmap kind.Addrmap = true
is_addrmap _ = false

-- where no name is given, each will do
abbrev pub is_wanted : Option (List ℕ) → Name → Bool
is_wanted None n = true
is_wanted (Some w) n = bytes_eq n.text.now w

-- the use of a definition as the top: without arguments, at the definition's own name
abbrev pub top_use : Scope → Def → Name → Use
top_use scope d n = record { inst = None; name = n; dims = []; form = record { range = None; reset = None; at = None; stride = None; align = None }; args = []; alias = None; type_place = n.place; closure = Some (record { def = d; scope = scope }); scope = scope }

abbrev pub top_named : Option (List ℕ) → Scope → Def → Option Name → Option Use
top_named wanted scope d None = None
top_named wanted scope d (Some n) = cond (is_addrmap d.kind && is_wanted wanted n) (Some (top_use scope d n)) None

abbrev pub top_at : Option (List ℕ) → Source → List Item × Item → Option Use
top_at wanted s i = option_and_then (λ d. top_named wanted (scope_at (root s) i.0) d d.name) (component_of (item_is i.1))

abbrev pub top_use_of : Option (List ℕ) → Source → Option Use
top_use_of None s = nearest (top_at None s) (reverse (standing s.items.now))
top_use_of (Some w) s = nearest (top_at (Some w) s) (standing s.items.now)

-- the top's use stands nowhere
abbrev pub top_seen : Use → Seen
top_seen u = record { parent = nowhere; above = []; earlier = []; use_ = u }
