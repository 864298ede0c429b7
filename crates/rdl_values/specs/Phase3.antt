-- Which rules on instances fail where: E1 to E14, and V rules in enumerations, arguments, defaults of parameters and parts of
-- instances. Each rule is a list of failures, over the bodies and the uses that are judged. The uses are those that give nodes.
use Rattle.std.specs.Prelude.{ℕ, Bool, true, false, not, ◌&&◌, ◌||◌, List, [], ◌∷◌, ◌++◌, length, nat_lt, ◌==◌, map, flat_map, drop, Option, None, Some, is_some, option_to_list, Contains}
use Rattle.std.specs.List.{list_any}
use Rattle.rdl_base.specs.declared.fault.Fault.{Fault}
use Rattle.rdl_base.specs.declared.rule.Rule.TheVariants as rules
use Rattle.rdl_tree.specs.declared.expr.Name.{Name}
use Rattle.rdl_tree.specs.declared.item.Item.{Item}
use Rattle.rdl_tree.specs.declared.item.Kind.{Kind}
use Rattle.rdl_tree.specs.declared.item.Kind.TheVariants as kind
use Rattle.rdl_tree.specs.declared.item.Source.{Source}
use Rattle.rdl_values.specs.Bodies.{Body, Closure, same_name, standing}
use Rattle.rdl_values.specs.Enums.{Judged, judged, around_enum}
use Rattle.rdl_values.specs.Faults.{at_, when}
use Rattle.rdl_values.specs.Instances.{Instance, body, seen_in, nodes, judged_nodes, most_nodes}
use Rattle.rdl_values.specs.NoNode.{no_node}
use Rattle.rdl_values.specs.Parts.{is_unit, is_empty}
use Rattle.rdl_values.specs.Top.{root, top_use_of, top_seen}
use Rattle.rdl_values.specs.Uses.{Use, Seen, seen}
use Rattle.rdl_values.specs.Values.{Around}
use Rattle.rdl_values.specs.Verdict.{Fails}
use Rattle.rdl_values.specs.Views as view
use Rattle.rdl_values.specs.Views.{ItemIs, item_is}

-- E1: no top
abbrev pub no_top : Option Use → List Fault
no_top None = at_ rules.E1 (record { 0 = 0 }) ∷ []
no_top (Some u) = []

-- E2: the name of a definition or an enumeration stands in its body before; both share one list of names
abbrev pub name_of : ItemIs → Option Name
name_of (view.definition d) = d.name
name_of (view.enumeration n es) = Some n
name_of _ = None

abbrev pub names_in : List Item → List Name
names_in items = flat_map (λ i. option_to_list (name_of (item_is i))) items

abbrev pub twice_defined : Body → List Fault
twice_defined b = flat_map (λ n. when (list_any (same_name n.1) n.0) (at_ rules.E2 n.1.place)) (standing (names_in b.items))

-- E5 at the root: an assignment that is no default
abbrev pub bare_assignment : ItemIs → List Fault
bare_assignment (view.local set) = at_ rules.E5 set.place ∷ []
bare_assignment (view.dynamic target set) = at_ rules.E5 set.place ∷ []
bare_assignment _ = []

abbrev pub bare_assignments : Source → List Fault
bare_assignments s = flat_map (λ i. bare_assignment (item_is i)) s.items.now

-- E7: a definition with more than 64 parameters is used
abbrev pub most_parameters : ℕ
most_parameters = 64

abbrev pub many_parameters : Closure → List Fault
many_parameters c = when (nat_lt most_parameters (length c.def.params.now)) (at_ rules.E7 c.def.place)

-- E9: the node behind the last one that is judged
abbrev pub first_over : List Instance → List Fault
first_over [] = []
first_over (n ∷ ns) = at_ rules.E9 n.use_.name.place ∷ []

abbrev pub too_many_nodes : Option (List ℕ) → Source → List Fault
too_many_nodes wanted s = first_over (drop most_nodes (nodes wanted s))

-- E12: a range or a reset value of what is no field, an address, stride or alignment of a field or signal, an address beside an
-- alignment, or a stride without dimensions
abbrev pub is_field : Kind → Bool
is_field kind.Field = true
is_field _ = false

abbrev pub is_bad_form : Use → Kind → Bool
is_bad_form u k =
    (not (is_field k) && (is_some u.form.range || is_some u.form.reset))
    || (is_unit k && (is_some u.form.at || is_some u.form.stride || is_some u.form.align))
    || (is_some u.form.at && is_some u.form.align)
    || (is_some u.form.stride && is_empty u.dims)

abbrev pub bad_form : Use → Kind → List Fault
bad_form u k = when (is_bad_form u k) (at_ rules.E12 u.name.place)

-- all failures of a use: those that give no node, and E7 and E12
abbrev pub of_use : Seen → List Fault
of_use s = no_node s ++ flat_map (λ c. many_parameters c ++ bad_form s.use_ c.def.kind) (option_to_list s.use_.closure)

-- E14: two entries of one name or of one value. Those from the first on whose value fails do not exist.
abbrev pub clashes : List (Name × ℕ) → Name × ℕ → Bool
clashes before e = list_any (λ f. same_name f.0 e.0 || f.1 == e.1) before

abbrev pub of_entries : Judged → List Fault
of_entries j = option_to_list j.failure ++ flat_map (λ e. when (clashes e.0 e.1) (at_ rules.E14 e.1.0.place)) (standing j.entries)

abbrev pub of_enum : Around → ItemIs → List Fault
of_enum env (view.enumeration n es) = of_entries (judged env es)
of_enum env _ = []

abbrev pub of_enums : Body → List Fault
of_enums b = flat_map (λ i. of_enum (around_enum b i.0) (item_is i.1)) (standing b.items)

-- What is judged: the root's body and those of the first nodes, each whole; the uses in these, and the top's. So a definition
-- that no path uses is not.

-- of a body and of the uses in it
abbrev pub of_judged : List Seen → Body → List Fault
of_judged uses b = twice_defined b ++ of_enums b ++ flat_map of_use uses

-- of the body of a node
abbrev pub of_node : Instance → List Fault
of_node n = of_judged (seen_in n) (body n)

-- all failures of the phase
unfoldable pub failures3 : Option (List ℕ) → Source → List Fault
failures3 wanted s =
    no_top (top_use_of wanted s)
    ++ bare_assignments s
    ++ flat_map of_use (map top_seen (option_to_list (top_use_of wanted s)))
    ++ of_judged (seen [] (root s)) (root s)
    ++ flat_map of_node (judged_nodes wanted s)
    ++ too_many_nodes wanted s

abbrev pub fails3 : Option (List ℕ) → Source → Fails
fails3 wanted s rule place = Contains (failures3 wanted s) (at_ rule place)
