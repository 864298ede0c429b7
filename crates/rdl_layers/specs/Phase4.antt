-- Which rules of the settings phase fail where: V in property values and indices, and P1 to P11.
use Rattle.std.specs.Prelude.{ℕ, ◌+◌, ◌-◌, Bool, not, ◌||◌, List, [], ◌∷◌, ◌++◌, nat_lt, ◌==◌, map, flat_map, Option, option_to_list, Contains}
use Rattle.std.specs.List.{list_any}
use Rattle.rdl_values.specs.Verdict.{Fails}
use Rattle.rdl_values.specs.Views as view
use Rattle.rdl_values.specs.Views.{ItemIs, item_is}
use Rattle.rdl_tree.specs.declared.item.Entry.{Entry}
use Rattle.rdl_tree.specs.declared.item.Item.{Item}
use Rattle.rdl_values.specs.Enums.{names_of}
use Rattle.rdl_tree.specs.declared.expr.Expr.{Expr}
use Rattle.rdl_base.specs.declared.fault.Fault.{Fault}
use Rattle.rdl_tree.specs.declared.item.Kind.{Kind}
use Rattle.rdl_tree.specs.declared.item.Kind.TheVariants as kind
use Rattle.rdl_tree.specs.declared.item.Source.{Source}
use Rattle.rdl_base.specs.declared.rule.Rule.TheVariants as rules
use Rattle.rdl_props.specs.declared.prop.Prop.{Prop}
use Rattle.rdl_props.specs.declared.prop.Prop.TheVariants as prop
use Rattle.rdl_values.specs.Values.{number_of}
use Rattle.rdl_values.specs.Bodies.{Scope, around, Body, standing}
use Rattle.rdl_values.specs.Uses.{when, at_}
use Rattle.rdl_values.specs.Instances.{Instance, body, root, kind_of, nodes}
use Rattle.rdl_layers.specs.Forms.{Meaning, number}
use Rattle.rdl_layers.specs.Assignments.{Nested, locals, defaults, dynamics}
use Rattle.rdl_layers.specs.Judged.{failures_of, failures_of_dynamic, anywhere, legal_on, legal_on_entry, all_failures}
use Rattle.rdl_layers.specs.Settings.{given, is_assigned, setting}

-- P1 to P8, and V in values and indices.

-- of the assignments in the body of a node to it
abbrev pub of_locals : Instance → List Fault
of_locals n = all_failures (failures_of (legal_on n)) (locals (body n))

-- of an enum's entry
abbrev pub of_entry : Scope → Entry → List Fault
of_entry scope e = all_failures (failures_of legal_on_entry) (map (λ s. record { set_ = s; scope = scope }) e.sets.now)

-- the bodies round an enum's text: it is not visible in itself, though its own name stands before its entries
abbrev pub scope_of_enum : Body → List Item → Scope
scope_of_enum b before = record { node = b.node; before = before; names = names_of (around b.outer) b.names.bound before } ∷ b.outer

-- of the enums of a body
abbrev pub of_enums : Body → List Fault
of_enums b = flat_map (λ i. go (scope_of_enum b i.0) (item_is i.1)) (standing b.items)
  where
    go : Scope → ItemIs → List Fault
    go scope (view.enumeration n es) = flat_map (of_entry scope) es
    go scope _ = []

-- of the defaults, enums and dynamic assignments of a body
abbrev pub of_body : Nested → List Fault
of_body b = all_failures (failures_of anywhere) (defaults b.1) ++ of_enums b.1 ++ all_failures (failures_of_dynamic b) (dynamics b.1)

-- P9 to P11, of the settings of a node, over the assignments that fail no rule above.

-- the number of a setting
abbrev pub number_in : Meaning → ℕ
number_in (number n) = n
number_in _ = 0

-- the number that a property is set to, 0 where there is none
abbrev pub number_at : Instance → Prop → ℕ
number_at n p = number_in (setting n p)

-- one of these numbers
abbrev pub is_one_of : List ℕ → ℕ → Bool
is_one_of ns n = list_any (λ m. m == n) ns

-- P9
abbrev pub bad_regwidth : Instance → Bool
bad_regwidth r = not (is_one_of (8 ∷ 16 ∷ 32 ∷ 64 ∷ []) (number_at r prop.Regwidth))

-- P10
abbrev pub bad_accesswidth : Instance → Bool
bad_accesswidth r = not (is_one_of (8 ∷ 16 ∷ 32 ∷ []) (number_at r prop.Accesswidth)) || nat_lt (number_at r prop.Regwidth) (number_at r prop.Accesswidth)

-- the numbers of the instance form
abbrev pub numbers_of : Instance → List Expr → List ℕ
numbers_of n es = flat_map (λ e. given (number_of (around n.use_.scope) e)) es

-- the range, in a list of one, or none
abbrev pub range_of : Instance → List (ℕ × ℕ)
range_of n = go (numbers_of n (flat_map (λ r. r.0 ∷ r.1 ∷ []) (option_to_list n.use_.form.range)))
  where
    go : List ℕ → List (ℕ × ℕ)
    go (high ∷ low ∷ []) = (high, low) ∷ []
    go _ = []

-- the width that the bracket or the range gives
abbrev pub form_widths : Instance → List ℕ
form_widths n = numbers_of n n.use_.dims ++ map (λ r. r.0 + 1 - r.1) (range_of n)

-- the property that gives a width
abbrev pub width_prop : Kind → Prop
width_prop kind.Signal = prop.Signalwidth
width_prop _ = prop.Fieldwidth

-- the width that an assignment gives, a default too; the table's own is no assignment
abbrev pub assigned_widths : Instance → List ℕ
assigned_widths n = when (is_assigned n (width_prop (kind_of n))) (number_at n (width_prop (kind_of n)))

-- the first of these, or this where there is none
abbrev pub first_or : List ℕ → ℕ → ℕ
first_or [] d = d
first_or (n ∷ ns) d = n

-- the width of a field or signal
abbrev pub width_of : Instance → ℕ
width_of n = first_or (form_widths n ++ assigned_widths n) 1

-- P11
abbrev pub bad_width : Instance → Bool
bad_width n =
    width_of n == 0 || nat_lt 64 (width_of n)
    || list_any (λ r. nat_lt r.0 r.1) (range_of n)
    || list_any (λ f. list_any (λ a. not (f == a)) (assigned_widths n)) (form_widths n)

-- of the widths of a node
abbrev pub of_node : Instance → List Fault
of_node n = go (kind_of n)
  where
    go : Kind → List Fault
    go kind.Reg = when (bad_regwidth n) (at_ rules.P9 n.use_.name.place) ++ when (bad_accesswidth n) (at_ rules.P10 n.use_.name.place)
    go kind.Field = when (bad_width n) (at_ rules.P11 n.use_.name.place)
    go kind.Signal = when (bad_width n) (at_ rules.P11 n.use_.name.place)
    go _ = []

-- All failures of the phase: in the root's body, and of each node and in its body.
unfoldable pub failures4 : Option (List ℕ) → Source → List Fault
failures4 wanted s = of_body ([], root s) ++ flat_map (λ n. of_locals n ++ of_body (n.above, body n) ++ of_node n) (nodes wanted s)

-- a rule of the settings phase fails at a place
abbrev pub fails4 : Option (List ℕ) → Source → Fails
fails4 wanted s r p = Contains (failures4 wanted s) (at_ r p)
