-- The uses in a body, the values of their parameters, and what they break, apart from addresses.
use Rattle.std.specs.Borrow.{Bor}
use Rattle.std.specs.List.{list_any, find}
use Rattle.std.specs.Option.{option_copied}
use Rattle.std.proofs.Common.{◌≡◌, ℕ, nat_lt, Bool, not, ◌&&◌, ◌||◌, cond, refl, sym, ap, ◌∙◌, List, [], ◌∷◌, ◌++◌, map, flat_map, Option, Some, None, option_map, option_to_list, Ok, Err, is_some, is_none}
use Rattle.std.proofs.lemmas.List.{map-append, length-map}
use Rattle.plain_lemmas.proofs.Bools.{cond-map as cond_map}
use Rattle.rdl_base.specs.declared.fault.Fault.{Fault}
use Rattle.rb_base.specs.declared.place.Place.{Place}
use Rattle.rdl_base.specs.declared.rule.Rule.TheVariants as rules
use Rattle.rdl_tree.specs.declared.expr.Expr.{Expr}
use Rattle.rdl_tree.specs.declared.expr.Name.{Name}
use Rattle.rdl_tree.specs.declared.item.Arg.{Arg}
use Rattle.rdl_tree.specs.declared.item.Inst.{Inst}
use Rattle.rdl_tree.specs.declared.item.Insts.{Insts}
use Rattle.rdl_tree.specs.declared.item.Item.{Item}
use Rattle.rdl_tree.specs.declared.item.Kind.{Kind}
use Rattle.rdl_tree.specs.declared.item.Param.{Param}
use Rattle.rdl_verdict_laws.specs.Plain.{plain_name, plain_expr, plain_pair, plain_behind, plain_range, plain_item, plain_inst, plain_insts, plain_arg, plain_param}
use Rattle.rdl_values.specs.Bodies.{Scope, Closure, Body, around, standing, same_name, scope_at, component}
use Rattle.rdl_values.specs.Faults.{at_, when, failures}
use Rattle.rdl_values.specs.NoNode.{may_hold, most_names, is_reg, is_single_reg, is_primary, has_primary, bad_alias, name_twice, of_closure, of_type, no_node}
use Rattle.rdl_values.specs.Parameters.{Bound, argument, typed, given, is_bound, value_at, bound_from, bound_of, is_bad_argument, bad_arguments}
use Rattle.rdl_values.specs.Parts.{is_unit, dims_of, parts, bad_parts, most_dims, is_zero, has_zero, bad_array, is_empty, is_long, long_path}
use Rattle.rdl_values.specs.Paths.{Parent, depth_in}
use Rattle.rdl_values.specs.Uses.{Use, Seen, form_of, uses_of_insts, uses_of_item, uses, parent_of, seen, values}
use Rattle.rdl_values.specs.Values.{Around, Outcome, then, or_fails, as_type, number_of}
use Rattle.rdl_values.specs.Views as view
use Rattle.rdl_values.specs.Views.{ItemIs, item_is}
use Rattle.rdl_verdict_laws.specs.PlainInstances.{plain_view, plain_scope, plain_closure, plain_body, plain_form, plain_use, plain_seen}
use Rattle.rdl_verdict_laws.proofs.Lists.{map_to, flat_id, flat_under, flat_same, any_same, find_under, list_of, both, standing_under}
use Rattle.rdl_verdict_laws.proofs.Values.{item_is-plain, start-plain, value-plain, number-plain, values-plain}
use Rattle.rdl_verdict_laws.proofs.Bodies.{around-plain, component-plain}

-- The uses of a body.

behind-plain : (r : Option (Bor Expr)) → option_copied (plain_behind r) ≡ option_map plain_expr (option_copied r)
behind-plain None = refl
behind-plain (Some x) = refl

range-plain : (r : Option (Bor (Expr × Expr))) → option_copied (plain_range r) ≡ option_map plain_pair (option_copied r)
range-plain None = refl
range-plain (Some x) = refl

form-plain : (i : Inst) → form_of (plain_inst i) ≡ plain_form (form_of i)
form-plain i = λ j. record { range = range-plain i.range j; reset = behind-plain i.reset j; at = behind-plain i.at j; stride = behind-plain i.stride j; align = behind-plain i.align j }

insts-plain : (s : Scope) (alias : Option Name) (place : Place) (c : Option Closure) (is : Insts) → uses_of_insts (plain_scope s) (option_map plain_name alias) place (option_map plain_closure c) (plain_insts is) ≡ map plain_use (uses_of_insts s alias place c is)
insts-plain s alias place c is = map_to
    (λ (i : Inst). record { inst = Some i; name = i.name; dims = i.dims.now; form = form_of i; args = map plain_arg is.args.now; alias = option_map plain_name alias; type_place = place; closure = option_map plain_closure c; scope = plain_scope s })
    (λ (i : Inst). record { inst = Some i; name = i.name; dims = i.dims.now; form = form_of i; args = is.args.now; alias = alias; type_place = place; closure = c; scope = s })
    plain_inst plain_use
    (λ i j. record { inst = Some (plain_inst i); name = plain_name i.name; dims = map plain_expr i.dims.now; form = form-plain i j; args = map plain_arg is.args.now; alias = option_map plain_name alias; type_place = place; closure = option_map plain_closure c; scope = plain_scope s })
    is.list.now

item-plain : (s : Scope) (v : ItemIs) → uses_of_item (plain_scope s) (plain_view v) ≡ map plain_use (uses_of_item s v)
item-plain s (view.definition d) =
    let c : Option Closure = Some (record { def = d; scope = s }) in
    ap (flat_map (uses_of_insts (plain_scope s) None d.place (option_map plain_closure c))) (list_of plain_insts d.insts)
    ∙ flat_under (uses_of_insts (plain_scope s) None d.place (option_map plain_closure c)) (uses_of_insts s None d.place c) plain_insts plain_use (insts-plain s None d.place c) (option_to_list d.insts)
item-plain s (view.made alias of is) = ap (λ c. uses_of_insts (plain_scope s) (option_map plain_name alias) of.place c (plain_insts is)) (component-plain of.text.now s) ∙ insts-plain s alias of.place (component of.text.now s) is
item-plain s (view.enumeration n es) = refl
item-plain s (view.default_ t) = refl
item-plain s (view.local t) = refl
item-plain s (view.dynamic p t) = refl

pub uses-plain : (b : Body) → uses (plain_body b) ≡ map plain_use (uses b)
uses-plain b =
    let f : List Item × Item → List Use = λ x. uses_of_item (scope_at (plain_body b) x.0) (item_is x.1) in
    let h : List Item × Item → List Use = λ x. uses_of_item (scope_at b x.0) (item_is x.1) in
    ap (flat_map f) (standing_under plain_item b.items)
    ∙ flat_under f h (both plain_item) plain_use (λ x. ap (uses_of_item (plain_scope (scope_at b x.0))) (item_is-plain x.1) ∙ item-plain (scope_at b x.0) (item_is x.1)) (standing b.items)

pub seen-plain : (above : List Body) (b : Body) → seen (map plain_body above) (plain_body b) ≡ map plain_seen (seen above b)
seen-plain above b =
    let f : List Use × Use → Seen = λ u. record { parent = parent_of b; above = map plain_body above; earlier = u.0; use_ = u.1 } in
    let h : List Use × Use → Seen = λ u. record { parent = parent_of b; above = above; earlier = u.0; use_ = u.1 } in
    ap (λ us. map f (standing us)) (uses-plain b) ∙ ap (map f) (standing_under plain_use (uses b)) ∙ map_to f h (both plain_use) plain_seen (λ u. refl) (standing (uses b))

-- Parameters.

argument-plain : (xs : List Arg) (n : Name) → argument (map plain_arg xs) (plain_name n) ≡ option_map plain_expr (argument xs n)
argument-plain [] n = refl
argument-plain (a ∷ xs) n = ap (cond (same_name a.name n) (Some (plain_expr a.value))) (argument-plain xs n) ∙ cond_map (option_map plain_expr) (same_name a.name n) (Some a.value) (argument xs n)

typed-plain : (r : Around) (p : Param) (e : Expr) → typed r (plain_param p) (plain_expr e) ≡ typed r p e
typed-plain r p e = λ i. then (value-plain r e i) λ v. or_fails (as_type p.ptype v) rules.V2 (start-plain e i)

given-plain : (r s : Around) (place : Place) (p : Param) (a d : Option Expr) → given r s place (plain_param p) (option_map plain_expr a) (option_map plain_expr d) ≡ given r s place p a d
given-plain r s place p (Some e) d = typed-plain r p e
given-plain r s place p None (Some e) = typed-plain s p e
given-plain r s place p None None = refl

value_at-plain : (u : Use) (s : Scope) (b : Bound) (p : Param) → value_at (plain_use u) (plain_scope s) b (plain_param p) ≡ value_at u s b p
value_at-plain u s b p =
    (λ i. cond (is_bound p.name b) (or_fails None rules.E6 p.name.place) (given (around-plain u.scope i) (record { bound = b; enums = [] } ∷ around-plain s i) u.type_place (plain_param p) (argument-plain u.args p.name i) (option_map plain_expr p.default)))
    ∙ ap (cond (is_bound p.name b) (or_fails None rules.E6 p.name.place)) (given-plain (around u.scope) (record { bound = b; enums = [] } ∷ around s) u.type_place p (argument u.args p.name) p.default)

bound_from-plain : (u : Use) (s : Scope) (b : Bound) (ps : List Param) → bound_from (plain_use u) (plain_scope s) b (map plain_param ps) ≡ bound_from u s b ps
bound_from-plain u s b [] = refl
bound_from-plain u s b (p ∷ ps) = λ i. then (value_at-plain u s b p i) λ v. bound_from-plain u s (b ++ ((p.name.text.now, v) ∷ [])) ps i

pub bound-plain : (u : Use) (c : Closure) → bound_of (plain_use u) (plain_closure c) ≡ bound_of u c
bound-plain u c = bound_from-plain u c.scope [] c.def.params.now

bad_argument-plain : (ps : List Param) (before : List Arg) (a : Arg) → is_bad_argument (map plain_param ps) (map plain_arg before) (plain_arg a) ≡ is_bad_argument ps before a
bad_argument-plain ps before a = λ i. not (any_same (λ (p : Param). same_name p.name (plain_name a.name)) (λ p. same_name p.name a.name) plain_param (λ p. refl) ps i) || any_same (λ (b : Arg). same_name b.name (plain_name a.name)) (λ b. same_name b.name a.name) plain_arg (λ b. refl) before i

bad_arguments-plain : (u : Use) (c : Closure) → bad_arguments (plain_use u) (plain_closure c) ≡ bad_arguments u c
bad_arguments-plain u c =
    let f : List Arg × Arg → List Fault = λ a. when (is_bad_argument (map plain_param c.def.params.now) a.0 a.1) (at_ rules.E6 a.1.name.place) in
    let h : List Arg × Arg → List Fault = λ a. when (is_bad_argument c.def.params.now a.0 a.1) (at_ rules.E6 a.1.name.place) in
    ap (flat_map f) (standing_under plain_arg u.args) ∙ flat_same f h (both plain_arg) (λ a. ap (λ t. when t (at_ rules.E6 a.1.name.place)) (bad_argument-plain c.def.params.now a.0 a.1)) (standing u.args)

-- Parts.

pub dims-plain : (u : Use) (k : Kind) → dims_of (plain_use u) k ≡ dims_of u k
dims-plain u k = (λ i. cond (is_unit k) (Ok []) (values (around-plain u.scope i) (map plain_expr u.dims))) ∙ ap (cond (is_unit k) (Ok [])) (values-plain (around u.scope) u.dims)

range_parts : (r : Option (Expr × Expr)) → flat_map (λ (p : Expr × Expr). p.0 ∷ p.1 ∷ []) (option_to_list (option_map plain_pair r)) ≡ map plain_expr (flat_map (λ (p : Expr × Expr). p.0 ∷ p.1 ∷ []) (option_to_list r))
range_parts None = refl
range_parts (Some r) = refl

parts-plain : (u : Use) → parts (plain_use u) ≡ map plain_expr (parts u)
parts-plain u =
    let a = flat_map (λ (p : Expr × Expr). p.0 ∷ p.1 ∷ []) (option_to_list u.form.range) in
    let b = option_to_list u.form.reset in
    let c = option_to_list u.form.at in
    let d = option_to_list u.form.stride in
    let e = option_to_list u.form.align in
    (λ i. map plain_expr u.dims ++ range_parts u.form.range i ++ list_of plain_expr u.form.reset i ++ list_of plain_expr u.form.at i ++ list_of plain_expr u.form.stride i ++ list_of plain_expr u.form.align i)
    ∙ (λ i. sym (map-append plain_expr u.dims a) i ++ map plain_expr b ++ map plain_expr c ++ map plain_expr d ++ map plain_expr e)
    ∙ (λ i. sym (map-append plain_expr (u.dims ++ a) b) i ++ map plain_expr c ++ map plain_expr d ++ map plain_expr e)
    ∙ (λ i. sym (map-append plain_expr (u.dims ++ a ++ b) c) i ++ map plain_expr d ++ map plain_expr e)
    ∙ (λ i. sym (map-append plain_expr (u.dims ++ a ++ b ++ c) d) i ++ map plain_expr e)
    ∙ sym (map-append plain_expr (u.dims ++ a ++ b ++ c ++ d) e)

bad_parts-plain : (u : Use) → bad_parts (plain_use u) ≡ bad_parts u
bad_parts-plain u =
    let f : Around → Expr → List Fault = λ r e. failures (number_of r e) in
    (λ i. flat_map (f (around-plain u.scope i)) (parts-plain u i)) ∙ flat_id (f (around u.scope)) plain_expr (λ e. ap failures (number-plain (around u.scope) e)) (parts u)

zero-plain : (u : Use) → has_zero (plain_use u) ≡ has_zero u
zero-plain u =
    let f : Around → Expr → Bool = λ r e. is_zero (number_of r e) in
    (λ i. list_any (f (around-plain u.scope i)) (map plain_expr u.dims)) ∙ any_same (f (around u.scope)) (f (around u.scope)) plain_expr (λ e. ap is_zero (number-plain (around u.scope) e)) u.dims

bad_array-plain : (u : Use) (k : Kind) → bad_array (plain_use u) k ≡ bad_array u k
bad_array-plain u k = λ i. when (cond (is_unit k) (nat_lt 1 (length-map u.dims plain_expr i)) (nat_lt most_dims (length-map u.dims plain_expr i) || zero-plain u i)) (at_ rules.E10 u.name.place)

long-plain : (p : Parent) (u : Use) (k : Kind) → long_path p (plain_use u) k ≡ long_path p u k
long-plain p u k = (λ i. when (is_long p (plain_use u) (dims-plain u k i)) (at_ rules.E11 u.name.place)) ∙ go (dims_of u k)
  where
    go : (o : Outcome (List ℕ)) → when (is_long p (plain_use u) o) (at_ rules.E11 u.name.place) ≡ when (is_long p u o) (at_ rules.E11 u.name.place)
    go (Ok dims) = refl
    go (Err f) = refl

-- What gives no node.

pub empty-plain : {A B : Type 0} (f : A → B) (xs : List A) → is_empty (map f xs) ≡ is_empty xs
empty-plain f [] = refl
empty-plain f (x ∷ xs) = refl

pub none-plain : {A B : Type 0} (f : A → B) (o : Option A) → is_none (option_map f o) ≡ is_none o
none-plain f None = refl
none-plain f (Some x) = refl

pub some-plain : {A B : Type 0} (f : A → B) (o : Option A) → is_some (option_map f o) ≡ is_some o
some-plain f None = refl
some-plain f (Some x) = refl

single-plain : (u : Use) → is_single_reg (plain_use u) ≡ is_single_reg u
single-plain u =
    let p : Closure → Bool = λ c. is_reg c.def.kind in
    let kind = ap (list_any p) (list_of plain_closure u.closure) ∙ any_same p p plain_closure (λ c. refl) (option_to_list u.closure) in
    λ i. empty-plain plain_expr u.dims i && none-plain plain_pair u.form.range i && kind i

primary-plain : (u : Use) → is_primary (plain_use u) ≡ is_primary u
primary-plain u = λ i. none-plain plain_name u.alias i && single-plain u i

has_primary-plain : (us : List Use) (n : Name) → has_primary (map plain_use us) (plain_name n) ≡ has_primary us n
has_primary-plain us n =
    ap (λ o. list_any is_primary (option_to_list o)) (find_under (λ (u : Use). same_name u.name n) (λ (u : Use). same_name u.name n) plain_use (λ u. refl) us)
    ∙ ap (list_any is_primary) (list_of plain_use (find (λ (u : Use). same_name u.name n) us))
    ∙ any_same is_primary is_primary plain_use primary-plain (option_to_list (find (λ (u : Use). same_name u.name n) us))

bad_alias-plain : (us : List Use) (u : Use) → bad_alias (map plain_use us) (plain_use u) ≡ bad_alias us u
bad_alias-plain us u =
    let f : Name → List Fault = λ n. when (not (has_primary (map plain_use us) n && is_single_reg (plain_use u))) (at_ rules.E13 n.place) in
    let h : Name → List Fault = λ n. when (not (has_primary us n && is_single_reg u)) (at_ rules.E13 n.place) in
    ap (flat_map f) (list_of plain_name u.alias) ∙ flat_same f h plain_name (λ n i. when (not (has_primary-plain us n i && single-plain u i)) (at_ rules.E13 n.place)) (option_to_list u.alias)

twice-plain : (s : Seen) → name_twice (plain_seen s) ≡ name_twice s
twice-plain s = ap (λ t. when t (at_ rules.E4 s.use_.name.place)) (any_same (λ (u : Use). same_name u.name s.use_.name) (λ (u : Use). same_name u.name s.use_.name) plain_use (λ u. refl) s.earlier)

closure-plain : (s : Seen) (c : Closure) → of_closure (plain_seen s) (plain_closure c) ≡ of_closure s c
closure-plain s c = λ i.
    when (not (may_hold s.parent c.def.kind)) (at_ rules.E5 s.use_.name.place)
    ++ bad_arguments-plain s.use_ c i
    ++ failures (bound-plain s.use_ c i)
    ++ bad_parts-plain s.use_ i
    ++ when (nat_lt most_names (depth_in s.parent)) (at_ rules.E8 s.use_.name.place)
    ++ bad_array-plain s.use_ c.def.kind i
    ++ long-plain s.parent s.use_ c.def.kind i
    ++ bad_alias-plain s.earlier s.use_ i

type-plain : (s : Seen) (c : Option Closure) → of_type (plain_seen s) (option_map plain_closure c) ≡ of_type s c
type-plain s None = refl
type-plain s (Some c) = closure-plain s c

pub no_node-plain : (s : Seen) → no_node (plain_seen s) ≡ no_node s
no_node-plain s = λ i. twice-plain s i ++ type-plain s s.use_.closure i
