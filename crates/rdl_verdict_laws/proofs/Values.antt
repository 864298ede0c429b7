-- Expressions have the values that they have apart from addresses.
use Rattle.std.proofs.Common.{◌≡◌, not, cond, refl, ap, ◌∙◌, List, [], ◌∷◌, map, Option, Some, None, option_map, Ok}
use Rattle.rdl_base.specs.declared.rule.Rule.TheVariants as rules
use Rattle.rdl_tree.specs.declared.expr.Expr.{Expr, Number, Flag, Str, Ref, EntryOf, Not', Binary', Pick'}
use Rattle.rdl_tree.specs.declared.expr.Name.{Name}
use Rattle.rdl_tree.specs.declared.expr.Path.{Path, Path', Row_of-Step, end_of-Step, more_of-Step, Row_of-Expr, end_of-Expr, more_of-Expr}
use Rattle.rdl_tree.specs.declared.expr.Step.{Step}
use Rattle.rdl_tree.specs.declared.item.Def.{Row_of-Item, end_of-Item, more_of-Item}
use Rattle.rdl_tree.specs.declared.item.Item.{Item, Def', EnumDef, Made, Default, Local, Dynamic}
use Rattle.rdl_verdict_laws.specs.Plain.{nowhere, plain_name, plain_expr, plain_path, plain_rows, plain_indices, plain_step, plain_item, plain_items, plain_param, plain_insts}
use Rattle.rdl_values.specs.Uses.{values}
use Rattle.rdl_values.specs.Values.{Around, flag, then, or_fails, as_flag, as_number, applied, start, value_of, number_of, bare, bare_name, path_place, parameter_of}
use Rattle.rdl_values.specs.Views.{item_is, indices, steps_listed, steps_of, listed, definition}
use Rattle.rdl_verdict_laws.specs.PlainInstances.{plain_view}

-- Views.

pub indices-plain : {m : _} (rows : Row_of-Expr m) → indices (plain_indices rows) ≡ map plain_expr (indices rows)
indices-plain end_of-Expr = refl
indices-plain (more_of-Expr e rest) = ap (λ es. plain_expr e ∷ es) (indices-plain rest)

listed-steps : {m : _} (rows : Row_of-Step m) → steps_listed (plain_rows rows) ≡ map plain_step (steps_listed rows)
listed-steps end_of-Step = refl
listed-steps (more_of-Step name p shape rows rest) = λ i. record { name = plain_name name; index = nowhere (indices-plain rows i) } ∷ listed-steps rest i

pub steps-plain : (p : Path) → steps_of (plain_path p) ≡ map plain_step (steps_of p)
steps-plain (Path' p shape rows) = listed-steps rows

pub listed-plain : {m : _} (rows : Row_of-Item m) → listed (plain_items rows) ≡ map plain_item (listed rows)
listed-plain end_of-Item = refl
listed-plain (more_of-Item i rest) = ap (λ is. plain_item i ∷ is) (listed-plain rest)

pub item_is-plain : (i : Item) → item_is (plain_item i) ≡ plain_view (item_is i)
item_is-plain (Def' k n ps p shape rows insts place) = λ i. definition (record { kind = k; name = option_map plain_name n; params = nowhere (map plain_param ps.now); items = nowhere (listed-plain rows i); insts = option_map plain_insts insts; place = place })
item_is-plain (EnumDef n es) = refl
item_is-plain (Made a of is) = refl
item_is-plain (Default s) = refl
item_is-plain (Local s) = refl
item_is-plain (Dynamic p s) = refl

-- Values.

bare_of : (n : Name) (q : _) (es : List Expr) (ss : List Step) → bare (map plain_step (record { name = n; index = record { ref_ptr = q; now = es } } ∷ ss)) ≡ option_map plain_name (bare (record { name = n; index = record { ref_ptr = q; now = es } } ∷ ss))
bare_of n q [] [] = refl
bare_of n q (e ∷ es) [] = refl
bare_of n q es (s ∷ ss) = refl

pub bare-plain : (ss : List Step) → bare (map plain_step ss) ≡ option_map plain_name (bare ss)
bare-plain [] = refl
bare-plain (s ∷ ss) = bare_of s.name s.index.ref_ptr s.index.now ss

pub bare_name-plain : (p : Path) (item : Option Name) → bare_name (plain_path p) (option_map plain_name item) ≡ option_map plain_name (bare_name p item)
bare_name-plain p None = ap bare (steps-plain p) ∙ bare-plain (steps_of p)
bare_name-plain p (Some n) = refl

pub parameter-plain : (r : Around) (n : Option Name) → parameter_of r (option_map plain_name n) ≡ parameter_of r n
parameter-plain r None = refl
parameter-plain r (Some n) = refl

place-steps : (ss : List Step) → path_place (map plain_step ss) ≡ path_place ss
place-steps [] = refl
place-steps (s ∷ ss) = refl

pub place-plain : (p : Path) → path_place (steps_of (plain_path p)) ≡ path_place (steps_of p)
place-plain p = ap path_place (steps-plain p) ∙ place-steps (steps_of p)

pub start-plain : (e : Expr) → start (plain_expr e) ≡ start e
start-plain (Number n p) = refl
start-plain (Flag b p) = refl
start-plain (Str s p) = refl
start-plain (Ref path item) = place-plain path
start-plain (EntryOf e n) = refl
start-plain (Not' q e p) = refl
start-plain (Binary' o q a r b p) = start-plain a
start-plain (Pick' q c r a s b p) = start-plain c

pub value-plain : (r : Around) (e : Expr) → value_of r (plain_expr e) ≡ value_of r e
value-plain r (Number n p) = refl
value-plain r (Flag b p) = refl
value-plain r (Str s p) = refl
value-plain r (Ref path item) = λ i. or_fails ((ap (parameter_of r) (bare_name-plain path item) ∙ parameter-plain r (bare_name path item)) i) rules.V1 (place-plain path i)
value-plain r (EntryOf e n) = refl
value-plain r (Not' q e p) = λ i. then (value-plain r e i) λ x. then (or_fails (as_flag x) rules.V2 p) λ b. Ok (flag (not b))
value-plain r (Binary' o q a s b p) = λ i. then (value-plain r a i) λ x. then (value-plain r b i) λ y. applied o p x y
value-plain r (Pick' q c s a t b p) = λ i. then (value-plain r c i) λ x. then (or_fails (as_flag x) rules.V2 p) λ z. cond z (value-plain r a i) (value-plain r b i)

pub number-plain : (r : Around) (e : Expr) → number_of r (plain_expr e) ≡ number_of r e
number-plain r e = λ i. then (value-plain r e i) λ v. or_fails (as_number v) rules.V2 (start-plain e i)

pub values-plain : (r : Around) (es : List Expr) → values r (map plain_expr es) ≡ values r es
values-plain r [] = refl
values-plain r (e ∷ es) = λ i. then (number-plain r e i) λ n. then (values-plain r es i) λ ns. Ok (n ∷ ns)
