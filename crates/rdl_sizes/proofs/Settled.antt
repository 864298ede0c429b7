-- The widths of nodes where no rule on settings fails.
use Rattle.std.proofs.Common.{◌≡◌, ◌∙◌, ℕ, ◌<◌, ◌||◌, ◌==◌, inl, inr, Bool, true, false, not, List, [], ◌∷◌, ◌++◌, flat_map, Some, nat_lt, refl, sym, subst, arith}
use Rattle.std.specs.List.{list_any}
use Rattle.std.proofs.lemmas.Bool.Decides.{nat_tests}
use Rattle.rdl_base.specs.declared.fault.Fault.{Fault}
use Rattle.rdl_base.specs.declared.rule.Rule.TheVariants as rules
use Rattle.rdl_tree.specs.declared.item.Kind.TheVariants as kind
use Rattle.rdl_tree.specs.declared.node.Elab.{Elab}
use Rattle.rdl_props.specs.declared.prop.Prop.TheVariants as prop
use Rattle.rdl_values.specs.Elaborated.{nodes_of, top_name}
use Rattle.rdl_values.specs.Faults.{at_, when}
use Rattle.rdl_values.specs.Instances.{Instance, body, kind_of, root}
use Rattle.rdl_values.proofs.Sorted.{none_fails}
use Rattle.rdl_layers.specs.Answers.{IsSettled}
use Rattle.rdl_layers.specs.Phase4.{bad_accesswidth, bad_regwidth, bad_width, failures4, number_at, of_body, of_locals, of_node}
use Rattle.rdl_nodes.proofs.Members.{In}

abbrev all_of : Instance → List Fault
all_of n = of_locals n ++ of_body (n.above, body n) ++ of_node n

empty-right : (xs ys : List Fault) → xs ++ ys ≡ [] → ys ≡ []
empty-right [] ys e = e
empty-right (x ∷ xs) ys e = cc e

empty-left : (xs ys : List Fault) → xs ++ ys ≡ [] → xs ≡ []
empty-left [] ys e = refl
empty-left (x ∷ xs) ys e = cc e

none-of : (ns : List Instance) (n : Instance) → flat_map all_of ns ≡ [] → In ns n → all_of n ≡ []
none-of [] n e h = absurd h
none-of (m ∷ ms) n e (inl s) = subst (λ x. all_of x ≡ []) s (empty-left (all_of m) (flat_map all_of ms) e)
none-of (m ∷ ms) n e (inr h) = none-of ms n (empty-right (all_of m) (flat_map all_of ms) e) h

no-failures : (e : Elab) → IsSettled e → flat_map all_of (nodes_of e) ≡ []
unfolding failures4
no-failures e h = empty-right (of_body ([], root e.source.now)) (flat_map all_of (nodes_of e)) (none_fails (failures4 (Some (top_name e)) e.source.now) h)

pub settled-node : (e : Elab) → IsSettled e → (n : Instance) → In (nodes_of e) n → of_node n ≡ []
settled-node e h n i = empty-right (of_locals n ++ of_body (n.above, body n)) (of_node n) (none-of (nodes_of e) n (no-failures e h) i)

when-empty : (b : Bool) (f : Fault) → when b f ≡ [] → b ≡ false
when-empty true f e = cc e
when-empty false f e = refl

of-reg : (n : Instance) → kind_of n ≡ kind.Reg → of_node n ≡ when (bad_regwidth n) (at_ rules.P9 n.use_.name.place) ++ when (bad_accesswidth n) (at_ rules.P10 n.use_.name.place)
of-reg n e = rw e refl

of-field : (n : Instance) → kind_of n ≡ kind.Field → of_node n ≡ when (bad_width n) (at_ rules.P11 n.use_.name.place)
of-field n e = rw e refl

one-of-three : (a : ℕ) (b : Bool) → not (list_any (λ m. m == a) (8 ∷ 16 ∷ 32 ∷ [])) || b ≡ false → (7 < a) × (a < 64)
one-of-three a b e = (grind (arith, nat_tests), grind (arith, nat_tests))

one-of-four : (a : ℕ) → not (list_any (λ m. m == a) (8 ∷ 16 ∷ 32 ∷ 64 ∷ [])) ≡ false → (7 < a) × (a < 65)
one-of-four a e = (grind (arith, nat_tests), grind (arith, nat_tests))

pub reg-accesswidth : (e : Elab) → IsSettled e → (n : Instance) → In (nodes_of e) n → kind_of n ≡ kind.Reg → (7 < number_at n prop.Accesswidth) × (number_at n prop.Accesswidth < 64)
reg-accesswidth e h n i k =
    let none = sym (of-reg n k) ∙ settled-node e h n i in
    let fits = when-empty (bad_accesswidth n) (at_ rules.P10 n.use_.name.place) (empty-right (when (bad_regwidth n) (at_ rules.P9 n.use_.name.place)) (when (bad_accesswidth n) (at_ rules.P10 n.use_.name.place)) none) in
    one-of-three (number_at n prop.Accesswidth) (nat_lt (number_at n prop.Regwidth) (number_at n prop.Accesswidth)) fits

pub reg-regwidth : (e : Elab) → IsSettled e → (n : Instance) → In (nodes_of e) n → kind_of n ≡ kind.Reg → (7 < number_at n prop.Regwidth) × (number_at n prop.Regwidth < 65)
reg-regwidth e h n i k =
    let none = sym (of-reg n k) ∙ settled-node e h n i in
    let fits = when-empty (bad_regwidth n) (at_ rules.P9 n.use_.name.place) (empty-left (when (bad_regwidth n) (at_ rules.P9 n.use_.name.place)) (when (bad_accesswidth n) (at_ rules.P10 n.use_.name.place)) none) in
    one-of-four (number_at n prop.Regwidth) fits

pub field-width : (e : Elab) → IsSettled e → (n : Instance) → In (nodes_of e) n → kind_of n ≡ kind.Field → bad_width n ≡ false
field-width e h n i k = when-empty (bad_width n) (at_ rules.P11 n.use_.name.place) (sym (of-field n k) ∙ settled-node e h n i)
