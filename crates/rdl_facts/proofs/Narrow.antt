-- No width is above 64 where no rule on settings fails.
use Rattle.std.proofs.Common.{◌≡◌, ◌∙◌, ℕ, ◌≤◌, Bool, true, false, ◌||◌, not, ◌==◌, List, [], ◌∷◌, ◌++◌, flat_map, nat_lt, Some, refl, subst, arith, inl, inr}
use Rattle.std.specs.List.{list_any}
use Rattle.std.proofs.lemmas.Bool.Decides.{nat_tests}
use Rattle.rdl_base.specs.declared.fault.Fault.{Fault}
use Rattle.rdl_base.specs.declared.rule.Rule.TheVariants as rules
use Rattle.rdl_tree.specs.declared.item.Kind.{Kind}
use Rattle.rdl_tree.specs.declared.item.Kind.TheVariants as kind
use Rattle.rdl_tree.specs.declared.node.Elab.{Elab}
use Rattle.rdl_values.specs.Elaborated.{nodes_of, top_name}
use Rattle.rdl_values.specs.Instances.{Instance, body, kind_of, root}
use Rattle.rdl_values.specs.Parts.{is_unit}
use Rattle.rdl_values.specs.Uses.{at_, when}
use Rattle.rdl_values.proofs.Sorted.{none_fails}
use Rattle.rdl_layers.specs.Answers.{IsSettled}
use Rattle.rdl_layers.specs.Phase4.{assigned_widths, bad_accesswidth, bad_regwidth, bad_width, failures4, form_widths, of_body, of_locals, of_node, range_of, width_of}
use Rattle.rdl_nodes.proofs.Members.{In}

left-nil : (xs ys : List Fault) → xs ++ ys ≡ [] → xs ≡ []
left-nil [] ys e = refl
left-nil (x ∷ xs) ys e = cc

right-nil : (xs ys : List Fault) → xs ++ ys ≡ [] → ys ≡ []
right-nil [] ys e = e
right-nil (x ∷ xs) ys e = cc

each-nil : (f : Instance → List Fault) (ns : List Instance) (n : Instance) → flat_map f ns ≡ [] → In ns n → f n ≡ []
each-nil f [] n e h = absurd h
each-nil f (m ∷ ns) n e (inl q) = subst (λ x. f x ≡ []) q (left-nil (f m) (flat_map f ns) e)
each-nil f (m ∷ ns) n e (inr h) = each-nil f ns n (right-nil (f m) (flat_map f ns) e) h

-- the failures of a node's widths, by its kind
abbrev widths-of : Instance → Kind → List Fault
widths-of n kind.Reg = when (bad_regwidth n) (at_ rules.P9 n.use_.name.place) ++ when (bad_accesswidth n) (at_ rules.P10 n.use_.name.place)
widths-of n kind.Field = when (bad_width n) (at_ rules.P11 n.use_.name.place)
widths-of n kind.Signal = when (bad_width n) (at_ rules.P11 n.use_.name.place)
widths-of n _ = []

by-kind : (n : Instance) → widths-of n (kind_of n) ≡ of_node n
by-kind n = refl

not-when : (b : Bool) (f : Fault) → when b f ≡ [] → b ≡ false
not-when true f e = cc
not-when false f e = refl

second-false : (a b c d : Bool) → a || b || c || d ≡ false → b ≡ false
second-false true b c d e = cc
second-false false true c d e = cc
second-false false false c d e = refl

not-above : (w : ℕ) → nat_lt 64 w ≡ false → w ≤ 64
not-above w e = grind (arith, nat_tests)

of-width : (n : Instance) → bad_width n ≡ false → width_of n ≤ 64
of-width n e =
    not-above (width_of n) (second-false (width_of n == 0) (nat_lt 64 (width_of n)) (list_any (λ r. nat_lt r.0 r.1) (range_of n)) (list_any (λ f. list_any (λ a. not (f == a)) (assigned_widths n)) (form_widths n)) e)

of-unit : (n : Instance) (k : Kind) → is_unit k ≡ true → widths-of n k ≡ [] → width_of n ≤ 64
of-unit n kind.Field u e = of-width n (not-when (bad_width n) (at_ rules.P11 n.use_.name.place) e)
of-unit n kind.Signal u e = of-width n (not-when (bad_width n) (at_ rules.P11 n.use_.name.place) e)
of-unit n k u e = cc u

pub narrow : (e : Elab) (n : Instance) → IsSettled e → In (nodes_of e) n → is_unit (kind_of n) ≡ true → width_of n ≤ 64
unfolding failures4
narrow e n settled there unit =
    let none = none_fails (failures4 (Some (top_name e)) e.source.now) settled in
    let all = right-nil (of_body ([], root e.source.now)) (flat_map (λ n. of_locals n ++ of_body (n.above, body n) ++ of_node n) (nodes_of e)) none in
    let own = each-nil (λ n. of_locals n ++ of_body (n.above, body n) ++ of_node n) (nodes_of e) n all there in
    of-unit n (kind_of n) unit (by-kind n ∙ right-nil (of_locals n ++ of_body (n.above, body n)) (of_node n) own)
