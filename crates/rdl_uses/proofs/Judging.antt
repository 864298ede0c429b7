-- The failures of a use, step by step.
use Rattle.std.proofs.Common.{◌≡◌, ◌∙◌, Bool, true, false, not, ◌&&◌, ◌||◌, nat_lt, List, ◌++◌, length, flat_map, Option, is_none, option_to_list, refl, sym, ap, subst, append_assoc, append-nil}
use Rattle.std.specs.List.{list_any}
use Rattle.plain_lemmas.proofs.Bools.{and-left, and-right}
use Rattle.rdl_base.specs.declared.fault.Fault.{Fault}
use Rattle.rdl_base.specs.declared.rule.Rule.TheVariants as rules
use Rattle.rdl_tree.specs.declared.expr.Name.{Name}
use Rattle.rdl_tree.specs.declared.item.Def.{Def}
use Rattle.rdl_tree.specs.declared.item.Inst.{Inst}
use Rattle.rdl_tree.specs.declared.item.Kind.{Kind}
use Rattle.rdl_values.specs.Bodies.{Closure, same_name}
use Rattle.rdl_values.specs.Faults.{at_, failures, when}
use Rattle.rdl_values.specs.NoNode.{bad_alias, has_primary, is_reg, is_single_reg, may_hold, name_twice, no_node, of_closure, of_type}
use Rattle.rdl_values.specs.Parameters.{bad_arguments, bound_of}
use Rattle.rdl_values.specs.Parts.{bad_array, bad_parts, is_empty, long_path}
use Rattle.rdl_values.specs.Phase3.{bad_form, is_bad_form, many_parameters, of_use}
use Rattle.rdl_values.specs.Uses.{Seen, Use}
use Rattle.rdl_values.specs.declared.chain.Chain.{Chain}
use Rattle.rdl_values.proofs.Copied.{none_copied}
use Rattle.rdl_failures.specs.Noted.{Holds, IsNoted, with_all}
use Rattle.rdl_failures.proofs.Noting.{both_noted, held_noted, noted_as}
use Rattle.rdl_failures.proofs.Sets.{kept}
use Rattle.rdl_uses.specs.Parts.{of_parts}
use Rattle.rdl_uses.specs.Judged.{IsSeen, of_values}
use Rattle.rdl_uses.specs.declared.earlier.Earlier.{Earlier}
use Rattle.rdl_uses.specs.declared.holder.Parent.{Parent}

regrouped : (n p a b q d r l x : List Fault) → n ++ (p ++ (a ++ b) ++ (q ++ d ++ r ++ l) ++ x) ≡ n ++ (p ++ a ++ b ++ q ++ d ++ r ++ l ++ x)
regrouped n p a b q d r l x = simp append_assoc

pub dims-clean : (fresh held given dims aliased : Bool) → (fresh && (held && given && dims && aliased)) ≡ true → dims ≡ true
dims-clean fresh held given dims aliased e = and-right (held && given) dims (and-left (held && given && dims) aliased (and-right fresh _ e))

module _ (i : Inst) (d : Def) (alias : Option Name) (parent : Parent) (v : Chain) (e : Earlier) (s : Seen) (c : Closure) (seen : IsSeen i d alias parent v e s c) where
  abbrev u : Use
  u = s.use_

  abbrev k : Kind
  k = c.def.kind

  pub fresh_noted : (x b : Bool) (l m : List Fault) → x ≡ list_any (λ u. same_name u.name i.name) s.earlier → IsNoted (when x (at_ rules.E4 i.name.place)) b l m → IsNoted (name_twice s) b l m
  fresh_noted x b l m q h =
      let named = q ∙ ap (λ n. list_any (λ u. same_name u.name n) s.earlier) (sym seen.use_is.name) in
      noted_as _ (name_twice s) b l m (λ j. when (named j) (at_ rules.E4 (sym seen.use_is.name j).place)) h

  pub held_there : (x b : Bool) (l m : List Fault) → x ≡ may_hold s.parent d.kind → IsNoted (when (not x) (at_ rules.E5 i.name.place)) b l m → IsNoted (when (not (may_hold s.parent k)) (at_ rules.E5 u.name.place)) b l m
  held_there x b l m q h =
      let there = q ∙ ap (λ d. may_hold s.parent d.kind) (sym seen.def) in
      noted_as _ _ b l m (λ j. when (not (there j)) (at_ rules.E5 (sym seen.use_is.name j).place)) h

  single-is : (is_empty i.dims.now && is_none i.range && is_reg d.kind) ≡ is_single_reg u
  single-is =
      let kinds : is_reg d.kind ≡ is_reg k = ap (λ d. is_reg d.kind) (sym seen.def) in
      let one : is_reg k ≡ list_any (λ c. is_reg c.def.kind) (option_to_list u.closure) = sym (ap (λ o. list_any (λ c. is_reg c.def.kind) (option_to_list o)) seen.closure ∙ or-false (is_reg k)) in
      (λ j. is_empty i.dims.now && sym (none_copied i.range) j && is_reg d.kind) ∙ (λ j. is_empty (sym seen.use_is.dims j) && is_none (sym seen.use_is.form j).range && (kinds ∙ one) j)
    where
      or-false : (b : Bool) → (b || false) ≡ b
      or-false true = refl
      or-false false = refl

  pub alias_noted : (single b : Bool) (l m : List Fault) → single ≡ (is_empty i.dims.now && is_none i.range && is_reg d.kind) → IsNoted (flat_map (λ n. when (not (has_primary s.earlier n && single)) (at_ rules.E13 n.place)) (option_to_list alias)) b l m
      → IsNoted (bad_alias s.earlier u) b l m
  alias_noted single b l m q h =
      let same = q ∙ single-is in
      noted_as _ (bad_alias s.earlier u) b l m (λ j. flat_map (λ n. when (not (has_primary s.earlier n && same j)) (at_ rules.E13 n.place)) (option_to_list (sym seen.alias_is j))) h

  pub many_noted : (b : Bool) (l m : List Fault) → IsNoted (when (nat_lt 64 (length d.params.now)) (at_ rules.E7 d.place)) b l m → IsNoted (many_parameters c) b l m
  many_noted b l m h = noted_as _ (many_parameters c) b l m (ap (λ d. when (nat_lt 64 (length d.params.now)) (at_ rules.E7 d.place)) (sym seen.def)) h

  pub form_noted : (x b : Bool) (l m : List Fault) → x ≡ is_bad_form u d.kind → IsNoted (when x (at_ rules.E12 i.name.place)) b l m → IsNoted (bad_form u k) b l m
  form_noted x b l m q h =
      let there = q ∙ ap (λ d. is_bad_form u d.kind) (sym seen.def) in
      noted_as _ (bad_form u k) b l m (λ j. when (there j) (at_ rules.E12 (sym seen.use_is.name j).place)) h

  no_node-is : (xs : List Fault) → xs ≡ name_twice s ++ of_closure s c → xs ≡ no_node s
  no_node-is xs h = h ∙ ap (λ o. name_twice s ++ of_type s o) (sym seen.closure)

  of_use-is : of_use s ≡ no_node s ++ (many_parameters c ++ bad_form u k)
  of_use-is = ap (λ o. no_node s ++ flat_map (λ c. many_parameters c ++ bad_form u c.def.kind) (option_to_list o)) seen.closure ∙ ap (λ xs. no_node s ++ xs) (append-nil (many_parameters c ++ bad_form u k))

  -- all of them
  module _ (given : Bool) (l0 : List Fault) (holds : Holds l0 (of_values u c)) (given-is : given ≡ is_empty (of_values u c)) where
    pub all_noted : (fresh held dims aliased : Bool) (l1 l2 l3 l4 : List Fault) → IsNoted (name_twice s) fresh l0 l1 → IsNoted (when (not (may_hold s.parent k)) (at_ rules.E5 u.name.place)) held l1 l2 → IsNoted (of_parts s.parent u k) dims l2 l3
        → IsNoted (bad_alias s.earlier u) aliased l3 l4 → IsNoted (no_node s) (fresh && (held && given && dims && aliased)) l0 l4
    all_noted fresh held dims aliased l1 l2 l3 l4 n1 n2 n4 n5 =
        let E5 = when (not (may_hold s.parent k)) (at_ rules.E5 u.name.place) in
        let two = both_noted (name_twice s) E5 fresh held l0 l1 l2 n1 n2 in
        let still : Holds l2 (of_values u c) = subst (λ l. Holds l (of_values u c)) (sym two.put) (kept (of_values u c) (name_twice s ++ E5) l0 holds) in
        let n3 = subst (λ b. IsNoted (of_values u c) b l2 l2) (sym given-is) (held_noted (of_values u c) l2 still) in
        let b3 = both_noted E5 (of_values u c) held given l1 l2 l2 n2 n3 in
        let b4 = both_noted (E5 ++ of_values u c) (of_parts s.parent u k) (held && given) dims l1 l2 l3 b3 n4 in
        let b5 = both_noted (E5 ++ of_values u c ++ of_parts s.parent u k) (bad_alias s.earlier u) (held && given && dims) aliased l1 l3 l4 b4 n5 in
        let all = both_noted (name_twice s) (E5 ++ of_values u c ++ of_parts s.parent u k ++ bad_alias s.earlier u) fresh (held && given && dims && aliased) l0 l1 l4 n1 b5 in
        noted_as _ (no_node s) _ l0 l4 (no_node-is _ (regrouped (name_twice s) E5 (bad_arguments u c) (failures (bound_of u c)) (bad_parts u) _ (bad_array u k) (long_path s.parent u k) (bad_alias s.earlier u))) all

  pub use_put : (b b7 b12 : Bool) (l0 l4 l5 l6 : List Fault) → IsNoted (no_node s) b l0 l4 → IsNoted (many_parameters c) b7 l4 l5 → IsNoted (bad_form u k) b12 l5 l6 → l6 ≡ with_all (of_use s) l0
  use_put b b7 b12 l0 l4 l5 l6 n many form =
      let behind = both_noted (many_parameters c) (bad_form u k) b7 b12 l4 l5 l6 many form in
      let all = both_noted (no_node s) (many_parameters c ++ bad_form u k) b (b7 && b12) l0 l4 l6 n behind in
      all.put ∙ ap (λ fs. with_all fs l0) (sym of_use-is)
