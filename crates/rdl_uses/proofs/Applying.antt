-- Definitions that are applied.
use Rattle.std.proofs.Common.{◌≡◌, ◌∙◌, ℕ, Bool, false, not, ◌&&◌, nat_lt, ◌==◌, List, [], ◌∷◌, ◌++◌, length, flat_map, option_to_list, sym, ap, subst}
use Rattle.rdl_base.specs.declared.fault.Fault.{Fault}
use Rattle.rb_base.specs.declared.place.Place.{Place}
use Rattle.rdl_base.specs.declared.rule.Rule.TheVariants as rules
use Rattle.rdl_tree.specs.declared.item.Arg.{Arg}
use Rattle.rdl_tree.specs.declared.item.Def.{Def}
use Rattle.rdl_tree.specs.declared.item.Inst.{Inst}
use Rattle.rdl_values.specs.Bodies.{Closure}
use Rattle.rdl_values.specs.Faults.{at_, failures, when}
use Rattle.rdl_values.specs.NoNode.{bad_alias, may_hold, most_names, name_twice, no_node, of_closure}
use Rattle.rdl_values.specs.Parameters.{bad_arguments, bound_of}
use Rattle.rdl_values.specs.Parts.{bad_array, bad_parts, long_path}
use Rattle.rdl_values.specs.Paths.{depth_in}
use Rattle.rdl_values.specs.Phase3.{bad_form, many_parameters, of_use}
use Rattle.rdl_values.specs.Uses.{Seen, Use}
use Rattle.rdl_values.specs.declared.chain.Chain.{Chain}
use Rattle.rdl_failures.specs.Noted.{Holds, IsNoted, with_all}
use Rattle.rdl_failures.proofs.Noting.{both_noted, noted_as}
use Rattle.rdl_failures.proofs.Sets.{held, holds-both, holds-left, holds-right, put_before}
use Rattle.rdl_uses.specs.Arguments.{AreArguments}
use Rattle.rdl_uses.specs.Binding.{IsSite}
use Rattle.rdl_uses.specs.Bound.{bad_args}
use Rattle.rdl_uses.specs.declared.arguments.Arguments.{Arguments}
use Rattle.rdl_uses.specs.Applied.{IsApplied, IsTypeOf}
use Rattle.rdl_uses.specs.Given.{IsType, TypeUsed, seen_behind, seens, use_by}
use Rattle.rdl_uses.specs.Judged.{of_values}
use Rattle.rdl_uses.specs.declared.holder.Parent.{Parent}
use Rattle.rdl_uses.specs.declared.instances.Visited.{Visited}

module _ (d : Def) (xs : List Arg) (at : Place) (v : Chain) (ns : List ℕ) (u : Use) (c : Closure) (h : IsApplied d xs at v ns u c) where
  pub args_noted : (b : Bool) (l m : List Fault) → IsNoted (bad_args d.params.now xs) b l m → IsNoted (bad_arguments u c) b l m
  args_noted b l m n = noted_as _ (bad_arguments u c) b l m (λ j. bad_args (sym h.def j).params.now (sym h.args_are j)) n

  pub site-of : (a : Arguments) → AreArguments a d.params.now xs → IsSite a v ns at u c
  site-of a are = record {
    arguments = subst (AreArguments a c.def.params.now) (sym h.args_are) (subst (λ e. AreArguments a e.params.now xs) (sym h.def) are);
    outside = h.outside;
    inside = h.inside;
    place = sym h.place_is;
  }

-- The failures of a use's values are among its failures.
pub values_in : (s : Seen) (c : Closure) (l : List Fault) → Holds l (of_closure s c) → Holds l (of_values s.use_ c)
values_in s c l h =
    let E5 = when (not (may_hold s.parent c.def.kind)) (at_ rules.E5 s.use_.name.place) in
    let args = bad_arguments s.use_ c in
    let bound = failures (bound_of s.use_ c) in
    let parts = bad_parts s.use_ in
    let E8 = when (nat_lt most_names (depth_in s.parent)) (at_ rules.E8 s.use_.name.place) in
    let array = bad_array s.use_ c.def.kind in
    let long = long_path s.parent s.use_ c.def.kind in
    let h1 = holds-left (E5 ++ args ++ bound ++ parts ++ E8 ++ array ++ long) (bad_alias s.earlier s.use_) l h in
    let h2 = holds-left (E5 ++ args ++ bound ++ parts ++ E8 ++ array) long l h1 in
    let h3 = holds-left (E5 ++ args ++ bound ++ parts ++ E8) array l h2 in
    let h4 = holds-left (E5 ++ args ++ bound ++ parts) E8 l h3 in
    let h5 = holds-left (E5 ++ args ++ bound) parts l h4 in
    holds-both args bound l (holds-right E5 args l (holds-left (E5 ++ args) bound l h5)) (holds-right (E5 ++ args) bound l h5)

pub values_in_all : (t : TypeUsed) (us : List Use) (i : Inst) (is : List Inst) (l : List Fault) → Holds l (flat_map of_use (seens t us (i ∷ is))) → Holds l (of_values (use_by t i) t.closure)
values_in_all t us i is l h =
    let s = seen_behind t (us, use_by t i) in
    let rest = flat_map of_use (seens t (us ++ (use_by t i ∷ [])) is) in
    let whole = holds-left (of_use s) rest l h in
    let none = holds-left (no_node s) (flat_map (λ c. many_parameters c ++ bad_form s.use_ c.def.kind) (option_to_list s.use_.closure)) l whole in
    values_in s t.closure l (holds-right (name_twice s) (of_closure s t.closure) l none)

-- The type of a definition that is applied, once its values are judged.
module _ (d : Def) (xs : List Arg) (at : Place) (p : Parent) (v : Chain) (ns : List ℕ) (w : Visited) (t : TypeUsed) (h : IsTypeOf d w.alias xs at p v ns t) where
  pub applied : (i : Inst) → IsApplied d xs at v ns (use_by t i) t.closure
  applied i = record { def = h.def; args_are = h.args_are; place_is = h.place_is; outside = h.outside; inside = h.inside }

  pub type-of : (l0 l1 : List Fault) → d ≡ w.def.now → ((i : Inst) → IsNoted (of_values (use_by t i) t.closure) w.given l0 l1) → IsType w p v l1 t
  type-of l0 l1 same noted = record {
    def = h.def ∙ same;
    alias_is = h.alias_is;
    shown = h.outside;
    parent_is = h.parent_is;
    holds = λ i. subst (λ l. Holds l (of_values (use_by t i) t.closure)) (sym (noted i).put) (held (of_values (use_by t i) t.closure) l0);
    given = λ i. (noted i).none;
  }

-- all failures of the uses, where those of the values were put in before
pub uses_put : (t : TypeUsed) (us : List Use) (is : List Inst) (l0 l1 l2 : List Fault) → (length is == 0) ≡ false → ((i : Inst) → l1 ≡ with_all (of_values (use_by t i) t.closure) l0) → l2 ≡ with_all (flat_map of_use (seens t us is)) l1 → l2 ≡ with_all (flat_map of_use (seens t us is)) l0
uses_put t us [] l0 l1 l2 some before after = cc
uses_put t us (i ∷ is) l0 l1 l2 some before after =
    let all = flat_map of_use (seens t us (i ∷ is)) in
    after ∙ ap (with_all all) (before i) ∙ put_before (of_values (use_by t i) t.closure) all l0 (values_in_all t us i is)

pub values_noted : (fs gs : List Fault) (a b b' : Bool) (l m n : List Fault) → b' ≡ b → IsNoted fs a l m → IsNoted gs b m n → IsNoted (fs ++ gs) (a && b') l n
values_noted fs gs a b b' l m n e h k = subst (λ x. IsNoted (fs ++ gs) (a && x) l n) (sym e) (both_noted fs gs a b l m n h k)
