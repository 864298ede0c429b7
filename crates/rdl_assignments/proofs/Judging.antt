-- The failures of one assignment.
use Rattle.std.proofs.Common.{◌≡◌, ◌∙◌, Bool, true, false, not, List, [], ◌++◌, append-nil, flat_map, None, is_none, option_to_list, sym, ap}
use Rattle.rdl_base.specs.declared.fault.Fault.{Fault}
use Rattle.rdl_base.specs.declared.rule.Rule.TheVariants as rules
use Rattle.rdl_props.specs.declared.prop.Prop.{Prop}
use Rattle.rdl_values.specs.Faults.{at_, failures, when}
use Rattle.rdl_values.specs.Parts.{is_empty}
use Rattle.rdl_failures.specs.Noted.{IsNoted}
use Rattle.rdl_failures.proofs.Noting.{noted_as}
use Rattle.rdl_layers.specs.Judged.{against, bad_value, failures_of, illegal, props_of, taken, unknown}
use Rattle.rdl_layers.specs.Meanings.{Assignment, meaning, prop_of}

when-none : {A : Type 0} (b : Bool) (x : A) → b ≡ false → when b x ≡ []
when-none b x e = ap (λ c. when c x) e

-- where no property has its name
pub of_unknown : (legal : Prop → Bool) (earlier : List Assignment) (a : Assignment) → prop_of a ≡ None → failures_of legal (earlier, a) ≡ unknown a
of_unknown legal earlier a none =
    let P3 : illegal legal a ≡ [] = ap (λ o. flat_map (λ p. when (not (legal p)) (at_ rules.P3 a.set_.place)) (option_to_list o)) none in
    let value : bad_value a ≡ [] = ap (λ o. flat_map (λ p. failures (meaning p a)) (option_to_list o)) none in
    let other : taken earlier a ≡ [] = ap (λ o. flat_map (against (props_of earlier) a.set_.place) (option_to_list o)) none in
    (λ i. unknown a ++ P3 i ++ value i ++ other i) ∙ append-nil (unknown a ++ [] ++ []) ∙ append-nil (unknown a ++ []) ∙ append-nil (unknown a)

pub unknown_noted : (legal : Prop → Bool) (earlier : List Assignment) (a : Assignment) (b : Bool) (s t : List Fault) → prop_of a ≡ None → IsNoted (unknown a) b s t → IsNoted (failures_of legal (earlier, a)) false s t
unknown_noted legal earlier a b s t none h =
    noted_as (unknown a) (failures_of legal (earlier, a)) false s t (sym (of_unknown legal earlier a none)) (record { none = sym (when-some (is_none (prop_of a)) _ (ap is_none none)); put = h.put })
  where
    when-some : {A : Type 0} (c : Bool) (x : A) → c ≡ true → is_empty (when c x) ≡ false
    when-some c x e = ap (λ d. is_empty (when d x)) e
