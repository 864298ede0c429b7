-- Failures of widths.
use Rattle.std.proofs.Common.{◌≡◌, ◌∙◌, ◌⊎◌, inl, inr, ℕ, Bool, not, ◌||◌, nat_lt, List, [], ◌∷◌, ◌++◌, refl, sym, ap}
use Rattle.rdl_base.specs.declared.fault.Fault.{Fault}
use Rattle.rb_base.specs.declared.place.Place.{Place}
use Rattle.rdl_base.specs.declared.rule.Rule.TheVariants as rules
use Rattle.rdl_tree.specs.declared.item.Kind.{Kind}
use Rattle.rdl_tree.specs.declared.item.Kind.TheVariants as kind
use Rattle.rdl_props.specs.declared.prop.Prop.TheVariants as prop
use Rattle.rdl_values.specs.Faults.{at_, when}
use Rattle.rdl_values.specs.Instances.{Instance, kind_of}
use Rattle.rdl_failures.specs.Noted.{IsNoted, with_all}
use Rattle.rdl_failures.proofs.Noting.{both_noted}
use Rattle.rdl_layers.specs.Phase4.{assigned_widths, bad_accesswidth, bad_regwidth, bad_width, form_widths, is_one_of, number_at, of_node, range_of}
use Rattle.rdl_merge.specs.Widths.{is_bad}

of-register : (n : Instance) → kind_of n ≡ kind.Reg → when (bad_regwidth n) (at_ rules.P9 n.use_.name.place) ++ when (bad_accesswidth n) (at_ rules.P10 n.use_.name.place) ≡ of_node n
of-register n e = rw e refl

of-unit : (n : Instance) → (kind_of n ≡ kind.Field) ⊎ (kind_of n ≡ kind.Signal) → when (bad_width n) (at_ rules.P11 n.use_.name.place) ≡ of_node n
of-unit n (inl e) = rw e refl
of-unit n (inr e) = rw e refl

pub register_noted : (n : Instance) (at : Place) (w a : ℕ) (b c d f : Bool) (s t u : List Fault) → kind_of n ≡ kind.Reg → n.use_.name.place ≡ at → w ≡ number_at n prop.Regwidth → a ≡ number_at n prop.Accesswidth
    → b ≡ not (is_one_of (8 ∷ 16 ∷ 32 ∷ 64 ∷ []) w) → c ≡ (not (is_one_of (8 ∷ 16 ∷ 32 ∷ []) a) || nat_lt w a)
    → IsNoted (when b (at_ rules.P9 at)) d s t → IsNoted (when c (at_ rules.P10 at)) f t u → u ≡ with_all (of_node n) s
register_noted n at w a b c d f s t u e p ew ea eb ec first second =
    let two = (both_noted _ _ d f s t u first second).put in
    let nine : b ≡ bad_regwidth n = eb ∙ ap (λ k. not (is_one_of (8 ∷ 16 ∷ 32 ∷ 64 ∷ []) k)) ew in
    let ten : c ≡ bad_accesswidth n = ec ∙ ap (λ k. not (is_one_of (8 ∷ 16 ∷ 32 ∷ []) a) || nat_lt k a) ew ∙ ap (λ k. not (is_one_of (8 ∷ 16 ∷ 32 ∷ []) k) || nat_lt (number_at n prop.Regwidth) k) ea in
    two ∙ (λ i. with_all (when (nine i) (at_ rules.P9 (sym p i)) ++ when (ten i) (at_ rules.P10 (sym p i))) s) ∙ ap (λ fs. with_all fs s) (of-register n e)

pub unit_noted : (n : Instance) (k : Kind) (at : Place) (widths : List ℕ) (ranges : List (ℕ × ℕ)) (assigned : List ℕ) (b d : Bool) (s t : List Fault) → kind_of n ≡ k → (k ≡ kind.Field) ⊎ (k ≡ kind.Signal) → n.use_.name.place ≡ at
    → widths ≡ form_widths n → ranges ≡ range_of n → assigned ≡ assigned_widths n → b ≡ is_bad widths ranges assigned → IsNoted (when b (at_ rules.P11 at)) d s t → t ≡ with_all (of_node n) s
unit_noted n k at widths ranges assigned b d s t e unit p ew er ea eb noted =
    let eleven : b ≡ bad_width n = eb ∙ (λ i. is_bad (ew i) (er i) (ea i)) in
    noted.put ∙ (λ i. with_all (when (eleven i) (at_ rules.P11 (sym p i))) s) ∙ ap (λ fs. with_all fs s) (of-unit n (kinds unit))
  where
    kinds : (k ≡ kind.Field) ⊎ (k ≡ kind.Signal) → (kind_of n ≡ kind.Field) ⊎ (kind_of n ≡ kind.Signal)
    kinds (inl f) = inl (e ∙ f)
    kinds (inr f) = inr (e ∙ f)
