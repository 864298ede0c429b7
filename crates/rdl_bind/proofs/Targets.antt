-- The first target of a property.
use Rattle.std.proofs.Common.{◌≡◌, ◌∙◌, ℕ, zero, suc, ◌+◌, ◌<◌, true, false, cond, Some, List, [], ◌∷◌, length, get_or, drop, refl, sym, ap, arith, add-one}
use Rattle.rdl_props.specs.declared.prop.Prop.{Prop}
use Rattle.rdl_props.specs.Same.{same_prop}
use Rattle.rdl_refs.specs.declared.refs.Target.{Target}
use Rattle.rdl_refs.specs.Tables.{item_at}

at-place : (p : Prop) (ts : List Target) (i : ℕ) (d : Target) → i < length ts → item_at p (drop i ts) ≡ cond (same_prop (get_or ts i d).prop p) (Some (get_or ts i d).item) (item_at p (drop (suc i) ts))
at-place p [] i d l = absurd (omega (arith, l))
at-place p (t ∷ ts) zero d l = refl
at-place p (t ∷ ts) (suc i) d l = at-place p ts i d (omega (arith, l))

pub item-here : (p : Prop) (ts : List Target) (i : ℕ) (d : Target) → i < length ts → same_prop (get_or ts i d).prop p ≡ true → item_at p (drop i ts) ≡ Some (get_or ts i d).item
item-here p ts i d l same = at-place p ts i d l ∙ ap (λ b. cond b (Some (get_or ts i d).item) (item_at p (drop (suc i) ts))) same

pub item-later : (p : Prop) (ts : List Target) (i : ℕ) (d : Target) → i < length ts → same_prop (get_or ts i d).prop p ≡ false → item_at p (drop i ts) ≡ item_at p (drop (i + 1) ts)
item-later p ts i d l other = at-place p ts i d l ∙ (ap (λ b. cond b (Some (get_or ts i d).item) (item_at p (drop (suc i) ts))) other ∙ ap (λ n. item_at p (drop n ts)) (sym (add-one i)))
