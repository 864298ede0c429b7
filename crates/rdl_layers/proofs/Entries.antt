-- The first entry that decides a property.
use Rattle.std.proofs.Common.{◌≡◌, ◌∙◌, ℕ, zero, suc, ◌+◌, ◌<◌, true, false, cond, List, [], ◌∷◌, length, get_or, drop, find, Some, refl, sym, ap, arith, add-one, Vec, Global}
use Rattle.rdl_props.specs.declared.prop.Prop.{Prop}
use Rattle.rdl_props.specs.declared.prop.Prop.TheVariants as prop
use Rattle.rdl_layers.specs.Ranks.{is_related}
use Rattle.rdl_layers.specs.declared.props.PropSetting.{PropSetting}
use Rattle.rdl_layers.specs.declared.setting.Setting.{Setting}
use Rattle.rdl_layers.specs.Tables.{decided_in, default_in, entries_at, setting_in, settled_by, settled_or}

at-here : (p : Prop) (d : Setting) (e : PropSetting) (es : List PropSetting) → is_related p e.prop ≡ true → decided_in p d (e ∷ es) ≡ settled_by p e
at-here p d e es same = ap (λ b. settled_or p d (cond b (Some e) (find (λ x. is_related p x.prop) es))) same

pub entry-here : (p : Prop) (d : Setting) (es : List PropSetting) (i : ℕ) (x : PropSetting) → i < length es → is_related p (get_or es i x).prop ≡ true → decided_in p d (drop i es) ≡ settled_by p (get_or es i x)
entry-here p d [] i x l same = absurd (omega (arith, l))
entry-here p d (e ∷ es) zero x l same = at-here p d e es same
entry-here p d (e ∷ es) (suc i) x l same = entry-here p d es i x (omega (arith, l)) same

at-later : (p : Prop) (d : Setting) (e : PropSetting) (es : List PropSetting) → is_related p e.prop ≡ false → decided_in p d (e ∷ es) ≡ decided_in p d es
at-later p d e es other = ap (λ b. settled_or p d (cond b (Some e) (find (λ x. is_related p x.prop) es))) other

later : (p : Prop) (d : Setting) (es : List PropSetting) (i : ℕ) (x : PropSetting) → i < length es → is_related p (get_or es i x).prop ≡ false → decided_in p d (drop i es) ≡ decided_in p d (drop (suc i) es)
later p d [] i x l other = absurd (omega (arith, l))
later p d (e ∷ es) zero x l other = at-later p d e es other
later p d (e ∷ es) (suc i) x l other = later p d es i x (omega (arith, l)) other

pub entry-later : (p : Prop) (d : Setting) (es : List PropSetting) (i : ℕ) (x : PropSetting) → i < length es → is_related p (get_or es i x).prop ≡ false → decided_in p d (drop i es) ≡ decided_in p d (drop (i + 1) es)
entry-later p d es i x l other = later p d es i x l other ∙ ap (λ n. decided_in p d (drop n es)) (sym (add-one i))

pub other_property : (p : Prop) (es : List PropSetting) → (p ≡ prop.Accesswidth → ⊥) → decided_in p (default_in p) es ≡ setting_in p es
other_property prop.Accesswidth es h = absurd (h refl)
other_property p es h = refl

pub entries-read : (vs : List (Vec PropSetting Global)) (i : ℕ) (d : Vec PropSetting Global) → i < length vs → entries_at vs i ≡ (get_or vs i d).items
entries-read [] i d l = absurd (omega (arith, l))
entries-read (x ∷ xs) zero d l = refl
entries-read (x ∷ xs) (suc i) d l = entries-read xs i d (omega (arith, l))
