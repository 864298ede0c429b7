-- What entries say of a node's properties.
use Rattle.std.proofs.Common.{◌≡◌, ◌∙◌, Bool, true, false, not, ◌&&◌, cond, List, [], ◌∷◌, ◌++◌, find, Option, None, Some, is_some, refl, sym, ap, subst}
use Rattle.std.specs.Option.{option_or}
use Rattle.rdl_props.specs.Same.{same_prop}
use Rattle.rdl_props.specs.Table.{Default, default_of, group_of}
use Rattle.rdl_props.specs.Table as table
use Rattle.rdl_props.specs.declared.prop.Prop.{Prop}
use Rattle.rdl_props.specs.declared.prop.Prop.TheVariants as prop
use Rattle.rdl_values.specs.Instances.{Instance}
use Rattle.rdl_layers.specs.Forms.{Meaning, unset, flag}
use Rattle.rdl_layers.specs.Ranks.{is_related}
use Rattle.rdl_layers.specs.Says.{Says}
use Rattle.rdl_layers.specs.Settings.{Applied, applied, applied_to, deciding_of, is_false, meaning_of_default, setting, setting_or, settled, settled_if}
use Rattle.rdl_layers.specs.Tables.{decided_in, default_in, is_false_set, set_of_default, setting_in, settled_by, settled_or}
use Rattle.rdl_layers.specs.declared.props.PropSetting.{PropSetting}
use Rattle.rdl_layers.specs.declared.rank.Rank.TheVariants as rank
use Rattle.rdl_layers.specs.declared.setting.Setting.{Setting}
use Rattle.rdl_layers.specs.declared.setting.Setting.TheVariants as set
use Rattle.rdl_merge.specs.Merged.{AreEntries, IsEntry, Tells}
use Rattle.rdl_merge.proofs.Found.{find-append}
use Rattle.rdl_merge.proofs.Related.{related-itself, same_prop-is, same_prop-itself}

-- the first related assignment decides, or the table's default
abbrev pub FirstDecides : Type 0
FirstDecides = (n : Instance) (p : Prop) (default : Meaning) → deciding_of p (applied_to n ++ (applied rank.Table p default ∷ [])) ≡ find (λ a. is_related p a.candidate.prop) (applied_to n ++ (applied rank.Table p default ∷ []))

false-same : (all : List Instance) (s : Setting) (m : Meaning) → Says all s m → is_false_set s ≡ is_false m
false-same all (set.Flag a) (flag b) h = ap not h
false-same all (set.Flag a) m h = absurd h
false-same all s (flag b) h = absurd h
false-same all s m h = refl

says-settled : (all : List Instance) (p : Prop) (e : PropSetting) (a : Applied) → IsEntry all e a → Says all (settled_by p e) (settled p a)
says-settled all p e a h =
    subst (λ q. Says all (settled_by p e) (cond (same_prop p q && not (is_some (group_of p) && is_false a.value)) a.value unset)) (sym h.prop)
    (subst (λ b. Says all (settled_by p e) (cond (same_prop p e.prop && not (is_some (group_of p) && b)) a.value unset)) (false-same all e.setting a.value h.says) (go (same_prop p e.prop && not (is_some (group_of p) && is_false_set e.setting))))
  where
    go : (b : Bool) → Says all (cond b e.setting set.Unset) (cond b a.value unset)
    go true = h.says
    go false = tt

says-default : (all : List Instance) (d : Default) → Says all (set_of_default d) (meaning_of_default d)
says-default all table.unset = tt
says-default all (table.flag b) = refl
says-default all (table.number n) = refl
says-default all (table.named w) = refl
says-default all (table.hard b) = refl

-- the table's default of a property is itself, if it isn't false in a group
default-settled : (p : Prop) (m : Meaning) → (is_some (group_of p) && is_false m) ≡ false → settled p (applied rank.Table p m) ≡ m
default-settled p m e = ap (λ b. cond (same_prop p p && not b) m unset) e ∙ ap (λ b. cond (b && true) m unset) (same_prop-itself p)

no-false-group : (p : Prop) → (is_some (group_of p) && is_false (meaning_of_default (default_of p))) ≡ false
no-false-group prop.Name = refl
no-false-group p = refl

says_decided : FirstDecides → (all : List Instance) (n : Instance) (es : List PropSetting) → AreEntries all es (applied_to n) → (p : Prop) (ds : Setting) (dm : Meaning) → Says all ds dm → (is_some (group_of p) && is_false dm) ≡ false → Says all (decided_in p ds es) (setting_or dm n p)
says_decided law all n es h p ds dm says unset_by = subst (λ o. Says all (decided_in p ds es) (settled_if p o)) (sym (law n p dm ∙ find-append (λ a. is_related p a.candidate.prop) (applied_to n) (applied rank.Table p dm ∷ []))) (go (find (λ e. is_related p e.prop) es) (find (λ a. is_related p a.candidate.prop) (applied_to n)) (h.first p))
  where
    last : find (λ a. is_related p a.candidate.prop) (applied rank.Table p dm ∷ []) ≡ Some (applied rank.Table p dm)
    last = ap (λ b. cond b (Some (applied rank.Table p dm)) None) (related-itself p)

    go : (o : Option PropSetting) (x : Option Applied) → Tells all o x → Says all (settled_or p ds o) (settled_if p (option_or x (find (λ a. is_related p a.candidate.prop) (applied rank.Table p dm ∷ []))))
    go (Some e) (Some a) t = says-settled all p e a t
    go None None t = subst (λ y. Says all ds (settled_if p y)) (sym last) (subst (Says all ds) (sym (default-settled p dm unset_by)) says)
    go None (Some a) t = absurd t
    go (Some e) None t = absurd t

other_setting : (n : Instance) (p : Prop) → (p ≡ prop.Accesswidth → ⊥) → setting_or (meaning_of_default (default_of p)) n p ≡ setting n p
unfolding setting
other_setting n prop.Accesswidth h = absurd (h refl)
other_setting n p h = refl

other_entry : (p : Prop) (es : List PropSetting) → (p ≡ prop.Accesswidth → ⊥) → decided_in p (default_in p) es ≡ setting_in p es
other_entry prop.Accesswidth es h = absurd (h refl)
other_entry p es h = refl

width_setting : (n : Instance) → setting_or (setting_or (meaning_of_default (default_of prop.Regwidth)) n prop.Regwidth) n prop.Accesswidth ≡ setting n prop.Accesswidth
unfolding setting
width_setting n = refl

pub says_all : FirstDecides → (all : List Instance) (n : Instance) (es : List PropSetting) → AreEntries all es (applied_to n) → (p : Prop) → Says all (setting_in p es) (setting n p)
says_all law all n es h p = go (same_prop p prop.Accesswidth) refl
  where
    of_default : (q : Prop) → Says all (decided_in q (default_in q) es) (setting_or (meaning_of_default (default_of q)) n q)
    of_default q = says_decided law all n es h q (default_in q) (meaning_of_default (default_of q)) (says-default all (default_of q)) (no-false-group q)

    go : (b : Bool) → same_prop p prop.Accesswidth ≡ b → Says all (setting_in p es) (setting n p)
    go true e = subst (λ q. Says all (setting_in q es) (setting n q)) (sym (same_prop-is p prop.Accesswidth e)) (subst (Says all (setting_in prop.Accesswidth es)) (width_setting n) (says_decided law all n es h prop.Accesswidth _ _ (of_default prop.Regwidth) refl))
    go false e =
        let other : p ≡ prop.Accesswidth → ⊥ = λ q. (let is : same_prop p prop.Accesswidth ≡ true = ap (λ r. same_prop r prop.Accesswidth) q in cc) in
        subst (λ s. Says all s (setting n p)) (other_entry p es other) (subst (Says all (decided_in p (default_in p) es)) (other_setting n p other) (of_default p))
