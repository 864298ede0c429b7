-- What is looked at of a field tells of the field.
use Rattle.std.proofs.Common.{◌≡◌, ℕ, ◌≤◌, ◌==◌, true, false, Option, Some, None, slice_get, refl, sym, ap, subst}
use Rattle.std.specs.Option.{option_map, option_map_or}
use Rattle.std.proofs.lemmas.Option.{same_Some}
use Rattle.rb_base.specs.Bits.{ones}
use Rattle.v_design.specs.Expr.{bit_of}
use Rattle.rb_model.specs.declared.kinds.Class.{Class}
use Rattle.rb_model.specs.declared.kinds.Class.TheVariants.{Storage, Wire, Constant}
use Rattle.rb_model.specs.declared.kinds.RefItem.TheVariants as item
use Rattle.rb_model.specs.declared.block.Block.{Block}
use Rattle.rb_model.specs.declared.block.Field.{Field}
use Rattle.rb_model.specs.Items.{Now, ItemValues, class_value, made}
use Rattle.rb_model.specs.Kept.{Val, is_storage}
use Rattle.rb_model.specs.Sound.{IsSound}
use Rattle.rb_model.specs.SoundField.{FieldIsSoundIn}
use Rattle.rb_model.proofs.Eachs.{Each-from_zero}
use Rattle.rb_machine.specs.declared.quiet.Brief.{Brief}
use Rattle.rb_machine.specs.Quiet.{brief_of}

class_kept : (n : Now) (v : ItemValues) (k : ℕ) (f : Field) (c : Class) → is_storage c ≡ true → class_value n v c k f ≡ n.kept (Val k)
class_kept n v k f Storage h = refl
class_kept n v k f Wire h = cc
class_kept n v k f Constant h = cc

-- the value of a field that keeps one is what is held of it
pub value_kept : (b : Block) (n : Now) (v : ItemValues) (k : ℕ) → option_map_or (λ f. is_storage f.class) (slice_get b.fields k) false ≡ true → n.kept (Val k) ≡ made b n v (item.Field k)
value_kept b n v k h = by (slice_get b.fields k) h
  where
    by : (o : Option Field) → option_map_or (λ f. is_storage f.class) o false ≡ true → n.kept (Val k) ≡ option_map_or (λ f. class_value n v f.class k f) o 0
    by None e = cc
    by (Some f) e = sym (class_kept n v k f f.class e)

-- whether all bits are 1, by the width that is looked at
pub ones_seen : (b : Block) (n : Now) (v : ItemValues) (k : ℕ) (brief : Brief) → Some brief ≡ option_map brief_of (slice_get b.fields k) → bit_of (v (item.Field k) == ones brief.width) ≡ made b n v (item.Anded k)
ones_seen b n v k brief h = by (slice_get b.fields k) h
  where
    by : (o : Option Field) → Some brief ≡ option_map brief_of o → bit_of (v (item.Field k) == ones brief.width) ≡ option_map_or (λ f. bit_of (v (item.Field k) == ones f.width)) o 0
    by None e = cc
    by (Some f) e = ap (λ (x : Brief). bit_of (v (item.Field k) == ones x.width)) (same_Some brief (brief_of f) e)

-- a width that is looked at is a field's
pub brief_wide : (b : Block) → IsSound b → (k : ℕ) (brief : Brief) → Some brief ≡ option_map brief_of (slice_get b.fields k) → brief.width ≤ 64
brief_wide b sound k brief h = by (slice_get b.fields k) refl h
  where
    by : (o : Option Field) → slice_get b.fields k ≡ o → Some brief ≡ option_map brief_of o → brief.width ≤ 64
    by None here e = cc
    by (Some f) here e =
        let same : brief ≡ brief_of f = same_Some brief (brief_of f) e in
        subst (λ (x : Brief). x.width ≤ 64) (sym same) (Each-from_zero (FieldIsSoundIn b) b.fields k f sound.fields here).alone.wide.1
