-- The class of a field, by its settings and by the block.
use Rattle.std.proofs.Common.{◌≡◌, ◌∙◌, Bool, true, false, not, ◌&&◌, ◌||◌, cond, if◌then◌else◌, List, Option, None, Some, is_some, refl, sym, ap, subst}
use Rattle.plain_lemmas.proofs.Bools.{and-false as and-no}
use Rattle.rb_base.specs.declared.trigger.Trigger.TheVariants as trigger
use Rattle.rdl_base.specs.declared.keyword.Keyword.{Keyword}
use Rattle.rdl_base.specs.declared.keyword.Keyword.TheVariants as word
use Rattle.rdl_props.specs.Table.{takes_of}
use Rattle.rdl_props.specs.declared.form.Form.TheVariants as form
use Rattle.rdl_props.specs.declared.prop.Prop.{Prop}
use Rattle.rdl_props.specs.declared.prop.Prop.TheVariants as prop
use Rattle.rdl_tree.specs.declared.item.Source.{Source}
use Rattle.rdl_values.specs.Instances.{Instance}
use Rattle.rdl_values.specs.Lineages.{Lineage}
use Rattle.rdl_layers.specs.Fields.{has, has_on_read, hardware_reads, hardware_writes, is_counter, is_given, is_touched, is_wire, latches, writes}
use Rattle.rdl_layers.specs.Formed.{IsOfForm}
use Rattle.rdl_layers.specs.Forms.{Meaning, unset, flag, named, intr, reference, read_word}
use Rattle.rdl_layers.specs.Settings.{setting}
use Rattle.rdl_layers.proofs.Formed.{setting_formed}
use Rattle.rb_model.specs.declared.block.Field.{Field}
use Rattle.rb_model.specs.declared.kinds.Class.{Class}
use Rattle.rb_model.specs.declared.kinds.Class.TheVariants as class
use Rattle.rb_model.specs.declared.kinds.Latch.{Latch}
use Rattle.rb_model.specs.declared.kinds.Latch.TheVariants as latch
use Rattle.rb_model.specs.declared.kinds.Mask.{Mask}
use Rattle.rb_model.specs.declared.kinds.Mask.TheVariants as mask
use Rattle.rb_model.specs.declared.kinds.OnRead.{OnRead}
use Rattle.rb_model.specs.declared.kinds.OnRead.TheVariants as on_read
use Rattle.rb_model.specs.declared.kinds.RefItem.{RefItem}
use Rattle.rb_model.specs.Effects.{has_read_effect, is_gated, is_latching}
use Rattle.rb_model.specs.Items.{is_on}
use Rattle.rb_model.specs.SoundField.{is_fed, is_latching_or_counting}
use Rattle.rdl_rules.specs.Feeds.{count_of, feed_at, gate_at, item_at, mask_at, when_some}
use Rattle.rdl_rules.specs.Fields as rules
use Rattle.rdl_rules.specs.Fields.{field_of, latch_of, on_read_of}
use Rattle.rdl_rules.specs.Numbers.{Numbered}
use Rattle.rdl_sound_laws.proofs.Standing.{some-when}
use Rattle.rdl_sound_laws.specs.Faultless.{Leads}
use Rattle.rdl_sound_laws.proofs.Fed.{feed-fed, gated-has}

-- Accesses of software.

abbrev read_from : Bool → Bool → Meaning → OnRead
read_from c s (named w) = rules.read_word w
read_from c s _ = cond c on_read.RClr (cond s on_read.RSet on_read.Off)

by-word : (w : Keyword) → read_word w ≡ Some w → has_read_effect (rules.read_word w) ≡ true
by-word word.Rclr e = refl
by-word word.Rset e = refl
by-word _ e = cc e

by-flags : (c s : Bool) → has_read_effect (cond c on_read.RClr (cond s on_read.RSet on_read.Off)) ≡ (c || (s || false))
by-flags true s = refl
by-flags false true = refl
by-flags false false = refl

read-effect : (c s : Bool) (m : Meaning) → IsOfForm form.ReadWord m → has_read_effect (read_from c s m) ≡ (is_given m || (c || (s || false)))
read-effect c s (named w) h = by-word w h
read-effect c s unset h = by-flags c s
read-effect c s m h = absurd h

pub changing : (v : Instance) → (writes v || has_read_effect (on_read_of v)) ≡ (writes v || has_on_read v)
changing v = ap (λ x. writes v || x) (read-effect (has prop.Rclr v) (has prop.Rset v) (setting v prop.Onread) (setting_formed v prop.Onread))

-- Settings that may refer.

fed-has : (all : List Lineage) (n : Instance) (p : Prop) → Leads all n → takes_of p ≡ form.FlagRefer → is_fed (feed_at all n p) ≡ has p n
fed-has all n p leads e = go (setting n p) refl (subst (λ f. IsOfForm f (setting n p)) e (setting_formed n p))
  where
    given : has p n ≡ true → is_fed (feed_at all n p) ≡ has p n
    given g = feed-fed all n p leads (setting_formed n p) e g ∙ sym g

    go : (m : Meaning) → setting n p ≡ m → IsOfForm form.FlagRefer m → is_fed (feed_at all n p) ≡ has p n
    go (flag true) q h = given (ap is_given q)
    go (reference path item scope place) q h = given (ap is_given q)
    go (flag false) q h = rw q refl
    go unset q h = rw q refl
    go m q h = absurd h

item-given : (all : List Lineage) (n : Instance) (p : Prop) → Leads all n → takes_of p ≡ form.Refer → is_some (item_at all n p) ≡ has p n
item-given all n p leads e = go (setting n p) refl (subst (λ f. IsOfForm f (setting n p)) e (setting_formed n p))
  where
    go : (m : Meaning) → setting n p ≡ m → IsOfForm form.Refer m → is_some (item_at all n p) ≡ has p n
    go (reference path item scope place) q h = leads.to_item p path item scope place q ∙ sym (ap is_given q)
    go unset q h = rw q refl
    go m q h = absurd h

abbrev mask_of : Option RefItem → Option RefItem → Mask
mask_of (Some r) m = mask.Enable r
mask_of None (Some r) = mask.Mask r
mask_of None None = mask.Off

on-some : (o m : Option RefItem) → is_on (mask_of o m) ≡ (is_some o || is_some m)
on-some (Some r) m = refl
on-some None (Some r) = refl
on-some None None = refl

masked-has : (all : List Lineage) (n : Instance) (enable masked : Prop) → Leads all n → takes_of enable ≡ form.Refer → takes_of masked ≡ form.Refer → is_on (mask_at all n enable masked) ≡ (has enable n || has masked n)
masked-has all n enable masked leads x y = on-some (item_at all n enable) (item_at all n masked) ∙ (λ i. item-given all n enable leads x i || item-given all n masked leads y i)

-- Interrupts.

abbrev latch_from : Bool → Meaning → Latch
latch_from whole (intr trigger.Nonsticky) = latch.Plain
latch_from whole (intr e) = cond whole (latch.Whole e) (latch.Bits e)
latch_from whole _ = latch.Off

latching-is : (whole : Bool) (m : Meaning) → is_latching (latch_from whole m) ≡ latches m
latching-is whole (intr trigger.Nonsticky) = refl
latching-is true (intr e) = refl
latching-is false (intr e) = refl
latching-is whole m = refl

keeps-or-counts : (f : Field) → is_latching_or_counting f ≡ (is_some f.count || is_latching f.latch)
keeps-or-counts f = go f.latch refl
  where
    go : (l : Latch) → f.latch ≡ l → is_latching_or_counting f ≡ (is_some f.count || is_latching f.latch)
    go latch.Off e = rw e refl
    go (latch.Bits x) e = rw e refl
    go (latch.Whole x) e = rw e refl
    go latch.Plain e = rw e refl

-- Classes, by what there is: changes by software, hardware that writes and reads, gates, counting, latching, setting, clearing, masks.

given-wire : (t hw hr we wel count late set clr en ma : Bool)
    → (not t && hw && not hr && not (we || wel) && not (count || late) && not set && not clr && not (en || ma)) ≡ (not t && (hw && not hr) && not (we || (wel || (count || (set || (clr || (en || (ma || false))))))) && not late)
given-wire true hw hr we wel count late set clr en ma = refl
given-wire false false hr we wel count late set clr en ma = refl
given-wire false true true we wel count late set clr en ma = refl
given-wire false true false true wel count late set clr en ma = refl
given-wire false true false false true count late set clr en ma = refl
given-wire false true false false false true late set clr en ma = refl
given-wire false true false false false false true set clr en ma = sym (and-no (not (set || (clr || (en || (ma || false))))))
given-wire false true false false false false false true clr en ma = refl
given-wire false true false false false false false false true en ma = refl
given-wire false true false false false false false false false true ma = refl
given-wire false true false false false false false false false false true = refl
given-wire false true false false false false false false false false false = refl

class-by : (w t hw count set clr pulse : Bool)
    → cond w class.Wire (cond (t || hw || count || set || clr || pulse) class.Storage class.Constant) ≡ cond w class.Wire (cond (t || (hw && not w) || (count || (set || (clr || (pulse || false))))) class.Storage class.Constant)
class-by true t hw count set clr pulse = refl
class-by false true hw count set clr pulse = refl
class-by false false true count set clr pulse = refl
class-by false false false true set clr pulse = refl
class-by false false false false true clr pulse = refl
class-by false false false false false true pulse = refl
class-by false false false false false false true = refl
class-by false false false false false false false = refl

-- the class by the block, of a field that software changes or not
abbrev class_from : Bool → Field → Class
class_from t f =
    if not t && f.hw_writes && not f.hw_reads && not (is_gated f.gate) && not (is_latching_or_counting f) && not (is_fed f.set) && not (is_fed f.clear) && not (is_on f.keep) then class.Wire
    else (if t || f.hw_writes || is_some f.count || is_fed f.set || is_fed f.clear || f.pulse then class.Storage else class.Constant)

module _ (s : Source) (all : List Lineage) (r : Numbered Lineage) (f : Instance) (leads : Leads all f) where
  abbrev one : Field
  one = field_of s all r f

  gated : is_gated (gate_at all f prop.We prop.Wel) ≡ (has prop.We f || has prop.Wel f)
  gated = gated-has all f prop.We prop.Wel

  counts : is_some (when_some (is_counter f) (count_of all f)) ≡ has prop.Counter f
  counts = some-when (is_counter f) (count_of all f)

  keeps : is_latching_or_counting one ≡ (has prop.Counter f || latches (setting f prop.Intr))
  keeps = keeps-or-counts one ∙ (λ i. counts i || latching-is (has prop.Sticky f) (setting f prop.Intr) i)

  sets : is_fed (feed_at all f prop.Hwset) ≡ has prop.Hwset f
  sets = fed-has all f prop.Hwset leads refl

  clears : is_fed (feed_at all f prop.Hwclr) ≡ has prop.Hwclr f
  clears = fed-has all f prop.Hwclr leads refl

  masks : is_on (mask_at all f prop.Hwenable prop.Hwmask) ≡ (has prop.Hwenable f || has prop.Hwmask f)
  masks = masked-has all f prop.Hwenable prop.Hwmask leads refl refl

  wire-is : (vs : List Instance) → (not (is_touched vs) && one.hw_writes && not one.hw_reads && not (is_gated one.gate) && not (is_latching_or_counting one) && not (is_fed one.set) && not (is_fed one.clear) && not (is_on one.keep)) ≡ is_wire vs f
  wire-is vs =
      (λ i. not (is_touched vs) && hardware_writes f && not (hardware_reads f) && not (gated i) && not (keeps i) && not (sets i) && not (clears i) && not (masks i))
      ∙ given-wire (is_touched vs) (hardware_writes f) (hardware_reads f) (has prop.We f) (has prop.Wel f) (has prop.Counter f) (latches (setting f prop.Intr)) (has prop.Hwset f) (has prop.Hwclr f) (has prop.Hwenable f) (has prop.Hwmask f)

  storage-is : (vs : List Instance) → (is_touched vs || one.hw_writes || is_some one.count || is_fed one.set || is_fed one.clear || one.pulse) ≡ (is_touched vs || hardware_writes f || has prop.Counter f || has prop.Hwset f || has prop.Hwclr f || has prop.Singlepulse f)
  storage-is vs = (λ i. is_touched vs || hardware_writes f || counts i || sets i || clears i || has prop.Singlepulse f)

  -- as it is by the settings of the field and its views
  pub same-class : (vs : List Instance) (t : Bool) → t ≡ is_touched vs → class_from t one ≡ rules.class_of vs f
  same-class vs t e =
      ap (λ x. class_from x one) e
      ∙ ((λ i. cond (wire-is vs i) class.Wire (cond (storage-is vs i) class.Storage class.Constant))
      ∙ class-by (is_wire vs f) (is_touched vs) (hardware_writes f) (has prop.Counter f) (has prop.Hwset f) (has prop.Hwclr f) (has prop.Singlepulse f))
