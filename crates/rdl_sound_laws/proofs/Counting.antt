-- Numbers of counters that their fields can hold.
use Rattle.std.proofs.Common.{◌≡◌, ℕ, ◌<◌, ◌≤◌, ◌^◌, ◌==◌, ◌||◌, Bool, true, false, nat_lt, List, [], ◌∷◌, Option, None, Some, refl, arith}
use Rattle.std.specs.List.{list_any}
use Rattle.std.proofs.Math.Pow.{pow_mono}
use Rattle.std.proofs.lemmas.Bool.Decides.{nat_tests}
use Rattle.plain_lemmas.proofs.Bools.{or-neither as or-none}
use Rattle.rdl_props.specs.declared.prop.Prop.{Prop}
use Rattle.rdl_props.specs.declared.prop.Prop.TheVariants as prop
use Rattle.rdl_values.specs.Instances.{Instance}
use Rattle.rdl_values.specs.Lineages.{Lineage}
use Rattle.rdl_layers.specs.Forms.{Meaning, unset, flag, number, text, named, intr, hard, enum_of, reference}
use Rattle.rdl_layers.specs.Fields.{has_down, has_up}
use Rattle.rdl_layers.specs.Phase4.{width_of}
use Rattle.rdl_layers.specs.Settings.{setting}
use Rattle.rb_model.specs.declared.kinds.Amount.{Amount}
use Rattle.rb_model.specs.declared.kinds.Amount.TheVariants as amount
use Rattle.rb_model.specs.declared.kinds.Feed.{Feed}
use Rattle.rb_model.specs.declared.kinds.Feed.TheVariants as feed
use Rattle.rb_model.specs.declared.kinds.Level.{Level}
use Rattle.rb_model.specs.declared.kinds.Level.TheVariants as level
use Rattle.rb_model.specs.declared.kinds.RefItem.{RefItem}
use Rattle.rb_model.specs.References.{WithSome}
use Rattle.rb_model.specs.SoundField.{AmountFits, CountFits, LevelFits, PartFits, is_fed}
use Rattle.rdl_rules.specs.Feeds.{count_of, item_at, level_at, level_or, ones_of, part_at, when_some}
use Rattle.rdl_rules.specs.FieldRules.{bad_count_width, is_above, numbers, too_wide}
use Rattle.plain_lemmas.proofs.Numbers.{fits}

-- a number that isn't above fits

-- Amounts.

abbrev amount_of : Meaning → Option RefItem → Meaning → Amount
amount_of (number n) r w = amount.Number n
amount_of m (Some r) w = amount.Item r
amount_of m None (number w) = amount.Pin w
amount_of m None w = amount.Number 1

-- the width of a pin that is within the field's
pin-fits : (w k : ℕ) → ((k == 0) || nat_lt w k) ≡ false → (0 < k) × (k ≤ w)
pin-fits w k e = let p = or-none (k == 0) (nat_lt w k) e in let a = p.0 in let b = p.1 in (grind (arith, nat_tests), grind (arith, nat_tests))

no-item : (w : ℕ) → 1 < 2 ^ w → (width : Meaning) → bad_count_width w width ≡ false → AmountFits w (amount_of unset None width)
no-item w one (number k) e = pin-fits w k e
no-item w one unset e = one
no-item w one (flag b) e = one
no-item w one (text t) e = one
no-item w one (named x) e = one
no-item w one (intr x) e = one
no-item w one (hard b) e = one
no-item w one (enum_of x scope) e = one
no-item w one (reference path item scope place) e = one

amount-fits : (w : ℕ) → 1 < 2 ^ w → (m : Meaning) (o : Option RefItem) (width : Meaning) → is_above (2 ^ w) m ≡ false → bad_count_width w width ≡ false → AmountFits w (amount_of m o width)
amount-fits w one (number k) o width a e = fits (2 ^ w) k a
amount-fits w one unset (Some r) width a e = tt
amount-fits w one (flag b) (Some r) width a e = tt
amount-fits w one (text t) (Some r) width a e = tt
amount-fits w one (named x) (Some r) width a e = tt
amount-fits w one (intr x) (Some r) width a e = tt
amount-fits w one (hard b) (Some r) width a e = tt
amount-fits w one (enum_of x scope) (Some r) width a e = tt
amount-fits w one (reference path item scope place) (Some r) width a e = tt
amount-fits w one unset None width a e = no-item w one width e
amount-fits w one (flag b) None width a e = no-item w one width e
amount-fits w one (text t) None width a e = no-item w one width e
amount-fits w one (named x) None width a e = no-item w one width e
amount-fits w one (intr x) None width a e = no-item w one width e
amount-fits w one (hard b) None width a e = no-item w one width e
amount-fits w one (enum_of x scope) None width a e = no-item w one width e
amount-fits w one (reference path item scope place) None width a e = no-item w one width e

-- Levels.

abbrev level_of : ℕ → Meaning → Option RefItem → Option Level
level_of plain (number n) r = Some (level.Number n)
level_of plain (flag true) r = Some (level.Number plain)
level_of plain m (Some r) = Some (level.Item r)
level_of plain m None = None

level-fits : (w plain : ℕ) → plain < 2 ^ w → (m : Meaning) (o : Option RefItem) → is_above (2 ^ w) m ≡ false → WithSome (level_of plain m o) (LevelFits w)
level-fits w plain l (number k) o a = fits (2 ^ w) k a
level-fits w plain l (flag true) o a = l
level-fits w plain l (flag false) (Some r) a = tt
level-fits w plain l (flag false) None a = tt
level-fits w plain l unset (Some r) a = tt
level-fits w plain l unset None a = tt
level-fits w plain l (text t) (Some r) a = tt
level-fits w plain l (text t) None a = tt
level-fits w plain l (named x) (Some r) a = tt
level-fits w plain l (named x) None a = tt
level-fits w plain l (intr x) (Some r) a = tt
level-fits w plain l (intr x) None a = tt
level-fits w plain l (hard b) (Some r) a = tt
level-fits w plain l (hard b) None a = tt
level-fits w plain l (enum_of x scope) (Some r) a = tt
level-fits w plain l (enum_of x scope) None a = tt
level-fits w plain l (reference path item scope place) (Some r) a = tt
level-fits w plain l (reference path item scope place) None a = tt

or-fits : (w n : ℕ) (o : Option Level) → n < 2 ^ w → WithSome o (LevelFits w) → LevelFits w (level_or o n)
or-fits w n None l h = l
or-fits w n (Some x) l h = h

-- Parts.

abbrev pulse_of : Option RefItem → Feed
pulse_of (Some r) = feed.Item r
pulse_of None = feed.Pin

pulse-fed : (o : Option RefItem) → is_fed (pulse_of o) ≡ true
pulse-fed (Some r) = refl
pulse-fed None = refl

when-fits : {A : Type 0} (b : Bool) (x : A) (P : A → Type 0) → P x → WithSome (when_some b x) P
when-fits true x P p = p
when-fits false x P p = tt

-- Which settings of a field fit, where none of its numbers is too wide.
pub record IsNarrow (f : Instance) : Type 0 where
  pub reset : is_above (2 ^ width_of f) (setting f prop.Reset) ≡ false
  pub incrvalue : is_above (2 ^ width_of f) (setting f prop.Incrvalue) ≡ false
  pub decrvalue : is_above (2 ^ width_of f) (setting f prop.Decrvalue) ≡ false
  pub incrsaturate : is_above (2 ^ width_of f) (setting f prop.Incrsaturate) ≡ false
  pub decrsaturate : is_above (2 ^ width_of f) (setting f prop.Decrsaturate) ≡ false
  pub incrthreshold : is_above (2 ^ width_of f) (setting f prop.Incrthreshold) ≡ false
  pub decrthreshold : is_above (2 ^ width_of f) (setting f prop.Decrthreshold) ≡ false
  pub incrwidth : bad_count_width (width_of f) (setting f prop.Incrwidth) ≡ false
  pub decrwidth : bad_count_width (width_of f) (setting f prop.Decrwidth) ≡ false

pub narrow : (f : Instance) → too_wide f ≡ false → IsNarrow f
narrow f e =
    let parts = or-none (list_any above numbers) (list_any bad (prop.Incrwidth ∷ prop.Decrwidth ∷ [])) e in
    let p1 = or-none (above prop.Reset) _ parts.0 in
    let p2 = or-none (above prop.Incrvalue) _ p1.1 in
    let p3 = or-none (above prop.Decrvalue) _ p2.1 in
    let p4 = or-none (above prop.Incrsaturate) _ p3.1 in
    let p5 = or-none (above prop.Decrsaturate) _ p4.1 in
    let p6 = or-none (above prop.Incrthreshold) _ p5.1 in
    let p7 = or-none (above prop.Decrthreshold) _ p6.1 in
    let q1 = or-none (bad prop.Incrwidth) _ parts.1 in
    let q2 = or-none (bad prop.Decrwidth) _ q1.1 in
    record { reset = p1.0; incrvalue = p2.0; decrvalue = p3.0; incrsaturate = p4.0; decrsaturate = p5.0; incrthreshold = p6.0; decrthreshold = p7.0; incrwidth = q1.0; decrwidth = q2.0 }
  where
    above : Prop → Bool
    above p = is_above (2 ^ width_of f) (setting f p)

    bad : Prop → Bool
    bad p = bad_count_width (width_of f) (setting f p)

two-fit : (w : ℕ) → 0 < w → 1 < 2 ^ w
two-fit w l = let at : 1 ≤ w = omega (arith, l) in let more : 2 ^ 1 ≤ 2 ^ w = pow_mono at in omega (arith, more)

pub count-fits : (all : List Lineage) (f : Instance) → IsNarrow f → 0 < width_of f → CountFits (width_of f) (count_of all f)
count-fits all f n l = record {
  up = when-fits (has_up f) (part_at all f prop.Incr prop.Incrvalue prop.Incrwidth) (PartFits w) (pulse-fed (item_at all f prop.Incr), amount-fits w one (setting f prop.Incrvalue) (item_at all f prop.Incrvalue) (setting f prop.Incrwidth) n.incrvalue n.incrwidth);
  down = when-fits (has_down f) (part_at all f prop.Decr prop.Decrvalue prop.Decrwidth) (PartFits w) (pulse-fed (item_at all f prop.Decr), amount-fits w one (setting f prop.Decrvalue) (item_at all f prop.Decrvalue) (setting f prop.Decrwidth) n.decrvalue n.decrwidth);
  high = level-fits w (ones_of f) top (setting f prop.Incrsaturate) (item_at all f prop.Incrsaturate) n.incrsaturate;
  low = level-fits w 0 some (setting f prop.Decrsaturate) (item_at all f prop.Decrsaturate) n.decrsaturate;
  above = or-fits w (ones_of f) (level_at all f prop.Incrthreshold (ones_of f)) top (level-fits w (ones_of f) top (setting f prop.Incrthreshold) (item_at all f prop.Incrthreshold) n.incrthreshold);
  below = or-fits w 0 (level_at all f prop.Decrthreshold 0) some (level-fits w 0 some (setting f prop.Decrthreshold) (item_at all f prop.Decrthreshold) n.decrthreshold);
}
  where
    w : ℕ
    w = width_of f

    one : 1 < 2 ^ w
    one = two-fit w l

    some : 0 < 2 ^ w
    some = let o = one in omega (arith, o)

    top : ones_of f < 2 ^ w
    top = let o = one in omega (arith, o)
