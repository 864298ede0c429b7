-- A field by itself.
use Rattle.std.proofs.Common.{◌≡◌, ◌∙◌, ◌⊎◌, inl, inr, if◌then◌else◌, ℕ, zero, suc, ◌<◌, ◌≤◌, ◌^◌, ◌==◌, ◌&&◌, ◌||◌, Bool, true, false, not, cond, nat_lt, List, [], ◌∷◌, map, filter, Option, None, Some, is_some, refl, sym, ap, subst, arith}
use Rattle.std.specs.List.{AllByRecursion, list_any}
use Rattle.std.specs.List.Sorted.{IsStrictlyIncreasing}
use Rattle.std.proofs.lemmas.Bool.Decides.{nat_tests}
use Rattle.std.proofs.lemmas.List.Kept.{IsStrictlyIncreasing-filter}
use Rattle.plain_lemmas.proofs.Bools.{and-both, and-false as and-no, and-false_left as of-none, false-of_not as not-true, or-either as or-split, or-false as or-no, or-neither as or-none}
use Rattle.rb_base.specs.declared.trigger.Trigger.TheVariants as trigger
use Rattle.rdl_props.specs.Table.{takes_of}
use Rattle.rdl_props.specs.declared.form.Form.TheVariants as form
use Rattle.rdl_props.specs.declared.prop.Prop.{Prop}
use Rattle.rdl_props.specs.declared.prop.Prop.TheVariants as prop
use Rattle.rdl_tree.specs.declared.item.Source.{Source}
use Rattle.rdl_values.specs.Instances.{Instance}
use Rattle.rdl_values.specs.Lineages.{Lineage, child_of, nodes_in}
use Rattle.rdl_layers.specs.Fields.{has, has_one_of, hardware_writes, is_counter, is_given, is_interrupt, views}
use Rattle.rdl_layers.specs.Formed.{IsOfForm}
use Rattle.rdl_layers.specs.Forms.{Meaning, unset, flag, number, text, named, intr, hard, enum_of, reference}
use Rattle.rdl_layers.specs.Phase4.{bad_width, width_of}
use Rattle.rdl_layers.specs.Settings.{setting}
use Rattle.rb_model.specs.declared.block.Field.{Field}
use Rattle.rb_model.specs.declared.kinds.Class.TheVariants as class
use Rattle.rb_model.specs.declared.kinds.Feed.{Feed}
use Rattle.rb_model.specs.declared.kinds.Feed.TheVariants as feed
use Rattle.rb_model.specs.declared.kinds.Latch.{Latch}
use Rattle.rb_model.specs.declared.kinds.Latch.TheVariants as latch
use Rattle.rb_model.specs.declared.kinds.RefItem.{RefItem}
use Rattle.rb_model.specs.declared.kinds.ResetBy.{ResetBy}
use Rattle.rb_model.specs.declared.kinds.Shown.{Shown}
use Rattle.rb_model.specs.Effects.{is_gated, is_latching, loads}
use Rattle.rb_model.specs.Items as items
use Rattle.rb_model.specs.Ports.{is_pin}
use Rattle.rb_model.specs.References.{WithSome}
use Rattle.rb_model.specs.SoundField as sound
use Rattle.rb_model.specs.SoundField.{CountFits, FieldIsSound, holds_nonsticky, is_fed, is_of_counter, shown_place}
use Rattle.rdl_rules.specs.Feeds.{count_of, gate_at, has_gate, has_pin, item_at, when_some}
use Rattle.rdl_rules.specs.FieldRules.{at_node, bad_pulse, counter_parts, is_above, not_interrupt, of_primary, too_wide, two_of}
use Rattle.rdl_rules.specs.Fields.{class_of, field_of, latch_of, reset_signals, shown_of, showing}
use Rattle.rdl_rules.specs.Numbers.{Numbered, all_signals, number_of}
use Rattle.rdl_sound_laws.specs.Faultless.{IsFaultless, Leads}
use Rattle.rdl_sound_laws.proofs.Counting.{IsNarrow, count-fits, narrow}
use Rattle.plain_lemmas.proofs.Numbers.{fits}
use Rattle.rdl_sound_laws.proofs.Fed.{gate-fed, gated-has, none-both, when-none}

-- The rules on a field of which none fails.

record IsJudged (f : Instance) : Type 0 where
  hardware : (not (hardware_writes f) && has_one_of (prop.Next ∷ prop.We ∷ prop.Wel ∷ prop.Intr ∷ []) f) ≡ false
  counts : (not (is_counter f) && has_one_of counter_parts f) ≡ false
  one : two_of (is_counter f ∷ is_interrupt f ∷ has prop.Singlepulse f ∷ []) ≡ false
  pulse : bad_pulse f ≡ false
  narrow : too_wide f ≡ false

judged : (f : Instance) → of_primary f ≡ [] → IsJudged f
judged f e =
    let p10 = none-both _ (at_node _ f (too_wide f)) e in
    let p9 = none-both _ (at_node _ f (bad_pulse f)) p10.0 in
    let p8 = none-both _ (at_node _ f (not_interrupt f)) p9.0 in
    let p7 = none-both _ (at_node _ f (two_of (is_counter f ∷ is_interrupt f ∷ has prop.Singlepulse f ∷ []))) p8.0 in
    let p6 = none-both _ (at_node _ f (not (is_counter f) && has_one_of counter_parts f)) p7.0 in
    let p5 = none-both _ (at_node _ f (not (hardware_writes f) && has_one_of (prop.Next ∷ prop.We ∷ prop.Wel ∷ prop.Intr ∷ []) f)) p6.0 in
    record { hardware = when-none _ _ p5.1; counts = when-none _ _ p6.1; one = when-none _ _ p7.1; pulse = when-none _ _ p9.1; narrow = when-none _ _ p10.1 }

-- The width.

pub wide : (f : Instance) → bad_width f ≡ false → (0 < width_of f) × (width_of f ≤ 64)
wide f e =
    let a = or-none _ _ e in
    let b = or-none _ _ a.0 in
    let c = or-none (width_of f == 0) (nat_lt 64 (width_of f)) b.0 in
    let none = c.0 in
    let over = c.1 in
    (grind (arith, nat_tests), grind (arith, nat_tests))

-- The reset value.

abbrev reset_of : Meaning → Option ℕ
reset_of (number n) = Some n
reset_of _ = None

reset-fits : (b : ℕ) (m : Meaning) → is_above b m ≡ false → WithSome (reset_of m) (λ r. r < b)
reset-fits b (number n) e = fits b n e
reset-fits b unset e = tt
reset-fits b (flag x) e = tt
reset-fits b (text t) e = tt
reset-fits b (named w) e = tt
reset-fits b (intr x) e = tt
reset-fits b (hard x) e = tt
reset-fits b (enum_of n scope) e = tt
reset-fits b (reference path item scope place) e = tt

-- Latches.

abbrev latch_from : Bool → Meaning → Latch
latch_from whole (intr trigger.Nonsticky) = latch.Plain
latch_from whole (intr e) = cond whole (latch.Whole e) (latch.Bits e)
latch_from whole _ = latch.Off

-- a latch is there just for an interrupt
pub latch-is : (whole : Bool) (m : Meaning) → IsOfForm form.Intr m → items.is_interrupt (latch_from whole m) ≡ is_given m
latch-is whole (intr trigger.Nonsticky) h = refl
latch-is true (intr trigger.Level) h = refl
latch-is false (intr trigger.Level) h = refl
latch-is true (intr trigger.Posedge) h = refl
latch-is false (intr trigger.Posedge) h = refl
latch-is true (intr trigger.Negedge) h = refl
latch-is false (intr trigger.Negedge) h = refl
latch-is true (intr trigger.Bothedge) h = refl
latch-is false (intr trigger.Bothedge) h = refl
latch-is whole unset h = refl
latch-is whole (flag b) h = sym h
latch-is whole (number n) h = absurd h
latch-is whole (text t) h = absurd h
latch-is whole (named w) h = absurd h
latch-is whole (hard x) h = absurd h
latch-is whole (enum_of n scope) h = absurd h
latch-is whole (reference path item scope place) h = absurd h

latch-trigger : (whole : Bool) (m : Meaning) → not (holds_nonsticky (latch_from whole m)) ≡ true
latch-trigger whole (intr trigger.Nonsticky) = refl
latch-trigger true (intr trigger.Level) = refl
latch-trigger false (intr trigger.Level) = refl
latch-trigger true (intr trigger.Posedge) = refl
latch-trigger false (intr trigger.Posedge) = refl
latch-trigger true (intr trigger.Negedge) = refl
latch-trigger false (intr trigger.Negedge) = refl
latch-trigger true (intr trigger.Bothedge) = refl
latch-trigger false (intr trigger.Bothedge) = refl
latch-trigger whole unset = refl
latch-trigger whole (flag b) = refl
latch-trigger whole (number n) = refl
latch-trigger whole (text t) = refl
latch-trigger whole (named w) = refl
latch-trigger whole (hard x) = refl
latch-trigger whole (enum_of n scope) = refl
latch-trigger whole (reference path item scope place) = refl

-- One kind.

some-when : {A : Type 0} (b : Bool) (x : A) → is_some (when_some b x) ≡ b
some-when true x = refl
some-when false x = refl

one-kind : (c i p : Bool) → two_of (c ∷ i ∷ p ∷ []) ≡ false → (not (c && i) && not (c && p) && not (i && p)) ≡ true
one-kind true true p e = cc
one-kind true false true e = cc
one-kind true false false e = refl
one-kind false true true e = cc
one-kind false true false e = refl
one-kind false false p e = refl

-- What hardware writes.

writes-where : (w b : Bool) → (not w && b) ≡ false → b ≡ true → w ≡ true
writes-where true b e h = refl
writes-where false true e h = cc
writes-where false false e h = cc

of-four : (n w l i : Bool) → (i || (w || l)) ≡ true → (n || (w || (l || (i || false)))) ≡ true
of-four true w l i h = refl
of-four false true l i h = refl
of-four false false true i h = refl
of-four false false false true h = refl
of-four false false false false h = cc

-- Its source.

abbrev source_from : Bool → Option RefItem → Feed
source_from pin (Some r) = feed.Item r
source_from pin None = cond pin feed.Pin feed.Off

source-fed : (pin : Bool) (o : Option RefItem) → pin ≡ true → is_fed (source_from pin o) ≡ true
source-fed true (Some r) e = refl
source-fed true None e = refl
source-fed false o e = cc

source-pin : (pin : Bool) (o : Option RefItem) → is_pin (source_from pin o) ≡ true → pin ≡ true
source-pin true o e = refl
source-pin false (Some r) e = cc
source-pin false None e = cc

pin-where : (h c g : Bool) → h ≡ true → (not c || g) ≡ true → (h && (not c || g)) ≡ true
pin-where true c g e k = k
pin-where false c g e k = cc

-- Its class.

class-wire : (w s : Bool) → sound.is_wire (cond w class.Wire (cond s class.Storage class.Constant)) ≡ true → w ≡ true
class-wire true s e = refl
class-wire false true e = cc
class-wire false false e = cc

-- Its reset.

abbrev reset_from : Source → List Lineage → List Instance → ResetBy
reset_from s all (n ∷ ns) = record { signal = Some (number_of n (all_signals (nodes_in all))); low = has prop.Activelow n; sync = not (has prop.Async n) }
reset_from s all [] = record { signal = None; low = true; sync = false }

bus-reset : (s : Source) (all : List Lineage) (ns : List Instance) → (is_some (reset_from s all ns).signal || (reset_from s all ns).low && not (reset_from s all ns).sync) ≡ true
bus-reset s all [] = refl
bus-reset s all (n ∷ ns) = refl

-- What it shows.

-- the outputs by their places
shown-at : Instance → ℕ → Bool
shown-at f zero = has prop.Anded f
shown-at f (suc zero) = has prop.Ored f
shown-at f (suc (suc zero)) = has prop.Xored f
shown-at f (suc (suc (suc zero))) = has prop.Incrthreshold f
shown-at f (suc (suc (suc (suc zero)))) = has prop.Decrthreshold f
shown-at f (suc (suc (suc (suc (suc zero))))) = has prop.Overflow f
shown-at f (suc (suc (suc (suc (suc (suc zero)))))) = has prop.Underflow f
shown-at f (suc (suc (suc (suc (suc (suc (suc zero))))))) = has prop.Swmod f
shown-at f (suc (suc (suc (suc (suc (suc (suc (suc zero)))))))) = has prop.Swacc f
shown-at f _ = false

-- the outputs that are shown, by their places
places : (f : Instance) (xs : List (Prop × Shown)) → AllByRecursion (λ x. has x.0 f ≡ shown-at f (shown_place x.1)) xs → map shown_place (map (λ x. x.1) (filter (λ x. has x.0 f) xs)) ≡ filter (shown-at f) (map (λ x. shown_place x.1) xs)
places f [] h = refl
places f (x ∷ xs) h = go (has x.0 f) (shown-at f (shown_place x.1)) h.0 (places f xs h.1)
  where
    go : (a b : Bool) → a ≡ b → map shown_place (map (λ (y : Prop × Shown). y.1) (filter (λ y. has y.0 f) xs)) ≡ filter (shown-at f) (map (λ y. shown_place y.1) xs)
        → map shown_place (map (λ (y : Prop × Shown). y.1) (cond a (x ∷ filter (λ y. has y.0 f) xs) (filter (λ y. has y.0 f) xs))) ≡ cond b (shown_place x.1 ∷ filter (shown-at f) (map (λ y. shown_place y.1) xs)) (filter (shown-at f) (map (λ y. shown_place y.1) xs))
    go true true e h = ap (λ ys. shown_place x.1 ∷ ys) h
    go false false e h = h
    go true false e h = cc
    go false true e h = cc

rising : IsStrictlyIncreasing (0 ∷ 1 ∷ 2 ∷ 3 ∷ 4 ∷ 5 ∷ 6 ∷ 7 ∷ 8 ∷ [])
rising zero l = omega arith
rising (suc zero) l = omega arith
rising (suc (suc zero)) l = omega arith
rising (suc (suc (suc zero))) l = omega arith
rising (suc (suc (suc (suc zero)))) l = omega arith
rising (suc (suc (suc (suc (suc zero))))) l = omega arith
rising (suc (suc (suc (suc (suc (suc zero)))))) l = omega arith
rising (suc (suc (suc (suc (suc (suc (suc zero))))))) l = omega arith
rising (suc (suc (suc (suc (suc (suc (suc (suc k)))))))) l = absurd (omega (arith, l))

shown-order : (f : Instance) → IsStrictlyIncreasing (map shown_place (shown_of f))
unfolding shown-at
shown-order f = subst IsStrictlyIncreasing (sym (places f showing (refl, (refl, (refl, (refl, (refl, (refl, (refl, (refl, (refl, tt))))))))))) (IsStrictlyIncreasing-filter (shown-at f) (0 ∷ 1 ∷ 2 ∷ 3 ∷ 4 ∷ 5 ∷ 6 ∷ 7 ∷ 8 ∷ []) rising)

-- none of a counter's outputs where none of its properties is set
none-counts : (f : Instance) (xs : List (Prop × Shown)) → AllByRecursion (λ x. (has x.0 f && is_of_counter x.1) ≡ false) xs → list_any is_of_counter (map (λ x. x.1) (filter (λ x. has x.0 f) xs)) ≡ false
none-counts f [] h = refl
none-counts f (x ∷ xs) h = go (has x.0 f) h.0 (none-counts f xs h.1)
  where
    go : (a : Bool) → (a && is_of_counter x.1) ≡ false → list_any is_of_counter (map (λ (y : Prop × Shown). y.1) (filter (λ y. has y.0 f) xs)) ≡ false → list_any is_of_counter (map (λ (y : Prop × Shown). y.1) (cond a (x ∷ filter (λ y. has y.0 f) xs) (filter (λ y. has y.0 f) xs))) ≡ false
    go true e h = ap (λ b. b || list_any is_of_counter (map (λ (y : Prop × Shown). y.1) (filter (λ y. has y.0 f) xs))) e ∙ h
    go false e h = h

shown-counts : (f : Instance) → (not (is_counter f) && has_one_of counter_parts f) ≡ false → (is_counter f || not (list_any is_of_counter (shown_of f))) ≡ true
shown-counts f e = go (is_counter f) e
  where
    none : has_one_of counter_parts f ≡ false → list_any is_of_counter (shown_of f) ≡ false
    none h =
        let over = or-none (has prop.Overflow f) _ h in
        let under = or-none (has prop.Underflow f) _ over.1 in
        let p3 = or-none (has prop.Incr f) _ under.1 in
        let p4 = or-none (has prop.Decr f) _ p3.1 in
        let p5 = or-none (has prop.Incrvalue f) _ p4.1 in
        let p6 = or-none (has prop.Incrwidth f) _ p5.1 in
        let p7 = or-none (has prop.Decrvalue f) _ p6.1 in
        let p8 = or-none (has prop.Decrwidth f) _ p7.1 in
        let p9 = or-none (has prop.Incrsaturate f) _ p8.1 in
        let p10 = or-none (has prop.Decrsaturate f) _ p9.1 in
        let above = or-none (has prop.Incrthreshold f) _ p10.1 in
        let below = or-none (has prop.Decrthreshold f) _ above.1 in
        none-counts f showing (and-no _, (and-no _, (and-no _, (of-none _ _ above.0, (of-none _ _ below.0, (of-none _ _ over.0, (of-none _ _ under.0, (and-no _, (and-no _, tt)))))))))

    go : (c : Bool) → (not c && has_one_of counter_parts f) ≡ false → (c || not (list_any is_of_counter (shown_of f))) ≡ true
    go true h = refl
    go false h = ap not (none h)

-- All of it.

no-counter : (c p : Bool) → two_of (c ∷ true ∷ p ∷ []) ≡ false → c ≡ false
no-counter true p e = cc
no-counter false p e = refl

in-pulse : (s b : Bool) → (s && b) ≡ false → s ≡ true → b ≡ false
in-pulse true b e h = e
in-pulse false b e h = cc

module _ (s : Source) (all : List Lineage) (r : Numbered Lineage) (f : Instance) (formed : (p : Prop) → IsOfForm (takes_of p) (setting f p)) (j : IsJudged f) (leads : Leads all f) where
  abbrev one : Field
  one = field_of s all r f

  latches : items.is_interrupt (latch_of f) ≡ is_interrupt f
  latches = latch-is (has prop.Sticky f) (setting f prop.Intr) (formed prop.Intr)

  counting : is_some (when_some (is_counter f) (count_of all f)) ≡ is_counter f
  counting = some-when (is_counter f) (count_of all f)

  gated : is_gated (gate_at all f prop.We prop.Wel) ≡ (has prop.We f || has prop.Wel f)
  gated = gated-has all f prop.We prop.Wel

  hardware-where : (is_interrupt f || (has prop.We f || has prop.Wel f)) ≡ true → hardware_writes f ≡ true
  hardware-where h = writes-where (hardware_writes f) (has_one_of (prop.Next ∷ prop.We ∷ prop.Wel ∷ prop.Intr ∷ []) f) j.hardware (of-four (has prop.Next f) (has prop.We f) (has prop.Wel f) (is_interrupt f) h)

  written : (items.is_interrupt (latch_of f) || is_gated (gate_at all f prop.We prop.Wel)) ≡ true → hardware_writes f ≡ true
  written h = hardware-where (sym (λ i. latches i || gated i) ∙ h)

  pulse-alone : has prop.Singlepulse f ≡ true → not (hardware_writes f) ≡ true
  pulse-alone h =
      let all-of = in-pulse (has prop.Singlepulse f) _ j.pulse h in
      let p1 = or-none _ _ all-of in
      let p2 = or-none _ _ p1.0 in
      let p3 = or-none _ _ p2.0 in
      let p4 = or-none _ _ p3.0 in
      let p5 = or-none _ _ p4.0 in
      let p6 = or-none _ (hardware_writes f) p5.0 in
      ap not p6.1

  gate-is : has_gate f ≡ (has prop.We f || has prop.Wel f)
  gate-is = ap (λ b. has prop.We f || b) (or-no (has prop.Wel f))

  pin-is : has_pin f ≡ (hardware_writes f && (not (is_some (when_some (is_counter f) (count_of all f))) || is_gated (gate_at all f prop.We prop.Wel)))
  pin-is = (λ i. hardware_writes f && (not (sym counting i) || (gate-is ∙ sym gated) i))

  wire-pin : sound.is_wire (class_of (views (nodes_in all) r.register.node f) f) ≡ true → has_pin f ≡ true
  wire-pin h =
      let is = class-wire _ _ h in
      let a = and-both _ _ is in
      let b = and-both _ _ a.0 in
      let c = and-both _ _ b.0 in
      let hw = and-both (hardware_writes f) _ c.1 in
      let parts = not-true _ b.1 in
      let we = or-none (has prop.We f) _ parts in
      let wel = or-none (has prop.Wel f) _ we.1 in
      let counter = or-none (has prop.Counter f) _ wel.1 in
      pin-where (hardware_writes f) (is_counter f) (has_gate f) hw.0 (ap (λ x. not x || has_gate f) counter.0)

  interrupt-pin : is_interrupt f ≡ true → has_pin f ≡ true
  interrupt-pin h =
      let hw = hardware-where (ap (λ x. x || (has prop.We f || has prop.Wel f)) h) in
      let counter = no-counter (is_counter f) (has prop.Singlepulse f) (ap (λ x. two_of (is_counter f ∷ x ∷ has prop.Singlepulse f ∷ [])) (sym h) ∙ j.one) in
      pin-where (hardware_writes f) (is_counter f) (has_gate f) hw (ap (λ x. not x || has_gate f) counter)

  loads-pin : loads one ≡ true → has_pin f ≡ true
  loads-pin h = go (is_counter f) refl (sym (ap (λ x. if x then is_gated (gate_at all f prop.We prop.Wel) else (hardware_writes f && not (is_latching (latch_of f)))) counting) ∙ h)
    where
      go : (c : Bool) → is_counter f ≡ c → (if c then is_gated (gate_at all f prop.We prop.Wel) else (hardware_writes f && not (is_latching (latch_of f)))) ≡ true → has_pin f ≡ true
      go true e k =
          let g : (has prop.We f || has prop.Wel f) ≡ true = sym gated ∙ k in
          let hw = hardware-where (or-right (is_interrupt f) _ g) in
          pin-where (hardware_writes f) (is_counter f) (has_gate f) hw (or-right (not (is_counter f)) (has_gate f) (gate-is ∙ g))
        where
          or-right : (a b : Bool) → b ≡ true → (a || b) ≡ true
          or-right true b q = refl
          or-right false b q = q
      go false e k = pin-where (hardware_writes f) (is_counter f) (has_gate f) (and-both (hardware_writes f) _ k).0 (ap (λ x. not x || has_gate f) e)

  source-where : ((sound.is_wire (class_of (views (nodes_in all) r.register.node f) f) || items.is_interrupt (latch_of f)) || loads one) ≡ true → has_pin f ≡ true
  source-where h = outer (or-split _ (loads one) h)
    where
      inner : (sound.is_wire (class_of (views (nodes_in all) r.register.node f) f) ≡ true) ⊎ (items.is_interrupt (latch_of f) ≡ true) → has_pin f ≡ true
      inner (inl w) = wire-pin w
      inner (inr i) = interrupt-pin (sym latches ∙ i)

      outer : ((sound.is_wire (class_of (views (nodes_in all) r.register.node f) f) || items.is_interrupt (latch_of f)) ≡ true) ⊎ (loads one ≡ true) → has_pin f ≡ true
      outer (inl a) = inner (or-split _ (items.is_interrupt (latch_of f)) a)
      outer (inr l) = loads-pin l

  kinds : (not (is_some (when_some (is_counter f) (count_of all f)) && items.is_interrupt (latch_of f)) && not (is_some (when_some (is_counter f) (count_of all f)) && has prop.Singlepulse f) && not (items.is_interrupt (latch_of f) && has prop.Singlepulse f)) ≡ true
  kinds = (λ i. not (counting i && latches i) && not (counting i && has prop.Singlepulse f) && not (latches i && has prop.Singlepulse f)) ∙ one-kind (is_counter f) (is_interrupt f) (has prop.Singlepulse f) j.one

  count-in : IsNarrow f → 0 < width_of f → WithSome (when_some (is_counter f) (count_of all f)) (CountFits (width_of f))
  count-in n l = go (is_counter f)
    where
      go : (b : Bool) → WithSome (when_some b (count_of all f)) (CountFits (width_of f))
      go true = count-fits all f n l
      go false = tt

  field-sound : (0 < width_of f) × (width_of f ≤ 64) → IsNarrow f → FieldIsSound (field_of s all r f)
  field-sound w n = record {
    wide = w;
    reset = reset-fits (2 ^ width_of f) (setting f prop.Reset) n.reset;
    count = count-in n w.0;
    one_kind = kinds;
    written_by = written;
    pulse_alone = pulse-alone;
    gate_fed = gate-fed all f prop.We prop.Wel formed refl refl leads;
    source_fed = λ h. source-fed (has_pin f) (item_at all f prop.Next) (source-where h);
    pin = λ h. sym pin-is ∙ source-pin (has_pin f) (item_at all f prop.Next) h;
    latch_trigger = latch-trigger (has prop.Sticky f) (setting f prop.Intr);
    bus_reset = bus-reset s all (reset_signals s all (child_of r.register f));
    shown_in_order = shown-order f;
    shown_counts = ap (λ b. b || not (list_any is_of_counter (shown_of f))) counting ∙ shown-counts f j.counts;
  }

pub sound-field : (s : Source) (all : List Lineage) (r : Numbered Lineage) (f : Instance) → ((p : Prop) → IsOfForm (takes_of p) (setting f p)) → IsFaultless all f → FieldIsSound (field_of s all r f)
sound-field s all r f formed h = let j = judged f h.rules in field-sound s all r f formed j h.leads (wide f h.width) (narrow f j.narrow)
