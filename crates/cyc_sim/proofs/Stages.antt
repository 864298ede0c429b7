-- The stages by which a module is compiled.
use Rattle.std.specs.Bool.{OnTrue}
use Rattle.std.specs.Str.{bytes_eq}
use Rattle.std.specs.List.{slice_get}
use Rattle.std.proofs.Common.{◌≡◌, ℕ, ◌+◌, ◌<◌, ◌^◌, Bool, true, false, if◌then◌else◌, Some, None, List, [], ◌++◌, length, get_or, refl, ap, sym, subst, ◌∙◌, inl, inr, length-append, arith}
use Rattle.std.proofs.lemmas.List.{get_or_append_left, get_or-append-add}
use Rattle.rb_base.specs.declared.ports.Pin.{Pin}
use Rattle.v_design.specs.Expr.{Values, value_of}
use Rattle.v_design.specs.Design.{Module, Step, inputs, registers, widths}
use Rattle.v_design.specs.Run.{under_reset, step_value, next_value}
use Rattle.v_design.specs.Fits.{FitsPins}
use Rattle.cyc_sim.specs.Operations.{values_after}
use Rattle.cyc_sim.specs.Compiled.{Known, known_at, end_of, Extends, Compiles}
use Rattle.cyc_sim.specs.Accepted.{IsAccepted}
use Rattle.cyc_sim.specs.Preparing.{IsSettling, ArePlaced, Prepared, Moving, Guards}
use Rattle.cyc_sim.specs.declared.listing.Wire.{Wire}
use Rattle.cyc_sim.specs.declared.listing.Listing.{Listing}
use Rattle.cyc_sim.proofs.Settling.{values_after-none, values_stay}
use Rattle.cyc_sim.proofs.Compiling.{extends_both, below_more, agrees_extends, kept, expr_fits}
use Rattle.cyc_sim.proofs.Knowing.{known_or_last}
use Rattle.cyc_sim.proofs.Facts.{IsSoundStep, HasWidth, wide_inputs, wide_registers, pins_fit, fits_length, reset_within, value_got}
use Rattle.plain_lemmas.proofs.Lists.{each-get as each_got, get-within as got_within}

-- how many places come first
pub base_length : (m : Module) (base : List ℕ) (v after : Values) → IsSettling m base v after → length base ≡ length (inputs m) + length (registers m)
base_length m base v after h =
    ap length h.is ∙ omega (arith, length-append h.pins h.numbers, fits_length (inputs m) h.pins h.pins_fit, fits_length (registers m) h.numbers h.numbers_fit)

-- the value at the place of a pin, and at that of a register's contents
input_value : (m : Module) (base : List ℕ) (v after : Values) (i : ℕ) (p : Pin) → IsSettling m base v after → slice_get (inputs m) i ≡ Some p → get_or base i 0 ≡ v p.name
input_value m base v after i p h at =
    let long = fits_length (inputs m) h.pins h.pins_fit in
    ap (λ b. get_or b i 0) h.is
    ∙ (get_or_append_left h.pins h.numbers 0 i (omega (arith, got_within (inputs m) i p at, long)) ∙ (ap (λ xs. get_or xs i 0) (sym h.given) ∙ value_got v (inputs m) i p at))

register_value : (m : Module) (base : List ℕ) (v after : Values) (i : ℕ) (p : Pin) → (h : IsSettling m base v after) → slice_get (registers m) i ≡ Some p → get_or base (length (inputs m) + i) 0 ≡ h.contents p.name
register_value m base v after i p h at =
    ap (λ b. get_or b (length (inputs m) + i) 0) h.is
    ∙ (ap (λ n. get_or (h.pins ++ h.numbers) (n + i) 0) (sym (fits_length (inputs m) h.pins h.pins_fit))
    ∙ (get_or-append-add h.pins h.numbers i 0 ∙ (ap (λ xs. get_or xs i 0) (sym h.kept) ∙ value_got h.contents (registers m) i p at)))

-- the nets once the pins have places
pub start_prepared : (m : Module) (known : Known) (l : Listing) → IsAccepted m → ArePlaced (inputs m) 0 known → l.first ≡ length (inputs m) + length (registers m) → l.operations.items ≡ [] → Prepared m known l
start_prepared m known l a placed first none = record {
  first = first;
  below = record {
    below = λ name w at.
        let (i, p, here, same, place, width) = placed.placed name w at in
        omega (arith, got_within (inputs m) i p here, place, first);
  };
  wide = record {
    width = λ name w at.
        let (i, p, here, same, place, width) = placed.placed name w at in
        width ∙ (sym (each_got (HasWidth m) (inputs m) i p (wide_inputs m a) here) ∙ ap (widths m) same);
  };
  agrees = λ base v after h.
      let long = base_length m base v after h in
      record {
        below = λ name w at.
            let (i, p, here, same, place, width) = placed.placed name w at in
            omega (arith, got_within (inputs m) i p here, place, long);
        value = λ name w at.
            let (i, p, here, same, place, width) = placed.placed name w at in
            ap (λ os. get_or (values_after os base) w.place 0) none
            ∙ (ap (λ vs. get_or vs w.place 0) (values_after-none base) ∙ (ap (λ n. get_or base n 0) (place ∙ omega arith) ∙ (input_value m base v after i p h here ∙ ap v same)));
        fits = λ name w at.
            let (i, p, here, same, place, width) = placed.placed name w at in
            let fits = each_got (λ q. v q.name < 2 ^ q.width) (inputs m) i p (pins_fit v (inputs m) (subst (FitsPins (inputs m)) (sym h.given) h.pins_fit)) here in
            subst (λ n. v n < 2 ^ w.width) same (subst (λ k. v p.name < 2 ^ k) (sym width) fits);
      };
}

-- one net more
pub more_prepared : (m : Module) (known known' : Known) (l l' : Listing) (text : List ℕ) (w : Wire) → Prepared m known l → Extends l l' → w.place < end_of l' → w.width ≡ widths m text
    → ((base : List ℕ) (v after : Values) → IsSettling m base v after → (get_or (values_after l'.operations.items base) w.place 0 ≡ v text) × (v text < 2 ^ w.width))
    → ((name : List ℕ) → known_at known' name ≡ (if bytes_eq text name then Some w else known_at known name)) → Prepared m known' l'
more_prepared m known known' l l' text w h extends low wide has updated = record {
  first = extends.first ∙ h.first;
  below = record {
    below = λ name x at. elim (known_or_last (known_at known name) (known_at known' name) text name w x (updated name) at) [
      | inl last ↦ subst (λ y. y.place < end_of l') (sym last.1) low
      | inr before ↦ (below_more known l l' extends h.below).below name x before
    ];
  };
  wide = record {
    width = λ name x at. elim (known_or_last (known_at known name) (known_at known' name) text name w x (updated name) at) [
      | inl last ↦ ap (λ y. y.width) last.1 ∙ (wide ∙ ap (widths m) last.0)
      | inr before ↦ h.wide.width name x before
    ];
  };
  agrees = λ base v after s.
      let old = agrees_extends known l l' base v extends (h.agrees base v after s) in
      let this = has base v after s in
      let long : length base ≡ l'.first = base_length m base v after s ∙ sym (extends.first ∙ h.first) in
      record {
        below = λ name x at. elim (known_or_last (known_at known name) (known_at known' name) text name w x (updated name) at) [
          | inl last ↦ subst (λ y. y.place < length base + length l'.operations.items) (sym last.1) (omega (arith, low, long))
          | inr before ↦ old.below name x before
        ];
        value = λ name x at. elim (known_or_last (known_at known name) (known_at known' name) text name w x (updated name) at) [
          | inl last ↦ ap (λ y. get_or (values_after l'.operations.items base) y.place 0) last.1 ∙ (this.0 ∙ ap v last.0)
          | inr before ↦ old.value name x before
        ];
        fits = λ name x at. elim (known_or_last (known_at known name) (known_at known' name) text name w x (updated name) at) [
          | inl last ↦ rw (last.1, ← last.0) this.1
          | inr before ↦ old.fits name x before
        ];
      };
}

clocked_value : (v : Values) (m : Module) (contents : Values) (s : Step) → s.clocked ≡ true → step_value (widths m) contents v s ≡ under_reset v s.reset (contents s.to)
clocked_value v m contents s c = rw c refl

assigned_value : (v : Values) (m : Module) (contents : Values) (s : Step) → s.clocked ≡ false → step_value (widths m) contents v s ≡ value_of (widths m) v s.expr
assigned_value v m contents s c = rw c refl

on_true : (b : Bool) (P : Type 0) → b ≡ true → OnTrue b P → P
on_true true P e h = h
on_true false P e h = cc e

-- a place of the registers' contents is one of the first
pub kept_below : (m : Module) (known kept_known : Known) (l : Listing) (name : List ℕ) (k : Wire) → Prepared m known l → ArePlaced (registers m) (length (inputs m)) kept_known → known_at kept_known name ≡ Some k → k.place < end_of l
kept_below m known kept_known l name k h placed at =
    let (i, p, here, same, place, width) = placed.placed name k at in
    omega (arith, got_within (registers m) i p here, place, h.first)

-- a register's value, where each step is sound and settled
pub register_prepared : (m : Module) (known known' kept_known : Known) (l l' : Listing) (s : Step) (k w : Wire) → IsAccepted m → Prepared m known l → ArePlaced (registers m) (length (inputs m)) kept_known
    → s.clocked ≡ true → IsSoundStep m s → ((base : List ℕ) (v after : Values) → (h : IsSettling m base v after) → v s.to ≡ step_value (widths m) h.contents v s)
    → known_at kept_known s.to ≡ Some k → Guards known s.reset k l l' w
    → ((name : List ℕ) → known_at known' name ≡ (if bytes_eq s.to name then Some w else known_at known name)) → Prepared m known' l'
register_prepared m known known' kept_known l l' s k w a h placed c sound settled at guards updated =
    let (i, p, here, same, place, width) = placed.placed s.to k at in
    let wide : k.width ≡ widths m s.to = width ∙ (sym (each_got (HasWidth m) (registers m) i p (wide_registers m a) here) ∙ ap (widths m) same) in
    more_prepared m known known' l l' s.to w h guards.extends guards.below (guards.width ∙ wide) (λ base v after z.
    let x = z.contents s.to in
    let long : length base ≡ l.first = base_length m base v after z ∙ sym h.first in
    let first : k.place < length base = omega (arith, got_within (registers m) i p here, place, base_length m base v after z) in
    let contents : get_or (values_after l.operations.items base) k.place 0 ≡ x
    = values_stay l.operations.items base k.place first ∙ (ap (λ n. get_or base n 0) place ∙ (register_value m base v after i p z here ∙ ap z.contents same)) in
    let is : v s.to ≡ under_reset v s.reset x = settled base v after z ∙ clocked_value v m z.contents s c in
    let fits_p = each_got (λ q. z.contents q.name < 2 ^ q.width) (registers m) i p (pins_fit z.contents (registers m) (subst (FitsPins (registers m)) (sym z.kept) z.numbers_fit)) here in
    let fits_x : x < 2 ^ widths m s.to = subst (λ n. x < 2 ^ n) (sym width ∙ wide) (subst (λ n. z.contents n < 2 ^ p.width) same fits_p) in (
      guards.value v base x long (h.agrees base v after z) contents ∙ sym is,
      subst (λ n. v s.to < 2 ^ n) (sym (guards.width ∙ wide)) (subst (λ n. n < 2 ^ widths m s.to) (sym is) (reset_within v (widths m s.to) x s.reset sound.reset_width sound.reset_fits fits_x)),
    )) updated

-- an assigned net's value
pub net_prepared : (m : Module) (known known' : Known) (l l' : Listing) (s : Step) (w : Wire) → Prepared m known l → s.clocked ≡ false → IsSoundStep m s
    → ((base : List ℕ) (v after : Values) → (h : IsSettling m base v after) → v s.to ≡ step_value (widths m) h.contents v s) → Compiles known s.expr l l' w
    → ((name : List ℕ) → known_at known' name ≡ (if bytes_eq s.to name then Some w else known_at known name)) → Prepared m known' l'
net_prepared m known known' l l' s w h c sound settled compiled updated =
    let wide : w.width ≡ widths m s.to = compiled.width (widths m) h.wide ∙ sym sound.wide in
    more_prepared m known known' l l' s.to w h compiled.extends compiled.below wide (λ base v after z.
    let long : length base ≡ l.first = base_length m base v after z ∙ sym h.first in
    let is : v s.to ≡ value_of (widths m) v s.expr = settled base v after z ∙ assigned_value v m z.contents s c in
    let agrees = h.agrees base v after z in (
      compiled.value (widths m) v base long h.wide sound.sized sound.constants agrees ∙ sym is,
      subst (λ n. n < 2 ^ w.width) (sym is) (subst (λ n. value_of (widths m) v s.expr < 2 ^ n) (sym (compiled.width (widths m) h.wide)) (expr_fits known (widths m) v l.operations.items base s.expr h.wide agrees sound.sized sound.constants compiled.nets)),
    )) updated

-- nets keep their places
pub still_prepared : (m : Module) (known : Known) (l l' : Listing) → Prepared m known l → Extends l l' → Prepared m known l'
still_prepared m known l l' h extends = record {
  first = extends.first ∙ h.first;
  below = below_more known l l' extends h.below;
  wide = h.wide;
  agrees = λ base v after s. agrees_extends known l l' base v extends (h.agrees base v after s);
}

-- no register moves yet
pub none_moving : (m : Module) (moves : Known) (l : Listing) → ((name : List ℕ) → known_at moves name ≡ None) → Moving m moves l
none_moving m moves l none = record {
  below = record { below = λ name w at. absurd (let e : Some w ≡ None = sym at ∙ none name in cc) };
  value = λ base v after z name w at. absurd (let e : Some w ≡ None = sym at ∙ none name in cc);
}

-- one register more moves
pub more_moving : (m : Module) (known moves moves' : Known) (l l1 l2 : Listing) (s : Step) (n w : Wire) → Prepared m known l → Moving m moves l → s.clocked ≡ true → IsSoundStep m s
    → ((base : List ℕ) (v after : Values) → (h : IsSettling m base v after) → OnTrue s.clocked (after s.to ≡ next_value (widths m) v s))
    → Compiles known s.expr l l1 n → Guards known s.reset n l1 l2 w
    → ((name : List ℕ) → known_at moves' name ≡ (if bytes_eq s.to name then Some w else known_at moves name)) → Moving m moves' l2
more_moving m known moves moves' l l1 l2 s n w h moving c sound moved compiled guards updated =
    let extends = extends_both l l1 l2 compiled.extends guards.extends in
    record {
      below = record {
        below = λ name x at. elim (known_or_last (known_at moves name) (known_at moves' name) s.to name w x (updated name) at) [
          | inl last ↦ subst (λ y. y.place < end_of l2) (sym last.1) guards.below
          | inr before ↦ (below_more moves l l2 extends moving.below).below name x before
        ];
      };
      value = λ base v after z name x at.
          let long : length base ≡ l.first = base_length m base v after z ∙ sym h.first in
          elim (known_or_last (known_at moves name) (known_at moves' name) s.to name w x (updated name) at) [
            | inl last ↦
                let agrees = h.agrees base v after z in
                let value = compiled.value (widths m) v base long h.wide sound.sized sound.constants agrees in
                let guarded = guards.value v base (value_of (widths m) v s.expr) (long ∙ sym compiled.extends.first) (agrees_extends known l l1 base v compiled.extends agrees) value in
                ap (λ y. get_or (values_after l2.operations.items base) y.place 0) last.1 ∙ (guarded ∙ (sym (on_true s.clocked (after s.to ≡ next_value (widths m) v s) c (moved base v after z)) ∙ ap after last.0))
            | inr before ↦ kept l l2 base x.place (after name) extends long (moving.below.below name x before) (moving.value base v after z name x before)
          ];
    }
