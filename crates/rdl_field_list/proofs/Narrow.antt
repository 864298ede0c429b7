-- The widths of a counter's pins.
use Rattle.std.proofs.Common.{◌≡◌, ◌∙◌, ℕ, ◌<◌, ◌≤◌, ◌^◌, ◌==◌, ◌||◌, false, nat_lt, List, [], ◌∷◌, sym, ap, arith}
use Rattle.std.specs.List.{list_any}
use Rattle.std.proofs.lemmas.Bool.Decides.{nat_tests}
use Rattle.plain_lemmas.proofs.Bools.{or-neither as or-none}
use Rattle.rdl_base.specs.declared.rule.Rule.TheVariants as rules
use Rattle.rdl_props.specs.declared.prop.Prop.TheVariants as prop
use Rattle.rdl_values.specs.Faults.{at_}
use Rattle.rdl_values.specs.Instances.{Instance}
use Rattle.rdl_values.specs.Lineages.{Lineage}
use Rattle.rdl_layers.specs.Forms.{Meaning, number}
use Rattle.rdl_layers.specs.Phase4.{width_of}
use Rattle.rdl_layers.specs.Settings.{setting}
use Rattle.rdl_rules.specs.FieldRules.{at_node, bad_count_width, is_above, numbers, too_wide}
use Rattle.rdl_sound_laws.specs.Faultless.{IsFaultless}
use Rattle.rdl_sound_laws.proofs.Alone.{wide}
use Rattle.rdl_sound_laws.proofs.Fed.{none-both, when-none}
use Rattle.rdl_feeds.specs.Narrow.{AreNarrow}

below : (w k : ℕ) (m : Meaning) → m ≡ number k → bad_count_width w m ≡ false → w ≤ 64 → k < 256
below w k m is e l =
    let fine : ((k == 0) || nat_lt w k) ≡ false = ap (bad_count_width w) (sym is) ∙ e in
    let over : nat_lt w k ≡ false = (or-none (k == 0) (nat_lt w k) fine).1 in
    let within : k ≤ w = grind (arith, nat_tests) in
    omega (arith, within, l)

pub narrow : (all : List Lineage) (f : Instance) → IsFaultless all f → AreNarrow f
narrow all f h =
    let w = width_of f in
    let fits = (wide f h.width).1 in
    let none : too_wide f ≡ false = when-none (too_wide f) (at_ rules.F10 f.use_.name.place) (none-both _ (at_node rules.F10 f (too_wide f)) h.rules).1 in
    let counts = (or-none (list_any (λ p. is_above (2 ^ w) (setting f p)) numbers) (list_any (λ p. bad_count_width w (setting f p)) (prop.Incrwidth ∷ prop.Decrwidth ∷ [])) none).1 in
    let up = or-none (bad_count_width w (setting f prop.Incrwidth)) (bad_count_width w (setting f prop.Decrwidth) || false) counts in
    let down = or-none (bad_count_width w (setting f prop.Decrwidth)) false up.1 in
    record {
      up = λ k is. below w k (setting f prop.Incrwidth) is up.0 fits;
      down = λ k is. below w k (setting f prop.Decrwidth) is down.0 fits;
    }
