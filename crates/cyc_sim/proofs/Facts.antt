-- What holds of an accepted module.
use Rattle.std.specs.List.{AllByRecursion, slice_get}
use Rattle.std.proofs.Common.{◌≡◌, ℕ, zero, suc, ◌<◌, ◌^◌, Bool, true, false, if◌then◌else◌, Option, Some, None, List, [], ◌∷◌, length, get_or, refl, ap, sym, subst, arith}
use Rattle.rb_base.specs.declared.ports.Pin.{Pin}
use Rattle.v_design.specs.Expr.{Values, width_of, is_sized}
use Rattle.v_design.specs.Tree.{Tree, IsTree}
use Rattle.v_design.specs.Design.{Module, Step, Reset, module_of, inputs, registers, widths}
use Rattle.v_design.specs.WellFormed.{IsWellFormed, nets}
use Rattle.v_design.specs.Run.{Edge, Run, values_at, under_reset, is_asserted}
use Rattle.v_design.specs.Fits.{FitsPins, ValuesFit}
use Rattle.v_design.specs.Constants.{ConstantsFit, ResetFits}
use Rattle.v_design.proofs.Constants.{StepFits, steps_fit}
use Rattle.v_design.proofs.Names.{each_two}
use Rattle.v_design.proofs.Nets.{inputs_wide, registers_wide}
use Rattle.v_design.proofs.Steps.{IsSound, ResetHasWidth, steps_sound}
use Rattle.v_design.proofs.HasRun.{has_run}
use Rattle.v_design.proofs.ValuesFit.{edge_fits}
use Rattle.cyc_sim.specs.Accepted.{IsAccepted}

-- what is used of a step
pub record IsSoundStep (m : Module) (s : Step) : Type 0 where
  pub sized : is_sized (widths m) s.expr ≡ true
  pub wide : widths m s.to ≡ width_of (widths m) s.expr
  pub constants : ConstantsFit s.expr
  pub reset_width : ResetHasWidth (widths m s.to) s.reset
  pub reset_fits : ResetFits s.reset

abbrev pub HasWidth : Module → Pin → Type 0
HasWidth m p = widths m p.name ≡ p.width

steps_of_tree : (bytes : List ℕ) (t : Tree) → IsTree bytes t → IsWellFormed t → AllByRecursion (IsSoundStep (module_of t)) (module_of t).steps
steps_of_tree bytes t tree f =
    each_two (IsSound (nets t) (widths (module_of t)) f.rank) StepFits (IsSoundStep (module_of t)) (module_of t).steps
    (λ s sound fits. record { sized = sound.sized; wide = sound.wide; constants = fits.0; reset_width = sound.constant; reset_fits = fits.1 }) (steps_sound t f) (steps_fit bytes t tree)

pub sound_steps : (m : Module) → IsAccepted m → AllByRecursion (IsSoundStep m) m.steps
sound_steps m a = let P : Module → Type 0 = λ k. AllByRecursion (IsSoundStep k) k.steps in subst P (sym a.is) (steps_of_tree a.bytes a.tree a.spelled a.formed)

pub wide_inputs : (m : Module) → IsAccepted m → AllByRecursion (HasWidth m) (inputs m)
wide_inputs m a = let P : Module → Type 0 = λ k. AllByRecursion (HasWidth k) (inputs k) in subst P (sym a.is) (inputs_wide a.tree a.formed)

pub wide_registers : (m : Module) → IsAccepted m → AllByRecursion (HasWidth m) (registers m)
wide_registers m a = let P : Module → Type 0 = λ k. AllByRecursion (HasWidth k) (registers k) in subst P (sym a.is) (registers_wide a.tree a.formed)

-- pins and their values
pub pins_fit : (v : Values) (ps : List Pin) → FitsPins ps (values_at v ps) → ValuesFit v ps
pins_fit v [] h = tt
pins_fit v (p ∷ ps) h = (h.0, pins_fit v ps h.1)

fits_pins : (v : Values) (ps : List Pin) → ValuesFit v ps → FitsPins ps (values_at v ps)
fits_pins v [] h = tt
fits_pins v (p ∷ ps) h = (h.0, fits_pins v ps h.1)

pub fits_length : (ps : List Pin) (xs : List ℕ) → FitsPins ps xs → length xs ≡ length ps
fits_length [] [] h = refl
fits_length [] (x ∷ xs) h = absurd h
fits_length (p ∷ ps) [] h = absurd h
fits_length (p ∷ ps) (x ∷ xs) h = ap suc (fits_length ps xs h.1)

-- an edge from contents that fit, for pins that fit
pub record HasEdge (m : Module) (contents : Values) (pins : List ℕ) : Type 0 where
  pub outs : List ℕ
  pub after : Values
  pub edge : Edge m contents pins outs after
  pub fits : FitsPins (registers m) (values_at after (registers m))

edge_of_tree : (bytes : List ℕ) (t : Tree) → IsTree bytes t → IsWellFormed t → (contents : Values) (pins : List ℕ) → FitsPins (inputs (module_of t)) pins
    → FitsPins (registers (module_of t)) (values_at contents (registers (module_of t))) → HasEdge (module_of t) contents pins
edge_of_tree bytes t tree f contents pins fits held = go run.0 run.1
  where
    run : (outputs : List (List ℕ)) × Run (module_of t) contents (pins ∷ []) outputs
    run = has_run t f contents (pins ∷ []) (fits, tt)

    go : (os : List (List ℕ)) → Run (module_of t) contents (pins ∷ []) os → HasEdge (module_of t) contents pins
    go [] r = absurd r
    go (o ∷ os) r = record {
      outs = o;
      after = r.0;
      edge = r.1;
      fits = fits_pins r.0 (registers (module_of t)) (edge_fits bytes t tree f contents r.0 pins o (pins_fit contents (registers (module_of t)) held) fits r.1).contents;
    }

pub edge_of : (m : Module) → IsAccepted m → (contents : Values) (pins : List ℕ) → FitsPins (inputs m) pins → FitsPins (registers m) (values_at contents (registers m)) → HasEdge m contents pins
edge_of m a =
    let P : Module → Type 0 = λ k. (contents : Values) (pins : List ℕ) → FitsPins (inputs k) pins → FitsPins (registers k) (values_at contents (registers k)) → HasEdge k contents pins in
    subst P (sym a.is) (edge_of_tree a.bytes a.tree a.spelled a.formed)

-- what a register has under its reset is within its width
pub reset_within : (v : Values) (w x : ℕ) (r : Option Reset) → ResetHasWidth w r → ResetFits r → x < 2 ^ w → under_reset v r x < 2 ^ w
reset_within v w x None h k p = p
reset_within v w x (Some r) h k p = go (is_asserted v r)
  where
    go : (b : Bool) → (if b then r.value else x) < 2 ^ w
    go true = subst (λ n. r.value < 2 ^ n) (sym h) k
    go false = p

-- what holds of each holds at a place
pub each_at : {A : Type 0} (P : A → Type 0) (xs : List A) (i : ℕ) (d : A) → AllByRecursion P xs → i < length xs → P (get_or xs i d)
each_at P [] i d h l = absurd (omega (arith, l))
each_at P (x ∷ xs) zero d h l = h.0
each_at P (x ∷ xs) (suc i) d h l = each_at P xs i d h.1 (omega (arith, l))

pub value_got : (v : Values) (ps : List Pin) (i : ℕ) (p : Pin) → slice_get ps i ≡ Some p → get_or (values_at v ps) i 0 ≡ v p.name
value_got v [] i p e = cc e
value_got v (q ∷ qs) zero p e = let same : q ≡ p = cc in ap (λ x. v x.name) same
value_got v (q ∷ qs) (suc i) p e = value_got v qs i p e
