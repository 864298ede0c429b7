-- In a well-formed module values stay within their widths.
use Rattle.std.specs.Bool.{OnTrue}
use Rattle.std.specs.List.{AllByRecursion}
use Rattle.std.specs.Str.{bytes_eq}
use Rattle.std.specs.Prelude.{nat_lt, nat_le, count_ones}
use Rattle.std.proofs.Common.{◌≡◌, ℕ, ◌+◌, ◌*◌, ◌-◌, ◌/◌, ◌%◌, ◌^◌, ◌<◌, ◌==◌, Bool, true, false, not, ◌&&◌, if◌then◌else◌, Option, Some, None, List, [], ◌∷◌, ◌++◌, map, refl, sym, ◌∙◌, subst, arith, bit_and, bit_or, bit_xor}
use Rattle.std.proofs.Math.Nat.{mod-eq_of_lt}
use Rattle.std.proofs.lemmas.Nat.{mod_below, and_mod, or_mod, xor_mod, pow_pos, pow-add}
use Rattle.std.proofs.lemmas.Map.Views.{exact_unsigned_eq}
use Rattle.rb_base.specs.declared.ports.Pin.{Pin}
use Rattle.v_design.specs.declared.design.VOne.{VOne}
use Rattle.v_design.specs.declared.design.VOne.TheVariants.{Not, All, Any, Odd}
use Rattle.v_design.specs.declared.design.VTwo.{VTwo}
use Rattle.v_design.specs.declared.design.VTwo.TheVariants.{Add, Sub, And, Or, Xor, Eq, Ne, Lt, Le, Gt, Ge}
use Rattle.v_design.specs.Lexemes.{among}
use Rattle.v_design.specs.Expr.{Expr, Exprs, Net, Bits, Const, Cat, One, Two, Pick, none, more, Widths, Values, bit_of, width_of, width_of_all, width_under, width_over, is_sized, are_sized, value_of, value_of_all, value_under, value_over, nets_of, nets_of_each}
use Rattle.v_design.specs.Tree.{Tree, IsTree}
use Rattle.v_design.specs.Design.{Step, Reset, module_of, widths, inputs, outputs, registers, decl_pin}
use Rattle.v_design.specs.WellFormed.{IsWellFormed, Given, Kept, nets, has, clock, Wired}
use Rattle.v_design.specs.Run.{under_reset, is_asserted, step_value, next_value, IsSettled, Moves, values_at, Edge, Run}
use Rattle.v_design.specs.Fits.{FitsPins, AllFit, ValuesFit, ContentsFit, EdgeFits, valued_nets}
use Rattle.v_design.proofs.Tests.{and-left, and-right}
use Rattle.v_design.proofs.Names.{at_name, each_one, each_two, each_three, each_left, each_right, each_append}
use Rattle.v_design.proofs.Nets.{given_input, inputs_wide, outputs_wide, decls_wide, registers_wide, kept_register, registers_kept, has_one}
use Rattle.v_design.proofs.Steps.{IsSound, ResetHasWidth, steps_sound, tos, outputs_driven, holds_at_target, holds_at_read, decls_driven, registers_driven}
use Rattle.v_design.specs.Constants.{ConstantsFit, EachConstantFits, ResetFits}
use Rattle.v_design.proofs.Constants.{StepFits, steps_fit}

one_bit : (b : Bool) → bit_of b < 2 ^ 1
one_bit true = omega arith
one_bit false = omega arith

two_mod : (n : ℕ) → n % 2 < 2 ^ 1
two_mod n = omega arith

less_of : (a b x y : ℕ) → a < x → b < y → a * y + b < x * y
less_of a b x y p q = grind arith

and_fits : (a b w : ℕ) → a < 2 ^ w → b < 2 ^ w → bit_and a b < 2 ^ w
and_fits a b w p q = subst (λ n. n < 2 ^ w) (and_mod a b w ∙ rw (mod-eq_of_lt p, mod-eq_of_lt q) refl) (mod_below (bit_and a b) (2 ^ w) (pow_pos w))

or_fits : (a b w : ℕ) → a < 2 ^ w → b < 2 ^ w → bit_or a b < 2 ^ w
or_fits a b w p q = subst (λ n. n < 2 ^ w) (or_mod a b w ∙ rw (mod-eq_of_lt p, mod-eq_of_lt q) refl) (mod_below (bit_or a b) (2 ^ w) (pow_pos w))

xor_fits : (a b w : ℕ) → a < 2 ^ w → b < 2 ^ w → bit_xor a b < 2 ^ w
xor_fits a b w p q = subst (λ n. n < 2 ^ w) (xor_mod a b w ∙ rw (mod-eq_of_lt p, mod-eq_of_lt q) refl) (mod_below (bit_xor a b) (2 ^ w) (pow_pos w))

not_fits : (a w : ℕ) → 2 ^ w - 1 - a < 2 ^ w
not_fits a w = let p : 0 < 2 ^ w = pow_pos w in omega arith

either_fits : (c : Bool) (x y m : ℕ) → x < m → y < m → (if c then x else y) < m
either_fits true x y m p q = p
either_fits false x y m p q = q

under_fits : (op : VOne) (w a : ℕ) → value_under op w a < 2 ^ width_under op w
under_fits Not w a = not_fits a w
under_fits All w a = one_bit (a == 2 ^ w - 1)
under_fits Any w a = one_bit (nat_lt 0 a)
under_fits Odd w a = two_mod (count_ones a)

over_fits : (op : VTwo) (w a b : ℕ) → a < 2 ^ w → b < 2 ^ w → value_over op w a b < 2 ^ width_over op w
over_fits Add w a b p q = mod_below (a + b) (2 ^ w) (pow_pos w)
over_fits Sub w a b p q = mod_below (a + 2 ^ w - b) (2 ^ w) (pow_pos w)
over_fits And w a b p q = and_fits a b w p q
over_fits Or w a b p q = or_fits a b w p q
over_fits Xor w a b p q = xor_fits a b w p q
over_fits Eq w a b p q = one_bit (a == b)
over_fits Ne w a b p q = one_bit (not (a == b))
over_fits Lt w a b p q = one_bit (nat_lt a b)
over_fits Le w a b p q = one_bit (nat_le a b)
over_fits Gt w a b p q = one_bit (nat_lt b a)
over_fits Ge w a b p q = one_bit (nat_le b a)

module _ (ws : Widths) (v : Values) where
  abbrev FitsAt : List ℕ → Type 0
  FitsAt n = v n < 2 ^ ws n

  mutual
    -- the value of an expression is below 2 to its width, where the values of its nets and its constants are
    pub value_fits : (e : Expr) → is_sized ws e ≡ true → ConstantsFit e → AllByRecursion FitsAt (nets_of e) → value_of ws v e < 2 ^ width_of ws e
    value_fits (Net n) s c h = h.0
    value_fits (Bits n hi lo) s c h = mod_below (v n / 2 ^ lo) (2 ^ (hi - lo + 1)) (pow_pos (hi - lo + 1))
    value_fits (Const w x) s c h = c.1
    value_fits (Cat es) s c h = values_fit_all es (and-left (are_sized ws es) (nat_le (width_of_all ws es) 128) s) c h
    value_fits (One op e) s c h = under_fits op (width_of ws e) (value_of ws v e)
    value_fits (Two op a b) s c h =
        let A = is_sized ws a in let B = is_sized ws b in let E = width_of ws a == width_of ws b in
        let e : width_of ws a ≡ width_of ws b = exact_unsigned_eq (width_of ws a) (width_of ws b) (and-right (A && B) E s) in
        over_fits op (width_of ws a) (value_of ws v a) (value_of ws v b)
        (value_fits a (and-left A B (and-left (A && B) E s)) c.0 (each_left FitsAt (nets_of a) (nets_of b) h))
        (rw e (value_fits b (and-right A B (and-left (A && B) E s)) c.1 (each_right FitsAt (nets_of a) (nets_of b) h)))
    value_fits (Pick x a b) s c h =
        let X = is_sized ws x in let A = is_sized ws a in let B = is_sized ws b in let O = width_of ws x == 1 in let E = width_of ws a == width_of ws b in
        let e : width_of ws a ≡ width_of ws b = exact_unsigned_eq (width_of ws a) (width_of ws b) (and-right (X && A && B && O) E s) in
        let r : (X && A && B) ≡ true = and-left (X && A && B) O (and-left (X && A && B && O) E s) in
        let n = each_right FitsAt (nets_of x) (nets_of a ++ nets_of b) h in
        either_fits (value_of ws v x == 0) (value_of ws v b) (value_of ws v a) (2 ^ width_of ws a)
        (rw e (value_fits b (and-right (X && A) B r) c.2 (each_right FitsAt (nets_of a) (nets_of b) n)))
        (value_fits a (and-right X A (and-left (X && A) B r)) c.1 (each_left FitsAt (nets_of a) (nets_of b) n))

    values_fit_all : (es : Exprs) → are_sized ws es ≡ true → EachConstantFits es → AllByRecursion FitsAt (nets_of_each es) → value_of_all ws v es < 2 ^ width_of_all ws es
    values_fit_all none s c h = omega arith
    values_fit_all (more e es) s c h =
        let p = value_fits e (and-left (is_sized ws e) (are_sized ws es) s) c.0 (each_left FitsAt (nets_of e) (nets_of_each es) h) in
        let q = values_fit_all es (and-right (is_sized ws e) (are_sized ws es) s) c.1 (each_right FitsAt (nets_of e) (nets_of_each es) h) in
        rw (pow-add 2 (width_of ws e) (width_of_all ws es)) (less_of (value_of ws v e) (value_of_all ws v es) (2 ^ width_of ws e) (2 ^ width_of_all ws es) p q)

reset_fits : (v : Values) (w x : ℕ) (r : Option Reset) → ResetHasWidth w r → ResetFits r → x < 2 ^ w → under_reset v r x < 2 ^ w
reset_fits v w x None h k p = p
reset_fits v w x (Some r) h k p = either_fits (is_asserted v r) r.value x (2 ^ w) (rw h k) p

-- pins and their values
fits_pins : (v : Values) (ps : List Pin) → ValuesFit v ps → FitsPins ps (values_at v ps)
fits_pins v [] h = tt
fits_pins v (p ∷ ps) h = (h.0, fits_pins v ps h.1)

pins_fit : (v : Values) (ps : List Pin) → FitsPins ps (values_at v ps) → ValuesFit v ps
pins_fit v [] h = tt
pins_fit v (p ∷ ps) h = (h.0, pins_fit v ps h.1)

-- widths by name and as declared
by_width : (ws : Widths) (v : Values) (ps : List Pin) → AllByRecursion (λ p. ws p.name ≡ p.width) ps → ValuesFit v ps → AllByRecursion (λ p. v p.name < 2 ^ ws p.name) ps
by_width ws v ps = each_two (λ p. ws p.name ≡ p.width) (λ p. v p.name < 2 ^ p.width) (λ p. v p.name < 2 ^ ws p.name) ps (λ p e h. subst (λ x. v p.name < 2 ^ x) (sym e) h)

as_declared : (ws : Widths) (v : Values) (ps : List Pin) → AllByRecursion (λ p. ws p.name ≡ p.width) ps → AllByRecursion (λ p. v p.name < 2 ^ ws p.name) ps → ValuesFit v ps
as_declared ws v ps = each_two (λ p. ws p.name ≡ p.width) (λ p. v p.name < 2 ^ ws p.name) (λ p. v p.name < 2 ^ p.width) ps (λ p e h. subst (λ x. v p.name < 2 ^ x) e h)

module _ (bytes : List ℕ) (t : Tree) (tree : IsTree bytes t) (f : IsWellFormed t) (contents v : Values)
    (within : ContentsFit (module_of t) contents) (given : ValuesFit v (inputs (module_of t)))
    (settled : IsSettled (widths (module_of t)) contents v (module_of t).steps) where
  abbrev ws : Widths
  ws = widths (module_of t)

  abbrev steps : List Step
  steps = (module_of t).steps

  abbrev Sound : Step → Type 0
  Sound s = IsSound (nets t) ws f.rank s

  abbrev Small : List ℕ → Type 0
  Small n = v n < 2 ^ ws n

  inputs_small : (n : List ℕ) → has (nets t) Given n ≡ true → bytes_eq n clock ≡ false → Small n
  inputs_small n g other = at_name (λ p. p.name) Small (inputs (module_of t)) (by_width ws v (inputs (module_of t)) (inputs_wide t f) given) n (given_input t f n g other)

  abbrev Acts : Step → Type 0
  Acts s = (s.clocked ≡ false → AllByRecursion Small (nets_of s.expr)) → Small s.to

  step_fits : (s : Step) → Sound s → StepFits s → v s.to ≡ step_value ws contents v s → Acts s
  step_fits s sound k e reads = subst (λ x. x < 2 ^ ws s.to) (sym e) (go s.clocked refl)
    where
      held : has (nets t) Kept s.to ≡ true → contents s.to < 2 ^ ws s.to
      held h = at_name (λ p. p.name) (λ n. contents n < 2 ^ ws n) (registers (module_of t)) (by_width ws contents (registers (module_of t)) (registers_wide t f) within) s.to (kept_register t s.to h)

      go : (b : Bool) → s.clocked ≡ b → (if b then under_reset v s.reset (contents s.to) else value_of ws v s.expr) < 2 ^ ws s.to
      go true c = reset_fits v (ws s.to) (contents s.to) s.reset sound.constant k.1 (held (sound.kept c))
      go false c = subst (λ w. value_of ws v s.expr < 2 ^ w) (sym sound.wide) (value_fits ws v s.expr sound.sized k.0 (reads c))

  acts : AllByRecursion Acts steps
  acts = each_three Sound StepFits (λ s. v s.to ≡ step_value ws contents v s) Acts steps step_fits (steps_sound t f) (steps_fit bytes t tree) settled

  -- the values of what is driven
  driven_fit : (ps : List Pin) → AllByRecursion (λ p. ws p.name ≡ p.width) ps → AllByRecursion (λ p. among (tos steps) p.name ≡ true) ps → ValuesFit v ps
  driven_fit ps wide driven = as_declared ws v ps wide (each_one (λ p. among (tos steps) p.name ≡ true) (λ p. v p.name < 2 ^ ws p.name) ps (λ p h. holds_at_target t f Small inputs_small acts p.name h) driven)

  outputs_fit : ValuesFit v (outputs (module_of t))
  outputs_fit = driven_fit (outputs (module_of t)) (outputs_wide t f) (outputs_driven t f)

  nets_fit : ValuesFit v (valued_nets (module_of t))
  nets_fit = each_append (λ p. v p.name < 2 ^ p.width) (inputs (module_of t) ++ outputs (module_of t)) (map decl_pin t.decls)
      (each_append (λ p. v p.name < 2 ^ p.width) (inputs (module_of t)) (outputs (module_of t)) given outputs_fit)
      (driven_fit (map decl_pin t.decls) (decls_wide t f) (decls_driven t f))

  -- what a register takes at the edge
  abbrev Takes : Values → Step → Type 0
  Takes after s = has (nets t) Kept s.to ≡ true → after s.to < 2 ^ ws s.to

  step_takes : (after : Values) (s : Step) → Sound s → StepFits s → OnTrue s.clocked (after s.to ≡ next_value ws v s) → Takes after s
  step_takes after s sound k m h = go s.clocked refl m
    where
      next : next_value ws v s < 2 ^ ws s.to
      next = reset_fits v (ws s.to) (value_of ws v s.expr) s.reset sound.constant k.1
          (subst (λ w. value_of ws v s.expr < 2 ^ w) (sym sound.wide) (value_fits ws v s.expr sound.sized k.0 (holds_at_read t f Small inputs_small acts s sound)))

      go : (b : Bool) → s.clocked ≡ b → OnTrue b (after s.to ≡ next_value ws v s) → after s.to < 2 ^ ws s.to
      go true c m = subst (λ x. x < 2 ^ ws s.to) (sym m) next
      go false c m = absurd (let g : false ≡ true = has_one (nets t) Wired Kept s.to f.once (sound.wired c) h in cc)

  contents_fit : (after : Values) → Moves ws v after steps → ContentsFit (module_of t) after
  contents_fit after moved =
      let takes : AllByRecursion (Takes after) steps = each_three Sound StepFits (λ s. OnTrue s.clocked (after s.to ≡ next_value ws v s)) (Takes after) steps (step_takes after) (steps_sound t f) (steps_fit bytes t tree) moved in
      as_declared ws after (registers (module_of t)) (registers_wide t f)
      (each_two (λ p. has (nets t) Kept p.name ≡ true) (λ p. among (tos steps) p.name ≡ true) (λ p. after p.name < 2 ^ ws p.name) (registers (module_of t))
      (λ p k h. at_name (λ s. s.to) (λ n. has (nets t) Kept n ≡ true → after n < 2 ^ ws n) steps takes p.name h k) (registers_kept t) (registers_driven t f))

-- At an edge of a well-formed module all values stay within their widths.
pub edge_fits : (bytes : List ℕ) (t : Tree) → IsTree bytes t → IsWellFormed t → (contents after : Values) (ins outs : List ℕ)
    → ContentsFit (module_of t) contents → FitsPins (inputs (module_of t)) ins → (e : Edge (module_of t) contents ins outs after) → EdgeFits (module_of t) e.values outs after
edge_fits bytes t tree f contents after ins outs within fits e =
    let given : ValuesFit e.values (inputs (module_of t)) = pins_fit e.values (inputs (module_of t)) (rw e.given fits) in
    record {
      values = nets_fit bytes t tree f contents e.values within given e.settled;
      outs_fit = rw (← e.seen) (fits_pins e.values (outputs (module_of t)) (outputs_fit bytes t tree f contents e.values within given e.settled));
      contents = contents_fit bytes t tree f contents e.values within given e.settled after e.moved;
    }

-- So do the outputs of a whole run.
pub run_fits : (bytes : List ℕ) (t : Tree) → IsTree bytes t → IsWellFormed t → (contents : Values) (vectors results : List (List ℕ))
    → ContentsFit (module_of t) contents → AllFit (inputs (module_of t)) vectors → Run (module_of t) contents vectors results → AllFit (outputs (module_of t)) results
run_fits bytes t tree f contents [] [] within fits r = tt
run_fits bytes t tree f contents [] (o ∷ os) within fits r = absurd r
run_fits bytes t tree f contents (x ∷ xs) [] within fits r = absurd r
run_fits bytes t tree f contents (x ∷ xs) (o ∷ os) within fits r =
    let e = edge_fits bytes t tree f contents r.0 x o within fits.0 r.1 in
    (e.outs_fit, run_fits bytes t tree f r.0 xs os e.contents fits.1 r.2)
