-- In a well-formed tree no bit number is capped.
use Rattle.std.specs.List.{list_all}
use Rattle.std.specs.Str.{bytes_eq}
use Rattle.std.proofs.Common.{◌≡◌, ℕ, ◌+◌, ◌-◌, ◌<◌, ◌≤◌, ◌==◌, min, Bool, true, false, ◌&&◌, nat_le, nat_lt, if◌then◌else◌, List, [], ◌∷◌, ◌++◌, map, refl, ap, sym, ◌∙◌, arith}
use Rattle.std.proofs.Math.Nat.{min-eq_left}
use Rattle.std.proofs.lemmas.Bool.Decides.{nat_tests}
use Rattle.rb_base.specs.declared.ports.Pin.{Pin}
use Rattle.rb_base.specs.declared.ports.Port.{Port}
use Rattle.v_design.specs.declared.design.Decl.{Decl}
use Rattle.v_design.specs.declared.design.Stmt.{Stmt}
use Rattle.v_design.specs.Expr.{Expr, Exprs, Net, Bits, Const, Cat, One, Two, Pick, none, more, Widths, width_of, width_of_all, is_sized, are_sized}
use Rattle.v_design.specs.Tree.{Tree, Statement, Assign, Clocked, Resettable, is_width, port_widths, decl_widths}
use Rattle.v_design.specs.Design.{Step, module_of, widths, width_among, port_pin, decl_pin, expr_of, step_of}
use Rattle.v_design.specs.WellFormed.{IsWellFormed, fits_well, expr, target, resets_to_width}
use Rattle.v_design.specs.Seen.{step_seen}
use Rattle.v_design.proofs.Tests.{and-left, and-right}
use Rattle.v_syntax.specs.Syntax.{capped, capped_all, capped_step, IsShaped, IsStatement, AreStatements}
use Rattle.v_syntax.specs.declared.parsed.Event.{Event}

abbrev are_narrow : List Pin → Bool
are_narrow ps = list_all (λ p. is_width p.width) ps

either : (b : Bool) (x y : ℕ) → x ≤ 128 → y ≤ 128 → (if b then x else y) ≤ 128
either true x y p q = p
either false x y p q = q

narrow : (w : ℕ) → is_width w ≡ true → w ≤ 128
narrow w h = let f : nat_le w 128 ≡ true = and-right (nat_le 1 w) (nat_le w 128) h in grind (arith, nat_tests, f)

narrow_among : (ps : List Pin) (n : List ℕ) → are_narrow ps ≡ true → width_among ps n ≤ 128
narrow_among [] n h = omega arith
narrow_among (p ∷ ps) n h = either (bytes_eq p.name n) p.width (width_among ps n) (narrow p.width (and-left (is_width p.width) (are_narrow ps) h)) (narrow_among ps n (and-right (is_width p.width) (are_narrow ps) h))

decls_narrow : (ds : List Decl) → decl_widths ds ≡ true → are_narrow (map decl_pin ds) ≡ true
decls_narrow [] h = refl
decls_narrow (d ∷ ds) h = rw (and-left (is_width d.width) (decl_widths ds) h) (decls_narrow ds (and-right (is_width d.width) (decl_widths ds) h))

all_narrow : (ps : List Port) (ds : List Decl) → port_widths ps ≡ true → decl_widths ds ≡ true → are_narrow (map port_pin ps ++ map decl_pin ds) ≡ true
all_narrow [] ds h k = decls_narrow ds k
all_narrow (p ∷ ps) ds h k = rw (and-left (is_width p.width) (port_widths ps) h) (all_narrow ps ds (and-right (is_width p.width) (port_widths ps) h) k)

-- no net is wider than 128 bits
pub widths_narrow : (t : Tree) → IsShaped t → (n : List ℕ) → widths (module_of t) n ≤ 128
widths_narrow t s n = narrow_among (map port_pin t.ports ++ map decl_pin t.decls) n (all_narrow t.ports t.decls (and-left (port_widths t.ports) (decl_widths t.decls) s.ranges) (and-right (port_widths t.ports) (decl_widths t.decls) s.ranges))

bits_uncapped : (n : List ℕ) (w hi lo : ℕ) → w ≤ 128 → (nat_le lo hi && nat_lt hi w && nat_lt 1 w) ≡ true → Bits n (min hi 255) (min lo 255) ≡ Bits n hi lo
bits_uncapped n w hi lo l h =
    let p : (nat_le lo hi && nat_lt hi w) ≡ true = and-left (nat_le lo hi && nat_lt hi w) (nat_lt 1 w) h in
    let f : nat_le lo hi ≡ true = and-left (nat_le lo hi) (nat_lt hi w) p in
    let g : nat_lt hi w ≡ true = and-right (nat_le lo hi) (nat_lt hi w) p in
    let a : lo ≤ hi = grind (arith, nat_tests, f) in
    let b : hi < w = grind (arith, nat_tests, g) in
    let x : min hi 255 ≡ hi = min-eq_left (omega arith) in
    let y : min lo 255 ≡ lo = min-eq_left (omega arith) in
    rw (x, y) refl

module _ (ws : Widths) (narrow_all : (n : List ℕ) → ws n ≤ 128) where
  mutual
    uncapped : (e : Expr) → is_sized ws e ≡ true → capped e ≡ e
    uncapped (Net n) h = refl
    uncapped (Bits n hi lo) h = bits_uncapped n (ws n) hi lo (narrow_all n) h
    uncapped (Const w v) h = refl
    uncapped (Cat es) h = ap Cat (all_uncapped es (and-left (are_sized ws es) (nat_le (width_of_all ws es) 128) h))
    uncapped (One op e) h = ap (One op) (uncapped e h)
    uncapped (Two op a b) h =
        let A = is_sized ws a in let B = is_sized ws b in let E = width_of ws a == width_of ws b in
        let x : capped a ≡ a = uncapped a (and-left A B (and-left (A && B) E h)) in
        let y : capped b ≡ b = uncapped b (and-right A B (and-left (A && B) E h)) in
        ap (λ z. Two op z (capped b)) x ∙ ap (Two op a) y
    uncapped (Pick c a b) h =
        let C = is_sized ws c in let A = is_sized ws a in let B = is_sized ws b in let O = width_of ws c == 1 in let E = width_of ws a == width_of ws b in
        let r : (C && A && B) ≡ true = and-left (C && A && B) O (and-left (C && A && B && O) E h) in
        let z : capped c ≡ c = uncapped c (and-left C A (and-left (C && A) B r)) in
        let x : capped a ≡ a = uncapped a (and-right C A (and-left (C && A) B r)) in
        let y : capped b ≡ b = uncapped b (and-right (C && A) B r) in
        ap (λ k. Pick k (capped a) (capped b)) z ∙ (ap (λ k. Pick c k (capped b)) x ∙ ap (Pick c a) y)

    all_uncapped : (es : Exprs) → are_sized ws es ≡ true → capped_all es ≡ es
    all_uncapped none h = refl
    all_uncapped (more e es) h =
        let x : capped e ≡ e = uncapped e (and-left (is_sized ws e) (are_sized ws es) h) in
        let y : capped_all es ≡ es = all_uncapped es (and-right (is_sized ws e) (are_sized ws es) h) in
        ap (λ z. more z (capped_all es)) x ∙ ap (more e) y

  sized : (s : Statement) → fits_well ws s ≡ true → is_sized ws (expr s) ≡ true
  sized s h =
      let S = is_sized ws (expr s) in let W = ws (target s) == width_of ws (expr s) in
      and-left S W (and-left (S && W) (resets_to_width (ws (target s)) s) h)

  abbrev with_expr : Step → Expr → Step
  with_expr x e = record { to = x.to; clocked = x.clocked; reset = x.reset; expr = e }

  step_uncapped : (s : Statement) → fits_well ws s ≡ true → capped_step (step_of s) ≡ step_of s
  step_uncapped (Assign to e) h = ap (with_expr (step_of (Assign to e))) (uncapped (expr_of e) (sized (Assign to e) h))
  step_uncapped (Clocked c to e) h = ap (with_expr (step_of (Clocked c to e))) (uncapped (expr_of e) (sized (Clocked c to e) h))
  step_uncapped (Resettable c low reset negated test to width value again e) h =
      ap (with_expr (step_of (Resettable c low reset negated test to width value again e))) (uncapped (expr_of e) (sized (Resettable c low reset negated test to width value again e) h))

  -- what statements of the program do is what those of the tree do
  pub steps_are : (ss : List Stmt) (es : List Event) (ts : List Statement) → AreStatements ss es ts → list_all (fits_well ws) ts ≡ true → map step_seen ss ≡ map step_of ts
  steps_are [] [] [] a h = refl
  steps_are (s ∷ ss) (e ∷ es) (t ∷ ts) a h =
      let x : step_seen s ≡ step_of t = a.0.does ∙ step_uncapped t (and-left (fits_well ws t) (list_all (fits_well ws) ts) h) in
      let y : map step_seen ss ≡ map step_of ts = steps_are ss es ts a.1 (and-right (fits_well ws t) (list_all (fits_well ws) ts) h) in
      ap (λ z. z ∷ map step_seen ss) x ∙ ap (λ z. step_of t ∷ z) y
  steps_are [] [] (t ∷ ts) a h = absurd a
  steps_are [] (e ∷ es) ts a h = absurd a
  steps_are (s ∷ ss) [] ts a h = absurd a
  steps_are (s ∷ ss) (e ∷ es) [] a h = absurd a
