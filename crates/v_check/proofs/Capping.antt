-- Widths of a module that was parsed, and of its tree.
use Rattle.std.specs.Str.{bytes_eq}
use Rattle.std.proofs.Common.{◌≡◌, ℕ, zero, suc, ◌+◌, ◌-◌, ◌<◌, ◌≤◌, min, nat_le, nat_lt, ◌==◌, if◌then◌else◌, Bool, true, false, ◌&&◌, Option, Some, List, [], ◌∷◌, ◌++◌, map, slice_get, refl, ap, sym, ◌∙◌, subst, arith}
use Rattle.std.proofs.lemmas.Bool.Decides.{nat_tests}
use Rattle.rb_base.specs.declared.ports.Port.{Port}
use Rattle.rb_base.specs.declared.place.Place.{Place}
use Rattle.rb_grammar.specs.Spelling.{At}
use Rattle.v_design.proofs.Tests.{and-left, and-right}
use Rattle.v_design.specs.Lexemes.{Token}
use Rattle.v_design.specs.Expr.{Expr, Exprs, Net, Bits, Const, Cat, One, Two, Pick, none, more, Widths, width_of, width_of_all, width_under, width_over, is_sized, are_sized}
use Rattle.v_design.specs.Tree.{Tree, Statement, Assign, Clocked, Resettable, port_widths, decl_widths, is_width}
use Rattle.v_design.specs.Design.{module_of, widths, width_among, port_pin, decl_pin, expr_of, step_of}
use Rattle.v_design.specs.Seen.{step_seen}
use Rattle.v_design.specs.WellFormed.{Net as specNet, nets, decl_net, fits_well}
use Rattle.v_design.specs.declared.design.Decl.{Decl}
use Rattle.v_design.specs.declared.design.Stmt.{Stmt}
use Rattle.v_syntax.specs.Syntax.{AreStatements, IsStatement, IsShaped, capped, capped_all, capped_step}
use Rattle.v_syntax.specs.declared.parsed.Event.{Event}
use Rattle.v_check.specs.Found.{Finds, Stands}
use Rattle.v_check.specs.Nets.{declared_nets, width_in}
use Rattle.v_check.specs.Sizes.{IsMisfit, step_fits}
use Rattle.v_check.proofs.Faults.{IsUnfit}
use Rattle.v_check.proofs.Finding.{finds_stands}
use Rattle.v_check.proofs.Looping.{statement-of}

-- the widths of nets are those of pins
decl-width : (ds : List Decl) (n : List ℕ) → width_in (map decl_net ds) n ≡ width_among (map decl_pin ds) n
decl-width [] n = refl
decl-width (d ∷ ds) n = ap (λ w. if bytes_eq d.name n then d.width else w) (decl-width ds n)

port-width : (ps : List Port) (ds : List Decl) (n : List ℕ) → width_in (declared_nets ps ds) n ≡ width_among (map port_pin ps ++ map decl_pin ds) n
port-width [] ds n = decl-width ds n
port-width (p ∷ ps) ds n = ap (λ w. if bytes_eq p.name n then p.width else w) (port-width ps ds n)

pub same-widths : (t : Tree) (ns : List specNet) → ns ≡ nets t → width_in ns ≡ widths (module_of t)
same-widths t ns is = λ i n. at n i
  where
    at : (n : List ℕ) → width_in ns n ≡ widths (module_of t) n
    at n = ap (λ ms. width_in ms n) is ∙ port-width t.ports t.decls n

-- no net is wider than 128 bits
most : (w : ℕ) → is_width w ≡ true → w ≤ 128
most w h = let l = and-right (nat_le 1 w) (nat_le w 128) h in grind (arith, nat_tests)

decls-narrow : (ds : List Decl) (n : List ℕ) → decl_widths ds ≡ true → width_among (map decl_pin ds) n ≤ 128
decls-narrow [] n h = omega arith
decls-narrow (d ∷ ds) n h = go (bytes_eq d.name n) (most d.width (and-left (is_width d.width) (decl_widths ds) h)) (decls-narrow ds n (and-right (is_width d.width) (decl_widths ds) h))
  where
    go : (b : Bool) → d.width ≤ 128 → width_among (map decl_pin ds) n ≤ 128 → (if b then d.width else width_among (map decl_pin ds) n) ≤ 128
    go true p q = p
    go false p q = q

ports-narrow : (ps : List Port) (ds : List Decl) (n : List ℕ) → port_widths ps ≡ true → decl_widths ds ≡ true → width_among (map port_pin ps ++ map decl_pin ds) n ≤ 128
ports-narrow [] ds n h k = decls-narrow ds n k
ports-narrow (p ∷ ps) ds n h k = go (bytes_eq p.name n) (most p.width (and-left (is_width p.width) (port_widths ps) h)) (ports-narrow ps ds n (and-right (is_width p.width) (port_widths ps) h) k)
  where
    go : (b : Bool) → p.width ≤ 128 → width_among (map port_pin ps ++ map decl_pin ds) n ≤ 128 → (if b then p.width else width_among (map port_pin ps ++ map decl_pin ds) n) ≤ 128
    go true x y = x
    go false x y = y

pub all-narrow : (t : Tree) → IsShaped t → (n : List ℕ) → widths (module_of t) n ≤ 128
all-narrow t shaped n = ports-narrow t.ports t.decls n (and-left (port_widths t.ports) (decl_widths t.decls) shaped.ranges) (and-right (port_widths t.ports) (decl_widths t.decls) shaped.ranges)

-- an expression whose bit numbers are capped has the width that it had
module _ (ws : Widths) (narrow : (n : List ℕ) → ws n ≤ 128) where
  abbrev Same : Expr → Type 0
  Same e = (is_sized ws (capped e) ≡ is_sized ws e) × (is_sized ws e ≡ true → width_of ws (capped e) ≡ width_of ws e)

  abbrev SameAll : Exprs → Type 0
  SameAll es = (are_sized ws (capped_all es) ≡ are_sized ws es) × (are_sized ws es ≡ true → width_of_all ws (capped_all es) ≡ width_of_all ws es)

  same_bits : (n : List ℕ) (hi lo : ℕ) → Same (Bits n hi lo)
  same_bits n hi lo = (sized (nat_lt hi (ws n)) refl, λ h. widths h)
    where
      low : nat_lt hi (ws n) ≡ true → hi < 128
      low h = let l = narrow n in let m : hi < ws n = grind (arith, nat_tests) in omega (arith, l, m)

      le_small : (a b : ℕ) → b < 128 → nat_le (min a 255) (min b 255) ≡ nat_le a b
      le_small a b l = by (nat_le a b) refl
        where
          by : (c : Bool) → nat_le a b ≡ c → nat_le (min a 255) (min b 255) ≡ c
          by true h = let m : a ≤ b = grind (arith, nat_tests) in let k : min a 255 ≤ min b 255 = omega (arith, m, l) in grind (arith, nat_tests)
          by false h = let m : b < a = grind (arith, nat_tests) in let k : min b 255 < min a 255 = omega (arith, m, l) in grind (arith, nat_tests)

      sized : (c : Bool) → nat_lt hi (ws n) ≡ c → (nat_le (min lo 255) (min hi 255) && nat_lt (min hi 255) (ws n) && nat_lt 1 (ws n)) ≡ (nat_le lo hi && nat_lt hi (ws n) && nat_lt 1 (ws n))
      sized true h =
          let l = low h in
          let m : min hi 255 ≡ hi = omega (arith, l) in
          rw (le_small lo hi l) (ap (λ x. nat_le lo hi && nat_lt x (ws n) && nat_lt 1 (ws n)) m)
      sized false h =
          let k : nat_lt (min hi 255) (ws n) ≡ false = past h in
          rw (h, k) (no-middle (nat_le (min lo 255) (min hi 255)) (nat_lt 1 (ws n)) ∙ sym (no-middle (nat_le lo hi) (nat_lt 1 (ws n))))
        where
          past : nat_lt hi (ws n) ≡ false → nat_lt (min hi 255) (ws n) ≡ false
          past h = let l = narrow n in let m : ws n ≤ hi = grind (arith, nat_tests) in let k : ws n ≤ min hi 255 = omega (arith, l, m) in grind (arith, nat_tests)

          no-middle : (a b : Bool) → (a && false && b) ≡ false
          no-middle true b = refl
          no-middle false b = refl

      widths : (nat_le lo hi && nat_lt hi (ws n) && nat_lt 1 (ws n)) ≡ true → min hi 255 - min lo 255 + 1 ≡ hi - lo + 1
      widths h =
          let two = and-left (nat_le lo hi && nat_lt hi (ws n)) (nat_lt 1 (ws n)) h in
          let l = low (and-right (nat_le lo hi) (nat_lt hi (ws n)) two) in
          let test = and-left (nat_le lo hi) (nat_lt hi (ws n)) two in
          let m : lo ≤ hi = grind (arith, nat_tests) in
          omega (arith, l, m)

  two-same : (a a' b b' : Bool) (x x' y y' : ℕ) → a' ≡ a → b' ≡ b → (a ≡ true → x' ≡ x) → (b ≡ true → y' ≡ y) → (a' && b' && x' == y') ≡ (a && b && x == y)
  two-same true a' true b' x x' y y' p q f g = rw (p, q, f refl, g refl) refl
  two-same true a' false b' x x' y y' p q f g = rw (p, q) refl
  two-same false a' b b' x x' y y' p q f g = rw p refl

  cat-same : (a a' : Bool) (x x' : ℕ) → a' ≡ a → (a ≡ true → x' ≡ x) → (a' && nat_le x' 128) ≡ (a && nat_le x 128)
  cat-same true a' x x' p f = rw (p, f refl) refl
  cat-same false a' x x' p f = rw p refl

  pick-same : (c c' a a' b b' : Bool) (z z' x x' y y' : ℕ) → c' ≡ c → a' ≡ a → b' ≡ b → (c ≡ true → z' ≡ z) → (a ≡ true → x' ≡ x) → (b ≡ true → y' ≡ y)
      → (c' && a' && b' && z' == 1 && x' == y') ≡ (c && a && b && z == 1 && x == y)
  pick-same true c' true a' true b' z z' x x' y y' o p q e f g = rw (o, p, q, e refl, f refl, g refl) refl
  pick-same true c' true a' false b' z z' x x' y y' o p q e f g = rw (o, p, q) refl
  pick-same true c' false a' b b' z z' x x' y y' o p q e f g = rw (o, p) refl
  pick-same false c' a a' b b' z z' x x' y y' o p q e f g = rw o refl

  mutual
    same_size : (e : Expr) → Same e
    same_size (Net n) = (refl, λ h. refl)
    same_size (Bits n hi lo) = same_bits n hi lo
    same_size (Const w v) = (refl, λ h. refl)
    same_size (Cat es) =
        let s = same_sizes es in (
          cat-same (are_sized ws es) (are_sized ws (capped_all es)) (width_of_all ws es) (width_of_all ws (capped_all es)) s.0 s.1,
          λ h. s.1 (and-left (are_sized ws es) (nat_le (width_of_all ws es) 128) h),
        )
    same_size (One op e) = let s = same_size e in (s.0, λ h. ap (width_under op) (s.1 h))
    same_size (Two op a b) =
        let s = same_size a in let r = same_size b in (
          two-same (is_sized ws a) (is_sized ws (capped a)) (is_sized ws b) (is_sized ws (capped b)) (width_of ws a) (width_of ws (capped a)) (width_of ws b) (width_of ws (capped b)) s.0 r.0 s.1 r.1,
          λ h. ap (width_over op) (s.1 (and-left (is_sized ws a) (is_sized ws b) (and-left (is_sized ws a && is_sized ws b) (width_of ws a == width_of ws b) h))),
        )
    same_size (Pick c a b) =
        let q = same_size c in let s = same_size a in let r = same_size b in (
          pick-same (is_sized ws c) (is_sized ws (capped c)) (is_sized ws a) (is_sized ws (capped a)) (is_sized ws b) (is_sized ws (capped b))
              (width_of ws c) (width_of ws (capped c)) (width_of ws a) (width_of ws (capped a)) (width_of ws b) (width_of ws (capped b)) q.0 s.0 r.0 q.1 s.1 r.1,
          λ h. s.1 (and-right (is_sized ws c) (is_sized ws a) (and-left (is_sized ws c && is_sized ws a) (is_sized ws b)
              (and-left (is_sized ws c && is_sized ws a && is_sized ws b) (width_of ws c == 1) (and-left (is_sized ws c && is_sized ws a && is_sized ws b && width_of ws c == 1) (width_of ws a == width_of ws b) h)))),
        )

    same_sizes : (es : Exprs) → SameAll es
    same_sizes none = (refl, λ h. refl)
    same_sizes (more e es) =
        let s = same_size e in let r = same_sizes es in
        (rw (s.0, r.0) refl, λ h. rw (s.1 (and-left (is_sized ws e) (are_sized ws es) h), r.1 (and-right (is_sized ws e) (are_sized ws es) h)) refl)

  three-same : (a a' : Bool) (x x' w : ℕ) (r : Bool) → a' ≡ a → (a ≡ true → x' ≡ x) → (a' && w == x' && r) ≡ (a && w == x && r)
  three-same true a' x x' w r p f = rw (p, f refl) refl
  three-same false a' x x' w r p f = rw p refl

  -- a statement fits as its step does
  step-fits : (s : Statement) → step_fits ws (capped_step (step_of s)) ≡ fits_well ws s
  step-fits (Assign to e) = let s = same_size (expr_of e) in three-same (is_sized ws (expr_of e)) (is_sized ws (capped (expr_of e))) (width_of ws (expr_of e)) (width_of ws (capped (expr_of e))) (ws to) true s.0 s.1
  step-fits (Clocked c to e) = let s = same_size (expr_of e) in three-same (is_sized ws (expr_of e)) (is_sized ws (capped (expr_of e))) (width_of ws (expr_of e)) (width_of ws (capped (expr_of e))) (ws to) true s.0 s.1
  step-fits (Resettable c low reset negated test to width value again e) =
      let s = same_size (expr_of e) in three-same (is_sized ws (expr_of e)) (is_sized ws (capped (expr_of e))) (width_of ws (expr_of e)) (width_of ws (capped (expr_of e))) (ws to) (ws to == width) s.0 s.1

  pub statement-fits : (x : Stmt) (v : Event) (s : Statement) → IsStatement x v s → step_fits ws (step_seen x) ≡ fits_well ws s
  statement-fits x v s h = ap (step_fits ws) h.does ∙ step-fits s

-- the statement of the tree of a number
pub tree-statement : (xs : List Stmt) (es : List Event) (ts : List Statement) (i : ℕ) (x : Stmt) → AreStatements xs es ts → slice_get xs i ≡ Some x → (e : Event) × (t : Statement) × (slice_get ts i ≡ Some t) × IsStatement x e t
tree-statement [] es ts i x h at = cc at
tree-statement (y ∷ ys) [] ts i x h at = absurd h
tree-statement (y ∷ ys) (e ∷ es) [] i x h at = absurd h
tree-statement (y ∷ ys) (e ∷ es) (t ∷ ts) zero x h at = let f : y ≡ x = cc in (e, t, refl, subst (λ z. IsStatement z e t) f h.0)
tree-statement (y ∷ ys) (e ∷ es) (t ∷ ts) (suc i) x h at = tree-statement ys es ts i x h.1 at

-- what does not fit in the program is what does not fit in the tree
pub unfit-found : (t : Tree) (ts : List (At Token)) (ws : Widths) (stmts : List Stmt) (events : List Event) (places : List ℕ) (r : Option Place) → AreStatements stmts events t.stmts → ws ≡ widths (module_of t)
    → ((n : List ℕ) → widths (module_of t) n ≤ 128) → Finds (Stands (IsMisfit (ws) stmts) places) r → Finds (Stands (IsUnfit t ts) places) r
unfit-found t ts ws stmts events places r are same narrow h =
    finds_stands (IsMisfit (widths (module_of t)) stmts) (IsUnfit t ts) places r there back (subst (λ us. Finds (Stands (IsMisfit us stmts) places) r) same h)
  where
    there : (i : ℕ) → IsMisfit (widths (module_of t)) stmts i → IsUnfit t ts i
    there i (x, at, wrong) = let (e, s, here, is) = tree-statement stmts events t.stmts i x are at in (s, here, sym (statement-fits (widths (module_of t)) narrow x e s is) ∙ wrong)

    back : (i : ℕ) → IsUnfit t ts i → IsMisfit (widths (module_of t)) stmts i
    back i (s, at, wrong) = let (x, e, here, is) = statement-of stmts events t.stmts i s are at in (x, here, statement-fits (widths (module_of t)) narrow x e s is ∙ wrong)
