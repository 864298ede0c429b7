-- What well-formedness says of the steps of a module, and induction along its assignments.
use Rattle.std.specs.List.{AllByRecursion, list_all}
use Rattle.std.specs.Bool.{beq}
use Rattle.std.specs.Str.{bytes_eq}
use Rattle.std.proofs.Common.{◌≡◌, ℕ, zero, suc, ◌<◌, ◌==◌, Bool, true, false, not, ◌&&◌, ◌||◌, if◌then◌else◌, Option, Some, None, List, [], ◌∷◌, ◌++◌, map, filter, refl, sym, subst, arith, inl, inr, ◌⊎◌}
use Rattle.std.proofs.lemmas.Map.Views.{exact_unsigned_eq}
use Rattle.v_design.specs.Lexemes.{among}
use Rattle.v_design.specs.Expr.{Widths, nets_of, width_of, is_sized}
use Rattle.v_design.specs.Tree.{Tree, Statement, Assign, Clocked, Resettable}
use Rattle.v_design.specs.Design.{Step, Reset, expr_of, step_of, module_of, widths, outputs, registers, is_output, is_input, port_pin, decl_pin}
use Rattle.v_design.specs.WellFormed.{IsWellFormed, Net, Given, Wired, Kept, port_kind, decl_kind, port_net, decl_net, nets, names, distinct, same_kind, has, clock, target, used, all_among, is_clock, is_reset, drives_well, fits_well, driven, AllBelow, RisesAlong, Rises}
use Rattle.rb_base.specs.declared.ports.Dir.{Dir}
use Rattle.rb_base.specs.declared.ports.Dir.TheVariants.{In, Out}
use Rattle.rb_base.specs.declared.ports.Port.{Port}
use Rattle.v_design.specs.declared.design.Decl.{Decl}
use Rattle.v_design.proofs.Tests.{and-left, and-right, same-true}
use Rattle.std.proofs.lemmas.Bool.{false≢true, or_cases}
use Rattle.v_design.proofs.Names.{or-left, or-right, both, or-false-left, or-false-right, not-flip, not-true-false, each_one, each_two, at_name, each_kept}
use Rattle.v_design.proofs.Nets.{has_one}

-- the nets that steps drive
abbrev pub tos : List Step → List (List ℕ)
tos ss = map (λ s. s.to) ss

-- a reset's input is an input other than the clock
abbrev pub ResetIsGiven : List Net → Option Reset → Type 0
ResetIsGiven ns None = Unit {0}
ResetIsGiven ns (Some r) = is_reset ns r.pin ≡ true

-- a reset's constant has this width
abbrev pub ResetHasWidth : ℕ → Option Reset → Type 0
ResetHasWidth w None = Unit {0}
ResetHasWidth w (Some r) = w ≡ r.width

-- what well-formedness says of a step: its net's kind, its reset, the nets that it reads, its widths, and the rank
pub record IsSound (ns : List Net) (ws : Widths) (rank : List ℕ → ℕ) (s : Step) : Type 0 where
  pub kept : s.clocked ≡ true → has ns Kept s.to ≡ true
  pub wired : s.clocked ≡ false → has ns Wired s.to ≡ true
  pub reset : ResetIsGiven ns s.reset
  pub unread : among (nets_of s.expr) clock ≡ false
  pub read : all_among (names ns) (nets_of s.expr) ≡ true
  pub sized : is_sized ws s.expr ≡ true
  pub wide : ws s.to ≡ width_of ws s.expr
  pub constant : ResetHasWidth (ws s.to) s.reset
  pub rises : s.clocked ≡ false → AllBelow rank (nets_of s.expr) (rank s.to)

module _ (ns : List Net) (ws : Widths) (rank : List ℕ → ℕ) where
  sound_one : (s : Statement) → all_among (names ns) (used s) ≡ true → drives_well ns s ≡ true → fits_well ws s ≡ true → RisesAlong rank s → IsSound ns ws rank (step_of s)
  sound_one (Assign to e) u d f r = let A = among (names ns) in let es = nets_of (expr_of e) in
      let width : (ws to == width_of ws (expr_of e)) ≡ true = and-right (is_sized ws (expr_of e)) (ws to == width_of ws (expr_of e)) (and-left (is_sized ws (expr_of e) && ws to == width_of ws (expr_of e)) true f) in
      record {
        kept = λ h. absurd (false≢true h);
        wired = λ _. and-left (has ns Wired to) (not (among es clock)) d;
        reset = tt;
        unread = not-flip (among es clock) (and-right (has ns Wired to) (not (among es clock)) d);
        read = and-right (A to) (all_among (names ns) es) u;
        sized = and-left (is_sized ws (expr_of e)) (ws to == width_of ws (expr_of e)) (and-left (is_sized ws (expr_of e) && ws to == width_of ws (expr_of e)) true f);
        wide = exact_unsigned_eq (ws to) (width_of ws (expr_of e)) width;
        constant = tt;
        rises = λ _. r;
      }
  sound_one (Clocked cl to e) u d f r = let A = among (names ns) in let es = nets_of (expr_of e) in
      let width : (ws to == width_of ws (expr_of e)) ≡ true = and-right (is_sized ws (expr_of e)) (ws to == width_of ws (expr_of e)) (and-left (is_sized ws (expr_of e) && ws to == width_of ws (expr_of e)) true f) in
      record {
        kept = λ _. and-left (has ns Kept to) (is_clock ns cl) (and-left (has ns Kept to && is_clock ns cl) (not (among es clock)) d);
        wired = λ h. absurd (false≢true (sym h));
        reset = tt;
        unread = not-flip (among es clock) (and-right (has ns Kept to && is_clock ns cl) (not (among es clock)) d);
        read = and-right (A to) (all_among (names ns) es) (and-right (A cl) (A to && all_among (names ns) es) u);
        sized = and-left (is_sized ws (expr_of e)) (ws to == width_of ws (expr_of e)) (and-left (is_sized ws (expr_of e) && ws to == width_of ws (expr_of e)) true f);
        wide = exact_unsigned_eq (ws to) (width_of ws (expr_of e)) width;
        constant = tt;
        rises = λ h. absurd (false≢true (sym h));
      }
  sound_one (Resettable cl low reset negated test to width value again e) u d f r = let A = among (names ns) in let es = nets_of (expr_of e) in
      let S = is_sized ws (expr_of e) in let W = ws to == width_of ws (expr_of e) in
      let K = has ns Kept to in let C = is_clock ns cl in let R = is_reset ns reset in
      let kinds : (K && C && R && bytes_eq test reset && beq negated low && bytes_eq again to) ≡ true
      = and-left (K && C && R && bytes_eq test reset && beq negated low && bytes_eq again to) (not (among es clock)) d in
      let pins : (K && C && R) ≡ true
      = and-left (K && C && R) (bytes_eq test reset) (and-left (K && C && R && bytes_eq test reset) (beq negated low) (and-left (K && C && R && bytes_eq test reset && beq negated low) (bytes_eq again to) kinds)) in
      let u1 : (A reset && (A test && (A to && (A again && all_among (names ns) es)))) ≡ true = and-right (A cl) (A reset && (A test && (A to && (A again && all_among (names ns) es)))) u in
      let u2 : (A test && (A to && (A again && all_among (names ns) es))) ≡ true = and-right (A reset) (A test && (A to && (A again && all_among (names ns) es))) u1 in
      let u3 : (A to && (A again && all_among (names ns) es)) ≡ true = and-right (A test) (A to && (A again && all_among (names ns) es)) u2 in
      record {
        kept = λ _. and-left K C (and-left (K && C) R pins);
        wired = λ h. absurd (false≢true (sym h));
        reset = and-right (K && C) R pins;
        unread = not-flip (among es clock) (and-right (K && C && R && bytes_eq test reset && beq negated low && bytes_eq again to) (not (among es clock)) d);
        read = and-right (A again) (all_among (names ns) es) (and-right (A to) (A again && all_among (names ns) es) u3);
        sized = and-left S W (and-left (S && W) (ws to == width) f);
        wide = exact_unsigned_eq (ws to) (width_of ws (expr_of e)) (and-right S W (and-left (S && W) (ws to == width) f));
        constant = exact_unsigned_eq (ws to) width (and-right (S && W) (ws to == width) f);
        rises = λ h. absurd (false≢true (sym h));
      }

  sound_each : (ss : List Statement) → list_all (λ s. all_among (names ns) (used s)) ss ≡ true → list_all (drives_well ns) ss ≡ true → list_all (fits_well ws) ss ≡ true → Rises rank ss
      → AllByRecursion (IsSound ns ws rank) (map step_of ss)
  sound_each [] u d f r = tt
  sound_each (s ∷ ss) u d f r = (
    sound_one s (and-left (all_among (names ns) (used s)) (list_all (λ s. all_among (names ns) (used s)) ss) u) (and-left (drives_well ns s) (list_all (drives_well ns) ss) d)
        (and-left (fits_well ws s) (list_all (fits_well ws) ss) f) r.0,
    sound_each ss (and-right (all_among (names ns) (used s)) (list_all (λ s. all_among (names ns) (used s)) ss) u) (and-right (drives_well ns s) (list_all (drives_well ns) ss) d)
        (and-right (fits_well ws s) (list_all (fits_well ws) ss) f) r.1,
  )

-- each step of a well-formed module
pub steps_sound : (t : Tree) (f : IsWellFormed t) → AllByRecursion (IsSound (nets t) (widths (module_of t)) f.rank) (module_of t).steps
steps_sound t f = sound_each (nets t) (widths (module_of t)) f.rank t.stmts f.declared f.drives f.fits f.rises

tos_target : (ss : List Statement) → tos (map step_of ss) ≡ map target ss
tos_target [] = refl
tos_target (s ∷ ss) = rw (to_target s, tos_target ss) refl
  where
    to_target : (s : Statement) → (step_of s).to ≡ target s
    to_target (Assign to e) = refl
    to_target (Clocked cl to e) = refl
    to_target (Resettable cl low reset negated test to width value again e) = refl

-- no net has two drivers
pub steps_distinct : (t : Tree) (f : IsWellFormed t) → distinct (tos (module_of t).steps) ≡ true
steps_distinct t f = rw (tos_target t.stmts) f.single

-- a net that is no input has a driver
driven_in : (ds : List Net) (ts : List (List ℕ)) (n : List ℕ) → driven ds ts ≡ true → among (names ds) n ≡ true → (has ds Given n ≡ true) ⊎ (among ts n ≡ true)
driven_in [] ts n d h = absurd (false≢true h)
driven_in (x ∷ ds) ts n d h = elim (or_cases (bytes_eq x.name n) (among (names ds) n) h) [
  | inl here ↦ elim (or_cases (same_kind x.kind Given) (among ts x.name) (and-left (same_kind x.kind Given || among ts x.name) (driven ds ts) d)) [
    | inl given ↦ inl (or-left (bytes_eq x.name n && same_kind x.kind Given) (has ds Given n) (both (bytes_eq x.name n) (same_kind x.kind Given) here given))
    | inr hit ↦ inr (let P : List ℕ → Type 0 = λ y. among ts y ≡ true in subst P (same-true x.name n here) hit)
  ]
  | inr there ↦ elim (driven_in ds ts n (and-right (same_kind x.kind Given || among ts x.name) (driven ds ts) d) there) [
    | inl given ↦ inl (or-right (bytes_eq x.name n && same_kind x.kind Given) (has ds Given n) given)
    | inr hit ↦ inr hit
  ]
]

pub driven_at : (t : Tree) (f : IsWellFormed t) (n : List ℕ) → among (names (nets t)) n ≡ true → (has (nets t) Given n ≡ true) ⊎ (among (tos (module_of t).steps) n ≡ true)
driven_at t f n h = rw (tos_target t.stmts) (driven_in (nets t) (map target t.stmts) n f.driven_all h)

module _ (t : Tree) (f : IsWellFormed t) where
  -- no step drives an input
  pub no_target : (n : List ℕ) → has (nets t) Given n ≡ true → among (tos (module_of t).steps) n ≡ false
  no_target n given = not-true-false (among (tos (module_of t).steps) n) (λ a.
      at_name (λ s. s.to) (λ m. has (nets t) Given m ≡ true → ⊥) (module_of t).steps
      (each_one (IsSound (nets t) (widths (module_of t)) f.rank) (λ s. has (nets t) Given s.to ≡ true → ⊥) (module_of t).steps away (steps_sound t f)) n a given)
    where
      away : (s : Step) → IsSound (nets t) (widths (module_of t)) f.rank s → has (nets t) Given s.to ≡ true → ⊥
      away s sound g = go s.clocked refl
        where
          go : (b : Bool) → s.clocked ≡ b → ⊥
          go true e = false≢true (has_one (nets t) Given Kept s.to f.once g (sound.kept e))
          go false e = false≢true (has_one (nets t) Given Wired s.to f.once g (sound.wired e))

-- each output is driven
outputs_driven_in : (ps : List Port) (ds : List Net) (ts : List (List ℕ)) → driven (map port_net ps ++ ds) ts ≡ true
    → AllByRecursion (λ p. among ts p.name ≡ true) (map port_pin (filter is_output ps))
outputs_driven_in [] ds ts h = tt
outputs_driven_in (p ∷ ps) ds ts h =
    go p.dir (filter is_output ps) (and-left (same_kind (port_kind p.dir) Given || among ts p.name) (driven (map port_net ps ++ ds) ts) h)
    (outputs_driven_in ps ds ts (and-right (same_kind (port_kind p.dir) Given || among ts p.name) (driven (map port_net ps ++ ds) ts) h))
  where
    go : (d : Dir) (qs : List Port) → (same_kind (port_kind d) Given || among ts p.name) ≡ true → AllByRecursion (λ p. among ts p.name ≡ true) (map port_pin qs)
        → AllByRecursion (λ p. among ts p.name ≡ true) (map port_pin (if not (is_input d) then p ∷ qs else qs))
    go In qs h rest = rest
    go Out qs h rest = (h, rest)

pub outputs_driven : (t : Tree) (f : IsWellFormed t) → AllByRecursion (λ p. among (tos (module_of t).steps) p.name ≡ true) (outputs (module_of t))
outputs_driven t f = rw (tos_target t.stmts) (outputs_driven_in t.ports (map decl_net t.decls) (map target t.stmts) f.driven_all)

-- Facts that go from the nets that a step reads to the net that it drives hold of every net but the clock.
module _ (t : Tree) (f : IsWellFormed t) (P : List ℕ → Type 0)
    (given : (n : List ℕ) → has (nets t) Given n ≡ true → bytes_eq n clock ≡ false → P n)
    (acts : AllByRecursion (λ s. (s.clocked ≡ false → AllByRecursion P (nets_of s.expr)) → P s.to) (module_of t).steps) where
  -- the fact holds of each net of a lower rank
  abbrev Below : ℕ → Type 0
  Below k = (n : List ℕ) → f.rank n < k → among (names (nets t)) n ≡ true → bytes_eq n clock ≡ false → P n

  nets_hold : (k : ℕ) → Below k → (es : List (List ℕ)) → AllBelow f.rank es k → all_among (names (nets t)) es ≡ true → among es clock ≡ false → AllByRecursion P es
  nets_hold k ih [] low all unread = tt
  nets_hold k ih (e ∷ es) low all unread = (
    ih e low.0 (and-left (among (names (nets t)) e) (all_among (names (nets t)) es) all) (or-false-left (bytes_eq e clock) (among es clock) unread),
    nets_hold k ih es low.1 (and-right (among (names (nets t)) e) (all_among (names (nets t)) es) all) (or-false-right (bytes_eq e clock) (among es clock) unread),
  )

  target_holds : (k : ℕ) → Below k → (n : List ℕ) → f.rank n < suc k → among (tos (module_of t).steps) n ≡ true → P n
  target_holds k ih n r a =
      at_name (λ s. s.to) (λ m. f.rank m < suc k → P m) (module_of t).steps
      (each_two (IsSound (nets t) (widths (module_of t)) f.rank) (λ s. (s.clocked ≡ false → AllByRecursion P (nets_of s.expr)) → P s.to) (λ s. f.rank s.to < suc k → P s.to) (module_of t).steps
      (λ s sound act r. act (λ e. nets_hold (f.rank s.to) (λ m h. ih m (omega (arith, h, r))) (nets_of s.expr) (sound.rises e) sound.read sound.unread)) (steps_sound t f) acts) n a r

  holds_below : (k : ℕ) → Below k
  holds_below zero n h dn other = absurd (omega (arith, h))
  holds_below (suc k) n h dn other = elim (driven_at t f n dn) [
    | inl g ↦ given n g other
    | inr hit ↦ target_holds k (holds_below k) n h hit
  ]

  -- of each declared net but the clock, of each net that a step drives, and of each net that a step reads
  pub holds_at : (n : List ℕ) → among (names (nets t)) n ≡ true → bytes_eq n clock ≡ false → P n
  holds_at n dn other = holds_below (suc (f.rank n)) n (omega arith) dn other

  pub holds_at_target : (n : List ℕ) → among (tos (module_of t).steps) n ≡ true → P n
  holds_at_target n hit = target_holds (f.rank n) (holds_below (f.rank n)) n (omega arith) hit

  pub holds_at_read : (s : Step) → IsSound (nets t) (widths (module_of t)) f.rank s → AllByRecursion P (nets_of s.expr)
  holds_at_read s sound = go (nets_of s.expr) sound.read sound.unread
    where
      go : (es : List (List ℕ)) → all_among (names (nets t)) es ≡ true → among es clock ≡ false → AllByRecursion P es
      go [] all unread = tt
      go (e ∷ es) all unread = (
        holds_at e (and-left (among (names (nets t)) e) (all_among (names (nets t)) es) all) (or-false-left (bytes_eq e clock) (among es clock) unread),
        go es (and-right (among (names (nets t)) e) (all_among (names (nets t)) es) all) (or-false-right (bytes_eq e clock) (among es clock) unread),
      )

-- each declaration is driven
decls_driven_in : (ds : List Decl) (ts : List (List ℕ)) → driven (map decl_net ds) ts ≡ true → AllByRecursion (λ p. among ts p.name ≡ true) (map decl_pin ds)
decls_driven_in [] ts h = tt
decls_driven_in (d ∷ ds) ts h = (
  go d.reg (and-left (same_kind (decl_kind d.reg) Given || among ts d.name) (driven (map decl_net ds) ts) h),
  decls_driven_in ds ts (and-right (same_kind (decl_kind d.reg) Given || among ts d.name) (driven (map decl_net ds) ts) h),
)
  where
    go : (r : Bool) → (same_kind (decl_kind r) Given || among ts d.name) ≡ true → among ts d.name ≡ true
    go true h = h
    go false h = h

driven-right : (ns ds : List Net) (ts : List (List ℕ)) → driven (ns ++ ds) ts ≡ true → driven ds ts ≡ true
driven-right [] ds ts h = h
driven-right (n ∷ ns) ds ts h = driven-right ns ds ts (and-right (same_kind n.kind Given || among ts n.name) (driven (ns ++ ds) ts) h)

pub decls_driven : (t : Tree) (f : IsWellFormed t) → AllByRecursion (λ p. among (tos (module_of t).steps) p.name ≡ true) (map decl_pin t.decls)
decls_driven t f = rw (tos_target t.stmts) (decls_driven_in t.decls (map target t.stmts) (driven-right (map port_net t.ports) (map decl_net t.decls) (map target t.stmts) f.driven_all))

pub registers_driven : (t : Tree) (f : IsWellFormed t) → AllByRecursion (λ p. among (tos (module_of t).steps) p.name ≡ true) (registers (module_of t))
registers_driven t f = each_kept (λ p. among (tos (module_of t).steps) p.name ≡ true) decl_pin (λ d. d.reg) t.decls (decls_driven t f)
