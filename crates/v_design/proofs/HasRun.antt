-- A well-formed module has a run from any contents over any vectors that fit its inputs.
use Rattle.std.specs.Bool.{OnTrue}
use Rattle.std.specs.List.{AllByRecursion}
use Rattle.std.specs.Str.{bytes_eq}
use Rattle.std.proofs.Common.{◌≡◌, ℕ, zero, suc, ◌+◌, ◌<◌, ◌≤◌, Bool, true, false, not, if◌then◌else◌, List, [], ◌∷◌, refl, ap, sym, ◌∙◌, subst, arith}
use Rattle.v_design.specs.Lexemes.{among}
use Rattle.v_design.specs.Expr.{Widths, Values, value_of, nets_of}
use Rattle.v_design.specs.Tree.{Tree}
use Rattle.v_design.specs.Design.{Step, module_of, widths, inputs, outputs}
use Rattle.v_design.specs.WellFormed.{IsWellFormed, Given, nets, has, distinct, AllBelow}
use Rattle.v_design.specs.Run.{under_reset, step_value, next_value, IsSettled, Moves, values_at, Edge, Run}
use Rattle.v_design.specs.Fits.{FitsPins, AllFit}
use Rattle.rb_base.specs.declared.ports.Pin.{Pin}
use Rattle.v_design.proofs.Tests.{and-left, and-right, same-refl, same-true}
use Rattle.v_design.proofs.Names.{apart, among_names, each_one, each_two, each_three, not-flip, or-false-left, or-false-right}
use Rattle.v_design.proofs.Nets.{pin_names, input_given, inputs_distinct}
use Rattle.v_design.proofs.Steps.{IsSound, steps_sound, steps_distinct, tos, no_target}
use Rattle.v_design.proofs.OneRun.{value-agree, reset_agree, values_at-same}

if-true : (b : Bool) (x y : ℕ) → b ≡ true → (if b then x else y) ≡ x
if-true true x y h = refl
if-true false x y h = cc

if-false : (b : Bool) (x y : ℕ) → b ≡ false → (if b then x else y) ≡ y
if-false true x y h = cc
if-false false x y h = refl

-- the choices agree where they are made
if-same : (b : Bool) (x x' y y' : ℕ) → (b ≡ true → x ≡ x') → (b ≡ false → y ≡ y') → (if b then x else y) ≡ (if b then x' else y')
if-same true x x' y y' p q = p refl
if-same false x x' y y' p q = q refl

-- the number that the first step to a name gives it, or else its own
abbrev look : (Step → ℕ) → List Step → Values → Values
look number [] given n = given n
look number (s ∷ ss) given n = if bytes_eq s.to n then number s else look number ss given n

abbrev HasNumbers : (Step → ℕ) → Values → List Step → Type 0
HasNumbers number v ss = AllByRecursion (λ s. v s.to ≡ number s) ss

look_has : (number : Step → ℕ) (given : Values) (ss : List Step) → distinct (tos ss) ≡ true → HasNumbers number (look number ss given) ss
look_has number given [] d = tt
look_has number given (s ∷ ss) d =
    let once : among (tos ss) s.to ≡ false = not-flip (among (tos ss) s.to) (and-left (not (among (tos ss) s.to)) (distinct (tos ss)) d) in
    let rest : HasNumbers number (look number ss given) ss = look_has number given ss (and-right (not (among (tos ss) s.to)) (distinct (tos ss)) d) in (
      if-true (bytes_eq s.to s.to) (number s) (look number ss given s.to) (same-refl s.to),
      each_two (λ r. among (tos ss) r.to ≡ true) (λ r. look number ss given r.to ≡ number r) (λ r. look number (s ∷ ss) given r.to ≡ number r) ss
          (λ r p h. if-false (bytes_eq s.to r.to) (number s) (look number ss given r.to) (apart (tos ss) s.to r.to once p) ∙ h) (among_names (λ r. r.to) ss) rest,
    )

look_other : (number : Step → ℕ) (given : Values) (ss : List Step) (n : List ℕ) → among (tos ss) n ≡ false → look number ss given n ≡ given n
look_other number given [] n h = refl
look_other number given (s ∷ ss) n h =
    if-false (bytes_eq s.to n) (number s) (look number ss given n) (or-false-left (bytes_eq s.to n) (among (tos ss) n) h)
    ∙ look_other number given ss n (or-false-right (bytes_eq s.to n) (among (tos ss) n) h)

-- the greatest of the targets' ranks, or more
abbrev top_rank : (List ℕ → ℕ) → List Step → ℕ
top_rank rank [] = 0
top_rank rank (s ∷ ss) = rank s.to + top_rank rank ss

rank_below_top : (rank : List ℕ → ℕ) (top : ℕ) (ss : List Step) → top_rank rank ss ≤ top → AllByRecursion (λ s. rank s.to ≤ top) ss
rank_below_top rank top [] h = tt
rank_below_top rank top (s ∷ ss) h = (omega (arith, h), rank_below_top rank top ss (omega (arith, h)))

module _ (ws : Widths) (contents given : Values) (steps : List Step) (rank : List ℕ → ℕ) where
  -- what a step gives its net under the values v of the nets that it reads
  abbrev driven_to : Values → Step → ℕ
  driven_to v s = if s.clocked then under_reset given s.reset (contents s.to) else value_of ws v s.expr

  -- the values once the assignments have acted so many times
  abbrev settle : ℕ → Values
  settle zero n = given n
  settle (suc k) n = look (driven_to (settle k)) steps given n

  abbrev RisesAlong : Step → Type 0
  RisesAlong s = s.clocked ≡ false → AllBelow rank (nets_of s.expr) (rank s.to)

  driven_same : (k : ℕ) (u v : Values) (s : Step) → RisesAlong s → rank s.to ≤ k → ((m : List ℕ) → rank m < k → u m ≡ v m) → driven_to u s ≡ driven_to v s
  driven_same k u v s rise le same =
      let kept = under_reset given s.reset (contents s.to) in
      if-same s.clocked kept kept (value_of ws u s.expr) (value_of ws v s.expr) (λ _. refl)
      (λ p. value-agree ws u v s.expr (each_one (λ n. rank n < rank s.to) (λ n. u n ≡ v n) (nets_of s.expr) (λ n h. same n (omega (arith, h, le))) (rise p)))

  look_same : (k : ℕ) (u v : Values) (ss : List Step) (n : List ℕ) → AllByRecursion RisesAlong ss → rank n ≤ k → ((m : List ℕ) → rank m < k → u m ≡ v m)
      → look (driven_to u) ss given n ≡ look (driven_to v) ss given n
  look_same k u v [] n rise le same = refl
  look_same k u v (s ∷ ss) n rise le same =
      let P : List ℕ → Type 0 = λ x. rank x ≤ k in
      if-same (bytes_eq s.to n) (driven_to u s) (driven_to v s) (look (driven_to u) ss given n) (look (driven_to v) ss given n)
      (λ p. driven_same k u v s rise.0 (subst P (sym (same-true s.to n p)) le) same)
      (λ _. look_same k u v ss n rise.1 le same)

  module _ (rise : AllByRecursion RisesAlong steps) where
    -- a net's value stands still above its rank
    stable : (k : ℕ) (n : List ℕ) → rank n < k → settle k n ≡ settle (suc k) n
    stable zero n h = absurd (omega (arith, h))
    stable (suc k) n h = look_same k (settle k) (settle (suc k)) steps n rise (omega (arith, h)) (stable k)

    abbrev top : ℕ
    top = top_rank rank steps

    abbrev settled : Values
    settled = settle (suc top)

    abbrev SameReset : Step → Type 0
    SameReset s = (x : ℕ) → under_reset settled s.reset x ≡ under_reset given s.reset x

    step_settles : (s : Step) → RisesAlong s × (rank s.to ≤ top) → SameReset s → settled s.to ≡ driven_to (settle top) s → settled s.to ≡ step_value ws contents settled s
    step_settles s h same has =
        has ∙ (driven_same top (settle top) settled s h.0 h.1 (stable top)
        ∙ ap (λ x. if s.clocked then x else value_of ws settled s.expr) (sym (same (contents s.to))))

    -- where the assignments have acted often enough the values are settled
    settled_is : distinct (tos steps) ≡ true → AllByRecursion SameReset steps → IsSettled ws contents settled steps
    settled_is once same = each_three (λ s. RisesAlong s × (rank s.to ≤ top)) SameReset (λ s. settled s.to ≡ driven_to (settle top) s) (λ s. settled s.to ≡ step_value ws contents settled s)
        steps step_settles (each_two RisesAlong (λ s. rank s.to ≤ top) (λ s. RisesAlong s × (rank s.to ≤ top)) steps (λ s p q. (p, q)) rise (rank_below_top rank top steps (omega arith)))
        same (look_has (driven_to (settle top)) given steps once)

    settled_other : (n : List ℕ) → among (tos steps) n ≡ false → settled n ≡ given n
    settled_other n h = look_other (driven_to (settle top)) given steps n h

-- the contents after the edge
moves_to : (ws : Widths) (v : Values) (steps : List Step) → distinct (tos steps) ≡ true → Moves ws v (look (next_value ws v) steps v) steps
moves_to ws v steps once = each_one (λ s. look (next_value ws v) steps v s.to ≡ next_value ws v s) (λ s. OnTrue s.clocked (look (next_value ws v) steps v s.to ≡ next_value ws v s)) steps
    (λ s h. on-true s.clocked (look (next_value ws v) steps v s.to ≡ next_value ws v s) h) (look_has (next_value ws v) v steps once)
  where
    on-true : (b : Bool) (P : Type 0) → P → OnTrue b P
    on-true true P p = p
    on-true false P p = tt

-- the numbers of a vector by name
abbrev by_name : List Pin → List ℕ → Values
by_name [] xs n = 0
by_name (p ∷ ps) [] n = 0
by_name (p ∷ ps) (x ∷ xs) n = if bytes_eq p.name n then x else by_name ps xs n

values_at-by_name : (ps : List Pin) (xs : List ℕ) → distinct (pin_names ps) ≡ true → FitsPins ps xs → values_at (by_name ps xs) ps ≡ xs
values_at-by_name [] [] d f = refl
values_at-by_name [] (x ∷ xs) d f = absurd f
values_at-by_name (p ∷ ps) [] d f = absurd f
values_at-by_name (p ∷ ps) (x ∷ xs) d f =
    let once : among (pin_names ps) p.name ≡ false = not-flip (among (pin_names ps) p.name) (and-left (not (among (pin_names ps) p.name)) (distinct (pin_names ps)) d) in
    let all = by_name (p ∷ ps) (x ∷ xs) in
    let here : all p.name ≡ x = if-true (bytes_eq p.name p.name) x (by_name ps xs p.name) (same-refl p.name) in
    let there : values_at all ps ≡ xs
    = values_at-same all (by_name ps xs) ps (each_one (λ q. among (pin_names ps) q.name ≡ true) (λ q. all q.name ≡ by_name ps xs q.name) ps
    (λ q h. if-false (bytes_eq p.name q.name) x (by_name ps xs q.name) (apart (pin_names ps) p.name q.name once h)) (among_names (λ q. q.name) ps))
    ∙ values_at-by_name ps xs (and-right (not (among (pin_names ps) p.name)) (distinct (pin_names ps)) d) f.1 in
    ap (λ a. a ∷ values_at all ps) here ∙ ap (λ b. x ∷ b) there

module _ (t : Tree) (f : IsWellFormed t) where
  abbrev ws : Widths
  ws = widths (module_of t)

  abbrev steps : List Step
  steps = (module_of t).steps

  abbrev Sound : Step → Type 0
  Sound s = IsSound (nets t) ws f.rank s

  rise : AllByRecursion (λ s. s.clocked ≡ false → AllBelow f.rank (nets_of s.expr) (f.rank s.to)) steps
  rise = each_one Sound (λ s. s.clocked ≡ false → AllBelow f.rank (nets_of s.expr) (f.rank s.to)) steps (λ s sound. sound.rises) (steps_sound t f)

  -- an edge, for any contents and any numbers that fit the inputs
  has_edge : (contents : Values) (ins : List ℕ) → FitsPins (inputs (module_of t)) ins → (outs : List ℕ) × (after : Values) × Edge (module_of t) contents ins outs after
  has_edge contents ins fits =
      let given = by_name (inputs (module_of t)) ins in
      let v = settled ws contents given steps f.rank rise in
      let keeps : (n : List ℕ) → has (nets t) Given n ≡ true → v n ≡ given n = λ n g. settled_other ws contents given steps f.rank rise n (no_target t f n g) in
      let once = steps_distinct t f in (
        values_at v (outputs (module_of t)),
        look (next_value ws v) steps v,
        record {
          values = v;
          given = values_at-same v given (inputs (module_of t)) (each_one (λ p. among (pin_names (inputs (module_of t))) p.name ≡ true) (λ p. v p.name ≡ given p.name) (inputs (module_of t))
              (λ p h. keeps p.name (input_given t f p.name h)) (among_names (λ p. p.name) (inputs (module_of t))))
              ∙ values_at-by_name (inputs (module_of t)) ins (inputs_distinct t f) fits;
          settled = settled_is ws contents given steps f.rank rise once (each_one Sound (λ s. (x : ℕ) → under_reset v s.reset x ≡ under_reset given s.reset x) steps
              (λ s sound x. reset_agree (nets t) v given s.reset x sound.reset (λ n g _. keeps n g)) (steps_sound t f));
          seen = refl;
          moved = moves_to ws v steps once;
        },
      )

  has_run_of : (contents : Values) (vectors : List (List ℕ)) → AllFit (inputs (module_of t)) vectors → (outputs : List (List ℕ)) × Run (module_of t) contents vectors outputs
  has_run_of contents [] fits = ([], tt)
  has_run_of contents (x ∷ xs) fits =
      let e = has_edge contents x fits.0 in
      let r = has_run_of e.1 xs fits.1 in
      (e.0 ∷ r.0, (e.1, e.2, r.1))

-- A well-formed module has a run from any contents over any vectors that fit its inputs.
pub has_run : (t : Tree) → IsWellFormed t → (contents : Values) (vectors : List (List ℕ)) → AllFit (inputs (module_of t)) vectors → (outputs : List (List ℕ)) × Run (module_of t) contents vectors outputs
has_run = has_run_of
