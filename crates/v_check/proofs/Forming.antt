-- A tree without problems is well-formed, and a well-formed tree has none.
use Rattle.std.specs.List.{list_all, list_any, flat_map}
use Rattle.std.specs.Str.{bytes_eq}
use Rattle.std.proofs.Common.{◌≡◌, ℕ, zero, suc, ◌+◌, ◌<◌, Bool, true, false, not, ◌||◌, Some, List, [], ◌∷◌, map, take, slice_get, refl, ap, sym, ◌∙◌, subst, inl, inr, arith}
use Rattle.std.proofs.lemmas.Bool.{cases_lt, or_cases}
use Rattle.rb_grammar.specs.Spelling.{At}
use Rattle.rb_grammar.specs.Spelling as spelling
use Rattle.v_design.proofs.Tests.{and-left, and-right, same-refl, same-true}
use Rattle.v_design.proofs.Names.{or-left, or-right, both, not-flip, not-true-false}
use Rattle.v_design.specs.Lexemes.{Token, among}
use Rattle.v_design.specs.Expr.{nets_of}
use Rattle.v_design.specs.Tree.{Tree, Statement, Assign, Clocked, Resettable}
use Rattle.v_design.specs.Tree as tree
use Rattle.v_design.specs.Design.{expr_of, module_of, widths}
use Rattle.v_design.specs.WellFormed.{IsWellFormed, Net, Given, AllBelow, Rises, RisesAlong, distinct, drives_its_kind, drives_well, fits_well, names, nets, reads_no_clock, same_kind, target, used}
use Rattle.v_syntax.specs.Faulty.{Problem, Twice, Undeclared, Driver, Width, Loop, turn, Faulty, IsFirst, GoesOn, all_driven, driven_by, feeds, twice, undeclared, drives_badly, second_driver, no_driver, wrong_width, loop}
use Rattle.v_check.specs.Drivers.{IsSingle}
use Rattle.v_check.proofs.Driving.{any-append}
use Rattle.v_check.proofs.Faults.{Lacks}
use Rattle.v_check.proofs.Looping.{any-index, any-among, feeds-assign}
use Rattle.plain_lemmas.proofs.Lists.{all-get, any-get as any-at, each-get}
use Rattle.v_check.proofs.Spelled.{token-used, used-token}

-- tests of all elements
all-from : {X : Type 0} (p : X → Bool) (xs : List X) → ((i : ℕ) (x : X) → slice_get xs i ≡ Some x → p x ≡ false → ⊥) → list_all p xs ≡ true
all-from p [] h = refl
all-from p (x ∷ xs) h = both (p x) (list_all p xs) (go (p x) refl) (all-from p xs (λ i y at. h (suc i) y at))
  where
    go : (b : Bool) → p x ≡ b → p x ≡ true
    go true e = e
    go false e = absurd (h 0 x refl e)

all-named : (p : List ℕ → Bool) (ns : List (List ℕ)) → ((n : List ℕ) → among ns n ≡ true → p n ≡ true) → list_all p ns ≡ true
all-named p [] h = refl
all-named p (m ∷ ms) h = both (p m) (list_all p ms) (h m (or-left (bytes_eq m m) (among ms m) (same-refl m))) (all-named p ms (λ n a. h n (or-right (bytes_eq m n) (among ms n) a)))

named-all : (p : List ℕ → Bool) (ns : List (List ℕ)) (n : List ℕ) → list_all p ns ≡ true → among ns n ≡ true → p n ≡ true
named-all p [] n h a = cc a
named-all p (m ∷ ms) n h a = elim (or_cases (bytes_eq m n) (among ms n) a) [
  | inl here ↦ ap p (sym (same-true m n here)) ∙ and-left (p m) (list_all p ms) h
  | inr there ↦ named-all p ms n (and-right (p m) (list_all p ms) h) there
]

-- names that differ
distinct-from : (ns : List (List ℕ)) → ((i : ℕ) (n : List ℕ) → slice_get ns i ≡ Some n → among (take i ns) n ≡ true → ⊥) → distinct ns ≡ true
distinct-from [] h = refl
distinct-from (n ∷ ns) h = both (not (among ns n)) (distinct ns) (go (among ns n) refl) (distinct-from ns (λ i m at a. h (suc i) m at (or-right (bytes_eq n m) (among (take i ns) m) a)))
  where
    go : (b : Bool) → among ns n ≡ b → not (among ns n) ≡ true
    go false e = ap not e
    go true e =
        let (j, m, at, same) = any-index (λ w. bytes_eq w n) ns e in
        let m_n = same-true m n same in
        absurd (h (suc j) m at (or-left (bytes_eq n m) (among (take j ns) m) (ap (bytes_eq n) m_n ∙ same-refl n)))

distinct-apart : (ns : List (List ℕ)) (i : ℕ) (n : List ℕ) → distinct ns ≡ true → slice_get ns i ≡ Some n → among (take i ns) n ≡ true → ⊥
distinct-apart [] i n d at a = cc at
distinct-apart (m ∷ ms) zero n d at a = cc a
distinct-apart (m ∷ ms) (suc i) n d at a = elim (or_cases (bytes_eq m n) (among (take i ms) n) a) [
  | inl here ↦
      let once : among ms m ≡ false = not-flip (among ms m) (and-left (not (among ms m)) (distinct ms) d) in
      let there : among ms n ≡ true = any-at (λ w. bytes_eq w n) ms i n at (same-refl n) in
      cc (sym once ∙ (ap (among ms) (same-true m n here) ∙ there))
  | inr there ↦ distinct-apart ms i n (and-right (not (among ms m)) (distinct ms) d) at there
]

-- the names that statements use
used-all : (p : List ℕ → Bool) (ss : List Statement) → ((n : List ℕ) → among (flat_map used ss) n ≡ true → p n ≡ true) → list_all (λ s. list_all p (used s)) ss ≡ true
used-all p [] h = refl
used-all p (s ∷ ss) h = both (list_all p (used s)) (list_all (λ s. list_all p (used s)) ss)
    (all-named p (used s) (λ n a. h n (any-append (λ w. bytes_eq w n) (used s) (flat_map used ss) ∙ or-left (among (used s) n) (among (flat_map used ss) n) a)))
    (used-all p ss (λ n a. h n (any-append (λ w. bytes_eq w n) (used s) (flat_map used ss) ∙ or-right (among (used s) n) (among (flat_map used ss) n) a)))

all-used : (p : List ℕ → Bool) (ss : List Statement) (n : List ℕ) → list_all (λ s. list_all p (used s)) ss ≡ true → among (flat_map used ss) n ≡ true → p n ≡ true
all-used p [] n h a = cc a
all-used p (s ∷ ss) n h a = elim (or_cases (among (used s) n) (among (flat_map used ss) n) (sym (any-append (λ w. bytes_eq w n) (used s) (flat_map used ss)) ∙ a)) [
  | inl here ↦ named-all p (used s) n (and-left (list_all p (used s)) (list_all (λ s. list_all p (used s)) ss) h) here
  | inr there ↦ all-used p ss n (and-right (list_all p (used s)) (list_all (λ s. list_all p (used s)) ss) h) there
]

-- targets are driven, and where each statement drives well only they are
target-driven : (s : Statement) → among (driven_by s) (target s) ≡ true
target-driven (Assign to e) = or-left (bytes_eq to to) false (same-refl to)
target-driven (Clocked c to e) = or-left (bytes_eq to to) false (same-refl to)
target-driven (Resettable c low reset negated test to width value again e) = or-left (bytes_eq to to) (bytes_eq again to || false) (same-refl to)

only : (x n : List ℕ) → (bytes_eq x n || false) ≡ true → x ≡ n
only x n h = elim (or_cases (bytes_eq x n) false h) [ inl e ↦ same-true x n e | inr e ↦ cc e ]

driven-target : (ns : List Net) (s : Statement) (n : List ℕ) → drives_well ns s ≡ true → among (driven_by s) n ≡ true → target s ≡ n
driven-target ns (Assign to e) n w a = only to n a
driven-target ns (Clocked c to e) n w a = only to n a
driven-target ns (Resettable c low reset negated test to width value again e) n w a = elim (or_cases (bytes_eq to n) (bytes_eq again n || false) a) [
  | inl here ↦ same-true to n here
  | inr there ↦ sym (same-true again to (and-right _ (bytes_eq again to) (and-left (drives_its_kind ns (Resettable c low reset negated test to width value again e)) (reads_no_clock (Resettable c low reset negated test to width value again e)) w))) ∙ only again n there
]

targets-driven : (ss : List Statement) (n : List ℕ) → among (map target ss) n ≡ true → among (all_driven ss) n ≡ true
targets-driven [] n h = h
targets-driven (s ∷ ss) n h = any-append (λ w. bytes_eq w n) (driven_by s) (all_driven ss) ∙ elim (or_cases (bytes_eq (target s) n) (among (map target ss) n) h) [
  | inl here ↦ or-left (among (driven_by s) n) (among (all_driven ss) n) (ap (among (driven_by s)) (sym (same-true (target s) n here)) ∙ target-driven s)
  | inr there ↦ or-right (among (driven_by s) n) (among (all_driven ss) n) (targets-driven ss n there)
]

driven-targets : (ns : List Net) (ss : List Statement) (n : List ℕ) → list_all (drives_well ns) ss ≡ true → among (all_driven ss) n ≡ true → among (map target ss) n ≡ true
driven-targets ns [] n w h = h
driven-targets ns (s ∷ ss) n w h = elim (or_cases (among (driven_by s) n) (among (all_driven ss) n) (sym (any-append (λ x. bytes_eq x n) (driven_by s) (all_driven ss)) ∙ h)) [
  | inl here ↦ or-left (bytes_eq (target s) n) (among (map target ss) n)
      (let e = driven-target ns s n (and-left (drives_well ns s) (list_all (drives_well ns) ss) w) here in ap (λ x. bytes_eq x n) e ∙ same-refl n)
  | inr there ↦ or-right (bytes_eq (target s) n) (among (map target ss) n) (driven-targets ns ss n (and-right (drives_well ns s) (list_all (drives_well ns) ss) w) there)
]

take-map : (ss : List Statement) (i : ℕ) → take i (map target ss) ≡ map target (take i ss)
take-map [] zero = refl
take-map [] (suc i) = refl
take-map (s ∷ ss) zero = refl
take-map (s ∷ ss) (suc i) = ap (λ l. target s ∷ l) (take-map ss i)

map-get : (ss : List Statement) (i : ℕ) (n : List ℕ) → slice_get (map target ss) i ≡ Some n → (s : Statement) × (slice_get ss i ≡ Some s) × (target s ≡ n)
map-get [] i n h = cc h
map-get (s ∷ ss) zero n h = (s, refl, cc)
map-get (s ∷ ss) (suc i) n h = map-get ss i n h

get-map : (ss : List Statement) (i : ℕ) (s : Statement) → slice_get ss i ≡ Some s → slice_get (map target ss) i ≡ Some (target s)
get-map [] i s h = cc h
get-map (x ∷ ss) zero s h = let e : x ≡ s = cc in ap (λ y. Some (target y)) e
get-map (x ∷ ss) (suc i) s h = get-map ss i s h

take-all : (p : Statement → Bool) (ss : List Statement) (i : ℕ) → list_all p ss ≡ true → list_all p (take i ss) ≡ true
take-all p [] zero h = refl
take-all p [] (suc i) h = refl
take-all p (s ∷ ss) zero h = refl
take-all p (s ∷ ss) (suc i) h = both (p s) (list_all p (take i ss)) (and-left (p s) (list_all p ss) h) (take-all p ss i (and-right (p s) (list_all p ss) h))

-- what holds of each element holds at a place

below-get : (rank : List ℕ → ℕ) (r : ℕ) (ns : List (List ℕ)) (n : List ℕ) → AllBelow rank ns r → among ns n ≡ true → rank n < r
below-get rank r [] n h a = cc a
below-get rank r (m ∷ ms) n h a = elim (or_cases (bytes_eq m n) (among ms n) a) [
  | inl here ↦ let P : List ℕ → Type 0 = λ x. rank x < r in subst P (same-true m n here) h.0
  | inr there ↦ below-get rank r ms n h.1 there
]

-- where ranks rise, one cannot go on for ever
no-way : (rank : List ℕ → ℕ) (ss : List Statement) → Rises rank ss → (b m : ℕ) (to : List ℕ) (g : GoesOn ss to) → rank (g.path m) < b → ⊥
no-way rank ss rises zero m to g l = omega (arith, l)
no-way rank ss rises (suc b) m to g l =
    let (j, s, at, fed) = any-index (feeds (g.path (m + 1)) (g.path m)) ss (g.step m) in
    let (x, e, is, x_to, reads) = feeds-assign (g.path (m + 1)) (g.path m) s fed in
    let along : AllBelow rank (nets_of (expr_of e)) (rank x) = subst (RisesAlong rank) is (each-get (RisesAlong rank) ss j s rises at) in
    let lower = below-get rank (rank x) (nets_of (expr_of e)) (g.path (m + 1)) along reads in
    let same : rank x ≡ rank (g.path m) = ap rank x_to in
    no-way rank ss rises b (m + 1) to g (omega (arith, l, lower, same))

module _ (t : Tree) (ts : List (At Token)) where
  pub once-from : Lacks t ts Twice → distinct (names (nets t)) ≡ true
  once-from h = distinct-from (names (nets t)) (λ i n at a. h _ (twice i n at a))

  pub single-from : Lacks t ts Driver → IsSingle t.stmts
  single-from h i s at = not-true-false (list_any (among (all_driven (take i t.stmts))) (driven_by s)) (λ e. h _ (second_driver i s at e))

  -- where no name is undeclared, each name in a statement is declared, and the other way round
  pub declared-from : spelling.tokens_of ts ≡ tree.tokens_of t → Lacks t ts Undeclared → list_all (λ s. list_all (among (names (nets t))) (used s)) t.stmts ≡ true
  declared-from tokens none = used-all (among (names (nets t))) t.stmts (λ n u. known n u (among (names (nets t)) n) refl)
    where
      known : (n : List ℕ) → among (flat_map used t.stmts) n ≡ true → (x : Bool) → among (names (nets t)) n ≡ x → among (names (nets t)) n ≡ true
      known n u true e = e
      known n u false e = let (k, s, low, at, name) = used-token t ts tokens n u in absurd (none _ (undeclared k s n low at name e))

  pub none-undeclared : spelling.tokens_of ts ≡ tree.tokens_of t → list_all (λ s. list_all (among (names (nets t))) (used s)) t.stmts ≡ true → Lacks t ts Undeclared
  none-undeclared tokens all _ (undeclared k a n low at name none) = cc (sym none ∙ all-used (among (names (nets t))) t.stmts n all (token-used t ts tokens k a n low at name))

  -- without problems the tree is well-formed
  pub well-formed : spelling.tokens_of ts ≡ tree.tokens_of t → Lacks t ts Twice → Lacks t ts Undeclared → Lacks t ts Driver → Lacks t ts Width → (rank : List ℕ → ℕ) → Rises rank t.stmts → IsWellFormed t
  well-formed tokens a b c d rank rises =
      let wells : list_all (drives_well (nets t)) t.stmts ≡ true = all-from (drives_well (nets t)) t.stmts (λ i s at bad. c _ (drives_badly i s at bad)) in
      record {
        once = once-from a;
        declared = declared-from tokens b;
        drives = wells;
        single = distinct-from (map target t.stmts) single_targets;
        driven_all = all-from (λ n. same_kind n.kind Given || among (map target t.stmts) n.name) (nets t) (undriven wells);
        fits = all-from (fits_well (widths (module_of t))) t.stmts (λ i s at bad. d _ (wrong_width i s at bad));
        rank = rank;
        rises = rises;
      }
    where
      single_targets : (i : ℕ) (n : List ℕ) → slice_get (map target t.stmts) i ≡ Some n → among (take i (map target t.stmts)) n ≡ true → ⊥
      single_targets i n at again =
          let (s, here, is) = map-get t.stmts i n at in
          let before : among (all_driven (take i t.stmts)) n ≡ true = targets-driven (take i t.stmts) n (ap (λ l. among l n) (sym (take-map t.stmts i)) ∙ again) in
          c _ (second_driver i s here (any-among (among (all_driven (take i t.stmts))) (driven_by s) n (ap (among (driven_by s)) (sym is) ∙ target-driven s) before))

      undriven : list_all (drives_well (nets t)) t.stmts ≡ true → (i : ℕ) (n : Net) → slice_get (nets t) i ≡ Some n → (same_kind n.kind Given || among (map target t.stmts) n.name) ≡ false → ⊥
      undriven wells i n at bad =
          let kind = or-false-first (same_kind n.kind Given) (among (map target t.stmts) n.name) bad in
          let none = or-false-second (same_kind n.kind Given) (among (map target t.stmts) n.name) bad in
          c _ (no_driver i n at kind (not-true-false (among (all_driven t.stmts) n.name) (λ e. cc (sym none ∙ driven-targets (nets t) t.stmts n.name wells e))))
        where
          or-false-first : (x y : Bool) → (x || y) ≡ false → x ≡ false
          or-false-first true y h = cc h
          or-false-first false y h = refl

          or-false-second : (x y : Bool) → (x || y) ≡ false → y ≡ false
          or-false-second true y h = cc h
          or-false-second false y h = h

  -- and a well-formed tree has none
  pub no-problem : spelling.tokens_of ts ≡ tree.tokens_of t → IsWellFormed t → (p : Problem) (k : ℕ) → Faulty t ts p k → ⊥
  no-problem tokens f _ _ (twice i n at a) = distinct-apart (names (nets t)) i n f.once at a
  no-problem tokens f _ _ (undeclared k a n low at name none) = none-undeclared tokens f.declared _ (undeclared k a n low at name none)
  no-problem tokens f _ _ (drives_badly i s at bad) = cc (sym bad ∙ all-get (drives_well (nets t)) t.stmts i s f.drives at)
  no-problem tokens f _ _ (second_driver i s at second) =
      let (j, m, there, before) = any-index (among (all_driven (take i t.stmts))) (driven_by s) second in
      let own = driven-target (nets t) s m (all-get (drives_well (nets t)) t.stmts i s f.drives at) (any-at (λ w. bytes_eq w m) (driven_by s) j m there (same-refl m)) in
      let early = driven-targets (nets t) (take i t.stmts) m (take-all (drives_well (nets t)) t.stmts i f.drives) before in
      distinct-apart (map target t.stmts) i m f.single (get-map t.stmts i s at ∙ ap Some own) (ap (λ l. among l m) (take-map t.stmts i) ∙ early)
  no-problem tokens f _ _ (no_driver i n at kind none) =
      let d : (same_kind n.kind Given || among (map target t.stmts) n.name) ≡ true = all-get (λ n. same_kind n.kind Given || among (map target t.stmts) n.name) (nets t) i n f.driven_all at in
      elim (or_cases (same_kind n.kind Given) (among (map target t.stmts) n.name) d) [
        | inl given ↦ cc (sym kind ∙ given)
        | inr hit ↦ cc (sym none ∙ targets-driven t.stmts n.name hit)
      ]
  no-problem tokens f _ _ (wrong_width i s at bad) = cc (sym bad ∙ all-get (fits_well (widths (module_of t))) t.stmts i s f.fits at)
  no-problem tokens f _ _ (loop i to e at g) = no-way f.rank t.stmts f.rises (suc (f.rank (g.path 0))) 0 to g (omega arith)

-- the problem of a turn
of-turn : ℕ → Problem
of-turn zero = Twice
of-turn (suc zero) = Undeclared
of-turn (suc (suc zero)) = Driver
of-turn (suc (suc (suc zero))) = Width
of-turn (suc (suc (suc (suc n)))) = Loop

turn-of : (p : Problem) → of-turn (turn p) ≡ p
unfolding of-turn
turn-of Twice = refl
turn-of Undeclared = refl
turn-of Driver = refl
turn-of Width = refl
turn-of Loop = refl

-- a tree has one first problem, at one place
pub one-first : (t : Tree) (ts : List (At Token)) (p q : Problem) (j k : ℕ) → IsFirst t ts p j → IsFirst t ts q k → (p ≡ q) × (j ≡ k)
one-first t ts p q j k a b = elim (cases_lt (turn p) (turn q)) [
  | inl l ↦ absurd (b.first p j l a.at)
  | inr l ↦ elim (cases_lt (turn q) (turn p)) [
    | inl m ↦ absurd (a.first q k m b.at)
    | inr m ↦
        let turns : turn p ≡ turn q = omega (arith, l, m) in
        let same : p ≡ q = sym (turn-of p) ∙ (ap of-turn turns ∙ turn-of q) in
        let x = a.least k (subst (λ r. Faulty t ts r k) (sym same) b.at) in
        let y = b.least j (subst (λ r. Faulty t ts r j) same a.at) in
        (same, omega (arith, x, y))
  ]
]
