-- From which assignments one can go on for ever.
use Rattle.std.specs.List.{AllByRecursion, list_any}
use Rattle.std.specs.Option.{option_map_or}
use Rattle.std.specs.Str.{bytes_eq}
use Rattle.std.proofs.Common.{◌≡◌, ℕ, zero, suc, ◌+◌, ◌<◌, Bool, true, false, not, if◌then◌else◌, Option, Some, None, IfNone, is_some, List, [], ◌∷◌, ◌++◌, length, take, get_or, slice_get, refl, ap, sym, ◌∙◌, subst, inl, inr, add-one, arith, map}
use Rattle.std.proofs.lemmas.Bool.{cases_lt, or_cases}
use Rattle.std.proofs.lemmas.List.{length-map, append-nil}
use Rattle.rb_base.specs.declared.place.Place.{Place}
use Rattle.topological_order.specs.Levels.{AreLevels, AreWithin, need_at, rank_at}
use Rattle.v_design.proofs.Tests.{and-left, and-right, same-refl, same-true}
use Rattle.v_design.proofs.Names.{or-left, or-right}
use Rattle.v_design.specs.Lexemes.{among}
use Rattle.v_design.specs.Expr.{nets_of}
use Rattle.v_design.specs.Design.{expr_of}
use Rattle.v_design.specs.Seen.{expr_seen}
use Rattle.v_design.specs.Tree.{Statement, Assign, Clocked, Resettable, Term}
use Rattle.v_design.specs.WellFormed.{Rises, RisesAlong}
use Rattle.v_design.specs.declared.design.Stmt.{Stmt}
use Rattle.v_syntax.specs.Faulty.{GoesOn, all_driven, driven_by, feeds}
use Rattle.v_syntax.specs.Syntax.{AreStatements, IsStatement}
use Rattle.v_syntax.specs.declared.parsed.Event.{Event}
use Rattle.v_check.specs.Drivers.{AreDrivers, AreNumbers, IsSingle}
use Rattle.v_check.specs.Found.{Finds, Stands}
use Rattle.v_check.specs.Loops.{IsLooping, IsUnranked, all_needs, numbers_of, stmt_needs, with_number}
use Rattle.v_check.proofs.Driving.{nets-statement, any-append}
use Rattle.plain_lemmas.proofs.Lists.{any-get as any-at, get-within, mapped-at, some-at}

-- tests of some element

pub any-index : {X : Type 0} (p : X → Bool) (xs : List X) → list_any p xs ≡ true → (i : ℕ) × (x : X) × (slice_get xs i ≡ Some x) × (p x ≡ true)
any-index p [] h = cc h
any-index p (y ∷ ys) h = elim (or_cases (p y) (list_any p ys) h) [
  | inl here ↦ (0, y, refl, here)
  | inr there ↦ let (i, x, at, t) = any-index p ys there in (suc i, x, at, t)
]

pub any-among : (p : List ℕ → Bool) (ns : List (List ℕ)) (n : List ℕ) → among ns n ≡ true → p n ≡ true → list_any p ns ≡ true
any-among p [] n h t = cc h
any-among p (m ∷ ms) n h t = elim (or_cases (bytes_eq m n) (among ms n) h) [
  | inl here ↦ or-left (p m) (list_any p ms) (ap p (same-true m n here) ∙ t)
  | inr there ↦ or-right (p m) (list_any p ms) (any-among p ms n there t)
]

pub all-at : {X : Type 0} (P : X → Type 0) (xs : List X) → ((i : ℕ) (x : X) → slice_get xs i ≡ Some x → P x) → AllByRecursion P xs
all-at P [] h = tt
all-at P (x ∷ xs) h = (h 0 x refl, all-at P xs (λ i y at. h (suc i) y at))

all-among : (P : List ℕ → Type 0) (ns : List (List ℕ)) → ((n : List ℕ) → among ns n ≡ true → P n) → AllByRecursion P ns
all-among P [] h = tt
all-among P (m ∷ ms) h = (h m (or-left (bytes_eq m m) (among ms m) (same-refl m)), all-among P ms (λ n a. h n (or-right (bytes_eq m n) (among ms n) a)))

-- the nets that a statement drives are among all that are driven
driven-among : (ss : List Statement) (i : ℕ) (s : Statement) (n : List ℕ) → slice_get ss i ≡ Some s → among (driven_by s) n ≡ true → among (all_driven ss) n ≡ true
driven-among [] i s n h a = cc h
driven-among (x ∷ xs) zero s n h a = any-append (λ w. bytes_eq w n) (driven_by x) (all_driven xs) ∙ or-left (among (driven_by x) n) (among (all_driven xs) n) (let e : x ≡ s = cc in ap (λ y. among (driven_by y) n) e ∙ a)
driven-among (x ∷ xs) (suc i) s n h a = any-append (λ w. bytes_eq w n) (driven_by x) (all_driven xs) ∙ or-right (among (driven_by x) n) (among (all_driven xs) n) (driven-among xs i s n h a)

take-at : {X : Type 0} (xs : List X) (i j : ℕ) (x : X) → slice_get xs i ≡ Some x → i < j → slice_get (take j xs) i ≡ Some x
take-at xs i zero x h l = absurd (omega (arith, l))
take-at [] i (suc j) x h l = cc h
take-at (y ∷ ys) zero (suc j) x h l = h
take-at (y ∷ ys) (suc i) (suc j) x h l = take-at ys i j x h (omega (arith, l))

-- the numbers of names
pub number-in : (number : List ℕ → Option ℕ) (ns : List (List ℕ)) (n : List ℕ) (i : ℕ) → among ns n ≡ true → number n ≡ Some i → (k : ℕ) × (slice_get (numbers_of number ns) k ≡ Some i)
number-in number [] n i h e = cc h
number-in number (m ∷ ms) n i h e = elim (or_cases (bytes_eq m n) (among ms n) h) [
  | inl here ↦ (0, ap (λ o. slice_get (with_number o (numbers_of number ms)) 0) (ap number (same-true m n here) ∙ e))
  | inr there ↦ let (k, at) = number-in number ms n i there e in behind (number m) k at
]
  where
    behind : (o : Option ℕ) (k : ℕ) → slice_get (numbers_of number ms) k ≡ Some i → (k : ℕ) × (slice_get (with_number o (numbers_of number ms)) k ≡ Some i)
    behind None k at = (k, at)
    behind (Some j) k at = (suc k, at)

pub in-numbers : (number : List ℕ → Option ℕ) (ns : List (List ℕ)) (k i : ℕ) → slice_get (numbers_of number ns) k ≡ Some i → (n : List ℕ) × (among ns n ≡ true) × (number n ≡ Some i)
in-numbers number [] k i h = cc h
in-numbers number (m ∷ ms) k i h = go (number m) refl k h (λ k h. in-numbers number ms k i h)
  where
    later : (n : List ℕ) × (among ms n ≡ true) × (number n ≡ Some i) → (n : List ℕ) × (among (m ∷ ms) n ≡ true) × (number n ≡ Some i)
    later (n, a, e) = (n, or-right (bytes_eq m n) (among ms n) a, e)

    go : (o : Option ℕ) → number m ≡ o → (k : ℕ) → slice_get (with_number o (numbers_of number ms)) k ≡ Some i
        → ((k : ℕ) → slice_get (numbers_of number ms) k ≡ Some i → (n : List ℕ) × (among ms n ≡ true) × (number n ≡ Some i)) → (n : List ℕ) × (among (m ∷ ms) n ≡ true) × (number n ≡ Some i)
    go None e k h rest = later (rest k h)
    go (Some j) e zero h rest = (m, or-left (bytes_eq m m) (among ms m) (same-refl m), e ∙ h)
    go (Some j) e (suc k) h rest = later (rest k h)

-- each need of a statement is a statement
pub needs-within : (drivers : List ℕ → Option ℕ) (stmts : List Stmt) (needs : List (List ℕ)) → needs ≡ all_needs drivers stmts → AreNumbers drivers (length stmts) → AreWithin needs
needs-within drivers stmts needs is numbers i k j need =
    let long : length needs ≡ length stmts = (let a = ap length is in let c = length-map stmts (stmt_needs drivers) in omega (arith, a, c)) in
    let l = at-list stmts i (ap (λ ls. slice_get (get_or ls i []) k) (sym is) ∙ need) in
    omega (arith, l, long)
  where
    at-list : (xs : List Stmt) (i : ℕ) → slice_get (get_or (all_needs drivers xs) i []) k ≡ Some j → j < length stmts
    at-list [] i h = cc h
    at-list (x ∷ xs) zero h = go x.clocked h
      where
        go : (b : Bool) → slice_get (if b then [] else numbers_of drivers (nets_of (expr_seen x.expr))) k ≡ Some j → j < length stmts
        go true h = cc h
        go false h = let (n, a, e) = in-numbers drivers (nets_of (expr_seen x.expr)) k j h in numbers n j e
    at-list (x ∷ xs) (suc i) h = at-list xs i h

-- the statement of the program of a number
pub statement-of : (xs : List Stmt) (es : List Event) (ts : List Statement) (i : ℕ) (t : Statement) → AreStatements xs es ts → slice_get ts i ≡ Some t → (x : Stmt) × (e : Event) × (slice_get xs i ≡ Some x) × IsStatement x e t
statement-of [] [] [] i t h at = cc at
statement-of [] [] (u ∷ ts) i t h at = absurd h
statement-of [] (e ∷ es) ts i t h at = absurd h
statement-of (y ∷ ys) [] ts i t h at = absurd h
statement-of (y ∷ ys) (e ∷ es) [] i t h at = absurd h
statement-of (y ∷ ys) (e ∷ es) (u ∷ ts) zero t h at = let f : u ≡ t = cc in (y, e, refl, subst (IsStatement y e) f h.0)
statement-of (y ∷ ys) (e ∷ es) (u ∷ ts) (suc i) t h at = statement-of ys es ts i t h.1 at

pub same-count : (xs : List Stmt) (es : List Event) (ts : List Statement) → AreStatements xs es ts → length xs ≡ length ts
same-count [] [] [] h = refl
same-count [] [] (t ∷ ts) h = absurd h
same-count [] (e ∷ es) ts h = absurd h
same-count (x ∷ xs) [] ts h = absurd h
same-count (x ∷ xs) (e ∷ es) [] h = absurd h
same-count (x ∷ xs) (e ∷ es) (t ∷ ts) h = ap suc (same-count xs es ts h.1)

-- an assignment that is fed
pub feeds-assign : (from to : List ℕ) (s : Statement) → feeds from to s ≡ true → (x : List ℕ) × (e : Term) × (s ≡ Assign x e) × (x ≡ to) × (among (nets_of (expr_of e)) from ≡ true)
feeds-assign from to (Assign x e) h = (x, e, refl, same-true x to (and-left (bytes_eq x to) (among (nets_of (expr_of e)) from) h), and-right (bytes_eq x to) (among (nets_of (expr_of e)) from) h)
feeds-assign from to (Clocked c x e) h = cc h
feeds-assign from to (Resettable c low reset negated test x width value again e) h = cc h

only : (x n : List ℕ) → among (x ∷ []) n ≡ true → x ≡ n
only x n h = elim (or_cases (bytes_eq x n) false h) [ inl e ↦ same-true x n e | inr e ↦ cc e ]

drives-own : (to : List ℕ) → among (to ∷ []) to ≡ true
drives-own to = or-left (bytes_eq to to) false (same-refl to)

module _ (drivers : List ℕ → Option ℕ) (stmts : List Stmt) (events : List Event) (ss : List Statement) (are : AreStatements stmts events ss) (d : AreDrivers drivers ss) (single : IsSingle ss)
    (needs : List (List ℕ)) (is : needs ≡ all_needs drivers stmts) (ranks : List (Option ℕ)) (order : List ℕ) (ranked : AreLevels needs ranks order) where
  earlier : (i j : ℕ) (s t : Statement) (n : List ℕ) → slice_get ss i ≡ Some s → slice_get ss j ≡ Some t → among (driven_by s) n ≡ true → among (driven_by t) n ≡ true → i < j → ⊥
  earlier i j s t n a b p q l =
      let e : list_any (among (all_driven (take j ss))) (driven_by t) ≡ true = any-among (among (all_driven (take j ss))) (driven_by t) n q (driven-among (take j ss) i s n (take-at ss i j s a l) p) in
      cc (sym (single j t b) ∙ e)

  -- a net has one driver
  one-driver : (i j : ℕ) (s t : Statement) (n : List ℕ) → slice_get ss i ≡ Some s → slice_get ss j ≡ Some t → among (driven_by s) n ≡ true → among (driven_by t) n ≡ true → i ≡ j
  one-driver i j s t n a b p q = elim (cases_lt i j) [
    | inl l ↦ absurd (earlier i j s t n a b p q l)
    | inr l ↦ elim (cases_lt j i) [ inl m ↦ absurd (earlier j i t s n b a q p m) | inr m ↦ omega (arith, l, m) ]
  ]

  -- and that has its number
  driver-is : (i : ℕ) (s : Statement) (n : List ℕ) → slice_get ss i ≡ Some s → among (driven_by s) n ≡ true → drivers n ≡ Some i
  driver-is i s n a p = go (drivers n) refl (d.driven n ∙ driven-among ss i s n a p)
    where
      go : (o : Option ℕ) → drivers n ≡ o → is_some (drivers n) ≡ true → drivers n ≡ Some i
      go None e t = cc (sym (ap is_some e) ∙ t)
      go (Some j) e t = let (u, b, q) = d.at n j e in let same = one-driver j i u s n b a q p in e ∙ ap Some same

  needs-at : (i : ℕ) (x : Stmt) → slice_get stmts i ≡ Some x → get_or needs i [] ≡ stmt_needs drivers x
  needs-at i x at = ap (λ l. get_or l i []) is ∙ mapped-at (stmt_needs drivers) stmts i x [] at

  needs-assign : (i : ℕ) (to : List ℕ) (e : Term) → slice_get ss i ≡ Some (Assign to e) → get_or needs i [] ≡ numbers_of drivers (nets_of (expr_of e))
  needs-assign i to e at =
      let (x, v, there, st) = statement-of stmts events ss i (Assign to e) are at in
      needs-at i x there
      ∙ (ap (λ b. if b then [] else numbers_of drivers (nets_of (expr_seen x.expr))) (ap (λ y. y.clocked) st.does)
      ∙ ap (numbers_of drivers) (nets-statement x v (Assign to e) st))

  counts : length needs ≡ length ss
  counts = let a = ap length is in let c = length-map stmts (stmt_needs drivers) in let e = same-count stmts events ss are in omega (arith, a, c, e)

  -- an assignment that has no rank
  record Stuck : Type 0 where
    number : ℕ
    to : List ℕ
    term : Term
    at : slice_get ss number ≡ Some (Assign to term)
    free : rank_at ranks number ≡ None

  stuck-at : (i : ℕ) → i < length needs → rank_at ranks i ≡ None → (x : Stuck) × (x.number ≡ i)
  stuck-at i l free =
      let c = counts in
      let (s, at) = some-at ss i (omega (arith, l, c)) in
      go s at
    where
      no-need : (s : Statement) → slice_get ss i ≡ Some s → ((x : Stmt) (v : Event) → IsStatement x v s → x.clocked ≡ true) → ⊥
      no-need s at clocked =
          let (k, j, need, none) = ranked.stays i l free in
          let (x, v, there, st) = statement-of stmts events ss i s are at in
          let e : get_or needs i [] ≡ [] = needs-at i x there ∙ ap (λ b. if b then [] else numbers_of drivers (nets_of (expr_seen x.expr))) (clocked x v st) in
          cc (sym (ap (λ ks. slice_get ks k) e) ∙ need)

      go : (s : Statement) → slice_get ss i ≡ Some s → (x : Stuck) × (x.number ≡ i)
      go (Assign to e) at = (record { number = i; to = to; term = e; at = at; free = free }, refl)
      go (Clocked c to e) at = absurd (no-need (Clocked c to e) at (λ x v st. ap (λ y. y.clocked) st.does))
      go (Resettable c low reset negated test to width value again e) at = absurd (no-need (Resettable c low reset negated test to width value again e) at (λ x v st. ap (λ y. y.clocked) st.does))

  next : (x : Stuck) → (y : Stuck) × (among (nets_of (expr_of x.term)) y.to ≡ true)
  next x =
      let c = counts in let l = get-within ss x.number (Assign x.to x.term) x.at in
      let (k, j, need, none) = ranked.stays x.number (omega (arith, l, c)) x.free in
      let (n, a, e) = in-numbers drivers (nets_of (expr_of x.term)) k j (ap (λ ks. slice_get ks k) (sym (needs-assign x.number x.to x.term x.at)) ∙ need) in
      let (s, b, q) = d.at n j e in
      let m = get-within ss j s b in
      let (y, same) = stuck-at j (omega (arith, m, c)) none in
      let f : Some s ≡ Some (Assign y.to y.term) = sym b ∙ (ap (slice_get ss) (sym same) ∙ y.at) in
      let f' : s ≡ Assign y.to y.term = cc in
      let own : y.to ≡ n = only y.to n (ap (λ t. among (driven_by t) n) (sym f') ∙ q) in
      (y, ap (among (nets_of (expr_of x.term))) own ∙ a)

  walk : ℕ → Stuck → Stuck
  walk zero x = x
  walk (suc m) x = (next (walk m x)).0

  goes-on : (x : Stuck) → GoesOn ss x.to
  unfolding walk
  goes-on x = record {
    path = λ m. (walk m x).to;
    begins = refl;
    step = λ m. subst (λ k. list_any (feeds (walk k x).to (walk m x).to) ss ≡ true) (sym (add-one m)) (fed (walk m x));
  }
    where
      fed : (y : Stuck) → list_any (feeds (next y).0.to y.to) ss ≡ true
      fed y = any-at (feeds (next y).0.to y.to) ss y.number (Assign y.to y.term) y.at (rw (same-refl y.to) (next y).1)

  -- from a ranked assignment one cannot go on for ever
  no-way : (b i r : ℕ) (to : List ℕ) (e : Term) → slice_get ss i ≡ Some (Assign to e) → rank_at ranks i ≡ Some r → r < b → GoesOn ss to → ⊥
  no-way zero i r to e at rank l g = omega (arith, l)
  no-way (suc b) i r to e at rank l g =
      let (j, s, there, fed) = any-index (feeds (g.path 1) (g.path 0)) ss (g.step 0) in
      let (x, f, is_s, x_to, reads) = feeds-assign (g.path 1) (g.path 0) s fed in
      let x_is : x ≡ to = x_to ∙ g.begins in
      let same : j ≡ i = one-driver j i s (Assign to e) to there at (ap (λ t. among (driven_by t) to) is_s ∙ (ap (λ y. among (y ∷ []) to) x_is ∙ drives-own to)) (drives-own to) in
      let both : Some (Assign x f) ≡ Some (Assign to e) = sym (ap Some is_s) ∙ (sym there ∙ (ap (slice_get ss) same ∙ at)) in
      let f_e : f ≡ e = cc in
      let reads' : among (nets_of (expr_of e)) (g.path 1) ≡ true = ap (λ t. among (nets_of (expr_of t)) (g.path 1)) (sym f_e) ∙ reads in
      let (j2, s2, there2, fed2) = any-index (feeds (g.path 2) (g.path 1)) ss (g.step 1) in
      let (x2, e2, is_s2, x2_to, reads2) = feeds-assign (g.path 2) (g.path 1) s2 fed2 in
      let drives2 : among (driven_by s2) (g.path 1) ≡ true = ap (λ t. among (driven_by t) (g.path 1)) is_s2 ∙ (ap (λ y. among (y ∷ []) (g.path 1)) x2_to ∙ drives-own (g.path 1)) in
      let (k, number) = number-in drivers (nets_of (expr_of e)) (g.path 1) j2 reads' (driver-is j2 s2 (g.path 1) there2 drives2) in
      let (q, rank2, lower) = ranked.rises i r k j2 rank (ap (λ ks. slice_get ks k) (needs-assign i to e at) ∙ number) in
      no-way b j2 q x2 e2 (there2 ∙ ap Some is_s2) rank2 (omega (arith, l, lower)) (record { path = λ m. g.path (m + 1); begins = sym x2_to; step = λ m. g.step (m + 1) })

  pub looping-unranked : (i : ℕ) → IsLooping ss i → IsUnranked ranks i
  looping-unranked i (to, e, at, g) =
      let l = get-within ss i (Assign to e) at in let c = counts in let s = ranked.sized in
      (omega (arith, l, c, s), go (rank_at ranks i) refl)
    where
      go : (o : Option ℕ) → rank_at ranks i ≡ o → rank_at ranks i ≡ None
      go None e = e
      go (Some r) rank = absurd (no-way (suc r) i r to e at rank (omega arith) g)

  pub unranked-looping : (i : ℕ) → IsUnranked ranks i → IsLooping ss i
  unranked-looping i (l, free) =
      let s = ranked.sized in
      let (x, same) = stuck-at i (omega (arith, l, s)) free in
      (x.to, x.term, ap (slice_get ss) (sym same) ∙ x.at, goes-on x)

  -- where each has a rank, the ranks rise along the assignments
  rank-of : List ℕ → ℕ
  rank-of n = option_map_or (λ i. option_map_or suc (rank_at ranks i) 0) (drivers n) 0

  pub ranks-rise : ((i : ℕ) → IsUnranked ranks i → ⊥) → (rank : List ℕ → ℕ) × Rises rank ss
  unfolding rank-of
  ranks-rise none = (rank-of, all-at (RisesAlong rank-of) ss along)
    where
      below : (i r : ℕ) (n : List ℕ) (ks : List ℕ) → rank_at ranks i ≡ Some r → ((j : ℕ) → drivers n ≡ Some j → (k : ℕ) × (need_at needs i k ≡ Some j)) → rank-of n < suc r
      below i r n ks rank need = go (drivers n) refl
        where
          go : (o : Option ℕ) → drivers n ≡ o → rank-of n < suc r
          go None e = let z : rank-of n ≡ 0 = ap (λ o. option_map_or (λ i. option_map_or suc (rank_at ranks i) 0) o 0) e in omega (arith, z)
          go (Some j) e =
              let (k, at) = need j e in
              let (q, rank2, lower) = ranked.rises i r k j rank at in
              let z : rank-of n ≡ suc q = ap (λ o. option_map_or (λ i. option_map_or suc (rank_at ranks i) 0) o 0) e ∙ ap (λ o. option_map_or suc o 0) rank2 in
              omega (arith, z, lower)

      has-rank : (i : ℕ) → i < length ranks → (r : ℕ) × (rank_at ranks i ≡ Some r)
      has-rank i l = go (rank_at ranks i) refl
        where
          go : (o : Option ℕ) → rank_at ranks i ≡ o → (r : ℕ) × (rank_at ranks i ≡ Some r)
          go None e = absurd (none i (l, e))
          go (Some r) e = (r, e)

      along : (i : ℕ) (s : Statement) → slice_get ss i ≡ Some s → RisesAlong rank-of s
      along i (Clocked c to e) at = tt
      along i (Resettable c low reset negated test to width value again e) at = tt
      along i (Assign to e) at =
          let l = get-within ss i (Assign to e) at in let c = counts in let s = ranked.sized in
          let (r, rank) = has-rank i (omega (arith, l, c, s)) in
          let top : rank-of to ≡ suc r = ap (λ o. option_map_or (λ i. option_map_or suc (rank_at ranks i) 0) o 0) (driver-is i (Assign to e) to at (drives-own to)) ∙ ap (λ o. option_map_or suc o 0) rank in
          all-among (λ n. rank-of n < rank-of to) (nets_of (expr_of e))
          (λ n a. subst (λ m. rank-of n < m) (sym top)
          (below i r n [] rank (λ j drives. let (k, number) = number-in drivers (nets_of (expr_of e)) n j a drives in (k, ap (λ ks. slice_get ks k) (needs-assign i to e at) ∙ number))))

  pub rises-if-none : (places : List ℕ) (found : Option Place) → Finds (Stands (IsUnranked ranks) places) found → IfNone found ((rank : List ℕ → ℕ) × Rises rank ss)
  rises-if-none places None h = ranks-rise (λ i u. h (get_or places i 0) (i, u, refl))
  rises-if-none places (Some p) h = tt

-- the things of a front, and their numbers
pub numbers-more : {A : Type 0} (number : A → Option ℕ) (ts : List A) (i : ℕ) (e : A) → i < length ts
    → numbers_of number (take (i + 1) ts) ≡ numbers_of number (take i ts) ++ with_number (number (get_or ts i e)) []
numbers-more {A} number ts i e l = ap (λ n. numbers_of number (take n ts)) (add-one i) ∙ go ts i l
  where
    behind : (o : Option ℕ) (xs ys zs : List ℕ) → xs ≡ ys ++ zs → with_number o xs ≡ with_number o ys ++ zs
    behind None xs ys zs h = h
    behind (Some j) xs ys zs h = ap (λ l. j ∷ l) h

    go : (ts : List A) (i : ℕ) → i < length ts → numbers_of number (take (suc i) ts) ≡ numbers_of number (take i ts) ++ with_number (number (get_or ts i e)) []
    go [] i l = absurd (omega (arith, l))
    go (t ∷ ts) zero l = refl
    go (t ∷ ts) (suc i) l = behind (number t) (numbers_of number (take (suc i) ts)) (numbers_of number (take i ts)) (with_number (number (get_or ts i e)) []) (go ts i (omega (arith, l)))

pub numbers-map : {A B : Type 0} (number : B → Option ℕ) (f : A → B) (ts : List A) → numbers_of number (map f ts) ≡ numbers_of (λ t. number (f t)) ts
numbers-map number f [] = refl
numbers-map number f (t ∷ ts) = ap (with_number (number (f t))) (numbers-map number f ts)

pub unranked-test : (ranks : List (Option ℕ)) (i : ℕ) (b : Bool) → i < length ranks → is_some (rank_at ranks i) ≡ not b → (IsUnranked ranks i → b ≡ true) × (b ≡ true → IsUnranked ranks i)
unranked-test ranks i b l h = (λ u. go (rank_at ranks i) b u.1 h, λ t. (l, back (rank_at ranks i) (h ∙ ap not t)))
  where
    go : (o : Option ℕ) (b : Bool) → o ≡ None → is_some o ≡ not b → b ≡ true
    go o true e t = refl
    go None false e t = cc t
    go (Some r) false e t = cc e

    back : (o : Option ℕ) → is_some o ≡ false → o ≡ None
    back None h = refl
    back (Some r) h = cc h

pub number-pushed : {A : Type 0} (number : A → Option ℕ) (ts : List A) (i : ℕ) (e : A) (xs : List ℕ) (j : ℕ) → i < length ts → xs ≡ numbers_of number (take i ts) → Some j ≡ number (get_or ts i e)
    → xs ++ j ∷ [] ≡ numbers_of number (take (i + 1) ts)
number-pushed number ts i e xs j l h is = ap (λ l. l ++ j ∷ []) h ∙ (ap (λ o. numbers_of number (take i ts) ++ with_number o []) is ∙ sym (numbers-more number ts i e l))

pub number-skipped : {A : Type 0} (number : A → Option ℕ) (ts : List A) (i : ℕ) (e : A) (xs : List ℕ) → i < length ts → xs ≡ numbers_of number (take i ts) → None ≡ number (get_or ts i e)
    → xs ≡ numbers_of number (take (i + 1) ts)
number-skipped number ts i e xs l h is =
    h ∙ (sym (append-nil (numbers_of number (take i ts))) ∙ (ap (λ o. numbers_of number (take i ts) ++ with_number o []) is ∙ sym (numbers-more number ts i e l)))
