-- What drives each net, statement after statement.
use Rattle.std.specs.Bool.{beq}
use Rattle.std.specs.List.{list_all, list_any}
use Rattle.std.specs.Str.{bytes_eq}
use Rattle.std.proofs.Common.{◌≡◌, ℕ, zero, suc, ◌<◌, ◌≤◌, Bool, true, false, not, ◌&&◌, ◌||◌, if◌then◌else◌, ◌==◌, nat_lt, Option, Some, None, is_some, List, [], ◌∷◌, ◌++◌, length, map, take, get_or, slice_get, refl, ap, sym, ◌∙◌, subst, inl, inr, arith}
use Rattle.std.proofs.lemmas.Bool.{or_cases}
use Rattle.std.proofs.lemmas.Bool.Decides.{nat_tests}
use Rattle.std.proofs.lemmas.List.{take_all}
use Rattle.v_design.proofs.Tests.{and-left, and-right, same-true}
use Rattle.v_design.proofs.Names.{both, or-left, or-right}
use Rattle.v_design.specs.Lexemes.{among}
use Rattle.v_design.specs.Expr.{Expr, Exprs, Net, Bits, Const, Cat, One, Two, Pick, none, more, nets_of, nets_of_each}
use Rattle.v_design.specs.Tree.{Statement, Assign, Clocked, Resettable}
use Rattle.v_design.specs.Design.{step_of}
use Rattle.v_design.specs.Seen.{expr_seen}
use Rattle.v_design.specs.WellFormed.{Net as specNet, Kind, Given, Wired, Kept, all_among, clock, drives_its_kind, expr, has, is_clock, is_pin, is_reset, names, same_kind, used}
use Rattle.v_design.specs.declared.design.Stmt.{Stmt}
use Rattle.v_syntax.specs.Faulty.{all_driven, driven_by}
use Rattle.v_syntax.specs.Syntax.{AreStatements, IsStatement, capped, capped_all}
use Rattle.v_syntax.specs.declared.parsed.Event.{Event}
use Rattle.v_syntax.specs.declared.parsed.Event.TheVariants as event
use Rattle.v_check.specs.declared.nets.Net.{Net as NetOf}
use Rattle.v_check.specs.declared.drivers.Drivers.{Drivers}
use Rattle.v_check.specs.Drivers.{AreDrivers, again_of, driver_at, driver_of}
use Rattle.v_check.specs.Nets.{net_seen, nets_seen, number_of}
use Rattle.v_check.proofs.Tables.{low-number, number-low, same-number}
use Rattle.plain_lemmas.proofs.Lists.{take-get_more as front_more}

-- the nets that a statement of the program drives
abbrev pub driven_names : Stmt → Event → List (List ℕ)
driven_names s event.None = s.to ∷ []
driven_names s (event.Clock c) = s.to ∷ []
driven_names s (event.Reset c n t a) = s.to ∷ a.now ∷ []

mutual
  pub nets-capped : (e : Expr) → nets_of (capped e) ≡ nets_of e
  nets-capped (Net n) = refl
  nets-capped (Bits n hi lo) = refl
  nets-capped (Const w v) = refl
  nets-capped (Cat es) = nets-capped_all es
  nets-capped (One op e) = nets-capped e
  nets-capped (Two op a b) = rw (nets-capped a, nets-capped b) refl
  nets-capped (Pick c a b) = rw (nets-capped c, nets-capped a, nets-capped b) refl

  nets-capped_all : (es : Exprs) → nets_of_each (capped_all es) ≡ nets_of_each es
  nets-capped_all none = refl
  nets-capped_all (more e es) = rw (nets-capped e, nets-capped_all es) refl

expr-step : (t : Statement) → (step_of t).expr ≡ expr t
expr-step (Assign to e) = refl
expr-step (Clocked c to e) = refl
expr-step (Resettable c low reset negated test to width value again e) = refl

-- a statement of the program reads the nets that the tree's reads
pub nets-statement : (s : Stmt) (e : Event) (t : Statement) → IsStatement s e t → nets_of (expr_seen s.expr) ≡ nets_of (expr t)
nets-statement s e t h = ap (λ x. nets_of x.expr) h.does ∙ (nets-capped (step_of t).expr ∙ ap nets_of (expr-step t))

-- and drives the nets that it drives
pub driven-statement : (s : Stmt) (e : Event) (t : Statement) → IsStatement s e t → driven_names s e ≡ driven_by t
driven-statement s event.None (Assign to x) h = ap (λ y. y.to ∷ []) h.does
driven-statement s event.None (Clocked c to x) h = absurd h.spells
driven-statement s event.None (Resettable c low reset negated test to width value again x) h = absurd h.spells
driven-statement s (event.Clock k) (Assign to x) h = absurd h.spells
driven-statement s (event.Clock k) (Clocked c to x) h = ap (λ y. y.to ∷ []) h.does
driven-statement s (event.Clock k) (Resettable c low reset negated test to width value again x) h = absurd h.spells
driven-statement s (event.Reset k n t a) (Assign to x) h = absurd h.spells
driven-statement s (event.Reset k n t a) (Clocked c to x) h = absurd h.spells
driven-statement s (event.Reset k n t a) (Resettable c low reset negated test to width value again x) h =
    let first : s.to ≡ to = ap (λ y. y.to) h.does in rw (first, h.spells.3) refl

-- the statement of a number
pub statement-at : (xs : List Stmt) (es : List Event) (ts : List Statement) (i : ℕ) (x : Stmt) (d : Event) → AreStatements xs es ts → i < length xs → x ≡ get_or xs i x
    → (t : Statement) × (slice_get ts i ≡ Some t) × IsStatement x (get_or es i d) t
statement-at [] es ts i x d h l is = absurd (omega (arith, l))
statement-at (y ∷ ys) [] ts i x d h l is = absurd h
statement-at (y ∷ ys) (e ∷ es) [] i x d h l is = absurd h
statement-at (y ∷ ys) (e ∷ es) (t ∷ ts) zero x d h l is = (t, refl, subst (λ z. IsStatement z e t) (sym is) h.0)
statement-at (y ∷ ys) (e ∷ es) (t ∷ ts) (suc i) x d h l is = statement-at ys es ts i x d h.1 (omega (arith, l)) is

pub statement-within : (xs : List Stmt) (es : List Event) (ts : List Statement) (i : ℕ) (t : Statement) → AreStatements xs es ts → slice_get ts i ≡ Some t → i < length xs
statement-within [] [] [] i t h at = cc at
statement-within [] [] (u ∷ ts) i t h at = absurd h
statement-within [] (e ∷ es) ts i t h at = absurd h
statement-within (y ∷ ys) [] ts i t h at = absurd h
statement-within (y ∷ ys) (e ∷ es) [] i t h at = absurd h
statement-within (y ∷ ys) (e ∷ es) (u ∷ ts) zero t h at = omega arith
statement-within (y ∷ ys) (e ∷ es) (u ∷ ts) (suc i) t h at = let l = statement-within ys es ts i t h.1 at in omega (arith, l)

-- elements of a front

front_last : {A : Type 0} (xs : List A) (i : ℕ) (x : A) → slice_get xs i ≡ Some x → slice_get (take (suc i) xs) i ≡ Some x
front_last [] i x h = cc h
front_last (y ∷ ys) zero x h = h
front_last (y ∷ ys) (suc i) x h = front_last ys i x h

pub any-append : {A : Type 0} (p : A → Bool) (xs ys : List A) → list_any p (xs ++ ys) ≡ (list_any p xs || list_any p ys)
any-append p [] ys = refl
any-append p (x ∷ xs) ys = go (p x) (any-append p xs ys)
  where
    go : (b : Bool) → list_any p (xs ++ ys) ≡ (list_any p xs || list_any p ys) → (b || list_any p (xs ++ ys)) ≡ (b || list_any p xs || list_any p ys)
    go true h = refl
    go false h = h

-- the drivers of one statement more
among-more : (ss : List Statement) (i : ℕ) (s : Statement) (n : List ℕ) → slice_get ss i ≡ Some s → among (all_driven (take (suc i) ss)) n ≡ (among (all_driven (take i ss)) n || among (driven_by s) n)
among-more [] i s n h = cc h
among-more (x ∷ xs) zero s n h =
    let e : x ≡ s = cc in
    any-append (λ w. bytes_eq w n) (driven_by x) (all_driven []) ∙ (or-none (among (driven_by x) n) ∙ ap (λ y. among (driven_by y) n) e)
  where
    or-none : (b : Bool) → (b || false) ≡ b
    or-none true = refl
    or-none false = refl
among-more (x ∷ xs) (suc i) s n h =
    any-append (λ w. bytes_eq w n) (driven_by x) (all_driven (take (suc i) xs))
    ∙ (ap (λ b. among (driven_by x) n || b) (among-more xs i s n h)
    ∙ (or-assoc (among (driven_by x) n) (among (all_driven (take i xs)) n) (among (driven_by s) n) ∙ ap (λ b. b || among (driven_by s) n) (sym (any-append (λ w. bytes_eq w n) (driven_by x) (all_driven (take i xs))))))
  where
    or-assoc : (a b c : Bool) → (a || (b || c)) ≡ (a || b || c)
    or-assoc true b c = refl
    or-assoc false b c = refl

pub drivers_none : (drivers : List ℕ → Option ℕ) (ss : List Statement) → ((n : List ℕ) → drivers n ≡ None) → AreDrivers drivers (take 0 ss)
drivers_none drivers [] h = record { driven = λ n. ap is_some (h n); at = λ n i e. cc (sym (h n) ∙ e) }
drivers_none drivers (s ∷ ss) h = record { driven = λ n. ap is_some (h n); at = λ n i e. cc (sym (h n) ∙ e) }

pub drivers_more : (old new : List ℕ → Option ℕ) (ss : List Statement) (i : ℕ) (s : Statement) (ns : List (List ℕ)) → slice_get ss i ≡ Some s → ns ≡ driven_by s → AreDrivers old (take i ss)
    → ((n : List ℕ) → new n ≡ (if among ns n then Some i else old n)) → AreDrivers new (take (suc i) ss)
drivers_more old new ss i s ns here same h put = record {
  driven = λ n. ap is_some (put n) ∙ (go n (among ns n) (h.driven n) ∙ (ap (λ ms. among (all_driven (take i ss)) n || among ms n) same ∙ sym (among-more ss i s n here)));
  at = λ n j e. which n j (among ns n) refl (sym (put n) ∙ e);
}
  where
    go : (n : List ℕ) (b : Bool) → is_some (old n) ≡ among (all_driven (take i ss)) n → is_some (if b then Some i else old n) ≡ (among (all_driven (take i ss)) n || b)
    go n true e = sym (or-true (among (all_driven (take i ss)) n))
      where
        or-true : (b : Bool) → (b || true) ≡ true
        or-true true = refl
        or-true false = refl
    go n false e = e ∙ sym (or-none (among (all_driven (take i ss)) n))
      where
        or-none : (b : Bool) → (b || false) ≡ b
        or-none true = refl
        or-none false = refl

    which : (n : List ℕ) (j : ℕ) (b : Bool) → among ns n ≡ b → (if b then Some i else old n) ≡ Some j → (t : Statement) × (slice_get (take (suc i) ss) j ≡ Some t) × (among (driven_by t) n ≡ true)
    which n j true e f = let k : i ≡ j = cc in (s, ap (λ m. slice_get (take (suc i) ss) m) (sym k) ∙ front_last ss i s here, ap (λ ms. among ms n) (sym same) ∙ e)
    which n j false e f = let p = h.at n j f in (p.0, front_more ss i j p.0 p.1, p.2)

any-same : (p q : List ℕ → Bool) (xs : List (List ℕ)) → ((x : List ℕ) → p x ≡ q x) → list_any p xs ≡ list_any q xs
any-same p q [] h = refl
any-same p q (x ∷ xs) h = rw (h x, any-same p q xs h) refl

-- whether a net that a statement drives has a driver before
pub again-driven : (drivers : List ℕ → Option ℕ) (ss : List Statement) (i : ℕ) (s : Statement) (ns : List (List ℕ)) → ns ≡ driven_by s → AreDrivers drivers (take i ss)
    → list_any (λ n. is_some (drivers n)) ns ≡ list_any (among (all_driven (take i ss))) (driven_by s)
again-driven drivers ss i s ns same h = any-same (λ n. is_some (drivers n)) (among (all_driven (take i ss))) ns h.driven ∙ ap (list_any (among (all_driven (take i ss)))) same

-- the net that it drives, and that of its last branch
pub any-driven : (p : List ℕ → Bool) (s : Stmt) (e : Event) → (p s.to || p (again_of s e)) ≡ list_any p (driven_names s e)
any-driven p s event.None = twice (p s.to)
  where
    twice : (b : Bool) → (b || b) ≡ (b || false)
    twice true = refl
    twice false = refl
any-driven p s (event.Clock c) = twice (p s.to)
  where
    twice : (b : Bool) → (b || b) ≡ (b || false)
    twice true = refl
    twice false = refl
any-driven p s (event.Reset c n t a) = ap (λ b. p s.to || b) (last (p a.now))
  where
    last : (b : Bool) → b ≡ (b || false)
    last true = refl
    last false = refl

driven-used : (ns : List (List ℕ)) (s : Stmt) (e : Event) (t : Statement) → IsStatement s e t → all_among ns (used t) ≡ true → (among ns s.to ≡ true) × (among ns (again_of s e) ≡ true)
driven-used ns s event.None (Assign to x) h all =
    let first : s.to ≡ to = ap (λ y. y.to) h.does in
    let known : among ns s.to ≡ true = ap (among ns) first ∙ and-left (among ns to) _ all in
    (known, known)
driven-used ns s event.None (Clocked c to x) h all = absurd h.spells
driven-used ns s event.None (Resettable c low reset negated test to width value again x) h all = absurd h.spells
driven-used ns s (event.Clock k) (Assign to x) h all = absurd h.spells
driven-used ns s (event.Clock k) (Clocked c to x) h all =
    let first : s.to ≡ to = ap (λ y. y.to) h.does in
    let known : among ns s.to ≡ true = ap (among ns) first ∙ and-left (among ns to) _ (and-right (among ns c) _ all) in
    (known, known)
driven-used ns s (event.Clock k) (Resettable c low reset negated test to width value again x) h all = absurd h.spells
driven-used ns s (event.Reset k n t a) (Assign to x) h all = absurd h.spells
driven-used ns s (event.Reset k n t a) (Clocked c to x) h all = absurd h.spells
driven-used ns s (event.Reset k n t a) (Resettable c low reset negated test to width value again x) h all =
    let first : s.to ≡ to = ap (λ y. y.to) h.does in
    let rest = and-right (among ns test) _ (and-right (among ns reset) _ (and-right (among ns c) _ all)) in
    (ap (among ns) first ∙ and-left (among ns to) _ rest, ap (among ns) h.spells.3 ∙ and-left (among ns again) _ (and-right (among ns to) _ rest))

-- what is noted of the nets of a statement is noted of their names
pub driver-put : (nets : List NetOf) (old new : Drivers) (s : Stmt) (e : Event) (t : Statement) (i target last : ℕ) → IsStatement s e t → all_among (names (nets_seen nets)) (used t) ≡ true
    → target ≡ number_of nets s.to → last ≡ number_of nets (again_of s e) → length old.numbers.items ≡ length nets
    → (target < length old.numbers.items → last < length old.numbers.items → (k : ℕ) → driver_of new k ≡ (if (k == target || k == last) then Some i else driver_of old k))
    → (n : List ℕ) → driver_at nets new n ≡ (if among (driven_names s e) n then Some i else driver_at nets old n)
driver-put nets old new s e t i target last h all first second count put n =
    let (one, two) = driven-used (names (nets_seen nets)) s e t h all in
    let l = number-low nets s.to one in
    let m = number-low nets (again_of s e) two in
    put (omega (arith, l, first, count)) (omega (arith, m, second, count)) (number_of nets n)
    ∙ ap (λ b. if b then Some i else driver_at nets old n)
    (ap (λ k. number_of nets n == k || number_of nets n == last) first
    ∙ (ap (λ k. number_of nets n == number_of nets s.to || number_of nets n == k) second
    ∙ (rw (same-number nets s.to n one, same-number nets (again_of s e) n two) refl ∙ any-driven (λ w. bytes_eq w n) s e)))

-- a statement that drives a net of its kind names nets
has-among : (ns : List specNet) (k : Kind) (n : List ℕ) → has ns k n ≡ true → among (names ns) n ≡ true
has-among [] k n h = cc h
has-among (d ∷ ds) k n h = elim (or_cases (bytes_eq d.name n && same_kind d.kind k) (has ds k n) h) [
  | inl here ↦ or-left (bytes_eq d.name n) (among (names ds) n) (and-left (bytes_eq d.name n) (same_kind d.kind k) here)
  | inr there ↦ or-right (bytes_eq d.name n) (among (names ds) n) (has-among ds k n there)
]

pin-among : (ns : List specNet) (n : List ℕ) → is_pin ns n ≡ true → among (names ns) n ≡ true
pin-among [] n h = cc h
pin-among (d ∷ ds) n h = elim (or_cases (bytes_eq d.name n && same_kind d.kind Given && d.width == 1) (is_pin ds n) h) [
  | inl here ↦ or-left (bytes_eq d.name n) (among (names ds) n) (and-left (bytes_eq d.name n) (same_kind d.kind Given) (and-left (bytes_eq d.name n && same_kind d.kind Given) (d.width == 1) here))
  | inr there ↦ or-right (bytes_eq d.name n) (among (names ds) n) (pin-among ds n there)
]

pub kind-declared : (ns : List specNet) (t : Statement) → drives_its_kind ns t ≡ true → all_among (names ns) (nets_of (expr t)) ≡ true → all_among (names ns) (used t) ≡ true
kind-declared ns (Assign to e) h reads = both (among (names ns) to) _ (has-among ns Wired to h) reads
kind-declared ns (Clocked c to e) h reads =
    let pin = and-left (is_pin ns c) (bytes_eq c clock) (and-right (has ns Kept to) (is_clock ns c) h) in
    both (among (names ns) c) _ (pin-among ns c pin) (both (among (names ns) to) _ (has-among ns Kept to (and-left (has ns Kept to) (is_clock ns c) h)) reads)
kind-declared ns (Resettable c low reset negated test to width value again e) h reads =
    let a = has ns Kept to in
    let b = is_clock ns c in
    let d = is_reset ns reset in
    let f = bytes_eq test reset in
    let g = beq negated low in
    let five = and-left (a && b && d && f && g) (bytes_eq again to) h in
    let four = and-left (a && b && d && f) g five in
    let three = and-left (a && b && d) f four in
    let two = and-left (a && b) d three in
    let to_in = has-among ns Kept to (and-left a b two) in
    let reset_in = pin-among ns reset (and-left (is_pin ns reset) (not (bytes_eq reset clock)) (and-right (a && b) d three)) in
    let test_in : among (names ns) test ≡ true = ap (among (names ns)) (same-true test reset (and-right (a && b && d) f four)) ∙ reset_in in
    let again_in : among (names ns) again ≡ true = ap (among (names ns)) (same-true again to (and-right (a && b && d && f && g) (bytes_eq again to) h)) ∙ to_in in
    both (among (names ns) c) _ (pin-among ns c (and-left (is_pin ns c) (bytes_eq c clock) (and-right a b two)))
    (both (among (names ns) reset) _ reset_in (both (among (names ns) test) _ test_in (both (among (names ns) to) _ to_in (both (among (names ns) again) _ again_in reads))))

-- and one whose reads have the numbers of nets reads nets
pub reads-declared : (nets : List NetOf) (ns : List (List ℕ)) → list_all (λ i. nat_lt i (length nets)) (map (number_of nets) ns) ≡ true → all_among (names (nets_seen nets)) ns ≡ true
reads-declared nets [] h = refl
reads-declared nets (n ∷ ns) h =
    both (among (names (nets_seen nets)) n) (all_among (names (nets_seen nets)) ns)
    (low-number nets n (low (and-left (nat_lt (number_of nets n) (length nets)) (list_all (λ i. nat_lt i (length nets)) (map (number_of nets) ns)) h)))
    (reads-declared nets ns (and-right (nat_lt (number_of nets n) (length nets)) (list_all (λ i. nat_lt i (length nets)) (map (number_of nets) ns)) h))
  where
    low : nat_lt (number_of nets n) (length nets) ≡ true → number_of nets n < length nets
    low e = grind (arith, nat_tests)

-- what holds of a front and of the next element
pub all-more : {A : Type 0} (p : A → Bool) (xs : List A) (i : ℕ) (x : A) → slice_get xs i ≡ Some x → list_all p (take i xs) ≡ true → p x ≡ true → list_all p (take (suc i) xs) ≡ true
all-more p [] i x at h k = cc
all-more p (y ∷ ys) zero x at h k = let e : y ≡ x = cc in both (p y) true (ap p e ∙ k) refl
all-more p (y ∷ ys) (suc i) x at h k = both (p y) (list_all p (take (suc i) ys)) (and-left (p y) (list_all p (take i ys)) h) (all-more p ys i x at (and-right (p y) (list_all p (take i ys)) h) k)

pub wrong-test : (b k c a K C A : Bool) → b ≡ not (k && not c && not a) → k ≡ K → c ≡ C → a ≡ A → b ≡ not (K && not C && not A)
wrong-test b k c a K C A h p q r = h ∙ (ap (λ x. not (x && not c && not a)) p ∙ (ap (λ x. not (K && not x && not a)) q ∙ ap (λ x. not (K && not C && not x)) r))

pub or-first : (d r S F : Bool) → d ≡ r → r ≡ true → r ≡ S → d ≡ (S || F)
or-first d true S F p q e = rw (← e) p
or-first d false S F p q e = cc q

pub or-second : (d f r S F : Bool) → d ≡ f → r ≡ false → r ≡ S → f ≡ F → d ≡ (S || F)
or-second d f false S F p q e g = rw (← e) (p ∙ g)
or-second d f true S F p q e g = cc q

pub net-at-place : (ns : List NetOf) (i : ℕ) (e : NetOf) → i < length ns → slice_get (nets_seen ns) i ≡ Some (net_seen (get_or ns i e))
net-at-place [] i e l = absurd (omega (arith, l))
net-at-place (x ∷ xs) zero e l = refl
net-at-place (x ∷ xs) (suc i) e l = net-at-place xs i e (omega (arith, l))

pub net-within : (ns : List NetOf) (i : ℕ) (n : specNet) → slice_get (nets_seen ns) i ≡ Some n → i < length ns
net-within [] i n h = cc h
net-within (x ∷ xs) zero n h = omega arith
net-within (x ∷ xs) (suc i) n h = let l = net-within xs i n h in omega (arith, l)

pub take-whole : (ss : List Statement) (xs : List Stmt) (es : List Event) (i : ℕ) → AreStatements xs es ss → length xs ≤ i → take i ss ≡ ss
take-whole ss xs es i h l = take_all i ss (omega (arith, l, same xs es ss h))
  where
    same : (xs : List Stmt) (es : List Event) (ts : List Statement) → AreStatements xs es ts → length xs ≡ length ts
    same [] [] [] h = refl
    same [] [] (t ∷ ts) h = absurd h
    same [] (e ∷ es) ts h = absurd h
    same (x ∷ xs) [] ts h = absurd h
    same (x ∷ xs) (e ∷ es) [] h = absurd h
    same (x ∷ xs) (e ∷ es) (t ∷ ts) h = ap suc (same xs es ts h.1)
