-- The assignments that drive what assignments read, and their order.
use Rattle.std.specs.List.{AllByRecursion}
use Rattle.std.specs.Str.{bytes_eq}
use Rattle.std.proofs.Common.{◌≡◌, ℕ, zero, suc, ◌+◌, ◌<◌, ◌≤◌, Bool, true, false, if◌then◌else◌, Option, Some, None, IsSome, List, [], ◌∷◌, ◌++◌, length, map, take, get_or, add-one, slice_get, refl, ap, sym, ◌∙◌, subst, inl, inr, arith}
use Rattle.std.proofs.lemmas.Bool.{cases_eq, or_cases}
use Rattle.std.proofs.lemmas.List.{length-map}
use Rattle.topological_order.specs.Levels.{AreLevels, AreWithin, need_at, rank_at}
use Rattle.v_design.specs.Lexemes.{among}
use Rattle.v_design.specs.Expr.{nets_of}
use Rattle.v_design.specs.Design.{Step}
use Rattle.v_design.specs.Seen.{step_seen}
use Rattle.v_design.specs.WellFormed.{AllBelow}
use Rattle.v_design.specs.declared.design.Stmt.{Stmt}
use Rattle.v_design.proofs.Tests.{same-refl}
use Rattle.cyc_sim.specs.Order.{Drivers, Assigns, AreDrivers, IsAcyclic, IsSettlingOrder, all_needs, driver_at, numbers_of, step_needs, with_number}
use Rattle.plain_lemmas.proofs.Lists.{bytes_eq-same as same_bytes, each-get as each_got, each-unit as all-any, get-within as got_within, mapped-at, some-at}
use Rattle.plain_lemmas.proofs.Options.{some_is as some-of}

-- the numbers of names
pub numbers-append : (number : List ℕ → Option ℕ) (ms ns : List (List ℕ)) → numbers_of number (ms ++ ns) ≡ numbers_of number ms ++ numbers_of number ns
numbers-append number [] ns = refl
numbers-append number (m ∷ ms) ns = go (number m) (numbers-append number ms ns)
  where
    go : (o : Option ℕ) → numbers_of number (ms ++ ns) ≡ numbers_of number ms ++ numbers_of number ns → with_number o (numbers_of number (ms ++ ns)) ≡ with_number o (numbers_of number ms) ++ numbers_of number ns
    go None h = h
    go (Some i) h = ap (λ is. i ∷ is) h

number-in : (number : List ℕ → Option ℕ) (ns : List (List ℕ)) (n : List ℕ) (i : ℕ) → among ns n ≡ true → number n ≡ Some i → (k : ℕ) × (slice_get (numbers_of number ns) k ≡ Some i)
number-in number [] n i h e = cc h
number-in number (m ∷ ms) n i h e = elim (or_cases (bytes_eq m n) (among ms n) h) [
  | inl here ↦ (0, ap (λ o. slice_get (with_number o (numbers_of number ms)) 0) (ap number (same_bytes m n here) ∙ e))
  | inr there ↦ let (k, at) = number-in number ms n i there e in behind (number m) k at
]
  where
    behind : (o : Option ℕ) (k : ℕ) → slice_get (numbers_of number ms) k ≡ Some i → (k : ℕ) × (slice_get (with_number o (numbers_of number ms)) k ≡ Some i)
    behind None k at = (k, at)
    behind (Some j) k at = (suc k, at)

-- what has a number in a list, with what holds of each name
in-numbers : (number : List ℕ → Option ℕ) (P : List ℕ → Type 0) (ns : List (List ℕ)) (k i : ℕ) → AllByRecursion P ns → slice_get (numbers_of number ns) k ≡ Some i → (n : List ℕ) × P n × (number n ≡ Some i)
in-numbers number P [] k i all h = cc h
in-numbers number P (m ∷ ms) k i all h = go (number m) refl k h (λ k h. in-numbers number P ms k i all.1 h)
  where
    go : (o : Option ℕ) → number m ≡ o → (k : ℕ) → slice_get (with_number o (numbers_of number ms)) k ≡ Some i → ((k : ℕ) → slice_get (numbers_of number ms) k ≡ Some i → (n : List ℕ) × P n × (number n ≡ Some i))
        → (n : List ℕ) × P n × (number n ≡ Some i)
    go None e k h rest = rest k h
    go (Some j) e zero h rest = (m, all.0, e ∙ h)
    go (Some j) e (suc k) h rest = rest k h

past-none : {X Y : Type 0} (f : X → List Y) (xs : List X) (i k : ℕ) (y : Y) → slice_get (get_or (map f xs) i []) k ≡ Some y → (x : X) × (slice_get xs i ≡ Some x) × (slice_get (f x) k ≡ Some y)
past-none f [] i k y h = cc h
past-none f (x ∷ xs) zero k y h = (x, refl, h)
past-none f (x ∷ xs) (suc i) k y h = past-none f xs i k y h

-- the step of a statement
pub step-at : (items : List Stmt) (i : ℕ) (x : Stmt) → i < length items → x ≡ get_or items i x → slice_get (map step_seen items) i ≡ Some (step_seen x)
step-at [] i x l is = absurd (omega (arith, l))
step-at (y ∷ ys) zero x l is = ap (λ z. Some (step_seen z)) (sym is)
step-at (y ∷ ys) (suc i) x l is = step-at ys i x (omega (arith, l)) is

pub step-of : (all items : List Stmt) (i : ℕ) (x : Stmt) → items ≡ all → i < length items → x ≡ get_or items i x → slice_get (map step_seen all) i ≡ Some (step_seen x)
step-of all items i x same l is = ap (λ ys. slice_get (map step_seen ys) i) (sym same) ∙ step-at items i x l is

pub steps-past : (all items : List Stmt) (end : ℕ) → items ≡ all → length items ≤ end → length (map step_seen all) ≤ end
steps-past all items end same l = let a = length-map all step_seen in let b = ap length same in omega (arith, a, b, l)

-- as `AreDrivers`, where the steps from a number on are yet to come
pub record DriversBelow (drivers : Drivers) (ss : List Step) (end : ℕ) : Type 0 where
  pub driven : (i : ℕ) (s : Step) → i < end → slice_get ss i ≡ Some s → s.clocked ≡ false → IsSome (driver_at drivers s.to)
  pub assigned : (n : List ℕ) (i : ℕ) → driver_at drivers n ≡ Some i → Assigns ss i n

pub drivers-none : (drivers : Drivers) (ss : List Step) → ((n : List ℕ) → driver_at drivers n ≡ None) → DriversBelow drivers ss 0
drivers-none drivers ss none = record {
  driven = λ i s l at acts. absurd (omega (arith, l));
  assigned = λ n i at. absurd (let e : None ≡ Some i = sym (none n) ∙ at in cc);
}

pub drivers-skip : (drivers drivers' : Drivers) (ss : List Step) (i : ℕ) (s : Step) → slice_get ss i ≡ Some s → s.clocked ≡ true → drivers' ≡ drivers → DriversBelow drivers ss i → DriversBelow drivers' ss (i + 1)
drivers-skip drivers drivers' ss i s at kept same h = subst (λ d. DriversBelow d ss (i + 1)) (sym same) (record {
  driven = λ j t l there acts. elim (cases_eq j i) [
    | inl e ↦ absurd (let f : Some t ≡ Some s = sym there ∙ (ap (slice_get ss) e ∙ at) in let f' : t ≡ s = cc in let g : true ≡ false = sym kept ∙ (ap (λ x. x.clocked) (sym f') ∙ acts) in cc)
    | inr ne ↦ h.driven j t (omega (arith, l, ne)) there acts
  ];
  assigned = h.assigned;
})

pub drivers-more : (drivers drivers' : Drivers) (ss : List Step) (i : ℕ) (s : Step) (text : List ℕ) → slice_get ss i ≡ Some s → s.clocked ≡ false → text ≡ s.to
    → ((n : List ℕ) → driver_at drivers' n ≡ (if bytes_eq text n then Some i else driver_at drivers n)) → DriversBelow drivers ss i → DriversBelow drivers' ss (i + 1)
drivers-more drivers drivers' ss i s text at acts is updated h = record {
  driven = λ j t l there a. has (driver_at drivers' t.to) (driver_at drivers t.to) (bytes_eq text t.to) (updated t.to) (λ other. elim (cases_eq j i) [
    | inl e ↦ absurd (
        let f : Some t ≡ Some s = sym there ∙ (ap (slice_get ss) e ∙ at) in let f' : t ≡ s = cc in
        let g : bytes_eq text t.to ≡ true = ap (bytes_eq text) (ap (λ x. x.to) f' ∙ sym is) ∙ same-refl text in let z : true ≡ false = sym g ∙ other in cc
        )
    | inr ne ↦ h.driven j t (omega (arith, l, ne)) there a
  ]);
  assigned = λ n j e. from n j (bytes_eq text n) refl (sym (updated n) ∙ e);
}
  where
    has : (o old : Option ℕ) (b : Bool) → o ≡ (if b then Some i else old) → (b ≡ false → IsSome old) → IsSome o
    has o old true e rest = rw e refl
    has o old false e rest = subst IsSome (sym e) (rest refl)

    from : (n : List ℕ) (j : ℕ) (b : Bool) → bytes_eq text n ≡ b → (if b then Some i else driver_at drivers n) ≡ Some j → Assigns ss j n
    from n j true t e = let f : i ≡ j = cc in record { step = s; at = ap (slice_get ss) (sym f) ∙ at; acts = acts; to = sym is ∙ same_bytes text n t }
    from n j false t e = h.assigned n j e

pub drivers-all : (drivers : Drivers) (ss : List Step) (end : ℕ) → length ss ≤ end → DriversBelow drivers ss end → AreDrivers drivers ss
drivers-all drivers ss end l h = record {
  driven = λ i s at acts. h.driven i s (let m = got_within ss i s at in omega (arith, l, m)) at acts;
  assigned = h.assigned;
}

-- the needs of the steps of a front
pub needs-pushed : (number : List ℕ → Option ℕ) (items : List Stmt) (i : ℕ) (x : Stmt) (before after : List (List ℕ)) (needs : List ℕ) → i < length items → x ≡ get_or items i x → before ≡ all_needs number (map step_seen (take i items))
    → needs ≡ step_needs number (step_seen x) → after ≡ before ++ needs ∷ [] → after ≡ all_needs number (map step_seen (take (i + 1) items))
needs-pushed number items i x before after needs l is h here pushed =
    pushed ∙ (ap (λ b. b ++ needs ∷ []) h ∙ (ap (λ k. all_needs number (map step_seen (take i items)) ++ k ∷ []) here
    ∙ (go items i l is ∙ ap (λ n. all_needs number (map step_seen (take n items))) (sym (add-one i)))))
  where
    go : (items : List Stmt) (i : ℕ) → i < length items → x ≡ get_or items i x → all_needs number (map step_seen (take i items)) ++ step_needs number (step_seen x) ∷ [] ≡ all_needs number (map step_seen (take (suc i) items))
    go [] i l is = absurd (omega (arith, l))
    go (y ∷ ys) zero l is = ap (λ z. step_needs number (step_seen z) ∷ []) is
    go (y ∷ ys) (suc i) l is = ap (λ r. step_needs number (step_seen y) ∷ r) (go ys i (omega (arith, l)) is)

module _ (drivers : Drivers) (ss : List Step) (d : AreDrivers drivers ss) where
  number : List ℕ → Option ℕ
  number n = driver_at drivers n

  -- a need of a step is an assignment to a net of which something holds that holds of all nets that it reads
  need-assigns : (i k j : ℕ) (s : Step) (P : List ℕ → Type 0) → slice_get ss i ≡ Some s → (s.clocked ≡ false → AllByRecursion P (nets_of s.expr)) → need_at (all_needs (driver_at drivers) ss) i k ≡ Some j
      → (n : List ℕ) × P n × Assigns ss j n × (s.clocked ≡ false)
  need-assigns i k j s P at all h = go s.clocked refl (ap (λ l. slice_get l k) (sym (mapped-at (step_needs (driver_at drivers)) ss i s [] at)) ∙ h)
    where
      go : (b : Bool) → s.clocked ≡ b → slice_get (if b then [] else numbers_of (driver_at drivers) (nets_of s.expr)) k ≡ Some j → (n : List ℕ) × P n × Assigns ss j n × (s.clocked ≡ false)
      go true e h = cc h
      go false e h = let (n, p, f) = in-numbers (driver_at drivers) P (nets_of s.expr) k j (all e) h in (n, p, d.assigned n j f, e)

  pub order-within : AreWithin (all_needs (driver_at drivers) ss)
  order-within i k j h =
      let (s, at, there) = past-none (step_needs (driver_at drivers)) ss i k j h in
      let (n, p, a, e) = need-assigns i k j s (λ n. Unit {0}) at (λ e. all-any (nets_of s.expr)) h in
      let l = got_within ss j a.step a.at in let same = length-map ss (step_needs (driver_at drivers)) in
      omega (arith, l, same)

  module _ (acyclic : IsAcyclic ss) (ranks : List (Option ℕ)) (order : List ℕ) (levels : AreLevels (all_needs (driver_at drivers) ss) ranks order) where
    counts : length ranks ≡ length ss
    counts = levels.sized ∙ length-map ss (step_needs (driver_at drivers))

    -- each step has a rank
    no-unranked : (b i : ℕ) (s : Step) → slice_get ss i ≡ Some s → acyclic.rank s.to < b → rank_at ranks i ≡ None → ⊥
    no-unranked zero i s at low free = omega (arith, low)
    no-unranked (suc b) i s at low free =
        let c = length-map ss (step_needs (driver_at drivers)) in let l = got_within ss i s at in
        let (k, j, need, none) = levels.stays i (omega (arith, c, l)) free in
        let rises = each_got (λ s. s.clocked ≡ false → AllBelow acyclic.rank (nets_of s.expr) (acyclic.rank s.to)) ss i s acyclic.rises at in
        let (n, less, a, e) = need-assigns i k j s (λ n. acyclic.rank n < acyclic.rank s.to) at rises need in
        let same : acyclic.rank a.step.to ≡ acyclic.rank n = ap acyclic.rank a.to in
        no-unranked b j a.step a.at (omega (arith, low, less, same)) none

    has-rank : (i : ℕ) → i < length ss → (r : ℕ) × (rank_at ranks i ≡ Some r)
    has-rank i l = let (s, at) = some-at ss i l in go s at (rank_at ranks i) refl
      where
        go : (s : Step) → slice_get ss i ≡ Some s → (o : Option ℕ) → rank_at ranks i ≡ o → (r : ℕ) × (rank_at ranks i ≡ Some r)
        go s at None e = absurd (no-unranked (suc (acyclic.rank s.to)) i s at (omega arith) e)
        go s at (Some r) e = (r, e)

    ranked-within : (ranks : List (Option ℕ)) (i r : ℕ) → rank_at ranks i ≡ Some r → i < length ranks
    ranked-within [] i r h = cc h
    ranked-within (x ∷ xs) zero r h = omega arith
    ranked-within (x ∷ xs) (suc i) r h = let l = ranked-within xs i r h in omega (arith, l)

    pub settling-order : IsSettlingOrder ss order
    settling-order = record {
      within = λ p i at. let l = ranked-within ranks i p (levels.ranked i p at) in let c = counts in omega (arith, l, c);
      each = λ i l. let (r, e) = has-rank i l in (r, levels.ordered i r e);
      behind = λ p i k s n at there acts reads a.
          let (j, driver) = some-of (driver_at drivers n) (let P : List ℕ → Type 0 = λ m. IsSome (driver_at drivers m) in subst P a.to (d.driven k a.step a.at a.acts)) in
          let (m, number) = number-in (driver_at drivers) (nets_of s.expr) n j reads driver in
          let need : need_at (all_needs (driver_at drivers) ss) i m ≡ Some j
          = ap (λ l. slice_get l m) (mapped-at (step_needs (driver_at drivers)) ss i s [] there ∙ ap (λ b. if b then [] else numbers_of (driver_at drivers) (nets_of s.expr)) acts) ∙ number in
          let (q, rank, less) = levels.rises i p m j (levels.ranked i p at) need in
          (q, j, less, levels.ordered j q rank, d.assigned n j driver);
    }
