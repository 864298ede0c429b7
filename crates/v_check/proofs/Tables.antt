-- Nets by name.
use Rattle.std.specs.Str.{bytes_eq}
use Rattle.std.specs.List.{list_any}
use Rattle.std.specs.Option.{option_map_or}
use Rattle.std.proofs.Common.{◌≡◌, ℕ, Bool, true, false, not, ◌&&◌, ◌||◌, if◌then◌else◌, Option, Some, None, is_some, option_map, unwrap_or, List, [], ◌∷◌, ◌++◌, length, take, get_or, slice_get, zero, suc, ◌+◌, ◌<◌, ◌==◌, subst, refl, ap, sym, ◌∙◌, arith}
use Rattle.std.proofs.lemmas.Bool.Decides.{nat_tests}
use Rattle.std.proofs.lemmas.List.{take_more}
use Rattle.v_design.specs.Lexemes.{among}
use Rattle.v_design.specs.WellFormed.{Net as specNet, Kind, Given, same_kind, has, is_pin, names, distinct}
use Rattle.v_design.proofs.Tests.{and-left, and-right, same-refl, same-true}
use Rattle.v_design.proofs.Names.{or-false, or-false-left, or-false-right, not-flip}
use Rattle.v_check.specs.declared.nets.Net.{Net}
use Rattle.v_check.specs.declared.nets.Table.{Table}
use Rattle.v_check.specs.Nets.{AreNets, IsTwice, first_net, first_number, kind_seen, net_seen, nets_seen, number_at, number_of, width_in}
use Rattle.plain_lemmas.proofs.Lists.{any-get}

-- the first, or else the second
abbrev pub or_else : Option ℕ → Option ℕ → Option ℕ
or_else (Some x) o = Some x
or_else None o = o

or_else-none : (o : Option ℕ) → or_else o None ≡ o
or_else-none None = refl
or_else-none (Some x) = refl

or_else-some : (o p : Option ℕ) → is_some o ≡ true → or_else o p ≡ o
or_else-some None p h = cc
or_else-some (Some x) p h = refl

or_else-last : (o p : Option ℕ) → is_some o ≡ false → or_else o p ≡ p
or_else-last None p h = refl
or_else-last (Some x) p h = cc

-- a name has a number where it is declared
pub is_some-first_number : (ns : List Net) (n : List ℕ) → is_some (first_number ns n) ≡ among (names (nets_seen ns)) n
is_some-first_number [] n = refl
is_some-first_number (d ∷ ds) n = go (bytes_eq d.name.now n) (first_number ds n) (among (names (nets_seen ds)) n) (is_some-first_number ds n)
  where
    go : (b : Bool) (o : Option ℕ) (a : Bool) → is_some o ≡ a → is_some (if b then Some 0 else option_map suc o) ≡ (b || a)
    go true o a h = refl
    go false None a h = h
    go false (Some i) a h = h

first_number-last : (ns : List Net) (d : Net) (n : List ℕ) → first_number (ns ++ d ∷ []) n ≡ or_else (first_number ns n) (if bytes_eq d.name.now n then Some (length ns) else None)
first_number-last [] d n = go (bytes_eq d.name.now n)
  where
    go : (b : Bool) → (if b then Some 0 else option_map suc None) ≡ (if b then Some 0 else None)
    go true = refl
    go false = refl
first_number-last (x ∷ xs) d n = go (bytes_eq x.name.now n) (bytes_eq d.name.now n) (first_number xs n) (first_number-last xs d n)
  where
    go : (b c : Bool) (o : Option ℕ) → first_number (xs ++ d ∷ []) n ≡ or_else o (if c then Some (length xs) else None)
        → (if b then Some 0 else option_map suc (first_number (xs ++ d ∷ []) n)) ≡ or_else (if b then Some 0 else option_map suc o) (if c then Some (suc (length xs)) else None)
    go true c o h = refl
    go false true None h = ap (option_map suc) h
    go false true (Some i) h = ap (option_map suc) h
    go false false None h = ap (option_map suc) h
    go false false (Some i) h = ap (option_map suc) h

-- what a table has at a name once a net is put in behind others
module _ (old new : Table) (ns : List Net) (d : Net) (h : AreNets old ns) where
  -- the net's name is declared before
  pub nets_again : true ≡ among (names (nets_seen ns)) d.name.now → AreNets old (ns ++ d ∷ [])
  nets_again again = record { at = λ n. h.at n ∙ sym (first_number-last ns d n ∙ go n (bytes_eq d.name.now n) refl) }
    where
      go : (n : List ℕ) (b : Bool) → bytes_eq d.name.now n ≡ b → or_else (first_number ns n) (if b then Some (length ns) else None) ≡ first_number ns n
      go n true e = or_else-some (first_number ns n) (Some (length ns)) (is_some-first_number ns n ∙ (ap (among (names (nets_seen ns))) (sym (same-true d.name.now n e)) ∙ sym again))
      go n false e = or_else-none (first_number ns n)

  -- or is new, and the table has its number there
  pub nets_new : (k : ℕ) → k ≡ length ns → false ≡ among (names (nets_seen ns)) d.name.now
      → ((n : List ℕ) → number_at new n ≡ (if bytes_eq d.name.now n then Some k else number_at old n)) → AreNets new (ns ++ d ∷ [])
  nets_new k is fresh put = record { at = λ n. put n ∙ sym (first_number-last ns d n ∙ go n (bytes_eq d.name.now n) refl) }
    where
      go : (n : List ℕ) (b : Bool) → bytes_eq d.name.now n ≡ b → or_else (first_number ns n) (if b then Some (length ns) else None) ≡ (if b then Some k else number_at old n)
      go n true e = or_else-last (first_number ns n) (Some (length ns)) (is_some-first_number ns n ∙ (ap (among (names (nets_seen ns))) (sym (same-true d.name.now n e)) ∙ sym fresh)) ∙ ap Some (sym is)
      go n false e = or_else-none (first_number ns n) ∙ sym (h.at n)

-- the number of a name, net after net
number-cons : (d : Net) (ds : List Net) (n : List ℕ) → number_of (d ∷ ds) n ≡ (if bytes_eq d.name.now n then 0 else suc (number_of ds n))
number-cons d ds n = go (bytes_eq d.name.now n) (first_number ds n)
  where
    go : (b : Bool) (o : Option ℕ) → unwrap_or (if b then Some 0 else option_map suc o) (suc (length ds)) ≡ (if b then 0 else suc (unwrap_or o (length ds)))
    go true o = refl
    go false None = refl
    go false (Some i) = refl

-- the net of that number is the first of the name
pub net-number : (ns : List Net) (n : List ℕ) → slice_get ns (number_of ns n) ≡ first_net ns n
net-number [] n = refl
net-number (d ∷ ds) n = ap (slice_get (d ∷ ds)) (number-cons d ds n) ∙ go (bytes_eq d.name.now n) (net-number ds n)
  where
    go : (b : Bool) → slice_get ds (number_of ds n) ≡ first_net ds n → slice_get (d ∷ ds) (if b then 0 else suc (number_of ds n)) ≡ (if b then Some d else first_net ds n)
    go true h = refl
    go false h = h

-- a name is declared where its number is that of a net
pub number-low : (ns : List Net) (n : List ℕ) → among (names (nets_seen ns)) n ≡ true → number_of ns n < length ns
number-low [] n h = cc h
number-low (d ∷ ds) n h = subst (λ k. k < suc (length ds)) (sym (number-cons d ds n)) (go (bytes_eq d.name.now n) h (number-low ds n))
  where
    go : (b : Bool) → (b || among (names (nets_seen ds)) n) ≡ true → (among (names (nets_seen ds)) n ≡ true → number_of ds n < length ds) → (if b then 0 else suc (number_of ds n)) < suc (length ds)
    go true h f = omega arith
    go false h f = let l = f h in omega (arith, l)

pub low-number : (ns : List Net) (n : List ℕ) → number_of ns n < length ns → among (names (nets_seen ns)) n ≡ true
low-number [] n l = absurd (omega (arith, l))
low-number (d ∷ ds) n l = go (bytes_eq d.name.now n) (subst (λ k. k < suc (length ds)) (number-cons d ds n) l) (low-number ds n)
  where
    go : (b : Bool) → (if b then 0 else suc (number_of ds n)) < suc (length ds) → (number_of ds n < length ds → among (names (nets_seen ds)) n ≡ true) → (b || among (names (nets_seen ds)) n) ≡ true
    go true l f = refl
    go false l f = f (omega (arith, l))

-- two names of one number are one name
named : (ns : List Net) (n : List ℕ) → number_of ns n < length ns → slice_get (names (nets_seen ns)) (number_of ns n) ≡ Some n
named [] n l = absurd (omega (arith, l))
named (d ∷ ds) n l = ap (slice_get (names (nets_seen (d ∷ ds)))) (number-cons d ds n) ∙ go (bytes_eq d.name.now n) refl (subst (λ k. k < suc (length ds)) (number-cons d ds n) l) (named ds n)
  where
    go : (b : Bool) → bytes_eq d.name.now n ≡ b → (if b then 0 else suc (number_of ds n)) < suc (length ds) → (number_of ds n < length ds → slice_get (names (nets_seen ds)) (number_of ds n) ≡ Some n)
        → slice_get (names (nets_seen (d ∷ ds))) (if b then 0 else suc (number_of ds n)) ≡ Some n
    go true e l f = ap Some (same-true d.name.now n e)
    go false e l f = f (omega (arith, l))

pub same-number : (ns : List Net) (a n : List ℕ) → among (names (nets_seen ns)) a ≡ true → (number_of ns n == number_of ns a) ≡ bytes_eq a n
same-number ns a n h = go (bytes_eq a n) refl
  where
    low : number_of ns a < length ns
    low = number-low ns a h

    apart : number_of ns n ≡ number_of ns a → a ≡ n
    apart e =
        let l = low in
        let at : slice_get (names (nets_seen ns)) (number_of ns n) ≡ Some n = named ns n (omega (arith, l, e)) in
        let f : Some a ≡ Some n = sym (named ns a l) ∙ (ap (slice_get (names (nets_seen ns))) (sym e) ∙ at) in
        cc

    differ : (c : Bool) → (number_of ns n == number_of ns a) ≡ c → bytes_eq a n ≡ false → c ≡ false
    differ false e f = refl
    differ true e f =
        let same : number_of ns n ≡ number_of ns a = grind (arith, nat_tests) in
        cc (sym f ∙ (ap (bytes_eq a) (sym (apart same)) ∙ same-refl a))

    go : (b : Bool) → bytes_eq a n ≡ b → (number_of ns n == number_of ns a) ≡ b
    go true e = let f : number_of ns n ≡ number_of ns a = ap (number_of ns) (sym (same-true a n e)) in grind (arith, nat_tests)
    go false e = differ (number_of ns n == number_of ns a) refl e

-- the name of a net at a place
pub name-at : (ns : List Net) (i : ℕ) (e : Net) → i < length ns → slice_get (names (nets_seen ns)) i ≡ Some (get_or ns i e).name.now
name-at [] i e l = absurd (omega (arith, l))
name-at (x ∷ xs) zero e l = refl
name-at (x ∷ xs) (suc i) e l = name-at xs i e (omega (arith, l))

-- where no name is declared twice, each net has its own number
pub own-number : (ns : List Net) (i : ℕ) (e : Net) → distinct (names (nets_seen ns)) ≡ true → i < length ns → number_of ns (get_or ns i e).name.now ≡ i
own-number [] i e h l = absurd (omega (arith, l))
own-number (d ∷ ds) zero e h l = number-cons d ds d.name.now ∙ ap (λ b. if b then 0 else suc (number_of ds d.name.now)) (same-refl d.name.now)
own-number (d ∷ ds) (suc i) e h l =
    let x = (get_or ds i e).name.now in
    let A = among (names (nets_seen ds)) d.name.now in
    let m : i < length ds = omega (arith, l) in
    let once : A ≡ false = not-flip A (and-left (not A) (distinct (names (nets_seen ds))) h) in
    number-cons d ds x ∙ (ap (λ b. if b then 0 else suc (number_of ds x)) (go (bytes_eq d.name.now x) refl m once) ∙ ap suc (own-number ds i e (and-right (not A) (distinct (names (nets_seen ds))) h) m))
  where
    go : (b : Bool) → bytes_eq d.name.now (get_or ds i e).name.now ≡ b → i < length ds → among (names (nets_seen ds)) d.name.now ≡ false → b ≡ false
    go false f m once = refl
    go true f m once =
        let x = (get_or ds i e).name.now in
        let there : among (names (nets_seen ds)) x ≡ true = any-get (λ w. bytes_eq w x) (names (nets_seen ds)) i x (name-at ds i e m) (same-refl x) in
        cc (sym once ∙ (ap (among (names (nets_seen ds))) (same-true d.name.now x f) ∙ there))

-- the width of a name is that of its first net
pub width-first : (ns : List Net) (n : List ℕ) → width_in (nets_seen ns) n ≡ option_map_or (λ d. d.width) (first_net ns n) 0
width-first [] n = refl
width-first (d ∷ ds) n = go (bytes_eq d.name.now n) (width-first ds n)
  where
    go : (b : Bool) → width_in (nets_seen ds) n ≡ option_map_or (λ d. d.width) (first_net ds n) 0 → (if b then d.width else width_in (nets_seen ds) n) ≡ option_map_or (λ d. d.width) (if b then Some d else first_net ds n) 0
    go true h = refl
    go false h = h

or-last : (a b : Bool) → b ≡ false → (a || b) ≡ a
or-last true b h = refl
or-last false b h = h

-- where no name is declared twice, a net of a kind is the first of its name, and so is a one-bit input
none_declared : (ns : List Net) (test : specNet → Bool) (n : List ℕ) → among (names (nets_seen ns)) n ≡ false → list_any (λ d. bytes_eq d.name n && test d) (nets_seen ns) ≡ false
none_declared [] test n h = refl
none_declared (d ∷ ds) test n h = or-false _ _ (ap (λ b. b && test (net_seen d)) (or-false-left (bytes_eq d.name.now n) (among (names (nets_seen ds)) n) h)) (none_declared ds test n (or-false-right (bytes_eq d.name.now n) (among (names (nets_seen ds)) n) h))

pub any-first : (ns : List Net) (test : specNet → Bool) (n : List ℕ) → distinct (names (nets_seen ns)) ≡ true
    → list_any (λ d. bytes_eq d.name n && test d) (nets_seen ns) ≡ option_map_or (λ d. test (net_seen d)) (first_net ns n) false
any-first [] test n h = refl
any-first (d ∷ ds) test n h =
    let A = among (names (nets_seen ds)) d.name.now in
    let once : A ≡ false = not-flip A (and-left (not A) (distinct (names (nets_seen ds))) h) in
    go (bytes_eq d.name.now n) refl once (any-first ds test n (and-right (not A) (distinct (names (nets_seen ds))) h))
  where
    go : (b : Bool) → bytes_eq d.name.now n ≡ b → among (names (nets_seen ds)) d.name.now ≡ false
        → list_any (λ d. bytes_eq d.name n && test d) (nets_seen ds) ≡ option_map_or (λ d. test (net_seen d)) (first_net ds n) false
        → (b && test (net_seen d) || list_any (λ d. bytes_eq d.name n && test d) (nets_seen ds)) ≡ option_map_or (λ d. test (net_seen d)) (if b then Some d else first_net ds n) false
    go true e once ih = or-last (test (net_seen d)) _ (none_declared ds test n (ap (among (names (nets_seen ds))) (sym (same-true d.name.now n e)) ∙ once))
    go false e once ih = ih

-- a look-up answers whether a net of a kind, or a one-bit input, is declared
pub has-found : (ns : List Net) (o : Option Net) (k : Kind) (n : List ℕ) → o ≡ first_net ns n → distinct (names (nets_seen ns)) ≡ true
    → option_map_or (λ d. same_kind (kind_seen d.kind) k) o false ≡ has (nets_seen ns) k n
has-found ns o k n is once = ap (λ p. option_map_or (λ d. same_kind (kind_seen d.kind) k) p false) is ∙ sym (any-first ns (λ d. same_kind d.kind k) n once)

is_pin-grouped : (ds : List specNet) (n : List ℕ) → is_pin ds n ≡ list_any (λ d. bytes_eq d.name n && (same_kind d.kind Given && d.width == 1)) ds
is_pin-grouped [] n = refl
is_pin-grouped (d ∷ ds) n = go (bytes_eq d.name n) (same_kind d.kind Given) (is_pin-grouped ds n)
  where
    go : (a b : Bool) → is_pin ds n ≡ list_any (λ d. bytes_eq d.name n && (same_kind d.kind Given && d.width == 1)) ds
        → (a && b && d.width == 1 || is_pin ds n) ≡ (a && (b && d.width == 1) || list_any (λ d. bytes_eq d.name n && (same_kind d.kind Given && d.width == 1)) ds)
    go true b ih = ap (λ r. b && d.width == 1 || r) ih
    go false b ih = ih

pub pin-found : (ns : List Net) (o : Option Net) (n : List ℕ) → o ≡ first_net ns n → distinct (names (nets_seen ns)) ≡ true
    → option_map_or (λ d. same_kind (kind_seen d.kind) Given && d.width == 1) o false ≡ is_pin (nets_seen ns) n
pin-found ns o n is once =
    ap (λ p. option_map_or (λ d. same_kind (kind_seen d.kind) Given && d.width == 1) p false) is
    ∙ (sym (any-first ns (λ d. same_kind d.kind Given && d.width == 1) n once) ∙ sym (is_pin-grouped (nets_seen ns) n))

pub width-found : (ns : List Net) (o : Option Net) (n : List ℕ) → o ≡ first_net ns n → option_map_or (λ d. d.width) o 0 ≡ width_in (nets_seen ns) n
width-found ns o n is = ap (λ p. option_map_or (λ d. d.width) p 0) is ∙ sym (width-first ns n)

-- the names before one
pub names-take : (ns : List Net) (i : ℕ) → names (nets_seen (take i ns)) ≡ take i (names (nets_seen ns))
names-take [] zero = refl
names-take [] (suc i) = refl
names-take (d ∷ ds) zero = refl
names-take (d ∷ ds) (suc i) = ap (λ l. d.name.now ∷ l) (names-take ds i)

pub name-within : (ns : List Net) (i : ℕ) (n : List ℕ) → slice_get (names (nets_seen ns)) i ≡ Some n → i < length ns
name-within [] i n h = cc h
name-within (x ∷ xs) zero n h = omega arith
name-within (x ∷ xs) (suc i) n h = let l = name-within xs i n h in omega (arith, l)

-- whether the net at a place is declared before it
pub twice-test : (ns : List Net) (i : ℕ) (e : Net) (b : Bool) → i < length ns → b ≡ among (names (nets_seen (take i ns))) (get_or ns i e).name.now
    → (IsTwice (names (nets_seen ns)) i → b ≡ true) × (b ≡ true → IsTwice (names (nets_seen ns)) i)
twice-test ns i e b l test =
    let d = get_or ns i e in
    let same : b ≡ among (take i (names (nets_seen ns))) d.name.now = test ∙ ap (λ ms. among ms d.name.now) (names-take ns i) in
    let here = name-at ns i e l in (
      λ h. let f : Some h.0 ≡ Some d.name.now = sym h.1 ∙ here in
          let f' : h.0 ≡ d.name.now = cc in
          same ∙ (ap (among (take i (names (nets_seen ns)))) (sym f') ∙ h.2),
      λ h. (d.name.now, here, sym same ∙ h),
    )

pub more_nets : (table : Table) (ns : List Net) (i : ℕ) (e : Net) → i < length ns → AreNets table (take i ns ++ get_or ns i e ∷ []) → AreNets table (take (i + 1) ns)
more_nets table ns i e l h = subst (AreNets table) (sym (take_more ns i e l)) h

pub front-length : (ns : List Net) (i : ℕ) → i < length ns → i ≡ length (take i ns)
front-length [] i l = absurd (omega (arith, l))
front-length (x ∷ xs) zero l = refl
front-length (x ∷ xs) (suc i) l = ap suc (front-length xs i (omega (arith, l)))
