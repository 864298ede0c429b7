-- Which vectors keep the bus protocol, a vector at a time.
use Rattle.std.proofs.Common.{◌≡◌, ◌≢◌, ℕ, ◌+◌, ◌<◌, ◌≤◌, ◌==◌, Bool, true, false, not, ◌&&◌, ◌||◌, if◌then◌else◌, List, [], ◌∷◌, ◌++◌, length, get_or, take, refl, ap, sym, ◌∙◌, subst, arith, inl, inr}
use Rattle.std.proofs.lemmas.List.{take_more, take_all}
use Rattle.plain_lemmas.proofs.Numbers.{eq-same as equal_from}
use Rattle.rb_model.specs.Protocol.{Bus, Phase, IDLE, SETUP, WAIT, ACCESS, AreHeld, IsKeptIdle, IsKeptIn, IsUnderWay, KeepsFrom, KeepsProtocol, idle, is_wait, last_before_access, phase_after}
use Rattle.stim_csv.specs.Buses.{IsFirstBreak}
use Rattle.stim_csv.specs.Watch.{are_held, is_kept, is_setup, is_under_way, may_complete}

-- The tests tell what they are to tell.

unequal_from : (x y : ℕ) → (x == y) ≡ false → x ≢ y
unequal_from x y h e = grind (arith, h, e)

-- a test tells a fact: where it is true the fact holds, and where it is false it doesn't
pub record Tells (c : Bool) (P : Type 0) : Type 0 where
  pub holds : c ≡ true → P
  pub fails : c ≡ false → P → ⊥

tells_equal : (x y : ℕ) → Tells (x == y) (x ≡ y)
tells_equal x y = record { holds = equal_from x y; fails = unequal_from x y }

tells_both : (c d : Bool) (P Q : Type 0) → Tells c P → Tells d Q → Tells (c && d) (P × Q)
tells_both true d P Q h g = record { holds = λ e. (h.holds refl, g.holds e); fails = λ e both. g.fails e both.1 }
tells_both false d P Q h g = record { holds = λ e. absurd (let q : false ≡ true = e in cc); fails = λ e both. h.fails refl both.0 }

tells_not : (c : Bool) (P : Type 0) → Tells c P → Tells (not c) (P → ⊥)
tells_not true P h = record { holds = λ e. absurd (let q : false ≡ true = e in cc); fails = λ e none. none (h.holds refl) }
tells_not false P h = record { holds = λ e p. h.fails refl p; fails = λ e. absurd (let q : true ≡ false = e in cc) }

tells_where : (c d : Bool) (P Q : Type 0) → Tells c P → Tells d Q → Tells (not c || d) (P → Q)
tells_where true d P Q h g = record { holds = λ e p. g.holds e; fails = λ e f. g.fails e (f (h.holds refl)) }
tells_where false d P Q h g = record { holds = λ e p. absurd (h.fails refl p); fails = λ e. absurd (let q : true ≡ false = e in cc) }

tells_same : (c : Bool) (P Q : Type 0) → (P → Q) → (Q → P) → Tells c P → Tells c Q
tells_same c P Q f g h = record { holds = λ e. f (h.holds e); fails = λ e q. h.fails e (g q) }

tells_held : (before now : Bus) → Tells (are_held before now) (AreHeld before now)
tells_held before now =
    let parts = tells_both (now.address == before.address && now.write == before.write) (not (now.write == 1) || now.data_in == before.data_in)
    ((now.address ≡ before.address) × (now.write ≡ before.write)) (now.write ≡ 1 → now.data_in ≡ before.data_in)
    (tells_both (now.address == before.address) (now.write == before.write) (now.address ≡ before.address) (now.write ≡ before.write) (tells_equal now.address before.address) (tells_equal now.write before.write))
    (tells_where (now.write == 1) (now.data_in == before.data_in) (now.write ≡ 1) (now.data_in ≡ before.data_in) (tells_equal now.write 1) (tells_equal now.data_in before.data_in)) in
    tells_same (are_held before now) (((now.address ≡ before.address) × (now.write ≡ before.write)) × (now.write ≡ 1 → now.data_in ≡ before.data_in)) (AreHeld before now)
    (λ h. record { address = h.0.0; write = h.0.1; data_in = h.1 }) (λ h. ((h.address, h.write), h.data_in)) parts

tells_setup : (p : Phase) → Tells (is_setup p) (p ≡ SETUP)
tells_setup IDLE = record { holds = λ e. absurd (let q : false ≡ true = e in cc); fails = λ e q. cc }
tells_setup SETUP = record { holds = λ e. refl; fails = λ e. absurd (let q : true ≡ false = e in cc) }
tells_setup WAIT = record { holds = λ e. absurd (let q : false ≡ true = e in cc); fails = λ e q. cc }
tells_setup ACCESS = record { holds = λ e. absurd (let q : false ≡ true = e in cc); fails = λ e q. cc }

tells_wait : (p : Phase) → Tells (is_wait p) (p ≡ WAIT)
tells_wait IDLE = record { holds = λ e. absurd (let q : false ≡ true = e in cc); fails = λ e q. cc }
tells_wait SETUP = record { holds = λ e. absurd (let q : false ≡ true = e in cc); fails = λ e q. cc }
tells_wait WAIT = record { holds = λ e. refl; fails = λ e. absurd (let q : true ≡ false = e in cc) }
tells_wait ACCESS = record { holds = λ e. absurd (let q : false ≡ true = e in cc); fails = λ e q. cc }

tells_under_way : (p : Phase) → Tells (is_under_way p) (IsUnderWay p)
tells_under_way IDLE = record { holds = λ e. absurd (let q : false ≡ true = e in cc); fails = λ e h. none h }
  where
    none : IsUnderWay IDLE → ⊥
    none (inl q) = cc
    none (inr q) = cc
tells_under_way SETUP = record { holds = λ e. inl refl; fails = λ e. absurd (let q : true ≡ false = e in cc) }
tells_under_way WAIT = record { holds = λ e. inr refl; fails = λ e. absurd (let q : true ≡ false = e in cc) }
tells_under_way ACCESS = record { holds = λ e. absurd (let q : false ≡ true = e in cc); fails = λ e h. none h }
  where
    none : IsUnderWay ACCESS → ⊥
    none (inl q) = cc
    none (inr q) = cc

tells_quiet : (last : Phase) (now : Bus) → Tells (if now.resetn == 0 then now.select == 0 else not (is_under_way last)) (IsKeptIdle last now)
tells_quiet last now = by (now.resetn == 0) refl
  where
    by : (c : Bool) → (now.resetn == 0) ≡ c → Tells (if c then now.select == 0 else not (is_under_way last)) (IsKeptIdle last now)
    by true e =
        let zero : now.resetn ≡ 0 = equal_from now.resetn 0 e in
        let t = tells_equal now.select 0 in
        record { holds = λ h. record { quiet = λ z. t.holds h; over = λ other. absurd (other zero) }; fails = λ h kept. t.fails h (kept.quiet zero) }
    by false e =
        let other : now.resetn ≢ 0 = unequal_from now.resetn 0 e in
        let t = tells_not (is_under_way last) (IsUnderWay last) (tells_under_way last) in
        record { holds = λ h. record { quiet = λ z. absurd (other z); over = λ o. t.holds h }; fails = λ h kept. t.fails h (kept.over other) }

tells_complete : (waits : ℕ) (last : Phase) → Tells (may_complete waits last) (last ≡ last_before_access waits)
tells_complete waits last = by (waits == 1)
  where
    by : (c : Bool) → Tells (if c then is_wait last else is_setup last) (last ≡ (if c then WAIT else SETUP))
    by true = tells_wait last
    by false = tells_setup last

pub tells_kept : (p : Phase) (waits : ℕ) (last : Phase) (before now : Bus) → Tells (is_kept p waits last before now) (IsKeptIn p waits last before now)
tells_kept IDLE waits last before now = tells_quiet last now
tells_kept SETUP waits last before now = tells_not (is_under_way last) (IsUnderWay last) (tells_under_way last)
tells_kept WAIT waits last before now = tells_both (is_setup last) (are_held before now) (last ≡ SETUP) (AreHeld before now) (tells_setup last) (tells_held before now)
tells_kept ACCESS waits last before now = tells_both (may_complete waits last) (are_held before now) (last ≡ last_before_access waits) (AreHeld before now) (tells_complete waits last) (tells_held before now)

-- all of these vectors are kept, and with the last of them the phase is p and the bus q
abbrev Stands : (waits : ℕ) (last : Phase) (before : Bus) → List Bus → (p : Phase) (q : Bus) → Type 0
Stands waits last before [] p q = (p ≡ last) × (q ≡ before)
Stands waits last before (now ∷ rest) p q = IsKeptIn (phase_after waits last now) waits last before now × Stands waits (phase_after waits last now) now rest p q

all_kept : (waits : ℕ) (last : Phase) (before : Bus) (bs : List Bus) (p : Phase) (q : Bus) → Stands waits last before bs p q → KeepsFrom waits last before bs
all_kept waits last before [] p q h = tt
all_kept waits last before (now ∷ rest) p q h = (h.0, all_kept waits (phase_after waits last now) now rest p q h.1)

one_more : (waits : ℕ) (last : Phase) (before : Bus) (bs : List Bus) (p : Phase) (q now : Bus) → Stands waits last before bs p q → IsKeptIn (phase_after waits p now) waits p q now
    → Stands waits last before (bs ++ now ∷ []) (phase_after waits p now) now
one_more waits last before [] p q now h k = rw (← h.0, ← h.1) (k, (refl, refl))
one_more waits last before (b ∷ bs) p q now h k = (h.0, one_more waits (phase_after waits last b) b bs p q now h.1 k)

broken_by : (waits : ℕ) (last : Phase) (before : Bus) (bs : List Bus) (p : Phase) (q now : Bus) → Stands waits last before bs p q → (IsKeptIn (phase_after waits p now) waits p q now → ⊥)
    → KeepsFrom waits last before (bs ++ now ∷ []) → ⊥
broken_by waits last before [] p q now h k keeps =
    let P : Phase → Bus → Type 0 = λ l f. IsKeptIn (phase_after waits l now) waits l f now in
    k (subst (λ f. P p f) (sym h.1) (subst (λ l. P l before) (sym h.0) keeps.0))
broken_by waits last before (b ∷ bs) p q now h k keeps = broken_by waits (phase_after waits last b) b bs p q now h.1 k keeps.1

-- after so many vectors the phase is p and the bus q
pub record Watched (waits : ℕ) (buses : List Bus) (count : ℕ) (p : Phase) (q : Bus) : Type 0 where
  stands : Stands waits IDLE idle (take count buses) p q

pub begins : (waits : ℕ) (buses : List Bus) → Watched waits buses 0 IDLE idle
begins waits buses = record { stands = (refl, refl) }

pub goes_on : (waits : ℕ) (buses : List Bus) (count : ℕ) (p after : Phase) (q now : Bus) → count < length buses → Watched waits buses count p q
    → now ≡ get_or buses count idle → after ≡ phase_after waits p now → is_kept after waits p q now ≡ true → Watched waits buses (count + 1) after now
goes_on waits buses count p after q now l w is a k =
    let kept : IsKeptIn (phase_after waits p now) waits p q now = (tells_kept (phase_after waits p now) waits p q now).holds (ap (λ z. is_kept z waits p q now) (sym a) ∙ k) in
    let next = one_more waits IDLE idle (take count buses) p q now w.stands kept in
    let list : take count buses ++ now ∷ [] ≡ take (count + 1) buses = ap (λ z. take count buses ++ z ∷ []) is ∙ sym (take_more buses count idle l) in
    record { stands = subst (λ bs. Stands waits IDLE idle bs after now) list (subst (λ z. Stands waits IDLE idle (take count buses ++ now ∷ []) z now) (sym a) next) }

pub breaks_here : (waits : ℕ) (buses : List Bus) (count : ℕ) (p after : Phase) (q now : Bus) → count < length buses → Watched waits buses count p q
    → now ≡ get_or buses count idle → after ≡ phase_after waits p now → is_kept after waits p q now ≡ false → IsFirstBreak waits buses count
breaks_here waits buses count p after q now l w is a k =
    let list : take count buses ++ now ∷ [] ≡ take (count + 1) buses = ap (λ z. take count buses ++ z ∷ []) is ∙ sym (take_more buses count idle l) in
    let fails : IsKeptIn (phase_after waits p now) waits p q now → ⊥ = (tells_kept (phase_after waits p now) waits p q now).fails (ap (λ z. is_kept z waits p q now) (sym a) ∙ k) in
    record {
      within = l;
      before = all_kept waits IDLE idle (take count buses) p q w.stands;
      breaks = λ keeps. broken_by waits IDLE idle (take count buses) p q now w.stands fails (subst (λ bs. KeepsFrom waits IDLE idle bs) (sym list) keeps);
    }

pub ends : (waits : ℕ) (buses : List Bus) (count : ℕ) (p : Phase) (q : Bus) → length buses ≤ count → Watched waits buses count p q → KeepsProtocol waits buses
ends waits buses count p q l w = subst (λ bs. KeepsProtocol waits bs) (take_all count buses l) (all_kept waits IDLE idle (take count buses) p q w.stands)
