-- Calls that put bytes in turn.
use Rattle.std.proofs.Common.{◌≡◌, ℕ, ◌+◌, ◌≤◌, true, false, List, [], ◌++◌, length, take, Result, Ok, Err, OnOk, OnErr, inl, inr, sym, ap, ◌∙◌, subst, arith, length-append, append_assoc, append-nil}
use Rattle.std.proofs.lemmas.List.{take-append-le}
use Rattle.std.proofs.Math.Seq.{take-append-add}
use Rattle.std.specs.Result.{IsErr}
use Rattle.rb_edge.specs.Count.{Rose}
use Rattle.rb_edge.specs.Sink.{Told, Takes, TakesPart}
use Rattle.rb_edge.proofs.Taken.{Takes-trans, Takes-nil}
use Rattle.rb_edge.specs.Flows.{Flows}

Rose-later : (f g h : ℕ) → f ≤ g → Rose g h → Rose f h
Rose-later f g h l r = elim r [ inl p ↦ inl (omega arith) | inr p ↦ inr p ]

pub part_more : (a b : Told) (xs ys : List ℕ) → TakesPart a b xs → TakesPart a b (xs ++ ys)
part_more a b xs ys p =
    let e : take p.count (xs ++ ys) ≡ take p.count xs = let l : p.count ≤ length xs = omega (arith, p.fewer) in take-append-le p.count xs ys l in
    record { count = p.count; fewer = omega (arith, p.fewer, length-append xs ys); taken = subst (λ l. Takes a b l) (sym e) p.taken }

pub part_after : (a b c : Told) (xs ys : List ℕ) → Takes a b xs → TakesPart b c ys → TakesPart a c (xs ++ ys)
part_after a b c xs ys t p =
    record {
      count = length xs + p.count;
      fewer = omega (arith, p.fewer, length-append xs ys);
      taken = subst (λ l. Takes a c l) (sym (take-append-add xs ys p.count)) (Takes-trans a b c xs (take p.count ys) t p.taken);
    }

-- waited ++ xs were sent as far as w, and w ++ ys go on
joined : (waited xs ys sent w sent2 w2 : List ℕ) → waited ++ xs ≡ sent ++ w → w ++ ys ≡ sent2 ++ w2 → waited ++ (xs ++ ys) ≡ (sent ++ sent2) ++ w2
joined waited xs ys sent w sent2 w2 e f =
    sym (append_assoc waited xs ys) ∙ (ap (λ z. z ++ ys) e ∙ (append_assoc sent w ys ∙ (ap (λ z. sent ++ z) f ∙ sym (append_assoc sent sent2 w2))))

-- a call that put all, and then one more
pub and_then : {U V E : Type 0} {a b c : Told} {f g h : ℕ} {waited w w2 : List ℕ} {u : U} {r : Result V E} {xs ys : List ℕ} → Flows {U = U} {E = E} a b f g waited w (Ok u) xs → Flows b c g h w w2 r ys → Flows a c f h waited w2 r (xs ++ ys)
and_then {a = a} {b = b} {c = c} {f = f} {g = g} {h = h} {waited = waited} {w = w} {w2 = w2} {r = Ok v} {xs = xs} {ys = ys} p q = record {
  later = omega (arith, p.later, q.later);
  went = (p.went.0 ++ q.went.0, Takes-trans a b c p.went.0 q.went.0 p.went.1 q.went.1, joined waited xs ys p.went.0 w q.went.0 w2 p.went.2 q.went.2);
}
and_then {a = a} {b = b} {c = c} {f = f} {g = g} {h = h} {waited = waited} {w = w} {w2 = w2} {r = Err e} {xs = xs} {ys = ys} p q = record {
  later = omega (arith, p.later, q.later);
  went =
      let all : p.went.0 ++ (w ++ ys) ≡ waited ++ (xs ++ ys) = sym (append_assoc p.went.0 w ys) ∙ (ap (λ z. z ++ ys) (sym p.went.2) ∙ append_assoc waited xs ys) in
      (subst (λ z. TakesPart a c z) all (part_after a b c p.went.0 (w ++ ys) p.went.1 q.went.0), Rose-later f g h p.later q.went.1);
}

-- a call that failed, and no more
pub stopped : {U V E F : Type 0} {a b : Told} {f g : ℕ} {waited w w2 : List ℕ} {e : E} {xs : List ℕ} (ys : List ℕ) (r : Result V F) → IsErr r → Flows {U = U} a b f g waited w (Err e) xs → Flows a b f g waited w2 r (xs ++ ys)
stopped ys (Ok v) i p = absurd (let q : false ≡ true = i in cc)
stopped {a = a} {b = b} {waited = waited} {xs = xs} ys (Err d) i p = record { later = p.later; went = (subst (λ z. TakesPart a b z) (append_assoc waited xs ys) (part_more a b (waited ++ xs) ys p.went.0), p.went.1) }

pub nothing : {U E : Type 0} (a : Told) (f : ℕ) (waited : List ℕ) (u : U) → Flows {U = U} {E = E} a a f f waited waited (Ok u) []
nothing a f waited u = record { later = omega arith; went = ([], Takes-nil a, append-nil waited) }

-- the same bytes
pub of_bytes : {U E : Type 0} {a b : Told} {f g : ℕ} {waited w : List ℕ} {r : Result U E} (xs ys : List ℕ) → xs ≡ ys → Flows a b f g waited w r xs → Flows a b f g waited w r ys
of_bytes {a = a} {b = b} {f = f} {g = g} {waited = waited} {w = w} {r = r} xs ys e p = subst (λ l. Flows a b f g waited w r l) e p

-- a call that wrote bytes at once, where none waited
pub at_once : {U E : Type 0} (a b : Told) (f g : ℕ) (bytes : List ℕ) (r : Result U E) → f ≤ g → OnOk r (Takes a b bytes) → OnErr r (TakesPart a b bytes) → OnErr r (Rose f g) → Flows a b f g [] [] r bytes
at_once a b f g bytes (Ok u) l whole part rose = record { later = l; went = (bytes, whole, sym (append-nil bytes)) }
at_once a b f g bytes (Err e) l whole part rose = record { later = l; went = (part, rose) }

-- On a page that was made for them, calls that put all, and behind them the call that sends what waits.
pub sent : {U V E : Type 0} {a b c : Told} {f g h : ℕ} {made w left : List ℕ} {u : U} {r : Result V E} {xs : List ℕ} → made ≡ [] → Flows {U = U} {E = E} a b f g made w (Ok u) xs → Flows b c g h w left r [] → left ≡ [] → Flows a c f h [] [] r xs
sent {a = a} {c = c} {f = f} {h = h} {made = made} {left = left} {r = r} {xs = xs} empty p q none =
    let all : Flows a c f h made left r xs = of_bytes (xs ++ []) xs (append-nil xs) (and_then p q) in
    subst (λ z. Flows a c f h z [] r xs) empty (subst (λ z. Flows a c f h made z r xs) none all)

-- On a page that was made for them, calls of which one failed.
pub cut_short : {U V E F : Type 0} {a b : Told} {f g : ℕ} {made w : List ℕ} {e : E} {xs : List ℕ} (r : Result V F) → IsErr r → made ≡ [] → Flows {U = U} a b f g made w (Err e) xs → Flows a b f g [] [] r xs
cut_short {a = a} {b = b} {f = f} {g = g} {made = made} {xs = xs} r i empty p =
    let all : Flows a b f g made [] r xs = of_bytes (xs ++ []) xs (append-nil xs) (stopped [] r i p) in
    subst (λ z. Flows a b f g z [] r xs) empty all

-- what this says of each answer
pub whole_of : {U E : Type 0} {a b : Told} {f g : ℕ} {xs : List ℕ} (r : Result U E) → Flows a b f g [] [] r xs → OnOk r (Takes a b xs)
whole_of {a = a} {b = b} {xs = xs} (Ok u) p = subst (λ l. Takes a b l) (sym (p.went.2 ∙ append-nil p.went.0)) p.went.1
whole_of (Err e) p = tt

pub part_of : {U E : Type 0} {a b : Told} {f g : ℕ} {xs : List ℕ} (r : Result U E) → Flows a b f g [] [] r xs → OnErr r (TakesPart a b xs)
part_of (Ok u) p = tt
part_of (Err e) p = p.went.0

pub rose_of : {U E : Type 0} {a b : Told} {f g : ℕ} {xs : List ℕ} (r : Result U E) → Flows a b f g [] [] r xs → OnErr r (Rose f g)
rose_of (Ok u) p = tt
rose_of (Err e) p = p.went.1
