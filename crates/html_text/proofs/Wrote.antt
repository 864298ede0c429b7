-- Calls that write in turn.
use Rattle.std.proofs.Common.{◌≡◌, ◌∙◌, ℕ, Bool, true, false, List, [], ◌∷◌, ◌++◌, Result, Ok, Err, append_assoc, append-nil, refl, sym, ap, subst}
use Rattle.rb_edge.proofs.Flowing.{and_then, cut_short, nothing as no_bytes, sent, stopped}
use Rattle.rb_edge.specs.Flows.{Flows}
use Rattle.rb_edge.specs.Sink.{Told}
use Rattle.std.specs.Result.{IsErr}
use Rattle.html_text.specs.Writing.{At, Writes, outcome}

-- what the first call left, where it failed or didn't
go_on : (a b c : At) (xs ys : List ℕ) (f : Bool) → b.failed ≡ f → Flows a.told b.told a.faults b.faults a.waits b.waits (outcome f) xs → Writes b c ys
    → Flows a.told c.told a.faults c.faults a.waits c.waits (outcome c.failed) (xs ++ ys)
go_on a b c xs ys false e p q = and_then p (q.goes_on e)
go_on a b c xs ys true e p q =
    let same : c ≡ b = q.stays e in
    let part : Flows a.told b.told a.faults b.faults a.waits b.waits (outcome true) (xs ++ ys) = stopped ys (outcome true) refl p in
    let kept : Flows a.told b.told a.faults b.faults a.waits b.waits (outcome b.failed) (xs ++ ys) = subst (λ g. Flows a.told b.told a.faults b.faults a.waits b.waits (outcome g) (xs ++ ys)) (sym e) part in
    subst (λ (s : At). Flows a.told s.told a.faults s.faults a.waits s.waits (outcome s.failed) (xs ++ ys)) (sym same) kept

pub wrote : {a b c : At} {xs ys : List ℕ} → Writes a b xs → Writes b c ys → Writes a c (xs ++ ys)
wrote {a = a} {b = b} {c = c} {xs = xs} {ys = ys} p q = record {
  goes_on = λ e. go_on a b c xs ys b.failed refl (subst (λ g. Flows a.told b.told a.faults b.faults a.waits b.waits (outcome g) xs) refl (p.goes_on e)) q;
  stays = λ e. let first = p.stays e in let failed : b.failed ≡ true = ap (λ (s : At). s.failed) first ∙ e in q.stays failed ∙ first;
}

pub nothing : (s : At) → Writes s s []
nothing s = record {
  goes_on = λ e. subst (λ g. Flows s.told s.told s.faults s.faults s.waits s.waits (outcome g) []) (sym e) (no_bytes s.told s.faults s.waits 0);
  stays = λ e. refl;
}

pub of_bytes : {s t : At} {xs ys : List ℕ} → xs ≡ ys → Writes s t xs → Writes s t ys
of_bytes {s = s} {t = t} e p = subst (λ l. Writes s t l) e p

as_ok : {U E : Type 0} {a b : Told} {f g : ℕ} {w v xs : List ℕ} (u : U) → Flows a b f g w v (outcome false) xs → Flows {U = U} {E = E} a b f g w v (Ok u) xs
as_ok u p = record { later = p.later; went = p.went }

-- With a pen whose page is empty, calls that write, and behind them the call that sends what waits.
pub ended : {U E : Type 0} {a b : At} {xs left : List ℕ} {t : Told} {f : ℕ} {r : Result U E} → a.waits ≡ [] → a.failed ≡ false → Writes a b xs
    → (b.failed ≡ false → Flows b.told t b.faults f b.waits left r []) → (b.failed ≡ false → left ≡ []) → (b.failed ≡ true → IsErr r × (t ≡ b.told) × (f ≡ b.faults))
    → Flows a.told t a.faults f [] [] r xs
ended {a = a} {b = b} {xs = xs} {left = left} {t = t} {f = f} {r = r} empty whole p told none still = go b.failed refl (p.goes_on whole)
  where
    go : (s : Bool) → b.failed ≡ s → Flows a.told b.told a.faults b.faults a.waits b.waits (outcome s) xs → Flows a.told t a.faults f [] [] r xs
    go false e q = sent {U = ℕ} empty (as_ok 0 q) (told e) (none e)
    go true e q =
        let s = still e in
        subst (λ (z : Told). Flows a.told z a.faults f [] [] r xs) (sym s.1) (subst (λ (n : ℕ). Flows a.told b.told a.faults n [] [] r xs) (sym s.2) (cut_short r s.0 empty q))
