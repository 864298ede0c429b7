-- One claim more.
use Rattle.std.proofs.Common.{◌≡◌, ◌∙◌, ◌↔◌, ℕ, zero, suc, ◌+◌, ◌<◌, Bool, true, false, Option, None, List, [], ◌∷◌, ◌++◌, length, get_or, take, flat_map, refl, sym, ap, arith, append_assoc, IsTrue}
use Rattle.std.proofs.lemmas.List.{take_more}
use Rattle.std.specs.List.{All}
use Rattle.plain_lemmas.proofs.Lists.{append-none}
use Rattle.rdl_base.specs.declared.fault.Fault.{Fault}
use Rattle.rdl_base.specs.declared.rule.Rule.{Rule}
use Rattle.rdl_values.specs.Bodies.{standing, standing_from}
use Rattle.rdl_values.specs.Faults.{at_, when}
use Rattle.rdl_layout.specs.declared.claim.Claim.{Claim}
use Rattle.rdl_layout.specs.declared.extent.Extent.{Extent}
use Rattle.rdl_layout.specs.declared.extent.Tenant.{Tenant}
use Rattle.rdl_layout.specs.Claims.{IsFit, extents, clashing_claims, when_clashing}
use Rattle.rdl_layout.specs.declared.ground.Ground.{Ground}
use Rattle.rdl_layout.specs.Ground.{tenant_at}
use Rattle.rdl_layout.specs.Extents.{bars, clashes_with_any, covers, stepped, tenancy, tenancy_from}
use Rattle.rdl_layout.proofs.Clashes.{HaveSome, barred-clashes, clashes-barred}

standing-push : {X : Type 0} (before xs : List X) (x : X) → standing_from before (xs ++ x ∷ []) ≡ standing_from before xs ++ (before ++ xs, x) ∷ []
standing-push before [] x = ap (λ b. (b, x) ∷ []) (sym (append-none before))
standing-push before (y ∷ ys) x = ap (λ l. (before, y) ∷ l) (standing-push (before ++ (y ∷ [])) ys x ∙ ap (λ b. standing_from (before ++ (y ∷ [])) ys ++ (b, x) ∷ []) (append_assoc before (y ∷ []) ys))

flat-push : {X Y : Type 0} (f : X → List Y) (xs : List X) (x : X) → flat_map f (xs ++ x ∷ []) ≡ flat_map f xs ++ f x
flat-push f [] x = append-none (f x)
flat-push f (y ∷ ys) x = ap (λ l. f y ++ l) (flat-push f ys x) ∙ sym (append_assoc (f y) (flat_map f ys) (f x))

pub claims-more : (rule : Rule) (cs : List Claim) (c : Claim) → clashing_claims rule (cs ++ c ∷ []) ≡ clashing_claims rule cs ++ when_clashing rule (cs, c)
claims-more rule cs c = ap (flat_map (when_clashing rule)) (standing-push [] cs c) ∙ flat-push (when_clashing rule) (standing cs) (cs, c)

from-more : (p : ℕ) (t : Option Tenant) (es : List Extent) (e : Extent) → tenancy_from p t (es ++ e ∷ []) ≡ stepped p (tenancy_from p t es) e
from-more p t [] e = refl
from-more p t (x ∷ xs) e = from-more p (stepped p t x) xs e

extents-more : (cs : List Claim) (c : Claim) → extents (cs ++ c ∷ []) ≡ extents cs ++ c.extent ∷ []
extents-more [] c = refl
extents-more (x ∷ xs) c = ap (λ l. x.extent ∷ l) (extents-more xs c)

pub tenancy-more : (p : ℕ) (cs : List Claim) (c : Claim) → tenancy p (extents (cs ++ c ∷ [])) ≡ stepped p (tenancy p (extents cs)) c.extent
tenancy-more p cs c = ap (tenancy p) (extents-more cs c) ∙ from-more p None (extents cs) c.extent

pub have-some : (cs : List Claim) → All IsFit cs → (i : ℕ) → HaveSome (extents (take i cs))
have-some cs h zero = tt
have-some [] h (suc i) = tt
have-some (c ∷ cs) h (suc i) = ((h 0 c (omega arith)).0, have-some cs (λ k d l. h (suc k) d (omega (arith, l))) i)

-- a claim that is barred, or none
pub when-barred : (rule : Rule) (cs : List Claim) (c : Claim) (b : Bool) → HaveSome (extents cs) → 0 < c.extent.length
    → (IsTrue b ↔ ((p : ℕ) × (covers c.extent p ≡ true) × (bars c.extent.tenant (tenancy p (extents cs)) ≡ true))) → clashes_with_any (extents cs) c.extent ≡ b
when-barred rule cs c true some l h = let q = h.0 refl in barred-clashes c.extent (extents cs) q.0 q.1 q.2
when-barred rule cs c false some l h = go (clashes_with_any (extents cs) c.extent) refl
  where
    go : (b : Bool) → clashes_with_any (extents cs) c.extent ≡ b → clashes_with_any (extents cs) c.extent ≡ false
    go true e = cc (h.1 (clashes-barred c.extent (extents cs) l some e))
    go false e = e

-- what one turn of the loop does
module _ (rule : Rule) (claims : List Claim) (i : ℕ) (d : Claim) (old new : Ground) (fs gs : List Fault) (b : Bool) (l : i < length claims) (fit : All IsFit claims)
    (ground : (p : ℕ) → tenant_at old p ≡ tenancy p (extents (take i claims))) (faults : fs ≡ clashing_claims rule (take i claims))
    (test : IsTrue b ↔ ((p : ℕ) × (covers (get_or claims i d).extent p ≡ true) × (bars (get_or claims i d).extent.tenant (tenant_at old p) ≡ true)))
    (added : (p : ℕ) → tenant_at new p ≡ stepped p (tenant_at old p) (get_or claims i d).extent) where
  pub ground-more : (p : ℕ) → tenant_at new p ≡ tenancy p (extents (take (i + 1) claims))
  ground-more p = added p ∙ (ap (λ t. stepped p t (get_or claims i d).extent) (ground p) ∙ (sym (tenancy-more p (take i claims) (get_or claims i d)) ∙ ap (λ cs. tenancy p (extents cs)) (sym (take_more claims i d l))))

  same_test : (p : ℕ) → bars (get_or claims i d).extent.tenant (tenant_at old p) ≡ bars (get_or claims i d).extent.tenant (tenancy p (extents (take i claims)))
  same_test p = ap (bars (get_or claims i d).extent.tenant) (ground p)

  found : clashes_with_any (extents (take i claims)) (get_or claims i d).extent ≡ b
  found = when-barred rule (take i claims) (get_or claims i d) b (have-some claims fit i) (fit i d l).0
      ((λ t. let q = test.0 t in (q.0, q.1, sym (same_test q.0) ∙ q.2)), (λ q. test.1 (q.0, q.1, same_test q.0 ∙ q.2)))

  faults-more : gs ≡ fs ++ when b (at_ rule (get_or claims i d).place) → gs ≡ clashing_claims rule (take (i + 1) claims)
  faults-more e = e ∙ (ap (λ x. x ++ when b (at_ rule (get_or claims i d).place)) faults
      ∙ (ap (λ t. clashing_claims rule (take i claims) ++ when t (at_ rule (get_or claims i d).place)) (sym found)
      ∙ (sym (claims-more rule (take i claims) (get_or claims i d)) ∙ ap (clashing_claims rule) (sym (take_more claims i d l)))))

  pub one-found : b ≡ true → gs ≡ fs ++ at_ rule (get_or claims i d).place ∷ [] → gs ≡ clashing_claims rule (take (i + 1) claims)
  one-found t e = faults-more (e ∙ ap (λ x. fs ++ when x (at_ rule (get_or claims i d).place)) (sym t))

  pub none-found : b ≡ false → gs ≡ fs → gs ≡ clashing_claims rule (take (i + 1) claims)
  none-found f e = faults-more (e ∙ (sym (append-none fs) ∙ ap (λ x. fs ++ when x (at_ rule (get_or claims i d).place)) (sym f)))
