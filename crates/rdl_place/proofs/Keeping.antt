-- Places, one after the other.
use Rattle.std.proofs.Common.{◌≡◌, ◌∙◌, ℕ, zero, suc, ◌+◌, ◌<◌, ◌⊎◌, inl, inr, List, [], ◌∷◌, ◌++◌, length, sym, ap, refl, arith, length-append}
use Rattle.plain_lemmas.proofs.Numbers.{below_next-same_or as split-next}
use Rattle.rdl_addr.specs.Areas.{area_at}
use Rattle.rdl_addr.specs.declared.map.Area.{Area}
use Rattle.rdl_sizes.specs.declared.known.Measure.{Measure}
use Rattle.rdl_sizes.specs.Sized.{measure_at}
use Rattle.rdl_sizes.specs.Addresses.{address_at}
use Rattle.rdl_place.specs.Kept.{area}

-- those of the first nodes
pub record AreFirst (addresses : List ℕ) (measures : List Measure) (to : ℕ) (ss : List Area) : Type 0 where
  pub many : length ss ≡ to
  pub each : (k : ℕ) → k < to → area_at ss k ≡ area (address_at addresses k) (measure_at measures k).size

at-end : (ss : List Area) (s : Area) (k : ℕ) → k ≡ length ss → area_at (ss ++ (s ∷ [])) k ≡ s
at-end [] s zero e = refl
at-end [] s (suc k) e = absurd (omega (arith, e))
at-end (x ∷ xs) s zero e = absurd (omega (arith, e))
at-end (x ∷ xs) s (suc k) e = at-end xs s k (omega (arith, e))

before-end : (ss : List Area) (s : Area) (k : ℕ) → k < length ss → area_at (ss ++ (s ∷ [])) k ≡ area_at ss k
before-end [] s k l = absurd (omega (arith, l))
before-end (x ∷ xs) s zero l = refl
before-end (x ∷ xs) s (suc k) l = before-end xs s k (omega (arith, l))

pub no-areas : (as_ : List ℕ) (ms : List Measure) (ss : List Area) → ss ≡ [] → AreFirst as_ ms 0 ss
no-areas as_ ms ss none = record { many = ap length none; each = λ k l. absurd (omega (arith, l)) }

pub one-area-more : (as_ : List ℕ) (ms : List Measure) (i : ℕ) (ss : List Area) → AreFirst as_ ms i ss → (s : Area) → s ≡ area (address_at as_ i) (measure_at ms i).size → (new : List Area) → new ≡ ss ++ (s ∷ []) → AreFirst as_ ms (i + 1) new
one-area-more as_ ms i ss h s is new pushed = record {
  many = (let n = length-append ss (s ∷ []) in let m = ap length pushed in let before = h.many in omega (arith, n, m, before));
  each = λ k l. by k (split-next k i l);
}
  where
    by : (k : ℕ) → (k ≡ i) ⊎ (k < i) → area_at new k ≡ area (address_at as_ k) (measure_at ms k).size
    by k (inl same) = ap (λ xs. area_at xs k) pushed ∙ (at-end ss s k (same ∙ sym h.many) ∙ (is ∙ ap (λ j. area (address_at as_ j) (measure_at ms j).size) (sym same)))
    by k (inr less) = ap (λ xs. area_at xs k) pushed ∙ (before-end ss s k (let before = h.many in omega (arith, less, before)) ∙ h.each k less)
