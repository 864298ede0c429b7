-- A search among lines whose numbers rise.
use Rattle.std.proofs.Common.{◌≡◌, ◌≢◌, ◌⊎◌, ℕ, zero, suc, ◌<◌, ◌≤◌, List, [], ◌∷◌, Ok, Err, get_or, length, slice_get, Some, ap, sym, ◌∙◌, arith, inl, inr}
use Rattle.std.specs.List.Sorted.{IsBinarySearchResult, IsNonDecreasingBy}
use Rattle.std.specs.Ordering.{nat_cmp, ordering_index}
use Rattle.std.proofs.lemmas.Bool.{cases_lt}
use Rattle.std.proofs.lemmas.Bool.Decides.{nat_tests}
use Rattle.std.proofs.lemmas.Cmp.{ranked}
use Rattle.std.proofs.lemmas.Option.{slice_get-get_or}
use Rattle.drive_lang.specs.declared.order.Order.TheVariants.{Wait}
use Rattle.drive_lang.specs.declared.order.Line.{Line}
use Rattle.drive_lang.specs.Rising.{Rises, number_at, number_in}

some_line : Line
some_line = record { number = 0; order = Wait 0 }

-- the number at a place that there is
numbered : (lines : List Line) (k : ℕ) (d : Line) → k < length lines → (get_or lines k d).number ≡ number_at lines k
numbered lines k d low = sym (ap number_in (slice_get-get_or lines k d low))

module _ (lines : List Line) (rises : Rises lines) (number : ℕ) where
  comparisons_rise : IsNonDecreasingBy (λ l. ordering_index (nat_cmp l.number number)) lines
  comparisons_rise i j d le within = go (cases_lt i j)
    where
      a : ℕ
      a = (get_or lines i d).number

      go : (i < j) ⊎ (j ≤ i) → ordering_index (nat_cmp (get_or lines i d).number number) ≤ ordering_index (nat_cmp (get_or lines j d).number number)
      go (inl less) = let r = rises i j less within in let m = numbered lines i d (omega (arith, le, within)) in let n = numbered lines j d within in grind (arith, nat_tests)
      go (inr more) = let same : i ≡ j = omega (arith, le, more) in rw same (omega arith)

  pub found : (k : ℕ) → k < length lines → IsBinarySearchResult (λ l. nat_cmp l.number number) lines (Ok k) → number_at lines k ≡ number
  found k low equal = sym (numbered lines k some_line low) ∙ ranked _ number _ (sym (equal some_line))

  pub missing : (at : ℕ) → at ≤ length lines → IsBinarySearchResult (λ l. nat_cmp l.number number) lines (Err at) → (k : ℕ) → k < length lines → number_at lines k ≢ number
  missing at within parted k low same = go (cases_lt k at)
    where
      is : (get_or lines k some_line).number ≡ number_at lines k
      is = numbered lines k some_line low

      go : (k < at) ⊎ (at ≤ k) → ⊥
      go (inl less) = let b = ranked _ number _ (sym ((parted comparisons_rise).0 k some_line (omega (arith, less, within)) less)) in omega (arith, b, is, same)
      go (inr more) = let b = ranked _ number _ (sym ((parted comparisons_rise).1 k some_line more low)) in omega (arith, b, is, same)

  -- two lines of one number are one
  pub one_place : (j k : ℕ) → j < length lines → k < length lines → number_at lines j ≡ number → number_at lines k ≡ number → j ≡ k
  one_place j k l m p q = go (cases_lt j k) (cases_lt k j)
    where
      go : (j < k) ⊎ (k ≤ j) → (k < j) ⊎ (j ≤ k) → j ≡ k
      go (inl a) b = let r = rises j k a m in absurd (omega (arith, r, p, q))
      go (inr a) (inl b) = let r = rises k j b l in absurd (omega (arith, r, p, q))
      go (inr a) (inr b) = omega (arith, a, b)

-- what was read at a place that there is
pub got : (lines : List Line) (k : ℕ) (l m : Line) → slice_get lines k ≡ Some l → m ≡ get_or lines k m → m ≡ l
got [] k l m e is = cc e
got (x ∷ xs) zero l m e is = is ∙ (let same : x ≡ l = cc e in same)
got (x ∷ xs) (suc k) l m e is = got xs k l m e is
