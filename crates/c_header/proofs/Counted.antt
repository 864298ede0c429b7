-- Names that were seen, and how often.
use Rattle.std.proofs.Common.{◌≡◌, ◌∙◌, ℕ, zero, suc, ◌+◌, ◌<◌, ◌≤◌, Bool, true, false, cond, bytes_eq, count_by, nat_lt, List, [], ◌∷◌, ◌++◌, length, get_or, take, Some, is_some, unwrap_or, refl, sym, ap, subst, arith}
use Rattle.std.proofs.lemmas.Bool.Decides.{nat_tests}
use Rattle.std.proofs.lemmas.List.{take_all, take_more}
use Rattle.c_header.specs.declared.repeats.Seen.{Seen}
use Rattle.c_header.specs.Names.{is_repeated}
use Rattle.c_header.specs.Repeats.{IsSeenOf, seen_in, times}
use Rattle.plain_lemmas.proofs.Lists.{bytes_eq-same, fold-push}

pub times-next : (n : ℕ) → times (n + 1) ≡ Some (is_some (times n))
times-next zero = refl
times-next (suc zero) = refl
times-next (suc (suc n)) = let next : suc (suc n) + 1 ≡ suc (suc (n + 1)) = omega arith in ap times next

counted : {X : Type 0} (p : X → Bool) (xs : List X) (x : X) → count_by p (xs ++ x ∷ []) ≡ count_by p xs + cond (p x) 1 0
counted p xs x = fold-push (λ n y. n + cond (p y) 1 0) 0 xs x

-- one name more
pub seen_more : (ns : List (List ℕ)) (n : List ℕ) (old new : Seen) → IsSeenOf ns old
    → ((other : List ℕ) → seen_in new other ≡ cond (bytes_eq n other) (Some (is_some (seen_in old n))) (seen_in old other)) → IsSeenOf (ns ++ n ∷ []) new
seen_more ns n old new is put other = put other ∙ go (bytes_eq n other) refl ∙ ap times (sym (counted (λ m. bytes_eq m other) ns n))
  where
    go : (b : Bool) → bytes_eq n other ≡ b → cond b (Some (is_some (seen_in old n))) (seen_in old other) ≡ times (count_by (λ m. bytes_eq m other) ns + cond b 1 0)
    go true t = ap (λ m. Some (is_some (seen_in old m))) (bytes_eq-same n other t) ∙ ap (λ o. Some (is_some o)) (is other) ∙ sym (times-next (count_by (λ m. bytes_eq m other) ns))
    go false t = is other ∙ ap times (sym (plain (count_by (λ m. bytes_eq m other) ns)))
      where
        plain : (c : ℕ) → c + 0 ≡ c
        plain c = omega arith

pub seen_next : (ns : List (List ℕ)) (i : ℕ) (n : List ℕ) (old new : Seen) → i < length ns → n ≡ get_or ns i n → IsSeenOf (take i ns) old
    → ((other : List ℕ) → seen_in new other ≡ cond (bytes_eq n other) (Some (is_some (seen_in old n))) (seen_in old other)) → IsSeenOf (take (i + 1) ns) new
seen_next ns i n old new low at is put = subst (λ ms. IsSeenOf ms new) (sym (take_more ns i n low ∙ ap (λ m. take i ns ++ m ∷ []) (sym at))) (seen_more (take i ns) n old new is put)

pub seen_all : (ns : List (List ℕ)) (i : ℕ) (s : Seen) → length ns ≤ i → IsSeenOf (take i ns) s → IsSeenOf ns s
seen_all ns i s long is = subst (λ ms. IsSeenOf ms s) (take_all i ns long) is

repeated : (n : ℕ) → unwrap_or (times n) false ≡ nat_lt 1 n
repeated zero = refl
repeated (suc zero) = refl
repeated (suc (suc n)) = grind (arith, nat_tests)

pub found_repeated : (ns : List (List ℕ)) (s : Seen) (name : List ℕ) → IsSeenOf ns s → unwrap_or (seen_in s name) false ≡ is_repeated ns name
found_repeated ns s name is = ap (λ o. unwrap_or o false) (is name) ∙ repeated (count_by (λ n. bytes_eq n name) ns)
