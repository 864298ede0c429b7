-- Failures put into a list, one after the other.
use Rattle.std.proofs.Common.{◌≡◌, ◌∙◌, suc, List, [], ◌∷◌, ◌++◌, length, reverse, Contains, refl, sym, ap, subst, arith}
use mathlib.Core.List.{reverse_aux}
use Rattle.std.specs.BTreeSet.{insert_key}
use Rattle.std.specs.Cmp.{IsTotalOrder}
use Rattle.std.specs.Ordering.{ordering_reverse, match_ordering}
use Rattle.std.specs.declared.cmp.Ordering.{Ordering}
use Rattle.std.specs.declared.cmp.Ordering.TheVariants.{Less, Equal, Greater}
use Rattle.std.proofs.lemmas.Cmp.{nat_cmp_total, on_total, then_total, tied_itself}
use Rattle.std.proofs.lemmas.List.Sorted.{Contains-permutation, IsPermutation-reverse, IsPermutation-sym}
use Rattle.rdl_base.specs.Faults.{fault_cmp}
use Rattle.rdl_base.specs.Rules.{row}
use Rattle.rdl_base.specs.declared.fault.Fault.{Fault}
use Rattle.rdl_values.specs.Faults.{at_}
use Rattle.rdl_values.specs.Verdict.{IsListOf, placed, with, in_order}
use Rattle.rdl_values.proofs.Sorted.{alike, in_order-is}
use Rattle.rdl_failures.specs.Noted.{Holds, with_all}

pub with_all-append : (fs gs list : List Fault) → with_all (fs ++ gs) list ≡ with_all gs (with_all fs list)
with_all-append [] gs list = refl
with_all-append (f ∷ fs) gs list = with_all-append fs gs (with f list)

-- An ordered set takes a failure as the list does.

inserts : (o : Ordering) (f g : Fault) (gs behind : List Fault) → match_ordering o (f ∷ g ∷ gs) (g ∷ gs) (g ∷ behind) ≡ placed o f g gs behind
inserts Less f g gs behind = refl
inserts Equal f g gs behind = refl
inserts Greater f g gs behind = refl

pub inserted : (cmp : Fault → Fault → Ordering) → ((a b : Fault) → cmp a b ≡ fault_cmp a b) → (f : Fault) (gs : List Fault) → insert_key cmp gs f ≡ with f gs
inserted cmp same f [] = refl
inserted cmp same f (g ∷ gs) = inserts (cmp f g) f g gs (insert_key cmp gs f) ∙ ap (λ o. placed o f g gs (insert_key cmp gs f)) (same f g) ∙ ap (placed (fault_cmp f g) f g gs) (inserted cmp same f gs)

-- The set of all is the list of what fails.

turned : (fs gs : List Fault) → with_all fs (in_order gs) ≡ in_order (reverse_aux fs gs)
turned [] gs = refl
turned (f ∷ fs) gs = turned fs (f ∷ gs)

pub collected : (fs : List Fault) → IsListOf (λ rule place. Contains fs (at_ rule place)) (with_all fs [])
collected fs = record { ordered = all.ordered; exact = λ f. (λ c. back f ((all.exact f).0 c), λ c. (all.exact f).1 (forth f c)) }
  where
    all : IsListOf (λ rule place. Contains (reverse fs) (at_ rule place)) (with_all fs [])
    all = subst (IsListOf (λ rule place. Contains (reverse fs) (at_ rule place))) (sym (turned fs [])) (in_order-is (reverse fs))

    forth : (f : Fault) → Contains fs f → Contains (reverse fs) f
    forth f c = Contains-permutation fs (reverse fs) f (IsPermutation-reverse fs) c

    back : (f : Fault) → Contains (reverse fs) f → Contains fs f
    back f c = Contains-permutation (reverse fs) fs f (IsPermutation-sym fs (reverse fs) (IsPermutation-reverse fs)) c

-- What is in the set stays in it.

order : IsTotalOrder fault_cmp
order = then_total (on_total (λ (f : Fault). f.place.0) nat_cmp_total) (on_total (λ (f : Fault). (row f.rule).number) nat_cmp_total)

longer : (f : Fault) (fs : List Fault) → f ∷ fs ≡ fs → ⊥
longer f fs e = let l : suc (length fs) ≡ length fs = ap length e in omega (arith, l)

put_twice : (f : Fault) (list : List Fault) → with f (with f list) ≡ with f list
put_twice f [] = ap (λ o. placed o f f [] (f ∷ [])) (tied_itself order f)
put_twice f (g ∷ gs) = go (fault_cmp f g) refl (put_twice f gs)
  where
    go : (o : Ordering) → fault_cmp f g ≡ o → with f (with f gs) ≡ with f gs → with f (placed o f g gs (with f gs)) ≡ placed o f g gs (with f gs)
    go Less e ih = ap (λ o. placed o f f (g ∷ gs) (with f (g ∷ gs))) (tied_itself order f)
    go Equal e ih = ap (λ o. placed o f g gs (with f gs)) e
    go Greater e ih = ap (λ o. placed o f g (with f gs) (with f (with f gs))) e ∙ ap (λ l. g ∷ l) ih

tail_same : (g : Fault) (xs ys : List Fault) → g ∷ xs ≡ g ∷ ys → xs ≡ ys
tail_same g xs ys e = cc

greater : (f g : Fault) → fault_cmp g f ≡ Less → fault_cmp f g ≡ Greater
greater f g e = order.antisymm f g ∙ ap ordering_reverse e

less : (f g : Fault) → fault_cmp f g ≡ Greater → fault_cmp g f ≡ Less
less f g e = order.antisymm g f ∙ ap ordering_reverse e

stays : (f g : Fault) (list : List Fault) → with f list ≡ list → with f (with g list) ≡ with g list
stays f g [] h = cc
stays f g (x ∷ xs) h = go (fault_cmp f x) (fault_cmp g x) refl refl h (stays f g xs)
  where
    -- behind the new one, nothing changes
    passed : fault_cmp f g ≡ Greater → with f (x ∷ xs) ≡ x ∷ xs → with f (g ∷ x ∷ xs) ≡ g ∷ x ∷ xs
    passed e k = ap (λ o. placed o f g (x ∷ xs) (with f (x ∷ xs))) e ∙ ap (λ l. g ∷ l) k

    go : (o p : Ordering) → fault_cmp f x ≡ o → fault_cmp g x ≡ p → placed o f x xs (with f xs) ≡ x ∷ xs → (with f xs ≡ xs → with f (with g xs) ≡ with g xs)
        → with f (placed p g x xs (with g xs)) ≡ placed p g x xs (with g xs)
    go Less p e q k ih = absurd (longer f (x ∷ xs) k)
    go Equal Less e q k ih = passed (order.congr f x g e ∙ greater x g q) (ap (λ o. placed o f x xs (with f xs)) e)
    go Greater Less e q k ih = passed (greater f g (order.trans g x f q (less f x e))) (ap (λ o. placed o f x xs (with f xs)) e ∙ k)
    go Equal Equal e q k ih = ap (λ o. placed o f x xs (with f xs)) e
    go Greater Equal e q k ih = ap (λ o. placed o f x xs (with f xs)) e ∙ k
    go Equal Greater e q k ih = ap (λ o. placed o f x (with g xs) (with f (with g xs))) e
    go Greater Greater e q k ih = ap (λ o. placed o f x (with g xs) (with f (with g xs))) e ∙ ap (λ l. x ∷ l) (ih (tail_same x (with f xs) xs k))

one_kept : (f : Fault) (gs list : List Fault) → with f list ≡ list → with f (with_all gs list) ≡ with_all gs list
one_kept f [] list h = h
one_kept f (g ∷ gs) list h = one_kept f gs (with g list) (stays f g list h)

pub kept : (fs gs list : List Fault) → Holds list fs → Holds (with_all gs list) fs
kept [] gs list h = tt
kept (f ∷ fs) gs list h = (one_kept f gs list h.0, kept fs gs list h.1)

pub held : (fs list : List Fault) → Holds (with_all fs list) fs
held [] list = tt
held (f ∷ fs) list = (one_kept f fs (with f list) (put_twice f list), held fs (with f list))

pub again : (fs list : List Fault) → Holds list fs → with_all fs list ≡ list
again [] list h = refl
again (f ∷ fs) list h = ap (with_all fs) h.0 ∙ again fs list h.1

-- The order in which failures are put in doesn't matter.

turned-round : (f g : Fault) (o : Ordering) → fault_cmp f g ≡ o → fault_cmp g f ≡ ordering_reverse o
turned-round f g o e = order.antisymm g f ∙ ap ordering_reverse e

swapped : (f g : Fault) (list : List Fault) → with f (with g list) ≡ with g (with f list)
swapped f g [] = go (fault_cmp f g) refl
  where
    go : (o : Ordering) → fault_cmp f g ≡ o → with f (g ∷ []) ≡ with g (f ∷ [])
    go Less e = ap (λ o. placed o f g [] (f ∷ [])) e ∙ sym (ap (λ o. placed o g f [] (g ∷ [])) (turned-round f g Less e))
    go Equal e = ap (λ o. placed o f g [] (f ∷ [])) e ∙ ap (λ x. x ∷ []) (sym (alike f g e)) ∙ sym (ap (λ o. placed o g f [] (g ∷ [])) (turned-round f g Equal e))
    go Greater e = ap (λ o. placed o f g [] (f ∷ [])) e ∙ sym (ap (λ o. placed o g f [] (g ∷ [])) (turned-round f g Greater e))
swapped f g (x ∷ xs) = go (fault_cmp f x) (fault_cmp g x) refl refl (swapped f g xs)
  where
    at : Fault → Ordering → List Fault → List Fault
    at h o behind = placed o h x xs behind

    -- one that stands behind the first goes past it
    past : (h : Fault) (behind : List Fault) → fault_cmp h x ≡ Greater → with h (x ∷ behind) ≡ x ∷ with h behind
    past h behind e = ap (λ o. placed o h x behind (with h behind)) e

    same : (h : Fault) (behind : List Fault) → fault_cmp h x ≡ Equal → with h (x ∷ behind) ≡ x ∷ behind
    same h behind e = ap (λ o. placed o h x behind (with h behind)) e

    first : (h : Fault) (behind : List Fault) → fault_cmp h x ≡ Less → with h (x ∷ behind) ≡ h ∷ x ∷ behind
    first h behind e = ap (λ o. placed o h x behind (with h behind)) e

    beyond : (h i : Fault) (behind : List Fault) → fault_cmp h i ≡ Greater → with h (i ∷ behind) ≡ i ∷ with h behind
    beyond h i behind e = ap (λ o. placed o h i behind (with h behind)) e

    both_first : fault_cmp f x ≡ Less → fault_cmp g x ≡ Less → (o : Ordering) → fault_cmp f g ≡ o → with f (g ∷ x ∷ xs) ≡ with g (f ∷ x ∷ xs)
    both_first a b Less e = ap (λ o. placed o f g (x ∷ xs) (with f (x ∷ xs))) e ∙ sym (beyond g f (x ∷ xs) (turned-round f g Less e) ∙ ap (λ l. f ∷ l) (first g xs b))
    both_first a b Equal e = ap (λ o. placed o f g (x ∷ xs) (with f (x ∷ xs))) e ∙ ap (λ y. y ∷ x ∷ xs) (sym (alike f g e)) ∙ sym (ap (λ o. placed o g f (x ∷ xs) (with g (x ∷ xs))) (turned-round f g Equal e))
    both_first a b Greater e = beyond f g (x ∷ xs) e ∙ ap (λ l. g ∷ l) (first f xs a) ∙ sym (ap (λ o. placed o g f (x ∷ xs) (with g (x ∷ xs))) (turned-round f g Greater e))

    -- the one stands before the first, and the other not
    apart : (h i : Fault) → fault_cmp h x ≡ Less → fault_cmp i h ≡ Greater → (rest : List Fault) → with i (x ∷ xs) ≡ x ∷ rest → with h (with i (x ∷ xs)) ≡ with i (with h (x ∷ xs))
    apart h i a e rest q =
        ap (with h) q ∙ first h rest a ∙ sym (ap (with i) (first h xs a) ∙ beyond i h (x ∷ xs) e ∙ ap (λ l. h ∷ l) q)

    go : (o p : Ordering) → fault_cmp f x ≡ o → fault_cmp g x ≡ p → with f (with g xs) ≡ with g (with f xs) → with f (with g (x ∷ xs)) ≡ with g (with f (x ∷ xs))
    go Less Less a b ih = ap (with f) (first g xs b) ∙ both_first a b (fault_cmp f g) refl ∙ sym (ap (with g) (first f xs a))
    go Less Equal a b ih = apart f g a (order.congr g x f b ∙ turned-round f x Less a) xs (same g xs b)
    go Less Greater a b ih = apart f g a (turned-round f g Less (order.trans f x g a (turned-round g x Greater b))) (with g xs) (past g xs b)
    go Equal Less a b ih = sym (apart g f b (order.congr f x g a ∙ turned-round g x Less b) xs (same f xs a))
    go Greater Less a b ih = sym (apart g f b (turned-round g f Less (order.trans g x f b (turned-round f x Greater a))) (with f xs) (past f xs a))
    go Equal Equal a b ih = ap (with f) (same g xs b) ∙ same f xs a ∙ sym (ap (with g) (same f xs a) ∙ same g xs b)
    go Equal Greater a b ih = ap (with f) (past g xs b) ∙ same f (with g xs) a ∙ sym (ap (with g) (same f xs a) ∙ past g xs b)
    go Greater Equal a b ih = ap (with f) (same g xs b) ∙ past f xs a ∙ sym (ap (with g) (past f xs a) ∙ same g (with f xs) b)
    go Greater Greater a b ih = ap (with f) (past g xs b) ∙ past f (with g xs) a ∙ ap (λ l. x ∷ l) ih ∙ sym (ap (with g) (past f xs a) ∙ past g (with f xs) b)

one-swapped : (f : Fault) (gs list : List Fault) → with_all gs (with f list) ≡ with f (with_all gs list)
one-swapped f [] list = refl
one-swapped f (g ∷ gs) list = ap (with_all gs) (swapped g f list) ∙ one-swapped f gs (with g list)

pub with_all-swap : (fs gs list : List Fault) → with_all gs (with_all fs list) ≡ with_all fs (with_all gs list)
with_all-swap [] gs list = refl
with_all-swap (f ∷ fs) gs list = with_all-swap fs gs (with f list) ∙ ap (with_all fs) (one-swapped f gs list)

-- what is held of two lists
pub holds-left : (fs gs list : List Fault) → Holds list (fs ++ gs) → Holds list fs
holds-left [] gs list h = tt
holds-left (f ∷ fs) gs list h = (h.0, holds-left fs gs list h.1)

pub holds-right : (fs gs list : List Fault) → Holds list (fs ++ gs) → Holds list gs
holds-right [] gs list h = h
holds-right (f ∷ fs) gs list h = holds-right fs gs list h.1

pub holds-both : (fs gs list : List Fault) → Holds list fs → Holds list gs → Holds list (fs ++ gs)
holds-both [] gs list h k = k
holds-both (f ∷ fs) gs list h k = (h.0, holds-both fs gs list h.1 k)

-- failures put in before are those that come with others
pub put_before : (part all list : List Fault) → ((l : List Fault) → Holds l all → Holds l part) → with_all all (with_all part list) ≡ with_all all list
put_before part all list h = with_all-swap part all list ∙ again part (with_all all list) (h (with_all all list) (held all list))
