-- Last values in cells.
use Rattle.std.proofs.Common.{◌≡◌, ℕ, zero, suc, ◌<◌, ◌≤◌, true, false, nat_lt, eqb, cond, Option, Some, None, List, [], ◌∷◌, ◌++◌, length, set, get_or, refl, ap, sym, ◌∙◌, arith}
use Rattle.std.proofs.lemmas.Bool.Decides.{nat_tests}
use Rattle.plain_lemmas.proofs.Lists.{any-default}
use Rattle.vcd_reader.specs.LastValues.{value_in, values_in}

pub values_length : (cs ws : List ℕ) → length (values_in cs ws) ≡ length cs
values_length [] ws = refl
values_length (c ∷ cs) [] = ap suc (values_length cs [])
values_length (c ∷ cs) (w ∷ ws) = ap suc (values_length cs ws)

-- the value of a place
value_at : (cs ws : List ℕ) (i : ℕ) → i < length cs → get_or (values_in cs ws) i None ≡ value_in (get_or cs i 0) (get_or ws i 0)
value_at [] ws i l = absurd (omega (arith, l))
value_at (c ∷ cs) [] zero l = refl
value_at (c ∷ cs) [] (suc i) l = value_at cs [] i (omega (arith, l))
value_at (c ∷ cs) (w ∷ ws) zero l = refl
value_at (c ∷ cs) (w ∷ ws) (suc i) l = value_at cs ws i (omega (arith, l))

narrow : (c w : ℕ) → nat_lt c 2147483648 ≡ true → value_in c w ≡ Some c
narrow c w e = ap (λ b. cond b (Some c) (cond (eqb c 2147483648) (Some w) None)) e

narrow_set : (cs ws : List ℕ) (i c : ℕ) → nat_lt c 2147483648 ≡ true → values_in (set cs i c) ws ≡ set (values_in cs ws) i (Some c)
narrow_set [] ws i c e = refl
narrow_set (x ∷ cs) [] zero c e = ap (λ v. v ∷ values_in cs []) (narrow c 0 e)
narrow_set (x ∷ cs) [] (suc i) c e = ap (λ vs. value_in x 0 ∷ vs) (narrow_set cs [] i c e)
narrow_set (x ∷ cs) (w ∷ ws) zero c e = ap (λ v. v ∷ values_in cs ws) (narrow c w e)
narrow_set (x ∷ cs) (w ∷ ws) (suc i) c e = ap (λ vs. value_in x w ∷ vs) (narrow_set cs ws i c e)

wide_set : (cs ws : List ℕ) (i n : ℕ) → length cs ≤ length ws → values_in (set cs i 2147483648) (set ws i n) ≡ set (values_in cs ws) i (Some n)
wide_set [] ws i n l = refl
wide_set (x ∷ cs) [] i n l = absurd (omega (arith, l))
wide_set (x ∷ cs) (w ∷ ws) zero n l = refl
wide_set (x ∷ cs) (w ∷ ws) (suc i) n l = ap (λ vs. value_in x w ∷ vs) (wide_set cs ws i n (omega (arith, l)))

none_set : (cs ws : List ℕ) (i : ℕ) → values_in (set cs i 4294967295) ws ≡ set (values_in cs ws) i None
none_set [] ws i = refl
none_set (x ∷ cs) [] zero = refl
none_set (x ∷ cs) [] (suc i) = ap (λ vs. value_in x 0 ∷ vs) (none_set cs [] i)
none_set (x ∷ cs) (w ∷ ws) zero = refl
none_set (x ∷ cs) (w ∷ ws) (suc i) = ap (λ vs. value_in x w ∷ vs) (none_set cs ws i)

-- wide numbers behind those of all cells change no value
longer_wide : (cs ws more : List ℕ) → length cs ≤ length ws → values_in cs (ws ++ more) ≡ values_in cs ws
longer_wide [] ws more l = refl
longer_wide (x ∷ cs) [] more l = absurd (omega (arith, l))
longer_wide (x ∷ cs) (w ∷ ws) more l = ap (λ vs. value_in x w ∷ vs) (longer_wide cs ws more (omega (arith, l)))

-- one variable more
none_more : (cs ws : List ℕ) → values_in (cs ++ (4294967295 ∷ [])) ws ≡ values_in cs ws ++ (None ∷ [])
none_more [] [] = refl
none_more [] (w ∷ ws) = refl
none_more (x ∷ cs) [] = ap (λ vs. value_in x 0 ∷ vs) (none_more cs [])
none_more (x ∷ cs) (w ∷ ws) = ap (λ vs. value_in x w ∷ vs) (none_more cs ws)

-- What functions tell of the values that are seen.

read_at : (cs ws : List ℕ) (seen : List (Option ℕ)) (i cell : ℕ) → values_in cs ws ≡ seen → i < length seen → cell ≡ get_or cs i cell → cell ≡ get_or cs i 0
read_at cs ws seen i cell v l f = f ∙ any-default cs i cell 0 (omega (arith, l, ap length v, values_length cs ws))

pub gets_narrow : (cs ws : List ℕ) (seen : List (Option ℕ)) (i cell number : ℕ) → values_in cs ws ≡ seen → i < length seen → cell ≡ get_or cs i cell → cell < 2147483648 → number ≡ cell → Some number ≡ get_or seen i None
gets_narrow cs ws seen i cell number v l f s n =
    let e = read_at cs ws seen i cell v l f in
    let low : nat_lt (get_or cs i 0) 2147483648 ≡ true = grind (arith, nat_tests) in
    ap Some (n ∙ e) ∙ (sym (narrow (get_or cs i 0) (get_or ws i 0) low) ∙ (sym (value_at cs ws i (omega (arith, l, ap length v, values_length cs ws))) ∙ ap (λ z. get_or z i None) v))

pub gets_wide : (cs ws : List ℕ) (seen : List (Option ℕ)) (i cell number : ℕ) → values_in cs ws ≡ seen → i < length seen → length cs ≤ length ws → cell ≡ get_or cs i cell → cell ≡ 2147483648 → number ≡ get_or ws i number → Some number ≡ get_or seen i None
gets_wide cs ws seen i cell number v l m f s n =
    let e = read_at cs ws seen i cell v l f in
    let w : number ≡ get_or ws i 0 = n ∙ any-default ws i number 0 (omega (arith, l, m, ap length v, values_length cs ws)) in
    ap Some w ∙ (sym (ap (λ c. value_in c (get_or ws i 0)) (sym e ∙ s)) ∙ (sym (value_at cs ws i (omega (arith, l, ap length v, values_length cs ws))) ∙ ap (λ z. get_or z i None) v))

pub gets_none : (cs ws : List ℕ) (seen : List (Option ℕ)) (i cell : ℕ) → values_in cs ws ≡ seen → i < length seen → cell ≡ get_or cs i cell → 2147483648 < cell → None ≡ get_or seen i None
gets_none cs ws seen i cell v l f s =
    let e = read_at cs ws seen i cell v l f in
    let high : nat_lt (get_or cs i 0) 2147483648 ≡ false = grind (arith, nat_tests) in
    let other : eqb (get_or cs i 0) 2147483648 ≡ false = grind (arith, nat_tests) in
    sym (ap (λ b. cond b (Some (get_or cs i 0)) (cond (eqb (get_or cs i 0) 2147483648) (Some (get_or ws i 0)) None)) high ∙ ap (λ b. cond b (Some (get_or ws i 0)) None) other)
    ∙ (sym (value_at cs ws i (omega (arith, l, ap length v, values_length cs ws))) ∙ ap (λ z. get_or z i None) v)

pub sets_narrow : (cs ws : List ℕ) (seen : List (Option ℕ)) (i n bound : ℕ) (o : Option ℕ) → values_in cs ws ≡ seen → n < bound → bound ≡ 2147483648 → o ≡ Some n → values_in (set cs i n) ws ≡ set seen i o
sets_narrow cs ws seen i n bound o v l b e =
    let low : nat_lt n 2147483648 ≡ true = grind (arith, nat_tests) in
    narrow_set cs ws i n low ∙ (ap (λ z. set z i (Some n)) v ∙ ap (set seen i) (sym e))

pub sets_wide : (cs ws : List ℕ) (seen : List (Option ℕ)) (i n : ℕ) (o : Option ℕ) → values_in cs ws ≡ seen → length cs ≤ length ws → o ≡ Some n → values_in (set cs i 2147483648) (set ws i n) ≡ set seen i o
sets_wide cs ws seen i n o v l e = wide_set cs ws i n l ∙ (ap (λ z. set z i (Some n)) v ∙ ap (set seen i) (sym e))

pub sets_none : (cs ws : List ℕ) (seen : List (Option ℕ)) (i : ℕ) (o : Option ℕ) → values_in cs ws ≡ seen → o ≡ None → values_in (set cs i 4294967295) ws ≡ set seen i o
sets_none cs ws seen i o v e = none_set cs ws i ∙ (ap (λ z. set z i None) v ∙ ap (set seen i) (sym e))

pub pushes_none : (cs ws cells wide : List ℕ) (seen : List (Option ℕ)) → values_in cs ws ≡ seen → length cs ≤ length ws → wide ≡ ws ++ (0 ∷ []) → cells ≡ cs ++ (4294967295 ∷ []) → values_in cells wide ≡ seen ++ (None ∷ [])
pushes_none cs ws cells wide seen v l w c =
    ap (λ z. values_in z wide) c
    ∙ (ap (values_in (cs ++ (4294967295 ∷ []))) w ∙ (none_more cs (ws ++ (0 ∷ [])) ∙ ap (λ z. z ++ (None ∷ [])) (longer_wide cs ws (0 ∷ []) l ∙ v)))
