-- The first of least rank among the related ones of the first so many candidates, and that it decides.
use Rattle.std.proofs.Common.{◌≡◌, ℕ, zero, suc, ◌+◌, ◌<◌, inl, inr, Bool, true, false, not, ◌&&◌, ◌||◌, nat_lt, ◌==◌, List, [], ◌∷◌, length, get_or, Option, None, Some, position, refl, sym, ◌∙◌, subst, arith}
use Rattle.std.specs.List.{list_all, position_or_len}
use Rattle.std.proofs.lemmas.List.Folds.{list_all_at}
use Rattle.std.proofs.lemmas.List.Sums.{position_or_len_is}
use Rattle.plain_lemmas.proofs.Bools.{and-false_left as and_false, and-true_left as and_true, not-of_false as not_true}
use Rattle.plain_lemmas.proofs.Numbers.{before-itself as not_before_itself, below_next-same_or as last_or_before}
use Rattle.rdl_props.specs.declared.prop.Prop.{Prop}
use Rattle.rdl_props.specs.declared.prop.Prop.TheVariants as prop
use Rattle.rdl_layers.specs.declared.rank.Rank.{Rank}
use Rattle.rdl_layers.specs.declared.rank.Rank.TheVariants as rank
use Rattle.rdl_layers.specs.declared.candidate.Candidate.{Candidate}
use Rattle.rdl_layers.specs.Ranks.{is_related, is_before, layer, within, decides}

abbrev pub none : Candidate
none = record { prop = prop.Name; rank = rank.Dynamic 0 }

abbrev pub nth : List Candidate → ℕ → Candidate
nth cs k = get_or cs k none

-- it is of the property or of one that excludes it, and ranks before this
abbrev pub beats : Prop → Rank → Candidate → Bool
beats p r c = is_related p c.prop && is_before c.rank r

-- the first of least rank among the first n
pub record Least (p : Prop) (cs : List Candidate) (n : ℕ) (best : ℕ × Rank) : Type 0 where
  pub inside : best.0 < n
  pub related : is_related p (nth cs best.0).prop ≡ true
  pub rank_is : (nth cs best.0).rank ≡ best.1
  pub least : (k : ℕ) → k < n → beats p best.1 (nth cs k) ≡ false
  pub first : (k : ℕ) → k < best.0 → is_related p (nth cs k).prop ≡ true → is_before best.1 (nth cs k).rank ≡ true

abbrev pub Among : Prop → List Candidate → ℕ → Option (ℕ × Rank) → Type 0
Among p cs n None = (k : ℕ) → k < n → is_related p (nth cs k).prop ≡ false
Among p cs n (Some best) = Least p cs n best

-- Ranks are ordered.

pub before_itself : (a : Rank) → is_before a a ≡ false
before_itself a = not_before_itself (layer a) (within a)

between : (la wa lb wb lc wc : ℕ) → (nat_lt la lb || (la == lb && nat_lt wa wb)) ≡ true → (nat_lt lc lb || (lc == lb && nat_lt wc wb)) ≡ false → (nat_lt la lc || (la == lc && nat_lt wa wc)) ≡ true
between la wa lb wb lc wc f g = grind arith

-- what is before b is before all that isn't before b
pub before_others : (a b c : Rank) → is_before a b ≡ true → is_before c b ≡ false → is_before a c ≡ true
before_others a b c = between (layer a) (within a) (layer b) (within b) (layer c) (within c)

not_both : (la wa lc wc : ℕ) → (nat_lt la lc || (la == lc && nat_lt wa wc)) ≡ true → (nat_lt lc la || (lc == la && nat_lt wc wa)) ≡ false
not_both la wa lc wc f = grind arith

pub one_way : (a c : Rank) → is_before a c ≡ true → is_before c a ≡ false
one_way a c = not_both (layer a) (within a) (layer c) (within c)

-- One candidate more.

up_to_next : (P : ℕ → Type 0) (n : ℕ) → ((k : ℕ) → k < n → P k) → P n → (k : ℕ) → k < n + 1 → P k
up_to_next P n before last k l = elim (last_or_before k n l) [ inl e ↦ subst P (sym e) last | inr h ↦ before k h ]

and_second : (a b : Bool) → b ≡ false → (a && b) ≡ false
and_second a b e = grind arith

-- it isn't related
pub passed : (p : Prop) (cs : List Candidate) (n : ℕ) (best : Option (ℕ × Rank)) → Among p cs n best → is_related p (nth cs n).prop ≡ false → Among p cs (n + 1) best
passed p cs n None among e = up_to_next (λ k. is_related p (nth cs k).prop ≡ false) n among e
passed p cs n (Some best) among e =
    record {
      inside = let l : best.0 < n = among.inside in omega arith;
      related = among.related;
      rank_is = among.rank_is;
      least = up_to_next (λ k. beats p best.1 (nth cs k) ≡ false) n among.least (and_false _ _ e);
      first = among.first;
    }

-- it doesn't rank before the best
pub kept : (p : Prop) (cs : List Candidate) (n : ℕ) (best : ℕ × Rank) → Least p cs n best → is_before (nth cs n).rank best.1 ≡ false → Least p cs (n + 1) best
kept p cs n best among e =
    record {
      inside = let l : best.0 < n = among.inside in omega arith;
      related = among.related;
      rank_is = among.rank_is;
      least = up_to_next (λ k. beats p best.1 (nth cs k) ≡ false) n among.least (and_second _ _ e);
      first = among.first;
    }

-- it is the first
pub begun : (p : Prop) (cs : List Candidate) (n : ℕ) → Among p cs n None → is_related p (nth cs n).prop ≡ true → Least p cs (n + 1) (n, (nth cs n).rank)
begun p cs n among e =
    record {
      inside = omega arith;
      related = e;
      rank_is = refl;
      least = up_to_next (λ k. beats p (nth cs n).rank (nth cs k) ≡ false) n (λ k l. and_false _ _ (among k l)) (and_second _ _ (before_itself (nth cs n).rank));
      first = λ k l r. let h : false ≡ true = sym (among k l) ∙ r in grind arith;
    }

beaten_by_less : (p : Prop) (r s : Rank) (c : Candidate) → is_before r s ≡ true → beats p s c ≡ false → beats p r c ≡ false
beaten_by_less p r s c b e = by (is_related p c.prop) refl
  where
    by : (t : Bool) → is_related p c.prop ≡ t → beats p r c ≡ false
    by false h = and_false _ _ h
    by true h = and_second _ _ (one_way r c.rank (before_others r s c.rank b (sym (and_true _ _ h) ∙ e)))

-- it ranks before the best
pub replaced : (p : Prop) (cs : List Candidate) (n : ℕ) (best : ℕ × Rank) → Least p cs n best → is_related p (nth cs n).prop ≡ true → is_before (nth cs n).rank best.1 ≡ true → Least p cs (n + 1) (n, (nth cs n).rank)
replaced p cs n best among e b =
    record {
      inside = omega arith;
      related = e;
      rank_is = refl;
      least = up_to_next (λ k. beats p (nth cs n).rank (nth cs k) ≡ false) n (λ k l. beaten_by_less p (nth cs n).rank best.1 (nth cs k) b (among.least k l)) (and_second _ _ (before_itself (nth cs n).rank));
      first = λ k l r. before_others (nth cs n).rank best.1 (nth cs k).rank b (sym (and_true _ _ r) ∙ among.least k l);
    }

-- The first of least rank of the whole list decides.

all_at : {X : Type 0} (f : X → Bool) (xs : List X) (d : X) → ((k : ℕ) → k < length xs → f (get_or xs k d) ≡ true) → list_all f xs ≡ true
all_at f [] d h = refl
all_at f (x ∷ xs) d h =
    let one : f x ≡ true = h zero (omega arith) in
    let rest : list_all f xs ≡ true = all_at f xs d (λ k l. h (suc k) (omega arith)) in
    and_true _ _ one ∙ rest

not_false : (b : Bool) → b ≡ true → not b ≡ false
not_false b e = grind arith

pub decided : (p : Prop) (cs : List Candidate) (best : ℕ × Rank) → Least p cs (length cs) best → decides p cs (nth cs best.0) ≡ true
decided p cs best among = and_true _ _ among.related ∙ all_at (λ d. not (beats p (nth cs best.0).rank d)) cs none (λ k l. not_true _ (subst (λ r. beats p r (nth cs k) ≡ false) (sym among.rank_is) (among.least k l)))

undecided : (p : Prop) (cs : List Candidate) (best : ℕ × Rank) → Least p cs (length cs) best → (k : ℕ) → k < best.0 → decides p cs (nth cs k) ≡ false
undecided p cs best among k l = by (is_related p (nth cs k).prop) refl
  where
    by : (t : Bool) → is_related p (nth cs k).prop ≡ t → decides p cs (nth cs k) ≡ false
    by false h = and_false _ _ h
    by true h =
        let before : is_before (nth cs best.0).rank (nth cs k).rank ≡ true = subst (λ r. is_before r (nth cs k).rank ≡ true) (sym among.rank_is) (among.first k l h) in
        and_second _ _ (list_all_at (λ d. not (beats p (nth cs k).rank d)) cs best.0 none among.inside (not_false _ (and_true _ _ among.related ∙ before)))

position_is : {X : Type 0} (f : X → Bool) (xs : List X) (i : ℕ) → position_or_len f xs ≡ i → i < length xs → Some i ≡ position f xs
position_is f xs i e l = let t : nat_lt i (length xs) ≡ true = grind arith in rw (e, t) refl

position_past : {X : Type 0} (f : X → Bool) (xs : List X) → position_or_len f xs ≡ length xs → None ≡ position f xs
position_past f xs e = let t : nat_lt (length xs) (length xs) ≡ false = grind arith in rw (e, t) refl

pub found : (p : Prop) (cs : List Candidate) (best : ℕ × Rank) → Least p cs (length cs) best → Some best.0 ≡ position (decides p cs) cs
found p cs best among =
    let l : best.0 < length cs = among.inside in
    position_is (decides p cs) cs best.0 (position_or_len_is (decides p cs) cs best.0 none (omega arith) (undecided p cs best among) (λ h. decided p cs best among)) l

pub found_none : (p : Prop) (cs : List Candidate) → Among p cs (length cs) None → None ≡ position (decides p cs) cs
found_none p cs among =
    position_past (decides p cs) cs (position_or_len_is (decides p cs) cs (length cs) none (omega arith) (λ k l. and_false _ _ (among k l)) (λ l. absurd (omega arith)))
