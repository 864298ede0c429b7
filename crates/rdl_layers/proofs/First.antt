-- The assignments that apply to a node stand in the order of their ranks, so the first related one decides.
use Rattle.std.proofs.Common.{◌≡◌, ℕ, ◌+◌, Bool, true, false, not, ◌&&◌, ◌||◌, nat_lt, ◌==◌, List, [], ◌∷◌, ◌++◌, length, map, flat_map, filter, find, option_to_list, refl, sym, subst, arith, length-append, append_assoc}
use Rattle.std.specs.List.{AllByRecursion, list_all}
use Rattle.plain_lemmas.proofs.Lists.{each-append, each-filter}
use Rattle.plain_lemmas.proofs.Numbers.{before-itself as same}
use Rattle.rdl_props.specs.declared.prop.Prop.{Prop}
use Rattle.rdl_props.specs.declared.prop.Prop.TheVariants as prop
use Rattle.rdl_values.specs.Bodies.{Scope, Body, standing, standing_from, around}
use Rattle.rdl_values.specs.Instances.{Instance, body}
use Rattle.rdl_values.specs.Uses.{Use}
use Rattle.rdl_values.specs.Values.{number_of}
use Rattle.rdl_values.proofs.Given.{each-map}
use Rattle.rdl_layers.specs.declared.candidate.Candidate.{Candidate}
use Rattle.rdl_layers.specs.declared.rank.Rank.{Rank}
use Rattle.rdl_layers.specs.declared.rank.Rank.TheVariants as rank
use Rattle.rdl_layers.specs.Assignments.{Nested, locals, defaults_before, dynamics, targets, is_among}
use Rattle.rdl_layers.specs.Forms.{Meaning, number}
use Rattle.rdl_layers.specs.Judged.{failures_of, failures_of_dynamic, legal_on, anywhere, sound}
use Rattle.rdl_layers.specs.Meanings.{Assignment, prop_of, meaning}
use Rattle.rdl_layers.specs.Ranks.{is_related, is_before, layer, within, decides}
use Rattle.rdl_layers.specs.Settings.{Applied, applied, given, gives, from_above, from_instance, from_body, from_defaults, applied_to, deciding_of}
use Rattle.rdl_layers.proofs.Formed.{each-all}

-- the one doesn't rank behind the other
abbrev Le : Rank → Rank → Type 0
Le r s = is_before s r ≡ false

through : (la wa lb wb lc wc : ℕ) → (nat_lt lb la || (lb == la && nat_lt wb wa)) ≡ false → (nat_lt lc lb || (lc == lb && nat_lt wc wb)) ≡ false → (nat_lt lc la || (lc == la && nat_lt wc wa)) ≡ false
through la wa lb wb lc wc f g = grind arith

le_through : (a b c : Rank) → Le a b → Le b c → Le a c
le_through a b c = through (layer a) (within a) (layer b) (within b) (layer c) (within c)

le_itself : (r : Rank) → Le r r
le_itself r = same (layer r) (within r)

next_depth : (k : ℕ) → Le (rank.Dynamic k) (rank.Dynamic (k + 1))
next_depth k = grind arith

next_distance : (k : ℕ) → Le (rank.Default k) (rank.Default (k + 1))
next_distance k = grind arith

-- the ranks rise, from this one on
abbrev RanksRise : Rank → List Applied → Type 0
RanksRise r [] = Unit {0}
RanksRise r (a ∷ more) = Le r a.candidate.rank × RanksRise a.candidate.rank more

abbrev UpTo : Rank → List Applied → Type 0
UpTo r xs = AllByRecursion (λ a. Le a.candidate.rank r) xs

from_lower : (q r : Rank) (xs : List Applied) → Le q r → RanksRise r xs → RanksRise q xs
from_lower q r [] l h = tt
from_lower q r (a ∷ xs) l h = (le_through q r a.candidate.rank l h.0, h.1)

joined : (q r : Rank) (xs ys : List Applied) → RanksRise q xs → UpTo r xs → Le q r → RanksRise r ys → RanksRise q (xs ++ ys)
joined q r [] ys h u l g = from_lower q r ys l g
joined q r (a ∷ xs) ys h u l g = (h.0, joined a.candidate.rank r xs ys h.1 u.1 u.0 g)

-- all are of one rank
abbrev AllOf : Rank → List Applied → Type 0
AllOf r xs = AllByRecursion (λ a. a.candidate.rank ≡ r) xs

one_rank : (r : Rank) (xs : List Applied) → AllOf r xs → RanksRise r xs
one_rank r [] h = tt
one_rank r (a ∷ xs) h = (subst (Le r) (sym h.0) (le_itself r), subst (λ q. RanksRise q xs) (sym h.0) (one_rank r xs h.1))

one_up_to : (r s : Rank) (xs : List Applied) → Le r s → AllOf r xs → UpTo s xs
one_up_to r s [] l h = tt
one_up_to r s (a ∷ xs) l h = (subst (λ q. Le q s) (sym h.0) l, one_up_to r s xs l h.1)

higher : (r s : Rank) (xs : List Applied) → Le r s → UpTo r xs → UpTo s xs
higher r s [] l h = tt
higher r s (a ∷ xs) l h = (le_through a.candidate.rank r s h.0 l, higher r s xs l h.1)

gives_rank : (r : Rank) (a : Assignment) → AllOf r (gives r a)
gives_rank r a = each-all (λ x. x.candidate.rank ≡ r) (λ p. map (applied r p) (given (meaning p a))) (option_to_list (prop_of a)) (λ p. each-map (λ x. x.candidate.rank ≡ r) (applied r p) (given (meaning p a)) (λ m. refl))

-- The layers.

above_rank : (n : Instance) (b : Nested) → AllOf (rank.Dynamic (length b.0)) (from_above n b)
above_rank n b = each-all (λ x. x.candidate.rank ≡ rank.Dynamic (length b.0)) (λ d. gives (rank.Dynamic (length b.0)) d.assigns) (filter (λ d. is_among (targets b d) n) (sound (failures_of_dynamic b) (dynamics b.1))) (λ d. gives_rank (rank.Dynamic (length b.0)) d.assigns)

above_rise : (n : Instance) (before bs : List Body) → RanksRise (rank.Dynamic (length before)) (flat_map (from_above n) (standing_from before bs))
above_rise n before [] = tt
above_rise n before (b ∷ bs) =
    let deeper : Le (rank.Dynamic (length before)) (rank.Dynamic (length (before ++ (b ∷ [])))) = subst (λ k. Le (rank.Dynamic (length before)) (rank.Dynamic k)) (sym (length-append before (b ∷ []))) (next_depth (length before)) in
    joined (rank.Dynamic (length before)) (rank.Dynamic (length (before ++ (b ∷ [])))) (from_above n (before, b)) (flat_map (from_above n) (standing_from (before ++ (b ∷ [])) bs))
    (one_rank (rank.Dynamic (length before)) (from_above n (before, b)) (above_rank n (before, b)))
    (one_up_to (rank.Dynamic (length before)) (rank.Dynamic (length (before ++ (b ∷ [])))) (from_above n (before, b)) deeper (above_rank n (before, b)))
    deeper
    (above_rise n (before ++ (b ∷ [])) bs)

above_up_to : (n : Instance) (before bs : List Body) → UpTo rank.Instance (flat_map (from_above n) (standing_from before bs))
above_up_to n before [] = tt
above_up_to n before (b ∷ bs) = each-append (λ a. Le a.candidate.rank rank.Instance) (from_above n (before, b)) (flat_map (from_above n) (standing_from (before ++ (b ∷ [])) bs)) (one_up_to (rank.Dynamic (length before)) rank.Instance (from_above n (before, b)) refl (above_rank n (before, b))) (above_up_to n (before ++ (b ∷ [])) bs)

instance_rank : (u : Use) → AllOf rank.Instance (from_instance u)
instance_rank u = each-all (λ x. x.candidate.rank ≡ rank.Instance) (λ e. map (λ k. applied rank.Instance prop.Reset (number k)) (given (number_of (around u.scope) e))) (option_to_list u.form.reset) (λ e. each-map (λ x. x.candidate.rank ≡ rank.Instance) (λ k. applied rank.Instance prop.Reset (number k)) (given (number_of (around u.scope) e)) (λ k. refl))

body_rank : (n : Instance) → AllOf rank.Body (from_body n)
body_rank n = each-all (λ x. x.candidate.rank ≡ rank.Body) (gives rank.Body) (sound (failures_of (legal_on n)) (locals (body n))) (gives_rank rank.Body)

default_rank : (n : Instance) (k : ℕ) (as' : List Assignment) → AllOf (rank.Default k) (filter (λ a. legal_on n a.candidate.prop) (flat_map (gives (rank.Default k)) as'))
default_rank n k as' = each-filter (λ x. x.candidate.rank ≡ rank.Default k) (λ a. legal_on n a.candidate.prop) (flat_map (gives (rank.Default k)) as') (each-all (λ x. x.candidate.rank ≡ rank.Default k) (gives (rank.Default k)) as' (gives_rank (rank.Default k)))

defaults_rise : (n : Instance) (k : ℕ) (scope : Scope) → RanksRise (rank.Default k) (from_defaults n k scope)
defaults_rise n k [] = tt
defaults_rise n k (l ∷ outer) =
    let these = sound (failures_of anywhere) (defaults_before l outer) in
    let own = filter (λ a. legal_on n a.candidate.prop) (flat_map (gives (rank.Default k)) these) in
    joined (rank.Default k) (rank.Default (k + 1)) own (from_defaults n (k + 1) outer)
    (one_rank (rank.Default k) own (default_rank n k these))
    (one_up_to (rank.Default k) (rank.Default (k + 1)) own (next_distance k) (default_rank n k these))
    (next_distance k)
    (defaults_rise n (k + 1) outer)

defaults_up_to : (n : Instance) (k : ℕ) (scope : Scope) → UpTo rank.Table (from_defaults n k scope)
defaults_up_to n k [] = tt
defaults_up_to n k (l ∷ outer) =
    let these = sound (failures_of anywhere) (defaults_before l outer) in
    let own = filter (λ a. legal_on n a.candidate.prop) (flat_map (gives (rank.Default k)) these) in
    each-append (λ a. Le a.candidate.rank rank.Table) own (from_defaults n (k + 1) outer) (one_up_to (rank.Default k) rank.Table own refl (default_rank n k these)) (defaults_up_to n (k + 1) outer)

-- with the table's default, all that applies to a node
abbrev all_for : Instance → Prop → Meaning → List Applied
all_for n p default = applied_to n ++ (applied rank.Table p default ∷ [])

pub all_rise : (n : Instance) (p : Prop) (default : Meaning) → RanksRise (rank.Dynamic 0) (all_for n p default)
all_rise n p default =
    let above = flat_map (from_above n) (standing n.above) in
    let own = from_instance n.use_ in
    let inside = from_body n in
    let outside = from_defaults n 0 n.closure.scope in
    let above_ok = above_rise n [] n.above in
    let above_up = above_up_to n [] n.above in
    let two = joined (rank.Dynamic 0) rank.Instance above own above_ok above_up refl (one_rank rank.Instance own (instance_rank n.use_)) in
    let two_up = each-append (λ a. Le a.candidate.rank rank.Body) above own (higher rank.Instance rank.Body above refl above_up) (one_up_to rank.Instance rank.Body own refl (instance_rank n.use_)) in
    let three = joined (rank.Dynamic 0) rank.Body (above ++ own) inside two two_up refl (one_rank rank.Body inside (body_rank n)) in
    let three_up = each-append (λ a. Le a.candidate.rank (rank.Default 0)) (above ++ own) inside (higher rank.Body (rank.Default 0) (above ++ own) refl two_up) (one_up_to rank.Body (rank.Default 0) inside refl (body_rank n)) in
    let four = joined (rank.Dynamic 0) (rank.Default 0) (above ++ own ++ inside) outside three three_up refl (defaults_rise n 0 n.closure.scope) in
    let four_up = each-append (λ a. Le a.candidate.rank rank.Table) (above ++ own ++ inside) outside (higher (rank.Default 0) rank.Table (above ++ own ++ inside) refl three_up) (defaults_up_to n 0 n.closure.scope) in
    joined (rank.Dynamic 0) rank.Table (above ++ own ++ inside ++ outside) (applied rank.Table p default ∷ []) four four_up refl (le_itself rank.Table, tt)

-- Among ranks that rise the first related one decides.

abbrev cands : List Applied → List Candidate
cands xs = map (λ a. a.candidate) xs

passed_over : (p : Prop) (r : Rank) (before rest : List Applied) → AllByRecursion (λ a. is_related p a.candidate.prop ≡ false) before → list_all (λ d. not (is_related p d.prop && is_before d.rank r)) (cands rest) ≡ true
    → list_all (λ d. not (is_related p d.prop && is_before d.rank r)) (cands (before ++ rest)) ≡ true
passed_over p r [] rest u h = h
passed_over p r (a ∷ before) rest u h = let more = passed_over p r before rest u.1 h in rw (u.0, more) refl

not_both : (a b : Bool) → b ≡ false → not (a && b) ≡ true
not_both true false e = refl
not_both false false e = refl
not_both a true e = cc

none_before : (p : Prop) (r : Rank) (xs : List Applied) → RanksRise r xs → list_all (λ d. not (is_related p d.prop && is_before d.rank r)) (cands xs) ≡ true
none_before p r [] h = refl
none_before p r (a ∷ xs) h =
    let first = not_both (is_related p a.candidate.prop) (is_before a.candidate.rank r) h.0 in
    let more = none_before p r xs (from_lower r a.candidate.rank xs h.0 h.1) in
    rw (first, more) refl

first_of : (p : Prop) (q : Rank) (before rest : List Applied) → AllByRecursion (λ a. is_related p a.candidate.prop ≡ false) before → RanksRise q rest
    → find (λ a. decides p (cands (before ++ rest)) a.candidate) rest ≡ find (λ a. is_related p a.candidate.prop) rest
first_of p q before [] u h = refl
first_of p q before (x ∷ xs) u h = by (is_related p x.candidate.prop) refl (λ e. first_of p x.candidate.rank (before ++ (x ∷ [])) xs (each-append (λ a. is_related p a.candidate.prop ≡ false) before (x ∷ []) u (e, tt)) h.1)
  where
    all : List Applied
    all = before ++ (x ∷ xs)

    regrouped : before ++ (x ∷ []) ++ xs ≡ before ++ (x ∷ xs)
    regrouped = append_assoc before (x ∷ []) xs

    by : (b : Bool) → is_related p x.candidate.prop ≡ b → (is_related p x.candidate.prop ≡ false → find (λ a. decides p (cands (before ++ (x ∷ []) ++ xs)) a.candidate) xs ≡ find (λ a. is_related p a.candidate.prop) xs)
        → find (λ a. decides p (cands (before ++ (x ∷ xs))) a.candidate) (x ∷ xs) ≡ find (λ a. is_related p a.candidate.prop) (x ∷ xs)
    by true e later =
        let none = passed_over p x.candidate.rank before (x ∷ xs) u (none_before p x.candidate.rank (x ∷ xs) (le_itself x.candidate.rank, h.1)) in
        rw (e, none) refl
    by false e later =
        let rest = subst (λ zs. find (λ a. decides p (cands zs) a.candidate) xs ≡ find (λ a. is_related p a.candidate.prop) xs) regrouped (later e) in
        rw e rest

pub first_decides : (n : Instance) (p : Prop) (default : Meaning) → deciding_of p (all_for n p default) ≡ find (λ a. is_related p a.candidate.prop) (all_for n p default)
first_decides n p default = first_of p (rank.Dynamic 0) [] (all_for n p default) tt (all_rise n p default)
