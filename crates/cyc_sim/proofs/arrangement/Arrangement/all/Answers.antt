use Rattle.std.proofs.Common.{◌≡◌, ℕ, ◌+◌, ◌<◌, true, nat_lt, List, [], ◌∷◌, ◌++◌, length, take, map, get_or, refl, ap, sym, ◌∙◌}
use Rattle.std.specs.List.{list_all}
use Rattle.std.proofs.lemmas.List.{take_more}
use Rattle.cyc_sim.specs.Operations.{are_places, values_in}
use Rattle.plain_lemmas.proofs.Bools.{and-both_true as both, and-left, and-right}
use Rattle.plain_lemmas.proofs.Numbers.{below-nat_lt as below_is}
use Rattle.cyc_sim.proofs.arrangement.Arrangement.all.Goals as goal

more_places : (limit p : ℕ) (ps ps' : List ℕ) → ps' ≡ ps ++ (p ∷ []) → are_places limit ps ≡ true → p < limit → are_places limit ps' ≡ true
unfolding are_places
more_places limit p ps ps' is h l = ap (list_all (λ q. nat_lt q limit)) is ∙ go ps h
  where
    go : (qs : List ℕ) → list_all (λ q. nat_lt q limit) qs ≡ true → list_all (λ q. nat_lt q limit) (qs ++ (p ∷ [])) ≡ true
    go [] k = both (nat_lt p limit) true (below_is p limit l) refl
    go (q ∷ qs) k = both (nat_lt q limit) (list_all (λ r. nat_lt r limit) (qs ++ (p ∷ []))) (and-left (nat_lt q limit) (list_all (λ r. nat_lt r limit) qs) k) (go qs (and-right (nat_lt q limit) (list_all (λ r. nat_lt r limit) qs) k))

map_pushed : (f : ℕ → ℕ) (xs : List ℕ) (x : ℕ) → map f (xs ++ (x ∷ [])) ≡ map f xs ++ (f x ∷ [])
map_pushed f [] x = refl
map_pushed f (y ∷ xs) x = ap (λ ys. f y ∷ ys) (map_pushed f xs x)

more_same : (values olds ps ps' : List ℕ) (i p : ℕ) → i < length olds → ps' ≡ ps ++ (p ∷ []) → ps ≡ values_in values (take i olds) → p ≡ get_or values (get_or olds i 0) 0 → ps' ≡ values_in values (take (i + 1) olds)
more_same values olds ps ps' i p l is h at =
    is ∙ (ap (λ xs. xs ++ (p ∷ [])) h ∙ (ap (λ x. values_in values (take i olds) ++ (x ∷ [])) at
    ∙ (sym (map_pushed (λ q. get_or values q 0) (take i olds) (get_or olds i 0)) ∙ ap (values_in values) (sym (take_more olds i 0 l)))))

none_within : (limit : ℕ) (ps : List ℕ) → ps ≡ [] → are_places limit ps ≡ true
unfolding are_places
none_within limit ps is = ap (list_all (λ q. nat_lt q limit)) is

pub loop-old-init : goal.loop-old-init
loop-old-init c = record { same = c.new-places.ensures.items; below = none_within c.args.limit c.new-places.result.items c.new-places.ensures.items }

pub loop-old-preserved : goal.loop-old-preserved
loop-old-preserved c = record {
  same = more_same c.args.self.now.places.items c.args.olds.now c.loop-old.places.items c.push.new.self.items c.loop-old.old-index c.in_ok-place.place c.loop-old-test.true c.in_ok-push.ensures.items c.loop-old.invariant.same c.in_ok-place.ensures;
  below = more_places c.args.limit c.in_ok-place.place c.loop-old.places.items c.push.new.self.items c.in_ok-push.ensures.items c.loop-old.invariant.below c.if-place-limit.false;
}
