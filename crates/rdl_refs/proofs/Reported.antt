-- The failures of R7, from the things without a rank.
use Rattle.std.proofs.Common.{◌≡◌, ◌∙◌, ◌↔◌, ℕ, suc, ◌+◌, inl, inr, Option, None, Some, option_map, List, [], ◌∷◌, ◌++◌, length, slice_get, map, Contains, refl, sym, ap, arith}
use Rattle.std.proofs.lemmas.Bool.{cases_eq}
use Rattle.plain_lemmas.proofs.Lists.{get-map}
use Rattle.rdl_base.specs.declared.fault.Fault.{Fault}
use Rattle.rb_base.specs.declared.place.Place.{Place}
use Rattle.rdl_base.specs.declared.rule.Rule.TheVariants as rules
use Rattle.topological_order.specs.Levels.{AreLevels, AreWithin, rank_at}
use Rattle.rdl_values.specs.Faults.{at_}
use Rattle.rdl_values.specs.Lineages.{Lineage}
use Rattle.rdl_values.specs.Verdict.{Fails, IsListOf}
use Rattle.rdl_refs.specs.Follows.{FailsR7, edges_of, refers_to, item_number}
use Rattle.rdl_refs.specs.Items.{Item, items}
use Rattle.rdl_refs.specs.Walk.{AreUnordered}
use Rattle.rdl_refs.proofs.Ending.{unranked-goes-on, for-ever-unranked}
use Rattle.rdl_refs.proofs.Gets.{at-has, get-last, get-front, get-mapped, get-pushed, get-within, has-at}

-- Collected.

pub none-yet : (ranks : List (Option ℕ)) (places : List Place) (fs : List Fault) → fs ≡ [] → AreUnordered ranks places 0 fs
none-yet ranks places fs e f = ((λ c. let p = at-has fs f c in cc (sym (ap (λ l. slice_get l p.0) e) ∙ p.1)), (λ p. absurd (let l = p.1 in omega (arith, l))))

-- an item with a rank
pub one-ranked : (ranks : List (Option ℕ)) (places : List Place) (n : ℕ) (fs : List Fault) → (rank_at ranks n ≡ None → ⊥) → AreUnordered ranks places n fs → AreUnordered ranks places (n + 1) fs
one-ranked ranks places n fs ranked h f = (
  (λ c. let p = (h f).0 c in let l = p.1 in (p.0, omega (arith, l), p.2, p.3, p.4)),
  (λ (k, l, free, at, rule). elim (cases_eq k n) [
    | inl e ↦ absurd (ranked (ap (rank_at ranks) (sym e) ∙ free))
    | inr ne ↦ (h f).1 (k, omega (arith, l, ne), free, at, rule)
  ]),
)

-- an item without one
pub one-unranked : (ranks : List (Option ℕ)) (places : List Place) (n : ℕ) (fs : List Fault) (new : Fault) → rank_at ranks n ≡ None → slice_get places n ≡ Some new.place → new.rule ≡ rules.R7
    → AreUnordered ranks places n fs → AreUnordered ranks places (n + 1) (fs ++ new ∷ [])
one-unranked ranks places n fs new free at rule h f = (
  (λ c. let p = at-has (fs ++ new ∷ []) f c in elim (get-pushed fs new f p.0 p.1) [
    | inl q ↦ let r = (h f).0 (has-at fs p.0 f q) in let l = r.1 in (r.0, omega (arith, l), r.2, r.3, r.4)
    | inr q ↦ (n, omega arith, free, at ∙ ap (λ x. Some x.place) (sym q.1), ap (λ x. x.rule) q.1 ∙ rule)
  ]),
  (λ (k, l, free', at', rule'). elim (cases_eq k n) [
    | inl e ↦
        let s : Some f.place ≡ Some new.place = sym at' ∙ (ap (slice_get places) e ∙ at) in
        let s' : new.place ≡ f.place = cc in
        let t : new.rule ≡ f.rule = rule ∙ sym rule' in
        let same : new ≡ f = λ i. record { place = s' i; rule = t i } in
        has-at (fs ++ new ∷ []) (length fs) f (get-last fs new ∙ ap Some same)
    | inr ne ↦ let p = at-has fs f ((h f).1 (k, omega (arith, l, ne), free', at', rule')) in has-at (fs ++ new ∷ []) p.0 f (get-front fs (new ∷ []) p.0 f p.1)
  ]),
)

-- Reported.

listed-by : (P Q : Fails) (list : List Fault) → ((f : Fault) → P f.rule f.place ↔ Q f.rule f.place) → IsListOf P list → IsListOf Q list
listed-by P Q list same h = record { ordered = h.ordered; exact = λ f. ((λ c. (same f).0 ((h.exact f).0 c)), (λ q. (h.exact f).1 ((same f).1 q))) }

pub edges-sized : (all : List Lineage) → length (edges_of all) ≡ length (items all)
unfolding edges_of
edges-sized all = go (items all)
  where
    go : (is : List Item) → length (map (λ i. map (item_number all) (refers_to all i)) is) ≡ length is
    go [] = refl
    go (i ∷ is) = ap suc (go is)

module _ (all : List Lineage) (ranks : List (Option ℕ)) (order : List ℕ) (places : List Place) (levels : AreLevels (edges_of all) ranks order) (within : AreWithin (edges_of all))
    (placed : places ≡ map (λ i. i.node.use_.name.place) (items all)) (fs : List Fault) (found : AreUnordered ranks places (length places) fs) where
  place_of : Item → Place
  place_of i = i.node.use_.name.place

  to : (f : Fault) → Contains fs f → (f.rule ≡ rules.R7) × FailsR7 all f.place
  to f c =
      let p = (found f).0 c in
      let m = get-mapped (λ (i : Item). i.node.use_.name.place) (items all) p.0 f.place (ap (λ l. slice_get l p.0) (sym placed) ∙ p.3) in
      let l = get-within (items all) p.0 m.0 m.1 in
      let n = edges-sized all in
      (p.4, (p.0, m.0, m.1, unranked-goes-on (edges_of all) ranks order levels within p.0 (omega (arith, l, n)) p.2, m.2))

  from : (f : Fault) → (f.rule ≡ rules.R7) × FailsR7 all f.place → Contains fs f
  from f (rule, (k, i, at, goes, here)) =
      let there : slice_get places k ≡ Some f.place = ap (λ l. slice_get l k) placed ∙ (get-map (λ (i : Item). i.node.use_.name.place) (items all) k ∙ (ap (λ o. option_map (λ (i : Item). i.node.use_.name.place) o) at ∙ ap Some (sym here))) in
      (found f).1 (k, get-within places k f.place there, for-ever-unranked (edges_of all) ranks order levels k goes, there, rule)

  pub reported : (list : List Fault) → IsListOf (λ rule place. Contains fs (at_ rule place)) list → IsListOf (λ r p. (r ≡ rules.R7) × FailsR7 all p) list
  reported list h = listed-by (λ rule place. Contains fs (at_ rule place)) (λ r p. (r ≡ rules.R7) × FailsR7 all p) list (λ f. (to f, from f)) h
