use Rattle.std.proofs.Common.{◌≡◌, ◌∙◌, ℕ, ◌+◌, true, Option, is_some, None, Some, length, sym, ap, subst, arith, refl}
use Rattle.plain_lemmas.proofs.Options.{is_some-false as none-from}
use Rattle.plain_lemmas.proofs.Lists.{any-default}
use Rattle.topological_order.specs.Levels.{rank_at}
use Rattle.rdl_refs.specs.Walk.{AreUnordered}
use Rattle.rdl_refs.proofs.Gets.{get-at}
use Rattle.rdl_refs.proofs.Reported.{one-ranked, one-unranked}
use Rattle.rdl_refs.proofs.ordering.unordered.Goals as goal
use Rattle.rdl_refs.proofs.ordering.unordered.Goals.{then-is_none+in_ok-push, else-is_none}

-- what is some is not none
not-none : (o : Option ℕ) → is_some o ≡ true → o ≡ None → ⊥
not-none None h e = cc h
not-none (Some x) h e = cc e

pub loop-thing-preserved : goal.loop-thing-preserved
loop-thing-preserved c =
    let thing = c.loop-thing.thing in
    let is : rank_at c.args.ranks.now thing ≡ c.index-ranks-thing.result
    = any-default c.args.ranks.now thing None c.index-ranks-thing.result (let l = c.loop-thing-test.true in let s = c.requires in omega (arith, l, s)) ∙ sym c.index-ranks-thing.is in
    elim c.if-is_none.branch [
      | then-is_none+in_ok-push w ↦
          subst (AreUnordered c.args.ranks.now c.args.places.now (c.loop-thing.thing + 1)) (sym (ap (λ v. v.items) w.faults-is ∙ w.in_ok-push.ensures.items))
          (one-unranked c.args.ranks.now c.args.places.now c.loop-thing.thing c.loop-thing.faults.items _ (is ∙ none-from c.index-ranks-thing.result w.if-is_none.ensures) (get-at c.args.places.now c.loop-thing.thing _ c.loop-thing-test.true) refl c.loop-thing.invariant)
      | else-is_none w ↦
          subst (λ v. AreUnordered c.args.ranks.now c.args.places.now (c.loop-thing.thing + 1) v.items) (sym w.faults-is)
          (one-ranked c.args.ranks.now c.args.places.now c.loop-thing.thing c.loop-thing.faults.items (λ e. not-none c.index-ranks-thing.result w.if-is_none.ensures (sym is ∙ e)) c.loop-thing.invariant)
    ]

pub returns : goal.returns
returns c = let a = c.loop-thing-test.false in let b = c.loop-thing.auto in subst (λ n. AreUnordered c.args.ranks.now c.args.places.now n c.loop-thing.faults.items) (let e : c.loop-thing.thing ≡ length c.args.places.now = omega arith in e) c.loop-thing.invariant
