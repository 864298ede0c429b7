-- One step of a walk, and one walk behind another.
use Rattle.std.proofs.Common.{◌≡◌, ◌∙◌, ℕ, zero, suc, ◌+◌, ◌<◌, ◌≤◌, Bool, true, false, cond, nat_lt, List, [], ◌∷◌, ◌++◌, length, flat_map, slice_get, Some, refl, sym, ap, subst, arith, append_assoc, append-nil, ◌⊎◌, inl, inr}
use Rattle.std.proofs.lemmas.Bool.{ltb-false, ltb-true}
use Rattle.std.proofs.lemmas.List.{length-append}
use Rattle.rdl_base.specs.declared.fault.Fault.{Fault}
use Rattle.rb_base.specs.declared.place.Place.{Place}
use Rattle.rdl_values.specs.Bodies as values
use Rattle.rdl_values.specs.Instances.{Instance, body, kind_of, most_nodes, seen_in, with_below}
use Rattle.rdl_values.specs.Paths.{in_node}
use Rattle.rdl_values.specs.Phase3.{of_enums, of_node, of_use, twice_defined}
use Rattle.rdl_values.specs.Uses.{Seen, parent_of, seen}
use Rattle.rdl_failures.specs.Noted.{Holds, with_all}
use Rattle.rdl_failures.proofs.Sets.{again, held, kept, with_all-append}
use Rattle.rdl_uses.specs.declared.standing.Standing.{Standing}
use Rattle.rdl_uses.specs.Placed.{IsParent}
use Rattle.rdl_bodies.specs.Kept.{AreKept, Begins, Grows, of_names}
use Rattle.rdl_bodies.specs.Opened.{IsOpened}
use Rattle.rdl_bodies.specs.Sited.{IsOpenAs}
use Rattle.rdl_bodies.specs.declared.bodies.Bodies.{Bodies}
use Rattle.rdl_bodies.specs.declared.bodies.Body.{Body}
use Rattle.rdl_bodies.proofs.Adding.{kept_more}
use Rattle.rdl_bodies.proofs.Growing.{begins_get, get_either, grows_on, grows_same, open_same, same_below, turned}
use Rattle.rdl_children.specs.Children.{AreChildren}
use Rattle.rdl_children.specs.declared.child.Child.{Child}
use Rattle.rdl_children.proofs.Itemized.{children_stay}
use Rattle.rdl_walk.specs.Walking.{AreWalking, IsAsked, IsKnown, parent_at}
use Rattle.rdl_walk.specs.Walked.{IsCounted, IsWalked, capped, fails_at, fails_from, over}
use Rattle.rdl_walk.specs.declared.walk.Judgement.{Judgement}
use Rattle.rdl_walk.specs.declared.walk.Walk.{Walk}
use Rattle.rdl_walk.proofs.Counting.{IsFirst, at_first, at_judged, capped_few, capped_many, capped_most, capped_twice, fails_append, fails_capped, fails_over, node_first, over_none}

-- Judgements stay what they are.

pub known_stays : (t u : Bodies) (before gs : List Fault) (j : Judgement) → AreKept t before → Grows t u → IsKnown t before j → IsKnown u (with_all gs before) j
known_stays t u before gs j inv grown h =
    let low = (inv.bodies j.body h.body h.here).below in
    let same = same_below t u h.body.numbers.now inv.components inv.list grown low in
    record {
      body = h.body;
      here = begins_get t.list.items u.list.items j.body h.body grown.list h.here;
      judged = λ above b open_ stands.
          let was = h.judged above b (open_same u t h.body b (turned t u h.body.numbers.now same) open_) stands in
          (kept (flat_map of_use (seen above b)) gs before was.0, children_stay t u before inv grown j.children.now (seen above b) was.1);
    }

-- where bodies and failures are more, and judgements and counts the same
pub walking_more : (w v : Walk) (gs : List Fault) → AreWalking w → AreKept v.bodies v.failures → Grows w.bodies v.bodies → v.judgements.items ≡ w.judgements.items → v.failures ≡ with_all gs w.failures → v.count ≤ most_nodes + 1 → AreWalking v
walking_more w v gs inv all grown js put low = record {
  kept = all;
  known = λ k j e. subst (λ fs. IsKnown v.bodies fs j) (sym put) (known_stays w.bodies v.bodies w.failures gs j inv.kept grown (inv.known k j (sym (ap (λ xs. slice_get xs k) js) ∙ e)));
  counted = low;
}

-- One walk behind another.

pub walked_none : (w : Walk) → AreWalking w → IsWalked w w []
walked_none w inv = record {
  walking = inv;
  grown = grows_same w.bodies w.bodies refl refl refl ([], sym (append-nil w.bodies.sites.items));
  counted = let e : w.count + 0 ≡ w.count = omega arith in sym (ap capped e ∙ capped_few w.count inv.counted);
  noted = refl;
}

pub walked_on : (w v u : Walk) (xs ys : List Instance) → IsWalked w v xs → IsWalked v u ys → IsWalked w u (xs ++ ys)
walked_on w v u xs ys f g = record {
  walking = g.walking;
  grown = grows_on w.bodies v.bodies u.bodies f.grown g.grown;
  counted =
      let e : w.count + length xs + length ys ≡ w.count + length (xs ++ ys) = let l = length-append xs ys in omega (arith, l) in
      g.counted ∙ ap (λ n. capped (n + length ys)) f.counted ∙ capped_twice (w.count + length xs) (length ys) ∙ ap capped e;
  noted =
      g.noted ∙ ap (λ n. with_all (fails_from n ys) v.failures) f.counted ∙ ap (λ fs. with_all fs v.failures) (fails_capped (w.count + length xs) ys) ∙ ap (with_all (fails_from (w.count + length xs) ys)) f.noted
      ∙ sym (with_all-append (fails_from w.count xs) (fails_from (w.count + length xs) ys) w.failures) ∙ ap (λ fs. with_all fs w.failures) (sym (fails_append w.count xs ys));
}

pub walked_as : (w v : Walk) (xs ys : List Instance) → xs ≡ ys → IsWalked w v xs → IsWalked w v ys
walked_as w v xs ys e h = subst (IsWalked w v) e h

-- behind the first node that isn't judged nothing is done
pub walked_over : (w : Walk) (ns : List Instance) → AreWalking w → most_nodes + 1 ≤ w.count → IsWalked w w ns
walked_over w ns inv l = record {
  walking = inv;
  grown = (walked_none w inv).grown;
  counted = let c = inv.counted in let e : w.count ≡ most_nodes + 1 = omega (arith, l, c) in e ∙ sym (capped_many (w.count + length ns) (omega (arith, l)));
  noted = ap (λ fs. with_all fs w.failures) (sym (fails_over w.count ns l));
}

-- A node that isn't judged, and those below it.
pub node_over : (w v : Walk) (n : Instance) (levels : ℕ) (judged : Bool) → AreWalking w → v.bodies ≡ w.bodies → v.judgements ≡ w.judgements → IsCounted n.use_.name.place judged w.count v.count w.failures v.failures → judged ≡ false → IsWalked w v (with_below levels n)
node_over w v n levels judged inv bodies judgements counted unjudged =
    let first = node_first levels n in
    let p = n.use_.name.place in
    let far : most_nodes ≤ w.count = ltb-false w.count most_nodes (sym counted.is_judged ∙ unjudged) in
    let next : most_nodes + 1 ≤ suc w.count = omega (arith, far) in
    let put : v.failures ≡ with_all (over w.count p) w.failures = counted.noted ∙ ap (λ b. with_all (cond b [] (over w.count p)) w.failures) unjudged in
    let fails : fails_from w.count (n ∷ first.rest) ≡ over w.count p = ap (λ fs. fs ++ fails_from (suc w.count) first.rest) (at_first w.count n far) ∙ ap (λ fs. over w.count p ++ fs) (fails_over (suc w.count) first.rest next) ∙ append-nil (over w.count p) in
    let many : most_nodes + 1 ≤ w.count + length (n ∷ first.rest) = omega (arith, far) in
    let up : most_nodes + 1 ≤ w.count + 1 = omega (arith, far) in
    let grown = grows_same w.bodies v.bodies (ap (λ b. b.tables.items) bodies) (ap (λ b. b.components.items) bodies) (ap (λ b. b.list.items) bodies) ([], ap (λ b. b.sites.items) bodies ∙ sym (append-nil w.bodies.sites.items)) in
    let all = subst (λ b. AreKept b v.failures) (sym bodies) (subst (AreKept w.bodies) (sym put) (kept_more w.bodies w.failures (over w.count p) inv.kept)) in
    let most = capped_most (w.count + 1) in
    walked_as w v (n ∷ first.rest) (with_below levels n) (sym first.is) (record {
      walking = walking_more w v (over w.count p) inv all grown (ap (λ js. js.items) judgements) put (let c = counted.counted in omega (arith, c, most));
      grown = grown;
      counted = counted.counted ∙ capped_many (w.count + 1) up ∙ sym (capped_many (w.count + length (n ∷ first.rest)) many);
      noted = put ∙ ap (λ fs. with_all fs w.failures) (sym fails);
    })

-- A node that is judged: it is counted, its body is open, and the uses in it are judged.
pub node_judged : (w u v : Walk) (n : Instance) (k : ℕ) (xs : List Child) (counted : ℕ) → AreWalking w → w.count < most_nodes → counted ≡ capped (w.count + 1) → u.count ≡ counted → IsOpened w.bodies u.bodies w.failures u.failures k (body n) → IsAsked u v xs (seen_in n) → IsWalked w v (n ∷ [])
node_judged w u v n k xs counted inv low c same opened asked =
    let names = of_names (body n) in
    let uses = flat_map of_use (seen_in n) in
    let fails : fails_from w.count (n ∷ []) ≡ names ++ uses = append-nil (fails_at w.count n) ∙ at_judged w.count n low in
    record {
      walking = asked.walking;
      grown = grows_on w.bodies u.bodies v.bodies opened.grown asked.grown;
      counted = asked.count ∙ same ∙ c;
      noted = asked.noted ∙ ap (with_all uses) opened.noted ∙ sym (with_all-append names uses w.failures) ∙ ap (λ fs. with_all fs w.failures) (sym fails);
    }

-- where a body was opened
pub walking_open : (w u : Walk) (k : ℕ) (b : values.Body) → AreWalking w → IsOpened w.bodies u.bodies w.failures u.failures k b → u.judgements.items ≡ w.judgements.items → u.count ≤ most_nodes + 1 → AreWalking u
walking_open w u k b inv h js low = walking_more w u (of_names b) inv h.kept h.grown js h.noted low
