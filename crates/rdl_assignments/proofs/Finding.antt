-- Which settings of a text are live.
use Rattle.std.proofs.Common.{◌≡◌, ◌∙◌, inl, inr, ℕ, ◌+◌, ◌<◌, ◌≤◌, Bool, List, [], ◌∷◌, ◌++◌, flat_map, get_or, length, map, take, append_assoc, append-nil, arith, Option, None, Some, option_to_list, refl, sym, ap, subst}
use Rattle.std.specs.List.{list_any}
use Rattle.std.proofs.lemmas.Grind.{flat_map-append}
use Rattle.std.proofs.lemmas.List.{length-take-le, take_all, take_more}
use Rattle.rdl_base.specs.declared.fault.Fault.{Fault}
use Rattle.rdl_tree.specs.declared.item.Item.{Item}
use Rattle.rdl_tree.specs.declared.item.Set.{Set}
use Rattle.rdl_props.specs.Same.{same_prop}
use Rattle.rdl_props.specs.Table.{find_prop}
use Rattle.rdl_props.specs.declared.prop.Prop.{Prop}
use Rattle.rdl_values.specs.Bodies.{Body, around, scope_at, standing_from}
use Rattle.rdl_values.specs.Faults.{failures}
use Rattle.rdl_values.specs.Values.{Around}
use Rattle.rdl_values.specs.Views.{ItemIs, item_is}
use Rattle.rdl_failures.specs.Noted.{Holds}
use Rattle.rdl_failures.proofs.Sets.{holds-left, holds-right}
use Rattle.rdl_layers.specs.Judged.{against, all_failures, failures_of, illegal, props_of, taken, unknown}
use Rattle.rdl_layers.specs.Meanings.{Assignment, meaning, prop_of}
use Rattle.rdl_assignments.specs.Live.{AreLive, AreThinned, IsIdle, IsPassed, IsSteadyIdle, IsTaken, IsThinning, set_in, sets_in}
use Rattle.rdl_assignments.specs.Steady.{AreNamedAs}
use Rattle.rdl_assignments.specs.Taken.{AreTaken}
use Rattle.rdl_assignments.specs.declared.live.LiveSet.{LiveSet}
use Rattle.rdl_assignments.specs.declared.live.Thinning.{Thinning}
use Rattle.rdl_assignments.proofs.Reading.{failures-push, props-push}
use Rattle.rdl_assignments.proofs.Spent.{idle-taken, one-set, sets-push}

module _ (of : ItemIs → Option Set) (same : Bool) (v : Around) where
  -- All bodies of a text assign the same properties.
  props-one : (b c : Body) (before : List Item) (i : Item) → props_of (set_in of b (before, i)) ≡ props_of (set_in of c (before, i))
  props-one b c before i = go (of (item_is i))
    where
      go : (o : Option Set) → props_of (map (λ s. record { set_ = s; scope = scope_at b before }) (option_to_list o)) ≡ props_of (map (λ s. record { set_ = s; scope = scope_at c before }) (option_to_list o))
      go None = refl
      go (Some s) = refl

  props-from : (b c : Body) (before is : List Item) → props_of (flat_map (set_in of b) (standing_from before is)) ≡ props_of (flat_map (set_in of c) (standing_from before is))
  props-from b c before [] = refl
  props-from b c before (i ∷ is) =
      let p = λ (a : Assignment). option_to_list (prop_of a) in
      let rest = standing_from (before ++ (i ∷ [])) is in
      flat_map-append p (set_in of b (before, i)) (flat_map (set_in of b) rest)
      ∙ (λ j. props-one b c before i j ++ props-from b c (before ++ (i ∷ [])) is j)
      ∙ sym (flat_map-append p (set_in of c (before, i)) (flat_map (set_in of c) rest))

  props-same : (b c : Body) (is : List Item) → props_of (sets_in of b is) ≡ props_of (sets_in of c is)
  props-same b c is = props-from b c [] is

  -- A steady idle one fails alike.
  fails-alike : (legal : Prop → Bool) (ps : List Prop) (earlier later : List Assignment) (a d : Assignment) → props_of earlier ≡ props_of later → a.set_ ≡ d.set_ → AreNamedAs same v (around a.scope) → AreNamedAs same v (around d.scope) → IsSteadyIdle same v ps a.set_ (find_prop a.set_.prop.text.now)
      → failures_of legal (earlier, a) ≡ failures_of legal (later, d)
  fails-alike legal ps earlier later a d e equal g k h =
      let one : Assignment = record { set_ = a.set_; scope = d.scope } in
      let to : one ≡ d = ap (λ s. record { set_ = s; scope = d.scope }) equal in
      (λ j. unknown a ++ illegal legal a ++ value (find_prop a.set_.prop.text.now) h j ++ flat_map (against (e j) a.set_.place) (option_to_list (prop_of a)))
      ∙ ap (λ x. failures_of legal (later, x)) to
    where
      value : (o : Option Prop) → IsSteadyIdle same v ps a.set_ o → flat_map (λ p. failures (meaning p a)) (option_to_list o) ≡ flat_map (λ p. failures (meaning p (record { set_ = a.set_; scope = d.scope }))) (option_to_list o)
      value None i = refl
      value (Some p) i = ap (λ fs. fs ++ []) (i.1 a.scope d.scope g k)

  idle-of : (ps : List Prop) (earlier : List Assignment) (s : Set) (o : Option Prop) → ps ≡ props_of earlier → IsSteadyIdle same v ps s o → IsIdle earlier o
  idle-of ps earlier s None e h = tt
  idle-of ps earlier s (Some p) e h = ap (list_any (same_prop p)) (sym e) ∙ h.0

  -- One more item.
  module _ (legal : Prop → Bool) (held : List Fault) (c : Body) where
    thin-passed : (before is : List Item) (i : Item) (live : List LiveSet) → IsPassed of legal held c (before ++ is) (of (item_is i)) → AreThinned of legal held c before is live → AreThinned of legal held c before (is ++ (i ∷ [])) live
    thin-passed before [] i live k h = inl (subst (λ js. IsPassed of legal held c js (of (item_is i))) (append-nil before) k, h)
    thin-passed before (j ∷ js) i live k (inl h) =
        inl (h.0, thin-passed (before ++ (j ∷ [])) js i live (subst (λ xs. IsPassed of legal held c xs (of (item_is i))) (sym (append_assoc before (j ∷ []) js)) k) h.1)
    thin-passed before (j ∷ js) i live k (inr h) =
        inr (h.0, h.1, h.2, h.3, thin-passed (before ++ (j ∷ [])) js i h.1 (subst (λ xs. IsPassed of legal held c xs (of (item_is i))) (sym (append_assoc before (j ∷ []) js)) k) h.4)

    thin-taken : (before is : List Item) (i : Item) (live : List LiveSet) (l : LiveSet) → IsTaken (before ++ is) (of (item_is i)) l → AreThinned of legal held c before is live → AreThinned of legal held c before (is ++ (i ∷ [])) (live ++ (l ∷ []))
    thin-taken before [] i live l k h = inr (l, [], ap (λ ls. ls ++ (l ∷ [])) h, subst (λ js. IsTaken js (of (item_is i)) l) (append-nil before) k, refl)
    thin-taken before (j ∷ js) i live l k (inl h) =
        inl (h.0, thin-taken (before ++ (j ∷ [])) js i live l (subst (λ xs. IsTaken xs (of (item_is i)) l) (sym (append_assoc before (j ∷ []) js)) k) h.1)
    thin-taken before (j ∷ js) i live l k (inr h) =
        inr (h.0, h.1 ++ (l ∷ []), ap (λ ls. ls ++ (l ∷ [])) h.2, h.3, thin-taken (before ++ (j ∷ [])) js i h.1 l (subst (λ xs. IsTaken xs (of (item_is i)) l) (sym (append_assoc before (j ∷ []) js)) k) h.4)

  failures-in : (legal : Prop → Bool) (b : Body) (before : List Item) (i : Item) (s : Set) → of (item_is i) ≡ Some s
      → all_failures (failures_of legal) (sets_in of b (before ++ (i ∷ []))) ≡ all_failures (failures_of legal) (sets_in of b before) ++ failures_of legal (sets_in of b before, record { set_ = s; scope = scope_at b before })
  failures-in legal b before i s e =
      ap (all_failures (failures_of legal)) (sets-push of b before i ∙ ap (λ xs. sets_in of b before ++ xs) (one-set of b before i (Some s) e))
      ∙ failures-push (failures_of legal) (sets_in of b before) (record { set_ = s; scope = scope_at b before })

  props-in : (b : Body) (before : List Item) (i : Item) (s : Set) → of (item_is i) ≡ Some s → props_of (sets_in of b (before ++ (i ∷ []))) ≡ props_of (sets_in of b before) ++ option_to_list (find_prop s.prop.text.now)
  props-in b before i s e =
      ap props_of (sets-push of b before i ∙ ap (λ xs. sets_in of b before ++ xs) (one-set of b before i (Some s) e))
      ∙ props-push (sets_in of b before) (record { set_ = s; scope = scope_at b before })

  pub thinning_none : (y : Thinning) (before : List Item) (i : Item) → of (item_is i) ≡ None → IsThinning of same v y before → IsThinning of same v y (before ++ (i ∷ []))
  thinning_none y before i e h =
      let alone = λ (b : Body). sets-push of b before i ∙ ap (λ xs. sets_in of b before ++ xs) (one-set of b before i None e) ∙ append-nil (sets_in of b before) in
      record {
        taken = λ b. subst (λ xs. AreTaken y.taken (props_of xs)) (sym (alone b)) (h.taken b);
        live = λ legal held b c g f k. thin-passed legal held c [] before i y.live.items (subst (IsPassed of legal held c before) (sym e) tt) (h.live legal held b c g f (subst (λ xs. Holds held (all_failures (failures_of legal) xs)) (alone b) k));
      }

  pub thinning_spent : (y : Thinning) (before : List Item) (i : Item) (s : Set) → of (item_is i) ≡ Some s → ((ps : List Prop) → AreTaken y.taken ps → IsSteadyIdle same v ps s (find_prop s.prop.text.now)) → IsThinning of same v y before → IsThinning of same v y (before ++ (i ∷ []))
  thinning_spent y before i s e spent h = record {
    taken = λ b. subst (λ xs. AreTaken y.taken (props_of xs)) (sym (sets-push of b before i ∙ ap (λ xs. sets_in of b before ++ xs) (one-set of b before i (Some s) e)))
        (idle-taken y.taken (sets_in of b before) (record { set_ = s; scope = scope_at b before }) (h.taken b) (idle-of (props_of (sets_in of b before)) (sets_in of b before) s (find_prop s.prop.text.now) refl (spent (props_of (sets_in of b before)) (h.taken b))));
    live = λ legal held b c g f k.
        let both = subst (Holds held) (failures-in legal b before i s e) k in
        let own = holds-right (all_failures (failures_of legal) (sets_in of b before)) (failures_of legal (sets_in of b before, record { set_ = s; scope = scope_at b before })) held both in
        let there = holds-left (all_failures (failures_of legal) (sets_in of b before)) (failures_of legal (sets_in of b before, record { set_ = s; scope = scope_at b before })) held both in
        let idle = spent (props_of (sets_in of c before)) (h.taken c) in
        let alike = fails-alike legal (props_of (sets_in of b before)) (sets_in of b before) (sets_in of c before) (record { set_ = s; scope = scope_at b before }) (record { set_ = s; scope = scope_at c before }) (props-same b c before) refl g f (spent (props_of (sets_in of b before)) (h.taken b)) in
        thin-passed legal held c [] before i y.live.items (subst (IsPassed of legal held c before) (sym e) (idle-of (props_of (sets_in of c before)) (sets_in of c before) s (find_prop s.prop.text.now) refl idle, subst (Holds held) alike own)) (h.live legal held b c g f there);
  }

  pub thinning_live : (y z : Thinning) (before : List Item) (i : Item) (s : Set) (l : LiveSet) → of (item_is i) ≡ Some s → l.set.now ≡ s → l.position ≡ length before → z.live.items ≡ y.live.items ++ (l ∷ [])
      → ((ps : List Prop) → AreTaken y.taken ps → AreTaken z.taken (ps ++ option_to_list (find_prop s.prop.text.now))) → IsThinning of same v y before → IsThinning of same v z (before ++ (i ∷ []))
  thinning_live y z before i s l e is at pushed taken h = record {
    taken = λ b. subst (AreTaken z.taken) (sym (props-in b before i s e)) (taken (props_of (sets_in of b before)) (h.taken b));
    live = λ legal held b c g f k.
        let both = subst (Holds held) (failures-in legal b before i s e) k in
        let there = holds-left (all_failures (failures_of legal) (sets_in of b before)) (failures_of legal (sets_in of b before, record { set_ = s; scope = scope_at b before })) held both in
        subst (AreThinned of legal held c [] (before ++ (i ∷ []))) (sym pushed) (thin-taken legal held c [] before i y.live.items l (subst (λ o. IsTaken before o l) (sym e) (is, at)) (h.live legal held b c g f there));
  }

  pub thinning_new : (y : Thinning) → AreTaken y.taken [] → y.live.items ≡ [] → IsThinning of same v y []
  thinning_new y t e = record { taken = λ b. t; live = λ legal held b c g f k. e }

  -- The items of a list one by one.
  pub thinning_next : (y z : Thinning) (items : List Item) (k : ℕ) (d : Item) (o : Option Set) → k < length items → o ≡ of (item_is (get_or items k d))
      → ((before : List Item) (i : Item) → of (item_is i) ≡ o → length before ≡ k → IsThinning of same v y before → IsThinning of same v z (before ++ (i ∷ []))) → IsThinning of same v y (take k items) → IsThinning of same v z (take (k + 1) items)
  thinning_next y z items k d o l e more h = subst (IsThinning of same v z) (sym (take_more items k d l)) (more (take k items) (get_or items k d) (sym e) (length-take-le k items (omega (arith, l))) h)

  pub thinning_all : (z : Thinning) (items : List Item) (k : ℕ) → length items ≤ k → IsThinning of same v z (take k items) → AreLive of same v z.live.items items
  thinning_all z items k l h = (subst (IsThinning of same v z) (take_all k items l) h).live
