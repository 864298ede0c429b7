-- Live settings one by one.
use Rattle.std.proofs.Common.{◌≡◌, ◌∙◌, inl, inr, ℕ, ◌+◌, ◌<◌, ◌≤◌, Bool, List, [], ◌∷◌, ◌++◌, get_or, length, take, append_assoc, append-nil, Option, refl, sym, ap, subst}
use Rattle.std.proofs.lemmas.List.{take_all, take_more}
use Rattle.rdl_base.specs.declared.fault.Fault.{Fault}
use Rattle.rdl_tree.specs.declared.item.Item.{Item}
use Rattle.rdl_tree.specs.declared.item.Set.{Set}
use Rattle.rdl_props.specs.declared.prop.Prop.{Prop}
use Rattle.rdl_values.specs.Bodies.{Body}
use Rattle.rdl_values.specs.Views.{ItemIs, item_is}
use Rattle.rdl_assignments.specs.Live.{AreThinned, IsPassed, IsTaken}
use Rattle.rdl_assignments.specs.declared.live.LiveSet.{LiveSet}

module _ (of : ItemIs → Option Set) (legal : Prop → Bool) (held : List Fault) (b : Body) where
  -- Where the last live one stands.
  record Last (before is : List Item) (ls : List LiveSet) (l : LiveSet) : Type 0 where
    front : List Item
    item : Item
    behind : List Item
    parts : is ≡ front ++ (item ∷ behind)
    thin : AreThinned of legal held b before front ls
    taken : IsTaken (before ++ front) (of (item_is item)) l
    rest : AreThinned of legal held b (before ++ front ++ (item ∷ [])) behind []

  none-last : (ls : List LiveSet) (l : LiveSet) → ls ++ (l ∷ []) ≡ [] → ⊥
  none-last [] l e = cc
  none-last (m ∷ ls) l e = cc

  last : (before is : List Item) (ls : List LiveSet) (l : LiveSet) → AreThinned of legal held b before is (ls ++ (l ∷ [])) → Last before is ls l
  last before [] ls l h = absurd (none-last ls l h)
  last before (i ∷ is) ls l (inl h) =
      let r = last (before ++ (i ∷ [])) is ls l h.1 in
      let same : (before ++ (i ∷ [])) ++ r.front ≡ before ++ (i ∷ r.front) = append_assoc before (i ∷ []) r.front in
      record {
        front = i ∷ r.front;
        item = r.item;
        behind = r.behind;
        parts = ap (λ js. i ∷ js) r.parts;
        thin = inl (h.0, r.thin);
        taken = subst (λ js. IsTaken js (of (item_is r.item)) l) same r.taken;
        rest = subst (λ js. AreThinned of legal held b (js ++ (r.item ∷ [])) r.behind []) same r.rest;
      }
  last before (i ∷ is) [] l (inr h) =
      let both : l ∷ [] ≡ h.0 ∷ h.1 = h.2 in
      let first : l ≡ h.0 = cc in
      let others : h.1 ≡ [] = cc in
      record {
        front = [];
        item = i;
        behind = is;
        parts = refl;
        thin = refl;
        taken = subst (λ js. IsTaken js (of (item_is i)) l) (sym (append-nil before)) (subst (IsTaken before (of (item_is i))) (sym first) h.3);
        rest = subst (λ js. AreThinned of legal held b (js ++ (i ∷ [])) is []) (sym (append-nil before)) (subst (AreThinned of legal held b (before ++ (i ∷ [])) is) others h.4);
      }
  last before (i ∷ is) (m ∷ ls) l (inr h) =
      let both : m ∷ (ls ++ (l ∷ [])) ≡ h.0 ∷ h.1 = h.2 in
      let first : m ≡ h.0 = cc in
      let others : h.1 ≡ ls ++ (l ∷ []) = cc in
      let r = last (before ++ (i ∷ [])) is ls l (subst (AreThinned of legal held b (before ++ (i ∷ [])) is) others h.4) in
      let same : (before ++ (i ∷ [])) ++ r.front ≡ before ++ (i ∷ r.front) = append_assoc before (i ∷ []) r.front in
      record {
        front = i ∷ r.front;
        item = r.item;
        behind = r.behind;
        parts = ap (λ js. i ∷ js) r.parts;
        thin = inr (m, ls, refl, subst (IsTaken before (of (item_is i))) (sym first) h.3, r.thin);
        taken = subst (λ js. IsTaken js (of (item_is r.item)) l) same r.taken;
        rest = subst (λ js. AreThinned of legal held b (js ++ (r.item ∷ [])) r.behind []) same r.rest;
      }

  -- what spent ones keep holds behind all of them
  pub all_passed : (Q : List Item → Type 0) → ((before : List Item) (i : Item) → IsPassed of legal held b before (of (item_is i)) → Q before → Q (before ++ (i ∷ []))) → (before is : List Item) → AreThinned of legal held b before is [] → Q before → Q (before ++ is)
  all_passed Q step before [] h q = subst Q (sym (append-nil before)) q
  all_passed Q step before (i ∷ is) (inl h) q = subst Q (append_assoc before (i ∷ []) is) (all_passed Q step (before ++ (i ∷ [])) is h.1 (step before i h.0 q))
  all_passed Q step before (i ∷ is) (inr h) q = absurd (none h.0 h.1 h.2)
    where
      none : (l : LiveSet) (ls : List LiveSet) → [] ≡ l ∷ ls → ⊥
      none l ls e = cc

  -- one more live one
  pub live_more : (P Q : List Item → Type 0) (live : List LiveSet) (k : ℕ) (d : LiveSet) → k < length live → ((before : List Item) (i : Item) → IsPassed of legal held b before (of (item_is i)) → Q before → Q (before ++ (i ∷ [])))
      → ((front : List Item) (i : Item) → IsTaken front (of (item_is i)) (get_or live k d) → P front → Q (front ++ (i ∷ []))) → ((is : List Item) → AreThinned of legal held b [] is (take k live) → P is)
      → (is : List Item) → AreThinned of legal held b [] is (take (k + 1) live) → Q is
  live_more P Q live k d below step taken h is thin =
      let r = last [] is (take k live) (get_or live k d) (subst (AreThinned of legal held b [] is) (take_more live k d below) thin) in
      subst Q (append_assoc r.front (r.item ∷ []) r.behind ∙ sym r.parts) (all_passed Q step (r.front ++ (r.item ∷ [])) r.behind r.rest (taken r.front r.item r.taken (h r.front r.thin)))

  pub all_live : (Q : List Item → Type 0) (live : List LiveSet) (k : ℕ) → length live ≤ k → ((is : List Item) → AreThinned of legal held b [] is (take k live) → Q is) → (is : List Item) → AreThinned of legal held b [] is live → Q is
  all_live Q live k l h is thin = h is (subst (AreThinned of legal held b [] is) (sym (take_all k live l)) thin)
