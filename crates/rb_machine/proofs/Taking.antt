-- What is taken over after an edge.
use Rattle.std.proofs.Common.{◌≡◌, ◌≢◌, ℕ, zero, suc, ◌+◌, ◌<◌, ◌≤◌, Bool, true, false, Option, Some, None, List, [], ◌∷◌, ◌++◌, length, slice_get, get_or, refl, sym, ap, subst, ◌∙◌, arith, get_or-set_other, get_or-set_same, inl, inr, ◌⊎◌}
use Rattle.std.specs.Prelude.{Contains}
use Rattle.std.proofs.Math.ListN.{set}
use Rattle.std.proofs.lemmas.List.Elements.{Contains-append_left, Contains-append_right}
use Rattle.std.proofs.lemmas.Option.{same_Some, slice_get-get_or, slice_get_within}
use Rattle.plain_lemmas.proofs.Lists.{any-default as any_default}
use Rattle.plain_lemmas.proofs.Numbers.{below_next-same_or as same_or_below, below_or_from, same_or_other}
use Rattle.rb_model.specs.declared.block.Block.{Block}
use Rattle.rb_model.specs.declared.block.Field.{Field}
use Rattle.rb_model.specs.Items.{Access}
use Rattle.rb_model.proofs.OwnViews.{none_within}
use Rattle.rb_machine.specs.declared.sight.FieldState.{FieldState}
use Rattle.rb_machine.specs.Keeping.{AreMoving, IsStill, is_reached}
use Rattle.rb_machine.specs.Quiet.{is_quiet}
use Rattle.rb_machine.specs.Scene.{no_state, state_at}
use Rattle.rb_machine.proofs.Holding.{none_past}

-- the fields below a place that aren't quiet
pub record MovingTo (fields : List Field) (places : List ℕ) (end : ℕ) : Type 0 where
  pub there : (k : ℕ) → Contains places k → k < end
  pub all : (k : ℕ) (f : Field) → k < end → slice_get fields k ≡ Some f → is_quiet f ≡ false → Contains places k

pub moving_none : (fields : List Field) (places : List ℕ) → places ≡ [] → MovingTo fields places 0
moving_none fields places e = record {
  there = λ k h. let (i, low, at) = h in absurd (omega (arith, low, ap length e));
  all = λ k f low here q. absurd (omega (arith, low));
}

-- one field more
pub moving_skip : (fields : List Field) (places : List ℕ) (i : ℕ) (g : Field) → slice_get fields i ≡ Some g → is_quiet g ≡ true → MovingTo fields places i → MovingTo fields places (i + 1)
moving_skip fields places i g at quiet before = record {
  there = λ k h. let low : k < i = before.there k h in omega (arith, low);
  all = λ k f low here q. elim (same_or_below k i low) [
    | inl e ↦ let z : true ≡ false = sym quiet ∙ (ap is_quiet (same_Some g f (sym at ∙ (ap (slice_get fields) (sym e) ∙ here))) ∙ q) in cc
    | inr l ↦ before.all k f l here q
  ];
}

last_or : (places : List ℕ) (i k : ℕ) → Contains (places ++ i ∷ []) k → (Contains places k) ⊎ (i ≡ k)
last_or [] i k (zero, low, at) = inr at
last_or [] i k (suc j, low, at) = absurd (omega (arith, low))
last_or (x ∷ xs) i k (zero, low, at) = inl (0, omega arith, at)
last_or (x ∷ xs) i k (suc j, low, at) = elim (last_or xs i k (j, omega (arith, low), at)) [
  | inl h ↦ let (m, l, e) = h in inl (suc m, omega (arith, l), e)
  | inr e ↦ inr e
]

pub moving_more : (fields : List Field) (places places' : List ℕ) (i : ℕ) → places' ≡ places ++ i ∷ [] → MovingTo fields places i → MovingTo fields places' (i + 1)
moving_more fields places places' i pushed before =
    let one : List ℕ = i ∷ [] in
    record {
      there = λ k h. elim (last_or places i k (subst (λ (xs : List ℕ). Contains xs k) pushed h)) [
        | inl l ↦ let low : k < i = before.there k l in omega (arith, low)
        | inr e ↦ omega (arith, e)
      ];
      all = λ k f low here q. subst (λ (xs : List ℕ). Contains xs k) (sym pushed) (elim (same_or_below k i low) [
        | inl e ↦ Contains-append_right places one k (0, omega arith, sym e)
        | inr l ↦ Contains-append_left places one k (before.all k f l here q)
      ]);
    }

pub moving_all : (fields : List Field) (places : List ℕ) (i : ℕ) → length fields ≤ i → i ≤ length fields → MovingTo fields places i → AreMoving fields places
moving_all fields places i past within h = record {
  there = λ k c. let low : k < i = h.there k c in omega (arith, low, within);
  all = λ k f here q. let low : k < length fields = slice_get_within fields k f here in h.all k f (omega (arith, low, past)) here q;
}

-- what is taken over at the places up to one of a list
pub record TakenTo (places : List ℕ) (states old fields : List FieldState) (end : ℕ) : Type 0 where
  pub taken : (j : ℕ) (d : ℕ) → j < end → j < length places → state_at fields (get_or places j d) ≡ state_at states (get_or places j d)
  pub same : (k : ℕ) → state_at old k ≡ state_at states k → state_at fields k ≡ state_at states k

set_is : (states fields : List FieldState) (m k : ℕ) (y : FieldState) → m < length fields → y ≡ state_at states m → (m ≢ k → state_at fields k ≡ state_at states k) → state_at (set fields m y) k ≡ state_at states k
set_is states fields m k y room is before = elim (same_or_other m k) [
  | inl e ↦
      let same : get_or (set fields m y) m no_state ≡ y = rw get_or-set_same refl in
      ap (λ p. get_or (set fields m y) p no_state) (sym e.0) ∙ (same ∙ (is ∙ ap (state_at states) e.0))
  | inr e ↦
      let ne : k ≢ m = λ q. e.0 (sym q) in
      let same : get_or (set fields m y) k no_state ≡ get_or fields k no_state = rw get_or-set_other refl in
      same ∙ before e.0
]

-- one place more
taken_more : (places : List ℕ) (states old fields : List FieldState) (i m : ℕ) (y : FieldState) → i < length places → slice_get places i ≡ Some m → m < length fields → y ≡ state_at states m
    → TakenTo places states old fields i → TakenTo places states old (set fields m y) (i + 1)
taken_more places states old fields i m y low at room is before = record {
  taken = λ j d l w. elim (same_or_below j i l) [
    | inl e ↦
        let p : get_or places j d ≡ m = same_Some (get_or places j d) m (sym (slice_get-get_or places j d w) ∙ (ap (slice_get places) e ∙ at)) in
        set_is states fields m (get_or places j d) y room is (λ ne. absurd (ne (sym p)))
    | inr b ↦ set_is states fields m (get_or places j d) y room is (λ ne. before.taken j d b w)
  ];
  same = λ k e. set_is states fields m k y room is (λ ne. before.same k e);
}

pub taken_at : (places : List ℕ) (states old fields : List FieldState) (i : ℕ) → length places ≤ i → TakenTo places states old fields i → (k : ℕ) → Contains places k → state_at fields k ≡ state_at states k
taken_at places states old fields i past h k (j, low, at) = subst (λ m. state_at fields m ≡ state_at states m) at (h.taken j k (omega (arith, low, past)) low)

contains_at : (places : List ℕ) (i d : ℕ) → i < length places → Contains places (get_or places i d)
contains_at places i d low = (i, low, any_default places i (get_or places i d) d low)

pub below_at : (places : List ℕ) (m n : ℕ) → m ≡ n → ((k : ℕ) → Contains places k → k < m) → (i d : ℕ) → i < length places → get_or places i d < n
below_at places m n e there i d low = subst (λ n. get_or places i d < n) e (there (get_or places i d) (contains_at places i d low))

pub taken_next : (places : List ℕ) (states old fields : List FieldState) (i d : ℕ) (y : FieldState) → i < length places → get_or places i d < length fields → y ≡ state_at states (get_or places i d)
    → TakenTo places states old fields i → TakenTo places states old (set fields (get_or places i d) y) (i + 1)
taken_next places states old fields i d y low room is before = taken_more places states old fields i (get_or places i d) y low (slice_get-get_or places i d low) room is before

-- lists that have the same at each place are one
same_lists : (xs ys : List FieldState) → length xs ≡ length ys → ((k : ℕ) → state_at xs k ≡ state_at ys k) → xs ≡ ys
same_lists [] [] e h = refl
same_lists [] (y ∷ ys) e h = absurd (omega (arith, e))
same_lists (x ∷ xs) [] e h = absurd (omega (arith, e))
same_lists (x ∷ xs) (y ∷ ys) e h =
    let head : x ≡ y = h 0 in
    let rest : xs ≡ ys = same_lists xs ys (omega (arith, e)) (λ k. h (suc k)) in
    cc

-- all that the fields keep is taken over
pub all_taken : (b : Block) (a : Access) (places : List ℕ) (states old some all : List FieldState) → AreMoving b.fields places → length states ≡ length b.fields → length old ≡ length b.fields → length all ≡ length states
    → IsStill b a old states → ((k : ℕ) → Contains places k → state_at some k ≡ state_at states k) → ((k : ℕ) → state_at old k ≡ state_at states k → state_at some k ≡ state_at states k)
    → ((k : ℕ) → is_reached b a k ≡ true → state_at all k ≡ state_at states k) → ((k : ℕ) → is_reached b a k ≡ false → state_at all k ≡ state_at some k) → all ≡ states
all_taken b a places states old some all moving room sized long still taken same reached rest = same_lists all states long (λ k. by k (is_reached b a k) refl)
  where
    by : (k : ℕ) (d : Bool) → is_reached b a k ≡ d → state_at all k ≡ state_at states k
    by k true e = reached k e
    by k false e = rest k e ∙ at (slice_get b.fields k) refl
      where
        quiet_or : (f : Field) → slice_get b.fields k ≡ Some f → (q : Bool) → is_quiet f ≡ q → state_at some k ≡ state_at states k
        quiet_or f here true q = same k (still k f here q e)
        quiet_or f here false q = taken k (moving.all k f here q)

        at : (o : Option Field) → slice_get b.fields k ≡ o → state_at some k ≡ state_at states k
        at (Some f) here = quiet_or f here (is_quiet f) refl
        at None here = same k (beyond (below_or_from k (length b.fields)))
          where
            beyond : (k < length b.fields) ⊎ (length b.fields ≤ k) → state_at old k ≡ state_at states k
            beyond (inl l) = absurd (none_within b.fields k l here)
            beyond (inr l) = none_past old k (omega (arith, l, sized)) ∙ sym (none_past states k (omega (arith, l, room)))
