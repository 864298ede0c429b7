-- What the fields have before software that one pin moves, one after the other.
use Rattle.std.proofs.Common.{◌≡◌, ◌≢◌, ℕ, zero, suc, ◌+◌, ◌<◌, ◌≤◌, Bool, true, false, not, ◌&&◌, if◌then◌else◌, Some, List, [], ◌∷◌, ◌++◌, length, slice_get, get_or, refl, sym, ap, subst, ◌∙◌, arith, get_or-set_other, get_or-set_same, inl, inr, ◌⊎◌}
use Rattle.std.proofs.Math.ListN.{set}
use Rattle.std.proofs.lemmas.Option.{same_Some, slice_get-get_or, slice_get_within}
use Rattle.plain_lemmas.proofs.Lists.{get-front_of as front, get-last as last}
use Rattle.plain_lemmas.proofs.Numbers.{below_next-same_or as same_or_below}
use Rattle.rb_model.specs.declared.block.Field.{Field}
use Rattle.rb_model.specs.Items.{ItemValues, NoAccess}
use Rattle.rb_model.specs.SoundField.{FieldIsSoundIn}
use Rattle.rb_model.proofs.Eachs.{Each-from_zero}
use Rattle.block_plan.specs.declared.plan.FieldPlaces.{FieldPlaces}
use Rattle.rb_machine.specs.declared.plain.PinStep.{PinStep}
use Rattle.rb_machine.specs.declared.plain.PlainField.{PlainField}
use Rattle.rb_machine.specs.declared.scene.EdgeState.{EdgeState}
use Rattle.rb_machine.specs.declared.sight.FieldState.{FieldState}
use Rattle.rb_machine.specs.Moves.{begun_state}
use Rattle.rb_machine.specs.Plain.{AreRising, AreSteps, IsPlainField, begun_by, is_plain, pin_step, step_value}
use Rattle.rb_machine.specs.Quiet.{begins}
use Rattle.rb_machine.specs.Scene.{IsEdgeState, no_state, now_in, state_at}
use Rattle.rb_machine.proofs.Plainly.{by_step, plainly}
use Rattle.rb_machine.proofs.Resting.{same_state}

-- such fields below a place
pub record StepsTo (fields : List Field) (places : List FieldPlaces) (steps : List PlainField) (end : ℕ) : Type 0 where
  pub each : (j : ℕ) (s : PlainField) → slice_get steps j ≡ Some s → IsPlainField fields places s
  pub below : (j : ℕ) (s : PlainField) → slice_get steps j ≡ Some s → s.number < end
  pub rising : (i j : ℕ) (s t : PlainField) → i < j → slice_get steps i ≡ Some s → slice_get steps j ≡ Some t → s.number < t.number
  pub all : (k : ℕ) (f : Field) → k < end → slice_get fields k ≡ Some f → is_plain f ≡ true → (j : ℕ) × (s : PlainField) × (slice_get steps j ≡ Some s) × (s.number ≡ k)

nothing_at : (steps : List PlainField) (j : ℕ) (s : PlainField) → steps ≡ [] → slice_get steps j ≡ Some s → ⊥
nothing_at steps j s none at = let low : j < length steps = slice_get_within steps j s at in absurd (omega (arith, low, ap length none))

pub steps_none : (fields : List Field) (places : List FieldPlaces) (steps : List PlainField) → steps ≡ [] → StepsTo fields places steps 0
steps_none fields places steps none = record {
  each = λ j s at. absurd (nothing_at steps j s none at);
  below = λ j s at. absurd (nothing_at steps j s none at);
  rising = λ i j s t l at there. absurd (nothing_at steps i s none at);
  all = λ k f low here q. absurd (omega (arith, low));
}

-- one field more that isn't one of them
pub steps_skip : (fields : List Field) (places : List FieldPlaces) (steps : List PlainField) (i : ℕ) (g : Field) → slice_get fields i ≡ Some g → is_plain g ≡ false → StepsTo fields places steps i → StepsTo fields places steps (i + 1)
steps_skip fields places steps i g at other before = record {
  each = before.each;
  below = λ j s there. let low : s.number < i = before.below j s there in omega (arith, low);
  rising = before.rising;
  all = λ k f low here q. elim (same_or_below k i low) [
    | inl e ↦ let z : false ≡ true = sym other ∙ (ap is_plain (same_Some g f (sym at ∙ (ap (slice_get fields) (sym e) ∙ here))) ∙ q) in cc
    | inr l ↦ before.all k f l here q
  ];
}

-- what stands in a list with one more
pushed_at : (steps : List PlainField) (t : PlainField) (j : ℕ) (s : PlainField) → slice_get (steps ++ t ∷ []) j ≡ Some s → (slice_get steps j ≡ Some s) ⊎ ((j ≡ length steps) × (t ≡ s))
pushed_at [] t zero s e = inr (refl, same_Some t s e)
pushed_at [] t (suc j) s e = cc
pushed_at (x ∷ xs) t zero s e = inl e
pushed_at (x ∷ xs) t (suc j) s e = elim (pushed_at xs t j s e) [ inl h ↦ inl h | inr h ↦ inr (omega (arith, h.0), h.1) ]

-- one of them more
module _ (fields : List Field) (places : List FieldPlaces) (steps steps' : List PlainField) (t : PlainField) (pushed : steps' ≡ steps ++ t ∷ []) (is : IsPlainField fields places t) (before : StepsTo fields places steps t.number) where
  old_or_new : (j : ℕ) (s : PlainField) → slice_get steps' j ≡ Some s → (slice_get steps j ≡ Some s) ⊎ ((j ≡ length steps) × (t ≡ s))
  old_or_new j s at = pushed_at steps t j s (ap (λ xs. slice_get xs j) (sym pushed) ∙ at)

  each_more : (j : ℕ) (s : PlainField) → slice_get steps' j ≡ Some s → IsPlainField fields places s
  each_more j s at = elim (old_or_new j s at) [ inl h ↦ before.each j s h | inr h ↦ subst (IsPlainField fields places) h.1 is ]

  below_more : (j : ℕ) (s : PlainField) → slice_get steps' j ≡ Some s → s.number < t.number + 1
  below_more j s at = elim (old_or_new j s at) [
    | inl h ↦ let low : s.number < t.number = before.below j s h in omega (arith, low)
    | inr h ↦ let e : t.number ≡ s.number = ap (λ u. u.number) h.1 in omega (arith, e)
  ]

  rising_more : (i j : ℕ) (s u : PlainField) → i < j → slice_get steps' i ≡ Some s → slice_get steps' j ≡ Some u → s.number < u.number
  rising_more i j s u l at there = elim (old_or_new i s at) [
    | inl h ↦ elim (old_or_new j u there) [
      | inl g ↦ before.rising i j s u l h g
      | inr g ↦ let low : s.number < t.number = before.below i s h in let e : t.number ≡ u.number = ap (λ u. u.number) g.1 in omega (arith, low, e)
    ]
    | inr h ↦ elim (old_or_new j u there) [
      | inl g ↦ let low : j < length steps = slice_get_within steps j u g in absurd (omega (arith, low, l, h.0))
      | inr g ↦ absurd (omega (arith, l, h.0, g.0))
    ]
  ]

  all_more : (k : ℕ) (f : Field) → k < t.number + 1 → slice_get fields k ≡ Some f → is_plain f ≡ true → (j : ℕ) × (s : PlainField) × (slice_get steps' j ≡ Some s) × (s.number ≡ k)
  all_more k f low here q = elim (same_or_below k t.number low) [
    | inl e ↦ (length steps, t, ap (λ xs. slice_get xs (length steps)) pushed ∙ last steps t, sym e)
    | inr l ↦ let (j, s, at, e) = before.all k f l here q in (j, s, ap (λ xs. slice_get xs j) pushed ∙ front steps (t ∷ []) s j at, e)
  ]

  pub steps_more : StepsTo fields places steps' (t.number + 1)
  steps_more = record { each = each_more; below = below_more; rising = rising_more; all = all_more }

pub is_field : (fields : List Field) (places : List FieldPlaces) (i : ℕ) (g : Field) (step : PinStep) → slice_get fields i ≡ Some g → is_plain g ≡ true → ((p : FieldPlaces) → slice_get places i ≡ Some p → step ≡ pin_step g p)
    → IsPlainField fields places (record { number = i; step = step })
is_field fields places i g step at plain told = record { field = g; here = at; plain = plain; step = told }

pub steps_all : (fields : List Field) (places : List FieldPlaces) (steps : List PlainField) (i : ℕ) → length fields ≤ i → StepsTo fields places steps i → AreSteps fields places steps
steps_all fields places steps i past h = record {
  each = h.each;
  rising = h.rising;
  all = λ k f here q. let low : k < length fields = slice_get_within fields k f here in h.all k f (omega (arith, low, past)) here q;
}

pub steps_of : (fields fields' : List Field) (places places' : List FieldPlaces) (steps : List PlainField) → fields' ≡ fields → places' ≡ places → AreSteps fields' places' steps → AreSteps fields places steps
steps_of fields fields' places places' steps e g h = subst (λ (ps : List FieldPlaces). AreSteps fields ps steps) g (subst (λ (fs : List Field). AreSteps fs places' steps) e h)

-- what such a field has before software
pub begun_is : (s : EdgeState) → IsEdgeState s → (v : ItemValues) (t : PlainField) → IsPlainField s.block.now.fields s.plan.now.fields.items t → (f : Field) → slice_get s.block.now.fields t.number ≡ Some f → (y : FieldState)
    → begun_by s.pins.now t.step y ≡ begun_state (now_in s NoAccess) v t.number f y
begun_is s scene v t is f here y =
    let (p, there, are) = scene.planned.fields t.number f here in
    let one : is.field ≡ f = same_Some is.field f (sym is.here ∙ here) in
    let plain : is_plain f ≡ true = ap is_plain (sym one) ∙ is.plain in
    let told : t.step ≡ pin_step f p = is.step p there ∙ ap (λ g. pin_step g p) one in
    let wide : f.width ≤ 64 = (Each-from_zero (FieldIsSoundIn s.block.now) s.block.now.fields t.number f scene.sound.fields here).alone.wide.1 in
    let same : step_value s.pins.now t.step y.value ≡ step_value s.pins.now (pin_step f p) y.value = ap (λ u. step_value s.pins.now u y.value) told in
    same_state (begun_by s.pins.now t.step y) (begun_state (now_in s NoAccess) v t.number f y)
    (same ∙ sym (by_step s.block.now scene.sound s.pins.now scene.pins (now_in s NoAccess) refl v t.number f wide p are (plainly f plain) y.value)) refl refl

-- what steps make of the fields, up to one of them
pub record TakenSteps (pins : List ℕ) (steps : List PlainField) (old states : List FieldState) (end : ℕ) : Type 0 where
  pub moved : (j : ℕ) (t : PlainField) → j < end → slice_get steps j ≡ Some t → state_at states t.number ≡ begun_by pins t.step (state_at old t.number)
  pub others : (k : ℕ) → ((j : ℕ) (t : PlainField) → j < end → slice_get steps j ≡ Some t → t.number ≢ k) → state_at states k ≡ state_at old k

pub steps_begin : (pins : List ℕ) (steps : List PlainField) (old : List FieldState) → TakenSteps pins steps old old 0
steps_begin pins steps old = record { moved = λ j t low at. absurd (omega (arith, low)); others = λ k none. refl }

-- one step more
module _ (pins : List ℕ) (steps : List PlainField) (rising : AreRising steps) (old states : List FieldState) (i : ℕ) (before : TakenSteps pins steps old states i) (t : PlainField) (at : slice_get steps i ≡ Some t) (y : FieldState) (room : t.number < length states)
    (is : y ≡ begun_by pins t.step (state_at states t.number)) where
  fresh : state_at states t.number ≡ state_at old t.number
  fresh = before.others t.number (λ j u l there. λ e. let low : u.number < t.number = rising j i u t l there at in absurd (omega (arith, low, e)))

  set_here : state_at (set states t.number y) t.number ≡ y
  set_here = rw get_or-set_same refl

  set_there : (k : ℕ) → k ≢ t.number → state_at (set states t.number y) k ≡ state_at states k
  set_there k ne = let same : get_or (set states t.number y) k no_state ≡ get_or states k no_state = rw get_or-set_other refl in same

  moved_here : (u : PlainField) → t ≡ u → state_at (set states t.number y) u.number ≡ begun_by pins u.step (state_at old u.number)
  moved_here u e = subst (λ (w : PlainField). state_at (set states t.number y) w.number ≡ begun_by pins w.step (state_at old w.number)) e (set_here ∙ (is ∙ ap (begun_by pins t.step) fresh))

  moved_before : (j : ℕ) (u : PlainField) → j < i → slice_get steps j ≡ Some u → state_at (set states t.number y) u.number ≡ begun_by pins u.step (state_at old u.number)
  moved_before j u l there =
      let low : u.number < t.number = rising j i u t l there at in
      set_there u.number (λ e. absurd (omega (arith, low, e))) ∙ before.moved j u l there

  steps_set : TakenSteps pins steps old (set states t.number y) (i + 1)
  steps_set = record {
    moved = λ j u l there. elim (same_or_below j i l) [
      | inl e ↦ moved_here u (same_Some t u (sym at ∙ (ap (slice_get steps) (sym e) ∙ there)))
      | inr b ↦ moved_before j u b there
    ];
    others = λ k none.
        set_there k (λ e. none i t (let l : i < i + 1 = omega arith in l) at (sym e)) ∙ before.others k (λ j u l there. none j u (let b : j < i + 1 = omega (arith, l) in b) there);
  }

pub room_at : (steps : List PlainField) (m n : ℕ) → m ≡ n → ((j : ℕ) (t : PlainField) → slice_get steps j ≡ Some t → t.number < m) → (i : ℕ) (d : PlainField) → i < length steps → (get_or steps i d).number < n
room_at steps m n e room i d low = subst (λ n. (get_or steps i d).number < n) e (room i (get_or steps i d) (slice_get-get_or steps i d low))

pub steps_next : (pins : List ℕ) (steps : List PlainField) → AreRising steps → (old states : List FieldState) (i : ℕ) (d : PlainField) (y : FieldState) → i < length steps → (get_or steps i d).number < length states
    → y ≡ begun_by pins (get_or steps i d).step (state_at states (get_or steps i d).number) → TakenSteps pins steps old states i → TakenSteps pins steps old (set states (get_or steps i d).number y) (i + 1)
steps_next pins steps rising old states i d y low room is before = steps_set pins steps rising old states i before (get_or steps i d) (slice_get-get_or steps i d low) y room is

pub steps_room : (fields : List Field) (places : List FieldPlaces) (steps : List PlainField) (n : ℕ) → AreSteps fields places steps → n ≡ length fields → (j : ℕ) (t : PlainField) → slice_get steps j ≡ Some t → t.number < n
steps_room fields places steps n are e j t at = let p = are.each j t at in let low : t.number < length fields = slice_get_within fields t.number p.field p.here in omega (arith, low, e)

-- what all fields have before software whose hardware acted by one pin
pub all_begun : (s : EdgeState) → IsEdgeState s → s.is_reset ≡ false → (old states : List FieldState)
    → ((j : ℕ) (t : PlainField) → slice_get s.steps.now j ≡ Some t → state_at states t.number ≡ begun_by s.pins.now t.step (state_at old t.number))
    → ((k : ℕ) → ((j : ℕ) (t : PlainField) → slice_get s.steps.now j ≡ Some t → t.number ≢ k) → state_at states k ≡ state_at old k)
    → (v : ItemValues) (k : ℕ) (f : Field) → slice_get s.block.now.fields k ≡ Some f → state_at states k ≡ (if begins s.is_reset f then begun_state (now_in s NoAccess) v k f (state_at old k) else state_at old k)
all_begun s scene calm old states moved others v k f here = by (is_plain f) refl ∙ sym (ap (λ z. if z then begun_state (now_in s NoAccess) v k f (state_at old k) else state_at old k) free)
  where
    free : begins s.is_reset f ≡ is_plain f
    free = ap (λ r. not r && is_plain f) calm

    by : (c : Bool) → is_plain f ≡ c → state_at states k ≡ (if is_plain f then begun_state (now_in s NoAccess) v k f (state_at old k) else state_at old k)
    by true q =
        let (j, t, at, e) = scene.steps.all k f here q in
        let same : state_at states k ≡ begun_by s.pins.now t.step (state_at old k) = subst (λ m. state_at states m ≡ begun_by s.pins.now t.step (state_at old m)) e (moved j t at) in
        let begun : begun_by s.pins.now t.step (state_at old k) ≡ begun_state (now_in s NoAccess) v k f (state_at old k)
        = subst (λ m. begun_by s.pins.now t.step (state_at old k) ≡ begun_state (now_in s NoAccess) v m f (state_at old k)) e (begun_is s scene v t (scene.steps.each j t at) f (ap (slice_get s.block.now.fields) e ∙ here) (state_at old k)) in
        same ∙ (begun ∙ sym (ap (λ z. if z then begun_state (now_in s NoAccess) v k f (state_at old k) else state_at old k) q))
    by false q =
        others k (λ j t at. λ e.
        let p = scene.steps.each j t at in
        let one : p.field ≡ f = same_Some p.field f (sym p.here ∙ (ap (slice_get s.block.now.fields) e ∙ here)) in
        let z : false ≡ true = sym q ∙ (ap is_plain (sym one) ∙ p.plain) in
        cc) ∙ sym (ap (λ z. if z then begun_state (now_in s NoAccess) v k f (state_at old k) else state_at old k) q)
