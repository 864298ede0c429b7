-- What the fields keep, one after the other.
use Rattle.std.proofs.Common.{◌≡◌, ◌≢◌, ℕ, ◌+◌, ◌<◌, ◌≤◌, Bool, Some, List, length, slice_get, get_or, refl, sym, ap, ◌∙◌, arith, get_or-set_other, get_or-set_same, inl, inr}
use Rattle.std.proofs.Math.ListN.{set}
use Rattle.std.proofs.lemmas.Option.{same_Some, slice_get_within}
use Rattle.rb_model.specs.declared.block.Block.{Block}
use Rattle.rb_model.specs.declared.block.Field.{Field}
use Rattle.rb_model.specs.Items.{NoAccess}
use Rattle.rb_model.specs.Machine.{is_asserted}
use Rattle.rb_model.specs.Run.{pins_of}
use Rattle.rb_machine.specs.declared.sight.FieldState.{FieldState}
use Rattle.rb_machine.specs.declared.sight.FieldNow.{FieldNow}
use Rattle.rb_machine.specs.declared.scene.EdgeState.{EdgeState}
use Rattle.rb_machine.specs.Moves.{ended_state, kept_state, next_state, reset_state, started_state}
use Rattle.rb_machine.specs.Scene.{IsAt, no_state, now_in, state_at}
use Rattle.rb_machine.specs.Table.{values_of}
use Rattle.plain_lemmas.proofs.Numbers.{below_next-same_or as same_or_below, below_or_from}

-- one field more
pub moved_more : (b : Block) (g : ℕ → Field → FieldState) (states : List FieldState) (i : ℕ) (y : FieldState) → i < length states → ((f : Field) → slice_get b.fields i ≡ Some f → y ≡ g i f)
    → ((k : ℕ) (f : Field) → k < i → slice_get b.fields k ≡ Some f → state_at states k ≡ g k f)
    → (k : ℕ) (f : Field) → k < i + 1 → slice_get b.fields k ≡ Some f → state_at (set states i y) k ≡ g k f
moved_more b g states i y room is before k f l here =
    elim (same_or_below k i l) [
      | inl e ↦
          let same : get_or (set states i y) i no_state ≡ y = rw get_or-set_same refl in
          ap (λ m. get_or (set states i y) m no_state) e ∙ (same ∙ (is f (ap (slice_get b.fields) (sym e) ∙ here) ∙ ap (λ m. g m f) (sym e)))
      | inr low ↦
          let ne : k ≢ i = λ e. let q : k ≡ i = e in omega arith in
          let same : get_or (set states i y) k no_state ≡ get_or states k no_state = rw get_or-set_other refl in
          same ∙ before k f low here
    ]

-- past fields that keep what they had
pub moved_past : (b : Block) (g : ℕ → Field → FieldState) (states : List FieldState) (i j : ℕ) → ((k : ℕ) (f : Field) → i ≤ k → k < j → slice_get b.fields k ≡ Some f → state_at states k ≡ g k f)
    → ((k : ℕ) (f : Field) → k < i → slice_get b.fields k ≡ Some f → state_at states k ≡ g k f)
    → (k : ℕ) (f : Field) → k < j → slice_get b.fields k ≡ Some f → state_at states k ≡ g k f
moved_past b g states i j past before k f l here = elim (below_or_from k i) [ inl low ↦ before k f low here | inr high ↦ past k f high l here ]

pub later_past : (states old : List FieldState) (i j : ℕ) → i ≤ j → ((k : ℕ) → i ≤ k → state_at states k ≡ state_at old k) → (k : ℕ) → j ≤ k → state_at states k ≡ state_at old k
later_past states old i j past h k l = let low : i ≤ k = omega (arith, past, l) in h k low

pub later_stays : (states old : List FieldState) (i : ℕ) (y : FieldState) → ((k : ℕ) → i ≤ k → state_at states k ≡ state_at old k) → (k : ℕ) → i + 1 ≤ k → state_at (set states i y) k ≡ state_at old k
later_stays states old i y h k l =
    let ne : k ≢ i = λ e. let q : k ≡ i = e in omega arith in
    let same : get_or (set states i y) k no_state ≡ get_or states k no_state = rw get_or-set_other refl in
    let low : i ≤ k = omega (arith, l) in
    same ∙ h k low

-- all fields
pub moved_all : (b : Block) (g : ℕ → Field → FieldState) (states : List FieldState) (i : ℕ) → length b.fields ≤ i
    → ((k : ℕ) (f : Field) → k < i → slice_get b.fields k ≡ Some f → state_at states k ≡ g k f)
    → (k : ℕ) (f : Field) → slice_get b.fields k ≡ Some f → state_at states k ≡ g k f
moved_all b g states i past h k f here = let low : k < length b.fields = slice_get_within b.fields k f here in h k f (omega (arith, low, past)) here

-- by what the field finds
module _ (s : EdgeState) (values : List ℕ) (k : ℕ) (at : FieldNow) (is : IsAt s values k at) (f : Field) (here : slice_get s.block.now.fields k ≡ Some f) where
  same_field : at.field.now ≡ f
  same_field = same_Some at.field.now f (sym is.here ∙ here)

  pub started_at : (r : FieldState) → r ≡ started_state (now_in s NoAccess) (values_of at.table.now) k at.field.now at.state → r ≡ started_state (now_in s NoAccess) (values_of values) k f (state_at s.held.now.fields.items k)
  started_at r e =
      e
      ∙ (ap (λ t. started_state (now_in s NoAccess) (values_of t) k at.field.now at.state) is.table
      ∙ (ap (λ g. started_state (now_in s NoAccess) (values_of values) k g at.state) same_field
      ∙ ap (started_state (now_in s NoAccess) (values_of values) k f) (sym is.state)))

  pub next_at : (x es rs r : FieldState) (asserted : Bool) → es ≡ ended_state (now_in s NoAccess) (values_of at.table.now) k at.field.now x → asserted ≡ is_asserted s.block.now (pins_of s.block.now s.pins.now) at.field.now.reset_by
      → rs ≡ reset_state at.field.now asserted es → r ≡ kept_state at.field.now rs → r ≡ next_state s.block.now (now_in s NoAccess) (values_of values) k f x
  next_at x es rs r asserted e a p q =
      q
      ∙ (ap (kept_state at.field.now) (p ∙ (ap (λ c. reset_state at.field.now c es) a ∙ ap (reset_state at.field.now (is_asserted s.block.now (pins_of s.block.now s.pins.now) at.field.now.reset_by)) e))
      ∙ (ap (λ t. next_state s.block.now (now_in s NoAccess) (values_of t) k at.field.now x) is.table
      ∙ ap (λ g. next_state s.block.now (now_in s NoAccess) (values_of values) k g x) same_field))
