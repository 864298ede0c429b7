-- What is held under reset.
use Rattle.std.proofs.Common.{◌≡◌, ℕ, zero, suc, ◌<◌, ◌≤◌, ◌==◌, Bool, false, not, ◌&&◌, if◌then◌else◌, Option, Some, None, unwrap_or, List, [], ◌∷◌, length, slice_get, refl, sym, ap, ◌∙◌, arith, inl, inr, ◌⊎◌}
use Rattle.std.specs.Option.{option_map_or}
use Rattle.v_design.specs.Expr.{Values, bit_of}
use Rattle.rb_model.specs.declared.block.Block.{Block}
use Rattle.rb_model.specs.declared.block.Field.{Field}
use Rattle.rb_model.specs.Kept.{Kept, Val, Last, Done, Waited, Data, Error, of_field}
use Rattle.rb_model.specs.Protocol as protocol
use Rattle.rb_model.specs.Machine.{held, is_asserted}
use Rattle.rb_model.specs.Run.{bus_held}
use Rattle.rb_model.proofs.OwnViews.{none_within}
use Rattle.rb_machine.specs.declared.sight.FieldState.{FieldState}
use Rattle.rb_machine.specs.declared.scene.Held.{Held}
use Rattle.rb_machine.specs.Moves.{reset_state}
use Rattle.rb_machine.specs.Scene.{map_of, state_at, no_state}

-- behind the last field nothing is held
pub none_past : (states : List FieldState) (k : ℕ) → length states ≤ k → state_at states k ≡ no_state
none_past [] k past = refl
none_past (x ∷ xs) zero past = absurd (omega (arith, past))
none_past (x ∷ xs) (suc k) past = none_past xs k (omega (arith, past))

value_reset : (f : Field) (c : Bool) (x : FieldState) → (reset_state f c x).value ≡ (if c then unwrap_or f.reset x.value else x.value)
value_reset f c x = refl

-- a number of each field, where it is that of what the field keeps
module _ (b : Block) (old new : List FieldState) (test : Field → Bool) (sized : length old ≡ length b.fields) (same : length new ≡ length old)
    (h : (k : ℕ) (f : Field) → slice_get b.fields k ≡ Some f → state_at new k ≡ reset_state f (test f) (state_at old k)) where
  at : (k : ℕ) (g : FieldState → ℕ) (r : Field → ℕ) → ((f : Field) → g (reset_state f (test f) (state_at old k)) ≡ r f) → g (state_at new k) ≡ of_field b k (g (state_at old k)) r
  at k g r e = by (slice_get b.fields k) refl
    where
      by : (o : Option Field) → slice_get b.fields k ≡ o → g (state_at new k) ≡ option_map_or r o (g (state_at old k))
      by (Some f) here = ap g (h k f here) ∙ e f
      by None here = past (below_or_past k (length b.fields))
        where
          below_or_past : (k n : ℕ) → (k < n) ⊎ (n ≤ k)
          below_or_past k n = grind arith

          past : (k < length b.fields) ⊎ (length b.fields ≤ k) → g (state_at new k) ≡ g (state_at old k)
          past (inl l) = absurd (none_within b.fields k l here)
          past (inr l) = ap g (none_past new k (omega (arith, l, sized, same)) ∙ sym (none_past old k (omega (arith, l, sized))))

  pub reset_values : (k : ℕ) → (state_at new k).value ≡ of_field b k (state_at old k).value (λ f. if test f then unwrap_or f.reset (state_at old k).value else (state_at old k).value)
  reset_values k = at k (λ x. x.value) _ (λ f. refl)

  pub reset_lasts : (k : ℕ) → (state_at new k).last ≡ of_field b k (state_at old k).last (λ f. if test f then 0 else (state_at old k).last)
  reset_lasts k = at k (λ x. x.last) _ (λ f. refl)

  pub reset_dones : (k : ℕ) → (state_at new k).done ≡ of_field b k (state_at old k).done (λ f. if test f then 0 else (state_at old k).done)
  reset_dones k = at k (λ x. x.done) _ (λ f. refl)

not_zero : (r : ℕ) → (r ≡ 0 → ⊥) → (r == 0) ≡ false
not_zero r h = grind arith

pub stays : (r x : ℕ) → (r ≡ 0 → ⊥) → x ≡ (if r == 0 then 0 else x)
stays r x h = let e : (r == 0) ≡ false = not_zero r h in rw e refl

pub map_held : (b : Block) (p : Values) (bus : protocol.Bus) (old new : Held) → length old.fields.items ≡ length b.fields → length new.fields.items ≡ length old.fields.items
    → ((k : ℕ) (f : Field) → slice_get b.fields k ≡ Some f → state_at new.fields.items k ≡ reset_state f (is_asserted b p f.reset_by && not f.reset_by.sync) (state_at old.fields.items k))
    → bit_of new.waited ≡ (if bus.resetn == 0 then 0 else bit_of old.waited) → new.«data» ≡ (if bus.resetn == 0 then 0 else old.«data») → bit_of new.error ≡ (if bus.resetn == 0 then 0 else bit_of old.error)
    → (k : Kept) → map_of new k ≡ bus_held b bus (held b p (map_of old)) k
map_held b p bus old new sized same h w d e (Val k) = reset_values b old.fields.items new.fields.items (λ f. is_asserted b p f.reset_by && not f.reset_by.sync) sized same h k
map_held b p bus old new sized same h w d e (Last k) = reset_lasts b old.fields.items new.fields.items (λ f. is_asserted b p f.reset_by && not f.reset_by.sync) sized same h k
map_held b p bus old new sized same h w d e (Done k) = reset_dones b old.fields.items new.fields.items (λ f. is_asserted b p f.reset_by && not f.reset_by.sync) sized same h k
map_held b p bus old new sized same h w d e Waited = w
map_held b p bus old new sized same h w d e Data = d
map_held b p bus old new sized same h w d e Error = e
