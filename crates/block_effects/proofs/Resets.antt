-- What a reset does to a field's value is what is said.
use Rattle.std.proofs.Common.{◌≡◌, ◌∙◌, ℕ, ◌==◌, Bool, true, false, not, ◌&&◌, if◌then◌else◌, slice_get, Option, Some, unwrap_or, refl, ap}
use Rattle.std.specs.Option.{option_map_or}
use Rattle.v_design.specs.Expr.{Values}
use Rattle.rb_model.specs.declared.block.Block.{Block}
use Rattle.rb_model.specs.declared.block.Field.{Field}
use Rattle.rb_model.specs.Kept.{Val}
use Rattle.rb_model.specs.Machine.{is_asserted, moved}
use Rattle.block_effects.specs.Says.{IsAtReset, SaysOfReset}
use Rattle.plain_lemmas.proofs.Bools.{and-false}
use Rattle.plain_lemmas.proofs.Numbers.{eq-itself}

asserted : (b : Block) (p : Values) (f : Field) → IsAtReset b p f.reset_by → is_asserted b p f.reset_by ≡ true
asserted b p f h = ap (λ n. n == (if f.reset_by.low then 0 else 1)) h ∙ eq-itself (if f.reset_by.low then 0 else 1)

-- the value of a field of a block whose reset acts, and else another one
abbrev reset_or : (Field → Bool) → ℕ → Option Field → ℕ
reset_or test other o = option_map_or (λ (f : Field). if test f then unwrap_or f.reset other else other) o other

acting : (test : Field → Bool) (other x : ℕ) (o : Option Field) (f : Field) → o ≡ Some f → f.reset ≡ Some x → test f ≡ true → reset_or test other o ≡ x
acting test other x o f at value acts = ap (reset_or test other) at ∙ ap (λ c. if c then unwrap_or f.reset other else other) acts ∙ ap (λ r. unwrap_or r other) value

resting : (test : Field → Bool) (other : ℕ) (o : Option Field) (f : Field) → o ≡ Some f → test f ≡ false → reset_or test other o ≡ other
resting test other o f at rests = ap (reset_or test other) at ∙ ap (λ c. if c then unwrap_or f.reset other else other) rests

pub reset_holds : (f : Field) → SaysOfReset f.reset_by f
reset_holds f = record {
  is = refl;
  at_edge = λ b n u k x at value active. acting (λ g. is_asserted b n.pins g.reset_by) (moved b n u (Val k)) x (slice_get b.fields k) f at value (asserted b n.pins f active);
  asynchronous = λ b p m k x at value active apart. acting (λ g. is_asserted b p g.reset_by && not g.reset_by.sync) (m (Val k)) x (slice_get b.fields k) f at value (ap (λ c. c && not f.reset_by.sync) (asserted b p f active) ∙ ap not apart);
  synchronous = λ b p m k at along. resting (λ g. is_asserted b p g.reset_by && not g.reset_by.sync) (m (Val k)) (slice_get b.fields k) f at (ap (λ c. is_asserted b p f.reset_by && not c) along ∙ and-false (is_asserted b p f.reset_by));
}
