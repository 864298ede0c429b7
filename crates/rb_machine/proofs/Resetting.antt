-- Which resets are asserted.
use Rattle.std.proofs.Common.{◌≡◌, ◌∙◌, ℕ, ◌+◌, ◌<◌, Bool, true, false, Some, List, slice_get, sym, ap, subst, refl, inl, inr, ◌⊎◌}
use Rattle.std.specs.Prelude.{Contains}
use Rattle.std.specs.List.{list_any}
use Rattle.std.proofs.lemmas.List.Folds.{list_any_at}
use Rattle.std.proofs.lemmas.Option.{same_Some}
use Rattle.v_design.specs.Expr.{Values}
use Rattle.rb_model.specs.declared.kinds.ResetBy.{ResetBy}
use Rattle.rb_model.specs.declared.block.Block.{Block}
use Rattle.rb_model.specs.declared.block.Field.{Field}
use Rattle.rb_model.specs.Machine.{is_asserted}
use Rattle.rb_machine.specs.Resets.{AreWays, NoneReset}
use Rattle.plain_lemmas.proofs.Numbers.{below_next-same_or as same_or_below}

-- a test that no element passes
pub fails : {X : Type 0} (p : X → Bool) (xs : List X) (x : X) → list_any p xs ≡ false → Contains xs x → p x ≡ false
fails p xs x none (j, low, is) = by (p x) refl
  where
    by : (c : Bool) → p x ≡ c → c ≡ false
    by false e = refl
    by true e = let some : list_any p xs ≡ true = list_any_at p xs j x low (ap p is ∙ e) in cc

-- where no reset is asserted in any of the ways, no field is under reset
pub none_reset : (b : Block) (p : Values) (ways : List ResetBy) → AreWays b.fields ways → list_any (is_asserted b p) ways ≡ false → NoneReset b p
none_reset b p ways are none k f here = fails (is_asserted b p) ways f.reset_by none (are k f here)

-- the ways of one field more
pub ways_more : (fields : List Field) (i : ℕ) (g : Field) (old new : List ResetBy) → slice_get fields i ≡ Some g → Contains new g.reset_by → ((r : ResetBy) → Contains old r → Contains new r)
    → ((k : ℕ) (f : Field) → k < i → slice_get fields k ≡ Some f → Contains old f.reset_by) → (k : ℕ) (f : Field) → k < i + 1 → slice_get fields k ≡ Some f → Contains new f.reset_by
ways_more fields i g old new at is more before k f low here = by (same_or_below k i low)
  where
    by : (k ≡ i) ⊎ (k < i) → Contains new f.reset_by
    by (inl e) = subst (λ (h : Field). Contains new h.reset_by) (same_Some g f (sym at ∙ (ap (slice_get fields) (sym e) ∙ here))) is
    by (inr l) = more f.reset_by (before k f l here)
