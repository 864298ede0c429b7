-- What an edge may change of what the fields keep.
use Rattle.std.specs.Prelude.{◌≡◌, ℕ, ◌<◌, Bool, true, false, Some, List, Contains, length, slice_get}
use Rattle.rb_model.specs.declared.block.Block.{Block}
use Rattle.rb_model.specs.declared.block.Field.{Field}
use Rattle.rb_model.specs.Items.{Access, reaches}
use Rattle.rb_machine.specs.declared.scene.Strobes.{Strobes}
use Rattle.rb_machine.specs.declared.sight.FieldState.{FieldState}
use Rattle.rb_machine.specs.Quiet.{is_quiet}
use Rattle.rb_machine.specs.Scene.{mark_at, no_mark, state_at}

-- the access is one of a word with a view of field k
abbrev pub is_reached : Block → Access → ℕ → Bool
is_reached b a k = reaches b a k (λ w. true) (λ w. true)

-- the places of the fields that aren't quiet, and maybe others
pub record AreMoving (fields : List Field) (places : List ℕ) : Type 0 where
  pub there : (k : ℕ) → Contains places k → k < length fields
  pub all : (k : ℕ) (f : Field) → slice_get fields k ≡ Some f → is_quiet f ≡ false → Contains places k

-- the quiet fields that an access doesn't reach keep what they had
abbrev pub IsStill : Block → Access → (old new : List FieldState) → Type 0
IsStill b a old new = (k : ℕ) (f : Field) → slice_get b.fields k ≡ Some f → is_quiet f ≡ true → is_reached b a k ≡ false → state_at old k ≡ state_at new k

-- no field is marked that an access doesn't reach
abbrev pub AreMarksOf : Block → Access → List Strobes → Type 0
AreMarksOf b a marks = (k : ℕ) → is_reached b a k ≡ false → mark_at marks k ≡ no_mark
