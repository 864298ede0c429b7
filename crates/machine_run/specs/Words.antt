-- What an access reaches.
use Rattle.std.specs.Prelude.{ℕ, Bool, true}
use Rattle.rb_model.specs.declared.block.Block.{Block}
use Rattle.rb_model.specs.Items.{Access, reaches}

-- a slot of the word that is read or written holds bits of field k; without an access none does
abbrev pub is_accessed : Block → Access → ℕ → Bool
is_accessed b access k = reaches b access k (λ w. true) (λ w. true)
