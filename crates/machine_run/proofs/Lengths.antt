-- A run has as many outputs as vectors.
use Rattle.std.proofs.Common.{◌≡◌, ℕ, suc, List, [], ◌∷◌, length, refl, ap}
use Rattle.rb_model.specs.declared.block.Block.{Block}
use Rattle.rb_model.specs.Kept.{Map}
use Rattle.rb_model.specs.Run.{MachineRun}

pub as_many : (b : Block) (m : Map) (vectors outputs : List (List ℕ)) → MachineRun b m vectors outputs → length outputs ≡ length vectors
as_many b m [] [] h = refl
as_many b m [] (o ∷ os) h = absurd h
as_many b m (x ∷ xs) [] h = absurd h
as_many b m (x ∷ xs) (o ∷ os) h = ap suc (as_many b h.0 xs os h.2)
