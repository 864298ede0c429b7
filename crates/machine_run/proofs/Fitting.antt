-- A table whose vectors keep the protocol has no problem, and breaks it nowhere.
use Rattle.std.proofs.Common.{◌≡◌, ℕ, zero, suc, ◌+◌, Ok, Err, List, [], ◌∷◌, take, sym, ◌∙◌, subst}
use Rattle.rb_model.specs.declared.block.Block.{Block}
use Rattle.rb_model.specs.Protocol.{Bus, Phase, IDLE, idle, KeepsFrom, KeepsProtocol, phase_after}
use Rattle.rb_model.specs.Run.{buses}
use Rattle.machine_run.specs.Runs.{IsBreak, IsFitFor, IsProblem}

-- so do the first of the vectors
keeps_first : (waits : ℕ) (last : Phase) (before : Bus) (n : ℕ) (bs : List Bus) → KeepsFrom waits last before bs → KeepsFrom waits last before (take n bs)
keeps_first waits last before zero bs h = tt
keeps_first waits last before (suc n) [] h = tt
keeps_first waits last before (suc n) (now ∷ bs) h = (h.0, keeps_first waits (phase_after waits last now) now n bs h.1)

pub no_problem : (b : Block) (stimulus text : List ℕ) → IsFitFor b stimulus → IsProblem b stimulus text → ⊥
no_problem b stimulus text fit problem = let e : Ok fit.vectors ≡ Err problem.problem = sym fit.table ∙ problem.table in cc

pub no_break : (b : Block) (stimulus : List ℕ) (row : ℕ) → IsFitFor b stimulus → IsBreak b stimulus row → ⊥
no_break b stimulus row fit broken =
    let e : Ok fit.vectors ≡ Ok broken.vectors = sym fit.table ∙ broken.table in
    let same : fit.vectors ≡ broken.vectors = cc in
    broken.first.breaks (keeps_first b.waits IDLE idle (row + 1) (buses b broken.vectors) (subst (λ vs. KeepsProtocol b.waits (buses b vs)) same fit.kept))
