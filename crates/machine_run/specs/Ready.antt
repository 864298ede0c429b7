-- What the machine answers over vectors that keep the bus protocol. PREADY is the first output.
use Rattle.std.specs.Prelude.{◌≡◌, ℕ, List, [], ◌∷◌, get_or}
use Rattle.rb_model.specs.Protocol.{Bus, Phase, IDLE, SETUP, WAIT, ACCESS, phase_after}

-- PREADY in a vector of this phase: 1 where it completes an access, 0 where the access waits
abbrev pub IsReadyIn : Phase → List ℕ → Type 0
IsReadyIn IDLE outs = Unit {0}
IsReadyIn SETUP outs = Unit {0}
IsReadyIn WAIT outs = get_or outs 0 0 ≡ 0
IsReadyIn ACCESS outs = get_or outs 0 0 ≡ 1

-- each vector is answered as its phase wants, where the phase before the first was last
abbrev pub AreReadyFrom : (waits : ℕ) (last : Phase) → List Bus → List (List ℕ) → Type 0
AreReadyFrom waits last [] [] = Unit {0}
AreReadyFrom waits last [] (o ∷ os) = ⊥
AreReadyFrom waits last (now ∷ rest) [] = ⊥
AreReadyFrom waits last (now ∷ rest) (o ∷ os) = IsReadyIn (phase_after waits last now) o × AreReadyFrom waits (phase_after waits last now) rest os

-- each vector of the list is
abbrev pub AreReady : (waits : ℕ) → List Bus → List (List ℕ) → Type 0
AreReady waits buses outputs = AreReadyFrom waits IDLE buses outputs
