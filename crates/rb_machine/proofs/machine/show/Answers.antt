use Rattle.std.proofs.Common.{◌≡◌, ◌+◌, ◌∷◌, ◌∙◌, ℕ, List, [], length, take, refl, arith}
use Rattle.std.proofs.Math.ListN.{set}
use Rattle.std.proofs.lemmas.List.{length-set}
use Rattle.rb_machine.proofs.machine.show.Goals as goal

first_three : (outs : List ℕ) (a b c m : ℕ) → length outs ≡ 3 + m → take 3 (set (set (set outs 0 a) 1 b) 2 c) ≡ a ∷ b ∷ c ∷ []
first_three [] a b c m h = absurd (omega (arith, h))
first_three (x ∷ []) a b c m h = absurd (omega (arith, h))
first_three (x ∷ y ∷ []) a b c m h = absurd (omega (arith, h))
first_three (x ∷ y ∷ z ∷ rest) a b c m h = refl

pub loop-index-init : goal.loop-index-init
loop-index-init c = record {
  sized = length-set _ 2 c.from-3.result ∙ (length-set _ 1 c.from-2.result ∙ (length-set c.args.outs.now 0 c.from.result ∙ c.requires));
  values = rw (← c.from.ensures, ← c.from-2.ensures, ← c.from-3.ensures) (first_three c.args.outs.now c.from.result c.from-2.result c.from-3.result (length c.args.places.now) c.requires);
}
