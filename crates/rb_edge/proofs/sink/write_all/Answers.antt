use Rattle.std.proofs.Common.{List, ℕ, take, refl, subst, arith}
use Rattle.std.proofs.lemmas.List.{take_rest}
use Rattle.rb_edge.specs.Sink.{Takes}
use Rattle.rb_edge.proofs.Taken.{Takes-nil, Takes-more}
use Rattle.rb_edge.proofs.sink.write_all.Goals as goal

pub loop-at-init : goal.loop-at-init
loop-at-init g c = record { within = omega arith; taken = Takes-nil _; later = omega arith; same = λ _. refl }

pub loop-at-preserved : goal.loop-at-preserved
loop-at-preserved g c =
    let P : List ℕ → Type 0 = λ rest. Takes (g.K.Sink.told c.loop-at.sink) (g.K.Sink.told c.write.new.self) (take c.in_ok-at.field-0 rest) in
    let piece = subst P (take_rest c.args.bytes.now c.loop-at.at) c.in_ok-at.ensures.taken in
    record {
      within = omega (arith, c.in_ok-at.ensures.count);
      taken = Takes-more _ _ _ c.args.bytes.now c.loop-at.at c.in_ok-at.field-0 c.loop-at.invariant.taken piece;
      later = omega arith;
      same = λ zero. absurd (omega (arith, c.in_ok-at.ensures.count));
    }
