use Rattle.std.proofs.Common.{ap, sym}
use Rattle.html_text.proofs.Wrote.{of_bytes}
use Rattle.manual_words.specs.Sentences as spec
use Rattle.manual_words.proofs.sentences.put_sentence.Goals as goal

pub returns-in-Bits : goal.returns-in-Bits
returns-in-Bits g c = of_bytes (ap (λ x. spec.sentence c.args.sight.now c.args.f.now c.args.v.now x) (sym c.in-Bits.is)) c.put_bits.ensures

pub returns-in-Once : goal.returns-in-Once
returns-in-Once g c = of_bytes (ap (λ x. spec.sentence c.args.sight.now c.args.f.now c.args.v.now x) (sym c.in-Once.is)) c.put.ensures

pub returns-in-Writes : goal.returns-in-Writes
returns-in-Writes g c = of_bytes (ap (λ x. spec.sentence c.args.sight.now c.args.f.now c.args.v.now x) (sym c.in-Writes.is)) c.put_write_words.ensures

pub returns-in-Reads : goal.returns-in-Reads
returns-in-Reads g c = of_bytes (ap (λ x. spec.sentence c.args.sight.now c.args.f.now c.args.v.now x) (sym c.in-Reads.is)) c.put_read_words.ensures

pub returns-in-WritesWhile : goal.returns-in-WritesWhile
returns-in-WritesWhile g c = of_bytes (ap (λ x. spec.sentence c.args.sight.now c.args.f.now c.args.v.now x) (sym c.in-WritesWhile.is)) c.put_gated.ensures

pub returns-in-ViewOf : goal.returns-in-ViewOf
returns-in-ViewOf g c = of_bytes (ap (λ x. spec.sentence c.args.sight.now c.args.f.now c.args.v.now x) (sym c.in-ViewOf.is)) c.put_view_of.ensures

pub returns-in-Pulse : goal.returns-in-Pulse
returns-in-Pulse g c = of_bytes (ap (λ x. spec.sentence c.args.sight.now c.args.f.now c.args.v.now x) (sym c.in-Pulse.is)) c.put-in-Pulse.ensures

pub returns-in-Latches : goal.returns-in-Latches
returns-in-Latches g c = of_bytes (ap (λ x. spec.sentence c.args.sight.now c.args.f.now c.args.v.now x) (sym c.in-Latches.is)) c.put_latch.ensures

pub returns-in-HasInput : goal.returns-in-HasInput
returns-in-HasInput g c = of_bytes (ap (λ x. spec.sentence c.args.sight.now c.args.f.now c.args.v.now x) (sym c.in-HasInput.is)) c.put_about.ensures

pub returns-in-Takes : goal.returns-in-Takes
returns-in-Takes g c = of_bytes (ap (λ x. spec.sentence c.args.sight.now c.args.f.now c.args.v.now x) (sym c.in-Takes.is)) c.put_about-in-Takes.ensures

pub returns-in-IsWire : goal.returns-in-IsWire
returns-in-IsWire g c = of_bytes (ap (λ x. spec.sentence c.args.sight.now c.args.f.now c.args.v.now x) (sym c.in-IsWire.is)) c.put-in-IsWire.ensures

pub returns-in-Loads : goal.returns-in-Loads
returns-in-Loads g c = of_bytes (ap (λ x. spec.sentence c.args.sight.now c.args.f.now c.args.v.now x) (sym c.in-Loads.is)) c.put-in-Loads.ensures

pub returns-in-LoadsWhile : goal.returns-in-LoadsWhile
returns-in-LoadsWhile g c = of_bytes (ap (λ x. spec.sentence c.args.sight.now c.args.f.now c.args.v.now x) (sym c.in-LoadsWhile.is)) c.put_gated-in-LoadsWhile.ensures

pub returns-in-CountsUp : goal.returns-in-CountsUp
returns-in-CountsUp g c = of_bytes (ap (λ x. spec.sentence c.args.sight.now c.args.f.now c.args.v.now x) (sym c.in-CountsUp.is)) c.put_count.ensures

pub returns-in-StopsUp : goal.returns-in-StopsUp
returns-in-StopsUp g c = of_bytes (ap (λ x. spec.sentence c.args.sight.now c.args.f.now c.args.v.now x) (sym c.in-StopsUp.is)) c.put_at_level.ensures

pub returns-in-WrapsUp : goal.returns-in-WrapsUp
returns-in-WrapsUp g c = of_bytes (ap (λ x. spec.sentence c.args.sight.now c.args.f.now c.args.v.now x) (sym c.in-WrapsUp.is)) c.put-in-WrapsUp.ensures

pub returns-in-CountsDown : goal.returns-in-CountsDown
returns-in-CountsDown g c = of_bytes (ap (λ x. spec.sentence c.args.sight.now c.args.f.now c.args.v.now x) (sym c.in-CountsDown.is)) c.put_count-in-CountsDown.ensures

pub returns-in-StopsDown : goal.returns-in-StopsDown
returns-in-StopsDown g c = of_bytes (ap (λ x. spec.sentence c.args.sight.now c.args.f.now c.args.v.now x) (sym c.in-StopsDown.is)) c.put_at_level-in-StopsDown.ensures

pub returns-in-WrapsDown : goal.returns-in-WrapsDown
returns-in-WrapsDown g c = of_bytes (ap (λ x. spec.sentence c.args.sight.now c.args.f.now c.args.v.now x) (sym c.in-WrapsDown.is)) c.put-in-WrapsDown.ensures

pub returns-in-UpperThreshold : goal.returns-in-UpperThreshold
returns-in-UpperThreshold g c = of_bytes (ap (λ x. spec.sentence c.args.sight.now c.args.f.now c.args.v.now x) (sym c.in-UpperThreshold.is)) c.put_at_level-in-UpperThreshold.ensures

pub returns-in-LowerThreshold : goal.returns-in-LowerThreshold
returns-in-LowerThreshold g c = of_bytes (ap (λ x. spec.sentence c.args.sight.now c.args.f.now c.args.v.now x) (sym c.in-LowerThreshold.is)) c.put_at_level-in-LowerThreshold.ensures

pub returns-in-SetWhile : goal.returns-in-SetWhile
returns-in-SetWhile g c = of_bytes (ap (λ x. spec.sentence c.args.sight.now c.args.f.now c.args.v.now x) (sym c.in-SetWhile.is)) c.put_while_one.ensures

pub returns-in-ClearedWhile : goal.returns-in-ClearedWhile
returns-in-ClearedWhile g c = of_bytes (ap (λ x. spec.sentence c.args.sight.now c.args.f.now c.args.v.now x) (sym c.in-ClearedWhile.is)) c.put_while_one-in-ClearedWhile.ensures

pub returns-in-Keeps : goal.returns-in-Keeps
returns-in-Keeps g c = of_bytes (ap (λ x. spec.sentence c.args.sight.now c.args.f.now c.args.v.now x) (sym c.in-Keeps.is)) c.put_masked.ensures

pub returns-in-Interrupts : goal.returns-in-Interrupts
returns-in-Interrupts g c = of_bytes (ap (λ x. spec.sentence c.args.sight.now c.args.f.now c.args.v.now x) (sym c.in-Interrupts.is)) c.put_masked-in-Interrupts.ensures

pub returns-in-AllInterrupt : goal.returns-in-AllInterrupt
returns-in-AllInterrupt g c = of_bytes (ap (λ x. spec.sentence c.args.sight.now c.args.f.now c.args.v.now x) (sym c.in-AllInterrupt.is)) c.put-in-AllInterrupt.ensures

pub returns-in-Halts : goal.returns-in-Halts
returns-in-Halts g c = of_bytes (ap (λ x. spec.sentence c.args.sight.now c.args.f.now c.args.v.now x) (sym c.in-Halts.is)) c.put_masked-in-Halts.ensures

pub returns-in-HardwareFirst : goal.returns-in-HardwareFirst
returns-in-HardwareFirst g c = of_bytes (ap (λ x. spec.sentence c.args.sight.now c.args.f.now c.args.v.now x) (sym c.in-HardwareFirst.is)) c.put-in-HardwareFirst.ensures

pub returns-in-IsConstant : goal.returns-in-IsConstant
returns-in-IsConstant g c = of_bytes (ap (λ x. spec.sentence c.args.sight.now c.args.f.now c.args.v.now x) (sym c.in-IsConstant.is)) c.put-in-IsConstant.ensures

pub returns-in-Shows : goal.returns-in-Shows
returns-in-Shows g c = of_bytes (ap (λ x. spec.sentence c.args.sight.now c.args.f.now c.args.v.now x) (sym c.in-Shows.is)) c.put_output.ensures

pub returns-in-ResetBy : goal.returns-in-ResetBy
returns-in-ResetBy g c = of_bytes (ap (λ x. spec.sentence c.args.sight.now c.args.f.now c.args.v.now x) (sym c.in-ResetBy.is)) c.put_reset.ensures
