use Rattle.std.proofs.Common.{ap, sym}
use Rattle.html_text.proofs.Wrote.{of_bytes}
use Rattle.manual_words.specs.Names as spec
use Rattle.manual_words.proofs.names.put_item.Goals as goal

pub returns-in-Field : goal.returns-in-Field
returns-in-Field g c = of_bytes (ap (λ x. spec.item_text c.args.sight.now x) (sym c.in-Field.is)) c.put_field_item.ensures

pub returns-in-Signal : goal.returns-in-Signal
returns-in-Signal g c = of_bytes (ap (λ x. spec.item_text c.args.sight.now x) (sym c.in-Signal.is)) c.put_signal_item.ensures

pub returns-in-Anded : goal.returns-in-Anded
returns-in-Anded g c = of_bytes (ap (λ x. spec.item_text c.args.sight.now x) (sym c.in-Anded.is)) c.put_field_item-in-Anded.ensures

pub returns-in-Ored : goal.returns-in-Ored
returns-in-Ored g c = of_bytes (ap (λ x. spec.item_text c.args.sight.now x) (sym c.in-Ored.is)) c.put_field_item-in-Ored.ensures

pub returns-in-Xored : goal.returns-in-Xored
returns-in-Xored g c = of_bytes (ap (λ x. spec.item_text c.args.sight.now x) (sym c.in-Xored.is)) c.put_field_item-in-Xored.ensures

pub returns-in-IncrThreshold : goal.returns-in-IncrThreshold
returns-in-IncrThreshold g c = of_bytes (ap (λ x. spec.item_text c.args.sight.now x) (sym c.in-IncrThreshold.is)) c.put_field_item-in-IncrThreshold.ensures

pub returns-in-DecrThreshold : goal.returns-in-DecrThreshold
returns-in-DecrThreshold g c = of_bytes (ap (λ x. spec.item_text c.args.sight.now x) (sym c.in-DecrThreshold.is)) c.put_field_item-in-DecrThreshold.ensures

pub returns-in-Overflow : goal.returns-in-Overflow
returns-in-Overflow g c = of_bytes (ap (λ x. spec.item_text c.args.sight.now x) (sym c.in-Overflow.is)) c.put_field_item-in-Overflow.ensures

pub returns-in-Underflow : goal.returns-in-Underflow
returns-in-Underflow g c = of_bytes (ap (λ x. spec.item_text c.args.sight.now x) (sym c.in-Underflow.is)) c.put_field_item-in-Underflow.ensures

pub returns-in-SwMod : goal.returns-in-SwMod
returns-in-SwMod g c = of_bytes (ap (λ x. spec.item_text c.args.sight.now x) (sym c.in-SwMod.is)) c.put_field_item-in-SwMod.ensures

pub returns-in-SwAcc : goal.returns-in-SwAcc
returns-in-SwAcc g c = of_bytes (ap (λ x. spec.item_text c.args.sight.now x) (sym c.in-SwAcc.is)) c.put_field_item-in-SwAcc.ensures

pub returns-in-Intr : goal.returns-in-Intr
returns-in-Intr g c = of_bytes (ap (λ x. spec.item_text c.args.sight.now x) (sym c.in-Intr.is)) c.put_reg_item.ensures

pub returns-in-Halt : goal.returns-in-Halt
returns-in-Halt g c = of_bytes (ap (λ x. spec.item_text c.args.sight.now x) (sym c.in-Halt.is)) c.put_reg_item-in-Halt.ensures
