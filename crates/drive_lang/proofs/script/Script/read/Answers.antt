use Rattle.std.proofs.Common.{◌≡◌, Ok, drop, length, replicate, ap, sym, subst, ◌∙◌, true, arith}
use Rattle.std.proofs.lemmas.List.{length-drop}
use Rattle.rb_model.specs.Ports.{input_pins}
use Rattle.drive_lang.specs.Lines.{lines_of}
use Rattle.drive_lang.specs.Steps.{played}
use Rattle.drive_lang.specs.Left.{are_held}
use Rattle.drive_lang.specs.Scripts.{most_vectors, steps_in}
use Rattle.v_design.specs.Fits.{FitsPins}
use Rattle.drive_lang.proofs.Fitting.{few, fit, zeros_fit}
use Rattle.drive_lang.proofs.Shape.{held, rising}
use Rattle.drive_lang.proofs.script.Script.read.Goals as goal

pub invariant_of-result : goal.invariant_of-result
invariant_of-result c =
    let b = c.args.block.now in
    let ls = c.in_ok-lines.lines.items in
    let read = c.in_ok-lines.ensures.ok in
    let long : length c.in_ok-held.held.items ≡ length (drop 6 (input_pins b)) = omega (arith, c.in_ok-held.ensures.len, c.len.ensures, ap length c.in_ok-pins.ensures.inputs, length-drop 6 (input_pins b)) in
    (omega arith, subst (λ n. are_held ls n ≡ true) (sym long) (held b 1 most_vectors (lines_of c.args.bytes.now) ls read), rising b 1 most_vectors (lines_of c.args.bytes.now) ls read)

pub returns-clause-steps : goal.returns-clause-steps
returns-clause-steps c =
    let b = c.args.block.now in
    let ls = c.in_ok-lines.lines.items in
    let long : length (drop 6 (input_pins b)) ≡ length c.in_ok-held.held.items = omega (arith, c.in_ok-held.ensures.len, c.len.ensures, ap length c.in_ok-pins.ensures.inputs, length-drop 6 (input_pins b)) in
    ap (steps_in b) c.in_ok-lines.ensures.ok ∙ ap (λ n. Ok (played ls (replicate n 0))) long

pub returns-clause-fits : goal.returns-clause-fits
returns-clause-fits c =
    let b = c.args.block.now in
    let long : length (drop 6 (input_pins b)) ≡ length c.in_ok-held.held.items = omega (arith, c.in_ok-held.ensures.len, c.len.ensures, ap length c.in_ok-pins.ensures.inputs, length-drop 6 (input_pins b)) in
    fit b c.requires.sound c.in_ok-lines.ensures.addresses 1 most_vectors (lines_of c.args.bytes.now) c.in_ok-lines.lines.items (replicate (length c.in_ok-held.held.items) 0) c.in_ok-lines.ensures.ok
    (subst (λ n. FitsPins (drop 6 (input_pins b)) (replicate n 0)) long (zeros_fit (drop 6 (input_pins b))))

pub returns-clause-few : goal.returns-clause-few
returns-clause-few c = few c.args.block.now 1 most_vectors (lines_of c.args.bytes.now) c.in_ok-lines.lines.items (replicate (length c.in_ok-held.held.items) 0) c.in_ok-lines.ensures.ok
