use Rattle.std.proofs.Common.{◌∙◌, ◌++◌, append_assoc, ap}
use Rattle.c_header.specs.Header.{comma, parameter}
use Rattle.c_header.proofs.Numbered.{added-number}
use Rattle.c_header.proofs.lines.push_parameters.Goals as goal

pub loop-place-preserved : goal.loop-place-preserved
loop-place-preserved c =
    let k = c.loop-place.place in
    let old = c.loop-place.text.items in
    added-number (λ n. comma n.0 ++ parameter n.0) c.args.strides.now k c.args.text.now.items old c.push_parameter.new.text.items c.loop-place-test.true c.loop-place.invariant
    (c.in_ok-push_parameter.ensures ∙ ap (λ xs. xs ++ parameter k) c.in_ok-push_comma.ensures ∙ append_assoc old (comma k) (parameter k))
