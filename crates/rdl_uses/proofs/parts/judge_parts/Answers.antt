use Rattle.std.proofs.Common.{sym, subst, ap}
use Rattle.plain_lemmas.proofs.Bools.{and-left}
use Rattle.rdl_values.specs.Bodies.{around}
use Rattle.rdl_values.specs.Parts.{dims_of}
use Rattle.rdl_failures.specs.Noted.{IsNoted}
use Rattle.rdl_failures.proofs.Noting.{both_noted}
use Rattle.rdl_uses.specs.Parts.{AreDims, of_parts}
use Rattle.rdl_uses.proofs.Parted.{parts_noted, deep_noted, array_noted, long_noted}
use Rattle.rdl_uses.proofs.parts.judge_parts.Goals as goal

pub kept-requires : goal.kept-requires
kept-requires c = λ e. c.dims_of-of.ensures.some (and-left _ _ (and-left _ _ (and-left _ _ (and-left _ _ e))))

pub returns-clause-noted : goal.returns-clause-noted
returns-clause-noted c = λ p u stands is.
    let i = c.args.inst.now in
    let v = c.args.visible.now in
    let k = c.args.kind in
    let at = c.args.standing in
    let d = c.in_ok-dims.dims in
    let env = around u.scope in
    let are = c.in_ok-dims.ensures.dims env is.shown in
    let named : AreDims env u.dims d = subst (λ es. AreDims env es d) (sym is.dims) are in
    let parts = parts_noted p u k i v at d stands is _ _ _ _ _ (c.in_ok-dims.ensures.noted env is.shown) (c.in_ok-others.ensures env is.shown) in
    let deep = deep_noted p u k i v at d stands is _ _ _ c.in_ok-shallow.ensures in
    let array = array_noted p u k i v at d stands is are _ _ _ _ c.is_bad_array-bad.ensures c.in_ok-array.ensures in
    let long = long_noted p u k i v at d stands is _ _ _ _ (c.in_ok-long.ensures p u (dims_of u k) stands.prefix (ap (λ n. n.text.now) is.name) (c.dims_of-of.ensures.numbers u named)) c.in_ok-short.ensures in
    let two = both_noted _ _ _ _ _ _ _ parts deep in
    let three = both_noted _ _ _ _ _ _ _ two array in
    let four = both_noted _ _ _ _ _ _ _ three long in
    subst (λ b. IsNoted (of_parts p u k) b c.args.failures.now c.note-3.new.self) (sym c.kept.ensures.some) four
