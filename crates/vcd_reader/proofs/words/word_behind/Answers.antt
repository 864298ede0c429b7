use Rattle.std.proofs.Common.{◌≡◌, ◌+◌, ◌-◌, length, take, drop, refl, ap, arith, length-drop}
use Rattle.std.proofs.lemmas.List.{take_all}
use Rattle.vcd_reader.proofs.Behind.{is_behind}
use Rattle.vcd_reader.proofs.words.word_behind.Goals as goal

pub returns-clause-some : goal.returns-clause-some
returns-clause-some c =
    let text = c.args.text.now in
    let at = c.args.at in
    let left = take (length text - at) (drop at text) in
    let gap = c.in_ok-front.front.gap in
    let len = c.in_ok-front.front.len in
    let all : left ≡ drop at text = take_all (length text - at) (drop at text) (omega (arith, length-drop at text)) in
    let n : gap + len - gap ≡ len = omega arith in
    is_behind text left at gap len _ c.requires.inside all c.in_ok-front.ensures.some (ap (λ z. take z (drop gap left)) n) refl
