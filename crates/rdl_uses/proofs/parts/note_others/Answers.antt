use Rattle.std.proofs.Common.{option_copied, option_to_list, flat_map, ◌++◌, ◌∷◌, []}
use Rattle.rdl_failures.proofs.Noting.{each_noted}
use Rattle.rdl_uses.specs.Parts.{fails_of}
use Rattle.rdl_uses.proofs.parts.note_others.Goals as goal

pub returns : goal.returns
returns c = λ around h.
    let i = c.args.inst.now in
    let f = fails_of around in
    let bits = flat_map (λ r. r.0 ∷ r.1 ∷ []) (option_to_list (option_copied i.range)) in
    let range = c.in_ok-range.ensures around h in
    let reset = c.in_ok-reset.ensures around h in
    let at = c.in_ok-at.ensures around h in
    let stride = c.in_ok-stride.ensures around h in
    let align = c.in_ok-align.ensures around h in
    let two = each_noted f bits (option_to_list (option_copied i.reset)) _ _ _ _ _ range reset in
    let three = each_noted f (bits ++ option_to_list (option_copied i.reset)) (option_to_list (option_copied i.at)) _ _ _ _ _ two at in
    let four = each_noted f (bits ++ option_to_list (option_copied i.reset) ++ option_to_list (option_copied i.at)) (option_to_list (option_copied i.stride)) _ _ _ _ _ three stride in
    each_noted f (bits ++ option_to_list (option_copied i.reset) ++ option_to_list (option_copied i.at) ++ option_to_list (option_copied i.stride)) (option_to_list (option_copied i.align)) _ _ _ _ _ four align
