use Rattle.std.proofs.Common.{◌∷◌, [], ◌++◌, List, drop, ap, ◌∙◌}
use Rattle.std.proofs.lemmas.List.{take_rest}
use Rattle.rtl_net.specs.Ids.{at}
use Rattle.rtl_net.specs.declared.node.Id.{Id}
use Rattle.axi_lite.proofs.Placing.{core_pins_are}
use Rattle.axi_lite.proofs.places.core_pins.Goals as goal

pub returns : goal.returns
returns c = λ net h.
    let ids = c.args.ids.now in
    let r = at ids 0 in
    let first : List Id = r ∷ r ∷ r ∷ r ∷ r ∷ r ∷ [] in
    core_pins_are c.args.block.now c.requires.sound net ids c.extend_from_slice-2.new.self.items
    (c.in_ok-extend_from_slice-2.ensures.items ∙ ap (λ xs. c.extend_from_slice.new.self.items ++ xs) (take_rest ids 12)
    ∙ ap (λ xs. xs ++ drop 12 ids) (c.in_ok-extend_from_slice.ensures.items ∙ ap (λ xs. xs ++ first) c.new-pins.ensures.items)) h
