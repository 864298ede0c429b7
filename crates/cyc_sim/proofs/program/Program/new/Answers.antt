use Rattle.std.proofs.Common.{◌≡◌, ℕ, ◌+◌, List, length, refl, ap, sym, map, subst, ◌∙◌, arith}
use Rattle.v_design.specs.Design.{inputs, outputs, registers}
use Rattle.rb_base.specs.declared.ports.Pin.{Pin}
use Rattle.v_design.specs.Seen.{module_seen, step_seen}
use Rattle.cyc_sim.specs.Order.{IsAcyclic}
use Rattle.cyc_sim.proofs.Standing.{acyclic, moves-known, outputs-known}
use Rattle.cyc_sim.specs.Preparing.{ArePlaced, ArePlacesOf, KnowsPins}
use Rattle.cyc_sim.proofs.Stages.{start_prepared}
use Rattle.cyc_sim.proofs.Programs.{places_length, places_below, program_edges, places_up_to, within_from}
use Rattle.cyc_sim.proofs.program.Program.new.Goals as goal

-- the first places are those of the pins and of the registers
first_is : (first a b : ℕ) (pins kept ins regs : List Pin) → first ≡ a + b → a ≡ length pins → b ≡ length kept → pins ≡ ins → kept ≡ regs → first ≡ length ins + length regs
first_is first a b pins kept ins regs is p q same same' = omega (arith, is, p, q, ap length same, ap length same')

pub place_registers-requires-clause-prepared : goal.place_registers-requires-clause-prepared
place_registers-requires-clause-prepared c =
    let m = module_seen c.args.design.now in
    start_prepared m c.in_ok-known.known c.new-listing.result c.requires (subst (λ ps. ArePlaced ps 0 c.in_ok-known.known) c.inputs-pins.ensures c.in_ok-known.ensures)
    (c.new-listing.ensures.first ∙ first_is c.in-Some.first _ _ c.inputs-pins.result.now c.registers-kept.result.now _ _ c.in-Some.ensures.1 refl refl c.inputs-pins.ensures c.registers-kept.ensures) c.new-listing.ensures.empty

pub invariant_of-result : goal.invariant_of-result
invariant_of-result c =
    let m = module_seen c.args.design.now in
    let outs = subst (λ ps. ArePlacesOf c.place_nets.new.known ps c.in_ok-outputs.outputs.items) c.outputs.ensures c.in_ok-outputs.ensures in
    let nexts = subst (λ ps. ArePlacesOf c.in_ok-moves.moves ps c.in_ok-registers.registers.items) c.registers-kept.ensures c.in_ok-registers.ensures in
    let l = c.place_moves.new.listing in
    let regs : length c.in_ok-registers.registers.items ≡ length (registers m) = places_length c.in_ok-moves.moves (registers m) _ nexts in
    let ins : length c.inputs-pins.result.now ≡ length (inputs m) = ap length c.inputs-pins.ensures in
    let first : length c.inputs-pins.result.now + length c.in_ok-registers.registers.items ≡ l.first = omega (arith, regs, ins, c.in_ok-moves.ensures.prepared.first) in
    let began = first_is c.in-Some.first _ _ c.inputs-pins.result.now c.registers-kept.result.now _ _ c.in-Some.ensures.1 refl refl c.inputs-pins.ensures c.registers-kept.ensures in
    let total : c.in-Some-checked_add.total ≡ l.first + length l.operations.items
    = omega (arith, c.in-Some-checked_add.ensures.1, began, c.in_ok-moves.ensures.prepared.first, c.len.ensures, l.operations.ok.0) in
    record {
      sized = omega (arith, total, first);
      within = within_from l.first _ l.operations.items first l.within;
      outputs_within = places_up_to (l.first + length l.operations.items) _ c.in_ok-outputs.outputs.items total (places_below c.place_nets.new.known _ (outputs m) c.in_ok-outputs.outputs.items c.in_ok-moves.ensures.prepared.below outs);
      registers_within = places_up_to (l.first + length l.operations.items) _ c.in_ok-registers.registers.items total (places_below c.in_ok-moves.moves _ (registers m) c.in_ok-registers.registers.items c.in_ok-moves.ensures.moves.below nexts);
    }

pub returns : goal.returns
returns c =
    let m = module_seen c.args.design.now in
    let outs = subst (λ ps. ArePlacesOf c.place_nets.new.known ps c.in_ok-outputs.outputs.items) c.outputs.ensures c.in_ok-outputs.ensures in
    let nexts = subst (λ ps. ArePlacesOf c.in_ok-moves.moves ps c.in_ok-registers.registers.items) c.registers-kept.ensures c.in_ok-registers.ensures in
    record {
      takes = ap length c.inputs-pins.ensures;
      gives = places_length c.place_nets.new.known (outputs m) _ outs;
      keeps = places_length c.in_ok-moves.moves (registers m) _ nexts;
      edges = program_edges m c.requires _ c.in_ok-moves.moves c.place_moves.new.listing _ _ c.in_ok-moves.ensures.prepared c.in_ok-moves.ensures.moves outs nexts;
    }

pub settling_order-requires : goal.settling_order-requires
settling_order-requires c = subst (λ ss. IsAcyclic (map step_seen ss)) (sym c.deref.ensures.value) (acyclic (module_seen c.args.design.now) c.requires)

pub places_in-requires : goal.places_in-requires
places_in-requires c = subst (KnowsPins c.place_nets.new.known) (sym c.outputs.ensures) (outputs-known (module_seen c.args.design.now) c.requires c.place_nets.new.known c.in_ok-place_nets.ensures.nets)

pub places_in-requires-2 : goal.places_in-requires-2
places_in-requires-2 c = subst (KnowsPins c.in_ok-moves.moves) (sym c.registers-kept.ensures) (moves-known (module_seen c.args.design.now) c.requires c.in_ok-moves.moves c.in_ok-moves.ensures.registers)
