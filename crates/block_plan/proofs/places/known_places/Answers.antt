use Rattle.std.proofs.Common.{◌≡◌, ◌∙◌, ◌+◌, ◌++◌, ◌∷◌, [], ap, sym, length, take, arith}
use Rattle.std.proofs.lemmas.List.{length-append}
use Rattle.std.proofs.lemmas.Map.Text.{btree_map_updates_str}
use Rattle.v_design.specs.Design.{inputs_among, port_pin}
use Rattle.block_plan.proofs.Knowing.{input_more, more_known}
use Rattle.block_plan.proofs.places.known_places.Goals as goal

pub loop-port-preserved : goal.loop-port-preserved
loop-port-preserved c =
    let ports = c.args.ports.now in
    let i = c.loop-port.port-index in
    let port = c.port-item.result in
    let old = inputs_among (take i ports) in
    let input = sym c.is_data_input.ensures ∙ c.if-not-is_data_input.false in
    let more : inputs_among (take (i + 1) ports) ≡ old ++ port_pin port ∷ [] = input_more ports i port port c.loop-port-test.true c.port-item.is input in
    record {
      known = rw more (more_known old (port_pin port) c.bytes_of.result.now c.loop-port.end c.loop-port.known c.insert.new.self c.bytes_of.ensures c.loop-port.invariant.end c.loop-port.invariant.known
          (btree_map_updates_str c.bytes_of.result.now c.loop-port.known c.insert.new.self _ c.in_ok-insert.ensures.updates));
      end = sym (ap length more ∙ omega (arith, length-append old (port_pin port ∷ []), c.loop-port.invariant.end));
      few = omega (arith, c.loop-port.invariant.few);
    }
