-- A netlist with the ports of a block behind a bus, each edge of which is one of its machine's, is a netlist of that.
use Rattle.std.proofs.Common.{◌≡◌, ◌↔◌, ℕ, ◌<◌, List, [], ◌∷◌, ◌++◌, length, map, sym, ◌∙◌, subst, arith}
use Rattle.std.specs.Prelude.{Contains}
use Rattle.std.specs.List.{AllByRecursion, AllZip}
use Rattle.rb_base.specs.declared.ports.Pin.{Pin}
use Rattle.rb_base.specs.declared.ports.Port.{Port}
use Rattle.v_design.specs.Expr.{Values}
use Rattle.rtl_net.specs.Net.{Net, undriven}
use Rattle.rtl_net.specs.Made.{IsMade}
use Rattle.rtl_net.specs.Run.{inputs, outputs, registers}
use Rattle.rtl_net.specs.declared.node.Seat.{Seat}
use Rattle.rb_model.specs.Front.{Front, front_inputs, front_outputs, pins_at, register_pins}
use Rattle.rb_model.proofs.Apart.{Apart}
use Rattle.rb_model.proofs.InputPins.{inputs_apart}
use Rattle.gen_front.specs.Netlist.{IsNetlistOf}
use Rattle.gen_ports.specs.Laid.{AreSeatsOf}
use Rattle.gen_ports.proofs.Laying.{names_of, port_names}
use Rattle.gen_core.specs.Ties.{SeatsTaken}
use Rattle.gen_front.specs.Edges.{EdgesAre}
use Rattle.gen_front.proofs.Filling.{IsFilled, all_become, all_filled, all_taken, given_pins, ports_of, shown_pins}
use Rattle.gen_front.proofs.Names.{all_among, all_shown}
use Rattle.gen_front.proofs.Runs.{runs}

-- The netlist has the module's ports, all taken, the outputs of the bus last, and its registers, all driven.
pub record IsLaidOut (F : Front) (bus others : List Pin) (net : Net) : Type 0 where
  pub named : net.name ≡ F.name
  pub clocked : 0 < length F.ports
  pub apart : Apart (port_names F.ports)
  pub outputs_are : front_outputs F ≡ bus ++ others
  pub laid : List Seat
  pub are_laid : AreSeatsOf laid F.ports
  pub seats : SeatsTaken laid net.seats (others ++ bus)
  pub driven : undriven net.nodes ≡ 0
  pub kept_only : (p : Pin) → Contains (registers net) p ↔ Contains (register_pins F) p

some_seat : (ps : List Port) (ss : List Seat) → AllZip IsFilled ps ss → 0 < length ps → 0 < length ss
some_seat [] ss h l = absurd (omega (arith, l))
some_seat (p ∷ ps) [] h l = absurd h
some_seat (p ∷ ps) (s ∷ ss) h l = omega arith

module _ (F : Front) (bus others : List Pin) (net : Net) (made : IsMade net) (out : IsLaidOut F bus others net) where
  seats : AllZip IsFilled F.ports net.seats
  seats = all_filled (others ++ bus) F.ports out.laid net.seats (all_shown F.ports bus others out.outputs_are out.apart) out.are_laid
      (all_become out.laid net.seats (others ++ bus) (subst Apart (sym (names_of out.laid F.ports out.are_laid)) out.apart) (all_among F.ports bus others out.laid out.outputs_are out.are_laid) out.seats)

  inputs_are : inputs net ≡ front_inputs F
  inputs_are = given_pins F.ports net.seats seats

  outputs_are : outputs net ≡ front_outputs F
  outputs_are = shown_pins F.ports net.seats seats

  pub is_netlist : (MayBe : Values → Type 0) → EdgesAre F MayBe net → ((vectors : List (List ℕ)) → F.Keeps (map (pins_at F) vectors) → AllByRecursion (λ x. MayBe (pins_at F x)) vectors) → IsNetlistOf net F
  is_netlist MayBe edges may = record {
    made = made;
    whole = record {
      driven = out.driven;
      some = some_seat F.ports net.seats seats out.clocked;
      taken = all_taken F.ports net.seats seats;
    };
    named = out.named;
    ported = ports_of F.ports net.seats seats;
    kept_only = out.kept_only;
    runs = λ k contents vectors results within holds pins keeps run.
        runs F MayBe net made out.driven inputs_are outputs_are (inputs_apart F.ports out.apart) (λ p c. (out.kept_only p).0 c) edges k contents vectors results within holds pins (may vectors keeps) run;
  }
