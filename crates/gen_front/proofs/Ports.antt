-- What is known of a netlist once its ports are laid, and once a block's core stands in it.
use Rattle.std.proofs.Common.{◌≡◌, ℕ, zero, suc, ◌<◌, false, List, [], ◌∷◌, length, map, get_or, sym, subst, arith}
use Rattle.std.specs.Prelude.{Contains}
use Rattle.std.specs.Str.{bytes_eq}
use Rattle.rb_base.specs.declared.ports.Pin.{Pin}
use Rattle.rb_base.specs.declared.ports.Port.{Port}
use Rattle.v_design.specs.Design.{inputs_among, outputs_among}
use Rattle.rtl_net.specs.Names.{Lacks}
use Rattle.rtl_net.specs.Net.{Net, Extends}
use Rattle.rtl_net.specs.Ports.{IsFree, IsNew, seat_names, seated}
use Rattle.rtl_net.specs.declared.node.Id.{Id}
use Rattle.rtl_net.specs.declared.node.Seat.{Seat}
use Rattle.rtl_net.specs.declared.node.Occupant.TheVariants.{Output}
use Rattle.rtl_net.proofs.Nets.{Stands-extends}
use Rattle.rtl_net.proofs.Others.{Lacks-seated}
use Rattle.rb_model.specs.declared.block.Block.{Block}
use Rattle.rb_model.specs.Ports.{Outlet, outlets}
use Rattle.rb_model.specs.References.{Each}
use Rattle.gen_scene.specs.declared.base.Inlet.{Inlet}
use Rattle.gen_core.specs.Core.{IsCore}
use Rattle.gen_core.specs.Ties.{SeatsTaken, outlet_pin}
use Rattle.gen_ports.specs.Laid.{AreInputs, AreSeatsOf}

pub record HasPorts (net : Net) (ids : List Id) (ps : List Port) : Type 0 where
  pub seats : AreSeatsOf net.seats ps
  pub inputs : AreInputs net ids (inputs_among ps)
  pub outputs : Each (λ p. IsFree net p.name p.width) (outputs_among ps)
  pub others : (name : List ℕ) → Lacks (map (λ p. p.name) ps) name → IsNew net name

pub ports_laid : (net : Net) (ids : List Id) (ps qs : List Port) → ps ≡ qs → HasPorts net ids ps → HasPorts net ids qs
ports_laid net ids ps qs e h = subst (HasPorts net ids) e h

-- what holds of each outlet's pin holds of one
pub outlet_at : (b : Block) (P : Pin → Type 0) (o : Outlet) → Each P (map outlet_pin (outlets b)) → Contains (outlets b) o → P (outlet_pin o)
outlet_at b P o all c = by (outlets b) c.0 all c.1 c.2
  where
    by : (os : List Outlet) (k : ℕ) → Each P (map outlet_pin os) → k < length os → get_or os k o ≡ o → P (outlet_pin o)
    by [] k all l e = absurd (omega (arith, l))
    by (q ∷ os) zero all l e = subst (λ r. P (outlet_pin r)) e all.0
    by (q ∷ os) (suc k) all l e = by os k all.1 (omega (arith, l)) e

pub core-extends : (b : Block) (a : Inlet) (old new : Net) (answer : Id) → Extends old new → IsCore b a old answer → IsCore b a new answer
core-extends b a old new answer x h = record {
  shown = λ v s. h.shown v (x.settles v s);
  answered = record { stands = Stands-extends old new answer 32 x h.answered.stands; value = λ v s. h.answered.value v (x.settles v s) };
  moved = λ v s. h.moved v (x.settles v s);
}

-- a name that no port has is none of a port's where outputs of other names have taken their seats
pub taken_lacks : (name : List ℕ) (old new : List Seat) (ps : List Pin) → Each (λ p. bytes_eq name p.name ≡ false) ps → SeatsTaken old new ps → Lacks (seat_names old) name → Lacks (seat_names new) name
taken_lacks name old new [] others h l = subst (λ ss. Lacks (seat_names ss) name) (sym h) l
taken_lacks name old new (p ∷ ps) others h l = taken_lacks name (seated old p.name p.width (Output h.0)) new ps others.1 h.1 (Lacks-seated p.name p.width (Output h.0) name others.0 old l)
