-- The register machine behind its bus, at a clock edge and over whole lists of vectors.
use Rattle.std.specs.Prelude.{ℕ, ◌==◌, Bool, not, ◌&&◌, if◌then◌else◌, Option, is_none, List, ◌∷◌, map, position}
use Rattle.std.specs.Option.{option_map_or}
use Rattle.v_design.specs.Expr.{Values, bit_of}
use Rattle.rb_model.specs.declared.block.Block.{Block}
use Rattle.rb_model.specs.declared.block.Word.{Word}
use Rattle.rb_model.specs.Kept.{Val, Last, Done, Waited, Data, Error, Map, has_wait, kept, only_kept, register_name, register_width}
use Rattle.rb_model.specs.Ports.{ports, module_name}
use Rattle.rb_model.specs.Protocol.{Bus, bus_of, KeepsProtocol}
use Rattle.rb_model.specs.Items.{Access, NoAccess, Read, Write, Now, ItemValues}
use Rattle.rb_model.specs.Front.{Front, FrontEdge, FrontRun, pins_at}
use Rattle.rb_model.specs.Machine.{held, next, outputs, read_data}

-- the vector of an access
abbrev pub is_access : Bus → Bool
is_access p = p.resetn == 1 && p.select == 1 && p.enable == 1

-- the vector that carries the access: its only one, or with a wait state the first of two
abbrev pub carries : Block → Bus → Map → Bool
carries b p m = is_access p && not (has_wait b && m Waited == 1)

-- the second
abbrev pub closes : Block → Bus → Map → Bool
closes b p m = has_wait b && is_access p && m Waited == 1

abbrev pub word_at : List Word → ℕ → Option ℕ
word_at ws address = position (λ w. address == w.address) ws

-- the access of a vector that carries one
abbrev pub carried : Block → Bus → Access
carried b p = if p.write == 0 then option_map_or Read (word_at b.reads p.address) NoAccess else option_map_or (λ i. Write i p.data_in) (word_at b.writes p.address) NoAccess

-- the address is no word's, of which reads and writes have the same
abbrev pub is_unmapped : Block → Bus → Bool
is_unmapped b p = is_none (word_at b.reads p.address)

-- under PRESETn the bus forgets its access
abbrev pub bus_held : Block → Bus → Map → Map
bus_held b p m (Val k) = m (Val k)
bus_held b p m (Last k) = m (Last k)
bus_held b p m (Done k) = m (Done k)
bus_held b p m Waited = if p.resetn == 0 then 0 else m Waited
bus_held b p m Data = if p.resetn == 0 then 0 else m Data
bus_held b p m Error = if p.resetn == 0 then 0 else m Error

-- what the edge of the vector with these pins finds
abbrev pub now : Block → Values → Map → Now
now b p m =
    let bus = bus_of p in
    let kept = bus_held b bus (held b p m) in
    record { access = if carries b bus kept then carried b bus else NoAccess; pins = p; kept = kept }

abbrev pub ready : Block → Now → ℕ
ready b n = if has_wait b then bit_of (closes b (bus_of n.pins) n.kept) else 1

-- what the access of the vector is answered
abbrev pub answer : Block → Now → ItemValues → ℕ
answer b n v = read_data b v n.access

abbrev pub error : Block → Now → ℕ
error b n = bit_of (carries b (bus_of n.pins) n.kept && is_unmapped b (bus_of n.pins))

-- with a wait state the answer is shown in the vector that closes
abbrev pub data_shown : Block → Now → ItemValues → ℕ
data_shown b n v = if has_wait b then (if closes b (bus_of n.pins) n.kept then n.kept Data else 0) else answer b n v

abbrev pub error_shown : Block → Now → ℕ
error_shown b n = if has_wait b then (if closes b (bus_of n.pins) n.kept then n.kept Error else 0) else error b n

-- all outputs, in port order: PREADY, PRDATA, PSLVERR and the others
abbrev pub all_outputs : Block → Now → ItemValues → List ℕ
all_outputs b n v = ready b n ∷ data_shown b n v ∷ error_shown b n ∷ outputs b v

-- what is kept after the edge
abbrev pub kept_next : Block → Now → ItemValues → Map
kept_next b n v (Val k) = next b n v (Val k)
kept_next b n v (Last k) = next b n v (Last k)
kept_next b n v (Done k) = next b n v (Done k)
kept_next b n v Waited = bit_of (carries b (bus_of n.pins) n.kept)
kept_next b n v Data = answer b n v
kept_next b n v Error = error b n

-- Behind an APB slave port (IHI 0024B), with no or one wait state as the block says.
abbrev pub apb : Block → Front
apb b = record {
  Kept = Map;
  block = b;
  name = module_name b;
  ports = ports b;
  registers = map (λ k. record { name = register_name b k; width = register_width b k; value = λ m. m k }) (kept b);
  found = now b;
  shown = λ p m v. all_outputs b (now b p m) v;
  next = λ p m v. only_kept b (kept_next b (now b p m) v);
  Keeps = λ ps. KeepsProtocol b.waits (map bus_of ps);
}

-- the input pins of a vector, by name
abbrev pub pins_of : Block → List ℕ → Values
pins_of b x = pins_at (apb b) x

-- the bus at each vector
abbrev pub buses : Block → List (List ℕ) → List Bus
buses b vectors = map bus_of (map (pins_of b) vectors)

-- At one edge, from the kept values m and for the vector x, the outputs are these, and so is what is kept after it.
abbrev pub ClockEdge : Block → Map → (x outs : List ℕ) → Map → Type 0
ClockEdge b m x outs after = FrontEdge (apb b) m x outs after

-- from these kept values and for these vectors, the outputs are these
abbrev pub MachineRun : Block → Map → List (List ℕ) → List (List ℕ) → Type 0
MachineRun b m vectors outputs = FrontRun (apb b) m vectors outputs
