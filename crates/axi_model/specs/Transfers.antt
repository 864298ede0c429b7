-- What a master sees of an AXI4-Lite slave port: its transfers, and how they belong together (IHI 0022, A3.2 and A3.3).
use Rattle.std.specs.Prelude.{◌≡◌, ℕ, ◌+◌, ◌≤◌, ◌==◌, Bool, ◌&&◌, Some, List, [], ◌∷◌, ◌++◌, codes, length, map, filter, slice_get}
use Rattle.v_design.specs.Expr.{Values}
use Rattle.rb_model.specs.declared.block.Block.{Block}
use Rattle.rb_model.specs.Ports.{by_name}
use Rattle.rb_model.specs.Front.{front_outputs, pins_at}
use Rattle.axi_model.specs.Channels.{read_response, write_response}
use Rattle.axi_model.specs.Axi.{axi}

-- the pins at one vector, by name
pub record Moment : Type 0 where
  pub ins : Values
  pub outs : Values

abbrev pub moments : Block → (vectors outputs : List (List ℕ)) → List Moment
moments b [] os = []
moments b (x ∷ xs) [] = []
moments b (x ∷ xs) (o ∷ os) = record { ins = pins_at (axi b) x; outs = by_name (front_outputs (axi b)) o } ∷ moments b xs os

-- a channel's transfer is at the vector where its VALID and READY are 1 (A3.2.1)

abbrev pub has_address : Moment → Bool
has_address m = m.ins (codes "AWVALID") == 1 && m.outs (codes "AWREADY") == 1

abbrev pub has_data : Moment → Bool
has_data m = m.ins (codes "WVALID") == 1 && m.outs (codes "WREADY") == 1

abbrev pub has_response : Moment → Bool
has_response m = m.outs (codes "BVALID") == 1 && m.ins (codes "BREADY") == 1

abbrev pub has_read_address : Moment → Bool
has_read_address m = m.ins (codes "ARVALID") == 1 && m.outs (codes "ARREADY") == 1

abbrev pub has_read_data : Moment → Bool
has_read_data m = m.outs (codes "RVALID") == 1 && m.ins (codes "RREADY") == 1

-- what is transferred on a channel, in order

abbrev pub addresses : List Moment → List ℕ
addresses ms = map (λ m. m.ins (codes "AWADDR")) (filter has_address ms)

abbrev pub strobes : List Moment → List ℕ
strobes ms = map (λ m. m.ins (codes "WSTRB")) (filter has_data ms)

abbrev pub responses : List Moment → List ℕ
responses ms = map (λ m. m.outs (codes "BRESP")) (filter has_response ms)

abbrev pub read_addresses : List Moment → List ℕ
read_addresses ms = map (λ m. m.ins (codes "ARADDR")) (filter has_read_address ms)

abbrev pub read_responses : List Moment → List ℕ
read_responses ms = map (λ m. m.outs (codes "RRESP")) (filter has_read_data ms)

-- The transfers of a run belong together.
pub record AreTransfers (b : Block) (ms : List Moment) : Type 0 where
  -- by any vector no more writes are answered than addresses were taken, or data, and no more reads than addresses
  pub few : (past rest : List Moment) → ms ≡ past ++ rest
      → (length (responses past) ≤ length (addresses past)) × (length (responses past) ≤ length (strobes past)) × (length (read_responses past) ≤ length (read_addresses past))
  -- each answer is that of its number
  pub writes : (i a s r : ℕ) → slice_get (addresses ms) i ≡ Some a → slice_get (strobes ms) i ≡ Some s → slice_get (responses ms) i ≡ Some r → r ≡ write_response b a s
  pub reads : (i a r : ℕ) → slice_get (read_addresses ms) i ≡ Some a → slice_get (read_responses ms) i ≡ Some r → r ≡ read_response b a
  -- an answer that isn't taken stands at the next vector (A3.2.1)
  pub write_stands : (i : ℕ) (m n : Moment) → slice_get ms i ≡ Some m → slice_get ms (i + 1) ≡ Some n → m.outs (codes "BVALID") ≡ 1 → m.ins (codes "BREADY") ≡ 0
      → (n.outs (codes "BVALID") ≡ 1) × (n.outs (codes "BRESP") ≡ m.outs (codes "BRESP"))
  pub read_stands : (i : ℕ) (m n : Moment) → slice_get ms i ≡ Some m → slice_get ms (i + 1) ≡ Some n → m.outs (codes "RVALID") ≡ 1 → m.ins (codes "RREADY") ≡ 0
      → (n.outs (codes "RVALID") ≡ 1) × (n.outs (codes "RDATA") ≡ m.outs (codes "RDATA")) × (n.outs (codes "RRESP") ≡ m.outs (codes "RRESP"))
