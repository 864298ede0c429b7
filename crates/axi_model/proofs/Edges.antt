-- One edge of an AXI4-Lite slave port without reset: what a master sees of it, and what is pending after it.
use Rattle.std.proofs.Common.{◌≡◌, ℕ, ◌==◌, Bool, true, false, not, ◌&&◌, if◌then◌else◌, List, ◌∷◌, ◌++◌, codes, refl, ap, sym, ◌∙◌, subst}
use Rattle.v_design.specs.Expr.{bit_of}
use Rattle.rb_model.specs.declared.block.Block.{Block}
use Rattle.rb_model.specs.Machine.{outputs, read_data}
use Rattle.rb_model.specs.Ports.{by_name}
use Rattle.rb_model.specs.Front.{FrontEdge, front_outputs, pins_at}
use Rattle.axi_model.specs.Channels.{Channels, Pins, can_read, channel_pins, channels_shown, idle, moved, read_response, reads, takes_address, takes_data, write_response, writes}
use Rattle.axi_model.specs.Axi.{AxiKept, axi, found}
use Rattle.axi_model.specs.Transfers.{Moment, addresses, has_address, has_data, has_read_address, has_read_data, has_response, read_addresses, strobes}
use Rattle.axi_model.proofs.Pending.{one, pending, pending_reads, read_step, taken_first, write_step}

-- Bits

abbrev pub IsBit : ℕ → Type 0
IsBit n = (n == 0) ≡ not (n == 1)

pub record AreBits (c : Channels) : Type 0 where
  pub aw : IsBit c.aw
  pub w : IsBit c.w
  pub b : IsBit c.b
  pub r : IsBit c.r

pub one_is : (t : Bool) → (bit_of t == 1) ≡ t
one_is true = refl
one_is false = refl

cleared_one : (u t : Bool) (n : ℕ) → ((if u then 0 else (if t then 1 else n)) == 1) ≡ (if u then false else (if t then true else (n == 1)))
cleared_one true t n = refl
cleared_one false true n = refl
cleared_one false false n = refl

cleared_bit : (u t : Bool) (n : ℕ) → IsBit n → IsBit (if u then 0 else (if t then 1 else n))
cleared_bit true t n h = refl
cleared_bit false true n h = refl
cleared_bit false false n h = h

raised_one : (u t : Bool) (n : ℕ) → ((if u then 1 else (if t then 0 else n)) == 1) ≡ (if u then true else (if t then false else (n == 1)))
raised_one true t n = refl
raised_one false true n = refl
raised_one false false n = refl

raised_bit : (u t : Bool) (n : ℕ) → IsBit n → IsBit (if u then 1 else (if t then 0 else n))
raised_bit true t n h = refl
raised_bit false true n h = refl
raised_bit false false n h = h

pub idle_bits : AreBits idle
idle_bits = record { aw = refl; w = refl; b = refl; r = refl }

pub moved_bits : (b : Block) (p : Pins) (c : Channels) (answer : ℕ) → AreBits c → AreBits (moved b p c answer)
moved_bits b p c answer h = record {
  aw = cleared_bit (writes p c) (takes_address p c) c.aw h.aw;
  w = cleared_bit (writes p c) (takes_data p c) c.w h.w;
  b = raised_bit (writes p c) (c.b == 1 && p.bready == 1) c.b h.b;
  r = raised_bit (reads p c) (c.r == 1 && p.rready == 1) c.r h.r;
}

-- What is pending

abbrev pub still : Block → Channels → (us ss : List ℕ) → List ℕ
still b c us ss = pending (write_response b) (c.b == 1) (c.aw == 1) (c.w == 1) c.bresp c.awaddr c.wstrb us ss

abbrev pub still_read : Block → Channels → (us : List ℕ) → List ℕ
still_read b c us = pending_reads (read_response b) (c.r == 1) c.rresp us

-- the tests of a step, in any form that is equal
write_by : (f : ℕ → ℕ → ℕ) (b aw w : ℕ) (vb va vd : Bool) (r a s x y : ℕ) (us ss : List ℕ) (writing ta td ha hd hb : Bool)
    → writing ≡ ((aw == 1) && (w == 1) && not (b == 1)) → ta ≡ (va && not (aw == 1)) → td ≡ (vd && not (w == 1)) → ha ≡ (va && not (aw == 1)) → hd ≡ (vd && not (w == 1)) → hb ≡ ((b == 1) && vb)
    → pending f (b == 1) (aw == 1) (w == 1) r a s (one ha x ++ us) (one hd y ++ ss)
    ≡ one hb r ++ pending f
    ((if writing then 1 else (if (b == 1) && vb then 0 else b)) == 1)
    ((if writing then 0 else (if ta then 1 else aw)) == 1)
    ((if writing then 0 else (if td then 1 else w)) == 1)
    (if writing then f a s else r) (if ta then x else a) (if td then y else s) us ss
write_by f b aw w vb va vd r a s x y us ss writing ta td ha hd hb e1 e2 e3 e4 e5 e6 =
    rw (e4, e5, e6, raised_one writing ((b == 1) && vb) b, cleared_one writing ta aw, cleared_one writing td w, e1, e2, e3)
    (write_step f (b == 1) (aw == 1) (w == 1) vb va vd r a s x y us ss)

read_by : (g : ℕ → ℕ) (r : ℕ) (vr va busy : Bool) (answer x : ℕ) (us : List ℕ) (reading ha hb : Bool)
    → reading ≡ (va && (not (r == 1) && not busy)) → ha ≡ (va && (not (r == 1) && not busy)) → hb ≡ ((r == 1) && vr)
    → pending_reads g (r == 1) answer (one ha x ++ us)
    ≡ one hb answer ++ pending_reads g ((if reading then 1 else (if (r == 1) && vr then 0 else r)) == 1) (if reading then g x else answer) us
read_by g r vr va busy answer x us reading ha hb e1 e2 e3 =
    rw (e2, e3, raised_one reading ((r == 1) && vr) r, e1) (read_step g (r == 1) vr va busy answer x us)

-- One edge

module _ (b : Block) (k : AxiKept) (x o : List ℕ) (after : AxiKept) (edge : FrontEdge (axi b) k x o after) (on : pins_at (axi b) x (codes "PRESETn") ≡ 1) where
  abbrev p : Pins
  p = channel_pins (pins_at (axi b) x)

  abbrev c : Channels
  c = k.channels

  abbrev pub here : Moment
  here = record { ins = pins_at (axi b) x; outs = by_name (front_outputs (axi b)) o }

  abbrev answer : ℕ
  answer = read_data b edge.items (found b (pins_at (axi b) x) k).access

  outs_are : o ≡ channels_shown p c ++ outputs b edge.items
  outs_are = edge.seen ∙ ap (λ (n : ℕ). channels_shown p (if n == 0 then idle else c) ++ outputs b edge.items) on

  pub channels_are : after.channels ≡ moved b p c answer
  channels_are = ap (λ (m : AxiKept). m.channels) edge.moved ∙ ap (λ (n : ℕ). if n == 0 then idle else moved b p (if n == 0 then idle else c) answer) on

  pub bvalid : here.outs (codes "BVALID") ≡ c.b
  bvalid = ap (λ ns. by_name (front_outputs (axi b)) ns (codes "BVALID")) outs_are

  pub bresp : here.outs (codes "BRESP") ≡ c.bresp
  bresp = ap (λ ns. by_name (front_outputs (axi b)) ns (codes "BRESP")) outs_are

  pub rvalid : here.outs (codes "RVALID") ≡ c.r
  rvalid = ap (λ ns. by_name (front_outputs (axi b)) ns (codes "RVALID")) outs_are

  pub rdata : here.outs (codes "RDATA") ≡ c.rdata
  rdata = ap (λ ns. by_name (front_outputs (axi b)) ns (codes "RDATA")) outs_are

  pub rresp : here.outs (codes "RRESP") ≡ c.rresp
  rresp = ap (λ ns. by_name (front_outputs (axi b)) ns (codes "RRESP")) outs_are

  awready : here.outs (codes "AWREADY") ≡ bit_of (c.aw == 0)
  awready = ap (λ ns. by_name (front_outputs (axi b)) ns (codes "AWREADY")) outs_are

  wready : here.outs (codes "WREADY") ≡ bit_of (c.w == 0)
  wready = ap (λ ns. by_name (front_outputs (axi b)) ns (codes "WREADY")) outs_are

  arready : here.outs (codes "ARREADY") ≡ bit_of (can_read p c)
  arready = ap (λ ns. by_name (front_outputs (axi b)) ns (codes "ARREADY")) outs_are

  module _ (bits : AreBits c) where
    writing_is : writes p c ≡ ((c.aw == 1) && (c.w == 1) && not (c.b == 1))
    writing_is = ap (λ (n : ℕ). n == 1 && c.aw == 1 && c.w == 1 && c.b == 0) on ∙ ap (λ t. (c.aw == 1) && (c.w == 1) && t) bits.b

    can_read_is : can_read p c ≡ (not (c.r == 1) && not (writes p c))
    can_read_is = ap (λ t. t && not (writes p c)) bits.r

    reading_is : reads p c ≡ ((p.arvalid == 1) && (not (c.r == 1) && not (writes p c)))
    reading_is = ap (λ (n : ℕ). n == 1 && p.arvalid == 1 && can_read p c) on ∙ ap (λ t. (p.arvalid == 1) && t) can_read_is

    write_moves : (ms : List Moment) → still b c (addresses (here ∷ ms)) (strobes (here ∷ ms)) ≡ one (has_response here) c.bresp ++ still b (moved b p c answer) (addresses ms) (strobes ms)
    write_moves ms =
        rw (taken_first has_address (λ m. m.ins (codes "AWADDR")) here ms, taken_first has_data (λ m. m.ins (codes "WSTRB")) here ms)
        (write_by (write_response b) c.b c.aw c.w (p.bready == 1) (p.awvalid == 1) (p.wvalid == 1) c.bresp c.awaddr c.wstrb p.awaddr p.wstrb (addresses ms) (strobes ms)
        (writes p c) (takes_address p c) (takes_data p c) (has_address here) (has_data here) (has_response here)
        writing_is (ap (λ t. (p.awvalid == 1) && t) bits.aw) (ap (λ t. (p.wvalid == 1) && t) bits.w)
        (ap (λ n. (p.awvalid == 1) && (n == 1)) awready ∙ ap (λ t. (p.awvalid == 1) && t) (one_is (c.aw == 0) ∙ bits.aw))
        (ap (λ n. (p.wvalid == 1) && (n == 1)) wready ∙ ap (λ t. (p.wvalid == 1) && t) (one_is (c.w == 0) ∙ bits.w))
        (ap (λ n. (n == 1) && (p.bready == 1)) bvalid))

    read_moves : (ms : List Moment) → still_read b c (read_addresses (here ∷ ms)) ≡ one (has_read_data here) c.rresp ++ still_read b (moved b p c answer) (read_addresses ms)
    read_moves ms =
        rw (taken_first has_read_address (λ m. m.ins (codes "ARADDR")) here ms)
        (read_by (read_response b) c.r (p.rready == 1) (p.arvalid == 1) (writes p c) c.rresp p.araddr (read_addresses ms)
        (reads p c) (has_read_address here) (has_read_data here)
        reading_is
        (ap (λ n. (p.arvalid == 1) && (n == 1)) arready ∙ ap (λ t. (p.arvalid == 1) && t) (one_is (can_read p c) ∙ can_read_is))
        (ap (λ n. (n == 1) && (p.rready == 1)) rvalid))

    pub bits_after : AreBits after.channels
    bits_after = subst AreBits (sym channels_are) (moved_bits b p c answer bits)

    pub writes_go : (ms : List Moment) → still b c (addresses (here ∷ ms)) (strobes (here ∷ ms)) ≡ one (has_response here) (here.outs (codes "BRESP")) ++ still b after.channels (addresses ms) (strobes ms)
    writes_go ms = write_moves ms ∙ ap (λ n. one (has_response here) n ++ still b (moved b p c answer) (addresses ms) (strobes ms)) (sym bresp)
        ∙ ap (λ (d : Channels). one (has_response here) (here.outs (codes "BRESP")) ++ still b d (addresses ms) (strobes ms)) (sym channels_are)

    pub reads_go : (ms : List Moment) → still_read b c (read_addresses (here ∷ ms)) ≡ one (has_read_data here) (here.outs (codes "RRESP")) ++ still_read b after.channels (read_addresses ms)
    reads_go ms = read_moves ms ∙ ap (λ n. one (has_read_data here) n ++ still_read b (moved b p c answer) (read_addresses ms)) (sym rresp)
        ∙ ap (λ (d : Channels). one (has_read_data here) (here.outs (codes "RRESP")) ++ still_read b d (read_addresses ms)) (sym channels_are)
