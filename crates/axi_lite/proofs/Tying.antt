-- The port's registers driven, and its outputs shown.
use Rattle.std.proofs.Common.{◌≡◌, ℕ, zero, suc, ◌==◌, Bool, true, false, if◌then◌else◌, Some, List, [], ◌∷◌, codes, length, map, slice_get, refl, sym, ap, ◌∙◌, subst, arith}
use Rattle.std.specs.List.{AllZip}
use Rattle.std.proofs.lemmas.Option.{same_Some}
use Rattle.plain_lemmas.proofs.Lists.{get-map_at}
use Rattle.rb_base.specs.declared.ports.Pin.{Pin}
use Rattle.rtl_net.specs.Value.{At, under}
use Rattle.rtl_net.specs.Net.{Net, Extends, Grows, IsNode, Keeps, Settles, Stands}
use Rattle.rtl_net.specs.Ids.{at}
use Rattle.rtl_net.specs.Ports.{seated}
use Rattle.rtl_net.specs.declared.node.Id.{Id}
use Rattle.rtl_net.specs.declared.node.Seat.{Seat}
use Rattle.rtl_net.specs.declared.node.Occupant.TheVariants.{Output}
use Rattle.rtl_net.proofs.Nets.{IsNode-extends}
use Rattle.rtl_net.proofs.Others.{IsFree-same}
use Rattle.rb_model.specs.declared.block.Block.{Block}
use Rattle.rb_model.specs.Ports.{pin}
use Rattle.rb_model.proofs.Apart.{Apart, Apart-from, Apart-place}
use Rattle.rb_model.proofs.FieldNames.{pin_names}
use Rattle.axi_model.specs.Channels.{Channels, idle, moved, next_channels}
use Rattle.gen_core.specs.Ties.{SeatsTaken}
use Rattle.gen_ports.specs.Registers.{AreCleared, HaveNames, HaveWidths, IsResetn, TakeNexts, by_resetn, cleared}
use Rattle.gen_ports.specs.Shows.{CanShow, ShowNodes, shown_seats}
use Rattle.gen_channels.specs.declared.kept.ChannelNodes.{ChannelNodes}
use Rattle.gen_channels.specs.declared.slave.Readies.{Readies}
use Rattle.gen_channels.specs.declared.slave.Slave.{Slave}
use Rattle.gen_channels.specs.Nodes.{contents_of, kept_seen, pins_seen}
use Rattle.gen_channels.specs.Slaves.{AreNexts, AreReadies, IsSlave, moved_seen}
use Rattle.axi_lite.specs.Built.{KeepsData, KeepsRest, ShowsChannels, without_data}
use Rattle.axi_lite.specs.Tables.{own_outputs, own_registers}

-- Pins and nodes side by side

zip_each : (P : Pin → Id → Type 0) (ps : List Pin) (ids : List Id) → AllZip P ps ids → (k : ℕ) (p : Pin) → slice_get ps k ≡ Some p → P p (at ids k)
zip_each P [] ids h k p e = cc
zip_each P (q ∷ ps) [] h k p e = absurd h
zip_each P (q ∷ ps) (i ∷ ids) h zero p e = subst (λ r. P r i) (same_Some q p e) h.0
zip_each P (q ∷ ps) (i ∷ ids) h (suc k) p e = zip_each P ps ids h.1 k p e

pub have_names : (ps : List Pin) → Apart (pin_names ps) → HaveNames ps
have_names ps a i j r s e f same = Apart-place (pin_names ps) i j s.name a (get-map_at (λ (p : Pin). p.name) ps i r e ∙ ap Some same) (get-map_at (λ (p : Pin). p.name) ps j s f)

pub own_named : HaveNames own_registers
own_named = have_names own_registers (Apart-from (pin_names own_registers) refl)

-- What is known in a netlist that has more

pub resetn-extends : (old new : Net) (id : Id) → Extends old new → IsResetn old id → IsResetn new id
resetn-extends old new id x h = record { input = x.inputs id (codes "PRESETn") 1 h.input; node = IsNode-extends old new id 1 (λ v. v.ins (codes "PRESETn")) x h.node }

pub cleared-keeps : (old new : Net) (resetn : Id) (ps : List Pin) (ids : List Id) → Extends old new → Keeps old new → AreCleared old resetn ps ids → AreCleared new resetn ps ids
cleared-keeps old new resetn ps ids x k h = record {
  long = h.long;
  awaits = λ j p e. k.awaits (at ids j) p.name p.width (by_resetn resetn) (h.awaits j p e);
  nodes = λ j p e. IsNode-extends old new (at ids j) p.width (cleared p.name) x (h.nodes j p e);
}

pub can_show-grows : (old new : Net) → Grows old new → CanShow old own_outputs → CanShow new own_outputs
can_show-grows old new g h = record {
  each = λ k p e. let f = h.each k p e in (f.0, IsFree-same old new g.seats (ap (map (λ (r : Pin). r.name)) g.registers) p.name p.width f.1);
  apart = h.apart;
}

-- Registers

abbrev pub in_order : ChannelNodes → List Id
in_order n = n.aw ∷ n.awaddr ∷ n.w ∷ n.wdata ∷ n.wstrb ∷ n.b ∷ n.bresp ∷ n.r ∷ n.rresp ∷ []

pub nexts_wide : (b : Block) (net : Net) (n : ChannelNodes) (nexts : List Id) → nexts ≡ in_order n → AreNexts b net n → HaveWidths net own_registers nexts
nexts_wide b net n nexts is h = subst (HaveWidths net own_registers) (sym is) (record {
  long = refl;
  each = zip_each (λ p i. Stands net i p.width) own_registers (n.aw ∷ n.awaddr ∷ n.w ∷ n.wdata ∷ n.wstrb ∷ n.b ∷ n.bresp ∷ n.r ∷ n.rresp ∷ [])
      (h.aw.stands, (h.awaddr.stands, (h.w.stands, (h.wdata.stands, (h.wstrb.stands, (h.b.stands, (h.bresp.stands, (h.r.stands, (h.rresp.stands, tt)))))))));
})

reset_or : (t : Bool) (m : Channels) → (let c : Channels = record {
  aw = if t then 0 else m.aw;
  awaddr = if t then 0 else m.awaddr;
  w = if t then 0 else m.w;
  wdata = if t then 0 else m.wdata;
  wstrb = if t then 0 else m.wstrb;
  b = if t then 0 else m.b;
  bresp = if t then 0 else m.bresp;
  r = if t then 0 else m.r;
  rdata = 0;
  rresp = if t then 0 else m.rresp;
} in c) ≡ without_data (if t then idle else m)
reset_or true m = refl
reset_or false m = refl

pub keeps_from : (b : Block) (old new : Net) (n : ChannelNodes) (nexts : List Id) → nexts ≡ in_order n → Extends old new → AreNexts b old n → TakeNexts new own_registers nexts → KeepsRest b new
keeps_from b old new n nexts is x h all = record {
  kept = λ v s.
      let taken = subst (TakeNexts new own_registers) is all in
      let before = x.settles v s in
      let m = moved_seen b v in
      let t = v.ins (codes "PRESETn") == 0 in
      let pair : (name : List ℕ) (id : Id) (value : ℕ) → v.after name ≡ (if t then 0 else v.node id.0) → v.node id.0 ≡ value → v.after name ≡ (if t then 0 else value) = λ name id value e f. e ∙ ap (λ y. if t then 0 else y) f in
      let aw = pair (codes "axi$aw") n.aw m.aw (taken.each 0 (pin (codes "axi$aw") 1) refl v s) (h.aw.value v before) in
      let awaddr = pair (codes "axi$awaddr") n.awaddr m.awaddr (taken.each 1 (pin (codes "axi$awaddr") 32) refl v s) (h.awaddr.value v before) in
      let w = pair (codes "axi$w") n.w m.w (taken.each 2 (pin (codes "axi$w") 1) refl v s) (h.w.value v before) in
      let wdata = pair (codes "axi$wdata") n.wdata m.wdata (taken.each 3 (pin (codes "axi$wdata") 32) refl v s) (h.wdata.value v before) in
      let wstrb = pair (codes "axi$wstrb") n.wstrb m.wstrb (taken.each 4 (pin (codes "axi$wstrb") 4) refl v s) (h.wstrb.value v before) in
      let bvalid = pair (codes "axi$b") n.b m.b (taken.each 5 (pin (codes "axi$b") 1) refl v s) (h.b.value v before) in
      let bresp = pair (codes "axi$bresp") n.bresp m.bresp (taken.each 6 (pin (codes "axi$bresp") 2) refl v s) (h.bresp.value v before) in
      let r = pair (codes "axi$r") n.r m.r (taken.each 7 (pin (codes "axi$r") 1) refl v s) (h.r.value v before) in
      let rresp = pair (codes "axi$rresp") n.rresp m.rresp (taken.each 8 (pin (codes "axi$rresp") 2) refl v s) (h.rresp.value v before) in
      (λ i. record { aw = aw i; awaddr = awaddr i; w = w i; wdata = wdata i; wstrb = wstrb i; b = bvalid i; bresp = bresp i; r = r i; rdata = 0; rresp = rresp i }) ∙ reset_or t m;
}

-- the register of the read data
pub data_from : (b : Block) (old new : Net) (answer next : Id) (resetn : Id) → Extends old new → IsNode old next 32 (λ v. (moved b (pins_seen v) (kept_seen v) (v.node answer.0)).rdata) → IsResetn old resetn
    → ((v : At) → Settles new v → v.after (codes "axi$rdata") ≡ under v.node (by_resetn resetn) (v.node next.0)) → KeepsData b new answer
data_from b old new answer next resetn x h has driven = record {
  kept = λ v s.
      let before = x.settles v s in
      driven v s ∙ ap (λ y. if y == 0 then 0 else v.node next.0) (has.node.value v before) ∙ ap (λ y. if v.ins (codes "PRESETn") == 0 then 0 else y) (h.value v before)
      ∙ by (v.ins (codes "PRESETn") == 0) (moved b (pins_seen v) (kept_seen v) (v.node answer.0));
}
  where
    by : (t : Bool) (m : Channels) → (if t then 0 else m.rdata) ≡ (if t then idle else m).rdata
    by true m = refl
    by false m = refl

-- both together
joined : (t : Bool) (m : Channels) (d : ℕ) → (let c : Channels = record (without_data (if t then idle else m)) { rdata = (if t then idle else record m { rdata = d }).rdata } in c) ≡ (if t then idle else record m { rdata = d })
joined true m d = refl
joined false m d = refl

pub channels_kept : (b : Block) (net : Net) (answer : Id) → KeepsRest b net → KeepsData b net answer → (v : At) → Settles net v → contents_of v.after ≡ next_channels b (pins_seen v) (kept_seen v) (v.node answer.0)
channels_kept b net answer rest read v s =
    let e = rest.kept v s in
    let d = read.kept v s in
    let m = moved b (pins_seen v) (kept_seen v) 0 in
    (λ i. record (e i) { rdata = d i }) ∙ joined (v.ins (codes "PRESETn") == 0) m (moved b (pins_seen v) (kept_seen v) (v.node answer.0)).rdata

-- Outputs

abbrev pub shown_in_order : Slave → Readies → Id → List Id
shown_in_order s r d = r.awready ∷ r.wready ∷ s.kept.bresp ∷ s.kept.b ∷ s.acts.ready ∷ d ∷ s.kept.rresp ∷ s.kept.r ∷ []

pub shown_wide : (b : Block) (net : Net) (s : Slave) (r : Readies) (d : Id) (ids : List Id) → ids ≡ shown_in_order s r d → IsSlave b net s → AreReadies net r → IsNode net d 32 (λ v. (kept_seen v).rdata) → HaveWidths net own_outputs ids
shown_wide b net s r d ids is h a k = subst (HaveWidths net own_outputs) (sym is) (record {
  long = refl;
  each = zip_each (λ p i. Stands net i p.width) own_outputs (r.awready ∷ r.wready ∷ s.kept.bresp ∷ s.kept.b ∷ s.acts.ready ∷ d ∷ s.kept.rresp ∷ s.kept.r ∷ [])
      (a.awready.stands, (a.wready.stands, (h.kept.bresp.stands, (h.kept.b.stands, (h.acts.readying.stands, (k.stands, (h.kept.rresp.stands, (h.kept.r.stands, tt))))))));
})

pub shows_from : (b : Block) (old new : Net) (s : Slave) (r : Readies) (d : Id) (ids : List Id) → ids ≡ shown_in_order s r d → Extends old new → IsSlave b old s → AreReadies old r → IsNode old d 32 (λ v. (kept_seen v).rdata) → ShowNodes new own_outputs ids → ShowsChannels new
shows_from b old new s r d ids is x h a k all = record {
  shown = λ v t.
      let shows = subst (ShowNodes new own_outputs) is all in
      let before = x.settles v t in
      let awready = shows.each 0 (pin (codes "AWREADY") 1) refl v t ∙ a.awready.value v before in
      let wready = shows.each 1 (pin (codes "WREADY") 1) refl v t ∙ a.wready.value v before in
      let bresp = shows.each 2 (pin (codes "BRESP") 2) refl v t ∙ h.kept.bresp.value v before in
      let bvalid = shows.each 3 (pin (codes "BVALID") 1) refl v t ∙ h.kept.b.value v before in
      let arready = shows.each 4 (pin (codes "ARREADY") 1) refl v t ∙ h.acts.readying.value v before in
      let rdata = shows.each 5 (pin (codes "RDATA") 32) refl v t ∙ k.value v before in
      let rresp = shows.each 6 (pin (codes "RRESP") 2) refl v t ∙ h.kept.rresp.value v before in
      let rvalid = shows.each 7 (pin (codes "RVALID") 1) refl v t ∙ h.kept.r.value v before in
      (λ i. awready i ∷ wready i ∷ bresp i ∷ bvalid i ∷ arready i ∷ rdata i ∷ rresp i ∷ rvalid i ∷ []);
}

pub taken_from : (ps : List Pin) (ids : List Id) (old new : List Seat) → length ids ≡ length ps → new ≡ shown_seats old ps ids → SeatsTaken old new ps
taken_from [] ids old new l e = e
taken_from (p ∷ ps) [] old new l e = absurd (omega (arith, l))
taken_from (p ∷ ps) (i ∷ ids) old new l e = (i, taken_from ps ids (seated old p.name p.width (Output i)) new (omega (arith, l)) e)
