-- An edge of the netlist is one of the block's machine behind its port.
use Rattle.std.proofs.Common.{◌≡◌, ℕ, zero, suc, ◌==◌, Bool, true, false, not, ◌&&◌, if◌then◌else◌, Option, Some, None, unwrap_or, List, [], ◌∷◌, ◌++◌, map, slice_get, refl, sym, ap, ◌∙◌, subst, arith}
use Rattle.std.specs.Prelude.{Contains}
use Rattle.std.specs.List.{AllByRecursion, enumerate_from}
use Rattle.std.specs.Option.{option_map_or}
use Rattle.std.proofs.lemmas.List.Quantifiers.{position-Some}
use Rattle.plain_lemmas.proofs.Lists.{each-append, each-left, each-right, map-alike}
use Rattle.rtl_net.specs.Value.{At, Values}
use Rattle.rtl_net.specs.Net.{Net, Settles}
use Rattle.rtl_net.specs.Run.{values_at}
use Rattle.rb_model.specs.declared.block.Block.{Block}
use Rattle.rb_model.specs.declared.block.Field.{Field}
use Rattle.rb_model.specs.Kept.{Kept, Map, Val, Last, Done, Waited, Data, Error, field_kept, is_kept, is_storage, keeps_last, kept_of, of_field, register_name, when}
use Rattle.rb_model.specs.Items.{NoAccess, Read, Write, Now, ItemValues, AreItemValues}
use Rattle.rb_model.specs.Machine as machine
use Rattle.rb_model.specs.Machine.{is_asserted, outputs, read_data}
use Rattle.rb_model.specs.Ports.{Outlet, outlets}
use Rattle.rb_model.specs.References.{Each}
use Rattle.rb_model.specs.Run.{word_at}
use Rattle.rb_model.proofs.Eachs.{Each-append, Each-at, Each-flat_map, Each-numbered_all}
use Rattle.rb_model.proofs.InputPins.{block_outputs, outlet_pin}
use Rattle.rb_model.specs.Front.{Contain, Register, front_outputs}
use Rattle.axi_model.specs.Channels.{Channels, Pins, access, channels_shown, held, next_channels, reads, word_of, writes}
use Rattle.axi_model.specs.Axi.{AxiKept, after, axi, channel_registers, channels_at, field_registers, found, shown}
use Rattle.gen_channels.specs.Nodes.{contents_of, kept_seen, pins_seen}
use Rattle.gen_front.specs.Edges.{EdgesAre}
use Rattle.gen_front.proofs.Elements.{contains_at}
use Rattle.block_plan.specs.Behind.{IsThere}
use Rattle.gen_scene.specs.Worth.{Finds}
use Rattle.axi_lite.specs.Built.{IsAxiBuilt, channel_outs}
use Rattle.axi_lite.proofs.Tying.{channels_kept}

-- Lists

all_mapped : {X Y : Type 0} (P : Y → Type 0) (f : X → Y) (xs : List X) → ((x : X) → Contains xs x → P (f x)) → AllByRecursion P (map f xs)
all_mapped P f [] h = tt
all_mapped P f (x ∷ xs) h = (h x (0, omega arith, refl), all_mapped P f xs (λ y c. h y (suc c.0, omega (arith, c.1), c.2)))

mapped_one : {X Y : Type 0} (P : Y → Type 0) (f : X → Y) (xs : List X) → AllByRecursion P (map f xs) → (x : X) → Contains xs x → P (f x)
mapped_one P f [] h x c = absurd (omega (arith, c.1))
mapped_one P f (y ∷ ys) h x (zero, low, e) = subst (λ z. P (f z)) e h.0
mapped_one P f (y ∷ ys) h x (suc k, low, e) = mapped_one P f ys h.1 x (k, omega (arith, low), e)

-- Kept values

held_same : (b : Block) (p : Values) (m n : Map) (k : Kept) → m k ≡ n k → machine.held b p m k ≡ machine.held b p n k
held_same b p m n (Val k) e = ap (λ x. of_field b k x (λ f. if is_asserted b p f.reset_by && not f.reset_by.sync then unwrap_or f.reset x else x)) e
held_same b p m n (Last k) e = ap (λ x. of_field b k x (λ f. if is_asserted b p f.reset_by && not f.reset_by.sync then 0 else x)) e
held_same b p m n (Done k) e = ap (λ x. of_field b k x (λ f. if is_asserted b p f.reset_by && not f.reset_by.sync then 0 else x)) e
held_same b p m n Waited e = e
held_same b p m n Data e = e
held_same b p m n Error e = e

kept_is : (b : Block) (k : Kept) → Contains (field_kept b) k → is_kept b k ≡ true
kept_is b k c = Each-at (λ q. is_kept b q ≡ true) (field_kept b) c.0 k all (contains_at (field_kept b) k c)
  where
    when_each : (c : Bool) (q : Kept) → (c ≡ true → is_kept b q ≡ true) → Each (λ q. is_kept b q ≡ true) (when c q)
    when_each true q h = (h refl, tt)
    when_each false q h = tt

    of_one : (n : ℕ) (f : Field) → slice_get b.fields n ≡ Some f → Each (λ q. is_kept b q ≡ true) (kept_of (n, f))
    of_one n f e = Each-append (λ q. is_kept b q ≡ true) (when (is_storage f.class) (Val n) ++ when (keeps_last f.latch) (Last n)) (when f.once (Done n))
        (Each-append (λ q. is_kept b q ≡ true) (when (is_storage f.class) (Val n)) (when (keeps_last f.latch) (Last n))
        (when_each (is_storage f.class) (Val n) (λ t. ap (λ o. option_map_or (λ (g : Field). is_storage g.class) o false) e ∙ t))
        (when_each (keeps_last f.latch) (Last n) (λ t. ap (λ o. option_map_or (λ (g : Field). keeps_last g.latch) o false) e ∙ t)))
        (when_each f.once (Done n) (λ t. ap (λ o. option_map_or (λ (g : Field). g.once) o false) e ∙ t))

    all : Each (λ q. is_kept b q ≡ true) (field_kept b)
    all = Each-flat_map (λ q. is_kept b q ≡ true) kept_of (enumerate_from 0 b.fields) (Each-numbered_all (λ e. Each (λ q. is_kept b q ≡ true) (kept_of e)) b.fields of_one)

-- Accesses

read_there : (b : Block) (o : Option ℕ) (address : ℕ) → word_at b.reads address ≡ o → IsThere b (option_map_or Read o NoAccess)
read_there b None address e = tt
read_there b (Some i) address e = (position-Some (λ w. address == w.address) b.reads i (record { address = 0; width = 0; reg = 0; number = 0; slots = [] }) e).0

write_there : (b : Block) (o : Option ℕ) (address d : ℕ) → word_at b.writes address ≡ o → IsThere b (option_map_or (λ i. Write i d) o NoAccess)
write_there b None address d e = tt
write_there b (Some i) address d e = (position-Some (λ w. address == w.address) b.writes i (record { address = 0; width = 0; reg = 0; number = 0; slots = [] }) e).0

there : (b : Block) (p : Pins) (c : Channels) → IsThere b (access b p c)
there b p c = by (writes p c) (c.wstrb == 15) (reads p c)
  where
    by : (w s r : Bool) → IsThere b (if w then (if s then option_map_or (λ i. Write i c.wdata) (word_of b.writes c.awaddr) NoAccess else NoAccess) else (if r then option_map_or Read (word_of b.reads p.araddr) NoAccess else NoAccess))
    by true true r = write_there b (word_of b.writes c.awaddr) _ c.wdata refl
    by true false r = tt
    by false s true = read_there b (word_of b.reads p.araddr) _ refl
    by false s false = tt

-- Outputs

mapped_names : (o : Values) (os : List Outlet) → values_at o (map outlet_pin os) ≡ map (λ q. o q.name) os
mapped_names o [] = refl
mapped_names o (q ∷ qs) = ap (λ xs. o q.name ∷ xs) (mapped_names o qs)

outs_seen : (b : Block) (o : Values) → values_at o (front_outputs (axi b)) ≡ channel_outs o ++ map (λ q. o q.name) (outlets b)
outs_seen b o = ap (λ ps. channel_outs o ++ values_at o ps) (block_outputs b) ∙ ap (λ xs. channel_outs o ++ xs) (mapped_names o (outlets b))

-- One edge

module _ (b : Block) (net : Net) (built : IsAxiBuilt b net) (v : At) (settles : Settles net v) (k : AxiKept) (holds : Contain (axi b) k v.kept) where
  abbrev Holds : Register AxiKept → Type 0
  Holds r = v.kept r.name ≡ r.value k

  abbrev here : Now
  here = found b v.ins k

  field_held : (q : Kept) → Contains (field_kept b) q → v.kept (register_name b q) ≡ k.fields q
  field_held q c = mapped_one Holds _ (field_kept b) (each-left Holds (field_registers b) channel_registers holds) q c

  channels_held : contents_of v.kept ≡ k.channels
  channels_held =
      let h = each-right Holds (field_registers b) channel_registers holds in
      (λ i. record {
        aw = h.0 i;
        awaddr = h.1.0 i;
        w = h.1.1.0 i;
        wdata = h.1.1.1.0 i;
        wstrb = h.1.1.1.1.0 i;
        b = h.1.1.1.1.1.0 i;
        bresp = h.1.1.1.1.1.1.0 i;
        r = h.1.1.1.1.1.1.1.0 i;
        rdata = h.1.1.1.1.1.1.1.1.0 i;
        rresp = h.1.1.1.1.1.1.1.1.1.0 i;
      })

  seen_is : kept_seen v ≡ channels_at v.ins k
  seen_is = ap (held (pins_seen v)) channels_held

  finds : Finds b built.inlet v here
  finds = record {
    access = ap (access b (pins_seen v)) (sym seen_is) ∙ sym (built.says.access v settles);
    there = there b (pins_seen v) (channels_at v.ins k);
    pins = λ p c d. refl;
    kept = λ q c. held_same b v.ins k.fields (λ j. v.kept (register_name b j)) q (sym (field_held q c));
  }

  module _ (items : ItemValues) (valued : AreItemValues b here items) where
    pub shown_is : values_at v.outs (front_outputs (axi b)) ≡ shown b v.ins k items
    shown_is = outs_seen b v.outs
        ∙ ap (λ xs. xs ++ map (λ q. v.outs q.name) (outlets b)) (built.shows.shown v settles ∙ ap (channels_shown (pins_seen v)) seen_is)
        ∙ ap (λ xs. channels_shown (pins_seen v) (channels_at v.ins k) ++ xs) (map-alike (λ q. v.outs q.name) (λ q. items q.item) (outlets b) (λ q c. built.core.shown v settles here finds items valued q c))

    port_kept : contents_of v.after ≡ (after b v.ins k items).channels
    port_kept = channels_kept b net built.answer built.rest built.read v settles ∙ ap (λ c. next_channels b (pins_seen v) c (v.node built.answer.0)) seen_is
        ∙ ap (λ n. next_channels b (pins_seen v) (channels_at v.ins k) n) (built.core.answered.value v settles here finds items valued)

    field_kept_is : (q : Kept) → Contains (field_kept b) q → v.after (register_name b q) ≡ (after b v.ins k items).fields q
    field_kept_is q c = built.core.moved v settles here finds items valued q c ∙ ap (λ t. if t then machine.next b here items q else 0) (sym (kept_is b q c))

    pub kept_after : Contain (axi b) (after b v.ins k items) v.after
    kept_after =
        let a = after b v.ins k items in
        let e = port_kept in
        each-append (λ (r : Register AxiKept). v.after r.name ≡ r.value a) (field_registers b) channel_registers
        (all_mapped (λ (r : Register AxiKept). v.after r.name ≡ r.value a) _ (field_kept b) field_kept_is)
        (ap (λ c. c.aw) e, (ap (λ c. c.awaddr) e, (ap (λ c. c.w) e, (ap (λ c. c.wdata) e, (ap (λ c. c.wstrb) e, (ap (λ c. c.b) e, (ap (λ c. c.bresp) e, (ap (λ c. c.r) e, (ap (λ c. c.rdata) e, (ap (λ c. c.rresp) e, tt))))))))))

pub edges_are : (b : Block) (net : Net) → IsAxiBuilt b net → EdgesAre (axi b) (λ p. Unit {0}) net
edges_are b net built = record {
  shown = λ v s k h m items valued. shown_is b net built v s k h items valued;
  kept = λ v s k h m items valued. kept_after b net built v s k h items valued;
}
