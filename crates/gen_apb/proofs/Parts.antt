-- The parts of a netlist fit together.
use Rattle.std.proofs.Common.{◌≡◌, ℕ, zero, suc, Bool, true, false, ◌||◌, if◌then◌else◌, Option, Some, None, List, [], ◌∷◌, ◌++◌, codes, map, filter, slice_get, refl, sym, ap, ◌∙◌, subst, arith}
use Rattle.std.specs.Prelude.{Contains, IsSome}
use Rattle.std.specs.List.{enumerate_from, flat_map}
use Rattle.std.specs.Str.{bytes_eq}
use Rattle.std.proofs.lemmas.List.{map-append}
use Rattle.plain_lemmas.proofs.Lists.{map-map as mapped}
use Rattle.rb_base.specs.declared.ports.Pin.{Pin}
use Rattle.v_design.specs.Design.{is_output, outputs_among, port_pin}
use Rattle.rtl_net.specs.Names.{Lacks}
use Rattle.rtl_net.specs.Net.{Net, Extends, MayStand, Stands, registers_of, undriven, width_in}
use Rattle.rtl_net.specs.Ports.{IsFree, IsNew, has_room, register_names, seat_names}
use Rattle.rtl_net.specs.declared.node.Id.{Id}
use Rattle.rtl_net.specs.Ports.{seated}
use Rattle.rtl_net.specs.declared.node.Occupant.TheVariants.{Output}
use Rattle.rtl_net.proofs.Others.{IsFree-seated}
use Rattle.rtl_net.proofs.Distinct.{Differ-sym}
use Rattle.rtl_net.proofs.Nets.{Extends-trans, Stands-extends}
use Rattle.rb_model.specs.declared.block.Block.{Block}
use Rattle.rb_model.specs.Kept.{Kept, Waited, Data, Error, has_wait, kept, register_name, field_kept, kept_pin}
use Rattle.rb_model.specs.Ports.{Outlet, field_pins, input_pins, outlets, ports, signal_pins, view_pins}
use Rattle.rb_model.specs.References.{Each}
use Rattle.rb_model.specs.Sound.{IsSound}
use Rattle.rb_model.proofs.Eachs.{Each-append, Each-map, Each-passing, Each-right, Each-weaker}
use Rattle.rb_model.proofs.InputPins.{bus_pins, input_pins_are, output_pins_are}
use Rattle.gen_scene.specs.Bases.{HasPins, kept_number}
use Rattle.gen_apb.specs.declared.front.Front.{Front}
use Rattle.gen_apb.specs.Fronts.{IsClosing, IsFront, ShowsData, access_registers, data_registers}
use Rattle.gen_apb.proofs.OfBus.{of_bus-extends}
use Rattle.gen_core.specs.Core.{IsCore}
use Rattle.gen_ports.specs.Laid.{AreInputs, AreSeatsOf}
use Rattle.gen_core.specs.Ties.{SeatsTaken, outlet_pin}
use Rattle.gen_apb.specs.Built.{IsBuilt, ShowsBus, bus_shown}
use Rattle.gen_apb.proofs.Edging.{bus_kept}
use Rattle.gen_front.proofs.Filling.{room_stays, taken-append}
use Rattle.gen_front.proofs.Ports.{HasPorts, core-extends, outlet_at}
use Rattle.gen_apb.proofs.Naming.{AllApart, kept_of_fields, lacks_kept, not_bus, outlets_apart, port_lacks, port_names_lack}

-- The pins of the bus

pub bus_pin : (b : Block) → IsSound b → (net : Net) (ids : List Id) → AreInputs net ids (input_pins b) → (k : ℕ) (p : Pin) → slice_get bus_pins k ≡ Some p → slice_get (input_pins b) k ≡ Some p
bus_pin b sound net ids h k p e = ap (λ ps. slice_get ps k) (input_pins_are b sound)
    ∙ (front4 (signal_pins true b.signals) (signal_pins false b.signals) (flat_map (field_pins b.views) (enumerate_from 0 b.fields)) (flat_map view_pins (filter (λ v. v.alias) b.views)) k p e)
  where
    front : (xs ys : List Pin) (k : ℕ) (p : Pin) → slice_get xs k ≡ Some p → slice_get (xs ++ ys) k ≡ Some p
    front [] ys k p e = cc
    front (x ∷ xs) ys zero p e = e
    front (x ∷ xs) ys (suc k) p e = front xs ys k p e

    front4 : (w x y z : List Pin) (k : ℕ) (p : Pin) → slice_get bus_pins k ≡ Some p → slice_get (bus_pins ++ w ++ x ++ y ++ z) k ≡ Some p
    front4 w x y z k p e = front (bus_pins ++ w ++ x ++ y) z k p (front (bus_pins ++ w ++ x) y k p (front (bus_pins ++ w) x k p (front bus_pins w k p e)))

-- What is known once the ports are laid

pub pins_laid : (b : Block) (net : Net) (ids : List Id) → HasPorts net ids (ports b) → HasPins b net ids
pins_laid b net ids h = record { long = h.inputs.long; each = λ k p e other. h.inputs.each k p e }

pub kept_new : (b : Block) (net : Net) (ids : List Id) → AllApart b → HasPorts net ids (ports b) → (k : Kept) → Contains (kept b) k → IsNew net (register_name b k)
kept_new b net ids apart h k c = h.others (register_name b k) (port_names_lack b apart k c)

-- The registers so far, as kept values

abbrev pub bus_first : Block → List Kept
bus_first b = if has_wait b then Waited ∷ Error ∷ [] else []

access_kept : (b : Block) → access_registers b ≡ map (kept_pin b) (bus_first b)
access_kept b = by (has_wait b)
  where
    by : (c : Bool) → (if c then record { name = codes "apb$wait"; width = 1 } ∷ record { name = codes "apb$error"; width = 1 } ∷ [] else []) ≡ map (kept_pin b) (if c then Waited ∷ Error ∷ [] else [])
    by true = refl
    by false = refl

abbrev pub data_kept : Option Id → List Kept
data_kept None = []
data_kept (Some id) = Data ∷ []

data_is_kept : (b : Block) (o : Option Id) → data_registers o ≡ map (kept_pin b) (data_kept o)
data_is_kept b None = refl
data_is_kept b (Some id) = refl

names_kept : (b : Block) (ks : List Kept) → map (λ (r : Pin). r.name) (map (kept_pin b) ks) ≡ map (λ q. register_name b q) ks
names_kept b ks = mapped (λ (r : Pin). r.name) (kept_pin b) ks

-- the registers of a netlist are these kept values
abbrev pub KeepsThese : Block → Net → List Kept → Type 0
KeepsThese b net ks = registers_of net.nodes ≡ map (kept_pin b) ks

pub keeps_first : (b : Block) (old new : Net) → registers_of old.nodes ≡ [] → registers_of new.nodes ≡ registers_of old.nodes ++ access_registers b → KeepsThese b new (bus_first b)
keeps_first b old new none e = e ∙ ap (λ rs. rs ++ access_registers b) none ∙ access_kept b

pub keeps_more : (b : Block) (old new : Net) (ks more : List Kept) → KeepsThese b old ks → registers_of new.nodes ≡ registers_of old.nodes ++ map (kept_pin b) more → KeepsThese b new (ks ++ more)
keeps_more b old new ks more h e = e ∙ ap (λ rs. rs ++ map (kept_pin b) more) h ∙ sym (map-append (kept_pin b) ks more)

pub keeps_data : (b : Block) (old new : Net) (ks : List Kept) (o : Option Id) → KeepsThese b old ks → registers_of new.nodes ≡ registers_of old.nodes ++ data_registers o → KeepsThese b new (ks ++ data_kept o)
keeps_data b old new ks o h e = keeps_more b old new ks (data_kept o) h (e ∙ ap (λ rs. registers_of old.nodes ++ rs) (data_is_kept b o))

lacks_from : (b : Block) (net : Net) (ks : List Kept) (name : List ℕ) → KeepsThese b net ks → Lacks (map (λ q. register_name b q) ks) name → Lacks (register_names net) name
lacks_from b net ks name h l = subst (λ ns. Lacks ns name) (sym (ap (map (λ (r : Pin). r.name)) h ∙ names_kept b ks)) l

-- each of the bus's is kept
first_kept : (b : Block) → Each (λ q. Contains (kept b) q) (bus_first b)
first_kept b = by (has_wait b) refl
  where
    by : (c : Bool) → has_wait b ≡ c → Each (λ q. Contains (kept b) q) (if c then Waited ∷ Error ∷ [] else [])
    by true e = ((bus_kept b e).0, ((bus_kept b e).2, tt))
    by false e = tt

each_contained : {X : Type 0} (P : X → Type 0) (xs : List X) → ((x : X) → Contains xs x → P x) → Each P xs
each_contained P [] h = tt
each_contained P (x ∷ xs) h = (h x (0, omega arith, refl), each_contained P xs (λ y c. h y (suc c.0, omega (arith, c.1), c.2)))

fields_kept : (b : Block) → Each (λ q. Contains (kept b) q) (field_kept b)
fields_kept b = each_contained (λ q. Contains (kept b) q) (field_kept b) (λ q c. kept_of_fields b q c)

data_all_kept : (b : Block) (net : Net) (o : Option Id) → IsClosing b net o → Each (λ q. Contains (kept b) q) (data_kept o)
data_all_kept b net None h = tt
data_all_kept b net (Some id) h = ((bus_kept b h.0).1, tt)

pub most_kept : (b : Block) (net : Net) (o : Option Id) → IsClosing b net o → Each (λ q. Contains (kept b) q) (bus_first b ++ field_kept b ++ data_kept o)
most_kept b net o h = Each-append (λ q. Contains (kept b) q) (bus_first b ++ field_kept b) (data_kept o) (Each-append (λ q. Contains (kept b) q) (bus_first b) (field_kept b) (first_kept b) (fields_kept b)) (data_all_kept b net o h)

-- Names that are new, and outputs that are free

pub field_new : (b : Block) → AllApart b → (n1 n2 : Net) (k : Kept) → n2.seats ≡ n1.seats → KeepsThese b n2 (bus_first b) → Contains (field_kept b) k → IsNew n1 (register_name b k) → IsNew n2 (register_name b k)
field_new b apart n1 n2 k seats keeps c new = record {
  seats = subst (λ ss. Lacks (seat_names ss) (register_name b k)) (sym seats) new.seats;
  registers = lacks_from b n2 (bus_first b) (register_name b k) keeps (lacks_kept b apart (bus_first b) k (kept_of_fields b k c) (by (has_wait b) refl));
}
  where
    other : (q : Kept) → kept_number q ≡ None → k ≡ q → ⊥
    other q e s = not_bus b k c (ap kept_number s ∙ e)

    by : (w : Bool) → has_wait b ≡ w → Each (λ q. Contains (kept b) q × (k ≡ q → ⊥)) (if w then Waited ∷ Error ∷ [] else [])
    by true e = (((bus_kept b e).0, other Waited refl), (((bus_kept b e).2, other Error refl), tt))
    by false e = tt

pub data_new : (b : Block) → AllApart b → (n3 : Net) → has_wait b ≡ true → Lacks (seat_names n3.seats) (codes "apb$data") → KeepsThese b n3 (bus_first b ++ field_kept b) → IsNew n3 (codes "apb$data")
data_new b apart n3 w seats keeps = record {
  seats = seats;
  registers = lacks_from b n3 (bus_first b ++ field_kept b) (codes "apb$data") keeps (lacks_kept b apart (bus_first b ++ field_kept b) Data (bus_kept b w).1
      (Each-append (λ q. Contains (kept b) q × (Data ≡ q → ⊥)) (bus_first b) (field_kept b) (by (has_wait b) refl)
      (each_contained (λ q. Contains (kept b) q × (Data ≡ q → ⊥)) (field_kept b) (λ q c. (kept_of_fields b q c, λ s. not_bus b q c (ap kept_number (sym s)))))));
}
  where
    by : (c : Bool) → has_wait b ≡ c → Each (λ q. Contains (kept b) q × (Data ≡ q → ⊥)) (if c then Waited ∷ Error ∷ [] else [])
    by true e = (((bus_kept b e).0, λ s. cc s), (((bus_kept b e).2, λ s. cc s), tt))
    by false e = tt

outputs_lack : (b : Block) → AllApart b → (ks : List Kept) → Each (λ q. Contains (kept b) q) ks → Each (λ o. Lacks (map (λ q. register_name b q) ks) o.name) (bus_shown ++ map outlet_pin (outlets b))
outputs_lack b apart ks all =
    let P : Pin → Type 0 = λ o. Lacks (map (λ q. register_name b q) ks) o.name in
    subst (Each P) (output_pins_are b) (Each-map P port_pin (filter is_output (ports b)) (Each-passing (λ p. P (port_pin p)) is_output (ports b) (λ i p here t. port_lacks b apart ks i p here all)))

abbrev lacks_each : Block → List Kept → Pin → Type 0
lacks_each b ks o = Lacks (map (λ q. register_name b q) ks) o.name

pub outlet_free : (b : Block) → AllApart b → (n1 n2 : Net) (o : Outlet) → n2.seats ≡ n1.seats → KeepsThese b n2 (bus_first b) → Each (λ p. IsFree n1 p.name p.width) (outputs_among (ports b)) → Contains (outlets b) o → IsFree n2 o.name o.width
outlet_free b apart n1 n2 o seats keeps free c =
    let F : Pin → Type 0 = λ p. IsFree n1 p.name p.width in
    let listed : Each F (bus_shown ++ map outlet_pin (outlets b)) = subst (Each F) (output_pins_are b) free in
    let before : IsFree n1 o.name o.width = outlet_at b F o (Each-right F bus_shown (map outlet_pin (outlets b)) listed) c in
    let lacks : Lacks (map (λ q. register_name b q) (bus_first b)) o.name = outlet_at b (lacks_each b (bus_first b)) o (Each-right (lacks_each b (bus_first b)) bus_shown (map outlet_pin (outlets b)) (outputs_lack b apart (bus_first b) (first_kept b))) c in
    record { seats = ap (λ ss. has_room ss o.name o.width) seats ∙ before.seats; registers = lacks_from b n2 (bus_first b) o.name keeps lacks }

-- the outputs of the bus are free behind the core
pub record BusFree (net : Net) : Type 0 where
  pub ready : IsFree net (codes "PREADY") 1
  pub answered : IsFree net (codes "PRDATA") 32
  pub failed : IsFree net (codes "PSLVERR") 1

pub bus_free : (b : Block) → AllApart b → (n1 n2 n3 n4 : Net) (ks : List Kept) → n2.seats ≡ n1.seats → SeatsTaken n2.seats n3.seats (map outlet_pin (outlets b)) → n4.seats ≡ n3.seats → KeepsThese b n4 ks → Each (λ q. Contains (kept b) q) ks
    → Each (λ p. IsFree n1 p.name p.width) (outputs_among (ports b)) → BusFree n4
bus_free b apart n1 n2 n3 n4 ks seats2 taken seats4 keeps all free =
    let F : Pin → Type 0 = λ p. IsFree n1 p.name p.width in
    let listed : Each F (bus_shown ++ map outlet_pin (outlets b)) = subst (Each F) (output_pins_are b) free in
    let lacks = outputs_lack b apart ks all in
    let other = outlets_apart b apart in
    let one = λ (name : List ℕ) (w : ℕ) (others : Each (λ q. bytes_eq name q.name ≡ false) (map outlet_pin (outlets b))) (h : IsFree n1 name w).
    ap (λ ss. has_room ss name w) seats4 ∙ room_stays name w n2.seats n3.seats (map outlet_pin (outlets b)) others taken (ap (λ ss. has_room ss name w) seats2 ∙ h.seats) in
    record {
      ready = record { seats = one (codes "PREADY") 1 other.ready listed.0; registers = lacks_from b n4 ks (codes "PREADY") keeps lacks.0 };
      answered = record { seats = one (codes "PRDATA") 32 other.answered listed.1.0; registers = lacks_from b n4 ks (codes "PRDATA") keeps lacks.1.0 };
      failed = record { seats = one (codes "PSLVERR") 1 other.failed listed.1.1.0; registers = lacks_from b n4 ks (codes "PSLVERR") keeps lacks.1.1.0 };
    }

-- What holds of a netlist holds of one that has more

closing-extends : (b : Block) (old new : Net) (o : Option Id) → Extends old new → IsClosing b old o → IsClosing b new o
closing-extends b old new None x h = h
closing-extends b old new (Some id) x h = (h.0, of_bus-extends b old new id 1 _ x h.1)

pub front-extends : (b : Block) (old new : Net) (f : Front) → Extends old new → IsFront b old f → IsFront b new f
front-extends b old new f x h = record {
  says = record {
    inlet = record {
      valid = Stands-extends old new f.inlet.valid 1 x h.says.inlet.valid;
      write = Stands-extends old new f.inlet.write 1 x h.says.inlet.write;
      word = Stands-extends old new f.inlet.word 16 x h.says.inlet.word;
      bits = Stands-extends old new f.inlet.bits 32 x h.says.inlet.bits;
    };
    access = λ v s. h.says.access v (x.settles v s);
  };
  ready = of_bus-extends b old new f.ready 1 _ x h.ready;
  error = of_bus-extends b old new f.error 1 _ x h.error;
  closing = closing-extends b old new f.closes x h.closing;
  keeps = λ w. record { waited = λ v s. (h.keeps w).waited v (x.settles v s); failed = λ v s. (h.keeps w).failed v (x.settles v s) };
}

pub data-extends : (old new : Net) (o : Option Id) (answer shown : Id) → Extends old new → ShowsData old o answer shown → ShowsData new o answer shown
data-extends old new None answer shown x h = h
data-extends old new (Some id) answer shown x h = (Stands-extends old new shown 32 x h.0, (λ v s. h.1 v (x.settles v s)), (λ v s. h.2 v (x.settles v s)))

pub shown_stands : (net : Net) (o : Option Id) (answer shown : Id) → Stands net answer 32 → ShowsData net o answer shown → Stands net shown 32
shown_stands net None answer shown h e = subst (λ i. Stands net i 32) (sym e) h
shown_stands net (Some id) answer shown h e = e.0

pub closes_stand : (b : Block) (net : Net) (o : Option Id) → IsClosing b net o → MayStand net o
closes_stand b net None h = tt
closes_stand b net (Some id) h = h.1.stands

pub closes_waits : (b : Block) (net : Net) (o : Option Id) → IsClosing b net o → IsSome o → has_wait b ≡ true
closes_waits b net None h s = cc s
closes_waits b net (Some id) h s = h.0

-- The data's name

or_none : (a : Bool) → (a || false) ≡ false → a ≡ false
or_none true h = h
or_none false h = refl

pub data_apart : (b : Block) → AllApart b → has_wait b ≡ true → Each (λ p. bytes_eq (codes "apb$data") p.name ≡ false) (map outlet_pin (outlets b))
data_apart b apart w = Each-weaker (lacks_each b (Data ∷ [])) (λ p. bytes_eq (codes "apb$data") p.name ≡ false)
    (λ o l. Differ-sym o.name (codes "apb$data") (or_none (bytes_eq o.name (codes "apb$data")) l)) (map outlet_pin (outlets b))
    (Each-right (lacks_each b (Data ∷ [])) bus_shown (map outlet_pin (outlets b)) (outputs_lack b apart (Data ∷ []) ((bus_kept b w).1, tt)))

-- An output behind another

pub free_stays : (old new : Net) (name a : List ℕ) (w u : ℕ) (from : Id) → new.nodes ≡ old.nodes → new.seats ≡ seated old.seats a u (Output from) → bytes_eq name a ≡ false → IsFree old name w → IsFree new name w
free_stays old new name a w u from nodes seats d h = IsFree-seated old new a u (Output from) seats (ap (λ ns. map (λ (r : Pin). r.name) (registers_of ns)) nodes) name d w h

pub free_at : (old new : Net) (name : List ℕ) (w : ℕ) (id : Id) → Extends old new → Stands old id w → IsFree new name w → IsFree new name (width_in new id)
free_at old new name w id x st h = subst (λ k. IsFree new name k) (sym (Stands-extends old new id w x st).width) h

-- All of it

pub built : (b : Block) (n1 n2 n3 n4 n5 : Net) (f : Front) (answer shown : Id) → AreSeatsOf n1.seats (ports b) → registers_of n1.nodes ≡ [] → undriven n1.nodes ≡ 0
    → n2.seats ≡ n1.seats → registers_of n2.nodes ≡ registers_of n1.nodes ++ access_registers b → undriven n2.nodes ≡ undriven n1.nodes → IsFront b n2 f
    → Extends n2 n3 → SeatsTaken n2.seats n3.seats (map outlet_pin (outlets b)) → registers_of n3.nodes ≡ registers_of n2.nodes ++ map (kept_pin b) (field_kept b) → undriven n3.nodes ≡ undriven n2.nodes → IsCore b f.inlet n3 answer
    → Extends n3 n4 → n4.seats ≡ n3.seats → registers_of n4.nodes ≡ registers_of n3.nodes ++ data_registers f.closes → undriven n4.nodes ≡ undriven n3.nodes → ShowsData n4 f.closes answer shown
    → Extends n4 n5 → SeatsTaken n4.seats n5.seats bus_shown → registers_of n5.nodes ≡ registers_of n4.nodes → undriven n5.nodes ≡ undriven n4.nodes → ShowsBus n5 f.ready shown f.error → IsBuilt b n5
built b n1 n2 n3 n4 n5 f answer shown laid r1 u1 s2 r2 u2 is_front x23 s3 r3 u3 is_core x34 s4 r4 u4 is_data x45 s5 r5 u5 is_shown =
    let x35 : Extends n3 n5 = Extends-trans n3 n4 n5 x34 x45 in
    record {
      front = f;
      answer = answer;
      shown = shown;
      is_front = front-extends b n2 n5 f (Extends-trans n2 n3 n5 x23 x35) is_front;
      is_core = core-extends b f.inlet n3 n5 answer x35 is_core;
      is_data = data-extends n4 n5 f.closes answer shown x45 is_data;
      is_shown = is_shown;
      registers = r5 ∙ r4 ∙ ap (λ rs. rs ++ data_registers f.closes) (r3 ∙ ap (λ rs. rs ++ map (kept_pin b) (field_kept b)) (r2 ∙ ap (λ rs. rs ++ access_registers b) r1));
      driven = u5 ∙ u4 ∙ u3 ∙ u2 ∙ u1;
      laid = n1.seats;
      are_laid = laid;
      seats = taken-append n1.seats n3.seats n5.seats (map outlet_pin (outlets b)) bus_shown (subst (λ ss. SeatsTaken ss n3.seats (map outlet_pin (outlets b))) s2 s3) (subst (λ ss. SeatsTaken ss n5.seats bus_shown) s4 s5);
    }
