-- Outputs added one after the other.
use Rattle.std.proofs.Common.{◌≡◌, ℕ, ◌+◌, ◌<◌, ◌≤◌, ◌==◌, true, false, ◌&&◌, if◌then◌else◌, Some, is_none, List, [], ◌∷◌, ◌++◌, length, map, take, slice_get, refl, sym, ap, ◌∙◌, subst, arith, inl, inr}
use Rattle.std.specs.Prelude.{Contains, IsTrue, get_or}
use Rattle.std.specs.Option.{option_map}
use Rattle.std.specs.Str.{bytes_eq}
use Rattle.std.proofs.lemmas.List.{length-map, map-append, take_all, take_more}
use Rattle.std.proofs.lemmas.Option.{get_or_from_slice_get, same_Some, slice_get-map, slice_get_read, slice_get_within}
use Rattle.plain_lemmas.proofs.Numbers.{below_next-or_same as split}
use Rattle.rb_base.specs.declared.ports.Pin.{Pin}
use Rattle.v_design.specs.WellFormed.{distinct}
use Rattle.rtl_net.specs.Value.{At}
use Rattle.rtl_net.specs.Net.{Net, Extends, Has, Settles, registers_of, width_in}
use Rattle.rtl_net.specs.Ids.{at}
use Rattle.rtl_net.specs.Ports.{IsFree, has_room, seated}
use Rattle.rtl_net.specs.Names.{Lacks, is_net_name}
use Rattle.rtl_net.specs.declared.node.Id.{Id}
use Rattle.rtl_net.specs.declared.node.Seat.{Seat}
use Rattle.rtl_net.specs.declared.node.Occupant.{Occupant}
use Rattle.rtl_net.specs.declared.node.Occupant.TheVariants.{Output}
use Rattle.rtl_net.proofs.Nets.{Extends-refl, Extends-trans, Stands-extends}
use Rattle.rb_model.specs.declared.block.Block.{Block}
use Rattle.rb_model.specs.Kept.{kept_pins}
use Rattle.rb_model.specs.Ports.{Outlet, outlets, ports}
use Rattle.rb_model.specs.References.{item_width}
use Rattle.rb_model.proofs.Apart.{bytes_eq-not, bytes_eq-to}
use Rattle.rb_model.proofs.Eachs.{Each-at}
use Rattle.rb_model.proofs.OwnViews.{by_cases}
use Rattle.rb_model.specs.Sound.{IsSound}
use Rattle.block_plan.specs.declared.outlets.Outlet.{Outlet as PlanOutlet}
use Rattle.block_plan.specs.Outlets.{outlet_seen}
use Rattle.block_plan.specs.Table.{item_place}
use Rattle.gen_scene.specs.declared.base.Inlet.{Inlet}
use Rattle.gen_scene.specs.Items.{IsItem}
use Rattle.gen_core.specs.Ties.{SeatsTaken, Shows, outlet_pin}
use Rattle.gen_core.proofs.Outlets.{one_outlet, outlets_named, outlets_wide}

-- the seats after one output more
pub taken_more : (old mid new : List Seat) (ps : List Pin) (p : Pin) (id : Id) → SeatsTaken old mid ps → new ≡ seated mid p.name p.width (Output id) → SeatsTaken old new (ps ++ p ∷ [])
taken_more old mid new [] p id h e = (id, e ∙ ap (λ ss. seated ss p.name p.width (Output id)) h)
taken_more old mid new (q ∷ ps) p id h e = (h.0, taken_more (seated old q.name q.width (Output h.0)) mid new ps p id h.1 e)

-- a port of another name has room where it had
module _ (a m : List ℕ) (u : ℕ) (t : Occupant) (ne : m ≡ a → ⊥) where
  room_other : (ss : List Seat) (w : ℕ) → has_room (seated ss a u t) m w ≡ has_room ss m w
  room_other [] w = let e : bytes_eq m a ≡ false = bytes_eq-not m a ne in rw e refl
  room_other (s ∷ ss) w = by_cases (bytes_eq a s.name)
      (λ y. let same : a ≡ s.name = bytes_eq-to a s.name y in
      let other : bytes_eq m s.name ≡ false = bytes_eq-not m s.name (λ z. ne (z ∙ sym same)) in
      ap (λ c. has_room (if c then record { name = s.name; width = s.width; taken = Some t } ∷ ss else s ∷ seated ss a u t) m w) y
      ∙ ap (λ c. if c then false && s.width == w else has_room ss m w) other ∙ sym (ap (λ c. if c then is_none s.taken && s.width == w else has_room ss m w) other))
      (λ y. ap (λ c. has_room (if c then record { name = s.name; width = s.width; taken = Some t } ∷ ss else s ∷ seated ss a u t) m w) y
      ∙ ap (λ z. if bytes_eq m s.name then is_none s.taken && s.width == w else z) (room_other ss w))

pub free_other : (old new : Net) (a m : List ℕ) (u w : ℕ) (t : Occupant) → (m ≡ a → ⊥) → new.nodes ≡ old.nodes → new.seats ≡ seated old.seats a u t → IsFree old m w → IsFree new m w
free_other old new a m u w t ne nodes seats h = record {
  seats = ap (λ ss. has_room ss m w) seats ∙ room_other a m u t ne old.seats w ∙ h.seats;
  registers = subst (λ ns. Lacks (map (λ r. r.name) (registers_of ns)) m) (sym nodes) h.registers;
}

-- the first outputs are shown, and the others may be added
pub record ShownTo (b : Block) (first net : Net) (ids : List Id) (end : ℕ) : Type 0 where
  pub older : Extends first net
  pub name : net.name ≡ first.name
  pub nodes : net.nodes ≡ first.nodes
  pub seats : SeatsTaken first.seats net.seats (map outlet_pin (take end (outlets b)))
  pub shown : (j : ℕ) (o : Outlet) → j < end → slice_get (outlets b) j ≡ Some o → (v : At) → Settles net v → v.outs o.name ≡ v.node (at ids (item_place o.item)).0
  pub free : (j : ℕ) (o : Outlet) → end ≤ j → slice_get (outlets b) j ≡ Some o → IsFree net o.name o.width

pub among_outlets : (b : Block) (j : ℕ) (o : Outlet) → slice_get (outlets b) j ≡ Some o → Contains (outlets b) o
among_outlets b j o e = (j, slice_get_within (outlets b) j o e, get_or_from_slice_get (outlets b) j o o e)

pub shown_none : (b : Block) (net : Net) (ids : List Id) → ((o : Outlet) → Contains (outlets b) o → IsFree net o.name o.width) → ShownTo b net net ids 0
shown_none b net ids free = record { older = Extends-refl net; name = refl; nodes = refl; seats = refl; shown = λ j o l. absurd (omega arith); free = λ j o l e. free o (among_outlets b j o e) }

pub shown_more : (b : Block) (first net new : Net) (ids : List Id) (end : ℕ) (here : Outlet) (u : ℕ) → distinct (map (λ p. p.name) (ports b) ++ map (λ p. p.name) (kept_pins b)) ≡ true
    → slice_get (outlets b) end ≡ Some here → u ≡ here.width → ShownTo b first net ids end
    → Extends net new → new.name ≡ net.name → new.nodes ≡ net.nodes → new.seats ≡ seated net.seats here.name u (Output (at ids (item_place here.item)))
    → ((v : At) → Settles new v → v.outs here.name ≡ v.node (at ids (item_place here.item)).0) → ShownTo b first new ids (end + 1)
shown_more b first net new ids end here u apart at_end wide to h name nodes seats shows = record {
  older = Extends-trans first net new to.older h;
  name = name ∙ to.name;
  nodes = nodes ∙ to.nodes;
  seats =
      let listed : map outlet_pin (take (end + 1) (outlets b)) ≡ map outlet_pin (take end (outlets b)) ++ outlet_pin here ∷ []
      = ap (map outlet_pin) (take_more (outlets b) end here (slice_get_within (outlets b) end here at_end) ∙ ap (λ o. take end (outlets b) ++ o ∷ []) (get_or_from_slice_get (outlets b) end here here at_end))
      ∙ map-append outlet_pin (take end (outlets b)) (here ∷ []) in
      subst (SeatsTaken first.seats new.seats) (sym listed)
      (taken_more first.seats net.seats new.seats (map outlet_pin (take end (outlets b))) (outlet_pin here) (at ids (item_place here.item)) to.seats (seats ∙ ap (λ w. seated net.seats here.name w (Output (at ids (item_place here.item)))) wide));
  shown = λ j o l e v s. elim (split j end l) [
    | inl below ↦ to.shown j o below e v (h.settles v s)
    | inr same ↦
        let o_is : here ≡ o = same_Some here o (sym at_end ∙ ap (slice_get (outlets b)) (sym same) ∙ e) in
        let P : Outlet → Type 0 = λ o. v.outs o.name ≡ v.node (at ids (item_place o.item)).0 in
        subst P o_is (shows v s)
  ];
  free = λ j o l e.
      let before = to.free j o (omega arith) e in
      free_other net new here.name o.name u o.width (Output (at ids (item_place here.item))) (λ same. let z : j ≡ end = one_outlet b apart j end o here e at_end same in absurd (omega arith)) nodes seats before;
}

pub all_shown : (b : Block) (a : Inlet) (first net : Net) (ids : List Id) (end : ℕ) → length (outlets b) ≤ end → ((o : Outlet) → Contains (outlets b) o → IsItem b a first ids o.item) → ShownTo b first net ids end → Shows b a net
all_shown b a first net ids end all items to = record {
  shown = λ v settles n found values valued o c.
      let (j, low, is) = c in
      let here : slice_get (outlets b) j ≡ Some o = slice_get_read (outlets b) (length (outlets b)) j o refl low (sym is) in
      to.shown j o (omega arith) here v settles ∙ (items o c).worth.value v (to.older.settles v settles) n found values valued;
}

pub all_taken : (b : Block) (first net : Net) (ids : List Id) (end : ℕ) → length (outlets b) ≤ end → ShownTo b first net ids end → SeatsTaken first.seats net.seats (map outlet_pin (outlets b))
all_taken b first net ids end all to = subst (λ os. SeatsTaken first.seats net.seats (map outlet_pin os)) (take_all end (outlets b) all) to.seats

-- One output more

pub listed_at : (b : Block) (all items : List PlanOutlet) (i : ℕ) (d : PlanOutlet) → map outlet_seen all ≡ outlets b → items ≡ all → i < length items → d ≡ get_or items i d → slice_get (outlets b) i ≡ Some (outlet_seen d)
listed_at b all items i d planned same low is = ap (λ os. slice_get os i) (sym planned ∙ ap (map outlet_seen) (sym same)) ∙ slice_get-map outlet_seen items i ∙ ap (option_map outlet_seen) (slice_get_read items (length items) i d refl low is)

pub all_listed : (b : Block) (all items : List PlanOutlet) (end : ℕ) → map outlet_seen all ≡ outlets b → items ≡ all → length items ≤ end → length (outlets b) ≤ end
all_listed b all items end planned same low = let e : length items ≡ length (outlets b) = sym (length-map items outlet_seen) ∙ ap (λ os. length (map outlet_seen os)) same ∙ ap length planned in omega (arith, e, low)

-- a node that the netlist takes as this output
pub record Takes (net : Net) (ids : List Id) (o : Outlet) (name : List ℕ) (place : ℕ) : Type 0 where
  pub named : IsTrue (is_net_name name)
  pub stands : Has net (at ids place)
  pub wide : width_in net (at ids place) ≡ o.width
  pub free : IsFree net name (width_in net (at ids place))

pub takes_here : (b : Block) (a : Inlet) (first net : Net) (ids : List Id) (end : ℕ) (o : Outlet) (name : List ℕ) (place : ℕ) → IsSound b → slice_get (outlets b) end ≡ Some o → name ≡ o.name → place ≡ item_place o.item
    → ((o : Outlet) → Contains (outlets b) o → IsItem b a first ids o.item) → ShownTo b first net ids end → Takes net ids o name place
takes_here b a first net ids end o name place sound here name_is place_is items to =
    let item = items o (among_outlets b end o here) in
    let stands = Stands-extends first net (at ids (item_place o.item)) (item_width b o.item) to.older item.worth.stands in
    let wide : width_in net (at ids place) ≡ o.width = ap (λ k. width_in net (at ids k)) place_is ∙ stands.width ∙ Each-at (λ o. item_width b o.item ≡ o.width) (outlets b) end o (outlets_wide b) here in
    let low : (at ids place).0 < length net.nodes = subst (λ k. (at ids k).0 < length net.nodes) (sym place_is) stands.below in
    let some : 0 < width_in net (at ids place) = subst (λ k. 0 < width_in net (at ids k)) (sym place_is) (let w = stands.width in let p = stands.some in omega (arith, w, p)) in
    record {
      named = subst (λ n. IsTrue (is_net_name n)) (sym name_is) (Each-at (λ o. is_net_name o.name ≡ true) (outlets b) end o (outlets_named b sound) here);
      stands = (low, some);
      wide = wide;
      free = subst (λ n. IsFree net n (width_in net (at ids place))) (sym name_is) (subst (λ w. IsFree net o.name w) (sym wide) (to.free end o (omega arith) here));
    }

pub shown_here : (b : Block) (first net new : Net) (ids : List Id) (end : ℕ) (o : Outlet) (name : List ℕ) (place : ℕ) → distinct (map (λ p. p.name) (ports b) ++ map (λ p. p.name) (kept_pins b)) ≡ true
    → slice_get (outlets b) end ≡ Some o → name ≡ o.name → place ≡ item_place o.item → Takes net ids o name place → ShownTo b first net ids end
    → Extends net new → new.name ≡ net.name → new.nodes ≡ net.nodes → new.seats ≡ seated net.seats name (width_in net (at ids place)) (Output (at ids place))
    → ((v : At) → Settles new v → v.outs name ≡ v.node (at ids place).0) → ShownTo b first new ids (end + 1)
shown_here b first net new ids end o name place apart here name_is place_is takes to h same nodes seats shows =
    shown_more b first net new ids end o (width_in net (at ids place)) apart here takes.wide to h same nodes
    (seats ∙ ap (λ n. seated net.seats n (width_in net (at ids place)) (Output (at ids place))) name_is ∙ ap (λ k. seated net.seats o.name (width_in net (at ids place)) (Output (at ids k))) place_is)
    (λ v s. ap v.outs (sym name_is) ∙ shows v s ∙ ap (λ k. v.node (at ids k).0) place_is)
