-- Outputs shown one after the other.
use Rattle.std.proofs.Common.{◌≡◌, ℕ, ◌+◌, ◌<◌, ◌≤◌, Some, List, [], ◌∷◌, ◌++◌, length, take, slice_get, refl, sym, ap, ◌∙◌, subst, arith, inl, inr}
use Rattle.std.specs.Prelude.{IsTrue}
use Rattle.std.proofs.lemmas.List.{take_all, take_more, length-take}
use Rattle.std.proofs.lemmas.Option.{get_or_from_slice_get, same_Some, slice_get_within}
use Rattle.plain_lemmas.proofs.Numbers.{below_next-or_same as split}
use Rattle.rb_base.specs.declared.ports.Pin.{Pin}
use Rattle.rtl_net.specs.Value.{At}
use Rattle.rtl_net.specs.Net.{Net, Extends, Has, Settles, Stands, width_in}
use Rattle.rtl_net.specs.Ids.{at}
use Rattle.rtl_net.specs.Names.{is_net_name}
use Rattle.rtl_net.specs.Ports.{IsFree, register_names, seated}
use Rattle.rtl_net.specs.declared.node.Id.{Id}
use Rattle.rtl_net.specs.declared.node.Seat.{Seat}
use Rattle.rtl_net.specs.declared.node.Occupant.TheVariants.{Output}
use Rattle.rtl_net.proofs.Distinct.{differ_from}
use Rattle.rtl_net.proofs.Nets.{Extends-refl, Extends-trans, Stands-extends}
use Rattle.rtl_net.proofs.Others.{IsFree-seated}
use Rattle.gen_ports.specs.Registers.{HaveWidths}
use Rattle.gen_ports.specs.Shows.{CanShow, ShowNodes, shown_seats}

-- one output more
seats_more : (ss : List Seat) (pins : List Pin) (ids : List Id) (r : Pin) (id : Id) → length ids ≡ length pins
    → shown_seats ss (pins ++ r ∷ []) (ids ++ id ∷ []) ≡ seated (shown_seats ss pins ids) r.name r.width (Output id)
seats_more ss [] [] r id e = refl
seats_more ss [] (i ∷ ids) r id e = absurd (omega (arith, e))
seats_more ss (q ∷ pins) [] r id e = absurd (omega (arith, e))
seats_more ss (q ∷ pins) (i ∷ ids) r id e = seats_more (seated ss q.name q.width (Output i)) pins ids r id (omega (arith, e))

seats_none : (ss : List Seat) (ids : List Id) → shown_seats ss [] ids ≡ ss
seats_none ss ids = refl

-- The first outputs are shown, and the others may be added
pub record ShownTo (pins : List Pin) (first net : Net) (ids : List Id) (end : ℕ) : Type 0 where
  pub older : Extends first net
  pub name : net.name ≡ first.name
  pub nodes : net.nodes ≡ first.nodes
  pub seats : net.seats ≡ shown_seats first.seats (take end pins) (take end ids)
  pub shown : (j : ℕ) (r : Pin) → j < end → slice_get pins j ≡ Some r → (v : At) → Settles net v → v.outs r.name ≡ v.node (at ids j).0
  pub free : (j : ℕ) (r : Pin) → end ≤ j → slice_get pins j ≡ Some r → IsFree net r.name r.width

pub shown_none : (pins : List Pin) (net : Net) (ids : List Id) → CanShow net pins → ShownTo pins net net ids 0
shown_none pins net ids can = record {
  older = Extends-refl net;
  name = refl;
  nodes = refl;
  seats = refl;
  shown = λ j r l. absurd (omega (arith, l));
  free = λ j r l e. (can.each j r e).1;
}

-- what the next output is
pub record Next (pins : List Pin) (net : Net) (id : Id) (name : List ℕ) : Type 0 where
  pub named : IsTrue (is_net_name name)
  pub has : Has net id
  pub free : IsFree net name (width_in net id)

pub next_here : (pins : List Pin) (first net : Net) (ids : List Id) (end : ℕ) (r : Pin) (id : Id) → CanShow first pins → HaveWidths first pins ids → slice_get pins end ≡ Some r → id ≡ at ids end
    → ShownTo pins first net ids end → Next pins net id r.name
next_here pins first net ids end r id can wide here is to =
    let stands : Stands net id r.width = subst (λ i. Stands net i r.width) (sym is) (Stands-extends first net (at ids end) r.width to.older (wide.each end r here)) in
    record {
      named = (can.each end r here).0;
      has = (stands.below, subst (λ w. 0 < w) (sym stands.width) stands.some);
      free = subst (λ w. IsFree net r.name w) (sym stands.width) (to.free end r (omega arith) here);
    }

pub shown_more : (pins : List Pin) (first net new : Net) (ids : List Id) (end : ℕ) (r : Pin) (id : Id) → CanShow first pins → HaveWidths first pins ids → slice_get pins end ≡ Some r → slice_get ids end ≡ Some id → id ≡ at ids end
    → ShownTo pins first net ids end → Extends net new → new.name ≡ net.name → new.nodes ≡ net.nodes → new.seats ≡ seated net.seats r.name (width_in net id) (Output id)
    → ((v : At) → Settles new v → v.outs r.name ≡ v.node id.0) → ShownTo pins first new ids (end + 1)
shown_more pins first net new ids end r id can wide here id_here is to h name nodes seats shows = record {
  older = Extends-trans first net new to.older h;
  name = name ∙ to.name;
  nodes = nodes ∙ to.nodes;
  seats =
      let stands = Stands-extends first net (at ids end) r.width to.older (wide.each end r here) in
      let width : width_in net id ≡ r.width = ap (width_in net) is ∙ stands.width in
      let pins_more : take (end + 1) pins ≡ take end pins ++ r ∷ [] = take_more pins end r low ∙ ap (λ q. take end pins ++ q ∷ []) (get_or_from_slice_get pins end r r here) in
      let ids_more : take (end + 1) ids ≡ take end ids ++ id ∷ [] = take_more ids end id (slice_get_within ids end id id_here) ∙ ap (λ q. take end ids ++ q ∷ []) (get_or_from_slice_get ids end id id id_here) in
      seats ∙ ap (λ w. seated net.seats r.name w (Output id)) width ∙ ap (λ ss. seated ss r.name r.width (Output id)) to.seats
      ∙ sym (seats_more first.seats (take end pins) (take end ids) r id same_long)
      ∙ sym (ap (λ xs. shown_seats first.seats xs (take (end + 1) ids)) pins_more ∙ ap (shown_seats first.seats (take end pins ++ r ∷ [])) ids_more);
  shown = λ j q l e v s. elim (split j end l) [
    | inl below ↦ to.shown j q below e v (h.settles v s)
    | inr same ↦
        let q_is : r ≡ q = same_Some r q (sym here ∙ ap (slice_get pins) (sym same) ∙ e) in
        let node : id ≡ at ids j = is ∙ ap (at ids) (sym same) in
        subst (λ (p : Pin). v.outs p.name ≡ v.node (at ids j).0) q_is (shows v s ∙ ap (λ i. v.node i.0) node)
  ];
  free = λ j q l e.
      IsFree-seated net new r.name (width_in net id) (Output id) seats (ap (λ ns. register_names (record net { nodes = ns })) nodes) q.name
      (differ_from q.name r.name (λ same. let z : j ≡ end = can.apart j end q r e here same in absurd (omega (arith, l, z)))) q.width (to.free j q (omega (arith, l)) e);
}
  where
    low : end < length pins
    low = slice_get_within pins end r here

    same_long : length (take end ids) ≡ length (take end pins)
    same_long = let a = length-take end ids in let c = length-take end pins in let e = wide.long in omega (arith, a, c, e, low)

pub all_shown : (pins : List Pin) (first net : Net) (ids : List Id) (end : ℕ) → length pins ≤ end → ShownTo pins first net ids end → ShowNodes net pins ids
all_shown pins first net ids end all to = record { each = λ k r here v s. to.shown k r (let low = slice_get_within pins k r here in omega (arith, low, all)) here v s }

pub all_seats : (pins : List Pin) (first net : Net) (ids : List Id) (end : ℕ) → HaveWidths first pins ids → length pins ≤ end → ShownTo pins first net ids end → net.seats ≡ shown_seats first.seats pins ids
all_seats pins first net ids end wide all to =
    to.seats ∙ ap (λ xs. shown_seats first.seats xs (take end ids)) (take_all end pins all)
    ∙ ap (shown_seats first.seats pins) (take_all end ids (let e = wide.long in omega (arith, e, all)))
