-- At an edge whose inputs and contents are within their widths all is within its width.
use Rattle.std.specs.List.{slice_get}
use Rattle.std.specs.Str.{bytes_eq}
use Rattle.std.proofs.Common.{suc, ℕ, ◌≡◌, ◌<◌, ◌^◌, ◌==◌, Bool, true, false, if◌then◌else◌, List, [], ◌∷◌, length, get_or, Option, Some, None, refl, ap, sym, ◌∙◌, subst, arith}
use Rattle.rb_base.specs.declared.ports.Pin.{Pin}
use Rattle.rtl_net.specs.Names.{clock}
use Rattle.rtl_net.specs.Value.{At, Values, node_value, node_width, under, operands}
use Rattle.rtl_net.specs.Net.{Net, IsEdge, Settles, widths, width_in, Has, Stands, CanReset, undriven}
use Rattle.rtl_net.specs.Made.{IsMade, IsNodeMade}
use Rattle.rtl_net.specs.Run.{by_output, is_output, inputs, outputs, registers, SameAt, NetEdge, NetRun}
use Rattle.rtl_net.specs.Fits.{FitsPins, AllFit, ValuesFit, EdgeFits}
use Rattle.rtl_net.specs.declared.node.Id.{Id}
use Rattle.rtl_net.specs.declared.node.NetNode.{NetNode}
use Rattle.rtl_net.specs.declared.node.NetNode.TheVariants.{Input, Register, Wire}
use Rattle.rtl_net.specs.declared.node.NetReset.{NetReset}
use Rattle.rtl_net.specs.declared.node.NetReset.TheVariants as resets
use Rattle.rtl_net.specs.declared.node.Seat.{Seat}
use Rattle.rtl_net.specs.declared.node.Occupant.{Occupant}
use Rattle.rtl_net.specs.declared.node.Occupant.TheVariants as takes
use Rattle.rtl_net.proofs.Places.{item_at}
use Rattle.rtl_net.proofs.Widths.{width_at}
use Rattle.rtl_net.proofs.Values.{expr_fits}
use Rattle.rtl_net.proofs.Numbers.{pick_fits}
use Rattle.rtl_net.proofs.Nets.{fits_at}
use Rattle.rtl_net.proofs.Pins.{each_seat_pin, register_at_pin, each_register_pin, fit_of_pins, pins_of_fit}
use Rattle.plain_lemmas.proofs.Lists.{each-both as each_two}
use Rattle.rtl_net.proofs.OneRun.{each_number, operands_have, width_some, input_pin, none_waits}

under_fits : (net : Net) (f : ℕ → ℕ) (w : ℕ) (reset : NetReset) (x : ℕ) → CanReset net w reset → x < 2 ^ w → under f reset x < 2 ^ w
under_fits net f w resets.None x c h = h
under_fits net f w (resets.Async pin low value) x c h = pick_fits (if low then f pin.0 == 0 else f pin.0 == 1) value x (2 ^ w) c.3 h

module _ (net : Net) (made : IsMade net) (v : At) (p : IsEdge net v) (ins : ValuesFit v.ins (inputs net)) (kept : ValuesFit v.kept (registers net)) where
  -- the value of a node that expressions may name is within its width
  abbrev Fits : ℕ → Type 0
  Fits i = i < length net.nodes → 0 < get_or (widths net) i 0 → v.node i < 2 ^ get_or (widths net) i 0

  input_fits : (b : Bool) (x w : ℕ) → b ≡ false → x < 2 ^ w → x < 2 ^ (if b then 0 else w)
  input_fits true x w e h = cc
  input_fits false x w e h = h

  node_fits : (i : ℕ) (n : NetNode) → slice_get net.nodes i ≡ Some n → IsNodeMade net i n → 0 < node_width (widths net) n → ((j : ℕ) → j < i → Fits j) → node_value v (widths net) n < 2 ^ node_width (widths net) n
  node_fits i (Input name w) g m h before =
      let other = width_some (bytes_eq name clock) w h in
      input_fits (bytes_eq name clock) (v.ins name) w other (input_pin net made (λ p. v.ins p.name < 2 ^ p.width) ins (record { 0 = i }) name w (record { is = g }) other)
  node_fits i (Register name w reset next) g m h before = under_fits net v.node w reset (v.kept name) m.1 (register_at_pin (λ p. v.kept p.name < 2 ^ p.width) net.nodes i name w reset next kept g)
  node_fits i (Wire e) g m h before =
      expr_fits net v.node e m.0
      (each_two (λ a. a.0 < i) (Has net) (λ a. v.node a.0 < 2 ^ width_in net a) (operands e) (λ a l r. before a.0 l r.0 r.1) m.1 (operands_have net e m.0))

  fits_step : (i : ℕ) → ((j : ℕ) → j < i → Fits j) → Fits i
  fits_step i before l h =
      let r = item_at net.nodes i l in
      let w : get_or (widths net) i 0 ≡ node_width (widths net) r.0 = width_at net made i r.0 r.1 l in
      subst (λ z. v.node i < 2 ^ z) (sym w) (subst (λ z. z < 2 ^ node_width (widths net) r.0) (sym (p.nodes i r.0 r.1)) (node_fits i r.0 r.1 (made.nodes i r.0 r.1) (subst (λ z. 0 < z) w h) before))

  pub settles : Settles net v
  settles = record { edge = p; fits = λ id h. each_number Fits fits_step (suc id.0) id.0 (omega arith) h.0 h.1 }

  out_fits : (i : ℕ) (s : Seat) → slice_get net.seats i ≡ Some s → (t : Option Occupant) → s.taken ≡ t → is_output s ≡ true → v.outs s.name < 2 ^ s.width
  out_fits i s g None e k = absurd (let z : false ≡ true = sym (ap (λ t. by_output t) e) ∙ k in cc)
  out_fits i s g (Some (takes.Input id)) e k = absurd (let z : false ≡ true = sym (ap (λ t. by_output t) e) ∙ k in cc)
  out_fits i s g (Some (takes.Output from)) e k =
      let h : slice_get net.seats i ≡ Some (record { name = s.name; width = s.width; taken = Some (takes.Output from) }) = g ∙ ap (λ t. Some (record { name = s.name; width = s.width; taken = t })) e in
      let st : Stands net from s.width = (made.seats i _ h).1 in
      subst (λ z. z < 2 ^ s.width) (sym (p.outs i s.name s.width from h)) (fits_at net v from s.width settles st)

  pub outs_fit : ValuesFit v.outs (outputs net)
  outs_fit = each_seat_pin (λ p. v.outs p.name < 2 ^ p.width) is_output net.seats (λ i s g k. out_fits i s g s.taken refl k)

  module _ (driven : undriven net.nodes ≡ 0) where
    next_fits : (i : ℕ) (name : List ℕ) (w : ℕ) (reset : NetReset) (next : Option Id) → slice_get net.nodes i ≡ Some (Register name w reset next) → v.after name < 2 ^ w
    next_fits i name w reset None g = absurd (none_waits net.nodes i name w reset driven g)
    next_fits i name w reset (Some next) g =
        let m = made.nodes i _ g in
        let st : Stands net next w = m.3 in
        subst (λ z. z < 2 ^ w) (sym (p.nexts i name w reset next g)) (under_fits net v.node w reset (v.node next.0) m.1 (fits_at net v next w settles st))

    pub after_fits : ValuesFit v.after (registers net)
    after_fits = each_register_pin (λ p. v.after p.name < 2 ^ p.width) net.nodes (λ i name w reset next g. next_fits i name w reset next g)

same_fit : (u v : Values) (ps : List Pin) → SameAt u v ps → ValuesFit v ps → ValuesFit u ps
same_fit u v ps = each_two (λ p. u p.name ≡ v p.name) (λ p. v p.name < 2 ^ p.width) (λ p. u p.name < 2 ^ p.width) ps (λ p e h. subst (λ z. z < 2 ^ p.width) (sym e) h)

fit_same : (u v : Values) (ps : List Pin) → SameAt u v ps → ValuesFit u ps → ValuesFit v ps
fit_same u v ps = each_two (λ p. u p.name ≡ v p.name) (λ p. u p.name < 2 ^ p.width) (λ p. v p.name < 2 ^ p.width) ps (λ p e h. subst (λ z. z < 2 ^ p.width) e h)

module _ (net : Net) (made : IsMade net) (driven : undriven net.nodes ≡ 0) where
  pub edge_fits : (contents after : Values) (ins outs : List ℕ) → ValuesFit contents (registers net) → FitsPins (inputs net) ins → (e : NetEdge net contents ins outs after) → EdgeFits net e.at outs after
  edge_fits contents after ins outs c f e =
      let i : ValuesFit e.at.ins (inputs net) = fit_of_pins e.at.ins (inputs net) (subst (FitsPins (inputs net)) (sym e.given) f) in
      let k : ValuesFit e.at.kept (registers net) = same_fit e.at.kept contents (registers net) e.kept c in
      record {
        settles = settles net made e.at e.edge i k;
        outs_fit = subst (FitsPins (outputs net)) e.seen (pins_of_fit e.at.outs (outputs net) (outs_fit net made e.at e.edge i k));
        contents = fit_same e.at.after after (registers net) e.moved (after_fits net made e.at e.edge i k driven);
      }

  pub run_fits : (contents : Values) (vectors results : List (List ℕ)) → ValuesFit contents (registers net) → AllFit (inputs net) vectors → NetRun net contents vectors results → AllFit (outputs net) results
  run_fits contents [] [] c f r = tt
  run_fits contents [] (o ∷ os) c f r = absurd r
  run_fits contents (x ∷ xs) [] c f r = absurd r
  run_fits contents (x ∷ xs) (o ∷ os) c f r = let e = edge_fits contents r.0 x o c f.0 r.1 in (e.outs_fit, run_fits r.0 xs os e.contents f.1 r.2)
