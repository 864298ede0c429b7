-- What each call of a netlist shows, from what its lists were and are.
use Rattle.std.specs.List.{slice_get, list_any}
use Rattle.std.specs.Str.{bytes_eq}
use Rattle.std.specs.Bool.{OnTrue, OnFalse}
use Rattle.std.proofs.Math.ListN.{set}
use Rattle.std.proofs.Common.{ℕ, ◌+◌, ◌≡◌, ◌<◌, ◌≤◌, true, false, ◌||◌, if◌then◌else◌, List, [], ◌∷◌, ◌++◌, length, map, Some, None, inl, inr, refl, ap, sym, ◌∙◌, subst, arith, append-nil, length-append}
use Rattle.std.proofs.lemmas.Bool.{OnTrue_from, OnFalse_from, or_right}
use Rattle.std.proofs.lemmas.List.{map-append}
use Rattle.std.proofs.lemmas.List.Folds.{list_any-append}
use Rattle.rb_base.specs.declared.ports.Pin.{Pin}
use Rattle.rtl_net.specs.Names.{is_net_name, clock}
use Rattle.rtl_net.specs.Value.{At, expr_width, expr_value, under}
use Rattle.rtl_net.specs.Net.{Net, Settles, Extends, Keeps, Grows, IsNode, IsInput, IsWire, IsWidth, CanWire, CanReset, Stands, Has, HasClock, is_clock, Awaits, registers_of, undriven, width_in, widths}
use Rattle.rtl_net.specs.Ports.{seated, IsNew, IsFree}
use Rattle.rtl_net.specs.Made.{IsMade}
use Rattle.rtl_net.specs.Places.{HasNames}
use Rattle.rtl_net.specs.Shared.{LacksWire, SharesWire}
use Rattle.rtl_net.specs.declared.names.Names.{Names}
use Rattle.rtl_net.specs.declared.node.Id.{Id}
use Rattle.rtl_net.specs.declared.node.NetNode.{NetNode}
use Rattle.rtl_net.specs.declared.node.NetNode.TheVariants.{Input, Register, Wire}
use Rattle.rtl_net.specs.declared.node.NetExpr.{NetExpr}
use Rattle.rtl_net.specs.declared.node.NetReset.{NetReset}
use Rattle.rtl_net.specs.declared.node.Seat.{Seat}
use Rattle.rtl_net.specs.declared.node.Occupant.TheVariants as takes
use Rattle.rtl_net.proofs.Places.{slice_get-end, slice_get-within, one_item}
use Rattle.rtl_net.proofs.NameLists.{IsPut, names_more}
use Rattle.rtl_net.proofs.Nets.{Extends-trans, Has-stands}
use Rattle.rtl_net.proofs.Added.{pushed, pushed_extends, pushed_keeps, pushed_stands, pushed_wire, pushed_grows, registers_of-push, undriven-push, width-end}
use Rattle.rtl_net.proofs.Seating.{KeepsTaken-push, KeepsTaken-seated, seats_extend, seated_has}
use Rattle.rtl_net.proofs.Widths.{width_most, width_at, clock_stands}
use Rattle.rtl_net.proofs.Tying.{made_tied, tied_extends, tied_others, tied_after, registers_of-set, undriven-set}
use Rattle.rtl_net.proofs.Making.{made_seat, made_output, made_input, made_register, made_wire, wire_width}

abbrev pub with_seats : Net → List Seat → Net
with_seats net ss = record { name = net.name; nodes = net.nodes; seats = ss }

abbrev pub with_nodes : Net → List NetNode → Net
with_nodes net ns = record { name = net.name; nodes = ns; seats = net.seats }

-- a seat
module _ (net : Net) (name : List ℕ) (w : ℕ) (ss : List Seat) (made : IsMade net) (named : is_net_name name ≡ true) (wide : IsWidth w) (new : IsNew net name)
    (e : ss ≡ net.seats ++ record { name = name; width = w; taken = None } ∷ []) where
  pub seat_made : IsMade (with_seats net ss)
  seat_made = subst (λ x. IsMade (with_seats net x)) (sym e) (made_seat net name w made named wide new)

  pub seat_extends : Extends net (with_seats net ss)
  seat_extends = subst (λ x. Extends net (with_seats net x)) (sym e) (seats_extend net _ (KeepsTaken-push net.seats _))

-- an output
module _ (net : Net) (name : List ℕ) (w : ℕ) (from : Id) (ss : List Seat) (made : IsMade net) (named : is_net_name name ≡ true) (stands : Stands net from w) (free : IsFree net name w)
    (e : ss ≡ seated net.seats name w (takes.Output from)) where
  output_made : IsMade (with_seats net ss)
  output_made =
      let m : width_in net from ≤ 128 = width_most net made from in
      let q : width_in net from ≡ w = stands.width in
      let l : w ≤ 128 = omega arith in
      subst (λ x. IsMade (with_seats net x)) (sym e) (made_output net name w from made named (stands.some, l) free stands)

  output_extends : Extends net (with_seats net ss)
  output_extends = subst (λ x. Extends net (with_seats net x)) (sym e) (seats_extend net _ (KeepsTaken-seated name w (takes.Output from) net.seats free.seats))

  output_shown : (v : At) → Settles (with_seats net ss) v → v.outs name ≡ v.node from.0
  output_shown v s = let r = seated_has name w (takes.Output from) net.seats free.seats in s.edge.outs r.0 name w from (ap (λ x. slice_get x r.0) e ∙ r.1)

-- what the call of an output shows
pub record OutputAdded (net new : Net) (name : List ℕ) (from : Id) : Type 0 where
  pub made : IsMade new
  pub older : Extends net new
  pub shown : (v : At) → Settles new v → v.outs name ≡ v.node from.0

pub output_added : (net : Net) (name : List ℕ) (from : Id) (ss : List Seat) → IsMade net → is_net_name name ≡ true → Has net from → IsFree net name (width_in net from)
    → ss ≡ seated net.seats name (width_in net from) (takes.Output from) → OutputAdded net (with_seats net ss) name from
output_added net name from ss m n h f e = record {
  made = output_made net name (width_in net from) from ss m n (Has-stands net from h) f e;
  older = output_extends net name (width_in net from) from ss m n (Has-stands net from h) f e;
  shown = output_shown net name (width_in net from) from ss m n (Has-stands net from h) f e;
}

-- an input
module _ (net : Net) (name : List ℕ) (w : ℕ) (id : Id) (ns : List NetNode) (ss : List Seat) (made : IsMade net) (named : is_net_name name ≡ true) (wide : IsWidth w)
    (one : OnTrue (bytes_eq name clock) (w ≡ 1)) (free : IsFree net name w) (at : id.0 ≡ length net.nodes)
    (e : ns ≡ net.nodes ++ Input name w ∷ []) (f : ss ≡ seated net.seats name w (takes.Input id)) where
  abbrev with_input : Net
  with_input = record { name = net.name; nodes = ns; seats = ss }

  abbrev seated_input : Net
  seated_input = record { name = net.name; nodes = net.nodes ++ Input name w ∷ []; seats = seated net.seats name w (takes.Input id) }

  same : seated_input ≡ with_input
  same = ap (λ x. record { name = net.name; nodes = x; seats = seated net.seats name w (takes.Input id) }) (sym e) ∙ ap (λ x. record { name = net.name; nodes = ns; seats = x }) (sym f)

  input_made : IsMade with_input
  input_made = subst IsMade same (made_input net name w id at made named wide one free)

  extends_seated : Extends (pushed net (Input name w)) seated_input
  extends_seated = seats_extend (pushed net (Input name w)) seated_input.seats (KeepsTaken-seated name w (takes.Input id) net.seats free.seats)

  input_extends : Extends net with_input
  input_extends = subst (λ x. Extends net x) same (Extends-trans net (pushed net (Input name w)) seated_input (pushed_extends net (Input name w) made) extends_seated)

  input_keeps : Keeps net with_input
  input_keeps = subst (λ x. Keeps net x) same (record { awaits = λ k n u r h. record { is = ((pushed_keeps net (Input name w)).awaits k n u r h).is } })

  input_registers : registers_of ns ≡ registers_of net.nodes
  input_registers = ap registers_of e ∙ registers_of-push net.nodes (Input name w) ∙ append-nil (registers_of net.nodes)

  input_undriven : undriven ns ≡ undriven net.nodes
  input_undriven = let q : undriven (net.nodes ++ Input name w ∷ []) ≡ undriven net.nodes + undriven (Input name w ∷ []) = undriven-push net.nodes (Input name w) in ap undriven e ∙ q ∙ omega arith

  input_is : IsInput with_input id name w
  input_is = record { is = ap (λ x. slice_get x id.0) e ∙ slice_get-end net.nodes (Input name w) id.0 at }

  input_node : OnFalse (bytes_eq name clock) (IsNode with_input id w (λ v. v.ins name))
  input_node = OnFalse_from (bytes_eq name clock) (IsNode with_input id w (λ v. v.ins name)) (λ b.
      let wd : (if bytes_eq name clock then 0 else w) ≡ w = ap (λ x. if x then 0 else w) b in
      record {
        stands = subst (λ x. Stands x id w) same (record {
          below = let l : length (net.nodes ++ Input name w ∷ []) ≡ length net.nodes + 1 = simp length-append in omega (arith, l);
          some = wide.0;
          width = width-end net (Input name w) id at ∙ wd;
        });
        value = λ v s. s.edge.nodes id.0 (Input name w) input_is.is;
      })

  input_clocked : OnTrue (bytes_eq name clock) (HasClock with_input)
  input_clocked = OnTrue_from (bytes_eq name clock) (HasClock with_input) (λ b.
      ap (list_any is_clock) e ∙ list_any-append is_clock net.nodes (Input name w ∷ []) ∙ or_right (list_any is_clock net.nodes) (bytes_eq name clock || false) (ap (λ x. x || false) b))

-- what the call of an input shows
pub record InputAdded (net new : Net) (name : List ℕ) (w : ℕ) (id : Id) : Type 0 where
  pub made : IsMade new
  pub names : map (λ r. r.name) (registers_of net.nodes) ≡ map (λ r. r.name) (registers_of new.nodes)
  pub older : Extends net new
  pub awaits : Keeps net new
  pub registers : registers_of new.nodes ≡ registers_of net.nodes
  pub undriven : undriven new.nodes ≡ undriven net.nodes
  pub input : IsInput new id name w
  pub node : OnFalse (bytes_eq name clock) (IsNode new id w (λ v. v.ins name))
  pub clocked : OnTrue (bytes_eq name clock) (HasClock new)

pub input_added : (net : Net) (name : List ℕ) (w : ℕ) (id : Id) (ns : List NetNode) (ss : List Seat) → IsMade net → is_net_name name ≡ true → IsWidth w → OnTrue (bytes_eq name clock) (w ≡ 1) → IsFree net name w
    → id.0 ≡ length net.nodes → ns ≡ net.nodes ++ Input name w ∷ [] → ss ≡ seated net.seats name w (takes.Input id) → InputAdded net (record { name = net.name; nodes = ns; seats = ss }) name w id
input_added net name w id ns ss m n wd o f a e g = record {
  made = input_made net name w id ns ss m n wd o f a e g;
  names = ap (map (λ r. r.name)) (sym (input_registers net name w id ns ss m n wd o f a e g));
  older = input_extends net name w id ns ss m n wd o f a e g;
  awaits = input_keeps net name w id ns ss m n wd o f a e g;
  registers = input_registers net name w id ns ss m n wd o f a e g;
  undriven = input_undriven net name w id ns ss m n wd o f a e g;
  input = input_is net name w id ns ss m n wd o f a e g;
  node = input_node net name w id ns ss m n wd o f a e g;
  clocked = input_clocked net name w id ns ss m n wd o f a e g;
}

-- a register
module _ (net : Net) (name : List ℕ) (w : ℕ) (reset : NetReset) (id : Id) (ns : List NetNode) (made : IsMade net) (named : is_net_name name ≡ true) (wide : IsWidth w)
    (clocked : HasClock net) (can : CanReset net w reset) (new : IsNew net name) (at : id.0 ≡ length net.nodes) (e : ns ≡ net.nodes ++ Register name w reset None ∷ []) where
  abbrev waiting : NetNode
  waiting = Register name w reset None

  register_made : IsMade (with_nodes net ns)
  register_made = let k = clock_stands net made clocked in subst (λ x. IsMade (with_nodes net x)) (sym e) (made_register net name w reset k.0 made named wide can k.1 new)

  register_extends : Extends net (with_nodes net ns)
  register_extends = subst (λ x. Extends net (with_nodes net x)) (sym e) (pushed_extends net waiting made)

  register_keeps : Keeps net (with_nodes net ns)
  register_keeps = subst (λ x. Keeps net (with_nodes net x)) (sym e) (pushed_keeps net waiting)

  register_registers : registers_of ns ≡ registers_of net.nodes ++ record { name = name; width = w } ∷ []
  register_registers = ap registers_of e ∙ registers_of-push net.nodes waiting

  register_undriven : undriven ns ≡ undriven net.nodes + 1
  register_undriven = ap undriven e ∙ undriven-push net.nodes waiting

  register_awaits : Awaits (with_nodes net ns) id name w reset
  register_awaits = record { is = ap (λ x. slice_get x id.0) e ∙ slice_get-end net.nodes waiting id.0 at }

  register_node : IsNode (with_nodes net ns) id w (λ v. under v.node reset (v.kept name))
  register_node = record {
    stands = subst (λ x. Stands (with_nodes net x) id w) (sym e) (pushed_stands net waiting id at wide.0);
    value = λ v s. s.edge.nodes id.0 waiting register_awaits.is;
  }

-- the registers' names after one more
pub names_pushed : (rs rs' : List Pin) (old new : Names) (r : Pin) (at : ℕ) → HasNames old (map (λ x. x.name) rs) → IsPut r.name at old new → rs' ≡ rs ++ r ∷ [] → HasNames new (map (λ x. x.name) rs')
names_pushed rs rs' old new r at h put e = subst (HasNames new) (sym (ap (map (λ x. x.name)) e ∙ map-append (λ x. x.name) rs (r ∷ []))) (names_more old new (map (λ x. x.name) rs) r.name at h put)

-- what the call of a register shows
pub record RegisterAdded (net new : Net) (name : List ℕ) (w : ℕ) (reset : NetReset) (id : Id) : Type 0 where
  pub made : IsMade new
  pub older : Extends net new
  pub awaits : Keeps net new
  pub registers : registers_of new.nodes ≡ registers_of net.nodes ++ record { name = name; width = w } ∷ []
  pub undriven : undriven new.nodes ≡ undriven net.nodes + 1
  pub register : Awaits new id name w reset
  pub node : IsNode new id w (λ v. under v.node reset (v.kept name))

pub register_added : (net : Net) (name : List ℕ) (w : ℕ) (reset : NetReset) (id : Id) (ns : List NetNode) → IsMade net → is_net_name name ≡ true → IsWidth w → HasClock net → CanReset net w reset → IsNew net name
    → id.0 ≡ length net.nodes → ns ≡ net.nodes ++ Register name w reset None ∷ [] → RegisterAdded net (with_nodes net ns) name w reset id
register_added net name w reset id ns m n wd k c f a e = record {
  made = register_made net name w reset id ns m n wd k c f a e;
  older = register_extends net name w reset id ns m n wd k c f a e;
  awaits = register_keeps net name w reset id ns m n wd k c f a e;
  registers = register_registers net name w reset id ns m n wd k c f a e;
  undriven = register_undriven net name w reset id ns m n wd k c f a e;
  register = register_awaits net name w reset id ns m n wd k c f a e;
  node = register_node net name w reset id ns m n wd k c f a e;
}

-- a new wire
module _ (net : Net) (x : NetExpr) (id : Id) (ns : List NetNode) (made : IsMade net) (can : CanWire net x) (lacks : LacksWire net.nodes x) (at : id.0 ≡ length net.nodes) (e : ns ≡ net.nodes ++ Wire x ∷ []) where
  wire_made : IsMade (with_nodes net ns)
  wire_made = subst (λ y. IsMade (with_nodes net y)) (sym e) (made_wire net x made can (wire_width net x (width_most net made) can).1 lacks)

  wire_names : map (λ r. r.name) (registers_of net.nodes) ≡ map (λ r. r.name) (registers_of ns)
  wire_names = ap (map (λ r. r.name)) (sym (ap registers_of e ∙ registers_of-push net.nodes (Wire x) ∙ append-nil (registers_of net.nodes)))

  wire_grows : Grows net (with_nodes net ns)
  wire_grows = subst (λ y. Grows net (with_nodes net y)) (sym e) (pushed_grows net x made)

  wire_node : IsNode (with_nodes net ns) id (expr_width (widths net) x) (λ v. expr_value (widths net) v.node x)
  wire_node = subst (λ y. IsNode (with_nodes net y) id (expr_width (widths net) x) (λ v. expr_value (widths net) v.node x)) (sym e) (pushed_wire net x made can id at (wire_width net x (width_most net made) can).0)

  wire_is : IsWire (with_nodes net ns) id x
  wire_is = record { is = ap (λ y. slice_get y id.0) e ∙ slice_get-end net.nodes (Wire x) id.0 at }

-- what the call of a new wire shows
pub record WireAdded (net new : Net) (x : NetExpr) (id : Id) : Type 0 where
  pub made : IsMade new
  pub names : map (λ r. r.name) (registers_of net.nodes) ≡ map (λ r. r.name) (registers_of new.nodes)
  pub older : Grows net new
  pub node : IsNode new id (expr_width (widths net) x) (λ v. expr_value (widths net) v.node x)
  pub wire : IsWire new id x

pub wire_added : (net : Net) (x : NetExpr) (id : Id) (ns : List NetNode) → IsMade net → CanWire net x → LacksWire net.nodes x → id.0 ≡ length net.nodes → ns ≡ net.nodes ++ Wire x ∷ []
    → WireAdded net (with_nodes net ns) x id
wire_added net x id ns m c l a e = record {
  made = wire_made net x id ns m c l a e;
  names = wire_names net x id ns m c l a e;
  older = wire_grows net x id ns m c l a e;
  node = wire_node net x id ns m c l a e;
  wire = wire_is net x id ns m c l a e;
}

-- a wire that stands
pub standing_node : (net : Net) (x : NetExpr) (id : Id) → IsMade net → IsWire net id x → id.0 < length net.nodes → CanWire net x
    → IsNode net id (expr_width (widths net) x) (λ v. expr_value (widths net) v.node x)
standing_node net x id made is below can = record {
  stands = record { below = below; some = (wire_width net x (width_most net made) can).0; width = width_at net made id.0 (Wire x) is.is below };
  value = λ v s. s.edge.nodes id.0 (Wire x) is.is;
}

-- the wire that stands, or a new one
pub wire_shared : (net : Net) (x : NetExpr) (id : Id) (ns : List NetNode) → IsMade net → CanWire net x → SharesWire net.nodes ns x id → WireAdded net (with_nodes net ns) x id
wire_shared net x id ns m c (inr s) = wire_added net x id ns m c s.2 s.1 s.0
wire_shared net x id ns m c (inl s) = subst (λ y. WireAdded net (with_nodes net y) x id) (sym s.0) (record {
  made = m;
  names = refl;
  older = record {
    settles = λ v h. h;
    count = omega arith;
    width = λ i h. refl;
    inputs = λ i name w h. h;
    clock = λ h. h;
    awaits = λ i name w reset h. h;
    registers = refl;
    undriven = refl;
    seats = refl;
  };
  node = standing_node net x id m (record { is = s.1 }) (slice_get-within _ _ _ s.1) c;
  wire = record { is = s.1 };
})

-- what the call that drives a register shows
pub record Driven (net new : Net) (reg next : Id) (name : List ℕ) (reset : NetReset) : Type 0 where
  pub made : IsMade new
  pub older : Extends net new
  pub others : (id : Id) (m : List ℕ) (u : ℕ) (r : NetReset) → (id.0 ≡ reg.0 → ⊥) → Awaits net id m u r → Awaits new id m u r
  pub registers : registers_of new.nodes ≡ registers_of net.nodes
  pub undriven : undriven new.nodes + 1 ≡ undriven net.nodes
  pub driven : (v : At) → Settles new v → v.after name ≡ under v.node reset (v.node next.0)

pub register_driven : (net : Net) (name : List ℕ) (w : ℕ) (reset : NetReset) (reg next : Id) (ns : List NetNode) → IsMade net → Awaits net reg name w reset → Stands net next w
    → ns ≡ set net.nodes reg.0 (Register name w reset (Some next)) → Driven net (with_nodes net ns) reg next name reset
register_driven net name w reset reg next ns m a s e = subst (λ x. Driven net (with_nodes net x) reg next name reset) (sym e) (record {
  made = made_tied name w reset next net reg a m s;
  older = tied_extends name w reset next net reg a;
  others = tied_others name w reset next net reg a;
  registers = registers_of-set name w reset next net.nodes reg.0 a.is;
  undriven = undriven-set name w reset next net.nodes reg.0 a.is;
  driven = tied_after name w reset next net reg a;
})

-- one register waits at a place
pub one_waiting : (net : Net) (id : Id) (name n : List ℕ) (w u : ℕ) (reset r : NetReset) → Awaits net id name w reset → Awaits net id n u r → (name ≡ n) × (reset ≡ r)
one_waiting net id name n w u reset r a b =
    let e : Register name w reset None ≡ Register n u r None = one_item net.nodes id.0 _ _ a.is b.is in
    (cc, cc)
