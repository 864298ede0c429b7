-- Ports laid one after the other.
use Rattle.std.proofs.Common.{◌≡◌, ℕ, zero, suc, ◌+◌, ◌<◌, ◌≤◌, ◌==◌, Bool, true, false, ◌&&◌, ◌||◌, if◌then◌else◌, Option, Some, None, is_none, List, [], ◌∷◌, ◌++◌, codes, length, map, filter, take, slice_get, get_or, not, refl, sym, ap, ◌∙◌, subst, arith, inl, inr, ◌⊎◌}
use Rattle.std.specs.Prelude.{Contains}
use Rattle.std.specs.Bool.{OnFalse, OnTrue}
use Rattle.std.specs.List.{list_any}
use Rattle.std.specs.Str.{bytes_eq}
use Rattle.std.proofs.lemmas.Bool.{eq-eqb}
use Rattle.std.proofs.lemmas.List.{length-append, map-append, take_all}
use Rattle.std.proofs.lemmas.Option.{same_Some, slice_get_read, get_or_from_slice_get, slice_get_within}
use Rattle.plain_lemmas.proofs.Bools.{false-of_not as not_false, true-of_not as not_true}
use Rattle.plain_lemmas.proofs.Lists.{append-none as append_nil, get-front_of as front, get-map_at as mapped_at}
use Rattle.rb_base.specs.declared.ports.Dir.{Dir}
use Rattle.rb_base.specs.declared.ports.Dir.TheVariants.{In, Out}
use Rattle.rb_base.specs.declared.ports.Pin.{Pin}
use Rattle.rb_base.specs.declared.ports.Port.{Port}
use Rattle.v_design.specs.Design.{inputs_among, is_data_input, is_output, outputs_among, port_pin}
use Rattle.rtl_net.specs.Names.{Lacks, clock}
use Rattle.rtl_net.specs.Net.{Net, Extends, HasClock, IsInput, IsNode, registers_of, undriven}
use Rattle.rtl_net.specs.Ids.{at}
use Rattle.rtl_net.specs.Ports.{IsFree, IsNew, has_room, seat_names, seated}
use Rattle.rtl_net.specs.declared.node.Id.{Id}
use Rattle.rtl_net.specs.declared.node.Seat.{Seat}
use Rattle.rtl_net.specs.declared.node.Occupant.{Occupant}
use Rattle.rtl_net.specs.declared.node.Occupant.TheVariants.{Input}
use Rattle.rtl_net.proofs.Nets.{Extends-refl, Extends-trans, IsNode-extends}
use Rattle.rb_model.specs.Ports.{input, pin}
use Rattle.rb_model.specs.References.{Each}
use Rattle.rb_model.proofs.Apart.{Apart, Apart-from, Name, bytes_eq-from, bytes_eq-not}
use Rattle.rb_model.proofs.Eachs.{Each-at, Each-left, Each-map, Each-passing}
use Rattle.gen_scene.specs.Bases.{IsPinNode}
use Rattle.gen_ports.specs.Laid.{AreInputs, AreSeatsOf, CanLay, HasPort, HasPortIf, IsPort, IsSeatOf, IsTakenAs}

-- Lists

filtered : {X : Type 0} (test : X → Bool) (xs : List X) (x : X) → filter test (xs ++ x ∷ []) ≡ filter test xs ++ (if test x then x ∷ [] else [])
filtered test [] x = by (test x)
  where
    by : (c : Bool) → (if c then x ∷ [] else []) ≡ (if c then x ∷ [] else [])
    by c = refl
filtered test (y ∷ ys) x = by (test y) (filtered test ys x)
  where
    by : (c : Bool) → filter test (ys ++ x ∷ []) ≡ filter test ys ++ (if test x then x ∷ [] else [])
        → (if c then y ∷ filter test (ys ++ x ∷ []) else filter test (ys ++ x ∷ [])) ≡ (if c then y ∷ filter test ys else filter test ys) ++ (if test x then x ∷ [] else [])
    by true e = ap (λ zs. y ∷ zs) e
    by false e = e

pins_more : (ps : List Port) (p : Port) → inputs_among (ps ++ p ∷ []) ≡ inputs_among ps ++ map port_pin (if is_data_input p then p ∷ [] else [])
pins_more ps p = ap (map port_pin) (filtered is_data_input ps p) ∙ map-append port_pin (filter is_data_input ps) (if is_data_input p then p ∷ [] else [])

-- Seats and names

abbrev pub port_names : List Port → List Name
port_names ps = map (λ p. p.name) ps

pub names_of : (ss : List Seat) (ps : List Port) → AreSeatsOf ss ps → seat_names ss ≡ port_names ps
names_of [] [] h = refl
names_of [] (p ∷ ps) h = absurd h
names_of (s ∷ ss) [] h = absurd h
names_of (s ∷ ss) (p ∷ ps) h = ap (λ n. n ∷ seat_names ss) h.0.name ∙ ap (λ ns. p.name ∷ ns) (names_of ss ps h.1)

seats_more : (ss : List Seat) (ps : List Port) (s : Seat) (p : Port) → AreSeatsOf ss ps → IsSeatOf s p → AreSeatsOf (ss ++ s ∷ []) (ps ++ p ∷ [])
seats_more [] [] s p h k = (k, tt)
seats_more [] (q ∷ ps) s p h k = absurd h
seats_more (r ∷ ss) [] s p h k = absurd h
seats_more (r ∷ ss) (q ∷ ps) s p h k = (h.0, seats_more ss ps s p h.1 k)

-- a port's name is not among those before it
lacks_before : (ps : List Port) (k : ℕ) (p : Port) → Apart (port_names ps) → slice_get ps k ≡ Some p → Lacks (port_names (take k ps)) p.name
lacks_before [] k p a e = cc
lacks_before (q ∷ ps) zero p a e = refl
lacks_before (q ∷ ps) (suc k) p a e =
    let ne : p.name ≡ q.name → ⊥ = Each-at (λ m. m ≡ q.name → ⊥) (port_names ps) k p.name a.0 (mapped_at (λ (r : Port). r.name) ps k p e) in
    ap (λ c. c || list_any (bytes_eq p.name) (port_names (take k ps))) (bytes_eq-not p.name q.name ne) ∙ lacks_before ps k p a.1 e

free_room : (s : Seat) (ss : List Seat) (p : Port) → s.name ≡ p.name → s.width ≡ p.width → s.taken ≡ None → has_room (s ∷ ss) p.name p.width ≡ true
free_room s ss p n w t =
    let named : bytes_eq p.name s.name ≡ true = bytes_eq-from p.name s.name (sym n) in
    let wide : (s.width == p.width) ≡ true = eq-eqb s.width p.width w in
    ap (λ c. if c then is_none s.taken && s.width == p.width else has_room ss p.name p.width) named ∙ ap (λ o. is_none o && s.width == p.width) t ∙ wide

free_of : (d : Dir) (t : Option Occupant) → d ≡ Out → IsTakenAs d t → t ≡ None
free_of In t d h = cc
free_of Out t d h = h

-- the free seat of an output has room for it
room : (ss : List Seat) (ps : List Port) (k : ℕ) (p : Port) → AreSeatsOf ss ps → Apart (port_names ps) → slice_get ps k ≡ Some p → p.dir ≡ Out → has_room ss p.name p.width ≡ true
room [] [] k p h a e d = cc
room [] (q ∷ ps) k p h a e d = absurd h
room (s ∷ ss) [] k p h a e d = absurd h
room (s ∷ ss) (q ∷ ps) zero p h a e d =
    let same : q ≡ p = same_Some q p e in
    let s_name : s.name ≡ p.name = h.0.name ∙ ap (λ r. r.name) same in
    let s_width : s.width ≡ p.width = h.0.width ∙ ap (λ r. r.width) same in
    free_room s ss p s_name s_width (free_of q.dir s.taken (ap (λ r. r.dir) same ∙ d) h.0.taken)
room (s ∷ ss) (q ∷ ps) (suc k) p h a e d =
    let ne : p.name ≡ q.name → ⊥ = Each-at (λ m. m ≡ q.name → ⊥) (port_names ps) k p.name a.0 (mapped_at (λ (r : Port). r.name) ps k p e) in
    let other : bytes_eq p.name s.name ≡ false = ap (bytes_eq p.name) h.0.name ∙ bytes_eq-not p.name q.name ne in
    ap (λ c. if c then is_none s.taken && s.width == p.width else has_room ss p.name p.width) other ∙ room ss ps k p h.1 a.1 e d

-- where no seat has the name there is room for it
lacks_room : (ss : List Seat) (name : Name) (w : ℕ) → Lacks (seat_names ss) name → has_room ss name w ≡ true
lacks_room [] name w h = refl
lacks_room (s ∷ ss) name w h = by (bytes_eq name s.name) refl h (lacks_room ss name w)
  where
    by : (c : Bool) → bytes_eq name s.name ≡ c → (c || list_any (bytes_eq name) (seat_names ss)) ≡ false → (Lacks (seat_names ss) name → has_room ss name w ≡ true) → has_room (s ∷ ss) name w ≡ true
    by true e k more = cc
    by false e k more = ap (λ c. if c then is_none s.taken && s.width == w else has_room ss name w) e ∙ more k

-- One port

pub on_true : {X : Type 0} (c : Bool) → c ≡ true → OnTrue c X → X
on_true true e h = h
on_true false e h = cc

pub on_false : {X : Type 0} (c : Bool) → c ≡ false → OnFalse c X → X
on_false true e h = cc
on_false false e h = h

pub told_true : {X : Type 0} (c : Bool) → (c ≡ true → X) → OnTrue c X
told_true true h = h refl
told_true false h = tt

seated_is : (ss : List Seat) (name : Name) (w : ℕ) (t : Occupant) → Lacks (seat_names ss) name → seated ss name w t ≡ ss ++ record { name = name; width = w; taken = Some t } ∷ []
seated_is [] name w t h = refl
seated_is (s ∷ ss) name w t h = by (bytes_eq name s.name) refl h (seated_is ss name w t)
  where
    by : (c : Bool) → bytes_eq name s.name ≡ c → (c || list_any (bytes_eq name) (seat_names ss)) ≡ false
        → (Lacks (seat_names ss) name → seated ss name w t ≡ ss ++ record { name = name; width = w; taken = Some t } ∷ []) → seated (s ∷ ss) name w t ≡ s ∷ ss ++ record { name = name; width = w; taken = Some t } ∷ []
    by true e k more = cc
    by false e k more = ap (λ c. if c then record { name = s.name; width = s.width; taken = Some t } ∷ ss else s ∷ seated ss name w t) e ∙ ap (λ rs. s ∷ rs) (more k)

taken_in : (d : Dir) (id : Id) → d ≡ In → IsTakenAs d (Some (Input id))
taken_in In id e = (id, refl)
taken_in Out id e = cc

free_out : (d : Dir) → d ≡ Out → IsTakenAs d None
free_out In e = cc
free_out Out e = refl

pub seat_in : (old new : Net) (p : Port) (name : Name) (w : ℕ) (id : Id) → name ≡ p.name → w ≡ p.width → p.dir ≡ In → IsNew old p.name → new.seats ≡ seated old.seats name w (Input id) → (s : Seat) × (new.seats ≡ old.seats ++ s ∷ []) × IsSeatOf s p
seat_in old new p name w id n u d is_new e = (
  record { name = name; width = w; taken = Some (Input id) },
  e ∙ seated_is old.seats name w (Input id) (subst (Lacks (seat_names old.seats)) (sym n) is_new.seats),
  record { name = n; width = u; taken = taken_in p.dir id d },
)

pub seat_out : (old new : Net) (p : Port) (name : Name) (w : ℕ) → name ≡ p.name → w ≡ p.width → p.dir ≡ Out → new.seats ≡ old.seats ++ record { name = name; width = w; taken = None } ∷ [] → (s : Seat) × (new.seats ≡ old.seats ++ s ∷ []) × IsSeatOf s p
seat_out old new p name w n u d e = (record { name = name; width = w; taken = None }, e, record { name = n; width = u; taken = free_out p.dir d })

-- what a test against the clock's name tells
pub other_name : (name other : Name) (r : Bool) → r ≡ not (bytes_eq name other) → r ≡ true → other ≡ clock → bytes_eq name clock ≡ false
other_name name other r told true_ is = subst (λ n. bytes_eq name n ≡ false) is (not_false (bytes_eq name other) (sym told ∙ true_))

pub same_name : (name other : Name) (r : Bool) → r ≡ not (bytes_eq name other) → r ≡ false → other ≡ clock → bytes_eq name clock ≡ true
same_name name other r told false_ is = subst (λ n. bytes_eq name n ≡ true) is (not_true (bytes_eq name other) (sym told ∙ false_))

is_pin_in : (p : Port) → p.dir ≡ In → bytes_eq p.name clock ≡ false → is_data_input p ≡ true
is_pin_in p d n = rw (d, n) refl

is_pin_clock : (p : Port) → p.dir ≡ In → bytes_eq p.name clock ≡ true → is_data_input p ≡ false
is_pin_clock p d n = rw (d, n) refl

is_pin_out : (p : Port) → p.dir ≡ Out → is_data_input p ≡ false
is_pin_out p d = rw d refl

pub pin_in : (net : Net) (p : Port) (name : Name) (w : ℕ) (old new : List Id) (id : Id) → name ≡ p.name → w ≡ p.width → p.dir ≡ In → bytes_eq name clock ≡ false → new ≡ old ++ id ∷ []
    → IsInput net id name w → IsNode net id w (λ v. v.ins name) → HasPort net p old new
pin_in net p name w old new id n u d other e i h =
    subst (λ c. HasPortIf c net p old new) (sym (is_pin_in p d (subst (λ m. bytes_eq m clock ≡ false) n other))) (
      id,
      e,
      record {
        input = subst (λ m. IsInput net id m p.width) n (subst (IsInput net id name) u i);
        node = subst (λ m. IsNode net id p.width (λ v. v.ins m)) n (subst (λ k. IsNode net id k (λ v. v.ins name)) u h);
      },
    )

pub pin_clock : (net : Net) (p : Port) (name : Name) (ids : List Id) → name ≡ p.name → p.dir ≡ In → bytes_eq name clock ≡ true → HasPort net p ids ids
pin_clock net p name ids n d is = subst (λ c. HasPortIf c net p ids ids) (sym (is_pin_clock p d (subst (λ m. bytes_eq m clock ≡ true) n is))) refl

pub pin_out : (net : Net) (p : Port) (ids : List Id) → p.dir ≡ Out → HasPort net p ids ids
pin_out net p ids d = subst (λ c. HasPortIf c net p ids ids) (sym (is_pin_out p d)) refl

-- The ports up to a place are laid

pub record PortsTo (laid : List Port) (first net : Net) (ids : List Id) (end : ℕ) : Type 0 where
  pub older : Extends first net
  pub name : net.name ≡ first.name
  pub registers : registers_of net.nodes ≡ registers_of first.nodes
  pub undriven : undriven net.nodes ≡ undriven first.nodes
  pub seats : AreSeatsOf net.seats (take end laid)
  pub clocked : 0 < end → HasClock net
  pub inputs : AreInputs net ids (inputs_among (take end laid))

pub none_yet : (laid : List Port) (net : Net) → net.seats ≡ [] → PortsTo laid net net [] 0
none_yet laid net e = record {
  older = Extends-refl net;
  name = refl;
  registers = refl;
  undriven = refl;
  seats = subst (λ ss. AreSeatsOf ss []) (sym e) tt;
  clocked = λ l. absurd (omega (arith, l));
  inputs = record { long = refl; each = λ k p e. cc };
}

-- the port at a place
pub port_at : (laid : List Port) → CanLay laid → (k : ℕ) (p : Port) → slice_get laid k ≡ Some p → IsPort p
port_at laid can k p e = Each-at IsPort laid k p can.each e

all_apart : (laid : List Port) → CanLay laid → Apart (port_names laid)
all_apart laid can = Apart-from (port_names laid) can.apart

-- its name is new
pub next_new : (laid : List Port) (first net : Net) (ids : List Id) (end : ℕ) (p : Port) → CanLay laid → registers_of first.nodes ≡ [] → PortsTo laid first net ids end
    → slice_get laid end ≡ Some p → IsNew net p.name
next_new laid first net ids end p can plain sofar here = record {
  seats = subst (λ ns. Lacks ns p.name) (sym (names_of net.seats (take end laid) sofar.seats)) (lacks_before laid end p (all_apart laid can) here);
  registers = subst (λ rs. Lacks (map (λ r. r.name) rs) p.name) (sym (sofar.registers ∙ plain)) refl;
}

pub free_when_new : (net : Net) (name : Name) (w : ℕ) → IsNew net name → IsFree net name w
free_when_new net name w h = record { seats = lacks_room net.seats name w h.seats; registers = h.registers }

pub free_named : (net : Net) (p : Port) (name : Name) (w : ℕ) → name ≡ p.name → IsNew net p.name → IsFree net name w
free_named net p name w n h = free_when_new net name w (subst (IsNew net) (sym n) h)

-- the port that is laid next
pub listed : (laid : List Port) (i : ℕ) (p : Port) → i < length laid → p ≡ get_or laid i p → slice_get laid i ≡ Some p
listed laid i p low is = slice_get_read laid (length laid) i p refl low is

at_front : (ids : List Id) (id : Id) (j : ℕ) → j < length ids → at (ids ++ id ∷ []) j ≡ at ids j
at_front [] id j low = absurd (omega (arith, low))
at_front (x ∷ ids) id zero low = refl
at_front (x ∷ ids) id (suc j) low = at_front ids id j (omega (arith, low))

at_last : (ids : List Id) (id : Id) → at (ids ++ id ∷ []) (length ids) ≡ id
at_last [] id = refl
at_last (x ∷ ids) id = at_last ids id

-- an element of a list with one more at its end
or_last : {X : Type 0} (xs : List X) (x y : X) (k : ℕ) → slice_get (xs ++ x ∷ []) k ≡ Some y → ((k < length xs) × (slice_get xs k ≡ Some y)) ⊎ ((k ≡ length xs) × (x ≡ y))
or_last [] x y zero e = inr (refl, same_Some x y e)
or_last [] x y (suc k) e = cc
or_last (z ∷ xs) x y zero e = inl (omega arith, e)
or_last (z ∷ xs) x y (suc k) e = by (or_last xs x y k e)
  where
    by : ((k < length xs) × (slice_get xs k ≡ Some y)) ⊎ ((k ≡ length xs) × (x ≡ y)) → ((suc k < length (z ∷ xs)) × (slice_get xs k ≡ Some y)) ⊎ ((suc k ≡ length (z ∷ xs)) × (x ≡ y))
    by (inl h) = inl (let l = h.0 in omega (arith, l), h.1)
    by (inr h) = inr (ap suc h.0, h.1)

IsPinNode-extends : (a b : Net) (id : Id) (p : Pin) → Extends a b → IsPinNode a id p → IsPinNode b id p
IsPinNode-extends a b id p h k = record { input = h.inputs id p.name p.width k.input; node = IsNode-extends a b id p.width (λ v. v.ins p.name) h k.node }

AreInputs-extends : (a b : Net) (ids : List Id) (ps : List Pin) → Extends a b → AreInputs a ids ps → AreInputs b ids ps
AreInputs-extends a b ids ps h k = record { long = k.long; each = λ j p e. IsPinNode-extends a b (at ids j) p h (k.each j p e) }

-- an input more
input_more : (net : Net) (ids : List Id) (ps : List Pin) (p : Pin) (id : Id) → AreInputs net ids ps → IsPinNode net id p → AreInputs net (ids ++ id ∷ []) (ps ++ p ∷ [])
input_more net ids ps p id h k = record {
  long = length-append ids (id ∷ []) ∙ ap (λ n. n + 1) h.long ∙ sym (length-append ps (p ∷ []));
  each = λ j q e. elim (or_last ps p q j e) [
    | inl low ↦
        let l : j < length ids = let b = low.0 in let n = h.long in omega (arith, b, n) in
        subst (λ i. IsPinNode net i q) (sym (at_front ids id j l)) (h.each j q low.1)
    | inr last ↦
        let place : at (ids ++ id ∷ []) j ≡ id = ap (at (ids ++ id ∷ [])) (last.0 ∙ sym h.long) ∙ at_last ids id in
        subst (λ i. IsPinNode net i q) (sym place) (subst (IsPinNode net id) last.1 k)
  ];
}

inputs_more : (net : Net) (ids ids' : List Id) (ps : List Port) (p : Port) → AreInputs net ids (inputs_among ps) → HasPort net p ids ids' → AreInputs net ids' (inputs_among (ps ++ p ∷ []))
inputs_more net ids ids' ps p h k = subst (AreInputs net ids') (sym (pins_more ps p)) (by (is_data_input p) k)
  where
    by : (c : Bool) → HasPortIf c net p ids ids' → AreInputs net ids' (inputs_among ps ++ map port_pin (if c then p ∷ [] else []))
    by true m = subst (λ xs. AreInputs net xs (inputs_among ps ++ port_pin p ∷ [])) (sym m.1) (input_more net ids (inputs_among ps) (port_pin p) m.0 h m.2)
    by false e = subst (λ xs. AreInputs net xs (inputs_among ps ++ [])) (sym e) (subst (AreInputs net ids) (sym (append_nil (inputs_among ps))) h)

taken_next : {X : Type 0} (xs : List X) (k : ℕ) (x : X) → slice_get xs k ≡ Some x → take (k + 1) xs ≡ take k xs ++ x ∷ []
taken_next [] k x e = cc
taken_next (y ∷ ys) zero x e = ap (λ z. z ∷ []) (same_Some y x e)
taken_next (y ∷ ys) (suc k) x e = let z : suc k + 1 ≡ suc (k + 1) = omega arith in ap (λ n. take n (y ∷ ys)) z ∙ ap (λ zs. y ∷ zs) (taken_next ys k x e)

first_is : (laid : List Port) → CanLay laid → (p : Port) → slice_get laid 0 ≡ Some p → input (pin clock 1) ≡ p
first_is laid can p e = same_Some (input (pin clock 1)) p (sym (ap (λ ps. slice_get ps 0) can.first.1) ∙ e)

-- one port more
pub port_more : (laid : List Port) → CanLay laid → (first net new : Net) (ids ids' : List Id) (end : ℕ) (p : Port) → PortsTo laid first net ids end → slice_get laid end ≡ Some p
    → Extends net new → new.name ≡ net.name → registers_of new.nodes ≡ registers_of net.nodes → undriven new.nodes ≡ undriven net.nodes
    → (p.dir ≡ In → bytes_eq p.name clock ≡ true → HasClock new) → ((s : Seat) × (new.seats ≡ net.seats ++ s ∷ []) × IsSeatOf s p) → HasPort new p ids ids'
    → PortsTo laid first new ids' (end + 1)
port_more laid can first net new ids ids' end p sofar here h name registers undriven clocked seat pins = record {
  older = Extends-trans first net new sofar.older h;
  name = name ∙ sofar.name;
  registers = registers ∙ sofar.registers;
  undriven = undriven ∙ sofar.undriven;
  seats = subst (AreSeatsOf new.seats) (sym more) (subst (λ ss. AreSeatsOf ss (take end laid ++ p ∷ [])) (sym seat.1) (seats_more net.seats (take end laid) seat.0 p sofar.seats seat.2));
  clocked = λ l. has_clock end refl here;
  inputs = subst (λ ps. AreInputs new ids' (inputs_among ps)) (sym more) (inputs_more new ids ids' (take end laid) p (AreInputs-extends net new ids (inputs_among (take end laid)) h sofar.inputs) pins);
}
  where
    more : take (end + 1) laid ≡ take end laid ++ p ∷ []
    more = taken_next laid end p here

    has_clock : (k : ℕ) → end ≡ k → slice_get laid k ≡ Some p → HasClock new
    has_clock zero z e = let q = first_is laid can p e in clocked (ap (λ r. r.dir) (sym q)) (subst (λ (r : Port). bytes_eq r.name clock ≡ true) q refl)
    has_clock (suc k) z e = h.clock (sofar.clocked (omega (arith, z)))

-- All ports are laid

pub all_taken : (laid : List Port) (end : ℕ) → length laid ≤ end → take end laid ≡ laid
all_taken laid end low = take_all end laid low

out_side : (d : Dir) → is_output (record { dir = d; name = []; width = 0 }) ≡ true → d ≡ Out
out_side In e = cc
out_side Out e = refl

pub outputs_free : (laid : List Port) (net : Net) → CanLay laid → AreSeatsOf net.seats laid → registers_of net.nodes ≡ [] → Each (λ p. IsFree net p.name p.width) (outputs_among laid)
outputs_free laid net can seats none =
    Each-map (λ p. IsFree net p.name p.width) port_pin (filter is_output laid)
    (Each-passing (λ (p : Port). IsFree net p.name p.width) is_output laid
    (λ k p e t. record {
      seats = room net.seats laid k p seats (all_apart laid can) e (out_side p.dir t);
      registers = subst (λ rs. Lacks (map (λ r. r.name) rs) p.name) (sym none) refl;
    }))

pub others_new : (laid : List Port) (net : Net) (name : Name) → AreSeatsOf net.seats laid → registers_of net.nodes ≡ [] → Lacks (port_names laid) name → IsNew net name
others_new laid net name seats none lacks = record {
  seats = subst (λ ns. Lacks ns name) (sym (names_of net.seats laid seats)) lacks;
  registers = subst (λ rs. Lacks (map (λ r. r.name) rs) name) (sym none) refl;
}
