-- The seats of ports where outputs take theirs.
use Rattle.std.proofs.Common.{◌≡◌, ℕ, Bool, true, false, not, ◌&&◌, ◌||◌, if◌then◌else◌, IsTrue, Option, Some, List, [], ◌∷◌, ◌++◌, map, filter, refl, sym, ap, ◌∙◌, subst}
use Rattle.std.specs.Prelude.{is_some}
use Rattle.std.specs.List.{AllZip, list_all, list_any}
use Rattle.std.specs.Str.{bytes_eq}
use Rattle.rb_base.specs.declared.ports.Dir.{Dir}
use Rattle.rb_base.specs.declared.ports.Dir.TheVariants.{In, Out}
use Rattle.rb_base.specs.declared.ports.Pin.{Pin}
use Rattle.rb_base.specs.declared.ports.Port.{Port}
use Rattle.v_design.specs.Design.{inputs_among, is_data_input, is_input, is_output, outputs_among, port_pin}
use Rattle.rtl_net.specs.Names.{clock}
use Rattle.rtl_net.specs.Ports.{has_room, seat_names, seated}
use Rattle.rtl_net.specs.Run.{by_input, by_output, is_data_input as is_given, is_output as is_shown, seat_pin}
use Rattle.rtl_net.specs.declared.node.Id.{Id}
use Rattle.rtl_net.specs.declared.node.Seat.{Seat}
use Rattle.rtl_net.specs.declared.node.Occupant.{Occupant}
use Rattle.rtl_net.specs.declared.node.Occupant.TheVariants.{Input, Output}
use Rattle.rtl_net.proofs.Others.{has_room-other}
use Rattle.rb_model.specs.References.{Each}
use Rattle.rb_model.proofs.Apart.{Apart, Name, bytes_eq-not, bytes_eq-to}
use Rattle.rb_model.proofs.OwnViews.{by_cases}
use Rattle.v_printer.specs.Module.{port_of, side_of}
use Rattle.gen_ports.specs.Laid.{AreSeatsOf, IsSeatOf, IsTakenAs}
use Rattle.gen_core.specs.Ties.{SeatsTaken}

-- Lists of outputs taken one after the other

pub taken-append : (old mid new : List Seat) (xs ys : List Pin) → SeatsTaken old mid xs → SeatsTaken mid new ys → SeatsTaken old new (xs ++ ys)
taken-append old mid new [] ys h g = subst (λ ss. SeatsTaken ss new ys) h g
taken-append old mid new (x ∷ xs) ys h g = (h.0, taken-append (seated old x.name x.width (Output h.0)) mid new xs ys h.1 g)

-- a port whose name none of them has keeps its room
pub room_stays : (name : Name) (w : ℕ) (old new : List Seat) (ps : List Pin) → Each (λ p. bytes_eq name p.name ≡ false) ps → SeatsTaken old new ps → has_room old name w ≡ true → has_room new name w ≡ true
room_stays name w old new [] others h r = ap (λ ss. has_room ss name w) h ∙ r
room_stays name w old new (p ∷ ps) others h r =
    room_stays name w (seated old p.name p.width (Output h.0)) new ps others.1 h.1 (has_room-other p.name p.width (Output h.0) name others.0 old w ∙ r)

-- What becomes of each seat

abbrev pub names_one : List Pin → Name → Bool
names_one ps name = list_any (λ p. bytes_eq p.name name) ps

-- an output of these pins has taken the seat if one has its name, and else nothing has
abbrev pub IsTakenIf : Bool → (old new : Option Occupant) → Type 0
IsTakenIf true old new = (id : Id) × (new ≡ Some (Output id))
IsTakenIf false old new = new ≡ old

pub record Becomes (ps : List Pin) (old new : Seat) : Type 0 where
  pub name : new.name ≡ old.name
  pub width : new.width ≡ old.width
  pub taken : IsTakenIf (names_one ps old.name) old.taken new.taken

stays : (ss : List Seat) → AllZip (Becomes []) ss ss
stays [] = tt
stays (s ∷ ss) = (record { name = refl; width = refl; taken = refl }, stays ss)

-- the seat of one name is taken
pub record OneTaken (n : Name) (id : Id) (old new : Seat) : Type 0 where
  pub name : new.name ≡ old.name
  pub width : new.width ≡ old.width
  pub taken : new.taken ≡ (if bytes_eq n old.name then Some (Output id) else old.taken)

none_taken : (name : Name) (id : Id) (ss : List Seat) → Each (λ m. bytes_eq name m ≡ false) (seat_names ss) → AllZip (OneTaken name id) ss ss
none_taken name id [] h = tt
none_taken name id (s ∷ ss) h = (record { name = refl; width = refl; taken = ap (λ c. if c then Some (Output id) else s.taken) (sym h.0) }, none_taken name id ss h.1)

others_differ : (name other : Name) (ms : List Name) → bytes_eq name other ≡ true → Each (λ m. m ≡ other → ⊥) ms → Each (λ m. bytes_eq name m ≡ false) ms
others_differ name other [] e h = tt
others_differ name other (m ∷ ms) e h = (bytes_eq-not name m (λ q. h.0 (sym q ∙ bytes_eq-to name other e)), others_differ name other ms e h.1)

one_taken : (name : Name) (w : ℕ) (id : Id) (ss : List Seat) → Apart (seat_names ss) → list_any (λ m. bytes_eq name m) (seat_names ss) ≡ true → AllZip (OneTaken name id) ss (seated ss name w (Output id))
one_taken name w id [] apart among = cc
one_taken name w id (s ∷ ss) apart among = by_cases (bytes_eq name s.name)
    (λ t. let P : List Seat → Type 0 = λ new. AllZip (OneTaken name id) (s ∷ ss) new in
    subst P (sym (ap (λ c. if c then record { name = s.name; width = s.width; taken = Some (Output id) } ∷ ss else s ∷ seated ss name w (Output id)) t))
    (record { name = refl; width = refl; taken = ap (λ c. if c then Some (Output id) else s.taken) (sym t) }, none_taken name id ss (others_differ name s.name (seat_names ss) t apart.0)))
    (λ f. let P : List Seat → Type 0 = λ new. AllZip (OneTaken name id) (s ∷ ss) new in
    let rest : list_any (λ m. bytes_eq name m) (seat_names ss) ≡ true = sym (ap (λ c. c || list_any (λ m. bytes_eq name m) (seat_names ss)) f) ∙ among in
    subst P (sym (ap (λ c. if c then record { name = s.name; width = s.width; taken = Some (Output id) } ∷ ss else s ∷ seated ss name w (Output id)) f))
    (record { name = refl; width = refl; taken = ap (λ c. if c then Some (Output id) else s.taken) (sym f) }, one_taken name w id ss apart.1 rest))

same_names : (name : Name) (id : Id) (old new : List Seat) → AllZip (OneTaken name id) old new → seat_names new ≡ seat_names old
same_names name id [] [] h = refl
same_names name id [] (t ∷ ts) h = absurd h
same_names name id (s ∷ ss) [] h = absurd h
same_names name id (s ∷ ss) (t ∷ ts) h = ap (λ n. n ∷ seat_names ts) h.0.name ∙ ap (λ ns. s.name ∷ ns) (same_names name id ss ts h.1)

then_becomes : (p : Pin) (ps : List Pin) (id : Id) (old mid new : Seat) → OneTaken p.name id old mid → Becomes ps mid new → Becomes (p ∷ ps) old new
then_becomes p ps id old mid new h g = record {
  name = g.name ∙ h.name;
  width = g.width ∙ h.width;
  taken = by (bytes_eq p.name old.name) (names_one ps old.name) h.taken (subst (λ n. IsTakenIf (names_one ps n) mid.taken new.taken) h.name g.taken);
}
  where
    by : (c d : Bool) → mid.taken ≡ (if c then Some (Output id) else old.taken) → IsTakenIf d mid.taken new.taken → IsTakenIf (c || d) old.taken new.taken
    by true true e k = k
    by true false e k = (id, k ∙ e)
    by false true e k = k
    by false false e k = k ∙ e

all_then : (p : Pin) (ps : List Pin) (id : Id) (old mid new : List Seat) → AllZip (OneTaken p.name id) old mid → AllZip (Becomes ps) mid new → AllZip (Becomes (p ∷ ps)) old new
all_then p ps id [] [] [] h g = tt
all_then p ps id [] [] (n ∷ ns) h g = absurd g
all_then p ps id [] (m ∷ ms) new h g = absurd h
all_then p ps id (o ∷ os) [] new h g = absurd h
all_then p ps id (o ∷ os) (m ∷ ms) [] h g = absurd g
all_then p ps id (o ∷ os) (m ∷ ms) (n ∷ ns) h g = (then_becomes p ps id o m n h.0 g.0, all_then p ps id os ms ns h.1 g.1)

pub all_become : (old new : List Seat) (ps : List Pin) → Apart (seat_names old) → Each (λ p. list_any (λ m. bytes_eq p.name m) (seat_names old) ≡ true) ps → SeatsTaken old new ps → AllZip (Becomes ps) old new
all_become old new [] apart among h = subst (λ ss. AllZip (Becomes []) old ss) (sym h) (stays old)
all_become old new (p ∷ ps) apart among h =
    let mid = seated old p.name p.width (Output h.0) in
    let one : AllZip (OneTaken p.name h.0) old mid = one_taken p.name p.width h.0 old apart among.0 in
    let names : seat_names mid ≡ seat_names old = same_names p.name h.0 old mid one in
    let P : List Name → Type 0 = λ ns. Each (λ (q : Pin). list_any (λ m. bytes_eq q.name m) ns ≡ true) ps in
    all_then p ps h.0 old mid new one (all_become mid new ps (subst Apart (sym names) apart) (subst P (sym names) among.1) h.1)

-- The seats of ports

-- an output among these pins shows each output port, and no input
abbrev pub AreShownBy : List Pin → List Port → Type 0
AreShownBy outs ps = Each (λ p. names_one outs p.name ≡ is_output p) ps

pub record IsFilled (p : Port) (s : Seat) : Type 0 where
  pub port : port_of s ≡ p
  pub some : is_some s.taken ≡ true
  pub side : is_shown s ≡ is_output p
  pub given : by_input s.taken ≡ is_input p.dir

filled : (outs : List Pin) (p : Port) (old new : Seat) → names_one outs p.name ≡ is_output p → IsSeatOf old p → Becomes outs old new → IsFilled p new
filled outs p old new e is b = by p.dir refl is.taken (subst (λ c. IsTakenIf c old.taken new.taken) (ap (names_one outs) is.name ∙ e) b.taken)
  where
    make : (t : Option Occupant) (d : Dir) → new.taken ≡ t → p.dir ≡ d → side_of t ≡ d → is_some t ≡ true → by_output t ≡ is_output (record { dir = d; name = p.name; width = p.width }) → by_input t ≡ is_input d → IsFilled p new
    make t d u v side some shown given = record {
      port =
          let q : side_of new.taken ≡ p.dir = ap side_of u ∙ side ∙ sym v in
          let n : new.name ≡ p.name = b.name ∙ is.name in
          let w : new.width ≡ p.width = b.width ∙ is.width in
          ap (λ x. record { dir = x; name = new.name; width = new.width }) q ∙ ap (λ x. record { dir = p.dir; name = x; width = new.width }) n ∙ ap (λ x. record { dir = p.dir; name = p.name; width = x }) w;
      some = ap is_some u ∙ some;
      given = ap by_input u ∙ given ∙ ap is_input (sym v);
      side = ap by_output u ∙ shown ∙ ap (λ x. is_output (record { dir = x; name = p.name; width = p.width })) (sym v);
    }

    by : (d : Dir) → p.dir ≡ d → IsTakenAs p.dir old.taken → IsTakenIf (is_output p) old.taken new.taken → IsFilled p new
    by In v t k =
        let a : (id : Id) × (old.taken ≡ Some (Input id)) = subst (λ x. IsTakenAs x old.taken) v t in
        let c : new.taken ≡ old.taken = subst (λ x. IsTakenIf (is_output (record { dir = x; name = p.name; width = p.width })) old.taken new.taken) v k in
        make (Some (Input a.0)) In (c ∙ a.1) v refl refl refl refl
    by Out v t k =
        let c : (id : Id) × (new.taken ≡ Some (Output id)) = subst (λ x. IsTakenIf (is_output (record { dir = x; name = p.name; width = p.width })) old.taken new.taken) v k in
        make (Some (Output c.0)) Out c.1 v refl refl refl refl

pub all_filled : (outs : List Pin) (ps : List Port) (old new : List Seat) → AreShownBy outs ps → AreSeatsOf old ps → AllZip (Becomes outs) old new → AllZip IsFilled ps new
all_filled outs [] [] [] e is b = tt
all_filled outs [] [] (n ∷ ns) e is b = absurd b
all_filled outs [] (o ∷ os) new e is b = absurd is
all_filled outs (p ∷ ps) [] new e is b = absurd is
all_filled outs (p ∷ ps) (o ∷ os) [] e is b = absurd b
all_filled outs (p ∷ ps) (o ∷ os) (n ∷ ns) e is b = (filled outs p o n e.0 is.0 b.0, all_filled outs ps os ns e.1 is.1 b.1)

pub ports_of : (ps : List Port) (ss : List Seat) → AllZip IsFilled ps ss → map port_of ss ≡ ps
ports_of [] [] h = refl
ports_of [] (s ∷ ss) h = absurd h
ports_of (p ∷ ps) [] h = absurd h
ports_of (p ∷ ps) (s ∷ ss) h = ap (λ q. q ∷ map port_of ss) h.0.port ∙ ap (λ qs. p ∷ qs) (ports_of ps ss h.1)

pub all_taken : (ps : List Port) (ss : List Seat) → AllZip IsFilled ps ss → IsTrue (list_all (λ s. is_some s.taken) ss)
all_taken [] [] h = refl
all_taken [] (s ∷ ss) h = absurd h
all_taken (p ∷ ps) [] h = absurd h
all_taken (p ∷ ps) (s ∷ ss) h = rw h.0.some (all_taken ps ss h.1)

pin_is : (p : Port) (s : Seat) → IsFilled p s → seat_pin s ≡ port_pin p
pin_is p s h = ap port_pin h.port

pub shown_pins : (ps : List Port) (ss : List Seat) → AllZip IsFilled ps ss → map seat_pin (filter is_shown ss) ≡ outputs_among ps
shown_pins [] [] h = refl
shown_pins [] (s ∷ ss) h = absurd h
shown_pins (p ∷ ps) [] h = absurd h
shown_pins (p ∷ ps) (s ∷ ss) h =
    ap (λ c. map seat_pin (if c then s ∷ filter is_shown ss else filter is_shown ss)) h.0.side ∙ by (is_output p) (shown_pins ps ss h.1)
  where
    by : (c : Bool) → map seat_pin (filter is_shown ss) ≡ map port_pin (filter is_output ps) → map seat_pin (if c then s ∷ filter is_shown ss else filter is_shown ss) ≡ map port_pin (if c then p ∷ filter is_output ps else filter is_output ps)
    by true e = ap (λ q. q ∷ map seat_pin (filter is_shown ss)) (pin_is p s h.0) ∙ ap (λ qs. port_pin p ∷ qs) e
    by false e = e

data_is : (p : Port) (s : Seat) → IsFilled p s → is_given s ≡ is_data_input p
data_is p s h = ap (λ c. c && not (bytes_eq s.name clock)) h.given ∙ ap (λ (q : Port). is_input p.dir && not (bytes_eq q.name clock)) h.port

pub given_pins : (ps : List Port) (ss : List Seat) → AllZip IsFilled ps ss → map seat_pin (filter is_given ss) ≡ inputs_among ps
given_pins [] [] h = refl
given_pins [] (s ∷ ss) h = absurd h
given_pins (p ∷ ps) [] h = absurd h
given_pins (p ∷ ps) (s ∷ ss) h =
    ap (λ c. map seat_pin (if c then s ∷ filter is_given ss else filter is_given ss)) (data_is p s h.0) ∙ by (is_data_input p) (given_pins ps ss h.1)
  where
    by : (c : Bool) → map seat_pin (filter is_given ss) ≡ map port_pin (filter is_data_input ps) → map seat_pin (if c then s ∷ filter is_given ss else filter is_given ss) ≡ map port_pin (if c then p ∷ filter is_data_input ps else filter is_data_input ps)
    by true e = ap (λ q. q ∷ map seat_pin (filter is_given ss)) (pin_is p s h.0) ∙ ap (λ qs. port_pin p ∷ qs) e
    by false e = e
