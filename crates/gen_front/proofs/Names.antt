-- Lists of names of which no two are equal: ports, and the outputs among them.
use Rattle.std.proofs.Common.{◌≡◌, ℕ, zero, suc, Bool, true, false, ◌||◌, if◌then◌else◌, Some, List, [], ◌∷◌, ◌++◌, map, filter, slice_get, refl, sym, ap, ◌∙◌, subst}
use Rattle.std.specs.List.{list_any}
use Rattle.std.specs.Str.{bytes_eq}
use Rattle.std.proofs.lemmas.List.Folds.{list_any-append}
use Rattle.std.proofs.lemmas.Option.{same_Some}
use Rattle.plain_lemmas.proofs.Lists.{get-map_at as mapped_at}
use Rattle.rb_base.specs.declared.ports.Pin.{Pin}
use Rattle.rb_base.specs.declared.ports.Port.{Port}
use Rattle.v_design.specs.Design.{is_output, outputs_among, port_pin}
use Rattle.rtl_net.specs.Names.{Lacks}
use Rattle.rtl_net.specs.Ports.{seat_names}
use Rattle.rtl_net.specs.declared.node.Seat.{Seat}
use Rattle.rb_model.specs.References.{Each}
use Rattle.rb_model.proofs.Apart.{Apart, Name, bytes_eq-from, bytes_eq-not}
use Rattle.rb_model.proofs.Eachs.{Each-append, Each-at, Each-left, Each-map, Each-passing, Each-right, Each-weaker}
use Rattle.gen_ports.specs.Laid.{AreSeatsOf}
use Rattle.gen_ports.proofs.Laying.{names_of, port_names}
use Rattle.gen_front.proofs.Filling.{AreShownBy, names_one}

-- Names that others lack

pub apart_left : (xs ys : List Name) → Apart (xs ++ ys) → Apart xs
apart_left [] ys h = tt
apart_left (x ∷ xs) ys h = (Each-left (λ m. m ≡ x → ⊥) xs ys h.0, apart_left xs ys h.1)

pub apart_right : (xs ys : List Name) → Apart (xs ++ ys) → Apart ys
apart_right [] ys h = h
apart_right (x ∷ xs) ys h = apart_right xs ys h.1

pub none_lacks : (n : Name) (ms : List Name) → Each (λ m. m ≡ n → ⊥) ms → Lacks ms n
none_lacks n [] h = refl
none_lacks n (m ∷ ms) h = ap (λ c. c || list_any (bytes_eq n) ms) (bytes_eq-not n m (λ e. h.0 (sym e))) ∙ none_lacks n ms h.1

-- a name is not among those behind it
pub front_lacks : (xs ys : List Name) (k : ℕ) (n : Name) → Apart (xs ++ ys) → slice_get xs k ≡ Some n → Lacks ys n
front_lacks [] ys k n a e = cc
front_lacks (x ∷ xs) ys zero n a e = subst (Lacks ys) (same_Some x n e) (none_lacks x ys (Each-right (λ m. m ≡ x → ⊥) xs ys a.0))
front_lacks (x ∷ xs) ys (suc k) n a e = front_lacks xs ys k n a.1 e

-- nor among those before it
pub behind_lacks : (xs ys : List Name) (k : ℕ) (n : Name) → Apart (xs ++ ys) → slice_get ys k ≡ Some n → Lacks xs n
behind_lacks [] ys k n a e = refl
behind_lacks (x ∷ xs) ys k n a e =
    let ne : n ≡ x → ⊥ = Each-at (λ m. m ≡ x → ⊥) ys k n (Each-right (λ m. m ≡ x → ⊥) xs ys a.0) e in
    ap (λ c. c || list_any (bytes_eq n) xs) (bytes_eq-not n x ne) ∙ behind_lacks xs ys k n a.1 e

-- no output has the name of a register
pub outputs_lack : (ps : List Port) (own : List Name) → Apart (port_names ps ++ own) → Each (λ o. Lacks own o.name) (outputs_among ps)
outputs_lack ps own apart =
    let P : Pin → Type 0 = λ o. Lacks own o.name in
    Each-map P port_pin (filter is_output ps) (Each-passing (λ p. P (port_pin p)) is_output ps (λ i p here t. front_lacks (port_names ps) own i p.name apart (mapped_at (λ (r : Port). r.name) ps i p here)))

-- Outputs and ports

none_named : (name : Name) (ps : List Port) → Each (λ m. m ≡ name → ⊥) (port_names ps) → names_one (outputs_among ps) name ≡ false
none_named name [] h = refl
none_named name (p ∷ ps) h = by (is_output p) (none_named name ps h.1)
  where
    by : (c : Bool) → names_one (map port_pin (filter is_output ps)) name ≡ false → names_one (map port_pin (if c then p ∷ filter is_output ps else filter is_output ps)) name ≡ false
    by true e = let f : bytes_eq p.name name ≡ false = bytes_eq-not p.name name h.0 in rw f e
    by false e = e

one_more : (p : Port) (c : Bool) (outs : List Port) (ps : List Port) → Each (λ m. m ≡ p.name → ⊥) (port_names ps) → Each (λ r. names_one (map port_pin outs) r.name ≡ is_output r) ps
    → Each (λ r. names_one (map port_pin (if c then p ∷ outs else outs)) r.name ≡ is_output r) ps
one_more p c outs [] h g = tt
one_more p c outs (r ∷ ps) h g = (by c, one_more p c outs ps h.1 g.1)
  where
    by : (c : Bool) → names_one (map port_pin (if c then p ∷ outs else outs)) r.name ≡ is_output r
    by true = let f : bytes_eq p.name r.name ≡ false = bytes_eq-not p.name r.name (λ e. h.0 (sym e)) in ap (λ x. x || names_one (map port_pin outs) r.name) f ∙ g.0
    by false = g.0

pub shown_by : (ps : List Port) → Apart (port_names ps) → AreShownBy (outputs_among ps) ps
shown_by [] h = tt
shown_by (p ∷ ps) h = (by (is_output p), one_more p (is_output p) (filter is_output ps) ps h.0 (shown_by ps h.1))
  where
    by : (c : Bool) → names_one (map port_pin (if c then p ∷ filter is_output ps else filter is_output ps)) p.name ≡ c
    by true = ap (λ x. x || names_one (outputs_among ps) p.name) (bytes_eq-from p.name p.name refl)
    by false = none_named p.name ps h.0

or-swap : (a c : Bool) → (a || c) ≡ (c || a)
or-swap true true = refl
or-swap true false = refl
or-swap false true = refl
or-swap false false = refl

pub swapped : (xs ys : List Pin) (name : Name) → names_one (xs ++ ys) name ≡ names_one (ys ++ xs) name
swapped xs ys name = list_any-append (λ p. bytes_eq p.name name) xs ys ∙ or-swap (names_one xs name) (names_one ys name) ∙ sym (list_any-append (λ p. bytes_eq p.name name) ys xs)

among_more : (name : Name) (ms : List Name) (o : List Pin) → Each (λ q. list_any (λ m. bytes_eq q.name m) ms ≡ true) o → Each (λ q. list_any (λ m. bytes_eq q.name m) (name ∷ ms) ≡ true) o
among_more name ms [] h = tt
among_more name ms (q ∷ qs) h = (by (bytes_eq q.name name), among_more name ms qs h.1)
  where
    by : (c : Bool) → (c || list_any (λ m. bytes_eq q.name m) ms) ≡ true
    by true = refl
    by false = h.0

outputs_among_names : (ps : List Port) → Each (λ q. list_any (λ m. bytes_eq q.name m) (port_names ps) ≡ true) (outputs_among ps)
outputs_among_names [] = tt
outputs_among_names (p ∷ ps) = by (is_output p) (among_more p.name (port_names ps) (outputs_among ps) (outputs_among_names ps))
  where
    by : (c : Bool) → Each (λ q. list_any (λ m. bytes_eq q.name m) (port_names (p ∷ ps)) ≡ true) (map port_pin (filter is_output ps))
        → Each (λ q. list_any (λ m. bytes_eq q.name m) (port_names (p ∷ ps)) ≡ true) (map port_pin (if c then p ∷ filter is_output ps else filter is_output ps))
    by true h = (ap (λ x. x || list_any (λ m. bytes_eq p.name m) (port_names ps)) (bytes_eq-from p.name p.name refl), h)
    by false h = h

-- Outputs shown in another order than that of the ports: those of the bus last

pub all_shown : (ps : List Port) (bus others : List Pin) → outputs_among ps ≡ bus ++ others → Apart (port_names ps) → AreShownBy (others ++ bus) ps
all_shown ps bus others are apart =
    let P : List Pin → Type 0 = λ os. AreShownBy os ps in
    let first : AreShownBy (bus ++ others) ps = subst P are (shown_by ps apart) in
    Each-weaker (λ p. names_one (bus ++ others) p.name ≡ is_output p) (λ p. names_one (others ++ bus) p.name ≡ is_output p) (λ p e. swapped others bus p.name ∙ e) ps first

pub all_among : (ps : List Port) (bus others : List Pin) (ss : List Seat) → outputs_among ps ≡ bus ++ others → AreSeatsOf ss ps → Each (λ q. list_any (λ m. bytes_eq q.name m) (seat_names ss) ≡ true) (others ++ bus)
all_among ps bus others ss are h =
    let Q : Pin → Type 0 = λ q. list_any (λ m. bytes_eq q.name m) (seat_names ss) ≡ true in
    let P : List Name → Type 0 = λ ns. Each (λ (q : Pin). list_any (λ m. bytes_eq q.name m) ns ≡ true) (outputs_among ps) in
    let all : Each Q (outputs_among ps) = subst P (sym (names_of ss ps h)) (outputs_among_names ps) in
    let listed : Each Q (bus ++ others) = subst (Each Q) are all in
    Each-append Q others bus (Each-right Q bus others listed) (Each-left Q bus others listed)
