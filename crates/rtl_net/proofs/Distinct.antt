-- Names of a well-made netlist that differ.
use Rattle.std.specs.List.{slice_get, list_any, IsDistinct, AllByRecursion}
use Rattle.std.specs.Str.{bytes_eq}
use Rattle.std.specs.Cmp.Lexicographic.{nat_list_eq_equiv}
use Rattle.std.proofs.Common.{zero, suc, ℕ, ◌≡◌, false, List, [], ◌∷◌, map, Option, Some, None, refl, ap, sym, ◌∙◌, subst}
use Rattle.std.proofs.lemmas.Bool.{or_parts, false_from_ne_true, true≢false}
use Rattle.std.proofs.lemmas.Slice.Eq.{bytes_eq-Decides}
use Rattle.rtl_net.specs.Names.{Lacks}
use Rattle.rtl_net.specs.Net.{Net, IsInput, registers_of}
use Rattle.rtl_net.specs.Ports.{seat_names, register_names}
use Rattle.rtl_net.specs.Made.{IsMade}
use Rattle.rtl_net.specs.declared.node.Id.{Id}
use Rattle.rtl_net.specs.declared.node.NetNode.{NetNode}
use Rattle.rtl_net.specs.declared.node.NetNode.TheVariants as nodes
use Rattle.rtl_net.specs.declared.node.NetReset.{NetReset}
use Rattle.rtl_net.specs.declared.node.Seat.{Seat}
use Rattle.rtl_net.specs.declared.node.Occupant.{Occupant}
use Rattle.rtl_net.specs.declared.node.Occupant.TheVariants.{Input, Output}
use Rattle.rtl_net.proofs.Seating.{seat_of}
use Rattle.plain_lemmas.proofs.Lists.{bytes_eq-itself as same_bytes}

abbrev pub Differ : List ℕ → List ℕ → Type 0
Differ a b = bytes_eq a b ≡ false

pub Differ-sym : (a b : List ℕ) → Differ a b → Differ b a
Differ-sym a b h = nat_list_eq_equiv.symm b a ∙ h

pub not_same : (a b : List ℕ) → Differ a b → a ≡ b → ⊥
not_same a b h e = true≢false (sym ((bytes_eq-Decides a b).1 e) ∙ h)

pub differ_from : (a b : List ℕ) → (a ≡ b → ⊥) → Differ a b
differ_from a b h = false_from_ne_true (bytes_eq a b) (λ t. h ((bytes_eq-Decides a b).0 t))

-- a name among these differs from one that they lack
pub lacks_at : (xs : List (List ℕ)) (i : ℕ) (x y : List ℕ) → slice_get xs i ≡ Some x → Lacks xs y → Differ y x
lacks_at [] i x y h l = absurd (let q : None ≡ Some x = h in cc)
lacks_at (z ∷ xs) zero x y h l = let q : z ≡ x = cc in ap (bytes_eq y) (sym q) ∙ (or_parts (bytes_eq y z) (list_any (bytes_eq y) xs) l).0
lacks_at (z ∷ xs) (suc i) x y h l = lacks_at xs i x y h (or_parts (bytes_eq y z) (list_any (bytes_eq y) xs) l).1

later_differs : (x : List ℕ) (xs : List (List ℕ)) (j : ℕ) → AllByRecursion (λ y. bytes_eq x y ≡ false) xs → slice_get xs j ≡ Some x → ⊥
later_differs x [] j a h = let q : None ≡ Some x = h in cc
later_differs x (y ∷ ys) zero a h = let q : y ≡ x = cc in true≢false (sym (same_bytes x) ∙ ap (bytes_eq x) (sym q) ∙ a.0)
later_differs x (y ∷ ys) (suc j) a h = later_differs x ys j a.1 h

-- one name stands at one place
pub one_place : (xs : List (List ℕ)) → IsDistinct bytes_eq xs → (i j : ℕ) (x : List ℕ) → slice_get xs i ≡ Some x → slice_get xs j ≡ Some x → i ≡ j
unfolding IsDistinct
one_place [] d i j x g h = absurd (let q : None ≡ Some x = g in cc)
one_place (y ∷ xs) d zero zero x g h = refl
one_place (y ∷ xs) d zero (suc j) x g h = let q : y ≡ x = cc in absurd (later_differs y xs j d.0 (h ∙ ap Some (sym q)))
one_place (y ∷ xs) d (suc i) zero x g h = let q : y ≡ x = cc in absurd (later_differs y xs i d.0 (g ∙ ap Some (sym q)))
one_place (y ∷ xs) d (suc i) (suc j) x g h = ap suc (one_place xs d.1 i j x g h)

pub name_at : (ss : List Seat) (i : ℕ) (s : Seat) → slice_get ss i ≡ Some s → slice_get (seat_names ss) i ≡ Some s.name
name_at [] i s h = absurd (let q : None ≡ Some s = h in cc)
name_at (r ∷ ss) zero s h = let q : r ≡ s = cc in ap (λ x. Some x.name) q
name_at (r ∷ ss) (suc i) s h = name_at ss i s h

-- a register's place among the registers
pub register_at : (ns : List NetNode) (i : ℕ) (name : List ℕ) (w : ℕ) (reset : NetReset) (next : Option Id) → slice_get ns i ≡ Some (nodes.Register name w reset next)
    → (j : ℕ) × (slice_get (map (λ r. r.name) (registers_of ns)) j ≡ Some name)
register_at [] i name w reset next h = absurd (let q : None ≡ Some (nodes.Register name w reset next) = h in cc)
register_at (nodes.Input n u ∷ ns) zero name w reset next h = absurd (let q : Some (nodes.Input n u) ≡ Some (nodes.Register name w reset next) = h in cc)
register_at (nodes.Register n u r t ∷ ns) zero name w reset next h = (0, let q : n ≡ name = cc in ap Some q)
register_at (nodes.Wire e ∷ ns) zero name w reset next h = absurd (let q : Some (nodes.Wire e) ≡ Some (nodes.Register name w reset next) = h in cc)
register_at (nodes.Input n u ∷ ns) (suc i) name w reset next h = register_at ns i name w reset next h
register_at (nodes.Register n u r t ∷ ns) (suc i) name w reset next h = let q = register_at ns i name w reset next h in (suc q.0, q.1)
register_at (nodes.Wire e ∷ ns) (suc i) name w reset next h = register_at ns i name w reset next h

-- registers of one name are one node
one_register : (ns : List NetNode) → IsDistinct bytes_eq (map (λ r. r.name) (registers_of ns)) → (i j : ℕ) (name : List ℕ) (w u : ℕ) (r s : NetReset) (p q : Option Id)
    → slice_get ns i ≡ Some (nodes.Register name w r p) → slice_get ns j ≡ Some (nodes.Register name u s q) → i ≡ j
unfolding IsDistinct
one_register [] d i j name w u r s p q g h = absurd (let e : None ≡ Some (nodes.Register name w r p) = g in cc)
one_register (nodes.Input n v ∷ ns) d zero j name w u r s p q g h = absurd (let e : Some (nodes.Input n v) ≡ Some (nodes.Register name w r p) = g in cc)
one_register (nodes.Input n v ∷ ns) d (suc i) zero name w u r s p q g h = absurd (let e : Some (nodes.Input n v) ≡ Some (nodes.Register name u s q) = h in cc)
one_register (nodes.Input n v ∷ ns) d (suc i) (suc j) name w u r s p q g h = ap suc (one_register ns d i j name w u r s p q g h)
one_register (nodes.Wire e ∷ ns) d zero j name w u r s p q g h = absurd (let f : Some (nodes.Wire e) ≡ Some (nodes.Register name w r p) = g in cc)
one_register (nodes.Wire e ∷ ns) d (suc i) zero name w u r s p q g h = absurd (let f : Some (nodes.Wire e) ≡ Some (nodes.Register name u s q) = h in cc)
one_register (nodes.Wire e ∷ ns) d (suc i) (suc j) name w u r s p q g h = ap suc (one_register ns d i j name w u r s p q g h)
one_register (nodes.Register n v t k ∷ ns) d zero zero name w u r s p q g h = refl
one_register (nodes.Register n v t k ∷ ns) d zero (suc j) name w u r s p q g h =
    let e : n ≡ name = cc in let a = register_at ns j name u s q h in
    absurd (later_differs n (map (λ x. x.name) (registers_of ns)) a.0 d.0 (a.1 ∙ ap Some (sym e)))
one_register (nodes.Register n v t k ∷ ns) d (suc i) zero name w u r s p q g h =
    let e : n ≡ name = cc in let a = register_at ns i name w r p g in
    absurd (later_differs n (map (λ x. x.name) (registers_of ns)) a.0 d.0 (a.1 ∙ ap Some (sym e)))
one_register (nodes.Register n v t k ∷ ns) d (suc i) (suc j) name w u r s p q g h = ap suc (one_register ns d.1 i j name w u r s p q g h)

all_at : (P : List ℕ → Type 0) (xs : List (List ℕ)) (i : ℕ) (x : List ℕ) → AllByRecursion P xs → slice_get xs i ≡ Some x → P x
all_at P [] i x a h = absurd (let q : None ≡ Some x = h in cc)
all_at P (y ∷ xs) zero x a h = let q : y ≡ x = cc in subst P q a.0
all_at P (y ∷ xs) (suc i) x a h = all_at P xs i x a.1 h

taken_of : Option Seat → Option Occupant
taken_of None = None
taken_of (Some s) = s.taken

some_taken : (s t : Seat) → Some s ≡ Some t → s.taken ≡ t.taken
unfolding taken_of
some_taken s t e = ap taken_of e

input_id : (a b : Id) → Some (Input a) ≡ Some (Input b) → a.0 ≡ b.0
input_id a b e = let q : a ≡ b = cc in ap (λ x. x.0) q

input_output : (a b : Id) → Some (Input a) ≡ Some (Output b) → ⊥
input_output a b e = cc

module _ (net : Net) (made : IsMade net) where
  pub inputs_differ : (a b : Id) (m n : List ℕ) (w u : ℕ) → IsInput net a m w → IsInput net b n u → (a.0 ≡ b.0 → ⊥) → Differ m n
  inputs_differ a b m n w u p q ne = differ_from m n (λ e.
      let r = made.seated a m w p in
      let s = made.seated b n u q in
      let i : r.0 ≡ s.0 = one_place (seat_names net.seats) made.names.seats_differ r.0 s.0 m (name_at net.seats r.0 _ r.1) (name_at net.seats s.0 _ s.1 ∙ ap Some (sym e)) in
      ne (input_id a b (some_taken (seat_of m w (Input a)) (seat_of n u (Input b)) (sym r.1 ∙ ap (slice_get net.seats) i ∙ s.1))))

  pub input_output_differ : (a : Id) (m : List ℕ) (w : ℕ) (i : ℕ) (n : List ℕ) (u : ℕ) (from : Id) → IsInput net a m w → slice_get net.seats i ≡ Some (seat_of n u (Output from)) → Differ m n
  input_output_differ a m w i n u from p q = differ_from m n (λ e.
      let r = made.seated a m w p in
      let j : r.0 ≡ i = one_place (seat_names net.seats) made.names.seats_differ r.0 i m (name_at net.seats r.0 _ r.1) (name_at net.seats i _ q ∙ ap Some (sym e)) in
      input_output a from (some_taken (seat_of m w (Input a)) (seat_of n u (Output from)) (sym r.1 ∙ ap (slice_get net.seats) j ∙ q)))

  pub outputs_differ : (i j : ℕ) (m n : List ℕ) (w u : ℕ) (a b : Id) → slice_get net.seats i ≡ Some (seat_of m w (Output a)) → slice_get net.seats j ≡ Some (seat_of n u (Output b))
      → (i ≡ j → ⊥) → Differ m n
  outputs_differ i j m n w u a b p q ne = differ_from m n (λ e. ne (one_place (seat_names net.seats) made.names.seats_differ i j m (name_at net.seats i _ p) (name_at net.seats j _ q ∙ ap Some (sym e))))

  pub register_seat_differ : (i : ℕ) (m : List ℕ) (w : ℕ) (r : NetReset) (next : Option Id) (j : ℕ) (s : Seat) → slice_get net.nodes i ≡ Some (nodes.Register m w r next) → slice_get net.seats j ≡ Some s → Differ m s.name
  register_seat_differ i m w r next j s p q =
      let k = register_at net.nodes i m w r next p in
      lacks_at (seat_names net.seats) j s.name m (name_at net.seats j s q) (all_at (Lacks (seat_names net.seats)) (register_names net) k.0 m made.names.apart k.1)

  pub registers_differ : (i j : ℕ) (m n : List ℕ) (w u : ℕ) (r s : NetReset) (p q : Option Id) → slice_get net.nodes i ≡ Some (nodes.Register m w r p) → slice_get net.nodes j ≡ Some (nodes.Register n u s q)
      → (i ≡ j → ⊥) → Differ m n
  registers_differ i j m n w u r s p q g h ne = differ_from m n (λ e. ne (one_register net.nodes made.names.registers_differ i j m w u r s p q g (subst (λ x. slice_get net.nodes j ≡ Some (nodes.Register x u s q)) (sym e) h)))
