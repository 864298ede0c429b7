-- Pins of seats and registers, and lists of their values.
use Rattle.std.specs.List.{slice_get, AllByRecursion}
use Rattle.std.proofs.Common.{zero, suc, ℕ, ◌≡◌, Bool, true, false, if◌then◌else◌, List, [], ◌∷◌, map, filter, Option, Some, None, refl, ap, sym, ◌∙◌, subst}
use Rattle.rb_base.specs.declared.ports.Pin.{Pin}
use Rattle.rtl_net.specs.Value.{Values}
use Rattle.rtl_net.specs.Net.{registers_of}
use Rattle.rtl_net.specs.Run.{seat_pin, values_at, SameAt}
use Rattle.rtl_net.specs.Fits.{FitsPins, ValuesFit}
use Rattle.rtl_net.specs.declared.node.Id.{Id}
use Rattle.rtl_net.specs.declared.node.NetNode.{NetNode}
use Rattle.rtl_net.specs.declared.node.NetNode.TheVariants.{Input, Register, Wire}
use Rattle.rtl_net.specs.declared.node.NetReset.{NetReset}
use Rattle.rtl_net.specs.declared.node.Seat.{Seat}

-- what holds of each

-- what holds of the pins of the seats that are kept
module _ (P : Pin → Type 0) (keep : Seat → Bool) where
  pub seat_at_pin : (ss : List Seat) (i : ℕ) (s : Seat) → AllByRecursion P (map seat_pin (filter keep ss)) → slice_get ss i ≡ Some s → keep s ≡ true → P (seat_pin s)
  seat_at_pin [] i s h g k = absurd (let q : None ≡ Some s = g in cc)
  seat_at_pin (r ∷ ss) i s h g k = go (λ h i g. seat_at_pin ss i s h g k) (keep r) refl h i g
    where
      go : (AllByRecursion P (map seat_pin (filter keep ss)) → (i : ℕ) → slice_get ss i ≡ Some s → P (seat_pin s))
          → (b : Bool) → keep r ≡ b → AllByRecursion P (map seat_pin (if b then r ∷ filter keep ss else filter keep ss)) → (i : ℕ) → slice_get (r ∷ ss) i ≡ Some s → P (seat_pin s)
      go there true e h zero g = let q : r ≡ s = cc in subst (λ x. P (seat_pin x)) q h.0
      go there false e h zero g = absurd (let q : r ≡ s = cc in let z : false ≡ true = sym e ∙ ap keep q ∙ k in cc)
      go there true e h (suc i) g = there h.1 i g
      go there false e h (suc i) g = there h i g

  pub each_seat_pin : (ss : List Seat) → ((i : ℕ) (s : Seat) → slice_get ss i ≡ Some s → keep s ≡ true → P (seat_pin s)) → AllByRecursion P (map seat_pin (filter keep ss))
  each_seat_pin [] f = tt
  each_seat_pin (r ∷ ss) f = go (keep r) refl (each_seat_pin ss (λ i s g k. f (suc i) s g k))
    where
      go : (b : Bool) → keep r ≡ b → AllByRecursion P (map seat_pin (filter keep ss)) → AllByRecursion P (map seat_pin (if b then r ∷ filter keep ss else filter keep ss))
      go true e h = (f 0 r refl e, h)
      go false e h = h

-- what holds of the registers
module _ (P : Pin → Type 0) where
  pub register_at_pin : (ns : List NetNode) (i : ℕ) (name : List ℕ) (w : ℕ) (reset : NetReset) (next : Option Id) → AllByRecursion P (registers_of ns) → slice_get ns i ≡ Some (Register name w reset next)
      → P (record { name = name; width = w })
  register_at_pin [] i name w reset next h g = absurd (let q : None ≡ Some (Register name w reset next) = g in cc)
  register_at_pin (Input n u ∷ ns) zero name w reset next h g = absurd (let q : Some (Input n u) ≡ Some (Register name w reset next) = g in cc)
  register_at_pin (Wire e ∷ ns) zero name w reset next h g = absurd (let q : Some (Wire e) ≡ Some (Register name w reset next) = g in cc)
  register_at_pin (Register n u r t ∷ ns) zero name w reset next h g =
      let p : n ≡ name = cc in
      let q : u ≡ w = cc in
      subst (λ x. P (record { name = name; width = x })) q (subst (λ x. P (record { name = x; width = u })) p h.0)
  register_at_pin (Input n u ∷ ns) (suc i) name w reset next h g = register_at_pin ns i name w reset next h g
  register_at_pin (Wire e ∷ ns) (suc i) name w reset next h g = register_at_pin ns i name w reset next h g
  register_at_pin (Register n u r t ∷ ns) (suc i) name w reset next h g = register_at_pin ns i name w reset next h.1 g

  pub each_register_pin : (ns : List NetNode)
      → ((i : ℕ) (name : List ℕ) (w : ℕ) (reset : NetReset) (next : Option Id) → slice_get ns i ≡ Some (Register name w reset next) → P (record { name = name; width = w }))
      → AllByRecursion P (registers_of ns)
  each_register_pin [] f = tt
  each_register_pin (Input n u ∷ ns) f = each_register_pin ns (λ i name w reset next g. f (suc i) name w reset next g)
  each_register_pin (Wire e ∷ ns) f = each_register_pin ns (λ i name w reset next g. f (suc i) name w reset next g)
  each_register_pin (Register n u r t ∷ ns) f = (f 0 n u r t refl, each_register_pin ns (λ i name w reset next g. f (suc i) name w reset next g))

head-eq : {x y : ℕ} {xs ys : List ℕ} → x ∷ xs ≡ y ∷ ys → x ≡ y
head-eq h = cc

tail-eq : {x y : ℕ} {xs ys : List ℕ} → x ∷ xs ≡ y ∷ ys → xs ≡ ys
tail-eq h = cc

-- pins with the same values
pub same_of_values : (v w : Values) (ps : List Pin) → values_at v ps ≡ values_at w ps → SameAt v w ps
same_of_values v w [] h = tt
same_of_values v w (p ∷ ps) h = (head-eq h, same_of_values v w ps (tail-eq h))

pub values_of_same : (v w : Values) (ps : List Pin) → SameAt v w ps → values_at v ps ≡ values_at w ps
values_of_same v w [] h = refl
values_of_same v w (p ∷ ps) h = ap (λ x. x ∷ values_at v ps) h.0 ∙ ap (λ xs. w p.name ∷ xs) (values_of_same v w ps h.1)

pub fit_of_pins : (v : Values) (ps : List Pin) → FitsPins ps (values_at v ps) → ValuesFit v ps
fit_of_pins v [] h = tt
fit_of_pins v (p ∷ ps) h = (h.0, fit_of_pins v ps h.1)

pub pins_of_fit : (v : Values) (ps : List Pin) → ValuesFit v ps → FitsPins ps (values_at v ps)
pins_of_fit v [] h = tt
pins_of_fit v (p ∷ ps) h = (h.0, pins_of_fit v ps h.1)
