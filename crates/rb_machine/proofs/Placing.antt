-- The numbers of pins by their places in a vector.
use Rattle.std.specs.Str.{bytes_eq}
use Rattle.std.proofs.Common.{◌≡◌, ℕ, suc, ◌<◌, if◌then◌else◌, false, Option, Some, None, List, [], ◌∷◌, codes, length, get_or, slice_get, refl, sym, ap, ◌∙◌, arith, inl, inr}
use Rattle.rb_base.specs.declared.ports.Pin.{Pin}
use Rattle.rb_model.specs.declared.block.Block.{Block}
use Rattle.rb_model.specs.Ports.{by_name, input_pins, signal_name}
use Rattle.rb_model.specs.Run.{pins_of}
use Rattle.rb_model.specs.Sound.{IsSound}
use Rattle.rb_model.proofs.Apart.{bytes_eq-not}
use Rattle.rb_model.proofs.InputPins.{pin_by_place}
use Rattle.rb_model.proofs.OwnViews.{none_within}
use Rattle.std.specs.Option.{option_map_or}
use Rattle.std.proofs.lemmas.List.{get_or_past}
use Rattle.std.proofs.lemmas.Option.{same_Some}
use Rattle.rb_model.specs.declared.block.Signal.{Signal}
use Rattle.rb_model.specs.Protocol.{Bus, bus_of}
use Rattle.block_plan.specs.declared.plan.BusPlaces.{BusPlaces}
use Rattle.block_plan.specs.Plan.{AreBusPlaces, IsPlaceOf}
use Rattle.plain_lemmas.proofs.Numbers.{below_or_from as below_or_past}

-- a pin that there isn't
absent : (ps : List Pin) (xs name : List ℕ) → ((k : ℕ) (p : Pin) → slice_get ps k ≡ Some p → p.name ≡ name → ⊥) → by_name ps xs name ≡ 0
absent [] xs name h = refl
absent (p ∷ ps) [] name h = refl
absent (p ∷ ps) (x ∷ xs) name h =
    let f : bytes_eq p.name name ≡ false = bytes_eq-not p.name name (h 0 p refl) in
    ap (λ c. if c then x else by_name ps xs name) f ∙ absent ps xs name (λ k q here. h (suc k) q here)

-- the number of the pin of a name is that at its place, and 0 where there is no such pin
pub place_at : (b : Block) → IsSound b → (name : List ℕ) (place : ℕ) → IsPlaceOf b name place → (x : List ℕ) → length x ≡ length (input_pins b) → pins_of b x name ≡ get_or x place 0
place_at b sound name place h x long = by (slice_get (input_pins b) place) refl
  where
    by : (o : Option Pin) → slice_get (input_pins b) place ≡ o → pins_of b x name ≡ get_or x place 0
    by (Some p) here = ap (pins_of b x) (sym (h.found p here)) ∙ pin_by_place b sound place p x here
    by None here = elim (below_or_past place (length (input_pins b))) [
      | inl low ↦ absurd (none_within (input_pins b) place low here)
      | inr past ↦ absent (input_pins b) x name (λ k p at same. let q : None ≡ Some p = sym here ∙ (ap (slice_get (input_pins b)) (h.every k p at same) ∙ at) in cc) ∙ sym (get_or_past x place 0 (omega (arith, past, long)))
    ]

abbrev pub bus : (r a s e w d : ℕ) → Bus
bus r a s e w d = record { resetn = r; address = a; select = s; enable = e; write = w; data_in = d }

-- the bus by its places
module _ (b : Block) (sound : IsSound b) (p : BusPlaces) (h : AreBusPlaces b p) (x : List ℕ) (long : length x ≡ length (input_pins b)) where
  pub bus_is : (r a s e w d : ℕ) → r ≡ get_or x p.resetn 0 → a ≡ get_or x p.address 0 → s ≡ get_or x p.select 0 → e ≡ get_or x p.enable 0 → w ≡ get_or x p.write 0 → d ≡ get_or x p.data_in 0
      → bus r a s e w d ≡ bus_of (pins_of b x)
  bus_is r a s e w d fr fa fs fe fw fd =
      ap (λ y. bus y a s e w d) (at (codes "PRESETn") p.resetn h.resetn r fr) ∙ ap (λ y. bus (pins_of b x (codes "PRESETn")) y s e w d) (at (codes "PADDR") p.address h.address a fa)
      ∙ ap (λ y. bus (pins_of b x (codes "PRESETn")) (pins_of b x (codes "PADDR")) y e w d) (at (codes "PSEL") p.select h.select s fs)
      ∙ ap (λ y. bus (pins_of b x (codes "PRESETn")) (pins_of b x (codes "PADDR")) (pins_of b x (codes "PSEL")) y w d) (at (codes "PENABLE") p.enable h.enable e fe)
      ∙ ap (λ y. bus (pins_of b x (codes "PRESETn")) (pins_of b x (codes "PADDR")) (pins_of b x (codes "PSEL")) (pins_of b x (codes "PENABLE")) y d) (at (codes "PWRITE") p.write h.write w fw)
      ∙ ap (λ y. bus (pins_of b x (codes "PRESETn")) (pins_of b x (codes "PADDR")) (pins_of b x (codes "PSEL")) (pins_of b x (codes "PENABLE")) (pins_of b x (codes "PWRITE")) y) (at (codes "PWDATA") p.data_in h.data_in d fd)
    where
      at : (name : List ℕ) (place : ℕ) → IsPlaceOf b name place → (y : ℕ) → y ≡ get_or x place 0 → y ≡ pins_of b x name
      at name place is y f = f ∙ sym (place_at b sound name place is x long)

-- the pin of a signal
pub signal_is : (b : Block) → IsSound b → (places : List ℕ) → ((k : ℕ) (s : Signal) → slice_get b.signals k ≡ Some s → (place : ℕ) × (slice_get places k ≡ Some place) × IsPlaceOf b (signal_name s) place)
    → (k place : ℕ) → slice_get places k ≡ Some place → k < length b.signals → (x : List ℕ) → length x ≡ length (input_pins b) → get_or x place 0 ≡ option_map_or (λ g. pins_of b x (signal_name g)) (slice_get b.signals k) 0
signal_is b sound places h k place there low x long = by (slice_get b.signals k) refl
  where
    by : (o : Option Signal) → slice_get b.signals k ≡ o → get_or x place 0 ≡ option_map_or (λ g. pins_of b x (signal_name g)) o 0
    by None e = absurd (none_within b.signals k low e)
    by (Some s) e =
        let (q, at, is) = h k s e in
        ap (λ m. get_or x m 0) (same_Some place q (sym there ∙ at)) ∙ sym (place_at b sound (signal_name s) q is x long)
