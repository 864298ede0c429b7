-- A block behind an APB slave port: its registers, what they contain, and that they are within their widths.
use Rattle.std.proofs.Common.{◌≡◌, ℕ, zero, suc, ◌+◌, ◌<◌, ◌^◌, Option, Some, List, [], ◌∷◌, length, map, slice_get, get_or, refl, sym, ap, subst, arith}
use Rattle.std.specs.Prelude.{Contains}
use Rattle.std.specs.List.{AllByRecursion}
use Rattle.std.proofs.lemmas.List.{get_or_default}
use Rattle.std.proofs.lemmas.Simd.{map-map}
use Rattle.rb_base.specs.declared.ports.Pin.{Pin}
use Rattle.v_design.specs.Expr.{Values}
use Rattle.rb_model.specs.declared.block.Block.{Block}
use Rattle.rb_model.specs.Front.{Contain, IsWithin, Register, register_pins}
use Rattle.rb_model.specs.Kept.{Fits, Kept, Map, kept, kept_pins, register_name, register_width}
use Rattle.rb_model.specs.Run.{apb}

abbrev register : Block → Kept → Register Map
register b k = record { name = register_name b k; width = register_width b k; value = λ m. m k }

pub apb_pins : (b : Block) → register_pins (apb b) ≡ kept_pins b
apb_pins b = map-map (λ (r : Register Map). let p : Pin = record { name = r.name; width = r.width } in p) (register b) (kept b)

-- Of each register of a list

each_mapped : {X Y : Type 0} (f : X → Y) (P : Y → Type 0) (xs : List X) → ((x : X) → Contains xs x → P (f x)) → AllByRecursion P (map f xs)
each_mapped f P [] h = tt
each_mapped f P (x ∷ xs) h = (h x (0, omega arith, refl), each_mapped f P xs (λ y c. h y (suc c.0, omega (arith, c.1), c.2)))

mapped_each : {X Y : Type 0} (f : X → Y) (P : Y → Type 0) (xs : List X) → AllByRecursion P (map f xs) → (x : X) → Contains xs x → P (f x)
mapped_each f P [] h x c = absurd (omega (arith, c.1))
mapped_each f P (y ∷ ys) h x (zero, low, e) = subst (λ z. P (f z)) e h.0
mapped_each f P (y ∷ ys) h x (suc k, low, e) = mapped_each f P ys h.1 x (k, omega (arith, low), e)

pub within : (b : Block) (m : Map) → Fits b m → IsWithin (apb b) m
within b m fits = each_mapped (register b) (λ (r : Register Map). r.value m < 2 ^ r.width) (kept b) (λ k c. subst (λ j. m j < 2 ^ register_width b j) c.2 (fits c.0 k c.1))

pub fits : (b : Block) (m : Map) → IsWithin (apb b) m → Fits b m
fits b m h i d low = mapped_each (register b) (λ (r : Register Map). r.value m < 2 ^ r.width) (kept b) h (get_or (kept b) i d) (i, low, get_or_default (kept b) i (get_or (kept b) i d) d low)

pub contain : (b : Block) (m : Map) (contents : Values) → ((k : Kept) → Contains (kept b) k → contents (register_name b k) ≡ m k) → Contain (apb b) m contents
contain b m contents h = each_mapped (register b) (λ (r : Register Map). contents r.name ≡ r.value m) (kept b) h

pub contained : (b : Block) (m : Map) (contents : Values) → Contain (apb b) m contents → (k : Kept) → Contains (kept b) k → contents (register_name b k) ≡ m k
contained b m contents h = mapped_each (register b) (λ (r : Register Map). contents r.name ≡ r.value m) (kept b) h
